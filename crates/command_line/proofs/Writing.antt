-- Words of which nothing is at fault write a job.
use Rattle.std.proofs.Common.{◌≡◌, ℕ, ◌≤◌, ◌-◌, ◌^◌, Bool, true, false, codes, List, Option, Some, None, map, refl, sym, ap, subst}
use Rattle.std.proofs.Common.{◌∙◌, arith, cond}
use Rattle.std.proofs.Common.{string_bytes, Result, Global}
use Rattle.std.specs.Prelude.{IsSome, OnOk, String, is_some, slice_get}
use Rattle.clap.specs.Words.{Row}
use Rattle.debug_model.specs.Wire.{piece_most}
use Rattle.chain_scan.specs.ChainPlan.{Plan}
use Rattle.rv_model.specs.declared.version.Version.{Version}
use Rattle.command_line.specs.declared.job.Way.{Way}
use Rattle.command_line.specs.Job.{InputsValue, JobValue, Text, gen}
use Rattle.command_line.specs.Why.{HasNumber}
use Rattle.command_line.specs.WrittenJob.{both_from, chain_in, chip_from, chip_in, elf_from, elf_in, flag_in, image_in}
use Rattle.command_line.specs.WrittenJob.{inputs_from, inputs_in, is_elf_alone, job_by, job_of, number_in, plain_by, plain_in, probe_elf_from, probe_elf_in}
use Rattle.command_line.specs.WrittenJob.{probe_plain_by, probe_plain_in, probe_script_in, stands_alone}
use Rattle.command_line.specs.Numbers.{◌>>=◌}
use Rattle.command_line.specs.WrittenJob.{number_or}
use Rattle.command_line.specs.Numbers.{number_of}
use Rattle.command_line.specs.WrittenJob.{options_from, options_in, probe_from, ranged_in, sniff_from, sniff_in, value_in, way_in}
use Rattle.command_line.specs.WrittenJob.{busy_unsaid, harts_unsaid, least_busy, least_events, least_piece, most_busy, most_events, piece_unsaid, ram_unsaid}
use Rattle.command_line.specs.WrittenJob.{seed_unsaid, events_unsaid}
use Rattle.command_line.specs.Numbers.{within}
use Rattle.command_line.specs.declared.job.ChipOptions.{ChipOptions}
use Rattle.command_line.specs.declared.why.Refused.{Refused}
use Rattle.command_line.proofs.JobLemmas.{job_of-first}
use Rattle.command_line.proofs.RangeLemmas.{within_range}

-- ---- one option

first_is : {A B : Type 0} (o : Option A) (f : A → Option B) → IsSome (o >>= f) → IsSome o
first_is (Some x) f is = refl
first_is None f is = cc

both_are : {A B : Type 0} (o : Option A) (x : A) (f : A → Option B) → o ≡ Some x → IsSome (f x) → IsSome (o >>= f)
both_are {A = A} o x f is rest = subst (λ (p : Option A). IsSome (p >>= f)) (sym is) rest

-- a number of any size
pub number_any : (rows : List Row) (option : Text) (unsaid : ℕ) → unsaid ≤ 2 ^ 64 - 1 → HasNumber rows option 0 (2 ^ 64 - 1)
    → IsSome (number_in rows option unsaid)
unfolding ranged_in
number_any rows option unsaid small has = first_is (number_in rows option unsaid) (within 0 (2 ^ 64 - 1)) (has unsaid (omega arith) small)

-- it is not given
pub number_unsaid : (rows : List Row) (option : Text) (least most : ℕ) → None ≡ value_in rows option → HasNumber rows option least most
unfolding ranged_in number_in
number_unsaid rows option least most none unsaid low high =
    both_are (number_in rows option unsaid) unsaid (within least most)
    (ap (λ (o : Option Text). elim o [ None ↦ Some unsaid | Some word ↦ number_of word ]) (sym none))
    (ap (λ (o : Option ℕ). elim o [ None ↦ false | Some n ↦ true ]) (within_range least most unsaid low high))

-- it is given, within the bounds
pub number_within : (rows : List Row) (option word : Text) (least most number : ℕ) → Some word ≡ value_in rows option → number_of word ≡ Some number
    → least ≤ number → number ≤ most → HasNumber rows option least most
unfolding ranged_in number_in
number_within rows option word least most number given is low high unsaid a b =
    both_are (number_in rows option unsaid) number (within least most)
    (ap (λ (o : Option Text). elim o [ None ↦ Some unsaid | Some word ↦ number_of word ]) (sym given) ∙ is)
    (ap (λ (o : Option ℕ). elim o [ None ↦ false | Some n ↦ true ]) (within_range least most number low high))

-- ---- the options of a command

options_from_is : (h r s b e : Option ℕ) (halted : Bool) (version : Version) → IsSome h → IsSome r → IsSome s → IsSome b → IsSome e
    → IsSome (options_from h r s b e halted version)
options_from_is None r s b e halted version a1 a2 a3 a4 a5 = cc
options_from_is (Some h) None s b e halted version a1 a2 a3 a4 a5 = cc
options_from_is (Some h) (Some r) None b e halted version a1 a2 a3 a4 a5 = cc
options_from_is (Some h) (Some r) (Some s) None e halted version a1 a2 a3 a4 a5 = cc
options_from_is (Some h) (Some r) (Some s) (Some b) None halted version a1 a2 a3 a4 a5 = cc
options_from_is (Some h) (Some r) (Some s) (Some b) (Some e) halted version a1 a2 a3 a4 a5 = refl

pub options_write : (rows : List Row) → HasNumber rows (codes "harts") 0 (2 ^ 64 - 1) → HasNumber rows (codes "ram") 0 (2 ^ 64 - 1)
    → HasNumber rows (codes "seed") 0 (2 ^ 64 - 1) → HasNumber rows (codes "busy") least_busy most_busy
    → HasNumber rows (codes "events") least_events most_events → IsSome (options_in rows)
unfolding options_in
options_write rows harts ram seed busy events = options_from_is _ _ _ _ _ _ _ (number_any rows _ harts_unsaid (omega arith) harts)
    (number_any rows _ ram_unsaid (omega arith) ram) (number_any rows _ seed_unsaid (omega arith) seed)
    (busy busy_unsaid (omega arith) (omega arith)) (events events_unsaid (omega arith) (omega arith))

files_are : (i s n : Option Text) → IsSome i → IsSome s → None ≡ n → IsSome (inputs_from i s n)
files_are None s n a b c = cc
files_are (Some i) None n a b c = cc
files_are (Some i) (Some s) None a b c = refl
files_are (Some i) (Some s) (Some n) a b c = cc

pub files_write : (rows : List Row) → None ≡ value_in rows (codes "gen") → IsSome (value_in rows (codes "image"))
    → IsSome (value_in rows (codes "script")) → IsSome (inputs_in rows)
unfolding inputs_in
files_write rows none image script = files_are _ _ _ image script none

alone_is : (o : Option ℕ) → IsSome o → IsSome (o >>= (λ n. Some (gen n)))
alone_is None is = cc
alone_is (Some n) is = refl

alone_are : (i s n : Option Text) → i ≡ None → s ≡ None → IsSome n → IsSome (number_or 0 n) → IsSome (inputs_from i s n)
alone_are (Some i) s n a b c d = cc
alone_are None (Some s) n a b c d = cc
alone_are None None None a b c d = cc
alone_are None None (Some word) a b c d = alone_is (number_of word) d

pub number_writes : (rows : List Row) → IsSome (value_in rows (codes "gen"))
    → (IsSome (value_in rows (codes "gen")) → value_in rows (codes "image") ≡ None)
    → (IsSome (value_in rows (codes "gen")) → value_in rows (codes "script") ≡ None) → HasNumber rows (codes "gen") 0 (2 ^ 64 - 1) → IsSome (inputs_in rows)
unfolding inputs_in number_in
number_writes rows given image script has = alone_are _ _ _ (image given) (script given) given (number_any rows (codes "gen") 0 (omega arith) has)

both_from_is : (i : Option InputsValue) (o : Option ChipOptions) (p : Option ℕ) (w : Option Way) → IsSome i → IsSome o → IsSome p → IsSome w
    → IsSome (both_from i o p w)
both_from_is None o p w a b c d = cc
both_from_is (Some i) None p w a b c d = cc
both_from_is (Some i) (Some o) None w a b c d = cc
both_from_is (Some i) (Some o) (Some p) None a b c d = cc
both_from_is (Some i) (Some o) (Some p) (Some w) a b c d = refl

pub image_writes : (rows : List Row) → IsSome (inputs_in rows) → IsSome (options_in rows) → HasNumber rows (codes "piece") least_piece piece_most
    → IsSome (way_in rows) → IsSome (image_in rows)
unfolding image_in
image_writes rows inputs options piece way = both_from_is _ _ _ _ inputs options (piece piece_unsaid (omega arith) (omega arith)) way

elf_from_is : (alone : Bool) (f s : Option Text) (o : Option ChipOptions) (p : Option ℕ) → alone ≡ true → IsSome f → IsSome s → IsSome o → IsSome p
    → IsSome (cond alone (elf_from f s o p) None)
elf_from_is false f s o p is a b c d = cc
elf_from_is true None s o p is a b c d = cc
elf_from_is true (Some f) None o p is a b c d = cc
elf_from_is true (Some f) (Some s) None p is a b c d = cc
elf_from_is true (Some f) (Some s) (Some o) None is a b c d = cc
elf_from_is true (Some f) (Some s) (Some o) (Some p) is a b c d = refl

pub alone_by : (image number chain : Option Text) (looped : Bool) → image ≡ None → number ≡ None → chain ≡ None → looped ≡ false
    → stands_alone image number chain looped ≡ true
alone_by image number chain looped a b c d = λ i. stands_alone (a i) (b i) (c i) (d i)

pub elf_writes : (rows : List Row) → IsSome (value_in rows (codes "elf"))
    → (IsSome (value_in rows (codes "elf")) → value_in rows (codes "image") ≡ None)
    → (IsSome (value_in rows (codes "elf")) → value_in rows (codes "gen") ≡ None)
    → (IsSome (value_in rows (codes "elf")) → value_in rows (codes "chain") ≡ None)
    → (IsSome (value_in rows (codes "elf")) → flag_in rows (codes "loopback") ≡ false) → IsSome (value_in rows (codes "script")) → IsSome (options_in rows)
    → HasNumber rows (codes "piece") least_piece piece_most → IsSome (elf_in rows)
unfolding elf_in is_elf_alone
elf_writes rows given image number chain straight script options piece =
    elf_from_is _ _ _ _ _ (alone_by _ _ _ _ (image given) (number given) (chain given) (straight given)) given script options
    (piece piece_unsaid (omega arith) (omega arith))

both_by_image : (file : Option Text) (rows : List Row) → None ≡ file → IsSome (image_in rows) → IsSome (plain_by file rows)
both_by_image None rows none writes = writes
both_by_image (Some file) rows none writes = cc

pub both_with_image : (rows : List Row) → None ≡ value_in rows (codes "elf") → IsSome (image_in rows) → IsSome (plain_in rows)
unfolding plain_in
both_with_image rows none writes = both_by_image (value_in rows (codes "elf")) rows none writes

both_by_elf : (file : Option Text) (rows : List Row) → IsSome file → IsSome (elf_in rows) → IsSome (plain_by file rows)
both_by_elf None rows given writes = cc
both_by_elf (Some file) rows given writes = writes

pub both_with_elf : (rows : List Row) → IsSome (value_in rows (codes "elf")) → IsSome (elf_in rows) → IsSome (plain_in rows)
unfolding plain_in
both_with_elf rows given writes = both_by_elf (value_in rows (codes "elf")) rows given writes

two_are : (f : Option Text → Option Text → Option JobValue) → ((x y : Text) → IsSome (f (Some x) (Some y))) → (a b : Option Text) → IsSome a → IsSome b
    → IsSome (f a b)
two_are f of None b is also = cc
two_are f of (Some x) None is also = cc
two_are f of (Some x) (Some y) is also = of x y

probe_from_is : (a s : Option Text) (c : Option (Option Plan)) → IsSome a → IsSome s → IsSome c → IsSome (probe_from a s c)
probe_from_is None s c x y z = cc
probe_from_is (Some a) None c x y z = cc
probe_from_is (Some a) (Some s) None x y z = cc
probe_from_is (Some a) (Some s) (Some c) x y z = refl

pub probe_writes : (rows : List Row) → IsSome (value_in rows (codes "at")) → IsSome (value_in rows (codes "script")) → IsSome (chain_in rows)
    → IsSome (probe_script_in rows)
unfolding probe_script_in
probe_writes rows at script chain = probe_from_is _ _ _ at script chain

probe_elf_from_is : (c a f s : Option Text) → c ≡ None → IsSome a → IsSome f → IsSome s → IsSome (cond (is_some c) None (probe_elf_from a f s))
probe_elf_from_is (Some c) a f s none x y z = cc
probe_elf_from_is None None f s none x y z = cc
probe_elf_from_is None (Some a) None s none x y z = cc
probe_elf_from_is None (Some a) (Some f) None none x y z = cc
probe_elf_from_is None (Some a) (Some f) (Some s) none x y z = refl

pub probe_elf_writes : (rows : List Row) → IsSome (value_in rows (codes "elf"))
    → (IsSome (value_in rows (codes "elf")) → value_in rows (codes "chain") ≡ None) → IsSome (value_in rows (codes "at"))
    → IsSome (value_in rows (codes "script")) → IsSome (probe_elf_in rows)
unfolding probe_elf_in
probe_elf_writes rows given chain at script = probe_elf_from_is _ _ _ _ (chain given) at given script

probe_by_script : (file : Option Text) (rows : List Row) → None ≡ file → IsSome (probe_script_in rows) → IsSome (probe_plain_by file rows)
probe_by_script None rows none writes = writes
probe_by_script (Some file) rows none writes = cc

pub probe_with_script : (rows : List Row) → None ≡ value_in rows (codes "elf") → IsSome (probe_script_in rows) → IsSome (probe_plain_in rows)
unfolding probe_plain_in
probe_with_script rows none writes = probe_by_script (value_in rows (codes "elf")) rows none writes

probe_by_elf : (file : Option Text) (rows : List Row) → IsSome file → IsSome (probe_elf_in rows) → IsSome (probe_plain_by file rows)
probe_by_elf None rows given writes = cc
probe_by_elf (Some file) rows given writes = writes

pub probe_with_elf : (rows : List Row) → IsSome (value_in rows (codes "elf")) → IsSome (probe_elf_in rows) → IsSome (probe_plain_in rows)
unfolding probe_plain_in
probe_with_elf rows given writes = probe_by_elf (value_in rows (codes "elf")) rows given writes

pub sniff_writes : (rows : List Row) → IsSome (value_in rows (codes "stream")) → IsSome (value_in rows (codes "answers")) → IsSome (sniff_in rows)
unfolding sniff_in
sniff_writes rows stream answers = two_are (λ s a. sniff_from s a (flag_in rows (codes "vcd"))) (λ _ _. refl) _ _ stream answers

chip_from_is : (a i : Option Text) (o : Option ChipOptions) (c : Option (Option Plan)) → IsSome a → IsSome i → IsSome o → IsSome c
    → IsSome (chip_from a i o c)
chip_from_is None i o c x y z w = cc
chip_from_is (Some a) None o c x y z w = cc
chip_from_is (Some a) (Some i) None c x y z w = cc
chip_from_is (Some a) (Some i) (Some o) None x y z w = cc
chip_from_is (Some a) (Some i) (Some o) (Some c) x y z w = refl

pub chip_writes : (rows : List Row) → IsSome (value_in rows (codes "at")) → IsSome (value_in rows (codes "image")) → IsSome (options_in rows)
    → IsSome (chain_in rows) → IsSome (chip_in rows)
unfolding chip_in
chip_writes rows at image options chain = chip_from_is _ _ _ _ at image options chain

-- ---- the words

pub writes_by : (found : Option (List Row)) (rows : List Row) (job : List Row → Option JobValue) → found ≡ Some rows → IsSome (job rows)
    → IsSome (found >>= job)
writes_by found rows job is writes = both_are found rows job is writes

-- two readings of the words
pub writes_at : {T : Type 0} (said other : Option JobValue) (r : Result T Refused) → said ≡ other → OnOk r (IsSome other) → OnOk r (IsSome said)
writes_at said other r is writes = subst (λ (o : Option JobValue). OnOk r (IsSome o)) (sym is) writes

pub writes_first : {T : Type 0} (words : List (String Global)) (job : String Global) (r : Result T Refused) → Some job ≡ slice_get words 0
    → OnOk r (IsSome (job_by (string_bytes job) (map string_bytes words))) → OnOk r (IsSome (job_of (map string_bytes words)))
writes_first words job r first writes = subst (λ (o : Option JobValue). OnOk r (IsSome o)) (job_of-first words job first) writes
