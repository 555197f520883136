-- The numbers of a job are within their ranges, whatever the words are.
use Rattle.std.proofs.Common.{◌≡◌, ℕ, ◌&&◌, Bool, true, false, cond, nat_le, List, [], ◌∷◌, Option, Some, None, bytes_eq, codes, refl, ap, subst, arith}
use Rattle.std.proofs.Common.{Result, Ok, Err, IfOk, is_some}
use Rattle.std.proofs.lemmas.Bool.Decides.{nat_tests}
use Rattle.std.proofs.lemmas.Option.{none-some, same_Some}
use Rattle.clap.specs.Words.{Row}
use Rattle.rv_model.specs.declared.version.Version.{Version}
use Rattle.debug_model.specs.Wire.{piece_most}
use Rattle.command_line.specs.declared.job.ChipOptions.{ChipOptions}
use Rattle.command_line.specs.declared.job.Job.{Job}
use Rattle.command_line.specs.declared.fault.WordsFault.{WordsFault}
use Rattle.chain_scan.specs.ChainPlan.{Plan}
use Rattle.command_line.specs.declared.job.Way.{Way}
use Rattle.command_line.specs.Job.{Gives, InputsValue, JobValue, Text, job_value}
use Rattle.command_line.specs.Options.{both_command, chip_command, probe_command, sniff_command}
use Rattle.command_line.specs.WrittenJob.{HasRanges, InRange, OptionsInRange, both_by, both_from, both_in, both_of, chip_from, chip_in, chip_of}
use Rattle.command_line.specs.WrittenJob.{elf_from, elf_in, image_in, is_elf_alone, is_probe_soft_alone, is_soft_alone, job_by, job_of, plain_by, plain_in}
use Rattle.command_line.specs.WrittenJob.{probe_by, probe_elf_from, probe_elf_in, probe_plain_by, probe_plain_in, probe_script_in, probe_soft_from}
use Rattle.command_line.specs.WrittenJob.{probe_soft_in, soft_from, soft_in}
use Rattle.command_line.specs.Numbers.{◌>>=◌}
use Rattle.command_line.specs.WrittenJob.{busy_unsaid, events_unsaid, harts_unsaid, piece_unsaid, ram_unsaid, seed_unsaid}
use Rattle.command_line.specs.WrittenJob.{least_busy, least_events, least_piece, most_busy, most_events}
use Rattle.command_line.specs.WrittenJob.{chain_in, flag_in, inputs_in, number_in, options_from, options_in, probe_from, probe_in, probe_of, ranged_in, rows_in}
use Rattle.command_line.specs.WrittenJob.{sniff_from, sniff_in, sniff_of, value_in, version_by, way_in}
use Rattle.command_line.specs.Numbers.{within}

none : {A : Type 0} {B : Type 0} (x : A) → None ≡ Some x → B
none x e = absurd (none-some x e)

within_at : (least most m n : ℕ) (a b : Bool) → nat_le least m ≡ a → nat_le m most ≡ b → cond (a && b) (Some m) None ≡ Some n → InRange least most n
within_at least most m n true true low high e =
    subst (InRange least most) (same_Some m n e) (record { low = grind (arith, nat_tests); high = grind (arith, nat_tests) })
within_at least most m n true false low high e = none n e
within_at least most m n false b low high e = none n e

ranged_by : (least most n : ℕ) (said : Option ℕ) → (said >>= within least most) ≡ Some n → InRange least most n
ranged_by least most n None e = none n e
ranged_by least most n (Some m) e = within_at least most m n (nat_le least m) (nat_le m most) refl refl e

ranged_is : (rows : List Row) (name : Text) (unsaid least most n : ℕ) → ranged_in rows name unsaid least most ≡ Some n → InRange least most n
unfolding ranged_in
ranged_is rows name unsaid least most n e = ranged_by least most n (number_in rows name unsaid) e

record Said (busy events : Option ℕ) (options : ChipOptions) : Type 0 where
  busy_is : busy ≡ Some options.busy
  events_is : events ≡ Some options.events

said_are : (harts ram seed busy events : Option ℕ) (halted : Bool) (version : Version) (options : ChipOptions)
    → options_from harts ram seed busy events halted version ≡ Some options
    → Said busy events options
said_are (Some h) (Some r) (Some s) (Some b) (Some n) halted version options e =
    record {
      busy_is = ap (λ (o : ChipOptions). Some o.busy) (same_Some _ options e);
      events_is =
          ap (λ (o : ChipOptions). Some o.events) (same_Some _ options e);
    }
said_are (Some h) (Some r) (Some s) (Some b) None halted version options e = none options e
said_are (Some h) (Some r) (Some s) None events halted version options e = none options e
said_are (Some h) (Some r) None busy events halted version options e = none options e
said_are (Some h) None seed busy events halted version options e = none options e
said_are None ram seed busy events halted version options e = none options e

options_range : (rows : List Row) (options : ChipOptions) → options_in rows ≡ Some options → OptionsInRange options
unfolding options_in
options_range rows options e =
    let said = said_are (number_in rows (codes "harts") harts_unsaid) (number_in rows (codes "ram") ram_unsaid) (number_in rows (codes "seed") seed_unsaid)
    (ranged_in rows (codes "busy") busy_unsaid least_busy most_busy) (ranged_in rows (codes "events") events_unsaid least_events most_events)
    (flag_in rows (codes "halted")) (version_by (flag_in rows (codes "v013"))) options e in
    record {
      busy = ranged_is rows (codes "busy") busy_unsaid least_busy most_busy options.busy said.busy_is;
      events = ranged_is rows (codes "events") events_unsaid least_events most_events options.events said.events_is;
    }

both_ranges_by : (inputs : Option InputsValue) (options : Option ChipOptions) (piece : Option ℕ) (way : Option Way) (v : JobValue)
    → ((o : ChipOptions) → options ≡ Some o → OptionsInRange o) → ((n : ℕ) → piece ≡ Some n → InRange least_piece piece_most n)
    → both_from inputs options piece way ≡ Some v → HasRanges v
both_ranges_by (Some i) (Some o) (Some n) (Some w) v ranges small e = subst HasRanges (same_Some _ v e) (small n refl, ranges o refl)
both_ranges_by (Some i) (Some o) (Some n) None v ranges small e = none v e
both_ranges_by (Some i) (Some o) None way v ranges small e = none v e
both_ranges_by (Some i) None piece way v ranges small e = none v e
both_ranges_by None options piece way v ranges small e = none v e

image_ranges : (rows : List Row) (v : JobValue) → image_in rows ≡ Some v → HasRanges v
unfolding image_in
image_ranges rows v e = both_ranges_by (inputs_in rows) (options_in rows) (ranged_in rows (codes "piece") piece_unsaid least_piece piece_most)
    (way_in rows) v
    (λ o is. options_range rows o is) (λ n is. ranged_is rows (codes "piece") piece_unsaid least_piece piece_most n is) e

elf_ranges_by : (file script : Option Text) (options : Option ChipOptions) (piece : Option ℕ) (v : JobValue)
    → ((o : ChipOptions) → options ≡ Some o → OptionsInRange o) → ((n : ℕ) → piece ≡ Some n → InRange least_piece piece_most n)
    → elf_from file script options piece ≡ Some v → HasRanges v
elf_ranges_by (Some f) (Some s) (Some o) (Some n) v ranges small e = subst HasRanges (same_Some _ v e) (small n refl, ranges o refl)
elf_ranges_by (Some f) (Some s) (Some o) None v ranges small e = none v e
elf_ranges_by (Some f) (Some s) None piece v ranges small e = none v e
elf_ranges_by (Some f) None options piece v ranges small e = none v e
elf_ranges_by None script options piece v ranges small e = none v e

alone_ranges : (alone : Bool) (said : Option JobValue) (v : JobValue) → (said ≡ Some v → HasRanges v) → cond alone said None ≡ Some v → HasRanges v
alone_ranges true said v ranges e = ranges e
alone_ranges false said v ranges e = none v e

elf_ranges : (rows : List Row) (v : JobValue) → elf_in rows ≡ Some v → HasRanges v
unfolding elf_in
elf_ranges rows v e = alone_ranges (is_elf_alone rows) _ v
    (λ is. elf_ranges_by (value_in rows (codes "elf")) (value_in rows (codes "script")) (options_in rows)
    (ranged_in rows (codes "piece") piece_unsaid least_piece piece_most) v (λ o is. options_range rows o is)
    (λ n is. ranged_is rows (codes "piece") piece_unsaid least_piece piece_most n is) is) e

plain_by_ranges : (file : Option Text) (rows : List Row) (v : JobValue) → plain_by file rows ≡ Some v → HasRanges v
plain_by_ranges None rows v e = image_ranges rows v e
plain_by_ranges (Some file) rows v e = elf_ranges rows v e

plain_ranges : (rows : List Row) (v : JobValue) → plain_in rows ≡ Some v → HasRanges v
unfolding plain_in
plain_ranges rows v e = plain_by_ranges (value_in rows (codes "elf")) rows v e

soft_ranges_by : (image script : Option Text) (options : Option ChipOptions) (piece : Option ℕ) (v : JobValue)
    → ((o : ChipOptions) → options ≡ Some o → OptionsInRange o) → ((n : ℕ) → piece ≡ Some n → InRange least_piece piece_most n)
    → soft_from image script options piece ≡ Some v → HasRanges v
soft_ranges_by (Some i) (Some s) (Some o) (Some n) v ranges small e = subst HasRanges (same_Some _ v e) (small n refl, ranges o refl)
soft_ranges_by (Some i) (Some s) (Some o) None v ranges small e = none v e
soft_ranges_by (Some i) (Some s) None piece v ranges small e = none v e
soft_ranges_by (Some i) None options piece v ranges small e = none v e
soft_ranges_by None script options piece v ranges small e = none v e

soft_ranges : (rows : List Row) (v : JobValue) → soft_in rows ≡ Some v → HasRanges v
unfolding soft_in
soft_ranges rows v e = alone_ranges (is_soft_alone rows) _ v
    (λ is. soft_ranges_by (value_in rows (codes "image")) (value_in rows (codes "script")) (options_in rows)
    (ranged_in rows (codes "piece") piece_unsaid least_piece piece_most) v (λ o is. options_range rows o is)
    (λ n is. ranged_is rows (codes "piece") piece_unsaid least_piece piece_most n is) is) e

both_by_ranges : (soft : Bool) (rows : List Row) (v : JobValue) → both_by soft rows ≡ Some v → HasRanges v
both_by_ranges false rows v e = plain_ranges rows v e
both_by_ranges true rows v e = soft_ranges rows v e

both_ranges : (rows : List Row) (v : JobValue) → both_in rows ≡ Some v → HasRanges v
unfolding both_in
both_ranges rows v e = both_by_ranges (flag_in rows (codes "soft")) rows v e

probe_ranges_by : (at script : Option Text) (chain : Option (Option Plan)) (v : JobValue) → probe_from at script chain ≡ Some v → HasRanges v
probe_ranges_by (Some a) (Some s) (Some c) v e = subst HasRanges (same_Some _ v e) tt
probe_ranges_by (Some a) (Some s) None v e = none v e
probe_ranges_by (Some a) None chain v e = none v e
probe_ranges_by None script chain v e = none v e

probe_script_ranges : (rows : List Row) (v : JobValue) → probe_script_in rows ≡ Some v → HasRanges v
unfolding probe_script_in
probe_script_ranges rows v e = probe_ranges_by (value_in rows (codes "at")) (value_in rows (codes "script")) (chain_in rows) v e

probe_elf_ranges_by : (chained : Bool) (at file script : Option Text) (v : JobValue) → cond chained None (probe_elf_from at file script) ≡ Some v → HasRanges v
probe_elf_ranges_by true at file script v e = none v e
probe_elf_ranges_by false (Some a) (Some f) (Some s) v e = subst HasRanges (same_Some _ v e) tt
probe_elf_ranges_by false (Some a) (Some f) None v e = none v e
probe_elf_ranges_by false (Some a) None script v e = none v e
probe_elf_ranges_by false None file script v e = none v e

probe_elf_ranges : (rows : List Row) (v : JobValue) → probe_elf_in rows ≡ Some v → HasRanges v
unfolding probe_elf_in
probe_elf_ranges rows v e =
    probe_elf_ranges_by (is_some (value_in rows (codes "chain"))) (value_in rows (codes "at")) (value_in rows (codes "elf"))
    (value_in rows (codes "script")) v e

probe_plain_by_ranges : (file : Option Text) (rows : List Row) (v : JobValue) → probe_plain_by file rows ≡ Some v → HasRanges v
probe_plain_by_ranges None rows v e = probe_script_ranges rows v e
probe_plain_by_ranges (Some file) rows v e = probe_elf_ranges rows v e

probe_plain_ranges : (rows : List Row) (v : JobValue) → probe_plain_in rows ≡ Some v → HasRanges v
unfolding probe_plain_in
probe_plain_ranges rows v e = probe_plain_by_ranges (value_in rows (codes "elf")) rows v e

probe_soft_ranges_by : (at script : Option Text) (v : JobValue) → probe_soft_from at script ≡ Some v → HasRanges v
probe_soft_ranges_by (Some a) (Some s) v e = subst HasRanges (same_Some _ v e) tt
probe_soft_ranges_by (Some a) None v e = none v e
probe_soft_ranges_by None script v e = none v e

probe_soft_ranges : (rows : List Row) (v : JobValue) → probe_soft_in rows ≡ Some v → HasRanges v
unfolding probe_soft_in
probe_soft_ranges rows v e =
    alone_ranges (is_probe_soft_alone rows) _ v (probe_soft_ranges_by (value_in rows (codes "at")) (value_in rows (codes "script")) v) e

probe_by_ranges : (soft : Bool) (rows : List Row) (v : JobValue) → probe_by soft rows ≡ Some v → HasRanges v
probe_by_ranges false rows v e = probe_plain_ranges rows v e
probe_by_ranges true rows v e = probe_soft_ranges rows v e

probe_ranges : (rows : List Row) (v : JobValue) → probe_in rows ≡ Some v → HasRanges v
unfolding probe_in
probe_ranges rows v e = probe_by_ranges (flag_in rows (codes "soft")) rows v e

chip_ranges_by : (at image : Option Text) (options : Option ChipOptions) (chain : Option (Option Plan)) (v : JobValue)
    → ((o : ChipOptions) → options ≡ Some o → OptionsInRange o) → chip_from at image options chain ≡ Some v → HasRanges v
chip_ranges_by (Some a) (Some i) (Some o) (Some c) v ranges e = subst HasRanges (same_Some _ v e) (ranges o refl)
chip_ranges_by (Some a) (Some i) (Some o) None v ranges e = none v e
chip_ranges_by (Some a) (Some i) None chain v ranges e = none v e
chip_ranges_by (Some a) None options chain v ranges e = none v e
chip_ranges_by None image options chain v ranges e = none v e

chip_ranges : (rows : List Row) (v : JobValue) → chip_in rows ≡ Some v → HasRanges v
unfolding chip_in
chip_ranges rows v e = chip_ranges_by (value_in rows (codes "at")) (value_in rows (codes "image")) (options_in rows) (chain_in rows) v
    (λ o is. options_range rows o is) e

sniff_ranges_by : (stream answers : Option Text) (waves : Bool) (v : JobValue) → sniff_from stream answers waves ≡ Some v → HasRanges v
sniff_ranges_by (Some s) (Some a) waves v e = subst HasRanges (same_Some _ v e) tt
sniff_ranges_by (Some s) None waves v e = none v e
sniff_ranges_by None answers waves v e = none v e

sniff_ranges : (rows : List Row) (v : JobValue) → sniff_in rows ≡ Some v → HasRanges v
unfolding sniff_in
sniff_ranges rows v e = sniff_ranges_by (value_in rows (codes "stream")) (value_in rows (codes "answers")) (flag_in rows (codes "vcd")) v e

-- rows that are read as a job, where there are rows
read_ranges : (read : List Row → Option JobValue) → ((rows : List Row) (v : JobValue) → read rows ≡ Some v → HasRanges v)
    → (rows : Option (List Row)) (v : JobValue) → (rows >>= read) ≡ Some v → HasRanges v
read_ranges read ranges None v e = none v e
read_ranges read ranges (Some rows) v e = ranges rows v e

chosen_ranges : (words : List Text) (a b c d : Bool) (v : JobValue)
    → cond a (both_of words) (cond b (probe_of words) (cond c (chip_of words) (cond d (sniff_of words) None))) ≡ Some v → HasRanges v
chosen_ranges words true b c d v e = read_ranges both_in both_ranges (rows_in both_command words) v e
chosen_ranges words false true c d v e = read_ranges probe_in probe_ranges (rows_in probe_command words) v e
chosen_ranges words false false true d v e = read_ranges chip_in chip_ranges (rows_in chip_command words) v e
chosen_ranges words false false false true v e = read_ranges sniff_in sniff_ranges (rows_in sniff_command words) v e
chosen_ranges words false false false false v e = none v e

by_ranges : (program : Text) (words : List Text) (v : JobValue) → job_by program words ≡ Some v → HasRanges v
unfolding job_by
by_ranges program words v e = chosen_ranges words (bytes_eq program (codes "both")) (bytes_eq program (codes "probe"))
    (bytes_eq program (codes "chip")) (bytes_eq program (codes "sniff")) v e

job_ranges : (words : List Text) (v : JobValue) → job_of words ≡ Some v → HasRanges v
unfolding job_of
job_ranges [] v e = none v e
job_ranges (program ∷ rest) v e = by_ranges program (program ∷ rest) v e

pub read_within : (words : List Text) (result : Result Job WordsFault) → Gives job_value result (job_of words) → IfOk result (λ job. HasRanges (job_value job))
read_within words (Ok job) gives = job_ranges words (job_value job) gives
read_within words (Err fault) gives = tt
