-- What is named of words, by the command that their first word names.
use Rattle.std.proofs.Common.{◌≡◌, Bool, true, false, bytes_eq, cond, codes, List, [], ◌∷◌, Option, Some, None, map, refl, sym, ap, subst}
use Rattle.std.proofs.Common.{string_bytes, Result, Global}
use Rattle.std.specs.Prelude.{String, slice_get, IfErr}
use Rattle.clap.specs.Words.{App, Row}
use Rattle.command_line.specs.Job.{Text}
use Rattle.command_line.specs.Options.{both_command, chip_command, probe_command, sniff_command}
use Rattle.command_line.specs.Why.{Names, NamesAt, NamesBy, NamesIn, NamesNone, UntakenBy, command_at}
use Rattle.command_line.specs.WrittenJob.{rows_in}
use Rattle.command_line.specs.declared.why.Refused.{Refused}
use Rattle.command_line.specs.declared.why.Refused.TheVariants as whys

pub names_taken : (found : Option (List Row)) (rows : List Row) (why : Refused) → found ≡ Some rows → NamesIn rows why → NamesBy found why
names_taken found rows whys.NoWords is names = names
names_taken found rows (whys.NoJob word) is names = names
names_taken found rows (whys.Unfit text) is names = absurd names
names_taken found rows (whys.Missing option) is names = (rows, is, names)
names_taken found rows (whys.BesideGen option) is names = (rows, is, names)
names_taken found rows (whys.NoNumber option word) is names = (rows, is, names)
names_taken found rows (whys.OutOfRange option word least most) is names = (rows, is, names)
names_taken found rows (whys.NoChain list) is names = (rows, is, names)
names_taken found rows whys.ChainLooped is names = (rows, is, names)
names_taken found rows (whys.BesideElf option) is names = (rows, is, names)
names_taken found rows whys.ElfLooped is names = (rows, is, names)
names_taken found rows (whys.BesideSoft option) is names = (rows, is, names)
names_taken found rows whys.SoftLooped is names = (rows, is, names)
names_taken found rows whys.NoMemory is names = tt

pub names_untaken : (command : App) (words : List Text) (why : Refused) → UntakenBy command words why → NamesBy (rows_in command words) why
names_untaken command words whys.NoWords untaken = untaken
names_untaken command words (whys.NoJob word) untaken = untaken
names_untaken command words (whys.Unfit text) untaken = untaken
names_untaken command words (whys.Missing option) untaken = absurd untaken
names_untaken command words (whys.BesideGen option) untaken = absurd untaken
names_untaken command words (whys.NoNumber option word) untaken = absurd untaken
names_untaken command words (whys.OutOfRange option word least most) untaken = absurd untaken
names_untaken command words (whys.NoChain list) untaken = absurd untaken
names_untaken command words whys.ChainLooped untaken = absurd untaken
names_untaken command words (whys.BesideElf option) untaken = absurd untaken
names_untaken command words whys.ElfLooped untaken = absurd untaken
names_untaken command words (whys.BesideSoft option) untaken = absurd untaken
names_untaken command words whys.SoftLooped untaken = absurd untaken
names_untaken command words whys.NoMemory untaken = tt

chosen : Bool → Bool → Bool → Bool → Option App
chosen a b c d = cond a (Some both_command) (cond b (Some probe_command) (cond c (Some chip_command) (cond d (Some sniff_command) None)))

at-both : (job : Text) → bytes_eq job (codes "both") ≡ true → command_at job ≡ Some both_command
unfolding command_at chosen
at-both job a = ap (λ x. chosen x (bytes_eq job (codes "probe")) (bytes_eq job (codes "chip")) (bytes_eq job (codes "sniff"))) a

at-probe : (job : Text) → bytes_eq job (codes "both") ≡ false → bytes_eq job (codes "probe") ≡ true → command_at job ≡ Some probe_command
unfolding command_at chosen
at-probe job a b = λ i. chosen (a i) (b i) (bytes_eq job (codes "chip")) (bytes_eq job (codes "sniff"))

at-chip : (job : Text) → bytes_eq job (codes "both") ≡ false → bytes_eq job (codes "probe") ≡ false
    → bytes_eq job (codes "chip") ≡ true → command_at job ≡ Some chip_command
unfolding command_at chosen
at-chip job a b c = λ i. chosen (a i) (b i) (c i) (bytes_eq job (codes "sniff"))

at-sniff : (job : Text) → bytes_eq job (codes "both") ≡ false → bytes_eq job (codes "probe") ≡ false
    → bytes_eq job (codes "chip") ≡ false → bytes_eq job (codes "sniff") ≡ true
    → command_at job ≡ Some sniff_command
unfolding command_at chosen
at-sniff job a b c d = λ i. chosen (a i) (b i) (c i) (d i)

at-none : (job : Text) → bytes_eq job (codes "both") ≡ false → bytes_eq job (codes "probe") ≡ false
    → bytes_eq job (codes "chip") ≡ false → bytes_eq job (codes "sniff") ≡ false
    → command_at job ≡ None
unfolding command_at chosen
at-none job a b c d = λ i. chosen (a i) (b i) (c i) (d i)

if_names : {T : Type 0} (said : Option App) (command : App) (job : Text) (words : List Text) (r : Result T Refused) → said ≡ Some command
    → IfErr r (NamesBy (rows_in command words)) → IfErr r (NamesAt said job words)
if_names said command job words r is names = subst (λ (o : Option App). IfErr r (NamesAt o job words)) (sym is) names

pub named_both : {T : Type 0} (job : Text) (words : List Text) (r : Result T Refused)
    → bytes_eq job (codes "both") ≡ true → IfErr r (NamesBy (rows_in both_command words))
    → IfErr r (NamesAt (command_at job) job words)
named_both job words r a names = if_names _ _ job words r (at-both job a) names

pub named_probe : {T : Type 0} (job : Text) (words : List Text) (r : Result T Refused)
    → bytes_eq job (codes "both") ≡ false → bytes_eq job (codes "probe") ≡ true → IfErr r (NamesBy (rows_in probe_command words))
    → IfErr r (NamesAt (command_at job) job words)
named_probe job words r a b names = if_names _ _ job words r (at-probe job a b) names

pub named_chip : {T : Type 0} (job : Text) (words : List Text) (r : Result T Refused)
    → bytes_eq job (codes "both") ≡ false → bytes_eq job (codes "probe") ≡ false
    → bytes_eq job (codes "chip") ≡ true → IfErr r (NamesBy (rows_in chip_command words))
    → IfErr r (NamesAt (command_at job) job words)
named_chip job words r a b c names = if_names _ _ job words r (at-chip job a b c) names

pub named_sniff : {T : Type 0} (job : Text) (words : List Text) (r : Result T Refused)
    → bytes_eq job (codes "both") ≡ false → bytes_eq job (codes "probe") ≡ false
    → bytes_eq job (codes "chip") ≡ false → bytes_eq job (codes "sniff") ≡ true
    → IfErr r (NamesBy (rows_in sniff_command words)) → IfErr r (NamesAt (command_at job) job words)
named_sniff job words r a b c d names = if_names _ _ job words r (at-sniff job a b c d) names

pub named_none : (job : Text) (words : List Text) (why : Refused) → bytes_eq job (codes "both") ≡ false → bytes_eq job (codes "probe") ≡ false
    → bytes_eq job (codes "chip") ≡ false → bytes_eq job (codes "sniff") ≡ false
    → NamesNone job why → NamesAt (command_at job) job words why
named_none job words why a b c d names = subst (λ (o : Option App). NamesAt o job words why) (sym (at-none job a b c d)) names

-- the first word decides
pub names_first : {T : Type 0} (words : List (String Global)) (job : String Global) (r : Result T Refused) → Some job ≡ slice_get words 0
    → IfErr r (NamesAt (command_at (string_bytes job)) (string_bytes job) (map string_bytes words)) → IfErr r (Names (map string_bytes words))
names_first [] job r e names =
    let bad : true ≡ false = ap (λ (o : Option (String Global)). elim o [ Some x ↦ true | None ↦ false ]) e in
    cc
names_first (w ∷ rest) job r e names =
    subst (λ (t : Text). IfErr r (NamesAt (command_at t) t (map string_bytes (w ∷ rest))))
    (ap (λ (o : Option (String Global)). elim o [ Some x ↦ string_bytes x | None ↦ [] ]) e) names

pub names_no_words : (words : List (String Global)) → None ≡ slice_get words 0 → Names (map string_bytes words) whys.NoWords
names_no_words [] e = refl
names_no_words (w ∷ rest) e =
    let bad : true ≡ false = ap (λ (o : Option (String Global)). elim o [ Some x ↦ false | None ↦ true ]) e in
    cc
