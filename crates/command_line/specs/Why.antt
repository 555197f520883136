-- Which of the words is why they write no job: what is named is at fault.
-- The words are this project's own (docs/FORMATS.md, "Words").
use Rattle.std.specs.Prelude.{Bool, true, ◌||◌, ◌≡◌, ◌<◌, ◌≤◌, ◌⊎◌, ℕ, ◌-◌, ◌^◌, List, [], ◌∷◌, codes, bytes_eq}
use Rattle.std.specs.Prelude.{Option, Some, None, Result, Ok, Err, if◌then◌else◌, IsSome}
use Rattle.clap.specs.Words.{App, Row}
use Rattle.clap.specs.declared.parser.matches.ArgMatches.{ArgMatches}
use Rattle.debug_model.specs.Wire.{piece_most}
use Rattle.command_line.specs.Chains.{plan_of}
use Rattle.command_line.specs.Job.{Text}
use Rattle.command_line.specs.Options.{both_command, probe_command, chip_command, sniff_command}
use Rattle.command_line.specs.WrittenJob.{flag_in, least_busy, least_events, least_piece, most_busy, most_events}
use Rattle.command_line.specs.WrittenJob.{ranged_in, rows_found, rows_in, value_in}
use Rattle.command_line.specs.Numbers.{number_of}
use Rattle.command_line.specs.declared.why.Refused.{Refused}
use Rattle.command_line.specs.declared.why.Refused.TheVariants as whys

-- the range of an option's number
abbrev pub least_of : Text → ℕ
least_of option =
    if bytes_eq option (codes "busy") then least_busy
    else (if bytes_eq option (codes "events") then least_events
    else (if bytes_eq option (codes "piece") then least_piece
    else 0))

abbrev pub most_of : Text → ℕ
most_of option =
    if bytes_eq option (codes "busy") then most_busy
    else (if bytes_eq option (codes "events") then most_events
    else (if bytes_eq option (codes "piece") then piece_most
    else 2 ^ 64 - 1))

-- the command of the job that a word names
unfoldable pub command_at : Text → Option App
command_at job =
    if bytes_eq job (codes "both") then Some both_command
    else (if bytes_eq job (codes "probe") then Some probe_command
    else (if bytes_eq job (codes "chip") then Some chip_command
    else (if bytes_eq job (codes "sniff") then Some sniff_command
    else None)))

-- the number that a word writes is outside these bounds
abbrev pub IsOutside : ℕ → ℕ → Text → Type 0
IsOutside least most word = (number : ℕ) × (number_of word ≡ Some number) × ((number < least) ⊎ (most < number))

-- whatever number within these bounds stands where the option is not given, it has one within them
abbrev pub HasNumber : List Row → Text → ℕ → ℕ → Type 0
HasNumber rows option least most = (unsaid : ℕ) → least ≤ unsaid → unsaid ≤ most → IsSome (ranged_in rows option unsaid least most)

-- the options that may not stand beside `--elf`
abbrev pub bars_elf : Text → Bool
bars_elf option = bytes_eq option (codes "image") || bytes_eq option (codes "gen") || bytes_eq option (codes "chain")

-- the options that may not stand beside `--soft`
abbrev pub bars_soft : Text → Bool
bars_soft option = bytes_eq option (codes "elf") || bytes_eq option (codes "gen") || bytes_eq option (codes "chain")

-- of what a command found: the option that is named is at fault
abbrev pub NamesIn : List Row → Refused → Type 0
NamesIn rows whys.NoWords = ⊥
NamesIn rows (whys.NoJob word) = ⊥
NamesIn rows (whys.Unfit text) = ⊥
NamesIn rows (whys.Missing option) = value_in rows option.now ≡ None
NamesIn rows (whys.BesideGen option) = IsSome (value_in rows option.now) × IsSome (value_in rows (codes "gen"))
NamesIn rows (whys.NoNumber option word) = (value_in rows option.now ≡ Some word.now) × (number_of word.now ≡ None)
NamesIn rows (whys.OutOfRange option word least most) =
    (value_in rows option.now ≡ Some word.now) × (least ≡ least_of option.now) × (most ≡ most_of option.now) × IsOutside least most word.now
NamesIn rows (whys.NoChain list) = (value_in rows (codes "chain") ≡ Some list.now) × (plan_of list.now ≡ None)
NamesIn rows whys.ChainLooped = IsSome (value_in rows (codes "chain")) × (flag_in rows (codes "loopback") ≡ true)
NamesIn rows (whys.BesideElf option) = (bars_elf option.now ≡ true) × IsSome (value_in rows option.now) × IsSome (value_in rows (codes "elf"))
NamesIn rows whys.ElfLooped = IsSome (value_in rows (codes "elf")) × (flag_in rows (codes "loopback") ≡ true)
NamesIn rows (whys.BesideSoft option) = (bars_soft option.now ≡ true) × IsSome (value_in rows option.now) × (flag_in rows (codes "soft") ≡ true)
NamesIn rows whys.SoftLooped = (flag_in rows (codes "soft") ≡ true) × (flag_in rows (codes "loopback") ≡ true)
NamesIn rows whys.NoMemory = Unit {0}

-- of what a command finds in words, where it takes them
abbrev pub NamesBy : Option (List Row) → Refused → Type 0
NamesBy found whys.NoWords = ⊥
NamesBy found (whys.NoJob word) = ⊥
NamesBy found (whys.Unfit text) = found ≡ None
NamesBy found (whys.Missing option) = (rows : List Row) × (found ≡ Some rows) × NamesIn rows (whys.Missing option)
NamesBy found (whys.BesideGen option) = (rows : List Row) × (found ≡ Some rows) × NamesIn rows (whys.BesideGen option)
NamesBy found (whys.NoNumber option word) = (rows : List Row) × (found ≡ Some rows) × NamesIn rows (whys.NoNumber option word)
NamesBy found (whys.OutOfRange option word least most) = (rows : List Row) × (found ≡ Some rows) × NamesIn rows (whys.OutOfRange option word least most)
NamesBy found (whys.NoChain list) = (rows : List Row) × (found ≡ Some rows) × NamesIn rows (whys.NoChain list)
NamesBy found whys.ChainLooped = (rows : List Row) × (found ≡ Some rows) × NamesIn rows whys.ChainLooped
NamesBy found (whys.BesideElf option) = (rows : List Row) × (found ≡ Some rows) × NamesIn rows (whys.BesideElf option)
NamesBy found whys.ElfLooped = (rows : List Row) × (found ≡ Some rows) × NamesIn rows whys.ElfLooped
NamesBy found (whys.BesideSoft option) = (rows : List Row) × (found ≡ Some rows) × NamesIn rows (whys.BesideSoft option)
NamesBy found whys.SoftLooped = (rows : List Row) × (found ≡ Some rows) × NamesIn rows whys.SoftLooped
NamesBy found whys.NoMemory = Unit {0}

-- of a first word that names no job
abbrev pub NamesNone : Text → Refused → Type 0
NamesNone job whys.NoWords = ⊥
NamesNone job (whys.NoJob word) = word.now ≡ job
NamesNone job (whys.Unfit text) = ⊥
NamesNone job (whys.Missing option) = ⊥
NamesNone job (whys.BesideGen option) = ⊥
NamesNone job (whys.NoNumber option word) = ⊥
NamesNone job (whys.OutOfRange option word least most) = ⊥
NamesNone job (whys.NoChain list) = ⊥
NamesNone job whys.ChainLooped = ⊥
NamesNone job (whys.BesideElf option) = ⊥
NamesNone job whys.ElfLooped = ⊥
NamesNone job (whys.BesideSoft option) = ⊥
NamesNone job whys.SoftLooped = ⊥
NamesNone job whys.NoMemory = ⊥

-- of words of which the first is the job, by the command that this names
abbrev pub NamesAt : Option App → Text → List Text → Refused → Type 0
NamesAt None job words why = NamesNone job why
NamesAt (Some command) job words why = NamesBy (rows_in command words) why

abbrev pub Names : List Text → Refused → Type 0
Names [] why = why ≡ whys.NoWords
Names (job ∷ rest) why = NamesAt (command_at job) job (job ∷ rest) why

-- why a command does not take the words
abbrev pub UntakenBy : App → List Text → Refused → Type 0
UntakenBy command words whys.NoWords = ⊥
UntakenBy command words (whys.NoJob word) = ⊥
UntakenBy command words (whys.Unfit text) = rows_in command words ≡ None
UntakenBy command words (whys.Missing option) = ⊥
UntakenBy command words (whys.BesideGen option) = ⊥
UntakenBy command words (whys.NoNumber option word) = ⊥
UntakenBy command words (whys.OutOfRange option word least most) = ⊥
UntakenBy command words (whys.NoChain list) = ⊥
UntakenBy command words whys.ChainLooped = ⊥
UntakenBy command words (whys.BesideElf option) = ⊥
UntakenBy command words whys.ElfLooped = ⊥
UntakenBy command words (whys.BesideSoft option) = ⊥
UntakenBy command words whys.SoftLooped = ⊥
UntakenBy command words whys.NoMemory = Unit {0}

-- what a command finds, unless it does not take the words
abbrev pub UnlessTaken : App → List Text → Result ArgMatches Refused → Type 0
UnlessTaken command words (Ok matches) = rows_in command words ≡ Some (rows_found matches)
UnlessTaken command words (Err why) = UntakenBy command words why
