-- The job that words write, or none: the first word names the program, and the rest are the options of its command.
-- The words are this project's own (docs/FORMATS.md, "Words"); which words a command takes, and what it finds in them, is what the crate `clap` says.
use Rattle.std.specs.Prelude.{◌≤◌, ◌^◌, ℕ}
use Rattle.std.specs.Prelude.{Bool, true, false, List, [], ◌∷◌, codes, bytes_eq, Option, Some, None, option_map, if◌then◌else◌, is_some}
use Rattle.std.specs.Borrow.{Bor}
use Rattle.clap.specs.Words.{App, Kinds, Row, fault_of, first_of, found_of, matches_of, rows_of}
use Rattle.clap.specs.declared.parser.matches.ArgMatches.{ArgMatches}
use Rattle.rv_model.specs.declared.version.Version.{Version}
use Rattle.rv_model.specs.declared.version.Version.TheVariants.{V013, V10}
use Rattle.debug_model.specs.Loaded.{usual_points}
use Rattle.debug_model.specs.Wire.{piece_most}
use Rattle.chain_scan.specs.ChainPlan.{Plan}
use Rattle.command_line.specs.Job.{Text, InputsValue, files, gen, JobValue, both, elf, soft, probe, probe_elf, probe_soft, chip, sniff}
use Rattle.command_line.specs.Chains.{plan_of}
use Rattle.command_line.specs.Numbers.{◌>>=◌, number_of, within}
use Rattle.command_line.specs.Options.{both_command, probe_command, chip_command, sniff_command}
use Rattle.command_line.specs.declared.job.ChipOptions.{ChipOptions}
use Rattle.command_line.specs.declared.job.Way.{Way}
use Rattle.command_line.specs.declared.job.Way.TheVariants.{Straight, Looped, Chained}

abbrev pub harts_unsaid : ℕ
harts_unsaid = 1

abbrev pub ram_unsaid : ℕ
ram_unsaid = 65536

abbrev pub seed_unsaid : ℕ
seed_unsaid = 0

abbrev pub busy_unsaid : ℕ
busy_unsaid = 1

abbrev pub least_busy : ℕ
least_busy = 1

abbrev pub most_busy : ℕ
most_busy = 32

abbrev pub events_unsaid : ℕ
events_unsaid = usual_points

abbrev pub least_events : ℕ
least_events = 1

abbrev pub most_events : ℕ
most_events = 2 ^ 62

abbrev pub least_piece : ℕ
least_piece = 1

abbrev pub piece_unsaid : ℕ
piece_unsaid = piece_most

-- what is found, where there is no fault
abbrev pub unless_faulty : Kinds → List Row → Option (List Row)
unless_faulty [] rows = Some rows
unless_faulty (fault ∷ faults) rows = None

-- what `clap` finds in the words after the first, where the command takes them: it names no fault
unfoldable pub rows_in : App → List Text → Option (List Row)
rows_in command words = unless_faulty (fault_of command words) (matches_of command words)

-- what `clap` found
unfoldable pub rows_found : ArgMatches → List Row
rows_found matches = rows_of (found_of matches)

-- the text behind a reference
abbrev pub text_of : Option (Bor Text) → Option Text
text_of = option_map (λ text. text.now)

-- the value of an option, where it was given
unfoldable pub value_in : List Row → Text → Option Text
value_in rows name = first_of name rows

abbrev pub says_true : Option Text → Bool
says_true (Some text) = bytes_eq text (codes "true")
says_true None = false

-- whether the flag was given: `clap` finds "true" for it then, and "false" where it wasn't
unfoldable pub flag_in : List Row → Text → Bool
flag_in rows name = says_true (value_in rows name)

abbrev pub number_or : ℕ → Option Text → Option ℕ
number_or unsaid None = Some unsaid
number_or unsaid (Some word) = number_of word

-- the number of an option, or the one that stands where it isn't given
unfoldable pub number_in : List Row → Text → ℕ → Option ℕ
number_in rows name unsaid = number_or unsaid (value_in rows name)

-- the same, from `least` to `most`
unfoldable pub ranged_in : List Row → Text → ℕ → ℕ → ℕ → Option ℕ
ranged_in rows name unsaid least most = number_in rows name unsaid >>= within least most

-- a chip follows release 1.0, or by `--v013` release 0.13
abbrev pub version_by : (v013 : Bool) → Version
version_by true = V013
version_by false = V10

abbrev pub options_from : Option ℕ → Option ℕ → Option ℕ → Option ℕ → Option ℕ → Bool → Version → Option ChipOptions
options_from said_harts said_ram said_seed said_busy said_events halted version = do
  harts ← said_harts
  ram ← said_ram
  seed ← said_seed
  busy ← said_busy
  events ← said_events
  Some (record { harts = harts; ram = ram; halted = halted; seed = seed; busy = busy; events = events; version = version })

-- the options of a chip
unfoldable pub options_in : List Row → Option ChipOptions
options_in rows = options_from (number_in rows (codes "harts") harts_unsaid) (number_in rows (codes "ram") ram_unsaid)
    (number_in rows (codes "seed") seed_unsaid) (ranged_in rows (codes "busy") busy_unsaid least_busy most_busy)
    (ranged_in rows (codes "events") events_unsaid least_events most_events) (flag_in rows (codes "halted")) (version_by (flag_in rows (codes "v013")))

-- an image and a script without a number, or a number alone
abbrev pub inputs_from : Option Text → Option Text → Option Text → Option InputsValue
inputs_from (Some image) (Some script) None = Some (files image script)
inputs_from None None (Some word) = do
  number ← number_of word
  Some (gen number)
inputs_from _ _ _ = None

unfoldable pub inputs_in : List Row → Option InputsValue
inputs_in rows = inputs_from (value_in rows (codes "image")) (value_in rows (codes "script")) (value_in rows (codes "gen"))

-- the devices beside the chip, where a list of them is given
abbrev pub chain_from : Option Text → Option (Option Plan)
chain_from None = Some None
chain_from (Some list) = do
  plan ← plan_of list
  Some (Some plan)

unfoldable pub chain_in : List Row → Option (Option Plan)
chain_in rows = chain_from (value_in rows (codes "chain"))

-- a chain may not stand beside `--loopback`
abbrev pub way_by : (loopback : Bool) → Option Plan → Option Way
way_by false None = Some Straight
way_by true None = Some Looped
way_by false (Some plan) = Some (Chained plan)
way_by true (Some plan) = None

unfoldable pub way_in : List Row → Option Way
way_in rows = chain_in rows >>= way_by (flag_in rows (codes "loopback"))

abbrev pub both_from : Option InputsValue → Option ChipOptions → Option ℕ → Option Way → Option JobValue
both_from said_inputs said_options said_piece said_way = do
  inputs ← said_inputs
  options ← said_options
  piece ← said_piece
  way ← said_way
  Some (both inputs options piece way)

-- `both` with an image or a number
unfoldable pub image_in : List Row → Option JobValue
image_in rows = both_from (inputs_in rows) (options_in rows) (ranged_in rows (codes "piece") piece_unsaid least_piece piece_most)
    (way_in rows)

-- beside an ELF file stand no image, no number and no chain, and the stream goes straight to the chip
abbrev pub stands_alone : (image number chain : Option Text) → (loopback : Bool) → Bool
stands_alone None None None false = true
stands_alone _ _ _ _ = false

unfoldable pub is_elf_alone : List Row → Bool
is_elf_alone rows =
    stands_alone (value_in rows (codes "image")) (value_in rows (codes "gen")) (value_in rows (codes "chain")) (flag_in rows (codes "loopback"))

abbrev pub elf_from : Option Text → Option Text → Option ChipOptions → Option ℕ → Option JobValue
elf_from said_file said_script said_options said_piece = do
  file ← said_file
  script ← said_script
  options ← said_options
  piece ← said_piece
  Some (elf file script options piece)

-- `both` with an ELF file
unfoldable pub elf_in : List Row → Option JobValue
elf_in rows =
    if is_elf_alone rows then elf_from (value_in rows (codes "elf")) (value_in rows (codes "script")) (options_in rows)
    (ranged_in rows (codes "piece") piece_unsaid least_piece piece_most)
    else None

-- `--elf` decides which of the two it is
abbrev pub plain_by : Option Text → List Row → Option JobValue
plain_by None rows = image_in rows
plain_by (Some file) rows = elf_in rows

-- `both` without software breakpoints
unfoldable pub plain_in : List Row → Option JobValue
plain_in rows = plain_by (value_in rows (codes "elf")) rows

-- beside software breakpoints stand no ELF file, no number and no chain, and the stream goes straight to the chip
unfoldable pub is_soft_alone : List Row → Bool
is_soft_alone rows =
    stands_alone (value_in rows (codes "elf")) (value_in rows (codes "gen")) (value_in rows (codes "chain")) (flag_in rows (codes "loopback"))

abbrev pub soft_from : Option Text → Option Text → Option ChipOptions → Option ℕ → Option JobValue
soft_from said_image said_script said_options said_piece = do
  image ← said_image
  script ← said_script
  options ← said_options
  piece ← said_piece
  Some (soft image script options piece)

-- `both` with software breakpoints
unfoldable pub soft_in : List Row → Option JobValue
soft_in rows =
    if is_soft_alone rows then soft_from (value_in rows (codes "image")) (value_in rows (codes "script")) (options_in rows)
    (ranged_in rows (codes "piece") piece_unsaid least_piece piece_most)
    else None

-- `--soft` decides whether it has them
abbrev pub both_by : (soft : Bool) → List Row → Option JobValue
both_by false rows = plain_in rows
both_by true rows = soft_in rows

unfoldable pub both_in : List Row → Option JobValue
both_in rows = both_by (flag_in rows (codes "soft")) rows

abbrev pub probe_from : Option Text → Option Text → Option (Option Plan) → Option JobValue
probe_from said_at said_script said_chain = do
  at ← said_at
  script ← said_script
  chain ← said_chain
  Some (probe at script chain)

-- `probe` with a script alone
unfoldable pub probe_script_in : List Row → Option JobValue
probe_script_in rows = probe_from (value_in rows (codes "at")) (value_in rows (codes "script")) (chain_in rows)

abbrev pub probe_elf_from : Option Text → Option Text → Option Text → Option JobValue
probe_elf_from said_at said_file said_script = do
  at ← said_at
  file ← said_file
  script ← said_script
  Some (probe_elf at file script)

-- `probe` with an ELF file, which stands beside no chain
unfoldable pub probe_elf_in : List Row → Option JobValue
probe_elf_in rows =
    if is_some (value_in rows (codes "chain")) then None
    else probe_elf_from (value_in rows (codes "at")) (value_in rows (codes "elf")) (value_in rows (codes "script"))

abbrev pub probe_plain_by : Option Text → List Row → Option JobValue
probe_plain_by None rows = probe_script_in rows
probe_plain_by (Some file) rows = probe_elf_in rows

-- `probe` without software breakpoints
unfoldable pub probe_plain_in : List Row → Option JobValue
probe_plain_in rows = probe_plain_by (value_in rows (codes "elf")) rows

-- beside them stand no ELF file and no chain
unfoldable pub is_probe_soft_alone : List Row → Bool
is_probe_soft_alone rows = stands_alone (value_in rows (codes "elf")) None (value_in rows (codes "chain")) false

abbrev pub probe_soft_from : Option Text → Option Text → Option JobValue
probe_soft_from said_at said_script = do
  at ← said_at
  script ← said_script
  Some (probe_soft at script)

-- `probe` with software breakpoints
unfoldable pub probe_soft_in : List Row → Option JobValue
probe_soft_in rows =
    if is_probe_soft_alone rows then probe_soft_from (value_in rows (codes "at")) (value_in rows (codes "script"))
    else None

abbrev pub probe_by : (soft : Bool) → List Row → Option JobValue
probe_by false rows = probe_plain_in rows
probe_by true rows = probe_soft_in rows

unfoldable pub probe_in : List Row → Option JobValue
probe_in rows = probe_by (flag_in rows (codes "soft")) rows

abbrev pub chip_from : Option Text → Option Text → Option ChipOptions → Option (Option Plan) → Option JobValue
chip_from said_at said_image said_options said_chain = do
  at ← said_at
  image ← said_image
  options ← said_options
  chain ← said_chain
  Some (chip at image options chain)

unfoldable pub chip_in : List Row → Option JobValue
chip_in rows = chip_from (value_in rows (codes "at")) (value_in rows (codes "image")) (options_in rows) (chain_in rows)

abbrev pub sniff_from : Option Text → Option Text → Bool → Option JobValue
sniff_from said_stream said_answers waves = do
  stream ← said_stream
  answers ← said_answers
  Some (sniff stream answers waves)

unfoldable pub sniff_in : List Row → Option JobValue
sniff_in rows = sniff_from (value_in rows (codes "stream")) (value_in rows (codes "answers")) (flag_in rows (codes "vcd"))

-- the job of the words of a program
abbrev pub both_of : List Text → Option JobValue
both_of words = rows_in both_command words >>= both_in

abbrev pub probe_of : List Text → Option JobValue
probe_of words = rows_in probe_command words >>= probe_in

abbrev pub chip_of : List Text → Option JobValue
chip_of words = rows_in chip_command words >>= chip_in

abbrev pub sniff_of : List Text → Option JobValue
sniff_of words = rows_in sniff_command words >>= sniff_in

-- the job of words of which the first is `program`
unfoldable pub job_by : Text → List Text → Option JobValue
job_by program words =
    if bytes_eq program (codes "both") then both_of words
    else (if bytes_eq program (codes "probe") then probe_of words
    else (if bytes_eq program (codes "chip") then chip_of words
    else (if bytes_eq program (codes "sniff") then sniff_of words
    else None)))

-- the job of the words after the program's own name
unfoldable pub job_of : List Text → Option JobValue
job_of [] = None
job_of (program ∷ rest) = job_by program (program ∷ rest)

-- ---- ranges

pub record InRange (least most n : ℕ) : Type 0 where
  pub low : least ≤ n
  pub high : n ≤ most

pub record OptionsInRange (options : ChipOptions) : Type 0 where
  pub busy : InRange least_busy most_busy options.busy
  pub events : InRange least_events most_events options.events

-- the numbers of a job that have a range are within it; of the others `load` judges
abbrev pub HasRanges : JobValue → Type 0
HasRanges (both inputs options piece way) = InRange least_piece piece_most piece × OptionsInRange options
HasRanges (elf file script options piece) = InRange least_piece piece_most piece × OptionsInRange options
HasRanges (soft image script options piece) = InRange least_piece piece_most piece × OptionsInRange options
HasRanges (probe at script chain) = Unit {0}
HasRanges (probe_elf at file script) = Unit {0}
HasRanges (probe_soft at script) = Unit {0}
HasRanges (chip at image options chain) = OptionsInRange options
HasRanges (sniff stream answers waves) = Unit {0}
