-- The jobs that the program does, each with its texts as lists of bytes, and the job that words write.
-- The words are this project's own (docs/FORMATS.md, "Words"); what they write is what `command_line` says.
use Rattle.std.specs.Prelude.{◌≡◌, ℕ, List, Bool, true, false, Option, Some, string_bytes, if◌then◌else◌, nat_le, ◌&&◌}
use Rattle.debug_model.specs.Schedule.{RoundPlan}
use Rattle.debug_model.specs.Wire.{piece_most}
use Rattle.hart_debug.specs.declared.start.Start.{Start}
use Rattle.hart_debug.specs.declared.start.Start.TheVariants.{Running, Halted}
use Rattle.chain_scan.specs.ChainPlan.{Plan}
use Rattle.command_line.specs.declared.job.ChipOptions.{ChipOptions}
use Rattle.command_line.specs.declared.job.Way.{Way}
use Rattle.command_line.specs.Job.{JobValue, both, elf, soft, probe, probe_elf, probe_soft, chip, sniff, files, gen}
use Rattle.command_line.specs.WrittenJob.{InRange, OptionsInRange, least_piece}
use Rattle.jtag_run.specs.declared.words.BothJob.{BothJob}
use Rattle.jtag_run.specs.declared.words.ChipJob.{ChipJob}
use Rattle.jtag_run.specs.declared.words.ElfJob.{ElfJob}
use Rattle.jtag_run.specs.declared.words.GenJob.{GenJob}
use Rattle.jtag_run.specs.declared.words.ProbeElfJob.{ProbeElfJob}
use Rattle.jtag_run.specs.declared.words.ProbeJob.{ProbeJob}
use Rattle.jtag_run.specs.declared.words.ProbeSoftJob.{ProbeSoftJob}
use Rattle.jtag_run.specs.declared.words.SniffJob.{SniffJob}
use Rattle.jtag_run.specs.declared.words.SoftJob.{SoftJob}
use Rattle.jtag_run.specs.declared.words.Work.{Work}
use Rattle.jtag_run.specs.declared.words.Work.TheVariants as work
use Rattle.sys_events.specs.Seed.{seed_plan}

-- ---- chip and probe in one process

-- the names of the two files that a run reads, the chip's options, the most bytes of a piece of the stream, and its way to the chip
pub record Both : Type 0 where
  pub image : List ℕ
  pub script : List ℕ
  pub options : ChipOptions
  pub piece : ℕ
  pub way : Way

abbrev pub both_value : BothJob → Both
both_value j = record { image = string_bytes j.image; script = string_bytes j.script; options = j.options; piece = j.piece; way = j.way }

-- the same, with an image and a script that are made from a number
pub record Gen : Type 0 where
  pub number : ℕ
  pub options : ChipOptions
  pub piece : ℕ
  pub way : Way

abbrev pub gen_value : GenJob → Gen
gen_value j = record { number = j.number; options = j.options; piece = j.piece; way = j.way }

-- the same, where the probe loads an ELF file: the names of that file and of the script, the chip's options, and the most bytes of a piece of the stream
pub record BothElf : Type 0 where
  pub file : List ℕ
  pub script : List ℕ
  pub options : ChipOptions
  pub piece : ℕ

abbrev pub both_elf_value : ElfJob → BothElf
both_elf_value j = record { file = string_bytes j.file; script = string_bytes j.script; options = j.options; piece = j.piece }

-- the same, where the script may set software breakpoints
pub record BothSoft : Type 0 where
  pub image : List ℕ
  pub script : List ℕ
  pub options : ChipOptions
  pub piece : ℕ

abbrev pub both_soft_value : SoftJob → BothSoft
both_soft_value j = record { image = string_bytes j.image; script = string_bytes j.script; options = j.options; piece = j.piece }

-- ---- the probe alone

-- the address of the target, the name of the file that a run reads, and the devices beside the chip, where it is in a chain
pub record Probe : Type 0 where
  pub at : List ℕ
  pub script : List ℕ
  pub chain : Option Plan

abbrev pub probe_value : ProbeJob → Probe
probe_value j = record { at = string_bytes j.at; script = string_bytes j.script; chain = j.chain }

-- the same, where it loads an ELF file: the address of the target, and the names of that file and of the script
pub record ProbeElf : Type 0 where
  pub at : List ℕ
  pub file : List ℕ
  pub script : List ℕ

abbrev pub probe_elf_value : ProbeElfJob → ProbeElf
probe_elf_value j = record { at = string_bytes j.at; file = string_bytes j.file; script = string_bytes j.script }

-- the same, where the script may set software breakpoints
pub record ProbeSoft : Type 0 where
  pub at : List ℕ
  pub script : List ℕ

abbrev pub probe_soft_value : ProbeSoftJob → ProbeSoft
probe_soft_value j = record { at = string_bytes j.at; script = string_bytes j.script }

-- ---- a served chip

-- the address at which the chip waits for its client, the name of the file that a run reads, the chip's options, and the devices beside the chip, where it is
-- in a chain
pub record Chip : Type 0 where
  pub at : List ℕ
  pub image : List ℕ
  pub options : ChipOptions
  pub chain : Option Plan

abbrev pub chip_value : ChipJob → Chip
chip_value j = record { at = string_bytes j.at; image = string_bytes j.image; options = j.options; chain = j.chain }

-- ---- a recording

-- the names of the two files that a run reads, and whether they are drawn as a waveform
pub record Sniff : Type 0 where
  pub stream : List ℕ
  pub answers : List ℕ
  pub waves : Bool

abbrev pub sniff_value : SniffJob → Sniff
sniff_value j = record { stream = string_bytes j.stream; answers = string_bytes j.answers; waves = j.waves }

-- ---- what words write

abbrev pub said_both : Both → JobValue
said_both j = both (files j.image j.script) j.options j.piece j.way

abbrev pub said_gen : Gen → JobValue
said_gen j = both (gen j.number) j.options j.piece j.way

abbrev pub said_both_elf : BothElf → JobValue
said_both_elf j = elf j.file j.script j.options j.piece

abbrev pub said_both_soft : BothSoft → JobValue
said_both_soft j = soft j.image j.script j.options j.piece

abbrev pub said_probe : Probe → JobValue
said_probe j = probe j.at j.script j.chain

abbrev pub said_probe_elf : ProbeElf → JobValue
said_probe_elf j = probe_elf j.at j.file j.script

abbrev pub said_probe_soft : ProbeSoft → JobValue
said_probe_soft j = probe_soft j.at j.script

abbrev pub said_chip : Chip → JobValue
said_chip j = chip j.at j.image j.options j.chain

abbrev pub said_sniff : Sniff → JobValue
said_sniff j = sniff j.stream j.answers j.waves

-- the words write this job
abbrev pub IsWork : Option JobValue → Work → Type 0
IsWork said (work.Both job) = said ≡ Some (said_both (both_value job))
IsWork said (work.Gen job) = said ≡ Some (said_gen (gen_value job))
IsWork said (work.Elf job) = said ≡ Some (said_both_elf (both_elf_value job))
IsWork said (work.Soft job) = said ≡ Some (said_both_soft (both_soft_value job))
IsWork said (work.Probe job) = said ≡ Some (said_probe (probe_value job))
IsWork said (work.ProbeElf job) = said ≡ Some (said_probe_elf (probe_elf_value job))
IsWork said (work.ProbeSoft job) = said ≡ Some (said_probe_soft (probe_soft_value job))
IsWork said (work.Chip job) = said ≡ Some (said_chip (chip_value job))
IsWork said (work.Sniff job) = said ≡ Some (said_sniff (sniff_value job))

-- the numbers of a job are within their ranges
abbrev pub HasWorkRanges : Work → Type 0
HasWorkRanges (work.Both job) = InRange least_piece piece_most job.piece × OptionsInRange job.options
HasWorkRanges (work.Gen job) = InRange least_piece piece_most job.piece × OptionsInRange job.options
HasWorkRanges (work.Elf job) = InRange least_piece piece_most job.piece × OptionsInRange job.options
HasWorkRanges (work.Soft job) = InRange least_piece piece_most job.piece × OptionsInRange job.options
HasWorkRanges (work.Probe job) = Unit {0}
HasWorkRanges (work.ProbeElf job) = Unit {0}
HasWorkRanges (work.ProbeSoft job) = Unit {0}
HasWorkRanges (work.Chip job) = OptionsInRange job.options
HasWorkRanges (work.Sniff job) = Unit {0}

-- ---- the chip of the options

abbrev pub start_of : Bool → Start
start_of true = Halted
start_of false = Running

-- a chip into which a probe loads a program: no hart runs before
abbrev pub halted : ChipOptions → ChipOptions
halted o = record o { halted = true }

-- the most harts for which a schedule is made
abbrev pub most_harts : ℕ
most_harts = 4

-- an impossible number of harts has the schedule of one: the load refuses it then
abbrev pub schedule_harts : ℕ → ℕ
schedule_harts harts = if nat_le 1 harts && nat_le harts most_harts then harts else 1

abbrev pub plan_of : ChipOptions → RoundPlan
plan_of o = seed_plan o.seed o.busy (schedule_harts o.harts)
