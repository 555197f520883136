-- A job whose texts are lists of bytes.
-- The programs are this project's own (docs/FORMATS.md, "Words").
use Rattle.std.specs.Prelude.{ℕ, Bool, List, Option, Result, Ok, Err, Some, None, ◌≡◌, string_bytes}
use Rattle.command_line.specs.declared.fault.WordsFault.{WordsFault}
use Rattle.command_line.specs.declared.fault.WordsFault.TheVariants.{Refused, NoMemory}
use Rattle.command_line.specs.declared.job.ChipOptions.{ChipOptions}
use Rattle.command_line.specs.declared.job.Inputs.{Inputs}
use Rattle.command_line.specs.declared.job.Inputs.TheVariants.{Files, Gen}
use Rattle.command_line.specs.declared.job.Job.{Job}
use Rattle.command_line.specs.declared.job.Job.TheVariants.{Both, Elf, Soft, Probe, ProbeElf, ProbeSoft, Chip, Sniff}
use Rattle.command_line.specs.declared.job.Way.{Way}
use Rattle.chain_scan.specs.ChainPlan.{Plan}

abbrev pub Text : Type 0
Text = List ℕ

-- the names of two files, of the image and of the script, or the number from which both are made
pub data InputsValue : Type 0 where
  files : Text → Text → InputsValue
  gen : ℕ → InputsValue

-- `both` has its inputs, the chip's options, the most bytes of a piece and the way of the bytes to the chip;
-- with an ELF file it has the names of that file and of the script, the chip's options and the most bytes of a piece;
-- with software breakpoints the names of the image and of the script, the chip's options and the most bytes of a piece;
-- `probe` an address, the script's name, and the devices beside the chip, where it is in a chain;
-- with an ELF file it has an address, the name of that file and the script's name, and with software breakpoints an address and the script's name;
-- `chip` an address, the image's name, its options, and such devices too;
-- `sniff` the names of a recorded stream and of its answers, and whether they are drawn as a waveform
pub data JobValue : Type 0 where
  both : InputsValue → ChipOptions → ℕ → Way → JobValue
  elf : Text → Text → ChipOptions → ℕ → JobValue
  soft : Text → Text → ChipOptions → ℕ → JobValue
  probe : Text → Text → Option Plan → JobValue
  probe_elf : Text → Text → Text → JobValue
  probe_soft : Text → Text → JobValue
  chip : Text → Text → ChipOptions → Option Plan → JobValue
  sniff : Text → Text → Bool → JobValue

abbrev pub inputs_value : Inputs → InputsValue
inputs_value (Files image script) = files (string_bytes image) (string_bytes script)
inputs_value (Gen number) = gen number

abbrev pub job_value : Job → JobValue
job_value (Both inputs options piece way) = both (inputs_value inputs) options piece way
job_value (Elf file script options piece) = elf (string_bytes file) (string_bytes script) options piece
job_value (Soft image script options piece) = soft (string_bytes image) (string_bytes script) options piece
job_value (Probe at script chain) = probe (string_bytes at) (string_bytes script) chain
job_value (ProbeElf at file script) = probe_elf (string_bytes at) (string_bytes file) (string_bytes script)
job_value (ProbeSoft at script) = probe_soft (string_bytes at) (string_bytes script)
job_value (Chip at image options chain) = chip (string_bytes at) (string_bytes image) options chain
job_value (Sniff stream answers waves) = sniff (string_bytes stream) (string_bytes answers) waves

-- A reading is refused where the words say nothing. Want of memory may stand for anything that they say.
abbrev pub Fails : {Y : Type 0} → WordsFault → Option Y → Type 0
Fails Refused said = said ≡ None
Fails NoMemory said = Unit {0}

-- a reading gives what the words say
abbrev pub Gives : {X Y : Type 0} → (X → Y) → Result X WordsFault → Option Y → Type 0
Gives view (Ok x) said = said ≡ Some (view x)
Gives view (Err fault) said = Fails fault said
