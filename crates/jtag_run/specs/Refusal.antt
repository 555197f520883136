-- Why a run is refused before its session, and what it prints and answers then.
-- The order of the tests is this project's own: the words, the script, the image or the ELF file, the load, the opening of the net; of a recording the words,
-- the stream, the answers (docs/FORMATS.md, "Statuses").
use Rattle.std.specs.Prelude.{◌≡◌, ◌⊎◌, ℕ, List, [], Option, None, Some, IfSome, IsSomeAnd}
use Rattle.chip_core.specs.declared.load_fault.LoadFault.{LoadFault}
use Rattle.chip_core.specs.declared.load_fault.LoadFault.TheVariants as load
use Rattle.debug_model.specs.Loaded.{Fits, RightHarts}
use Rattle.elf_load.specs.Elf.{refusal_of}
use Rattle.elf_load.specs.declared.fault.ElfFault.{ElfFault}
use Rattle.generator.specs.Image.{IsImageOf, program}
use Rattle.debug_model.specs.declared.command.Command.{Command}
use Rattle.debug_model.specs.declared.script_error.ScriptError.{ScriptError}
use Rattle.debug_model.specs.Grammar.{IsRefusedAs}
use Rattle.jt_base.specs.Faults.{Rises}
use Rattle.jt_base.specs.Files.{Holds, HoldsMore, NamedFile, asked_more, content_of}
use Rattle.jtag_run.specs.LastLine.{Closed, words_refused, file_failed, script_refused, image_refused, elf_refused, open_failed, out_of_memory}
use Rattle.jtag_run.specs.Outside.{FilesSeen}
use Rattle.wire_session.specs.Seen.{SinkSeen}
use Rattle.jtag_run.specs.ScriptText.{IsAcceptedText}
use Rattle.jtag_run.specs.Jobs.{Both, BothElf, Chip, Gen, Sniff, halted}
use Rattle.jtag_run.specs.declared.refusal.Refusal.{Refusal}
use Rattle.jtag_run.specs.declared.refusal.Refusal.TheVariants.{Words, File, Script, Image, Elf, Open, OutOfMemory}
use Rattle.jtag_run.specs.declared.status.Status.{Status}
use Rattle.jtag_run.specs.declared.status.Status.TheVariants as status
use Rattle.command_line.specs.WrittenJob.{job_of}
use Rattle.command_line.specs.declared.job.ChipOptions.{ChipOptions}
use Rattle.rv_model.specs.Memory.{IsRamSize}

abbrev pub status_of : Refusal → Status
status_of Words = status.Words
status_of (File name) = status.File
status_of (Script error) = status.Script
status_of (Image fault) = status.Image
status_of (Elf fault) = status.Image
status_of Open = status.Wire
status_of OutOfMemory = status.OutOfMemory

abbrev pub last_line : Refusal → List ℕ
last_line Words = words_refused
last_line (File name) = file_failed name.now
last_line (Script error) = script_refused error
last_line (Image fault) = image_refused fault
last_line (Elf fault) = elf_refused fault
last_line Open = open_failed
last_line OutOfMemory = out_of_memory

-- ---- what the files hold, where they are told

-- the file of this name holds a text that is read as these commands
abbrev pub HoldsScript : Option (List NamedFile) → List ℕ → List Command → Type 0
HoldsScript held name commands = IfSome held (λ files. IsSomeAnd (content_of name files) (λ text. IsAcceptedText text commands))

-- the file of this name holds a text that is refused so
abbrev pub HoldsBadScript : Option (List NamedFile) → List ℕ → ScriptError → Type 0
HoldsBadScript held name error = IfSome held (λ files. IsSomeAnd (content_of name files) (λ text. IsRefusedAs text error))

-- the file of this name holds these bytes, and they are an ELF file that can be loaded
pub record HoldsElf (held : Option (List NamedFile)) (name file : List ℕ) : Type 0 where
  pub holds : Holds held name file
  pub sound : refusal_of file ≡ None

-- it holds one that can't be, for this fault
pub record HoldsBadElf (held : Option (List NamedFile)) (name : List ℕ) (fault : ElfFault) : Type 0 where
  pub file : List ℕ
  pub holds : Holds held name file
  pub refused : refusal_of file ≡ Some fault

-- ---- names

-- the script was asked for, and no other file
abbrev pub asked_script : Both → FilesSeen → Option (List (List ℕ))
asked_script job old = asked_more job.script old.asked

-- the script and then the image, and no other file
abbrev pub asked_both : Both → FilesSeen → Option (List (List ℕ))
asked_both job old = asked_more job.image (asked_script job old)

-- the script and then the ELF file, and no other file
abbrev pub asked_elf : (script file : List ℕ) → FilesSeen → Option (List (List ℕ))
asked_elf script file old = asked_more file (asked_more script old.asked)

-- the image of a served chip, and no other file
abbrev pub asked_image : Chip → FilesSeen → Option (List (List ℕ))
asked_image job old = asked_more job.image old.asked

-- the answers of a recording behind its stream, and no other file
abbrev pub asked_recording : Sniff → FilesSeen → Option (List (List ℕ))
asked_recording job old = asked_more job.answers (asked_more job.stream old.asked)

-- ---- causes of one file

-- the most bytes of an image's file
abbrev pub most_image : ℕ
most_image = 16777216

-- the script's file was not read, or its text not accepted
abbrev pub ScriptFileCause : List ℕ → FilesSeen → FilesSeen → Refusal → Type 0
ScriptFileCause name old new Words = ⊥
ScriptFileCause name old new (File asked) = Rises old.faults new.faults × (asked.now ≡ name) × (new.asked ≡ asked_more name old.asked)
ScriptFileCause name old new (Script error) = HoldsBadScript old.held name error × (new.asked ≡ asked_more name old.asked)
ScriptFileCause name old new (Image fault) = ⊥
ScriptFileCause name old new (Elf fault) = ⊥
ScriptFileCause name old new Open = ⊥
ScriptFileCause name old new OutOfMemory = (new.asked ≡ old.asked) ⊎ (new.asked ≡ asked_more name old.asked)

-- the image's file was not read: it failed, or it has too many bytes for any chip
abbrev pub LongImage : List ℕ → FilesSeen → LoadFault → Type 0
LongImage name old load.TooLong = HoldsMore old.held name most_image
LongImage name old load.BadSize = ⊥
LongImage name old load.BadHarts = ⊥
LongImage name old load.NoMemory = ⊥

abbrev pub ImageFileCause : List ℕ → FilesSeen → FilesSeen → Refusal → Type 0
ImageFileCause name old new Words = ⊥
ImageFileCause name old new (File asked) = Rises old.faults new.faults × (asked.now ≡ name) × (new.asked ≡ asked_more name old.asked)
ImageFileCause name old new (Script error) = ⊥
ImageFileCause name old new (Image fault) = LongImage name old fault × (new.asked ≡ asked_more name old.asked)
ImageFileCause name old new (Elf fault) = ⊥
ImageFileCause name old new Open = ⊥
ImageFileCause name old new OutOfMemory = (new.asked ≡ old.asked) ⊎ (new.asked ≡ asked_more name old.asked)

-- the ELF file was not read, or can't be loaded
abbrev pub ElfFileCause : List ℕ → FilesSeen → FilesSeen → Refusal → Type 0
ElfFileCause name old new Words = ⊥
ElfFileCause name old new (File asked) = Rises old.faults new.faults × (asked.now ≡ name) × (new.asked ≡ asked_more name old.asked)
ElfFileCause name old new (Script error) = ⊥
ElfFileCause name old new (Image fault) = LongImage name old fault × (new.asked ≡ asked_more name old.asked)
ElfFileCause name old new (Elf fault) = HoldsBadElf old.held name fault × (new.asked ≡ asked_more name old.asked)
ElfFileCause name old new Open = ⊥
ElfFileCause name old new OutOfMemory = (new.asked ≡ old.asked) ⊎ (new.asked ≡ asked_more name old.asked)

-- ---- causes of the load

-- the harts are judged first, then the size of RAM, then whether the image fits
abbrev pub UnfitChip : List ℕ → ChipOptions → LoadFault → Type 0
UnfitChip image o load.BadHarts = ¬ RightHarts o.harts
UnfitChip image o load.BadSize = RightHarts o.harts × ¬ IsRamSize o.ram
UnfitChip image o load.TooLong = RightHarts o.harts × (IsRamSize o.ram × ¬ Fits image o.ram)
UnfitChip image o load.NoMemory = ⊥

-- the image was read, and can't be loaded with these options
pub record Unloadable (name : List ℕ) (options : ChipOptions) (old : FilesSeen) (fault : LoadFault) : Type 0 where
  pub image : List ℕ
  pub held : Holds old.held name image
  pub unfit : UnfitChip image options fault

-- an image is refused so: for its length in the file, or for what it is to be loaded into
abbrev pub IsBadImage : List ℕ → ChipOptions → FilesSeen → LoadFault → Type 0
IsBadImage name options old fault = LongImage name old fault ⊎ Unloadable name options old fault

-- why an image that was read is not loaded
abbrev pub LoadCause : List ℕ → ChipOptions → Refusal → Type 0
LoadCause image o Words = ⊥
LoadCause image o (File name) = ⊥
LoadCause image o (Script error) = ⊥
LoadCause image o (Image fault) = UnfitChip image o fault
LoadCause image o (Elf fault) = ⊥
LoadCause image o Open = ⊥
LoadCause image o OutOfMemory = Unit {0}

-- ---- the cause of each refusal of a job

-- which file failed: the script, or behind an accepted script the image
pub data FailedFile (job : Both) (old new : FilesSeen) (name : List ℕ) : Type 0 where
  of_script : name ≡ job.script → new.asked ≡ asked_script job old → FailedFile job old new name
  of_image : (commands : List Command) → HoldsScript old.held job.script commands → name ≡ job.image → new.asked ≡ asked_both job old
      → FailedFile job old new name

-- an image is judged behind a script that is accepted
pub record BadImage (job : Both) (old new : FilesSeen) (fault : LoadFault) : Type 0 where
  pub commands : List Command
  pub script : HoldsScript old.held job.script commands
  pub image : IsBadImage job.image job.options old fault
  pub asked : new.asked ≡ asked_both job old

-- no other file than the job's was asked for, and none before its turn
abbrev pub AskedFront : Both → FilesSeen → FilesSeen → Type 0
AskedFront job old new = (new.asked ≡ old.asked) ⊎ ((new.asked ≡ asked_script job old) ⊎ (new.asked ≡ asked_both job old))

abbrev pub JobCause : Both → FilesSeen → FilesSeen → Refusal → Type 0
JobCause job old new Words = ⊥
JobCause job old new (File name) = Rises old.faults new.faults × FailedFile job old new name.now
JobCause job old new (Script error) = HoldsBadScript old.held job.script error × (new.asked ≡ asked_script job old)
JobCause job old new (Image fault) = BadImage job old new fault
JobCause job old new (Elf fault) = ⊥
JobCause job old new Open = ⊥
JobCause job old new OutOfMemory = AskedFront job old new

-- ---- the cause of each refusal of a job with an ELF file

-- the ELF file is judged behind a script that is accepted
pub record BehindScript (script : List ℕ) (file : List ℕ) (old new : FilesSeen) (IsFaulty : Type 0) : Type 0 where
  pub commands : List Command
  pub script_reads : HoldsScript old.held script commands
  pub faulty : IsFaulty
  pub asked : new.asked ≡ asked_elf script file old

-- which file failed: the script, or behind an accepted script the ELF file
pub data FailedElfFile (script file : List ℕ) (old new : FilesSeen) (name : List ℕ) : Type 0 where
  of_script : name ≡ script → new.asked ≡ asked_more script old.asked → FailedElfFile script file old new name
  of_file : BehindScript script file old new (name ≡ file) → FailedElfFile script file old new name

-- no other file than the two was asked for, and none before its turn
abbrev pub AskedElfFront : (script file : List ℕ) → FilesSeen → FilesSeen → Type 0
AskedElfFront script file old new =
    (new.asked ≡ old.asked) ⊎ ((new.asked ≡ asked_more script old.asked) ⊎ (new.asked ≡ asked_elf script file old))

-- one of the two files was not read, or is refused
abbrev pub ElfFilesCause : (script file : List ℕ) → FilesSeen → FilesSeen → Refusal → Type 0
ElfFilesCause script file old new Words = ⊥
ElfFilesCause script file old new (File name) = Rises old.faults new.faults × FailedElfFile script file old new name.now
ElfFilesCause script file old new (Script error) = HoldsBadScript old.held script error × (new.asked ≡ asked_more script old.asked)
ElfFilesCause script file old new (Image fault) = BehindScript script file old new (LongImage file old fault)
ElfFilesCause script file old new (Elf fault) = BehindScript script file old new (HoldsBadElf old.held file fault)
ElfFilesCause script file old new Open = ⊥
ElfFilesCause script file old new OutOfMemory = AskedElfFront script file old new

-- so it is, or both were read, and no chip of these options can be made
pub data ElfCause (job : BothElf) (old new : FilesSeen) (refusal : Refusal) : Type 0 where
  of_files : ElfFilesCause job.script job.file old new refusal → ElfCause job old new refusal
  of_chip : (commands : List Command) (file : List ℕ) → HoldsScript old.held job.script commands → HoldsElf old.held job.file file
      → LoadCause [] (halted job.options) refusal → new.asked ≡ asked_elf job.script job.file old → ElfCause job old new refusal

-- ---- the cause of each refusal of a served chip

abbrev pub ChipCause : Chip → FilesSeen → FilesSeen → Refusal → Type 0
ChipCause job old new Words = ⊥
ChipCause job old new (File name) = Rises old.faults new.faults × (name.now ≡ job.image) × (new.asked ≡ asked_image job old)
ChipCause job old new (Script error) = ⊥
ChipCause job old new (Image fault) = IsBadImage job.image job.options old fault × (new.asked ≡ asked_image job old)
ChipCause job old new (Elf fault) = ⊥
ChipCause job old new Open = ⊥
ChipCause job old new OutOfMemory = (new.asked ≡ old.asked) ⊎ (new.asked ≡ asked_image job old)

-- ---- the cause of each refusal of a generated job

-- the image that is made can't be loaded with these options
pub record UnfitMade (job : Gen) (fault : LoadFault) : Type 0 where
  pub image : List ℕ
  pub made : IsImageOf (program job.number) image
  pub unfit : UnfitChip image job.options fault

abbrev pub GenCause : Gen → Refusal → Type 0
GenCause job Words = ⊥
GenCause job (File name) = ⊥
GenCause job (Script error) = ⊥
GenCause job (Image fault) = UnfitMade job fault
GenCause job (Elf fault) = ⊥
GenCause job Open = ⊥
GenCause job OutOfMemory = Unit {0}

-- ---- the cause of each refusal of a recording

-- which of the two files of a recording is at fault: the stream, or behind a stream that was read the answers
pub data FaultyFile (job : Sniff) (old new : FilesSeen) (IsFaulty : List ℕ → Type 0) : Type 0 where
  of_stream : IsFaulty job.stream → new.asked ≡ asked_more job.stream old.asked → FaultyFile job old new IsFaulty
  of_answers : (stream : List ℕ) → Holds old.held job.stream stream → IsFaulty job.answers → new.asked ≡ asked_recording job old
      → FaultyFile job old new IsFaulty

-- no other file than the recording's was asked for, and none before its turn
abbrev pub AskedRecordingFront : Sniff → FilesSeen → FilesSeen → Type 0
AskedRecordingFront job old new = (new.asked ≡ old.asked) ⊎ ((new.asked ≡ asked_more job.stream old.asked) ⊎ (new.asked ≡ asked_recording job old))

-- a file that is too long is refused as an image's is
abbrev pub SniffCause : Sniff → FilesSeen → FilesSeen → Refusal → Type 0
SniffCause job old new Words = ⊥
SniffCause job old new (File name) = Rises old.faults new.faults × FaultyFile job old new (λ asked. name.now ≡ asked)
SniffCause job old new (Script error) = ⊥
SniffCause job old new (Image fault) = FaultyFile job old new (λ name. LongImage name old fault)
SniffCause job old new (Elf fault) = ⊥
SniffCause job old new Open = ⊥
SniffCause job old new OutOfMemory = AskedRecordingFront job old new

-- ---- the words

-- the causes that lie in the words alone
abbrev pub WordsCause : List (List ℕ) → Refusal → Type 0
WordsCause words Words = job_of words ≡ None
WordsCause words (File name) = ⊥
WordsCause words (Script error) = ⊥
WordsCause words (Image fault) = ⊥
WordsCause words (Elf fault) = ⊥
WordsCause words Open = ⊥
WordsCause words OutOfMemory = Unit {0}

-- ---- a refusal

-- by its status: the last line and nothing else, or a front of it
abbrev pub Refused : Refusal → SinkSeen → SinkSeen → Status → Type 0
Refused refusal old new status = Closed (last_line refusal) (status_of refusal) old new status
