-- What is read and loaded before a session, over plain variables.
use Rattle.std.proofs.Common.{◌≡◌, ◌⊎◌, ◌≤◌, ◌∙◌, ℕ, List, Option, Some, IfSome, ap, subst, inl, inr}
use Rattle.chip_core.specs.declared.load_fault.LoadFault.{LoadFault}
use Rattle.chip_core.specs.declared.load_fault.LoadFault.TheVariants.{TooLong, BadSize, BadHarts, NoMemory}
use Rattle.debug_model.specs.declared.command.Command.{Command}
use Rattle.debug_model.specs.Chip.{Live}
use Rattle.debug_model.specs.Loaded.{AsLoaded}
use Rattle.jt_base.specs.Files.{Holds, HoldsMore, NamedFile, asked_more}
use Rattle.jtag_run.specs.Ran.{Prepared}
use Rattle.jtag_run.specs.First.{CanLoad, first_chip}
use Rattle.jtag_run.specs.Outside.{FilesSeen}
use Rattle.jtag_run.specs.Refusal.{AskedFront, ChipCause, HoldsScript, ImageFileCause, JobCause, LongImage, asked_script, most_image}
use Rattle.jtag_run.specs.Refusal.FailedFile.{of_image}
use Rattle.jtag_run.specs.ServedChip.{PreparedChip}
use Rattle.jtag_run.specs.Jobs.{Both, Chip}
use Rattle.jtag_run.specs.declared.refusal.Refusal.{Refusal}
use Rattle.jtag_run.specs.declared.refusal.Refusal.TheVariants.{Words, File, Script, Image, Elf, Open, OutOfMemory}
use Rattle.jt_base.proofs.FaultLemmas.{rises_from}

pub long_before : (name : List ℕ) (mid old : FilesSeen) (fault : LoadFault) → mid.held ≡ old.held → LongImage name mid fault → LongImage name old fault
long_before name mid old TooLong same long = subst (λ h. HoldsMore h name most_image) same long
long_before name mid old BadSize same long = absurd long
long_before name mid old BadHarts same long = absurd long
long_before name mid old NoMemory same long = absurd long

memory_front : (job : Both) (old mid new : FilesSeen) → mid.asked ≡ asked_script job old
    → (new.asked ≡ mid.asked) ⊎ (new.asked ≡ asked_more job.image mid.asked) → AskedFront job old new
memory_front job old mid new asked (inl none) = inr (inl (none ∙ asked))
memory_front job old mid new asked (inr one) = inr (inr (one ∙ ap (asked_more job.image) asked))

-- a refusal of the image's file, behind the script that was accepted
pub image_cause : (job : Both) (old mid new : FilesSeen) (commands : List Command) (refusal : Refusal) → HoldsScript old.held job.script commands
    → mid.held ≡ old.held → mid.asked ≡ asked_script job old
    → old.faults ≤ mid.faults → mid.faults ≤ new.faults → ImageFileCause job.image mid new refusal → JobCause job old new refusal
image_cause job old mid new commands Words script same asked later more cause = absurd cause
image_cause job old mid new commands (File name) script same asked later more cause =
    (rises_from old.faults mid.faults new.faults later more cause.0, of_image commands script cause.1 (cause.2 ∙ ap (asked_more job.image) asked))
image_cause job old mid new commands (Script error) script same asked later more cause = absurd cause
image_cause job old mid new commands (Image fault) script same asked later more cause = record {
  commands = commands;
  script = script;
  image = inl (long_before job.image mid old fault same cause.0);
  asked = cause.1 ∙ ap (asked_more job.image) asked;
}
image_cause job old mid new commands (Elf fault) script same asked later more cause = absurd cause
image_cause job old mid new commands Open script same asked later more cause = absurd cause
image_cause job old mid new commands OutOfMemory script same asked later more cause = memory_front job old mid new asked cause

at_first : (bench : Option Live) (first : Live) → bench ≡ Some first → IfSome bench AsLoaded → AsLoaded first
at_first bench first is loaded = subst (λ b. IfSome b AsLoaded) is loaded

pub prepared_by : (job : Both) (held mid : Option (List NamedFile)) (commands : List Command) (image : List ℕ) (bench : Option Live)
    → HoldsScript held job.script commands → mid ≡ held → Holds mid job.image image
    → CanLoad job.options image → bench ≡ Some (first_chip job.options image) → IfSome bench AsLoaded → Prepared job held commands bench
prepared_by job held mid commands image bench script same holds loads is loaded = record {
  image = image;
  script_reads = script;
  image_is = subst (λ h. Holds h job.image image) same holds;
  loads = loads;
  is = is;
  as_loaded = at_first bench (first_chip job.options image) is loaded;
}

-- ---- a chip that is to be served

-- a refusal of its image's file
pub chip_file_cause : (job : Chip) (old new : FilesSeen) (refusal : Refusal) → ImageFileCause job.image old new refusal → ChipCause job old new refusal
chip_file_cause job old new Words cause = absurd cause
chip_file_cause job old new (File name) cause = (cause.0, cause.1, cause.2)
chip_file_cause job old new (Script error) cause = absurd cause
chip_file_cause job old new (Image fault) cause = (inl cause.0, cause.1)
chip_file_cause job old new (Elf fault) cause = absurd cause
chip_file_cause job old new Open cause = absurd cause
chip_file_cause job old new OutOfMemory cause = cause

pub prepared_chip_by : (job : Chip) (held : Option (List NamedFile)) (image : List ℕ) (bench : Option Live) → Holds held job.image image
    → CanLoad job.options image → bench ≡ Some (first_chip job.options image) → PreparedChip job held bench
prepared_chip_by job held image bench holds loads is = record { image = image; image_is = holds; loads = loads; is = is }
