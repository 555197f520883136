-- What is read and loaded before a session with software breakpoints, over plain variables.
use Rattle.std.proofs.Common.{◌≡◌, ◌⊎◌, ◌≤◌, ◌∙◌, ℕ, List, Option, Some, IfSome, ap, inl, inr}
use Rattle.debug_model.specs.Chip.{Live}
use Rattle.debug_model.specs.Loaded.{AsLoaded}
use Rattle.debug_model.specs.declared.soft_command.SoftCommand.{SoftCommand}
use Rattle.jt_base.proofs.FaultLemmas.{rises_from}
use Rattle.jt_base.specs.Files.{Holds, NamedFile, asked_more}
use Rattle.jtag_run.proofs.ElfFiles.{at_first}
use Rattle.jtag_run.proofs.Prepares.{long_before}
use Rattle.jtag_run.proofs.Recordings.{holds_before}
use Rattle.jtag_run.specs.First.{CanLoad, first_chip}
use Rattle.jtag_run.specs.Jobs.{BothSoft}
use Rattle.jtag_run.specs.Outside.{FilesSeen}
use Rattle.jtag_run.specs.Refusal.{ImageFileCause, LoadCause}
use Rattle.jtag_run.specs.SoftRan.{PreparedSoft}
use Rattle.jtag_run.specs.SoftRefusal.{AskedSoftFront, HoldsSoftScript, SoftCause, SoftScriptFileCause}
use Rattle.jtag_run.specs.SoftRefusal.FailedSoftFile.{of_image, of_script}
use Rattle.jtag_run.specs.declared.refusal.Refusal.{Refusal}
use Rattle.jtag_run.specs.declared.refusal.Refusal.TheVariants.{Words, File, Script, Image, Elf, Open, OutOfMemory}

memory_first : (job : BothSoft) (old new : FilesSeen) → (new.asked ≡ old.asked) ⊎ (new.asked ≡ asked_more job.script old.asked) → AskedSoftFront job old new
memory_first job old new (inl none) = inl none
memory_first job old new (inr one) = inr (inl one)

-- a refusal of the script
pub soft_script_cause : (job : BothSoft) (old new : FilesSeen) (refusal : Refusal) → SoftScriptFileCause job.script old new refusal
    → SoftCause job old new refusal
soft_script_cause job old new Words cause = absurd cause
soft_script_cause job old new (File name) cause = (cause.0, of_script cause.1 cause.2)
soft_script_cause job old new (Script error) cause = cause
soft_script_cause job old new (Image fault) cause = absurd cause
soft_script_cause job old new (Elf fault) cause = absurd cause
soft_script_cause job old new Open cause = absurd cause
soft_script_cause job old new OutOfMemory cause = memory_first job old new cause

memory_second : (job : BothSoft) (old mid new : FilesSeen) → mid.asked ≡ asked_more job.script old.asked
    → (new.asked ≡ mid.asked) ⊎ (new.asked ≡ asked_more job.image mid.asked) → AskedSoftFront job old new
memory_second job old mid new asked (inl none) = inr (inl (none ∙ asked))
memory_second job old mid new asked (inr one) = inr (inr (one ∙ ap (asked_more job.image) asked))

-- a refusal of the image's file, behind the script that was accepted
pub soft_image_cause : (job : BothSoft) (old mid new : FilesSeen) (commands : List SoftCommand) (refusal : Refusal)
    → HoldsSoftScript old.held job.script commands → mid.held ≡ old.held → mid.asked ≡ asked_more job.script old.asked
    → old.faults ≤ mid.faults → mid.faults ≤ new.faults → ImageFileCause job.image mid new refusal → SoftCause job old new refusal
soft_image_cause job old mid new commands Words script same asked later more cause = absurd cause
soft_image_cause job old mid new commands (File name) script same asked later more cause =
    (rises_from old.faults mid.faults new.faults later more cause.0, of_image commands script cause.1 (cause.2 ∙ ap (asked_more job.image) asked))
soft_image_cause job old mid new commands (Script error) script same asked later more cause = absurd cause
soft_image_cause job old mid new commands (Image fault) script same asked later more cause = record {
  commands = commands;
  script = script;
  image = inl (long_before job.image mid old fault same cause.0);
  asked = cause.1 ∙ ap (asked_more job.image) asked;
}
soft_image_cause job old mid new commands (Elf fault) script same asked later more cause = absurd cause
soft_image_cause job old mid new commands Open script same asked later more cause = absurd cause
soft_image_cause job old mid new commands OutOfMemory script same asked later more cause = memory_second job old mid new asked cause

-- a refusal of the load, behind the image that was read
pub soft_load_cause : (job : BothSoft) (old mid new : FilesSeen) (commands : List SoftCommand) (image : List ℕ) (refusal : Refusal)
    → HoldsSoftScript old.held job.script commands → mid.held ≡ old.held → mid.asked ≡ asked_more job.script old.asked
    → Holds mid.held job.image image → new.asked ≡ asked_more job.image mid.asked → LoadCause image job.options refusal → SoftCause job old new refusal
soft_load_cause job old mid new commands image Words script same first holds second cause = absurd cause
soft_load_cause job old mid new commands image (File name) script same first holds second cause = absurd cause
soft_load_cause job old mid new commands image (Script error) script same first holds second cause = absurd cause
soft_load_cause job old mid new commands image (Image fault) script same first holds second cause = record {
  commands = commands;
  script = script;
  image = inr (record { image = image; held = holds_before old.held mid.held job.image image same holds; unfit = cause });
  asked = second ∙ ap (asked_more job.image) first;
}
soft_load_cause job old mid new commands image (Elf fault) script same first holds second cause = absurd cause
soft_load_cause job old mid new commands image Open script same first holds second cause = absurd cause
soft_load_cause job old mid new commands image OutOfMemory script same first holds second cause =
    inr (inr (second ∙ ap (asked_more job.image) first))

pub prepared_soft_by : (job : BothSoft) (held mid : Option (List NamedFile)) (commands : List SoftCommand) (image : List ℕ) (bench : Option Live)
    → HoldsSoftScript held job.script commands → mid ≡ held → Holds mid job.image image → CanLoad job.options image
    → bench ≡ Some (first_chip job.options image) → IfSome bench AsLoaded → PreparedSoft job held commands bench
prepared_soft_by job held mid commands image bench script same holds loads is loaded = record {
  image = image;
  script_reads = script;
  image_is = holds_before held mid job.image image same holds;
  loads = loads;
  is = is;
  as_loaded = at_first bench (first_chip job.options image) is loaded;
}
