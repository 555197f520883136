-- Why a run is refused before its session whose script may set software breakpoints.
-- The order of the tests is this project's own: the script, the image, the load (docs/FORMATS.md, "Statuses").
use Rattle.std.specs.Prelude.{◌≡◌, ◌⊎◌, ℕ, List, Option, IfSome, IsSomeAnd}
use Rattle.chip_core.specs.declared.load_fault.LoadFault.{LoadFault}
use Rattle.debug_model.specs.SoftGrammar.{IsSoftReadAs, IsSoftRefusedAs}
use Rattle.debug_model.specs.declared.script_error.ScriptError.{ScriptError}
use Rattle.debug_model.specs.declared.soft_command.SoftCommand.{SoftCommand}
use Rattle.jt_base.specs.Faults.{Rises}
use Rattle.jt_base.specs.Files.{NamedFile, asked_more, content_of}
use Rattle.jtag_run.specs.Jobs.{BothSoft}
use Rattle.jtag_run.specs.Outside.{FilesSeen}
use Rattle.jtag_run.specs.Refusal.{IsBadImage}
use Rattle.jtag_run.specs.declared.refusal.Refusal.{Refusal}
use Rattle.jtag_run.specs.declared.refusal.Refusal.TheVariants.{Words, File, Script, Image, Elf, Open, OutOfMemory}

-- ---- what the files hold, where they are told

-- the file of this name holds a text that is read as these commands
abbrev pub HoldsSoftScript : Option (List NamedFile) → List ℕ → List SoftCommand → Type 0
HoldsSoftScript held name commands = IfSome held (λ files. IsSomeAnd (content_of name files) (λ text. IsSoftReadAs text commands))

-- the file of this name holds a text that is refused so
abbrev pub HoldsBadSoftScript : Option (List NamedFile) → List ℕ → ScriptError → Type 0
HoldsBadSoftScript held name error = IfSome held (λ files. IsSomeAnd (content_of name files) (λ text. IsSoftRefusedAs text error))

-- the script and then the image, and no other file
abbrev pub asked_soft : BothSoft → FilesSeen → Option (List (List ℕ))
asked_soft job old = asked_more job.image (asked_more job.script old.asked)

-- ---- the script alone

-- its file was not read, or its text not accepted
abbrev pub SoftScriptFileCause : List ℕ → FilesSeen → FilesSeen → Refusal → Type 0
SoftScriptFileCause name old new Words = ⊥
SoftScriptFileCause name old new (File asked) = Rises old.faults new.faults × (asked.now ≡ name) × (new.asked ≡ asked_more name old.asked)
SoftScriptFileCause name old new (Script error) = HoldsBadSoftScript old.held name error × (new.asked ≡ asked_more name old.asked)
SoftScriptFileCause name old new (Image fault) = ⊥
SoftScriptFileCause name old new (Elf fault) = ⊥
SoftScriptFileCause name old new Open = ⊥
SoftScriptFileCause name old new OutOfMemory = (new.asked ≡ old.asked) ⊎ (new.asked ≡ asked_more name old.asked)

-- ---- the script, and then the image

-- which file failed: the script, or behind an accepted script the image
pub data FailedSoftFile (job : BothSoft) (old new : FilesSeen) (name : List ℕ) : Type 0 where
  of_script : name ≡ job.script → new.asked ≡ asked_more job.script old.asked → FailedSoftFile job old new name
  of_image : (commands : List SoftCommand) → HoldsSoftScript old.held job.script commands → name ≡ job.image → new.asked ≡ asked_soft job old
      → FailedSoftFile job old new name

-- an image is judged behind a script that is accepted
pub record BadImageBehind (job : BothSoft) (old new : FilesSeen) (fault : LoadFault) : Type 0 where
  pub commands : List SoftCommand
  pub script : HoldsSoftScript old.held job.script commands
  pub image : IsBadImage job.image job.options old fault
  pub asked : new.asked ≡ asked_soft job old

-- no other file than the job's was asked for, and none before its turn
abbrev pub AskedSoftFront : BothSoft → FilesSeen → FilesSeen → Type 0
AskedSoftFront job old new = (new.asked ≡ old.asked) ⊎ ((new.asked ≡ asked_more job.script old.asked) ⊎ (new.asked ≡ asked_soft job old))

abbrev pub SoftCause : BothSoft → FilesSeen → FilesSeen → Refusal → Type 0
SoftCause job old new Words = ⊥
SoftCause job old new (File name) = Rises old.faults new.faults × FailedSoftFile job old new name.now
SoftCause job old new (Script error) = HoldsBadSoftScript old.held job.script error × (new.asked ≡ asked_more job.script old.asked)
SoftCause job old new (Image fault) = BadImageBehind job old new fault
SoftCause job old new (Elf fault) = ⊥
SoftCause job old new Open = ⊥
SoftCause job old new OutOfMemory = AskedSoftFront job old new
