-- What is read and judged before a session that loads an ELF file, over plain variables.
use Rattle.std.proofs.Common.{◌≡◌, ◌⊎◌, ◌≤◌, ◌∙◌, ℕ, List, [], Option, Some, IfSome, ap, subst, inl, inr}
use Rattle.debug_model.specs.declared.command.Command.{Command}
use Rattle.debug_model.specs.Chip.{Live}
use Rattle.debug_model.specs.Loaded.{AsLoaded}
use Rattle.elf_load.specs.Elf.{ReadsAs, refusal_of}
use Rattle.elf_load.specs.declared.fault.ElfFault.{ElfFault}
use Rattle.elf_load.specs.declared.file.Elf.{Elf as ElfSegments}
use Rattle.jt_base.specs.Files.{Holds, NamedFile, asked_more}
use Rattle.jt_base.proofs.FaultLemmas.{rises_from}
use Rattle.command_line.specs.WrittenJob.{OptionsInRange}
use Rattle.command_line.specs.declared.job.ChipOptions.{ChipOptions}
use Rattle.jtag_run.specs.First.{CanLoad, first_chip}
use Rattle.jtag_run.specs.Jobs.{BothElf, halted}
use Rattle.jtag_run.specs.Outside.{FilesSeen}
use Rattle.jtag_run.specs.Ran.{PreparedElf}
use Rattle.jtag_run.specs.Refusal.{AskedElfFront, BehindScript, ElfFileCause, ElfFilesCause, HoldsBadElf, HoldsElf, HoldsScript}
use Rattle.jtag_run.specs.Refusal.{ImageFileCause, ScriptFileCause}
use Rattle.jtag_run.specs.Refusal.FailedElfFile.{of_file, of_script}
use Rattle.jtag_run.specs.declared.refusal.Refusal.{Refusal}
use Rattle.jtag_run.specs.declared.refusal.Refusal.TheVariants.{Words, File, Script, Image, Elf, Open, OutOfMemory}
use Rattle.jtag_run.proofs.Prepares.{long_before}
use Rattle.jtag_run.proofs.Recordings.{holds_before}

-- ---- the ELF file alone

-- its bytes were not read
pub unread_cause : (name : List ℕ) (old new : FilesSeen) (refusal : Refusal) → ImageFileCause name old new refusal → ElfFileCause name old new refusal
unread_cause name old new Words cause = absurd cause
unread_cause name old new (File asked) cause = cause
unread_cause name old new (Script error) cause = absurd cause
unread_cause name old new (Image fault) cause = cause
unread_cause name old new (Elf fault) cause = absurd cause
unread_cause name old new Open cause = absurd cause
unread_cause name old new OutOfMemory cause = cause

-- they are refused
pub unfit_cause : (name bytes : List ℕ) (old new : FilesSeen) (fault : ElfFault) → Holds old.held name bytes → refusal_of bytes ≡ Some fault
    → new.asked ≡ asked_more name old.asked → ElfFileCause name old new (Elf fault)
unfit_cause name bytes old new fault holds refused asked = (record { file = bytes; holds = holds; refused = refused }, asked)

-- ---- the script, and then the ELF file

memory_first : (script file : List ℕ) (old new : FilesSeen) → (new.asked ≡ old.asked) ⊎ (new.asked ≡ asked_more script old.asked)
    → AskedElfFront script file old new
memory_first script file old new (inl none) = inl none
memory_first script file old new (inr one) = inr (inl one)

pub script_cause : (script file : List ℕ) (old new : FilesSeen) (refusal : Refusal) → ScriptFileCause script old new refusal
    → ElfFilesCause script file old new refusal
script_cause script file old new Words cause = absurd cause
script_cause script file old new (File name) cause = (cause.0, of_script cause.1 cause.2)
script_cause script file old new (Script error) cause = cause
script_cause script file old new (Image fault) cause = absurd cause
script_cause script file old new (Elf fault) cause = absurd cause
script_cause script file old new Open cause = absurd cause
script_cause script file old new OutOfMemory cause = memory_first script file old new cause

memory_second : (script file : List ℕ) (old mid new : FilesSeen) → mid.asked ≡ asked_more script old.asked
    → (new.asked ≡ mid.asked) ⊎ (new.asked ≡ asked_more file mid.asked) → AskedElfFront script file old new
memory_second script file old mid new asked (inl none) = inr (inl (none ∙ asked))
memory_second script file old mid new asked (inr one) = inr (inr (one ∙ ap (asked_more file) asked))

behind : {P : Type 0} (script file : List ℕ) (old mid new : FilesSeen) (commands : List Command) → HoldsScript old.held script commands
    → mid.asked ≡ asked_more script old.asked → new.asked ≡ asked_more file mid.asked → P → BehindScript script file old new P
behind script file old mid new commands reads first second faulty = record {
  commands = commands;
  script_reads = reads;
  faulty = faulty;
  asked = second ∙ ap (asked_more file) first;
}

bad_before : (name : List ℕ) (mid old : FilesSeen) (fault : ElfFault) → mid.held ≡ old.held → HoldsBadElf mid.held name fault → HoldsBadElf old.held name fault
bad_before name mid old fault same bad = subst (λ h. HoldsBadElf h name fault) same bad

pub file_cause : (script file : List ℕ) (old mid new : FilesSeen) (commands : List Command) (refusal : Refusal) → HoldsScript old.held script commands
    → mid.held ≡ old.held → mid.asked ≡ asked_more script old.asked → old.faults ≤ mid.faults → mid.faults ≤ new.faults
    → ElfFileCause file mid new refusal → ElfFilesCause script file old new refusal
file_cause script file old mid new commands Words reads same asked later more cause = absurd cause
file_cause script file old mid new commands (File name) reads same asked later more cause =
    (rises_from old.faults mid.faults new.faults later more cause.0, of_file (behind script file old mid new commands reads asked cause.2 cause.1))
file_cause script file old mid new commands (Script error) reads same asked later more cause = absurd cause
file_cause script file old mid new commands (Image fault) reads same asked later more cause =
    behind script file old mid new commands reads asked cause.1 (long_before file mid old fault same cause.0)
file_cause script file old mid new commands (Elf fault) reads same asked later more cause =
    behind script file old mid new commands reads asked cause.1 (bad_before file mid old fault same cause.0)
file_cause script file old mid new commands Open reads same asked later more cause = absurd cause
file_cause script file old mid new commands OutOfMemory reads same asked later more cause = memory_second script file old mid new asked cause

pub elf_held : (held mid : Option (List NamedFile)) (name bytes : List ℕ) (elf : ElfSegments) → mid ≡ held → Holds mid name bytes → ReadsAs bytes elf
    → HoldsElf held name bytes
elf_held held mid name bytes elf same holds reads = record { holds = holds_before held mid name bytes same holds; sound = reads.sound }

-- ---- the chip

pub halted_in_range : (o : ChipOptions) → OptionsInRange o → OptionsInRange (halted o)
halted_in_range o r = record { busy = r.busy; events = r.events }

pub at_first : (bench : Option Live) (first : Live) → bench ≡ Some first → IfSome bench AsLoaded → AsLoaded first
at_first bench first is loaded = subst (λ b. IfSome b AsLoaded) is loaded

pub prepared_elf_by : (job : BothElf) (held : Option (List NamedFile)) (commands : List Command) (file : List ℕ) (bench : Option Live)
    → HoldsScript held job.script commands → HoldsElf held job.file file → CanLoad (halted job.options) []
    → bench ≡ Some (first_chip (halted job.options) []) → IfSome bench AsLoaded → PreparedElf job held commands file bench
prepared_elf_by job held commands file bench script holds loads is loaded = record {
  script_reads = script;
  file_is = holds;
  loads = loads;
  is = is;
  as_loaded = at_first bench (first_chip (halted job.options) []) is loaded;
}
