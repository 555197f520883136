-- Making each halted hart halt at an ebreak: which calls on the link it is, what happens at a told chip, and where it broke off.
-- RISC-V Debug Specification 1.0, "Debug Control and Status". That the harts are looked at from 0 up to the first absent one is this project's own.
use Rattle.std.specs.Prelude.{◌≡◌, ◌≤◌, ◌<◌, ℕ, suc, true, false}
use Rattle.rv_model.specs.Dcsr.{dcsr_of_word, dcsr_word}
use Rattle.rv_model.specs.DebugRegisters.{dcsr_number}
use Rattle.debug_model.specs.Scan.{WhereTold}
use Rattle.soft_laws.specs.SoftDebugger.{most_harts}
use Rattle.probe_run.specs.declared.fault.RunFault.{RunFault}
use Rattle.probe_run.specs.declared.hart.Halted.{Halted}
use Rattle.probe_run.specs.declared.hart.Running.{Running}
use Rattle.probe_run.specs.declared.hart.Seen.{Seen}
use Rattle.probe_run.specs.declared.hart.Seen.TheVariants as seen
use Rattle.probe_run.specs.Acts.{Tells}
use Rattle.probe_run.specs.Happens as happens
use Rattle.probe_run.specs.Happens.{LookLeft, LooksAt}
use Rattle.probe_run.specs.Outcomes.{LookFails, LookedAt}
use Rattle.probe_run.specs.Told.{Serving}
use Rattle.probe_access.specs.declared.fault.AccessFault.{AccessFault}
use Rattle.probe_access.specs.Cuts.{IfCut, LeftAside, Leaves, MaybeWritten, Unchanged}
use Rattle.probe_access.specs.RegisterRuns.{ReadFailed, RegisterRead, RegisterWritten, WriteFailed}
use Rattle.probe_access.specs.Registers.{RegisterLeft, RegisterReadAt, RegisterWrittenAt}
use Rattle.probe_access.specs.StepRuns.{of_run}
use Rattle.soft_break.specs.declared.preparing.Prepared.{Prepared}
use Rattle.soft_break.specs.declared.preparing.Prepared.TheVariants as prepared

-- a word of dcsr with ebreakm set, and its other fields as they were
abbrev pub ebreak_halting : ℕ → ℕ
ebreak_halting word = dcsr_word (record (dcsr_of_word word) { ebreakm = true })

-- ---- calls that were Ok

-- one Look of hart h, and what it showed
pub record LookOf (h : ℕ) (s : Seen) (old new : Tells) : Type 0 where
  pub heard : LookedAt h old new s
  pub happened : WhereTold (happens.Leaves (LooksAt h s) h) old.far new.far

-- the ebreak of hart h halts it: dcsr was read, and written with ebreakm set
pub record EbreakSet (h : ℕ) (old new : Tells) : Type 0 where
  pub word : ℕ
  pub mid : Tells
  pub read : RegisterRead dcsr_number word old mid
  pub read_at : WhereTold (RegisterReadAt h dcsr_number word) old.far mid.far
  pub written : RegisterWritten dcsr_number (ebreak_halting word) mid new
  pub written_at : WhereTold (RegisterWrittenAt h dcsr_number (ebreak_halting word)) mid.far new.far

-- each hart below a number was seen halted, and set, upwards
pub data SetBelow (old : Tells) : ℕ → Tells → Type 0 where
  none : SetBelow old 0 old
  one_more : {h : ℕ} {mid looked new : Tells} (x : Halted) → SetBelow old h mid → LookOf h (seen.Halted x) mid looked → EbreakSet h looked new
      → SetBelow old (suc h) new

-- each hart is set: the next is absent, or no more are looked for
pub data AllSet (old new : Tells) : Type 0 where
  up_to : {h : ℕ} {mid : Tells} → h < most_harts → SetBelow old h mid → LookOf h seen.Absent mid new → AllSet old new
  as_many : SetBelow old most_harts new → AllSet old new

-- the harts below one that was seen running are set
pub record RunsAt (h : ℕ) (old new : Tells) : Type 0 where
  pub below : h < most_harts
  pub mid : Tells
  pub set : SetBelow old h mid
  pub running : Running
  pub look : LookOf h (seen.Running running) mid new

abbrev pub PreparedAs : (old new : Tells) → Prepared → Type 0
PreparedAs old new prepared.Ready = AllSet old new
PreparedAs old new (prepared.Running h) = RunsAt h old new

-- ---- calls that failed, by the counts of faults before and behind

pub record LookBroke (h old_count new_count : ℕ) (old new : Tells) (why : AccessFault) : Type 0 where
  pub fault : RunFault
  pub later : old_count ≤ new_count
  pub heard : LookFails h old_count new_count old new fault
  pub left : LookLeft h old.far new.far fault
  pub is : why ≡ of_run fault

pub record ReadBroke (h old_count new_count : ℕ) (old new : Tells) (why : AccessFault) : Type 0 where
  pub later : old_count ≤ new_count
  pub at : Serving h old.far
  pub heard : ReadFailed dcsr_number old_count new_count old new why
  pub left : RegisterLeft false h dcsr_number old.far new.far why
  pub cut : IfCut (Leaves (LeftAside Unchanged h) old.far new.far) why

pub record WriteBroke (h word old_count new_count : ℕ) (old new : Tells) (why : AccessFault) : Type 0 where
  pub later : old_count ≤ new_count
  pub at : Serving h old.far
  pub heard : WriteFailed dcsr_number (ebreak_halting word) old_count new_count old new why
  pub left : RegisterLeft true h dcsr_number old.far new.far why
  pub cut : IfCut (Leaves (LeftAside (MaybeWritten dcsr_number (ebreak_halting word)) h) old.far new.far) why

pub data EbreakFailed (h old_count new_count : ℕ) (old new : Tells) (why : AccessFault) : Type 0 where
  in_read : ReadBroke h old_count new_count old new why → EbreakFailed h old_count new_count old new why
  in_write : (word count : ℕ) (mid : Tells) → RegisterRead dcsr_number word old mid → WhereTold (RegisterReadAt h dcsr_number word) old.far mid.far
      → old_count ≤ count → WriteBroke h word count new_count mid new why → EbreakFailed h old_count new_count old new why

-- what was set below the hart at which it failed stays set
pub data PrepareFailed (old_count new_count : ℕ) (old new : Tells) (why : AccessFault) : Type 0 where
  in_look : {h count : ℕ} {mid : Tells} → h < most_harts → SetBelow old h mid → old_count ≤ count → LookBroke h count new_count mid new why
      → PrepareFailed old_count new_count old new why
  in_setting : {h count : ℕ} {mid looked : Tells} (x : Halted) → h < most_harts → SetBelow old h mid → LookOf h (seen.Halted x) mid looked
      → old_count ≤ count → EbreakFailed h count new_count looked new why
      → PrepareFailed old_count new_count old new why
