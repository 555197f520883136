-- The calls of a single step: dcsr is read, written with its step flag set, the hart does one instruction, and dcsr is read anew and written with the
-- flag cleared, so that what the instruction changed there stays: the privilege mode that the hart goes on in.
-- RISC-V Debug Specification 1.0, "Single Step" and "Debug Control and Status" (prv).
use Rattle.std.specs.Prelude.{◌≡◌, ℕ, Bool, true, false}
use Rattle.rv_model.specs.Dcsr.{dcsr_of_word, dcsr_word}
use Rattle.probe_access.specs.declared.fault.AccessFault.{AccessFault}
use Rattle.probe_access.specs.declared.fault.AccessFault.TheVariants as fault
use Rattle.probe_run.specs.declared.fault.RunFault.{RunFault}
use Rattle.probe_run.specs.declared.fault.RunFault.TheVariants as run_fault
use Rattle.probe_run.specs.Acts.{Tells}
use Rattle.probe_run.specs.Outcomes.{StepFails, SteppedBy}
use Rattle.probe_access.specs.DcsrRuns.{DcsrRead, DcsrReadFailed}
use Rattle.probe_access.specs.RegisterRuns.{RegisterWritten, WriteFailed}
use Rattle.rv_model.specs.DebugRegisters.{dcsr_number}

-- a word of dcsr with its step flag and stepie so, and its other fields as they were
abbrev pub with_flag : Bool → ℕ → ℕ
with_flag on word = dcsr_word (record (dcsr_of_word word) { step = on; stepie = on })

-- dcsr was written with this word, its flag so
abbrev pub FlagWritten : Bool → ℕ → Tells → Tells → Type 0
FlagWritten on word old new = RegisterWritten dcsr_number (with_flag on word) old new

abbrev pub FlagFailed : Bool → ℕ → ℕ → ℕ → Tells → Tells → AccessFault → Type 0
FlagFailed on word old_count new_count old new e = WriteFailed dcsr_number (with_flag on word) old_count new_count old new e

-- dcsr was read, and written with this word, its flag cleared
pub record FlagCleared (old new : Tells) : Type 0 where
  pub word : ℕ
  pub mid : Tells
  pub read : DcsrRead word old mid
  pub written : FlagWritten false word mid new

pub data ClearFailed (old_count new_count : ℕ) (old new : Tells) (e : AccessFault) : Type 0 where
  at_read : DcsrReadFailed old_count new_count old new e → ClearFailed old_count new_count old new e
  at_write : (word : ℕ) (mid : Tells) → DcsrRead word old mid → FlagFailed false word old_count new_count mid new e
      → ClearFailed old_count new_count old new e

-- a fault of run control among those of accesses: one of the link is the same here as there
abbrev pub of_run : RunFault → AccessFault
of_run (run_fault.Dmi why) = fault.Dmi why
of_run (run_fault.NoHalt looks) = fault.Run (run_fault.NoHalt looks)
of_run (run_fault.NoAck looks) = fault.Run (run_fault.NoAck looks)

-- ---- from a word of dcsr on

-- the flag was set in it, the hart has gone and halted again, and the flag was cleared
pub record SteppedFrom (h word : ℕ) (old new : Tells) : Type 0 where
  pub begun : Tells
  pub ran : Tells
  pub sets : FlagWritten true word old begun
  pub runs : SteppedBy h begun ran
  pub clears : FlagCleared ran new

pub data StepFromFailed (h word old_count new_count : ℕ) (old new : Tells) (e : AccessFault) : Type 0 where
  in_set : FlagFailed true word old_count new_count old new e → StepFromFailed h word old_count new_count old new e
  in_run : (begun : Tells) → FlagWritten true word old begun → (why : RunFault) → StepFails h old_count new_count begun new why → e ≡ of_run why
      → StepFromFailed h word old_count new_count old new e
  in_clear : (begun ran : Tells) → FlagWritten true word old begun → SteppedBy h begun ran → ClearFailed old_count new_count ran new e
      → StepFromFailed h word old_count new_count old new e

-- ---- dcsr was read, and the hart stepped from its word on

pub record SteppedOnce (h : ℕ) (old new : Tells) : Type 0 where
  pub word : ℕ
  pub mid : Tells
  pub read : DcsrRead word old mid
  pub steps : SteppedFrom h word mid new

pub data StepFailed (h old_count new_count : ℕ) (old new : Tells) (e : AccessFault) : Type 0 where
  at_read : DcsrReadFailed old_count new_count old new e → StepFailed h old_count new_count old new e
  behind : (word : ℕ) (mid : Tells) → DcsrRead word old mid → StepFromFailed h word old_count new_count mid new e
      → StepFailed h old_count new_count old new e
