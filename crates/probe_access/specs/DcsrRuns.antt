-- The calls by which dcsr is read: the command and the lower data word in one call, and again by calls of their own where its end shows an error.
-- RISC-V Debug Specification 1.0, "Debug Control and Status" and "Access Register". That one call reads it is this project's own choice.
use Rattle.std.specs.Prelude.{◌≢◌, ◌≡◌, ◌∷◌, ℕ, List, [], false, Option, Some, None}
use Rattle.rv_model.specs.DebugRegisters.{dcsr_number}
use Rattle.debug_model.specs.Addresses.{abstractcs_address, command_address, data0_address}
use Rattle.debug_model.specs.declared.dmi_op.DmiOp.TheVariants.{Read, Write}
use Rattle.probe_access.specs.declared.fault.AccessFault.{AccessFault}
use Rattle.probe_run.specs.Acts.{Act, Tells}
use Rattle.probe_run.specs.Acts.Act.{Got, Put}
use Rattle.probe_access.specs.CommandRuns.{EndBehindFailed, EndedBehind, error_shown}
use Rattle.probe_access.specs.RegisterAccess.{transfer_word}
use Rattle.probe_access.specs.RegisterRuns.{ReadApart, ReadApartFailed, no_error}

-- ---- in one call

-- dcsr has 32 bits: its lower word is all of it
abbrev pub dcsr_acts : ℕ → List Act
dcsr_acts word = Put command_address (transfer_word false dcsr_number) ∷ Got data0_address word ∷ []

pub data AsksDcsr : List Act → Type 0 where
  asks : (word : ℕ) → AsksDcsr (dcsr_acts word)

-- the end showed no error: the word is what dcsr holds
pub record DcsrAtOnce (word : ℕ) (old new : Tells) : Type 0 where
  pub last : ℕ
  pub ended : EndedBehind (dcsr_acts word) last old new
  pub error_is : error_shown last ≡ no_error

-- it showed an error, which was cleared: the word means nothing
pub record DcsrTooEarly (old new : Tells) : Type 0 where
  pub word : ℕ
  pub last : ℕ
  pub ended : EndedBehind (dcsr_acts word) last old new
  pub some : error_shown last ≢ no_error

-- by its answer
abbrev pub DcsrAsked : Option ℕ → Tells → Tells → Type 0
DcsrAsked (Some word) old new = DcsrAtOnce word old new
DcsrAsked None old new = DcsrTooEarly old new

abbrev pub DcsrAskFailed : ℕ → ℕ → Tells → Tells → AccessFault → Type 0
DcsrAskFailed old_count new_count old new e = EndBehindFailed AsksDcsr (Write command_address (transfer_word false dcsr_number))
    (Read data0_address ∷ Read abstractcs_address ∷ []) old_count new_count old new e

-- ---- in one call, or behind that by calls of their own

pub data DcsrRead (word : ℕ) (old new : Tells) : Type 0 where
  at_once : DcsrAtOnce word old new → DcsrRead word old new
  late : (mid : Tells) → DcsrTooEarly old mid → ReadApart dcsr_number word mid new → DcsrRead word old new

pub data DcsrReadFailed (old_count new_count : ℕ) (old new : Tells) (e : AccessFault) : Type 0 where
  asking : DcsrAskFailed old_count new_count old new e → DcsrReadFailed old_count new_count old new e
  late : (mid : Tells) → DcsrTooEarly old mid → ReadApartFailed dcsr_number old_count new_count mid new e
      → DcsrReadFailed old_count new_count old new e
