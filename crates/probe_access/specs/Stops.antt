-- Where a halted hart stands, and why it halted: both registers are read in one call, and again by calls of their own where its end shows an error.
-- RISC-V Debug Specification 1.0, "Debug PC" and "Debug Control and Status". That one call reads both is this project's own choice.
use Rattle.std.specs.Prelude.{◌≡◌, ◌≢◌, ◌++◌, ◌∷◌, ℕ, List, [], false, Option, Some, None}
use Rattle.rv_model.specs.Board.{Hart}
use Rattle.rv_model.specs.Dcsr.{dcsr_of_word, shown_cause}
use Rattle.rv_model.specs.DebugRegisters.{dcsr_number}
use Rattle.debug_model.specs.Addresses.{abstractcs_address, command_address, data0_address, data1_address}
use Rattle.debug_model.specs.declared.dmi_op.DmiOp.TheVariants.{Read, Write}
use Rattle.debug_model.specs.Chip.{Chip}
use Rattle.debug_model.specs.Told.{Far, site_of}
use Rattle.probe_access.specs.declared.fault.AccessFault.{AccessFault}
use Rattle.probe_access.specs.declared.stopped.Stop.{Stop}
use Rattle.probe_run.specs.Acts.{Act, Tells}
use Rattle.probe_run.specs.Acts.Act.{Got, Put}
use Rattle.probe_access.specs.CommandRuns.{EndBehindFailed, EndedBehind, error_shown}
use Rattle.probe_access.specs.RegisterAccess.{joined, transfer_word}
use Rattle.probe_access.specs.Registers.{IsHartAt, TurnsPassed, site_before}
use Rattle.probe_access.specs.RegisterRuns.{ReadApart, ReadApartFailed, asked_acts, no_error}

abbrev pub dpc_number : ℕ
dpc_number = 0x7b1

-- ---- in one call, with one poll for both: with an error that a word read too early has set no command starts

-- dcsr has 32 bits: its lower word is all of it
abbrev pub stop_acts : ℕ → ℕ → ℕ → List Act
stop_acts low high word = asked_acts dpc_number low high ++ (Put command_address (transfer_word false dcsr_number) ∷ Got data0_address word ∷ [])

pub data AsksStop : List Act → Type 0 where
  asks : (low high word : ℕ) → AsksStop (stop_acts low high word)

-- the end showed no error: the words are what both hold
pub record StopAtOnce (pc cause : ℕ) (old new : Tells) : Type 0 where
  pub low : ℕ
  pub high : ℕ
  pub word : ℕ
  pub last : ℕ
  pub pc_is : pc ≡ joined low high
  pub cause_is : cause ≡ (dcsr_of_word word).cause
  pub ended : EndedBehind (stop_acts low high word) last old new
  pub error_is : error_shown last ≡ no_error

-- it showed an error, which was cleared: the words mean nothing
pub record StopTooEarly (old new : Tells) : Type 0 where
  pub low : ℕ
  pub high : ℕ
  pub word : ℕ
  pub last : ℕ
  pub ended : EndedBehind (stop_acts low high word) last old new
  pub some : error_shown last ≢ no_error

-- by its answer
abbrev pub StopAsked : Option Stop → Tells → Tells → Type 0
StopAsked (Some stop) old new = StopAtOnce stop.pc stop.cause old new
StopAsked None old new = StopTooEarly old new

abbrev pub StopAskFailed : ℕ → ℕ → Tells → Tells → AccessFault → Type 0
StopAskFailed old_count new_count old new e = EndBehindFailed AsksStop (Write command_address (transfer_word false dpc_number))
    (Read data1_address ∷ Read data0_address ∷ Write command_address (transfer_word false dcsr_number) ∷ Read data0_address ∷ Read abstractcs_address ∷ [])
    old_count new_count old new e

-- ---- by calls of their own

pub record StopApart (pc cause : ℕ) (old new : Tells) : Type 0 where
  pub mid : Tells
  pub word : ℕ
  pub first : ReadApart dpc_number pc old mid
  pub second : ReadApart dcsr_number word mid new
  pub cause_is : cause ≡ (dcsr_of_word word).cause

pub data StopApartFailed (old_count new_count : ℕ) (old new : Tells) (e : AccessFault) : Type 0 where
  at_dpc : ReadApartFailed dpc_number old_count new_count old new e → StopApartFailed old_count new_count old new e
  at_dcsr : (pc : ℕ) (mid : Tells) → ReadApart dpc_number pc old mid → ReadApartFailed dcsr_number old_count new_count mid new e
      → StopApartFailed old_count new_count old new e

-- ---- in one call, or behind that by calls of their own

pub data StopRead (pc cause : ℕ) (old new : Tells) : Type 0 where
  at_once : StopAtOnce pc cause old new → StopRead pc cause old new
  late : (mid : Tells) → StopTooEarly old mid → StopApart pc cause mid new → StopRead pc cause old new

pub data StopFailed (old_count new_count : ℕ) (old new : Tells) (e : AccessFault) : Type 0 where
  asking : StopAskFailed old_count new_count old new e → StopFailed old_count new_count old new e
  late : (mid : Tells) → StopTooEarly old mid → StopApartFailed old_count new_count mid new e → StopFailed old_count new_count old new e

-- ---- at the chip

-- the hart stands there, for this reason
pub record StoppedAt (h pc cause : ℕ) (c : Chip) (new : Option Far) : Type 0 where
  pub far : Far
  pub is : new ≡ Some far
  pub hart : Hart
  pub here : IsHartAt h (site_before c).board hart
  pub pc_is : pc ≡ hart.core.pc
  pub cause_is : cause ≡ shown_cause hart.debug.halted
  pub passed : TurnsPassed (site_before c) (site_of far)
