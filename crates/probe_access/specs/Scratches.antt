-- What the saving and the putting back of x8 and x9 do at a told chip.
-- RISC-V Debug Specification 1.0, "Debugger Implementation": a debugger saves the registers that it uses.
use Rattle.std.specs.Prelude.{◌≡◌, ℕ, Option, Some, None}
use Rattle.rv_model.specs.Board.{Hart}
use Rattle.rv_model.specs.DebugRegisters.{debug_value, debug_written}
use Rattle.debug_model.specs.Chip.{Chip}
use Rattle.debug_model.specs.Told.{Far, site_of}
use Rattle.probe_access.specs.declared.fault.AccessFault.{AccessFault}
use Rattle.probe_access.specs.declared.fault.AccessFault.TheVariants as fault
use Rattle.probe_access.specs.Registers.{IsHartAt, TurnsPassed, TurnsPassedBut, site_before}
use Rattle.probe_access.specs.RegisterAccess.{x8_number, x9_number}

-- the hart holds these
pub record SavedAt (h x8 x9 : ℕ) (c : Chip) (new : Option Far) : Type 0 where
  pub far : Far
  pub is : new ≡ Some far
  pub hart : Hart
  pub here : IsHartAt h (site_before c).board hart
  pub x8_is : debug_value hart x8_number ≡ Some x8
  pub x9_is : debug_value hart x9_number ≡ Some x9
  pub passed : TurnsPassed (site_before c) (site_of far)

-- it takes these, and is as it was but for them
pub record PutBackAt (h x8 x9 : ℕ) (c : Chip) (new : Option Far) : Type 0 where
  pub far : Far
  pub is : new ≡ Some far
  pub hart : Hart
  pub here : IsHartAt h (site_before c).board hart
  pub passed : TurnsPassedBut h (debug_written (debug_written hart x8_number x8) x9_number x9) (site_before c) (site_of far)

-- by the fault: neither register is refused, and no other error shown, of a told chip
abbrev pub ScratchLeft : Option Far → AccessFault → Type 0
ScratchLeft old (fault.Dmi why) = Unit {0}
ScratchLeft old (fault.Memory at) = ⊥
ScratchLeft old (fault.Register number) = old ≡ None
ScratchLeft old fault.StillBusy = Unit {0}
ScratchLeft old (fault.Run why) = ⊥
ScratchLeft old (fault.Odd shown) = old ≡ None
