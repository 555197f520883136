-- What an access to a register does at a told chip, where turns of harts are all else that happens.
-- RISC-V Debug Specification 1.0, "Access Register": a register is reached while its hart is halted, and no other hart takes part.
use Rattle.std.specs.Prelude.{◌≡◌, ◌++◌, ◌&&◌, ℕ, List, Bool, true, false, not, Option, Some, None, is_some, slice_get}
use Rattle.rv_model.specs.Board.{Board, Hart}
use Rattle.rv_model.specs.DebugRegisters.{debug_refuses, debug_value, debug_written}
use Rattle.debug_model.specs.Chip.{Chip}
use Rattle.debug_model.specs.Module.{Site}
use Rattle.debug_model.specs.Scan.{WhereTold}
use Rattle.debug_model.specs.Told.{Far, site_of}
use Rattle.abstract_debugger.specs.Turns.{after_turns, turns}
use Rattle.probe_access.specs.declared.fault.AccessFault.{AccessFault}
use Rattle.probe_access.specs.declared.fault.AccessFault.TheVariants as fault
use Rattle.probe_run.specs.Sites.{put_hart}

-- the harts and memory are as these turns leave them, the journal has them and no point besides, and the bus is as it was
pub record TurnsPassed (s t : Site) : Type 0 where
  pub harts : List ℕ
  pub board : t.board ≡ after_turns harts s.board
  pub journal : t.journal ≡ s.journal ++ turns harts
  pub bus : t.unit.bus ≡ s.unit.bus

-- the same, but for hart h, which is this one
pub record TurnsPassedBut (h : ℕ) (y : Hart) (s t : Site) : Type 0 where
  pub harts : List ℕ
  pub board : t.board ≡ put_hart h y (after_turns harts s.board)
  pub journal : t.journal ≡ s.journal ++ turns harts
  pub bus : t.unit.bus ≡ s.unit.bus

-- hart h is this one
abbrev pub IsHartAt : ℕ → Board → Hart → Type 0
IsHartAt h b x = slice_get b.harts h ≡ Some x

abbrev pub site_before : Chip → Site
site_before c = c.inside.works.site

-- the register held this, and holds it still
pub record RegisterReadAt (h number value : ℕ) (c : Chip) (new : Option Far) : Type 0 where
  pub far : Far
  pub is : new ≡ Some far
  pub hart : Hart
  pub here : IsHartAt h (site_before c).board hart
  pub value_is : debug_value hart number ≡ Some value
  pub passed : TurnsPassed (site_before c) (site_of far)

-- the register was written, as far as it can be, and nothing else
pub record RegisterWrittenAt (h number value : ℕ) (c : Chip) (new : Option Far) : Type 0 where
  pub far : Far
  pub is : new ≡ Some far
  pub hart : Hart
  pub here : IsHartAt h (site_before c).board hart
  pub there : is_some (debug_value hart number) ≡ true
  pub writable : debug_refuses number ≡ false
  pub passed : TurnsPassedBut h (debug_written hart number value) (site_before c) (site_of far)

-- can it be read, or written?
abbrev pub reaches : Bool → Hart → ℕ → Bool
reaches write hart number = is_some (debug_value hart number) && not (write && debug_refuses number)

-- it can't, and nothing was done
pub record RegisterRefusedAt (write : Bool) (h number : ℕ) (c : Chip) (new : Option Far) : Type 0 where
  pub far : Far
  pub is : new ≡ Some far
  pub hart : Hart
  pub here : IsHartAt h (site_before c).board hart
  pub denied : reaches write hart number ≡ false
  pub passed : TurnsPassed (site_before c) (site_of far)

-- by the fault: an error that no case names never comes of a told chip
abbrev pub RegisterLeft : Bool → ℕ → ℕ → Option Far → Option Far → AccessFault → Type 0
RegisterLeft write h number old new (fault.Dmi why) = Unit {0}
RegisterLeft write h number old new (fault.Memory address) = ⊥
RegisterLeft write h number old new (fault.Register asked) = WhereTold (RegisterRefusedAt write h number) old new
RegisterLeft write h number old new fault.StillBusy = Unit {0}
RegisterLeft write h number old new (fault.Run why) = ⊥
RegisterLeft write h number old new (fault.Odd shown) = old ≡ None

-- a fact that holds behind a fault of the register
abbrev pub IfRegister : Type 0 → AccessFault → Type 0
IfRegister P (fault.Dmi why) = Unit {0}
IfRegister P (fault.Memory address) = Unit {0}
IfRegister P (fault.Register asked) = P
IfRegister P fault.StillBusy = Unit {0}
IfRegister P (fault.Run why) = Unit {0}
IfRegister P (fault.Odd shown) = Unit {0}
