-- What is left of a told chip where a call broke off: behind a fault of the link, or behind 64 polls in vain.
-- RISC-V Debug Specification 1.0, "Abstract Commands": what was started goes on in the chip's own time. So turns alone happen beside what the call does,
-- and of that a front is done.
use Rattle.std.specs.Prelude.{◌≡◌, ◌⊎◌, ◌++◌, ◌∷◌, ℕ, List, Option, Some, IfSome}
use Rattle.rv_model.specs.declared.size.Size.{Size}
use Rattle.rv_model.specs.Board.{Hart}
use Rattle.rv_model.specs.DebugRegisters.{debug_written}
use Rattle.rv_model.specs.Memory.{Memory, after_store}
use Rattle.debug_model.specs.declared.point.Point.TheVariants.{Access}
use Rattle.debug_model.specs.Chip.{Chip}
use Rattle.debug_model.specs.Module.{Site}
use Rattle.debug_model.specs.Told.{Far, site_of}
use Rattle.abstract_debugger.specs.Turns.{after_turns, turns}
use Rattle.probe_access.specs.declared.fault.AccessFault.{AccessFault}
use Rattle.probe_access.specs.declared.fault.AccessFault.TheVariants as fault
use Rattle.probe_run.specs.Sites.{put_hart}
use Rattle.probe_access.specs.Accesses.{with_memory}
use Rattle.probe_access.specs.Registers.{IsHartAt, site_before}
use Rattle.probe_access.specs.RegisterAccess.{x8_number, x9_number}

-- ---- the hart

-- what may have become of it, by what it was
abbrev pub Unchanged : Hart → Hart → Type 0
Unchanged x y = y ≡ x

-- one register was written, or not yet
abbrev pub MaybeWritten : ℕ → ℕ → Hart → Hart → Type 0
MaybeWritten number value x y = (y ≡ x) ⊎ (y ≡ debug_written x number value)

-- x8 and x9 were put back, or neither, or the first
abbrev pub MaybePutBack : ℕ → ℕ → Hart → Hart → Type 0
MaybePutBack x8 x9 x y = MaybeWritten x8_number x8 x y ⊎ (y ≡ debug_written (debug_written x x8_number x8) x9_number x9)

-- x8 and x9 hold anything, and nothing else was changed
pub record Scratched (x y : Hart) : Type 0 where
  pub x8 : ℕ
  pub x9 : ℕ
  pub is : y ≡ debug_written (debug_written x x8_number x8) x9_number x9

-- ---- the site

-- turns passed, hart h is as this says, and the bus is as it was
pub record LeftAside (Y : Hart → Hart → Type 0) (h : ℕ) (s t : Site) : Type 0 where
  pub hart : Hart
  pub here : IsHartAt h s.board hart
  pub left : Hart
  pub one : Y hart left
  pub harts : List ℕ
  pub board : t.board ≡ put_hart h left (after_turns harts s.board)
  pub journal : t.journal ≡ s.journal ++ turns harts
  pub bus : t.unit.bus ≡ s.unit.bus

-- turns passed, one access was made, and turns passed; it left memory so
pub record LeftBehind (Y : Hart → Hart → Type 0) (N : Memory → Memory → Type 0) (h : ℕ) (s t : Site) : Type 0 where
  pub hart : Hart
  pub here : IsHartAt h s.board hart
  pub left : Hart
  pub one : Y hart left
  pub before : List ℕ
  pub behind : List ℕ
  pub memory : Memory
  pub made : N (after_turns before s.board).memory memory
  pub board : t.board ≡ put_hart h left (after_turns behind (with_memory memory (after_turns before s.board)))
  pub journal : t.journal ≡ (s.journal ++ turns before) ++ Access ∷ turns behind
  pub bus : t.unit.bus ≡ s.unit.bus

-- at most one access
pub data AccessLeftOff (Y : Hart → Hart → Type 0) (N : Memory → Memory → Type 0) (h : ℕ) (s t : Site) : Type 0 where
  before_it : LeftAside Y h s t → AccessLeftOff Y N h s t
  behind_it : LeftBehind Y N h s t → AccessLeftOff Y N h s t

-- ---- by the system bus: all but the bus is as it was

-- turns passed, and no access was made
pub record BusBefore (s t : Site) : Type 0 where
  pub harts : List ℕ
  pub board : t.board ≡ after_turns harts s.board
  pub journal : t.journal ≡ s.journal ++ turns harts
  pub unit : t.unit ≡ record s.unit { bus = t.unit.bus }

-- turns passed, one access was made, and turns passed; it left memory so
pub record BusBehind (N : Memory → Memory → Type 0) (s t : Site) : Type 0 where
  pub before : List ℕ
  pub behind : List ℕ
  pub memory : Memory
  pub made : N (after_turns before s.board).memory memory
  pub board : t.board ≡ after_turns behind (with_memory memory (after_turns before s.board))
  pub journal : t.journal ≡ (s.journal ++ turns before) ++ Access ∷ turns behind
  pub unit : t.unit ≡ record s.unit { bus = t.unit.bus }

pub data BusLeftOff (N : Memory → Memory → Type 0) (s t : Site) : Type 0 where
  before_it : BusBefore s t → BusLeftOff N s t
  behind_it : BusBehind N s t → BusLeftOff N s t

-- ---- memory

-- a load leaves memory, and a store stores, or is refused
abbrev pub LoadLeaves : Memory → Memory → Type 0
LoadLeaves m n = n ≡ m

abbrev pub StoreLeaves : Size → ℕ → ℕ → Memory → Memory → Type 0
StoreLeaves size address value m n = n ≡ after_store m address size value

-- ---- at the chip

pub record IsLeft (R : Site → Site → Type 0) (c : Chip) (new : Option Far) : Type 0 where
  pub far : Far
  pub is : new ≡ Some far
  pub left : R (site_before c) (site_of far)

-- of a chip that was told
abbrev pub Leaves : (Site → Site → Type 0) → Option Far → Option Far → Type 0
Leaves R old new = IfSome old (λ f. IsLeft R f.live.chip new)

-- a fact that holds where a call broke off
abbrev pub IfCut : Type 0 → AccessFault → Type 0
IfCut P (fault.Dmi why) = P
IfCut P (fault.Memory at) = Unit {0}
IfCut P (fault.Register number) = Unit {0}
IfCut P fault.StillBusy = P
IfCut P (fault.Run why) = Unit {0}
IfCut P (fault.Odd shown) = Unit {0}
