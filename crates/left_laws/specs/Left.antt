-- What a call of a debugger leaves of a chip, whatever it answers: its journal has grown by points, and its board is the one before, led along them; but
-- for what the call may have lost, which is named.
-- RISC-V Debug Specification 1.0, "Debugger Implementation": a debugger puts back the registers that it uses, where it still can. The words are this
-- project's own.
use Rattle.std.specs.Prelude.{◌≡◌, ◌++◌, ◌+◌, ◌*◌, ◌<◌, ℕ, List, [], ◌∷◌, map, Bool, true, Option, Some, IfSome, slice_get}
use Rattle.rv_model.specs.declared.size.Size.{Size}
use Rattle.rv_model.specs.Board.{Board, DebugPart, Hart, Machine, machine_of}
use Rattle.rv_model.specs.Core.{Core}
use Rattle.rv_model.specs.DebugLaws.{SameRequests}
use Rattle.rv_model.specs.Registers.{first_x_number, reg_written}
use Rattle.rv_model.specs.Size.{count_of}
use Rattle.rv_model.specs.Undebugged.{with_bytes}
use Rattle.debug_model.specs.Journal.{after_point}
use Rattle.debug_model.specs.Kept.{DmiSeen}
use Rattle.debug_model.specs.Told.{Far, site_of}
use Rattle.debug_model.specs.declared.point.Point.{Point}
use Rattle.debug_model.specs.declared.point.Point.TheVariants.{Turn, Look, HaltReq, HaltClear, ResumeReq, Access}
use Rattle.abstract_debugger.specs.Plan.{hart_over, with_debug_part}
use Rattle.abstract_debugger.specs.Slots.{over}
use Rattle.abstract_debugger.specs.Stands.{Target}
use Rattle.probe_run.specs.Happens.{target_of}

-- ---- what a call may do, beside letting turns pass

-- elements of memory, upwards from an address, that are given one value
pub record Block : Type 0 where
  pub size : Size
  pub address : ℕ
  pub value : ℕ
  pub count : ℕ

pub data Harts : Type 0 where
  NoHart : Harts
  OneHart : (hart : ℕ) → Harts
  AnyHart : Harts

abbrev pub IsAmong : ℕ → Harts → Type 0
IsAmong h NoHart = ⊥
IsAmong h (OneHart g) = h ≡ g
IsAmong h AnyHart = Unit {0}

pub record Scope : Type 0 where
  pub asks : Harts  -- those that it looks at, and that it asks to halt and to resume
  pub changes : Harts  -- those whose debug part it writes
  pub accesses : Bool  -- it accesses memory
  pub stores : List Block  -- what accesses may write there: elements of these

abbrev pub InScope : Scope → Point → Type 0
InScope s (Turn h) = Unit {0}
InScope s (Look h) = IsAmong h s.asks
InScope s (HaltReq h) = IsAmong h s.asks
InScope s (HaltClear h) = IsAmong h s.asks
InScope s (ResumeReq h) = IsAmong h s.asks
InScope s Access = s.accesses ≡ true

-- so many bytes at an address are given a value, as one element of a block
pub record IsElement (b : Block) (address count value : ℕ) : Type 0 where
  pub place : ℕ
  pub within : place < b.count
  pub address_is : address ≡ b.address + place * count_of b.size
  pub count_is : count ≡ count_of b.size
  pub value_is : value ≡ b.value

-- an element of one of these
pub record IsStored (blocks : List Block) (address count value : ℕ) : Type 0 where
  pub place : ℕ
  pub block : Block
  pub listed : slice_get blocks place ≡ Some block
  pub element : IsElement block address count value

-- ---- a path from a board to a board along points

-- what f makes of hart h's debug part leaves it halted as it was, or running, with its requests
abbrev pub LeavesRunning : (DebugPart → DebugPart) → ℕ → Board → Type 0
LeavesRunning f h b = (x : Hart) → slice_get b.harts h ≡ Some x → SameRequests x.debug (f x.debug)

abbrev pub bytes_put : ℕ → ℕ → ℕ → Board → Board
bytes_put address count value b = record b { memory = with_bytes b.memory address count value }

-- A debug part that is changed in between is a step of its own, since turns behind it depend on it.
pub data Lives (s : Scope) : Board → List Point → Board → Type 0 where
  stays : (b : Board) → Lives s b [] b
  takes : (p : Point) (b : Board) (points : List Point) (end : Board) → InScope s p → Lives s (after_point p b) points end → Lives s b (p ∷ points) end
  puts : (address count value : ℕ) (b : Board) (points : List Point) (end : Board) → IsStored s.stores address count value
      → Lives s (bytes_put address count value b) points end → Lives s b (Access ∷ points) end
  changes : (f : DebugPart → DebugPart) (h : ℕ) (b : Board) (points : List Point) (end : Board) → IsAmong h s.changes → LeavesRunning f h b
      → Lives s (hart_over (with_debug_part f) h b) points end → Lives s b points end

-- ---- what a call may lose

pub data Spared : Type 0 where
  Nothing : Spared
  Registers : (hart : ℕ) (numbers : List ℕ) → Spared  -- of one hart, by the debugger's numbers

-- x8 and x9, which accesses to memory use
abbrev pub scratch : List ℕ
scratch = (first_x_number + 8) ∷ (first_x_number + 9) ∷ []

-- a core with these registers 0, as far as they can be written
abbrev pub wiped_core : List ℕ → Core → Core
wiped_core [] c = c
wiped_core (n ∷ numbers) c = wiped_core numbers (reg_written c n 0)

-- a machine where what may be lost is 0, so that two of them are the same where they agree in all else
abbrev pub wiped : Spared → Machine → Machine
wiped Nothing m = m
wiped (Registers h numbers) m = record m { cores = over h (wiped_core numbers) m.cores }

-- ---- what a call leaves

-- what a program does not see of the harts
abbrev pub parts_of : Board → List DebugPart
parts_of b = map (λ (x : Hart). x.debug) b.harts

pub record LeftBut (scope : Scope) (spared : Spared) (old new : Target) : Type 0 where
  pub points : List Point
  pub board : Board
  pub lives : Lives scope old.board points board
  pub journal : new.journal ≡ old.journal ++ points
  pub alike : wiped spared (machine_of new.board) ≡ wiped spared (machine_of board)
  pub parts : parts_of new.board ≡ parts_of board

-- ---- of a told chip

pub record LeftFar (scope : Scope) (spared : Spared) (f : Far) (new : Option Far) : Type 0 where
  pub far : Far
  pub is : new ≡ Some far
  pub left : LeftBut scope spared (target_of (site_of f)) (target_of (site_of far))

abbrev pub LeavesBut : Scope → Spared → DmiSeen → DmiSeen → Type 0
LeavesBut scope spared old new = IfSome old.far (λ f. LeftFar scope spared f new.far)
