-- A board: one to four harts and one memory. A hart is its core, which a program sees, and beside it a debug part, which only a debugger sees.
-- RISC-V Debug Specification 1.0, "Debug Control and Status", "Debug Module Status" and "Sdtrig (ISA Extension)". Forgetting the debug parts is `cores`.
use Rattle.std.specs.Prelude.{◌≡◌, ℕ, ◌+◌, ◌≤◌, ◌<◌, Bool, true, false, List, [], ◌∷◌, map, replicate, length, Option, Some, None, slice_get, slice_set}
use Rattle.rv_model.specs.declared.cause.Cause.{Cause}
use Rattle.rv_model.specs.declared.cause.Cause.TheVariants.{Reset}
use Rattle.rv_model.specs.declared.slot.Slot.{Slot}
use Rattle.rv_model.specs.declared.slot.Trigger.TheVariants.{Disabled}
use Rattle.rv_model.specs.declared.version.Version.{Version}
use Rattle.rv_model.specs.Memory.{Memory, hart_places}
use Rattle.rv_model.specs.Core.{Core, IsCore, reset_core}
use Rattle.rv_model.specs.Effects.{Outcome}
use Rattle.rv_model.specs.Execute.{exec_of}
use Rattle.rv_model.specs.Triggers.{CountsFit}

pub record DebugPart : Type 0 where
  pub version : Version  -- of the specification that the hart follows: it never changes
  pub halted : Option Cause  -- why the hart is halted, or none where it runs
  pub halt_request : Bool
  pub resume_request : Bool
  pub resume_ack : Bool
  pub have_reset : Bool  -- the hart has been reset, and the debugger has not said that it knows
  pub step : Bool  -- dcsr.step
  pub stepie : Bool  -- dcsr.stepie
  pub ebreakm : Bool  -- dcsr.ebreakm
  pub tselect : ℕ  -- below 4
  pub slots : List Slot  -- four

pub record Hart : Type 0 where
  pub core : Core
  pub debug : DebugPart

pub record Board : Type 0 where
  pub harts : List Hart
  pub memory : Memory

-- a board that nobody debugs
pub record Machine : Type 0 where
  pub cores : List Core
  pub memory : Memory

-- ---- forgetting the debug parts

abbrev pub cores : List Hart → List Core
cores hs = map (λ (h : Hart). h.core) hs

abbrev pub machine_of : Board → Machine
machine_of b = record { cores = cores b.harts; memory = b.memory }

-- ---- execution by one hart

abbrev pub with_outcome : ℕ → Outcome → Machine → Machine
with_outcome h o b = record { cores = slice_set b.cores h o.step.core; memory = o.memory }

abbrev pub execute_by : Option Core → ℕ → Machine → Machine
execute_by (Some c) h b = with_outcome h (exec_of c b.memory) b
execute_by None h b = b

-- a machine after one instruction, trap or interrupt of hart h; nothing where there is no such hart
abbrev pub execute : ℕ → Machine → Machine
execute h b = execute_by (slice_get b.cores h) h b

-- ---- reset

abbrev pub slot_count : ℕ
slot_count = 4

abbrev pub free_slot : Slot
free_slot = record { trigger = Disabled; tdata2 = 0 }

-- the debug part of a hart that has just been reset; given is the cause of its halt, or none where it runs
abbrev pub reset_debug : Version → Option Cause → DebugPart
reset_debug version halted = record {
  version = version;
  halted = halted;
  halt_request = false;
  resume_request = false;
  resume_ack = false;
  have_reset = true;
  step = false;
  stepie = false;
  ebreakm = false;
  tselect = 0;
  slots = replicate slot_count free_slot;
}

abbrev pub reset_hart : Version → ℕ → Option Cause → Hart
reset_hart version id halted = record { core = reset_core id; debug = reset_debug version halted }

-- one hart for each, from a number on, halted by these causes or running
abbrev pub reset_harts : Version → ℕ → List (Option Cause) → List Hart
reset_harts version id [] = []
reset_harts version id (halted ∷ rest) = reset_hart version id halted ∷ reset_harts version (id + 1) rest

abbrev pub reset_board : Version → List (Option Cause) → Memory → Board
reset_board version halted m = record { harts = reset_harts version 0 halted; memory = m }

abbrev pub runs : Option Cause
runs = None

abbrev pub halted_by_reset : Option Cause
halted_by_reset = Some Reset

-- what is true of every hart from reset on: its core is whole and has the hart's place as its number, and one of its four slots is selected
pub record IsHart (h : ℕ) (hart : Hart) : Type 0 where
  pub number : hart.core.id ≡ h
  pub core : IsCore hart.core
  pub slots : length hart.debug.slots ≡ slot_count
  pub counts : CountsFit hart.debug.slots
  pub selected : hart.debug.tselect < slot_count

-- and of every board: one to four harts, and a place for the reservation of each that there may be
pub record IsBoard (b : Board) : Type 0 where
  pub some_hart : 0 < length b.harts
  pub at_most_four : length b.harts ≤ hart_places
  pub harts : (h : ℕ) (hart : Hart) → slice_get b.harts h ≡ Some hart → IsHart h hart
  pub places : length b.memory.reserved ≡ hart_places
