-- What is known of a world in the middle of a session: it is transparent, first match holds so far, and each hart fits the way in which the debugger stands
-- to it.
-- It is this project's own.
use Rattle.std.specs.Prelude.{◌≡◌, ◌==◌, ℕ, false, Some, slice_get, if◌then◌else◌}
use Rattle.rv_model.specs.declared.slot.Slot.{Slot}
use Rattle.rv_model.specs.declared.slot.Trigger.TheVariants.{Disabled}
use Rattle.rv_model.specs.Board.{Board, DebugPart, Hart, Machine, machine_of}
use Rattle.rv_model.specs.TurnLaws.{StepsUnmasked}
use Rattle.abstract_debugger.specs.FirstMatch.{FirstMatch}
use Rattle.abstract_debugger.specs.Own.{lived}
use Rattle.abstract_debugger.specs.Transcript.{World}
use Rattle.abstract_debugger.specs.Ways.{Fits, Way}
use Rattle.abstract_debugger.specs.Ways.Way.{Idle}

-- the way to hart j, where only one hart has another way than idle
abbrev pub way_at : ℕ → Way → ℕ → Way
way_at selected way j = if j == selected then way else Idle

-- forgetting the debug parts, the board is the machine that lived through the past, and no step masks its interrupts
pub record Erased (m : Machine) (w : World) : Type 0 where
  pub machine : machine_of w.board ≡ lived m w.past
  pub unmasked : StepsUnmasked w.board

pub record IsKnown (m : Machine) (selected : ℕ) (way : Way) (w : World) : Type 0 where
  pub erased : Erased m w
  pub right : FirstMatch m w.past
  pub each : (j : ℕ) (hart : Hart) → slice_get w.board.harts j ≡ Some hart → Fits (way_at selected way j) j w.past hart.debug

-- ---- where a session begins

-- nobody has asked the hart to resume or to step, and no slot is in use
pub record IsFreshPart (d : DebugPart) : Type 0 where
  pub not_asked : d.resume_request ≡ false
  pub no_step : d.step ≡ false
  pub unused : (k : ℕ) (s : Slot) → slice_get d.slots k ≡ Some s → s.trigger ≡ Disabled

-- a board whose harts no debugger has touched
abbrev pub IsFresh : Board → Type 0
IsFresh b = (j : ℕ) (hart : Hart) → slice_get b.harts j ≡ Some hart → IsFreshPart hart.debug
