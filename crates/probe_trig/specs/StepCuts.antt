-- What a told chip shows where stepping over or letting go broke off, behind a fault of the link or behind 64 polls in vain: turns, a front of the points
-- that the call makes, and of the hart at most the registers that the call writes.
-- RISC-V Debug Specification 1.0, "Abstract Commands" and "Run Control". That a call goes through these stages is this project's own.
use Rattle.std.specs.Prelude.{◌≡◌, ℕ, List, map, true, Option, IfSome}
use Rattle.rv_model.specs.declared.slot.Slot.{Slot}
use Rattle.rv_model.specs.Board.{Hart}
use Rattle.debug_model.specs.declared.point.Point.TheVariants.{ResumeReq}
use Rattle.debug_model.specs.Told.{Far}
use Rattle.abstract_debugger.specs.Debugger.{sees_ack, sees_both}
use Rattle.abstract_debugger.specs.Plan.{step_begun, with_debug_part}
use Rattle.abstract_debugger.specs.Slots.{any_hit, slots_at}
use Rattle.abstract_debugger.specs.Stands.{Rewrote, Target, WentOn}
use Rattle.probe_access.specs.Registers.{IsHartAt}
use Rattle.probe_access.specs.SingleSteps.{with_step}
use Rattle.probe_run.specs.Happens.{RunCut, StepsAt}
use Rattle.probe_trig.specs.Going.{IsThroughAt}
use Rattle.probe_trig.specs.Slots.{AtHarts, DebugAlone}

-- ---- the hart

abbrev pub addresses_of : List Slot → List ℕ
addresses_of slots = map (λ (s : Slot). s.tdata2) slots

-- at most its tselect, the tdata1 of its slots, its step flag and stepie are others: it is halted as it was, with its requests
pub record OverAlone (x y : Hart) : Type 0 where
  pub alone : DebugAlone x y
  pub ebreakm : y.debug.ebreakm ≡ x.debug.ebreakm
  pub addresses : addresses_of y.debug.slots ≡ addresses_of x.debug.slots

-- ---- at the harts

-- turns passed, and of hart h, as it stood behind some of them, at most these registers are others
pub record OverAside (h : ℕ) (old new : Target) : Type 0 where
  pub mid : Target
  pub went : WentOn old mid
  pub hart : Hart
  pub here : IsHartAt h mid.board hart
  pub left : Hart
  pub one : OverAlone hart left
  pub wrote : Rewrote (λ (x : Hart). left) h mid new

-- while the hart ran, which had been made ready for the step
pub record CutStepping (sets : Hart → Hart) (h : ℕ) (old new : Target) : Type 0 where
  pub begun : Target
  pub set_so : Rewrote sets h old begun
  pub runs : RunCut (ResumeReq h) sees_both h begun new

-- behind the step
pub record CutEnding (sets : Hart → Hart) (h : ℕ) (old new : Target) : Type 0 where
  pub begun : Target
  pub set_so : Rewrote sets h old begun
  pub ran : Target
  pub steps : StepsAt h begun ran
  pub left : OverAside h ran new

pub data StepCutAt (sets : Hart → Hart) (h : ℕ) (old new : Target) : Type 0 where
  before_step : OverAside h old new → StepCutAt sets h old new
  in_step : CutStepping sets h old new → StepCutAt sets h old new
  behind_step : CutEnding sets h old new → StepCutAt sets h old new

-- of a hart whose slots with a hit are off
abbrev pub BackCut : ℕ → Target → Target → Type 0
BackCut h = StepCutAt (with_step true) h

abbrev pub OverCut : ℕ → Target → Target → Type 0
OverCut h = StepCutAt (with_debug_part step_begun) h

-- while the hart was let go
pub record CutGoing (h : ℕ) (old new : Target) : Type 0 where
  pub mid : Target
  pub through : IsThroughAt h old mid
  pub runs : RunCut (ResumeReq h) sees_ack h mid new

-- a step is made where a slot has a hit alone
pub data GoCut (h : ℕ) (old new : Target) : Type 0 where
  in_hold : OverAside h old new → GoCut h old new
  in_over : any_hit (slots_at h old.board) ≡ true → OverCut h old new → GoCut h old new
  in_resume : CutGoing h old new → GoCut h old new

-- ---- at the chip

-- of a chip that was told: this happened at the harts, and the bus is as it was
abbrev pub LeavesAt : (Target → Target → Type 0) → Option Far → Option Far → Type 0
LeavesAt R old new = IfSome old (λ f. AtHarts R f.live.chip new)
