-- The premise on programs, where it holds of a replay's past, holds of the past that the replay began with.
use Rattle.std.proofs.Common.{List}
use Rattle.rv_model.specs.Board.{Machine}
use Rattle.debug_model.specs.declared.point.Point.{Point}
use Rattle.debug_model.specs.declared.point.Point.TheVariants.{Turn, Look, HaltReq, HaltClear, ResumeReq, Access}
use Rattle.std.proofs.Common.{slice_get}
use Rattle.abstract_debugger.specs.Plan.{Change, Plan, PlanEnd, changed_past}
use Rattle.abstract_debugger.specs.Plan.Change.{WriteReg, WriteMem, ArmSlot, FreeSlot, StepOver, StepDone, EbreakHalts, Patch}
use Rattle.abstract_debugger.specs.Trace.{Past}
use Rattle.abstract_debugger.specs.Transcript.{World}
use Rattle.soft_laws.specs.SoftBreaks.{covered}
use Rattle.soft_laws.specs.SoftReplay.{soft_finish, soft_passed, soft_replay, soft_taking}
use Rattle.soft_laws.specs.Undisturbed.{Undisturbed}
use Rattle.soft_laws.proofs.SoftKeeps.{SoftKeeps, soft-finish-keeps, soft-replay-keeps, soft-taking-keeps}
use Rattle.soft_laws.proofs.TurnHides.{noted-since}

since_passed : (m : Machine) (q : Point) (w : World) → Undisturbed m (soft_passed q w).past → Undisturbed m w.past
since_passed m (Turn h) w u = noted-since m (covered w.past) (slice_get w.board.harts h) h w.board.memory w.past u
since_passed m (Look n) w u = u
since_passed m (HaltReq h) w u = u
since_passed m (HaltClear h) w u = u
since_passed m (ResumeReq h) w u = u
since_passed m Access w u = u

since_changed : (m : Machine) (c : Change) (past : Past) → Undisturbed m (changed_past c past) → Undisturbed m past
since_changed m (WriteReg h r v) past u = u.1
since_changed m (WriteMem a count v) past u = u.1
since_changed m (ArmSlot h slot what) past u = u.1
since_changed m (FreeSlot h slot) past u = u.1
since_changed m (StepOver h) past u = u
since_changed m (StepDone h) past u = u
since_changed m (EbreakHalts h on) past u = u
since_changed m (Patch a original covers) past u = u.1.1

-- what is undisturbed of a later world was so of this one
Since : Machine → World → World → Type 0
Since m w v = Undisturbed m v.past → Undisturbed m w.past

since-keeps : (m : Machine) (w : World) → SoftKeeps (Since m w)
unfolding Since
since-keeps m w = record {
  passes = λ q v since u. since (since_passed m q v u);
  changes = λ c v since u. since (since_changed m c v.past u);
  says = λ line v since u. since u;
}

pub since-replay : (m : Machine) (p : Plan) (w : World) (j : List Point) → Undisturbed m (soft_replay p w j).world.past → Undisturbed m w.past
unfolding Since
since-replay m p w j u = soft-replay-keeps (Since m w) (since-keeps m w) p w j (λ v. v) u

pub since-taking : (m : Machine) (q : Point) (next : Plan) (w : World) (j : List Point) → Undisturbed m (soft_taking q (soft_replay next) w j).world.past
    → Undisturbed m w.past
unfolding Since
since-taking m q next w j u =
    soft-taking-keeps (Since m w) (since-keeps m w) q (soft_replay next) (soft-replay-keeps (Since m w) (since-keeps m w) next) w j (λ v. v) u

pub since-finish : (m : Machine) (end : PlanEnd) (w : World) (j : List Point) → Undisturbed m (soft_finish end w j).world.past → Undisturbed m w.past
unfolding Since
since-finish m end w j u = soft-finish-keeps (Since m w) (since-keeps m w) end w j (λ v. v) u
