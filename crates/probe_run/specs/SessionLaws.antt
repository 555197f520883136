-- What the calls of run control do for a session: each leads from its place in a debugger's plan to the next.
-- It is this project's own: the plans are those of the abstract debugger, over every origin, every plan that follows and all lines said before.
use Rattle.std.specs.Prelude.{ℕ, List}
use Rattle.rv_model.specs.Board.{Machine}
use Rattle.debug_model.specs.declared.point.Point.TheVariants.{ResumeReq}
use Rattle.abstract_debugger.specs.Debugger.{going, halting, lost_step, most_looks, sees_both, unseen, until}
use Rattle.abstract_debugger.specs.Lines.{Line}
use Rattle.abstract_debugger.specs.Plan.{Plan}
use Rattle.abstract_debugger.specs.Plan.Plan.{take}
use Rattle.abstract_debugger.specs.Stands.{Deals, Origin, Target}
use Rattle.abstract_debugger.specs.Ways.Way.{Holding, Idle, Over, Ready, Still}
use Rattle.probe_run.specs.Happens.{HaltsAt, ResumesAt, StepsAt}

abbrev pub HaltsLead : Type 0
HaltsLead = (m : Machine) (h : ℕ) (o : Origin) (next : Plan) (lines : List Line) (old new : Target)
    → HaltsAt h old new → Deals m h Idle o (halting h next) lines old → Deals m h Still o next lines new

abbrev pub ResumesLead : Type 0
ResumesLead = (m : Machine) (h : ℕ) (o : Origin) (next : Plan) (lines : List Line) (old new : Target)
    → ResumesAt h old new → Deals m h Ready o (going h next) lines old → Deals m h Idle o next lines new

-- between the change in front of a step and the one behind it
abbrev pub StepsLead : Type 0
StepsLead = (m : Machine) (h : ℕ) (o : Origin) (next : Plan) (lines : List Line) (old new : Target)
    → StepsAt h old new → Deals m h Holding o (take (ResumeReq h) (until most_looks h sees_both lost_step next unseen)) lines old
    → Deals m h Over o next lines new
