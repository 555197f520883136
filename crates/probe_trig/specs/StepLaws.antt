-- What stepping over and letting go do for a session: each leads from its place in a debugger's plan to the next.
-- It is this project's own: the plans are those of the abstract debugger, over every origin, every plan that follows and all lines said before.
use Rattle.std.specs.Prelude.{◌≡◌, ℕ, List, true, false}
use Rattle.rv_model.specs.Board.{Machine}
use Rattle.abstract_debugger.specs.Debugger.{one}
use Rattle.abstract_debugger.specs.Laws.{IsFrozenAt}
use Rattle.abstract_debugger.specs.Lines.{Line}
use Rattle.abstract_debugger.specs.Plan.{Plan}
use Rattle.abstract_debugger.specs.Slots.{any_hit, slots_at}
use Rattle.abstract_debugger.specs.Stands.{Deals, Origin, Target}
use Rattle.abstract_debugger.specs.Ways.Way.{Ready, Still}
use Rattle.probe_access.specs.SingleSteps.{StepsOnce}
use Rattle.probe_trig.specs.Stepping.{OverAt, executed_at}

-- a whole step
abbrev pub WholeStepsLead : Type 0
WholeStepsLead = (m : Machine) (h : ℕ) (o : Origin) (stepped other : Plan) (lines : List Line) (old new : Target)
    → OverAt h old new → executed_at h new ≡ true → Deals m h Still o (one h stepped other) lines old → Deals m h Ready o stepped lines new

-- one that ended for another cause
abbrev pub OtherStepsLead : Type 0
OtherStepsLead = (m : Machine) (h : ℕ) (o : Origin) (stepped other : Plan) (lines : List Line) (old new : Target)
    → OverAt h old new → executed_at h new ≡ false → Deals m h Still o (one h stepped other) lines old → Deals m h Still o other lines new

-- a single step of a halted hart none of whose slots has a hit is one over its slots: what is left of them needs no putting back
abbrev pub SingleStepsAreOver : Type 0
SingleStepsAreOver = (h : ℕ) (old new : Target) → IsFrozenAt h old.board → any_hit (slots_at h old.board) ≡ false → StepsOnce h old new → OverAt h old new
