-- What a session leaves of a told chip where a single step failed, over its spent slots or not. Each law takes what a constructor of `Goes.Fault` says, at
-- its place.
-- RISC-V Debug Specification 1.0, "Single Step".
use Rattle.std.specs.Prelude.{ℕ, List, Option}
use Rattle.rv_model.specs.Board.{Machine}
use Rattle.abstract_debugger.specs.Debugger.{one}
use Rattle.abstract_debugger.specs.Laws.{WritesOnly}
use Rattle.abstract_debugger.specs.Lines.{Line}
use Rattle.abstract_debugger.specs.Plan.{Plan}
use Rattle.abstract_debugger.specs.Stands.{Origin}
use Rattle.probe_run.specs.Acts.{Tells}
use Rattle.probe_session.specs.declared.fault.Failure.{Failure}
use Rattle.probe_session.specs.Calls.{StepFell, StepFromFell, StepOverFell}
use Rattle.probe_session.specs.Led.{DealsAt}
use Rattle.probe_session.specs.Places.{Place, ready, still}
use Rattle.probe_session.specs.Steps.{behind_step}
use Rattle.cut_laws.specs.Cut.{LeftLosing}

-- at this place hart h is to make a step, behind which the plan writes no more than register n of it
abbrev pub LosingBehind : (h : ℕ) → Option ℕ → (stepped other : Plan) → Place → (old new : Tells) → Type 0
LosingBehind h n stepped other p old new = (m : Machine) (o : Origin) (lines : List Line) → WritesOnly h n (behind_step h stepped other)
    → DealsAt m o p lines old.far → LeftLosing h n o new.far

abbrev pub SteppingOverCut : Type 0
SteppingOverCut = (h : ℕ) (n : Option ℕ) (stepped other : Plan) (old_count new_count : ℕ) (old new : Tells) (f : Failure)
    → StepOverFell h old_count new_count old new f → LosingBehind h n stepped other (still h (one h stepped other)) old new

abbrev pub SteppingCut : Type 0
SteppingCut = (h : ℕ) (n : Option ℕ) (stepped other : Plan) (old_count new_count : ℕ) (old new : Tells) (f : Failure)
    → StepFell h old_count new_count old new f → LosingBehind h n stepped other (ready h (one h stepped other)) old new

abbrev pub SteppingFromCut : Type 0
SteppingFromCut = (h word : ℕ) (n : Option ℕ) (stepped other : Plan) (old_count new_count : ℕ) (old new : Tells) (f : Failure)
    → StepFromFell h word old_count new_count old new f → LosingBehind h n stepped other (ready h (one h stepped other)) old new
