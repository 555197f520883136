-- What a session's steps make of a chip that is told: each leads from its place in the abstract debugger's plan to the next, and a call that
-- failed leaves the session at some place of it.
-- It is this project's own.
use Rattle.std.specs.Prelude.{◌++◌, List, Option, option_map}
use Rattle.rv_model.specs.Board.{Machine}
use Rattle.debug_model.specs.Told.{Far, site_of}
use Rattle.abstract_debugger.specs.Lines.{Line}
use Rattle.abstract_debugger.specs.Stands.{At, Origin, Target}
use Rattle.probe_run.specs.Acts.{Tells}
use Rattle.probe_run.specs.Happens.{target_of}
use Rattle.probe_session.specs.Goes.{Goes}
use Rattle.probe_session.specs.Places.{Place}

-- what a session knows of the chip at the far end
abbrev pub target_at : Option Far → Option Target
target_at far = option_map (λ f. target_of (site_of f)) far

-- where a session deals so with the chip, having said these lines
abbrev pub DealsAt : Machine → Origin → Place → List Line → Option Far → Type 0
DealsAt m o p lines far = At m p.hart p.way o p.plan lines (target_at far)

abbrev pub Leads : Place → (old : Tells) → List Line → Place → (new : Tells) → Type 0
Leads from old said to new = (m : Machine) (o : Origin) (lines : List Line) → DealsAt m o from lines old.far → DealsAt m o to (lines ++ said) new.far

-- so whoever has followed the plan to the first place has followed it to the second, and has said the lines between
abbrev pub GoesLead : Type 0
GoesLead = (from to : Place) (old new : Tells) (said : List Line) → Goes from old said to new → Leads from old said to new
