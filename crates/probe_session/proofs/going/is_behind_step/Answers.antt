use Rattle.debug_model.proofs.RiseLemmas.{within_none}
use Rattle.std.proofs.Common.{◌∙◌, refl, sym}
use Rattle.probe_session.specs.Going.{StepSeen}
use Rattle.probe_session.proofs.Knowing.{knows_step}
use Rattle.probe_session.proofs.going.is_behind_step.Goals as goal

pub returns-then-is_stepped-clause-seen : goal.returns-then-is_stepped-clause-seen
returns-then-is_stepped-clause-seen g c =
    StepSeen.known (knows_step c.args.known _ _ (sym c.is_stepped.ensures ∙ c.if-is_stepped.true) c.requires.knows).whole refl refl

pub returns-clause-seen : goal.returns-clause-seen
returns-clause-seen g c = StepSeen.read c.in_ok-word.ensures.got (sym c.shows_step.ensures)

pub returns-then-is_stepped-clause-rises : goal.returns-then-is_stepped-clause-rises
returns-then-is_stepped-clause-rises g c =
    within_none 16 _ _ refl
