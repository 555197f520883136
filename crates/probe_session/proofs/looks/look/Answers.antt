use Rattle.debug_model.proofs.RiseLemmas.{within_more}
use Rattle.std.proofs.Common.{◌∙◌, refl, sym, arith}
use Rattle.probe_session.specs.Calls.LookUnheard.{again}
use Rattle.probe_session.specs.Failures.{failure_of_run}
use Rattle.probe_session.proofs.Knowing.{knows_selects}
use Rattle.probe_session.proofs.LinkLemmas.{if_err}
use Rattle.probe_session.proofs.Whole.{still_known}
use Rattle.probe_session.proofs.looks.look.Goals as goal

pub returns-in_err-look_again-clause-fell : goal.returns-in_err-look_again-clause-fell
returns-in_err-look_again-clause-fell g c = if_err _ (failure_of_run c.in_err-look_again.field-0.0) _ c.from_residual.ensures.1
    (record {
      why = c.in_err-look_again.field-0.0;
      later = c.look_again.ensures.keeps.later;
      heard = again (knows_selects c.args.known _ _ (sym c.is_selected.ensures ∙ c.if-is_selected.true) c.requires.knows) c.in_err-look_again.ensures.fails;
      told = c.in_err-look_again.ensures.left;
      is = refl;
    })

pub returns-in_ok-look_again-clause-still : goal.returns-in_ok-look_again-clause-still
returns-in_ok-look_again-clause-still g c =
    still_known c.args.known c.args.hart _ _ _ c.requires.knows c.in_ok-look_again.ensures.ready c.in_ok-look_again.ensures.selects
    c.in_ok-look_again.ensures.happened

pub returns-in_err-look_again-clause-rises : goal.returns-in_err-look_again-clause-rises
returns-in_err-look_again-clause-rises g c =
    within_more 1 2 _ _ c.look_again.ensures.rises (omega arith)

pub returns-in_ok-look_again-clause-rises : goal.returns-in_ok-look_again-clause-rises
returns-in_ok-look_again-clause-rises g c =
    within_more 1 2 _ _ c.look_again.ensures.rises (omega arith)
