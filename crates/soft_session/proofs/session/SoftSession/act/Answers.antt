use Rattle.soft_session.proofs.PutSteps.{failing_acted, failing_knows, failing_serving}
use Rattle.soft_session.proofs.CausedEnds.{failing_caused}
use Rattle.soft_session.proofs.session.SoftSession.act.Goals as goal

pub returns-in-Err-clause-acted : goal.returns-in-Err-clause-acted
returns-in-Err-clause-acted g c = failing_acted c.args.command.now c.in-Err.failure _ c.args.self.now _ _ _ _ _ c.failed.ensures c.in-Err.ensures.cut

pub returns-in-Err-clause-serving : goal.returns-in-Err-clause-serving
returns-in-Err-clause-serving g c = failing_serving c.in-Err.failure _ _ c.failed.ensures c.in-Err.ensures.keeps.behind

pub returns-in-Err-clause-knows : goal.returns-in-Err-clause-knows
returns-in-Err-clause-knows g c = failing_knows c.in-Err.failure _ _ _ c.failed.ensures

pub returns-in-Err-clause-caused : goal.returns-in-Err-clause-caused
returns-in-Err-clause-caused g c =
    failing_caused c.in-Err.failure _ (g.D.Dmi.seen c.args.link.now) (g.D.Dmi.seen c.act_or_fail.new.link) _ _ c.failed.ensures c.in-Err.ensures.caused

pub returns-in-Ok-clause-caused : goal.returns-in-Ok-clause-caused
returns-in-Ok-clause-caused g c =
    c.in-Ok.ensures.caused
