use Rattle.wire_session.proofs.Budgets.{over_scans}
use Rattle.wire_session.proofs.session.run_over_scan.Goals as goal

pub returns-clause-rises : goal.returns-clause-rises
returns-clause-rises g c = rw c.into_scan.ensures (rw c.paced-link.ensures.scan at (over_scans c.args.script.now _ _ c.run_script-ended.ensures.rises))
