use Rattle.std.proofs.Common.{◌≡◌, rules}
use Rattle.wire_session.specs.Budget.{slack_of_wire}
use Rattle.wire_session.proofs.Budgets.{closes_budget}
use Rattle.wire_session.proofs.SessionRuns.{session_ran, session_up_to}
use Rattle.wire_session.proofs.session.run_session.Goals as goal

pub returns-clause-ran : goal.returns-clause-ran
returns-clause-ran g c before behind =
    let ties : g.W.Wire.ties c.end_stream.new.wire ≡ g.W.Wire.ties c.args.wire.now = search rules in
    session_ran c.args.script.now _ c.end_stream.ensures.closes (search rules) (search rules) (search rules) (search rules) (search rules) (search rules)
    c.requires.loaded c.know_ranges.ensures ties before behind

pub returns-clause-rises : goal.returns-clause-rises
returns-clause-rises g c = closes_budget slack_of_wire c.args.script.now _ _ _ _ _ c.end_stream.ensures.closes (search rules)

pub returns-clause-up_to : goal.returns-clause-up_to
returns-clause-up_to g c = session_up_to c.args.script.now _ c.end_stream.ensures.closes (search rules)
