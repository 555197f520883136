use Rattle.std.proofs.Common.{◌≡◌, rules}
use Rattle.soft_session.proofs.WireRuns.{closes_register, soft_session_ran}
use Rattle.wire_session.proofs.StreamEnds.{closes_sink}
use Rattle.soft_session.proofs.wire.run_soft_session.Goals as goal

pub returns-clause-ran : goal.returns-clause-ran
returns-clause-ran g c before behind =
    let ties : g.W.Wire.ties c.end_stream.new.wire ≡ g.W.Wire.ties c.args.wire.now = search rules in
    soft_session_ran c.args.script.now _ c.end_stream.ensures.closes (search rules) (search rules) (search rules) (search rules) (search rules)
    c.requires.loaded ties before behind

pub returns-clause-of_register : goal.returns-clause-of_register
returns-clause-of_register g c = closes_register _ _ _ _ (search rules) c.end_stream.ensures.closes

pub returns-clause-sink_cause : goal.returns-clause-sink_cause
returns-clause-sink_cause g c = closes_sink _ _ _ _ _ _ (search rules) c.end_stream.ensures.closes
