use Rattle.std.proofs.Common.{ap, refl, rules}
use Rattle.debug_model.specs.Ties.{Ties}
use Rattle.jtag_run.proofs.NetEnds.{on_net}
use Rattle.jtag_run.proofs.sessions.run_on_net.Goals as goal

pub returns-clause-ran : goal.returns-clause-ran
returns-clause-ran g c =
    let went = on_net (λ n. record { state = g.N.Net.state n; peer = g.N.Net.peer n; faults = g.N.Net.fault_count n; ends = g.N.Net.end_count n })
    c.args.net.now c.new-wire.result.net.now c.run_session-ended.new.wire.net.now c.args.script.now c.new-wire.result.bad_answers
    c.run_session-ended.new.wire.bad_answers _ _ c.run_session-ended.result c.new-wire.ensures.net c.new-wire.ensures.none
    (c.run_session-ended.ensures.ran refl refl) c.run_session-ended.ensures.up_to c.run_session-ended.ensures.never
    (ap (λ (t : Ties). t.net) c.run_session-ended.ensures.ties) c.know_sound.ensures in
    search (rules, went)
