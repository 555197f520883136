use Rattle.std.proofs.Common.{ap, refl, rules}
use Rattle.debug_model.specs.Ties.{Ties}
use Rattle.jtag_run.specs.Outside.{NetSeen}
use Rattle.jtag_run.proofs.BenchBounds.{stays_on_bench}
use Rattle.jtag_run.proofs.LoopEnds.{on_loop, still_alike}
use Rattle.jtag_run.proofs.sessions.run_on_loop.Goals as goal

pub returns-clause-ran : goal.returns-clause-ran
returns-clause-ran g c =
    let new = c.new-wire.ensures in
    let old = c.args.net.now in
    let now = c.run_session-ended.new.wire.net.now in
    let was : NetSeen = record { state = g.N.Net.state old; peer = g.N.Net.peer old; faults = g.N.Net.fault_count old; ends = g.N.Net.end_count old } in
    let is : NetSeen = record { state = g.N.Net.state now; peer = g.N.Net.peer now; faults = g.N.Net.fault_count now; ends = g.N.Net.end_count now } in
    let ran = rw new.differences at (rw new.unread at (rw new.bench at (rw new.net at (c.run_session-ended.ensures.ran refl refl)))) in
    let up_to = rw new.differences at (rw new.unread at (rw new.bench at (rw new.net at c.run_session-ended.ensures.up_to))) in
    let in_time = rw new.unread at (rw new.bench at c.run_session-ended.ensures.never) in
    let ties = rw new.net at (ap (λ (t : Ties). t.net) c.run_session-ended.ensures.ties) in
    let went = on_loop c.args.bench.now c.run_session-ended.new.wire.bench.now c.run_session-ended.new.wire.unread.items
    c.run_session-ended.new.wire.differences c.args.script.now was is _ _ c.run_session-ended.result ran up_to in_time ties
    (still_alike _ _ _ _ _ _ _ _ _ _ _ (ap (λ t. t.tells_pipe) ties) (ap (λ (t : Ties). t.began) c.run_session-ended.ensures.ties) new.faults new.ends
    c.know_blame.ensures) in
    search (rules, went)

pub returns-clause-within : goal.returns-clause-within
returns-clause-within g c =
    let new = c.new-wire.ensures in
    let ran = rw new.unread at (rw new.bench at (c.run_session-ended.ensures.ran refl refl)) in
    let rises = rw new.unread at (rw new.bench at c.run_session-ended.ensures.rises) in
    let timing = rw new.unread at (rw new.bench at (ap (λ (t : Ties). t.timing) c.run_session-ended.ensures.ties)) in
    let went = stays_on_bench 0 _ _ c.args.script.now c.args.bench.now c.run_session-ended.new.wire.bench.now c.run_session-ended.new.wire.unread.items _ _
    c.run_session-ended.result c.requires.fresh c.know_ranges.ensures ran rises timing in
    search (rules, went)
