use Rattle.std.proofs.Common.{ap, refl, rules}
use Rattle.debug_model.specs.Ties.{Ties}
use Rattle.jtag_run.proofs.BenchBounds.{stays_on_bench}
use Rattle.jtag_run.proofs.BenchEnds.{on_bench}
use Rattle.jtag_run.proofs.sessions.run_on_bench.Goals as goal

pub returns-clause-ran : goal.returns-clause-ran
returns-clause-ran g c =
    let ran = rw c.new-wire.ensures.unread at (rw c.new-wire.ensures.bench at (c.run_session-ended.ensures.ran refl refl)) in
    let up_to = rw c.new-wire.ensures.unread at (rw c.new-wire.ensures.bench at c.run_session-ended.ensures.up_to) in
    let in_time = rw c.new-wire.ensures.unread at (rw c.new-wire.ensures.bench at c.run_session-ended.ensures.never) in
    let went = on_bench c.args.bench.now c.run_session-ended.new.wire.bench.now c.run_session-ended.new.wire.unread.items c.args.script.now _ _
    c.run_session-ended.result ran up_to in_time in
    search (rules, went)

pub returns-clause-within : goal.returns-clause-within
returns-clause-within g c =
    let ran = rw c.new-wire.ensures.unread at (rw c.new-wire.ensures.bench at (c.run_session-ended.ensures.ran refl refl)) in
    let rises = rw c.new-wire.ensures.unread at (rw c.new-wire.ensures.bench at c.run_session-ended.ensures.rises) in
    let timing = rw c.new-wire.ensures.unread at (rw c.new-wire.ensures.bench at (ap (λ (t : Ties). t.timing) c.run_session-ended.ensures.ties)) in
    let went = stays_on_bench 0 0 0 c.args.script.now c.args.bench.now c.run_session-ended.new.wire.bench.now c.run_session-ended.new.wire.unread.items _ _
    c.run_session-ended.result c.requires.fresh c.know_ranges.ensures ran rises timing in
    search (rules, went)
