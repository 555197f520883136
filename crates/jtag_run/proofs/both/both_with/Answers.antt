use Rattle.jtag_run.proofs.BenchSuccesses.{with_succeeds}
use Rattle.jtag_run.proofs.both.both_with.Goals as goal

pub returns-clause-succeeds : goal.returns-clause-succeeds
returns-clause-succeeds g c =
    with_succeeds c.args.bench.now c.run_on_bench-ended.new.bench c.args.script.now _
    (record { printed = g.K.Sink.contents c.run_on_bench-ended.new.out; faults = g.K.Sink.fault_count c.run_on_bench-ended.new.out }) _
    c.run_on_bench-ended.result c.tell.result c.requires.fresh c.run_on_bench-ended.ensures.ran (rw c.at_limit.ensures at c.tell.ensures.told)
