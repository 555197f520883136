use Rattle.jtag_run.proofs.SoftRuns.{soft_ended}
use Rattle.jtag_run.proofs.soft.soft_with.Goals as goal

pub returns : goal.returns
returns g c = record {
  ended = soft_ended c.args.bench.now _ c.args.script.now _
      (record { printed = g.K.Sink.contents c.run_soft_on_bench-ended.new.out; faults = g.K.Sink.fault_count c.run_soft_on_bench-ended.new.out }) _
      c.run_soft_on_bench-ended.result _ c.run_soft_on_bench-ended.ensures.ran (rw c.at_limit.ensures at c.tell.ensures.told);
}
