use Rattle.std.proofs.Common.{refl}
use Rattle.jtag_run.proofs.BenchBounds.{stays_as_loaded}
use Rattle.jtag_run.proofs.Runs.{loop_joined, loop_unjoined}
use Rattle.jtag_run.proofs.both.loop_with.Goals as goal

pub returns-in-Ok : goal.returns-in-Ok
returns-in-Ok g c = record {
  ended = loop_joined c.args.bench.now _ c.args.script.now _
      (record {
        state = g.N.Net.state c.join.new.self;
        peer = g.N.Net.peer c.join.new.self;
        faults = g.N.Net.fault_count c.join.new.self;
        ends =
            g.N.Net.end_count c.join.new.self;
      }) _ _
      (record { printed = g.K.Sink.contents c.run_on_loop-ended.new.out; faults = g.K.Sink.fault_count c.run_on_loop-ended.new.out }) _
      c.run_on_loop-ended.result _
      (record { called = c.join.ensures.called; opened = c.in-Ok.ensures.opened; later = c.join.ensures.later; ends = c.join.ensures.ends })
      c.run_on_loop-ended.ensures.ran (rw c.at_limit.ensures at c.tell.ensures.told);
  within = c.run_on_loop-ended.ensures.within;
}

pub returns-in-Err : goal.returns-in-Err
returns-in-Err g c = record {
  ended = loop_unjoined c.args.bench.now _ c.args.script.now _ _ _ _ c.in-Err.fault _
      (record { called = c.join.ensures.called; cause = c.in-Err.ensures.cause; ends = c.join.ensures.ends })
      (rw c.refusal_of.ensures at c.refuse.ensures.refused) refl;
  within = stays_as_loaded 0 c.args.script.now c.args.bench.now c.requires.fresh;
}
