use Rattle.jtag_run.specs.Ends.ProbeEnd.{opened, unopened}
use Rattle.jtag_run.proofs.probe.probe_at.Goals as goal

pub returns-in-Ok : goal.returns-in-Ok
returns-in-Ok g c = record {
  ended = opened
      (record {
        state = g.N.Net.state c.connect.new.self;
        peer = g.N.Net.peer c.connect.new.self;
        faults = g.N.Net.fault_count c.connect.new.self;
        ends =
            g.N.Net.end_count c.connect.new.self;
      })
      c.run_on_net-ended.result (record { printed = g.K.Sink.contents c.run_on_net-ended.new.out; faults = g.K.Sink.fault_count c.run_on_net-ended.new.out })
      (record {
        called = c.connect.ensures.called;
        opened = c.in-Ok.ensures.opened;
        loaded = c.in-Ok.ensures.loaded;
        later = c.connect.ensures.later;
        ends =
            c.connect.ensures.ends;
      })
      c.run_on_net-ended.ensures.sink_later c.run_on_net-ended.ensures.ran c.tell.ensures.told;
}

pub returns-in-Err : goal.returns-in-Err
returns-in-Err g c = record {
  ended = unopened c.in-Err.fault (record { called = c.connect.ensures.called; cause = c.in-Err.ensures.cause; ends = c.connect.ensures.ends })
      (rw c.refusal_of.ensures at c.refuse.ensures.refused);
}
