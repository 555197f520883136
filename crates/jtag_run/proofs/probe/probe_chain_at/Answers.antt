use Rattle.std.proofs.Common.{refl}
use Rattle.jtag_run.specs.Ends.ProbeEnd.{alone, opened, unopened}
use Rattle.jtag_run.proofs.Probes.{told_there, untold}
use Rattle.jtag_run.proofs.probe.probe_chain_at.Goals as goal

pub returns-then-tells_chip : goal.returns-then-tells_chip
returns-then-tells_chip g c = record {
  ended = alone refl (told_there (g.N.Net.peer c.args.net.now) _ c.if-tells_chip.true c.tells_chip.ensures) refl
      c.refuse.ensures.refused;
}

pub run_on_chain_net-closed-requires-clause-untold : goal.run_on_chain_net-closed-requires-clause-untold
run_on_chain_net-closed-requires-clause-untold g c = untold (g.N.Net.peer c.args.net.now) _ _ c.if-tells_chip.false c.tells_chip.ensures c.in-Ok.ensures.opened

pub returns-in-Ok : goal.returns-in-Ok
returns-in-Ok g c = record {
  ended = opened
      (record {
        state = g.N.Net.state c.connect.new.self;
        peer = g.N.Net.peer c.connect.new.self;
        faults = g.N.Net.fault_count c.connect.new.self;
        ends =
            g.N.Net.end_count c.connect.new.self;
      })
      c.run_on_chain_net-closed.result
      (record { printed = g.K.Sink.contents c.run_on_chain_net-closed.new.out; faults = g.K.Sink.fault_count c.run_on_chain_net-closed.new.out })
      (record {
        called = c.connect.ensures.called;
        opened = c.in-Ok.ensures.opened;
        loaded = c.in-Ok.ensures.loaded;
        later = c.connect.ensures.later;
        ends =
            c.connect.ensures.ends;
      })
      c.run_on_chain_net-closed.ensures.sink_later c.run_on_chain_net-closed.ensures.ran c.tell.ensures.told;
}

pub returns-in-Err : goal.returns-in-Err
returns-in-Err g c = record {
  ended = unopened c.in-Err.fault (record { called = c.connect.ensures.called; cause = c.in-Err.ensures.cause; ends = c.connect.ensures.ends })
      (rw c.refusal_of.ensures at c.refuse-in-Err.ensures.refused);
}
