use Rattle.std.proofs.Common.{refl}
use Rattle.jtag_run.specs.ServedChip.ServedAt.{opened, unopened}
use Rattle.jtag_run.proofs.chip.serve_at.Goals as goal

pub returns-in-Ok : goal.returns-in-Ok
returns-in-Ok g c = record {
  served = opened
      (record {
        state = g.N.Net.state c.accept.new.self;
        peer = g.N.Net.peer c.accept.new.self;
        faults = g.N.Net.fault_count c.accept.new.self;
        ends =
            g.N.Net.end_count c.accept.new.self;
      })
      c.serve_as-served.result
      (record { called = c.accept.ensures.called; opened = c.in-Ok.ensures.opened; later = c.accept.ensures.later; ends = c.accept.ensures.ends })
      c.serve_as-served.ensures.served c.serve_as-served.ensures.counts (rw c.limit_first.ensures at c.tell.ensures.told);
}

pub returns-in-Err : goal.returns-in-Err
returns-in-Err g c = record {
  served = unopened c.in-Err.fault (record { called = c.accept.ensures.called; cause = c.in-Err.ensures.cause; ends = c.accept.ensures.ends })
      (rw c.refusal_of.ensures at c.refuse.ensures.refused) refl;
}
