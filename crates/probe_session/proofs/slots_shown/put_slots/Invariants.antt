use Rattle.probe_run.specs.Told.{told}
use Rattle.std.proofs.Common.{◌≤◌}
use Rattle.probe_session.proofs.SlotLines.{SlotsSaid}
use Rattle.probe_session.proofs.slots_shown.put_slots.Given as goal

abbrev pub invariant-showing : goal.invariant-showing
invariant-showing g l = record {
  said : SlotsSaid l.fn.halted.number l.seen l.slot (told (g.D.Dmi.seen l.fn.link)) (told (g.D.Dmi.seen l.link)) (g.K.Sink.contents l.fn.out)
      (g.K.Sink.contents l.out);
  sink_later : g.K.Sink.fault_count l.fn.out ≤ g.K.Sink.fault_count l.out;
}
