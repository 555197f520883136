use Rattle.std.proofs.Common.{◌≤◌}
use Rattle.probe_session.proofs.PutLines.{ElementsLeft}
use Rattle.probe_session.proofs.reading.put_values.Given as goal

abbrev pub invariant-showing : goal.invariant-showing
invariant-showing g l = record {
  left : ElementsLeft l.fn.size l.fn.address l.fn.values l.number (g.K.Sink.contents l.fn.out) (g.K.Sink.contents l.out);
  later : g.K.Sink.fault_count l.fn.out ≤ g.K.Sink.fault_count l.out;
}
