use Rattle.std.proofs.Common.{◌≤◌, ◌<◌}
use Rattle.arrayvec.specs.ArrayVec.{array_vec_len}
use Rattle.probe_session.proofs.PutLines.{RowWaits}
use Rattle.probe_session.proofs.dumping.put_bytes.Given as goal

abbrev pub invariant-showing : goal.invariant-showing
invariant-showing g l = record {
  room : array_vec_len l.row < 16;
  behind : array_vec_len l.row ≤ l.number;
  waits : RowWaits l.fn.address l.fn.values l.number l.row.items (g.K.Sink.contents l.fn.out) (g.K.Sink.contents l.out);
  later : g.K.Sink.fault_count l.fn.out ≤ g.K.Sink.fault_count l.out;
}
