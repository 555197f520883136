use Rattle.std.proofs.Common.{◌≡◌, ◌≤◌, ◌*◌, length, take}
use Rattle.debug_model.specs.Many.{operations_most}
use Rattle.probe_access.specs.BusStreams.{reads_of}
use Rattle.probe_access.proofs.bus_streams.fill_reads.Given as goal

abbrev pub invariant-elements : goal.invariant-elements
invariant-elements l = record {
  filled : take l.at l.operations ≡ reads_of l.size l._element;
  within : l.at ≤ 2 * l._element;
  long : length l.operations ≡ operations_most;
}
