use Rattle.std.proofs.Common.{◌≡◌, ◌≤◌, ◌*◌, ◌+◌, ◌++◌, length}
use Rattle.debug_model.specs.Command.{most_elements}
use Rattle.probe_access.specs.BusStreams.{doubles_of}
use Rattle.probe_access.proofs.bus_streams.take_doubles.Given as goal

abbrev pub invariant-words : goal.invariant-words
invariant-words l = record {
  taken : l.into.items ++ doubles_of l.rest ≡ l.fn.into.items ++ doubles_of l.results;
  room : 2 * length l.into.items + length l.rest ≤ 2 * most_elements;
}

abbrev pub decreases-words : goal.decreases-words
decreases-words l = length l.rest
