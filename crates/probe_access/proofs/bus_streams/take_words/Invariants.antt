use Rattle.std.proofs.Common.{◌≡◌, ◌≤◌, ◌+◌, ◌++◌, length}
use Rattle.debug_model.specs.Command.{most_elements}
use Rattle.probe_access.specs.BusStreams.{words_of}
use Rattle.probe_access.proofs.bus_streams.take_words.Given as goal

abbrev pub invariant-words : goal.invariant-words
invariant-words l = record {
  taken : l.into.items ++ words_of l.size l.rest ≡ l.fn.into.items ++ words_of l.size l.results;
  room : length l.into.items + length l.rest ≤ most_elements;
}

abbrev pub decreases-words : goal.decreases-words
decreases-words l = length l.rest
