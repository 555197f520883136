use Rattle.std.proofs.Common.{◌≡◌, ◌≤◌, ◌-◌, length, take}
use Rattle.debug_model.specs.Many.{operations_most}
use Rattle.probe_access.specs.BusStoreStreams.{Puts, data_puts, words_from, writes_of}
use Rattle.probe_access.proofs.bus_store_words.fill_writes.Given as goal

abbrev pub invariant-elements : goal.invariant-elements
invariant-elements l = record {
  from : l.from ≤ l.number;
  within : l.number ≤ length l.values;
  filled : take l.at l.operations ≡ writes_of (data_puts l.values l.from (l.number - l.from));
  puts : Puts (data_puts l.values l.from (l.number - l.from));
  at_is : l.at ≡ words_from l.values l.from (l.number - l.from);
  fits : l.at ≤ operations_most;
  long : length l.operations ≡ operations_most;
}

abbrev pub decreases-elements : goal.decreases-elements
decreases-elements l = length l.values - l.number
