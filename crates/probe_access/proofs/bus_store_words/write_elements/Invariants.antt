use Rattle.debug_model.specs.Rises.{Within}
use Rattle.probe_run.specs.Told.{told}
use Rattle.std.proofs.Common.{◌≡◌, ◌≤◌, ◌-◌, length}
use Rattle.debug_model.specs.Kept.{Stands}
use Rattle.probe_run.specs.Acts.{Did}
use Rattle.probe_access.specs.BusStoreStreams.{data_puts, words_from}
use Rattle.probe_access.proofs.bus_store_words.write_elements.Given as goal

abbrev pub invariant-calls : goal.invariant-calls
invariant-calls g l = record {
  within : l.done ≤ length l.values;
  did : Did (told (g.D.Dmi.seen l.fn.link)) (data_puts l.values 0 l.done) (told (g.D.Dmi.seen l.link));
  stands : Stands (g.D.Dmi.seen l.link);
  later : (g.D.Dmi.seen l.fn.link).fault_count ≤ (g.D.Dmi.seen l.link).fault_count;
  fixed : (g.D.Dmi.seen l.link).fixed ≡ (g.D.Dmi.seen l.fn.link).fixed;
  rises : Within (words_from l.values 0 l.done) (g.D.Dmi.seen l.fn.link) (g.D.Dmi.seen l.link);
}

abbrev pub decreases-calls : goal.decreases-calls
decreases-calls g l = length l.values - l.done
