use Rattle.debug_model.specs.Rises.{Within}
use Rattle.probe_run.specs.Told.{told}
use Rattle.std.proofs.Common.{◌≡◌, ◌≤◌, ◌+◌, ◌-◌, ◌*◌}
use Rattle.debug_model.specs.Kept.{Stands}
use Rattle.probe_access.specs.BusAwaits.{StoresAwaited}
use Rattle.probe_access.specs.BusStoreStreams.{words_from}
use Rattle.probe_access.proofs.bus_store_awaits.store_awaited.Given as goal

abbrev pub invariant-elements : goal.invariant-elements
invariant-elements g l = record {
  from : l.fn.done ≤ l.number;
  stored : StoresAwaited l.fn.size l.fn.address l.values l.fn.done (told (g.D.Dmi.seen l.fn.link)) l.number (told (g.D.Dmi.seen l.link));
  stands : Stands (g.D.Dmi.seen l.link);
  later : (g.D.Dmi.seen l.fn.link).fault_count ≤ (g.D.Dmi.seen l.link).fault_count;
  fixed : (g.D.Dmi.seen l.link).fixed ≡ (g.D.Dmi.seen l.fn.link).fixed;
  rises : Within (words_from l.values l.fn.done (l.number - l.fn.done) + 2 * l.number + 4) (g.D.Dmi.seen l.fn.link) (g.D.Dmi.seen l.link);
}
