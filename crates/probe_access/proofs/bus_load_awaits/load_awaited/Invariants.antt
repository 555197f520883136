use Rattle.debug_model.specs.Rises.{Within}
use Rattle.probe_run.specs.Told.{told}
use Rattle.std.proofs.Common.{◌≡◌, ◌≤◌, length, ◌+◌, ◌*◌}
use Rattle.debug_model.specs.Kept.{Stands}
use Rattle.probe_access.specs.BusAwaits.{LoadsAwaited}
use Rattle.probe_access.proofs.bus_load_awaits.load_awaited.Given as goal

abbrev pub invariant-elements : goal.invariant-elements
invariant-elements g l = record {
  all : length l.into.items ≡ l.number;
  loaded : LoadsAwaited l.fn.size l.fn.address l.fn.into.items (told (g.D.Dmi.seen l.fn.link)) l.into.items (told (g.D.Dmi.seen l.link));
  stands : Stands (g.D.Dmi.seen l.link);
  later : (g.D.Dmi.seen l.fn.link).fault_count ≤ (g.D.Dmi.seen l.link).fault_count;
  fixed : (g.D.Dmi.seen l.link).fixed ≡ (g.D.Dmi.seen l.fn.link).fixed;
  rises : Within (4 * l.number + 3) (g.D.Dmi.seen l.fn.link) (g.D.Dmi.seen l.link);
}
