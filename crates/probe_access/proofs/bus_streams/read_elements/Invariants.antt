use Rattle.debug_model.specs.Rises.{Within}
use Rattle.probe_run.specs.Told.{told}
use Rattle.std.proofs.Common.{◌≡◌, ◌≤◌, ◌-◌, ◌+◌, length, ◌*◌}
use Rattle.debug_model.specs.Kept.{Stands}
use Rattle.debug_model.specs.Command.{most_elements}
use Rattle.probe_access.specs.BusStreams.{MoreRead}
use Rattle.probe_access.proofs.bus_streams.read_elements.Given as goal

abbrev pub invariant-calls : goal.invariant-calls
invariant-calls g l = record {
  few : l.left ≤ l.number;
  read : MoreRead l.size (l.number - l.left) l.fn.into.items l.into.items (told (g.D.Dmi.seen l.fn.link)) (told (g.D.Dmi.seen l.link));
  room : length l.into.items + l.left ≤ most_elements;
  stands : Stands (g.D.Dmi.seen l.link);
  later : (g.D.Dmi.seen l.fn.link).fault_count ≤ (g.D.Dmi.seen l.link).fault_count;
  fixed : (g.D.Dmi.seen l.link).fixed ≡ (g.D.Dmi.seen l.fn.link).fixed;
  rises : Within (2 * (l.number - l.left)) (g.D.Dmi.seen l.fn.link) (g.D.Dmi.seen l.link);
}

abbrev pub decreases-calls : goal.decreases-calls
decreases-calls g l = l.left
