use Rattle.probe_run.specs.Told.{told}
use Rattle.std.proofs.Common.{◌≡◌, ◌≤◌, ◌<◌}
use Rattle.debug_model.specs.Kept.{CanCall, Stands}
use Rattle.debug_model.specs.Rises.{Within}
use Rattle.probe_access.proofs.BusPolls.{BusWaiting}
use Rattle.probe_access.proofs.PollRises.{AtMost}
use Rattle.probe_access.proofs.bus_parts.poll_bus.Given as goal

abbrev pub invariant-polls : goal.invariant-polls
invariant-polls g l = record {
  waiting : BusWaiting l._polls (told (g.D.Dmi.seen l.fn.link)) (told (g.D.Dmi.seen l.link));
  rises : Within l._polls (g.D.Dmi.seen l.fn.link) (g.D.Dmi.seen l.link);
  once : AtMost l._polls 0 (g.D.Dmi.seen l.fn.link);
  callable : CanCall (g.D.Dmi.seen l.link);
  stands : 0 < l._polls → Stands (g.D.Dmi.seen l.link);
  later : (g.D.Dmi.seen l.fn.link).fault_count ≤ (g.D.Dmi.seen l.link).fault_count;
  fixed : (g.D.Dmi.seen l.link).fixed ≡ (g.D.Dmi.seen l.fn.link).fixed;
}
