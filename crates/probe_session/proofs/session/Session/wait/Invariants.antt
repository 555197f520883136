use Rattle.probe_run.specs.Told.{told}
use Rattle.std.proofs.Common.{◌≡◌, ◌≤◌, ◌*◌}
use Rattle.debug_model.specs.Rises.{Within}
use Rattle.probe_session.specs.Commands.{state_of}
use Rattle.debug_model.specs.Told.{Selects}
use Rattle.probe_session.specs.Known.{Knows}
use Rattle.probe_session.specs.Links.{Attached}
use Rattle.probe_session.proofs.OneLine.{Waited}
use Rattle.probe_session.proofs.session.Session.wait.Given as goal

abbrev pub invariant-looking : goal.invariant-looking
invariant-looking g l = record {
  serving : Attached (g.D.Dmi.seen l.link);
  knows : Knows l.known l.fn.self.hart (g.D.Dmi.seen l.link).far;
  selects : 1 ≤ l._look → Selects l.fn.self.hart (g.D.Dmi.seen l.link).far;
  waited : Waited (state_of l.fn.self) l.fn.looks l._look (told (g.D.Dmi.seen l.fn.link)) (told (g.D.Dmi.seen l.link));
  later : (g.D.Dmi.seen l.fn.link).fault_count ≤ (g.D.Dmi.seen l.link).fault_count;
  rises : Within (2 * l._look) (g.D.Dmi.seen l.fn.link) (g.D.Dmi.seen l.link);
  fixed : (g.D.Dmi.seen l.link).fixed ≡ (g.D.Dmi.seen l.fn.link).fixed;
}
