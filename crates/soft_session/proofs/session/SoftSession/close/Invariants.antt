use Rattle.std.proofs.Common.{◌≡◌, ◌≤◌, length}
use Rattle.probe_run.specs.Told.{told}
use Rattle.probe_session.specs.Links.{Attached}
use Rattle.probe_session.specs.declared.known.Known.TheVariants as known
use Rattle.soft_session.specs.Setting.{ClosedLed}
use Rattle.soft_session.proofs.session.SoftSession.close.Given as goal

abbrev pub invariant-closing : goal.invariant-closing
invariant-closing g l = record {
  unknown : l.self.session.known ≡ known.Nothing;
  serving : Attached (g.D.Dmi.seen l.link);
  closed : ClosedLed l.fn.self.table l.self.table (told (g.D.Dmi.seen l.fn.link)) (told (g.D.Dmi.seen l.link));
  later : (g.D.Dmi.seen l.fn.link).fault_count ≤ (g.D.Dmi.seen l.link).fault_count;
  fixed : (g.D.Dmi.seen l.link).fixed ≡ (g.D.Dmi.seen l.fn.link).fixed;
}

abbrev pub decreases-closing : goal.decreases-closing
decreases-closing g l = length l.self.table.addresses
