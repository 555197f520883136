use Rattle.debug_model.specs.Rises.{Within}
use Rattle.debug_model.specs.Scan.{WhereTold}
use Rattle.soft_break.proofs.HartCounts.{SameHarts}
use Rattle.std.proofs.Common.{◌≡◌, ◌≤◌, length, IfSome, ◌*◌}
use Rattle.debug_model.specs.Kept.{CanCall, Stands}
use Rattle.debug_model.specs.Told.{IsReady, site_of}
use Rattle.probe_run.specs.Told.{told}
use Rattle.soft_break.specs.Preparing.{SetBelow}
use Rattle.soft_break.proofs.preparing.prepare.Given as goal

abbrev pub invariant-harts : goal.invariant-harts
invariant-harts g l = record {
  callable : CanCall (g.D.Dmi.seen l.link);
  ready : IsReady (g.D.Dmi.seen l.link).far;
  stands : 1 ≤ l.hart → Stands (g.D.Dmi.seen l.link);
  set : SetBelow (told (g.D.Dmi.seen l.fn.link)) l.hart (told (g.D.Dmi.seen l.link));
  later : (g.D.Dmi.seen l.fn.link).fault_count ≤ (g.D.Dmi.seen l.link).fault_count;
  fixed : (g.D.Dmi.seen l.link).fixed ≡ (g.D.Dmi.seen l.fn.link).fixed;
  same : WhereTold SameHarts (g.D.Dmi.seen l.fn.link).far (g.D.Dmi.seen l.link).far;
  below : IfSome (g.D.Dmi.seen l.fn.link).far (λ f. l.hart ≤ length (site_of f).board.harts);
  rises : Within (26 * l.hart) (g.D.Dmi.seen l.fn.link) (g.D.Dmi.seen l.link);
}
