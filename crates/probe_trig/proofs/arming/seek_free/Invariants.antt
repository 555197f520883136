use Rattle.std.proofs.Common.{◌≡◌, ◌≤◌, ◌<◌, ◌*◌}
use Rattle.debug_model.specs.Kept.{CanCall, Stands}
use Rattle.debug_model.specs.Rises.{Within}
use Rattle.probe_run.specs.Told.{Serving, told}
use Rattle.probe_trig.proofs.ArmFits.{Sought}
use Rattle.probe_trig.proofs.arming.seek_free.Given as goal

abbrev pub invariant-seeking : goal.invariant-seeking
invariant-seeking g l = record {
  sought : Sought l.fn.halted.number l.slot (told (g.D.Dmi.seen l.fn.link)) (told (g.D.Dmi.seen l.link));
  callable : CanCall (g.D.Dmi.seen l.link);
  serving : Serving l.fn.halted.number (g.D.Dmi.seen l.link).far;
  rises : Within (24 * l.slot) (g.D.Dmi.seen l.fn.link) (g.D.Dmi.seen l.link);
  stands : 0 < l.slot → Stands (g.D.Dmi.seen l.link);
  later : (g.D.Dmi.seen l.fn.link).fault_count ≤ (g.D.Dmi.seen l.link).fault_count;
  fixed : (g.D.Dmi.seen l.link).fixed ≡ (g.D.Dmi.seen l.fn.link).fixed;
}
