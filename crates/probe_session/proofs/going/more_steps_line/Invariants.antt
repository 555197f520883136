use Rattle.probe_run.specs.Told.{told}
use Rattle.std.proofs.Common.{◌≡◌, ◌≤◌, ◌*◌}
use Rattle.debug_model.specs.Rises.{Within}
use Rattle.probe_session.specs.Links.{AttachedHalted}
use Rattle.probe_session.proofs.GoingLines.{Stepping}
use Rattle.probe_session.proofs.going.more_steps_line.Given as goal

abbrev pub invariant-stepping : goal.invariant-stepping
invariant-stepping g l = record {
  same : l.now.number ≡ l.fn.halted.number;
  serving : AttachedHalted l.now.number (g.D.Dmi.seen l.link);
  steps : Stepping l.fn.halted.number l.fn.more l._step (told (g.D.Dmi.seen l.fn.link)) (told (g.D.Dmi.seen l.link));
  later : (g.D.Dmi.seen l.fn.link).fault_count ≤ (g.D.Dmi.seen l.link).fault_count;
  rises : Within (50 * l._step) (g.D.Dmi.seen l.fn.link) (g.D.Dmi.seen l.link);
  fixed : (g.D.Dmi.seen l.link).fixed ≡ (g.D.Dmi.seen l.fn.link).fixed;
}
