use Rattle.std.proofs.Common.{◌≡◌, ◌≤◌}
use Rattle.probe_run.specs.Told.{told}
use Rattle.probe_session.specs.Links.{AttachedHalted}
use Rattle.soft_session.proofs.GoingSteps.{SteppedLed}
use Rattle.soft_session.proofs.going.steps_line.Given as goal

abbrev pub invariant-stepping : goal.invariant-stepping
invariant-stepping g l = record {
  same : l.now.number ≡ l.fn.halted.number;
  serving : AttachedHalted l.now.number (g.D.Dmi.seen l.link);
  steps : SteppedLed l.fn.count l._step l.fn.halted.number l.table (told (g.D.Dmi.seen l.fn.link)) (told (g.D.Dmi.seen l.link));
  later : (g.D.Dmi.seen l.fn.link).fault_count ≤ (g.D.Dmi.seen l.link).fault_count;
  fixed : (g.D.Dmi.seen l.link).fixed ≡ (g.D.Dmi.seen l.fn.link).fixed;
}
