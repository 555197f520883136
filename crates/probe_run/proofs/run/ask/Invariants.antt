use Rattle.probe_run.specs.Told.{told}
use Rattle.std.proofs.Common.{◌≡◌, ◌≤◌, ◌+◌}
use Rattle.debug_model.specs.Kept.{Stands}
use Rattle.debug_model.specs.Rises.{Within}
use Rattle.probe_run.specs.Looks.{test_of}
use Rattle.probe_run.specs.Outcomes.{asks}
use Rattle.probe_run.proofs.SoonCalls.{FewLooks}
use Rattle.probe_run.proofs.Waiting.{Looked}
use Rattle.probe_run.proofs.run.ask.Given as goal

abbrev pub invariant-looks : goal.invariant-looks
invariant-looks g l = record {
  stands : Stands (g.D.Dmi.seen l.link);
  later : (g.D.Dmi.seen l.fn.link).fault_count ≤ (g.D.Dmi.seen l.link).fault_count;
  fixed : (g.D.Dmi.seen l.link).fixed ≡ (g.D.Dmi.seen l.fn.link).fixed;
  rises : Within (1 + l._looks) (g.D.Dmi.seen l.fn.link) (g.D.Dmi.seen l.link);
  soon : FewLooks l._looks l.fn.request (test_of l.fn.wanted) l.fn.hart (told (g.D.Dmi.seen l.fn.link));
  looked : Looked (test_of l.fn.wanted) (asks l.fn.request l.fn.hart) (told (g.D.Dmi.seen l.fn.link)) (told (g.D.Dmi.seen l.link)) l._looks l.word;
}
