use Rattle.probe_run.specs.Told.{told}
use Rattle.std.proofs.Common.{◌≡◌, ◌≤◌}
use Rattle.debug_model.specs.Kept.{Stands}
use Rattle.probe_access.proofs.PollRises.{FewPolls}
use Rattle.probe_access.proofs.Polls.{Started}
use Rattle.probe_access.proofs.commands.await_end.Given as goal

abbrev pub invariant-polls : goal.invariant-polls
invariant-polls g l = record {
  started : Started l._polls l.first l.word (told (g.D.Dmi.seen l.fn.link)) (told (g.D.Dmi.seen l.link));
  few : FewPolls l._polls l.word (g.D.Dmi.seen l.fn.link) (g.D.Dmi.seen l.link);
  stands : Stands (g.D.Dmi.seen l.link);
  later : (g.D.Dmi.seen l.fn.link).fault_count ≤ (g.D.Dmi.seen l.link).fault_count;
  fixed : (g.D.Dmi.seen l.link).fixed ≡ (g.D.Dmi.seen l.fn.link).fixed;
}
