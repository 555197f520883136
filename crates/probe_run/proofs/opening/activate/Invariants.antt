use Rattle.probe_run.specs.Told.{told}
use Rattle.std.proofs.Common.{◌≡◌, ◌≤◌, ◌-◌, ◌+◌}
use Rattle.debug_model.specs.Kept.{Stands}
use Rattle.debug_model.specs.Rises.{Within}
use Rattle.probe_run.proofs.OpeningLemmas.{Reads}
use Rattle.probe_run.proofs.opening.activate.Given as goal

abbrev pub invariant-reads : goal.invariant-reads
invariant-reads g l = record {
  stands : Stands (g.D.Dmi.seen l.link);
  later : (g.D.Dmi.seen l.fn.link).fault_count ≤ (g.D.Dmi.seen l.link).fault_count;
  fixed : (g.D.Dmi.seen l.link).fixed ≡ (g.D.Dmi.seen l.fn.link).fixed;
  rises : Within (1 + l.reads) (g.D.Dmi.seen l.fn.link) (g.D.Dmi.seen l.link);
  reads : Reads (told (g.D.Dmi.seen l.fn.link)) (told (g.D.Dmi.seen l.link)) l.reads l.last;
  few : l.reads ≤ 64;
}

abbrev pub decreases-reads : goal.decreases-reads
decreases-reads g l = 64 - l.reads
