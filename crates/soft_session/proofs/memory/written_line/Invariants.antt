use Rattle.std.proofs.Common.{◌≡◌, ◌≤◌}
use Rattle.probe_run.specs.Told.{told}
use Rattle.probe_session.specs.Reach.{AttachedBy}
use Rattle.soft_session.proofs.WriteSteps.{WroteSome}
use Rattle.soft_session.proofs.memory.written_line.Given as goal

abbrev pub invariant-storing : goal.invariant-storing
invariant-storing g l = record {
  serving : AttachedBy l.reach (g.D.Dmi.seen l.link);
  later : (g.D.Dmi.seen l.fn.link).fault_count ≤ (g.D.Dmi.seen l.link).fault_count;
  fixed : (g.D.Dmi.seen l.link).fixed ≡ (g.D.Dmi.seen l.fn.link).fixed;
  same : l.table.addresses ≡ l.fn.table.addresses;
  wrote : WroteSome l.reach l.size l.address l.value l.count l.number l.fn.table l.table (told (g.D.Dmi.seen l.fn.link)) (told (g.D.Dmi.seen l.link));
}
