use Rattle.std.proofs.Common.{subst}
use Rattle.rv_model.specs.declared.size.Size.TheVariants.{B4}
use Rattle.probe_run.specs.Told.{Fails, OnChip}
use Rattle.probe_access.specs.Accesses.{BusStoredAt}
use Rattle.probe_access.specs.BusRuns.{BusStoreFailed}
use Rattle.soft_break.specs.Patches.{original_of}
use Rattle.soft_break.proofs.LeadLemmas.{bus_lift_leads}
use Rattle.soft_break.proofs.table.SoftTable.unplant.Goals as goal

pub returns-in-Err-clause-failed : goal.returns-in-Err-clause-failed
returns-in-Err-clause-failed g c =
    subst (λ v. Fails (BusStoreFailed B4 c.args.at v) (g.D.Dmi.seen c.args.link.now) (g.D.Dmi.seen c.give_back.new.link) c.in-Err.fault)
    c.original.ensures.original c.in-Err.ensures.failed

pub returns-in-Ok-clause-leads : goal.returns-in-Ok-clause-leads
returns-in-Ok-clause-leads g c =
    bus_lift_leads c.args.at (original_of c.args.at c.args.self.now) (g.D.Dmi.seen c.args.link.now).far (g.D.Dmi.seen c.give_back.new.link).far
    (subst (λ v. OnChip (BusStoredAt B4 c.args.at v) (g.D.Dmi.seen c.args.link.now) (g.D.Dmi.seen c.give_back.new.link)) c.original.ensures.original
    c.in-Ok.ensures.stored)
