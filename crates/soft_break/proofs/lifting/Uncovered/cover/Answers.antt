use Rattle.std.proofs.Common.{subst}
use Rattle.rv_model.specs.declared.size.Size.TheVariants.{B4}
use Rattle.probe_run.specs.Told.{OnChip}
use Rattle.probe_access.specs.Accesses.{StoredAt}
use Rattle.soft_break.proofs.LeadLemmas.{cover_leads}
use Rattle.soft_break.proofs.lifting.Uncovered.cover.Goals as goal

pub returns-clause-leads : goal.returns-clause-leads
returns-clause-leads g c =
    cover_leads c.args.self.at (g.D.Dmi.seen c.args.link.now).far (g.D.Dmi.seen c.store.new.link).far
    (subst (λ v. OnChip (StoredAt B4 c.args.self.at v) (g.D.Dmi.seen c.args.link.now) (g.D.Dmi.seen c.store.new.link)) c.from.ensures
    c.in_ok-store.ensures.stored)
