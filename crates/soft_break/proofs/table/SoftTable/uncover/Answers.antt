use Rattle.std.proofs.Common.{subst}
use Rattle.rv_model.specs.declared.size.Size.TheVariants.{B4}
use Rattle.probe_run.specs.Told.{OnChip}
use Rattle.probe_access.specs.Accesses.{StoredAt}
use Rattle.soft_break.specs.Patches.{original_of}
use Rattle.soft_break.proofs.LeadLemmas.{lift_leads}
use Rattle.soft_break.proofs.PlantSteps.{aligned_word}
use Rattle.soft_break.proofs.table.SoftTable.uncover.Goals as goal

pub store-requires-clause-aligned : goal.store-requires-clause-aligned
store-requires-clause-aligned g c = aligned_word c.args.at c.original.ensures.word

pub invariant_of-result : goal.invariant_of-result
invariant_of-result g c = record { within = aligned_word c.args.at c.original.ensures.word }

pub returns-clause-leads : goal.returns-clause-leads
returns-clause-leads g c =
    lift_leads c.args.at (original_of c.args.at c.args.self.now) (g.D.Dmi.seen c.args.link.now).far (g.D.Dmi.seen c.store.new.link).far
    (subst (λ v. OnChip (StoredAt B4 c.args.at v) (g.D.Dmi.seen c.args.link.now) (g.D.Dmi.seen c.store.new.link)) c.original.ensures.original
    (subst (λ v. OnChip (StoredAt B4 c.args.at v) (g.D.Dmi.seen c.args.link.now) (g.D.Dmi.seen c.store.new.link)) c.from.ensures
    c.in_ok-store.ensures.stored))
