use Rattle.std.proofs.Common.{◌∙◌, ap, length, subst, sym}
use Rattle.probe_run.specs.Told.{OnChip, told}
use Rattle.soft_break.specs.Calls.{Planted, PlantedAt}
use Rattle.soft_break.specs.Patches.{with_patch}
use Rattle.soft_break.proofs.LeadLemmas.{plant_leads}
use Rattle.soft_break.proofs.RefusedLemmas.{refused_leads}
use Rattle.soft_break.proofs.Views.{room_of}
use Rattle.soft_break.proofs.table.SoftTable.plant.Goals as goal

pub put-requires-clause-room : goal.put-requires-clause-room
put-requires-clause-room g c = room_of (length c.args.self.now.addresses) (sym c.is_full.ensures.full ∙ c.if-is_full.false) c.is_full.ensures.few

pub returns-in-Ok-clause-table : goal.returns-in-Ok-clause-table
returns-in-Ok-clause-table g c = c.put.ensures.put ∙ ap (λ v. with_patch c.args.at v c.args.self.now) (sym c.put.ensures.found)

pub returns-in-Ok-clause-planted_at : goal.returns-in-Ok-clause-planted_at
returns-in-Ok-clause-planted_at g c =
    subst (λ v. OnChip (PlantedAt c.args.at v) (g.D.Dmi.seen c.args.link.now) (g.D.Dmi.seen c.take_place.new.link)) (sym c.put.ensures.found)
    c.in-Ok.ensures.planted_at

pub returns-in-Ok-clause-ran : goal.returns-in-Ok-clause-ran
returns-in-Ok-clause-ran g c =
    subst (λ v. Planted c.args.at v (told (g.D.Dmi.seen c.args.link.now)) (told (g.D.Dmi.seen c.take_place.new.link))) (sym c.put.ensures.found)
    c.in-Ok.ensures.ran

pub returns-in-Ok-clause-leads : goal.returns-in-Ok-clause-leads
returns-in-Ok-clause-leads g c =
    plant_leads c.args.at _ (g.D.Dmi.seen c.args.link.now).far (g.D.Dmi.seen c.take_place.new.link).far c.requires.word
    (subst (λ v. OnChip (PlantedAt c.args.at v) (g.D.Dmi.seen c.args.link.now) (g.D.Dmi.seen c.take_place.new.link)) (sym c.put.ensures.found)
    c.in-Ok.ensures.planted_at)

pub returns-in-Err-clause-leads_refused : goal.returns-in-Err-clause-leads_refused
returns-in-Err-clause-leads_refused g c =
    refused_leads c.args.at (g.D.Dmi.seen c.args.link.now).far (g.D.Dmi.seen c.take_place.new.link).far c.in-Err.fault c.requires.word c.in-Err.ensures.left
