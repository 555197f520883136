use Rattle.std.specs.Bool.{⊤}
use Rattle.std.proofs.Common.{◌∙◌, sym}
use Rattle.probe_run.specs.Told.{told}
use Rattle.soft_session.proofs.SettingSteps.{by_refusal, plant_held, plant_refused}
use Rattle.soft_session.proofs.CutCalls.{plant_cut}
use Rattle.soft_session.proofs.CausedAccesses.{plant_caused}
use Rattle.soft_session.proofs.CausedCalls.{by_soft, if_access_map}
use Rattle.soft_session.proofs.setting.plant_word.Goals as goal

pub returns-in-Ok-clause-led : goal.returns-in-Ok-clause-led
returns-in-Ok-clause-led g c =
    plant_held c.args.at _ _ (told (g.D.Dmi.seen c.args.link.now)) (told (g.D.Dmi.seen c.plant.new.link)) c.requires.word c.requires.free c.in-Ok.ensures.table
    c.in-Ok.ensures.fits c.in-Ok.ensures.leads

pub returns-then-is_refusal-clause-led : goal.returns-then-is_refusal-clause-led
returns-then-is_refusal-clause-led g c =
    plant_refused c.args.at _ _ (told (g.D.Dmi.seen c.args.link.now)) (told (g.D.Dmi.seen c.plant.new.link)) c.requires.free c.in-Err.ensures.table
    (by_refusal _ c.in-Err.fault (sym c.is_refusal.ensures ∙ c.if-is_refusal.true) c.in-Err.ensures.leads_refused)

pub returns-else-is_refusal-clause-cut : goal.returns-else-is_refusal-clause-cut
returns-else-is_refusal-clause-cut g c =
    plant_cut ⊤ c.args.at c.args.table.now (g.D.Dmi.seen c.args.link.now) (g.D.Dmi.seen c.plant.new.link) c.in-Err.fault _ c.failure_of.ensures
    (sym c.is_refusal.ensures ∙ c.if-is_refusal.false) c.requires.word c.requires.free c.in-Err.ensures.left c.in-Err.ensures.cut c.in-Err.ensures.keeps.behind

pub returns-else-is_refusal-clause-caused : goal.returns-else-is_refusal-clause-caused
returns-else-is_refusal-clause-caused g c =
    by_soft c.in-Err.fault _ (g.D.Dmi.seen c.args.link.now) (g.D.Dmi.seen c.plant.new.link) c.failure_of.ensures
    (if_access_map _ _ c.in-Err.fault (λ e f. plant_caused e c.args.at _ _ _ _ c.plant.ensures.keeps.later f) c.in-Err.ensures.failed)
