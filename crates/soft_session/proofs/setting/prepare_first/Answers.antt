use Rattle.std.proofs.Common.{refl, sym}
use Rattle.probe_run.specs.Told.{told}
use Rattle.probe_session.specs.Failures.{failure_of_access}
use Rattle.probe_session.specs.Links.{Attached}
use Rattle.probe_session.proofs.Conversions.{goes_err}
use Rattle.probe_session.proofs.LinkLemmas.{access_left}
use Rattle.soft_session.proofs.SettingSteps.{first_looked, none_looked, none_set_yet, some_set}
use Rattle.probe_session.proofs.LinkLemmas.{if_err}
use Rattle.std.proofs.Common.{subst}
use Rattle.soft_session.specs.Cuts.{Cuts, at_prepared}
use Rattle.soft_session.proofs.CutCalls.{prepare_cut}
use Rattle.soft_session.proofs.CausedAccesses.{prepare_caused}
use Rattle.soft_session.proofs.CausedCalls.{by_access_since}
use Rattle.soft_session.proofs.setting.prepare_first.Goals as goal

pub returns-then-not-is_empty-clause-led : goal.returns-then-not-is_empty-clause-led
returns-then-not-is_empty-clause-led g c next ready t =
    none_looked c.args.table.now.addresses next ready t (told (g.D.Dmi.seen c.args.link.now))
    (some_set c.patches.result.now c.args.table.now.addresses c.patches.ensures.list (sym c.if-not-is_empty.ensures))

pub returns-in_err-prepared-clause-keeps : goal.returns-in_err-prepared-clause-keeps
returns-in_err-prepared-clause-keeps g c =
    goes_err (λ _. Attached) (g.D.Dmi.seen c.args.link.now) (g.D.Dmi.seen c.prepare.new.link) (failure_of_access c.in_err-prepared.field-0.0)
    c.from_residual.result c.prepare.ensures.keeps.later c.prepare.ensures.keeps.fixed c.from_residual.ensures.1
    (access_left (g.D.Dmi.seen c.prepare.new.link) c.in_err-prepared.field-0.0 (failure_of_access c.in_err-prepared.field-0.0)
    c.in_err-prepared.ensures.keeps.behind refl)

pub returns-clause-led : goal.returns-clause-led
returns-clause-led g c next ready t =
    first_looked c.args.table.now.addresses c.in_ok-prepared.prepared next ready t (told (g.D.Dmi.seen c.args.link.now))
    (told (g.D.Dmi.seen c.prepare.new.link))
    (none_set_yet c.patches.result.now c.args.table.now.addresses c.patches.ensures.list (sym c.if-not-is_empty.ensures)) c.in_ok-prepared.ensures.prepared

pub returns-in_err-prepared-clause-cut : goal.returns-in_err-prepared-clause-cut
returns-in_err-prepared-clause-cut g c =
    if_err _ (failure_of_access c.in_err-prepared.field-0.0) _ c.from_residual.ensures.1
    (λ b t. subst (λ ps. Cuts (at_prepared ps b t) (told (g.D.Dmi.seen c.args.link.now)) (failure_of_access c.in_err-prepared.field-0.0)
    (told (g.D.Dmi.seen c.prepare.new.link)))
    (sym (none_set_yet c.patches.result.now c.args.table.now.addresses c.patches.ensures.list (sym c.if-not-is_empty.ensures)))
    (prepare_cut _ _ b t (told (g.D.Dmi.seen c.args.link.now)) (told (g.D.Dmi.seen c.prepare.new.link)) c.in_err-prepared.field-0.0
    (failure_of_access c.in_err-prepared.field-0.0) refl c.in_err-prepared.ensures.failed))

pub returns-in_err-prepared-clause-caused : goal.returns-in_err-prepared-clause-caused
returns-in_err-prepared-clause-caused g c =
    if_err _ (failure_of_access c.in_err-prepared.field-0.0) _ c.from_residual.ensures.1
    (by_access_since c.in_err-prepared.field-0.0 (g.D.Dmi.seen c.args.link.now) (g.D.Dmi.seen c.prepare.new.link)
    (prepare_caused c.in_err-prepared.field-0.0 _ _ _ _ c.in_err-prepared.ensures.failed))
