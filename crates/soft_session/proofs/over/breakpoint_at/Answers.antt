use Rattle.std.proofs.Common.{◌∙◌, refl, sym}
use Rattle.soft_session.specs.Stepping.PcRead.{elsewhere, none_set, there}
use Rattle.soft_session.proofs.SettingSteps.{none_set_yet}
use Rattle.probe_session.proofs.LinkLemmas.{if_err}
use Rattle.probe_run.specs.Told.{told}
use Rattle.rv_model.specs.Registers.{pc_number}
use Rattle.probe_session.proofs.RegisterLemmas.{of_harts}
use Rattle.soft_session.proofs.CutSteps.{read_cut}
use Rattle.soft_session.proofs.CausedCalls.{read_fell}
use Rattle.soft_session.proofs.over.breakpoint_at.Goals as goal

pub returns-then-is_empty-clause-read : goal.returns-then-is_empty-clause-read
returns-then-is_empty-clause-read g c =
    none_set (none_set_yet c.patches.result.now c.args.table.now.addresses c.patches.ensures.list (sym c.if-is_empty.ensures)) refl

pub returns-then-planted-clause-read : goal.returns-then-planted-clause-read
returns-then-planted-clause-read g c = there c.in_ok-pc.ensures.got (sym c.planted.ensures ∙ c.if-planted.true)

pub returns-else-planted-clause-read : goal.returns-else-planted-clause-read
returns-else-planted-clause-read g c = elsewhere c.in_ok-pc.ensures.got (sym c.planted.ensures ∙ c.if-planted.false)

pub returns-in_err-pc-clause-cut : goal.returns-in_err-pc-clause-cut
returns-in_err-pc-clause-cut g c =
    if_err _ c.in_err-pc.field-0.0 _ c.from_residual.ensures.1 (λ p. read_cut c.args.halted.now.number pc_number p _ _ (told (g.D.Dmi.seen c.args.link.now))
    (told (g.D.Dmi.seen c.reg.new.link)) c.in_err-pc.field-0.0 (of_harts pc_number (λ core. refl)) c.in_err-pc.ensures.fell)

pub returns-in_err-pc-clause-caused : goal.returns-in_err-pc-clause-caused
returns-in_err-pc-clause-caused g c =
    if_err _ c.in_err-pc.field-0.0 _ c.from_residual.ensures.1
    (read_fell c.args.halted.now.number pc_number c.in_err-pc.field-0.0 (g.D.Dmi.seen c.args.link.now) (g.D.Dmi.seen c.reg.new.link)
    c.in_err-pc.ensures.fell)
