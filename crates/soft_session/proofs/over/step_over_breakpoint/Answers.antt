use Rattle.std.proofs.Common.{◌∙◌, refl, subst, arith}
use Rattle.probe_run.specs.Told.{told}
use Rattle.probe_session.specs.Failures.{failure_of_access}
use Rattle.probe_session.specs.Links.{AttachedHalted}
use Rattle.probe_session.proofs.Conversions.{goes_err}
use Rattle.probe_session.proofs.LinkLemmas.{access_left}
use Rattle.soft_break.specs.Leading.{CoverLeads}
use Rattle.soft_session.proofs.SteppingSteps.{over_led}
use Rattle.probe_session.proofs.LinkLemmas.{if_err}
use Rattle.std.proofs.Common.{sym}
use Rattle.soft_break.specs.Patches.{original_of}
use Rattle.soft_session.specs.Cuts.{CutsOf, at_over}
use Rattle.soft_session.proofs.CutCalls.{cover_cut, uncover_cut}
use Rattle.soft_session.proofs.CutFlow.{lifted_cut, stepped_cut}
use Rattle.soft_session.specs.Caused.{LinkCaused}
use Rattle.soft_session.proofs.CausedAccesses.{store_caused}
use Rattle.soft_laws.specs.SoftBreaks.{ebreak_word}
use Rattle.soft_session.proofs.CausedCalls.{by_access, since, since_err}
use Rattle.soft_session.proofs.over.step_over_breakpoint.Goals as goal

pub returns-in_err-lifted-clause-keeps : goal.returns-in_err-lifted-clause-keeps
returns-in_err-lifted-clause-keeps g c =
    goes_err (λ _. AttachedHalted c.args.halted.number) (g.D.Dmi.seen c.args.link.now) (g.D.Dmi.seen c.uncover.new.link)
    (failure_of_access c.in_err-lifted.field-0.0) c.from_residual.result c.uncover.ensures.keeps.later c.uncover.ensures.keeps.fixed c.from_residual.ensures.1
    (access_left (g.D.Dmi.seen c.uncover.new.link) c.in_err-lifted.field-0.0 (failure_of_access c.in_err-lifted.field-0.0)
    c.in_err-lifted.ensures.keeps.behind refl)

pub returns-in_err-cover-in-Ok-clause-keeps : goal.returns-in_err-cover-in-Ok-clause-keeps
returns-in_err-cover-in-Ok-clause-keeps g c =
    goes_err (λ _. AttachedHalted c.args.halted.number) (g.D.Dmi.seen c.args.link.now) (g.D.Dmi.seen c.cover.new.link)
    (failure_of_access c.in_err-cover-in-Ok.field-0.0) c.from_residual-in_err-cover-in-Ok.result
    (omega (arith, c.uncover.ensures.keeps.later, c.step_plainly.ensures.keeps.later, c.cover.ensures.keeps.later))
    (c.cover.ensures.keeps.fixed ∙ c.step_plainly.ensures.keeps.fixed ∙ c.uncover.ensures.keeps.fixed) c.from_residual-in_err-cover-in-Ok.ensures.1
    (access_left (g.D.Dmi.seen c.cover.new.link) c.in_err-cover-in-Ok.field-0.0 (failure_of_access c.in_err-cover-in-Ok.field-0.0)
    c.in_err-cover-in-Ok.ensures.keeps.behind refl)

pub returns-in_ok-cover-in-Ok-clause-led : goal.returns-in_ok-cover-in-Ok-clause-led
returns-in_ok-cover-in-Ok-clause-led g c =
    over_led c.args.halted.number c.args.at c.args.table.now c.in-Ok.stepped.is_whole (told (g.D.Dmi.seen c.args.link.now))
    (told (g.D.Dmi.seen c.uncover.new.link)) (told (g.D.Dmi.seen c.step_plainly.new.link)) (told (g.D.Dmi.seen c.cover.new.link))
    c.requires.set c.in_ok-lifted.ensures.leads c.in-Ok.ensures.led
    (subst (λ n. CoverLeads n (g.D.Dmi.seen c.step_plainly.new.link).far (g.D.Dmi.seen c.cover.new.link).far) c.in_ok-lifted.ensures.uncovered
    c.in_ok-cover-in-Ok.ensures.leads)

pub returns-in_err-lifted-clause-cut : goal.returns-in_err-lifted-clause-cut
returns-in_err-lifted-clause-cut g c =
    if_err _ (failure_of_access c.in_err-lifted.field-0.0) _ c.from_residual.ensures.1
    (uncover_cut c.args.halted.number c.args.at (original_of c.args.at c.args.table.now) c.in_err-lifted.field-0.0
    (failure_of_access c.in_err-lifted.field-0.0) c.args.table.now (told (g.D.Dmi.seen c.args.link.now))
    (told (g.D.Dmi.seen c.uncover.new.link)) refl c.in_err-lifted.ensures.left c.in_err-lifted.ensures.cut)

pub returns-in_err-cover-in-Ok-clause-cut : goal.returns-in_err-cover-in-Ok-clause-cut
returns-in_err-cover-in-Ok-clause-cut g c =
    if_err _ (failure_of_access c.in_err-cover-in-Ok.field-0.0) _ c.from_residual-in_err-cover-in-Ok.ensures.1
    (stepped_cut c.args.halted.number c.args.at c.args.table.now c.in-Ok.stepped.is_whole (told (g.D.Dmi.seen c.args.link.now))
    (told (g.D.Dmi.seen c.uncover.new.link)) (told (g.D.Dmi.seen c.step_plainly.new.link)) (told (g.D.Dmi.seen c.cover.new.link))
    (failure_of_access c.in_err-cover-in-Ok.field-0.0) c.requires.set c.in_ok-lifted.ensures.leads c.in-Ok.ensures.led
    (λ b t. cover_cut c.args.halted.number _ c.args.at _ (original_of c.args.at c.args.table.now) c.in-Ok.stepped.is_whole c.in_err-cover-in-Ok.field-0.0
    (failure_of_access c.in_err-cover-in-Ok.field-0.0) b t (told (g.D.Dmi.seen c.step_plainly.new.link))
    (told (g.D.Dmi.seen c.cover.new.link)) refl c.in_err-cover-in-Ok.ensures.left
    c.in_err-cover-in-Ok.ensures.cut))

pub returns-in-Err-clause-cut : goal.returns-in-Err-clause-cut
returns-in-Err-clause-cut g c =
    subst (CutsOf c.args.table.now (at_over c.args.at c.args.halted.number) (told (g.D.Dmi.seen c.args.link.now))
    (told (g.D.Dmi.seen c.step_plainly.new.link))) (sym c.abandon.ensures)
    (lifted_cut c.args.halted.number c.args.at c.args.table.now (told (g.D.Dmi.seen c.args.link.now)) (told (g.D.Dmi.seen c.uncover.new.link))
    (told (g.D.Dmi.seen c.step_plainly.new.link)) c.in-Err.failure c.requires.set
    c.in_ok-lifted.ensures.leads c.in-Err.ensures.cut)

pub returns-in_err-lifted-clause-caused : goal.returns-in_err-lifted-clause-caused
returns-in_err-lifted-clause-caused g c =
    if_err _ (failure_of_access c.in_err-lifted.field-0.0) _ c.from_residual.ensures.1
    (by_access c.in_err-lifted.field-0.0 (g.D.Dmi.seen c.args.link.now) (g.D.Dmi.seen c.uncover.new.link)
    (store_caused c.in_err-lifted.field-0.0 c.args.at (original_of c.args.at c.args.table.now) _ _ _ _ c.in_err-lifted.ensures.failed))

pub returns-in_err-cover-in-Ok-clause-caused : goal.returns-in_err-cover-in-Ok-clause-caused
returns-in_err-cover-in-Ok-clause-caused g c =
    since_err ⊥ (failure_of_access c.in_err-cover-in-Ok.field-0.0) (g.D.Dmi.seen c.args.link.now) (g.D.Dmi.seen c.step_plainly.new.link)
    (g.D.Dmi.seen c.cover.new.link) _ c.from_residual-in_err-cover-in-Ok.ensures.1
    (omega (arith, c.uncover.ensures.keeps.later, c.step_plainly.ensures.keeps.later)) c.cover.ensures.keeps.later
    (by_access c.in_err-cover-in-Ok.field-0.0 (g.D.Dmi.seen c.step_plainly.new.link) (g.D.Dmi.seen c.cover.new.link)
    (store_caused c.in_err-cover-in-Ok.field-0.0 _ ebreak_word _ _ _ _ c.in_err-cover-in-Ok.ensures.failed))

pub returns-in-Err-clause-caused : goal.returns-in-Err-clause-caused
returns-in-Err-clause-caused g c =
    subst (LinkCaused (g.D.Dmi.seen c.args.link.now) (g.D.Dmi.seen c.step_plainly.new.link)) (sym c.abandon.ensures)
    (since ⊥ c.in-Err.failure (g.D.Dmi.seen c.args.link.now) (g.D.Dmi.seen c.uncover.new.link) (g.D.Dmi.seen c.step_plainly.new.link)
    c.uncover.ensures.keeps.later c.step_plainly.ensures.keeps.later c.in-Err.ensures.caused)
