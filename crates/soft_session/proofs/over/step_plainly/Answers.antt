use Rattle.std.proofs.Common.{[], subst, sym}
use Rattle.rv_model.specs.DebugRegisters.{dcsr_number}
use Rattle.probe_run.specs.Told.{told}
use Rattle.probe_session.specs.Calls.{Got}
use Rattle.soft_session.proofs.SteppingSteps.{step_led}
use Rattle.probe_session.proofs.LinkLemmas.{if_err}
use Rattle.probe_session.proofs.GoingLines.{read_fell_at}
use Rattle.soft_session.proofs.CutFlow.{behind_step_cut, step_once_cut}
use Rattle.probe_session.specs.Going.{at_one}
use Rattle.soft_session.proofs.CausedCalls.{any_branches, fell, read_fell, since_err}
use Rattle.soft_session.proofs.over.step_plainly.Goals as goal

pub returns-clause-led : goal.returns-clause-led
returns-clause-led g c =
    step_led c.args.halted.number c.in_ok-word.word c.shows_step.result (told (g.D.Dmi.seen c.args.link.now)) (told (g.D.Dmi.seen c.step_once.new.link))
    (told (g.D.Dmi.seen c.reg.new.link)) c.in_ok-again.ensures.went
    (subst (λ n. Got n dcsr_number c.in_ok-word.word (told (g.D.Dmi.seen c.step_once.new.link)) (told (g.D.Dmi.seen c.reg.new.link))) c.in_ok-again.ensures.hart
    c.in_ok-word.ensures.got) (sym c.shows_step.ensures)

pub returns-in_err-again-clause-cut : goal.returns-in_err-again-clause-cut
returns-in_err-again-clause-cut g c =
    if_err _ c.in_err-again.field-0.0 _ c.from_residual.ensures.1
    (step_once_cut c.args.halted.number _ _ (told (g.D.Dmi.seen c.args.link.now)) (told (g.D.Dmi.seen c.step_once.new.link)) c.in_err-again.field-0.0
    c.in_err-again.ensures.falls)

pub returns-in_err-word-clause-cut : goal.returns-in_err-word-clause-cut
returns-in_err-word-clause-cut g c =
    if_err _ c.in_err-word.field-0.0 _ c.from_residual-in_err-word.ensures.1
    (behind_step_cut c.args.halted.number _ _ (told (g.D.Dmi.seen c.args.link.now)) (told (g.D.Dmi.seen c.step_once.new.link))
    (told (g.D.Dmi.seen c.reg.new.link)) c.in_err-word.field-0.0 c.in_ok-again.ensures.went
    (read_fell_at c.in_ok-again.ensures.hart c.in_err-word.ensures.fell))

pub returns-in_err-again-clause-caused : goal.returns-in_err-again-clause-caused
returns-in_err-again-clause-caused g c =
    if_err _ c.in_err-again.field-0.0 _ c.from_residual.ensures.1
    (fell (at_one c.args.halted.number) any_branches [] c.in_err-again.field-0.0 (g.D.Dmi.seen c.args.link.now) (g.D.Dmi.seen c.step_once.new.link)
    c.in_err-again.ensures.falls)

pub returns-in_err-word-clause-caused : goal.returns-in_err-word-clause-caused
returns-in_err-word-clause-caused g c =
    since_err ⊥ c.in_err-word.field-0.0 (g.D.Dmi.seen c.args.link.now) (g.D.Dmi.seen c.step_once.new.link) (g.D.Dmi.seen c.reg.new.link) _
    c.from_residual-in_err-word.ensures.1 c.step_once.ensures.keeps.later c.reg.ensures.keeps.later
    (read_fell _ dcsr_number c.in_err-word.field-0.0 (g.D.Dmi.seen c.step_once.new.link) (g.D.Dmi.seen c.reg.new.link) c.in_err-word.ensures.fell)
