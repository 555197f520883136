use Rattle.debug_model.proofs.RiseLemmas.{within_more, within_then}
use Rattle.std.proofs.Common.{◌-◌, ◌+◌, ◌*◌, arith}
use Rattle.probe_session.specs.Commands.{ends_with}
use Rattle.probe_session.specs.Going.{behind_first}
use Rattle.probe_session.specs.Said.{said_by}
use Rattle.probe_session.proofs.GoingLines.{err_at, first_falls, first_step, no_steps, ok_at}
use Rattle.probe_session.proofs.LinkLemmas.{goes_at, if_err}
use Rattle.probe_session.proofs.OneLine.{err_then, ok_then}
use Rattle.probe_session.proofs.Whole.{whole_at}
use Rattle.probe_session.proofs.going.stepped_line.Goals as goal

pub returns-then-count-eq0-clause-went : goal.returns-then-count-eq0-clause-went
returns-then-count-eq0-clause-went g c = ok_then (λ line. ends_with (said_by line)) _ _ (no_steps c.args.halted.number c.args.count c.if-count-eq0.true)
    c.stop_line.ensures.went

pub returns-then-count-eq0-clause-falls : goal.returns-then-count-eq0-clause-falls
returns-then-count-eq0-clause-falls g c = err_then _ _ _ (no_steps c.args.halted.number c.args.count c.if-count-eq0.true)
    (omega arith) c.stop_line.ensures.falls

pub returns-in_err-again-clause-falls : goal.returns-in_err-again-clause-falls
returns-in_err-again-clause-falls g c = if_err _ c.in_err-again.field-0.0 _ c.from_residual.ensures.1
    (first_falls c.args.halted.number c.args.count (c.args.count - 1) (omega (arith, c.if-count-eq0.false)) c.in_err-again.ensures.falls)

pub returns-clause-went : goal.returns-clause-went
returns-clause-went g c = ok_then (λ line. ends_with (said_by line)) _ _
    (first_step c.args.halted.number c.args.count (c.args.count - 1) (omega (arith, c.if-count-eq0.false)) c.in_ok-again.ensures.went)
    (ok_at (behind_first _) (λ line. ends_with (said_by line)) _ _ _ c.in_ok-again.ensures.hart c.more_steps_line.ensures.went)

pub returns-clause-falls : goal.returns-clause-falls
returns-clause-falls g c = err_then _ _ _ (first_step c.args.halted.number c.args.count (c.args.count - 1) (omega
    (arith, c.if-count-eq0.false)) c.in_ok-again.ensures.went)
    c.step_once.ensures.keeps.later (err_at (behind_first _) _ _ _ _ _ c.in_ok-again.ensures.hart c.more_steps_line.ensures.falls)

pub returns-clause-keeps : goal.returns-clause-keeps
returns-clause-keeps g c =
    goes_at c.in_ok-again.ensures.hart c.step_once.ensures.keeps.later c.step_once.ensures.keeps.fixed c.more_steps_line.ensures.keeps

pub returns-clause-whole : goal.returns-clause-whole
returns-clause-whole g c = whole_at _ _ c.in_ok-again.ensures.hart c.more_steps_line.ensures.whole

pub returns-then-count-eq0-clause-rises : goal.returns-then-count-eq0-clause-rises
returns-then-count-eq0-clause-rises g c =
    within_more 210 (50 * c.args.count + 545) _ _ c.stop_line.ensures.rises (omega arith)

pub returns-in_err-again-clause-rises : goal.returns-in_err-again-clause-rises
returns-in_err-again-clause-rises g c =
    within_more 385 (50 * c.args.count + 545) _ _ c.step_once.ensures.rises (omega arith)

pub returns-clause-rises : goal.returns-clause-rises
returns-clause-rises g c =
    within_then 385 (50 * (c.args.count - 1) + 210) (50 * c.args.count + 545) _ (g.D.Dmi.seen c.step_once.new.link) _ c.step_once.ensures.rises
    c.more_steps_line.ensures.rises c.step_once.ensures.keeps.fixed (omega (arith, c.if-count-eq0.false))
