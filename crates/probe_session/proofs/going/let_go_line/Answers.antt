use Rattle.std.proofs.Common.{arith}
use Rattle.debug_model.proofs.RiseLemmas.{within_more, within_then}
use Rattle.probe_session.specs.Commands.{ends_with, let_go}
use Rattle.probe_session.specs.Said.{said_by}
use Rattle.probe_session.proofs.GoingLines.{maybe_held, seen_as, unheld_to_go, word_falls}
use Rattle.probe_session.proofs.LinkLemmas.{if_err}
use Rattle.probe_session.proofs.OneLine.{err_then, ok_then}
use Rattle.probe_session.proofs.going.let_go_line.Goals as goal

pub returns-in_err-is_behind_step-clause-falls : goal.returns-in_err-is_behind_step-clause-falls
returns-in_err-is_behind_step-clause-falls g c = if_err _ c.in_err-is_behind_step.field-0.0 _ c.from_residual.ensures.1
    (word_falls c.args.halted.number (let_go c.args.halted.number) c.in_err-is_behind_step.ensures.fell)

pub returns-then-branch-clause-went : goal.returns-then-branch-clause-went
returns-then-branch-clause-went g c = ok_then (λ line. ends_with (said_by line)) _ _
    (unheld_to_go c.args.halted.number (seen_as c.if-branch.true c.in_ok-is_behind_step.ensures.seen)) c.free_line.ensures.went

pub returns-then-branch-clause-falls : goal.returns-then-branch-clause-falls
returns-then-branch-clause-falls g c = err_then _ _ _
    (unheld_to_go c.args.halted.number (seen_as c.if-branch.true c.in_ok-is_behind_step.ensures.seen)) c.is_behind_step.ensures.keeps.later
    c.free_line.ensures.falls

pub returns-else-branch-clause-went : goal.returns-else-branch-clause-went
returns-else-branch-clause-went g c = ok_then (λ line. ends_with (said_by line)) _ _
    (maybe_held c.args.halted.number (seen_as c.if-branch.false c.in_ok-is_behind_step.ensures.seen)) c.let_go_over_line.ensures.went

pub returns-else-branch-clause-falls : goal.returns-else-branch-clause-falls
returns-else-branch-clause-falls g c = err_then _ _ _
    (maybe_held c.args.halted.number (seen_as c.if-branch.false c.in_ok-is_behind_step.ensures.seen)) c.is_behind_step.ensures.keeps.later
    c.let_go_over_line.ensures.falls

pub returns-in_err-is_behind_step-clause-rises : goal.returns-in_err-is_behind_step-clause-rises
returns-in_err-is_behind_step-clause-rises g c =
    within_more 16 795 _ _ c.is_behind_step.ensures.rises (omega arith)

pub returns-then-branch-clause-rises : goal.returns-then-branch-clause-rises
returns-then-branch-clause-rises g c =
    within_then 16 2 795 _ (g.D.Dmi.seen c.is_behind_step.new.link) _ c.is_behind_step.ensures.rises c.free_line.ensures.rises
    c.is_behind_step.ensures.keeps.fixed (omega arith)

pub returns-else-branch-clause-rises : goal.returns-else-branch-clause-rises
returns-else-branch-clause-rises g c =
    within_then 16 779 795 _ (g.D.Dmi.seen c.is_behind_step.new.link) _ c.is_behind_step.ensures.rises c.let_go_over_line.ensures.rises
    c.is_behind_step.ensures.keeps.fixed (omega arith)
