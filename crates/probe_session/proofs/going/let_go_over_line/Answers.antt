use Rattle.debug_model.proofs.RiseLemmas.{within_more, within_then}
use Rattle.std.proofs.Common.{◌∙◌, sym, arith}
use Rattle.probe_session.specs.Commands.{at_stop_line, ends_with}
use Rattle.probe_session.specs.Said.{said_by}
use Rattle.probe_session.proofs.GoingLines.{at_going, behind_falls, err_at, found_other, found_whole, free_to_go, got_at, held_back, held_falls, ok_at}
use Rattle.probe_session.proofs.GoingLines.{read_fell_at, view_falls}
use Rattle.probe_session.proofs.LinkLemmas.{goes_at, if_err}
use Rattle.probe_session.proofs.OneLine.{err_then, ok_then}
use Rattle.probe_session.proofs.NeverLemmas.{behind_then, gives_up_then}
use Rattle.probe_session.proofs.going.let_go_over_line.Goals as goal

pub returns-in_err-seen-clause-falls : goal.returns-in_err-seen-clause-falls
returns-in_err-seen-clause-falls g c = if_err _ c.in_err-seen.field-0.0 _ c.from_residual.ensures.1 (view_falls c.args.halted.number c.in_err-seen.ensures.fell)

pub returns-then-not-has_any-clause-went : goal.returns-then-not-has_any-clause-went
returns-then-not-has_any-clause-went g c = ok_then (λ line. ends_with (said_by line)) _ _
    (free_to_go c.args.halted.number c.in_ok-seen.seen (sym c.has_any.ensures ∙ c.if-not-has_any.true) c.in_ok-seen.ensures.viewed) c.free_line.ensures.went

pub returns-then-not-has_any-clause-falls : goal.returns-then-not-has_any-clause-falls
returns-then-not-has_any-clause-falls g c = err_then _ _ _ (free_to_go c.args.halted.number c.in_ok-seen.seen (sym c.has_any.ensures ∙ c.if-not-has_any.true)
    c.in_ok-seen.ensures.viewed) c.slots.ensures.keeps.later c.free_line.ensures.falls

pub returns-in_err-again-clause-falls : goal.returns-in_err-again-clause-falls
returns-in_err-again-clause-falls g c =
    if_err _ c.in_err-again.field-0.0 _ c.from_residual-in_err-again.ensures.1
    (held_falls c.args.halted.number c.in_ok-seen.seen (sym c.has_any.ensures ∙ c.if-not-has_any.false) c.in_ok-seen.ensures.viewed c.slots.ensures.keeps.later
    c.in_err-again.ensures.fell)

pub returns-in_err-word-clause-falls : goal.returns-in_err-word-clause-falls
returns-in_err-word-clause-falls g c =
    if_err _ c.in_err-word.field-0.0 _ c.from_residual-in_err-word.ensures.1 (behind_falls c.args.halted.number
    (held_back c.args.halted.number c.in_ok-seen.seen (sym c.has_any.ensures ∙ c.if-not-has_any.false) c.in_ok-seen.ensures.viewed c.in_ok-again.ensures.made)
    (omega (arith, c.slots.ensures.keeps.later, c.step_over.ensures.keeps.later)) (read_fell_at c.in_ok-again.ensures.hart c.in_err-word.ensures.fell))

pub returns-then-shows_step-clause-went : goal.returns-then-shows_step-clause-went
returns-then-shows_step-clause-went g c =
    ok_then (λ line. ends_with (said_by line)) _ _ (found_whole c.args.halted.number _
    (held_back c.args.halted.number c.in_ok-seen.seen (sym c.has_any.ensures ∙ c.if-not-has_any.false) c.in_ok-seen.ensures.viewed c.in_ok-again.ensures.made)
    (sym c.shows_step.ensures ∙ c.if-shows_step.true) (got_at c.in_ok-again.ensures.hart c.in_ok-word.ensures.got))
    (ok_at at_going (λ line. ends_with (said_by line)) _ _ _ c.in_ok-again.ensures.hart c.free_line-then-shows_step.ensures.went)

pub returns-then-shows_step-clause-falls : goal.returns-then-shows_step-clause-falls
returns-then-shows_step-clause-falls g c =
    err_then _ _ _ (found_whole c.args.halted.number _ (held_back c.args.halted.number c.in_ok-seen.seen (sym c.has_any.ensures ∙ c.if-not-has_any.false)
    c.in_ok-seen.ensures.viewed c.in_ok-again.ensures.made) (sym c.shows_step.ensures ∙ c.if-shows_step.true)
    (got_at c.in_ok-again.ensures.hart c.in_ok-word.ensures.got))
    (omega (arith, c.slots.ensures.keeps.later, c.step_over.ensures.keeps.later, c.reg.ensures.keeps.later))
    (err_at at_going _ _ _ _ _ c.in_ok-again.ensures.hart c.free_line-then-shows_step.ensures.falls)

pub returns-clause-went : goal.returns-clause-went
returns-clause-went g c = ok_then (λ line. ends_with (said_by line)) _ _
    (found_other c.args.halted.number _ (held_back c.args.halted.number c.in_ok-seen.seen (sym c.has_any.ensures ∙ c.if-not-has_any.false)
    c.in_ok-seen.ensures.viewed c.in_ok-again.ensures.made) (sym c.shows_step.ensures ∙ c.if-shows_step.false)
    (got_at c.in_ok-again.ensures.hart c.in_ok-word.ensures.got))
    (ok_at at_stop_line (λ line. ends_with (said_by line)) _ _ _ c.in_ok-again.ensures.hart c.stop_line.ensures.went)

pub returns-clause-falls : goal.returns-clause-falls
returns-clause-falls g c =
    err_then _ _ _ (found_other c.args.halted.number _ (held_back c.args.halted.number c.in_ok-seen.seen (sym c.has_any.ensures ∙ c.if-not-has_any.false)
    c.in_ok-seen.ensures.viewed c.in_ok-again.ensures.made) (sym c.shows_step.ensures ∙ c.if-shows_step.false)
    (got_at c.in_ok-again.ensures.hart c.in_ok-word.ensures.got))
    (omega (arith, c.slots.ensures.keeps.later, c.step_over.ensures.keeps.later, c.reg.ensures.keeps.later))
    (err_at at_stop_line _ _ _ _ _ c.in_ok-again.ensures.hart c.stop_line.ensures.falls)

pub returns-then-shows_step-clause-keeps : goal.returns-then-shows_step-clause-keeps
returns-then-shows_step-clause-keeps g c =
    goes_at c.in_ok-again.ensures.hart (omega (arith, c.slots.ensures.keeps.later, c.step_over.ensures.keeps.later, c.reg.ensures.keeps.later))
    (c.reg.ensures.keeps.fixed ∙ c.step_over.ensures.keeps.fixed ∙ c.slots.ensures.keeps.fixed) c.free_line-then-shows_step.ensures.keeps

pub returns-clause-keeps : goal.returns-clause-keeps
returns-clause-keeps g c =
    goes_at c.in_ok-again.ensures.hart (omega (arith, c.slots.ensures.keeps.later, c.step_over.ensures.keeps.later, c.reg.ensures.keeps.later))
    (c.reg.ensures.keeps.fixed ∙ c.step_over.ensures.keeps.fixed ∙ c.slots.ensures.keeps.fixed) c.stop_line.ensures.keeps

pub returns-in_err-seen-clause-rises : goal.returns-in_err-seen-clause-rises
returns-in_err-seen-clause-rises g c =
    within_more 184 779 _ _ c.slots.ensures.rises (omega arith)

pub returns-then-not-has_any-clause-rises : goal.returns-then-not-has_any-clause-rises
returns-then-not-has_any-clause-rises g c =
    within_then 184 2 779 _ (g.D.Dmi.seen c.slots.new.link) _ c.slots.ensures.rises c.free_line.ensures.rises c.slots.ensures.keeps.fixed (omega arith)

pub returns-in_err-again-clause-rises : goal.returns-in_err-again-clause-rises
returns-in_err-again-clause-rises g c =
    within_then 184 369 779 _ (g.D.Dmi.seen c.slots.new.link) _ c.slots.ensures.rises c.step_over.ensures.rises c.slots.ensures.keeps.fixed (omega arith)

pub returns-in_err-word-clause-rises : goal.returns-in_err-word-clause-rises
returns-in_err-word-clause-rises g c =
    within_then 553 16 779 _ (g.D.Dmi.seen c.step_over.new.link) _ (within_then 184 369 553 _ (g.D.Dmi.seen c.slots.new.link) _ c.slots.ensures.rises
    c.step_over.ensures.rises c.slots.ensures.keeps.fixed (omega arith)) c.reg.ensures.rises (c.step_over.ensures.keeps.fixed ∙ c.slots.ensures.keeps.fixed)
    (omega arith)

pub returns-then-shows_step-clause-rises : goal.returns-then-shows_step-clause-rises
returns-then-shows_step-clause-rises g c =
    within_then 569 2 779 _ (g.D.Dmi.seen c.reg.new.link) _ (within_then 553 16 569 _ (g.D.Dmi.seen c.step_over.new.link) _ (within_then 184 369 553 _
    (g.D.Dmi.seen c.slots.new.link) _ c.slots.ensures.rises c.step_over.ensures.rises c.slots.ensures.keeps.fixed (omega arith)) c.reg.ensures.rises
    (c.step_over.ensures.keeps.fixed ∙ c.slots.ensures.keeps.fixed) (omega arith)) c.free_line-then-shows_step.ensures.rises (c.reg.ensures.keeps.fixed ∙
    c.step_over.ensures.keeps.fixed ∙ c.slots.ensures.keeps.fixed) (omega arith)

pub returns-clause-rises : goal.returns-clause-rises
returns-clause-rises g c =
    within_then 569 210 779 _ (g.D.Dmi.seen c.reg.new.link) _ (within_then 553 16 569 _ (g.D.Dmi.seen c.step_over.new.link) _ (within_then 184 369 553 _
    (g.D.Dmi.seen c.slots.new.link) _ c.slots.ensures.rises c.step_over.ensures.rises c.slots.ensures.keeps.fixed (omega arith)) c.reg.ensures.rises
    (c.step_over.ensures.keeps.fixed ∙ c.slots.ensures.keeps.fixed) (omega arith)) c.stop_line.ensures.rises (c.reg.ensures.keeps.fixed ∙
    c.step_over.ensures.keeps.fixed ∙ c.slots.ensures.keeps.fixed) (omega arith)

pub returns-then-not-has_any-clause-never : goal.returns-then-not-has_any-clause-never
returns-then-not-has_any-clause-never g c =
    behind_then 184 _ (g.D.Dmi.seen c.slots.new.link) _ c.slots.ensures.rises c.free_line.ensures.never

pub returns-in_err-again-clause-never : goal.returns-in_err-again-clause-never
returns-in_err-again-clause-never g c =
    if_err _ c.in_err-again.field-0.0 _ c.from_residual-in_err-again.ensures.1
    (gives_up_then 184 _ (g.D.Dmi.seen c.slots.new.link) c.in_err-again.field-0.0 c.slots.ensures.rises c.in_err-again.ensures.never)

pub returns-in_err-word-clause-never : goal.returns-in_err-word-clause-never
returns-in_err-word-clause-never g c =
    if_err _ c.in_err-word.field-0.0 _ c.from_residual-in_err-word.ensures.1
    (gives_up_then 184 _ (g.D.Dmi.seen c.slots.new.link) c.in_err-word.field-0.0 c.slots.ensures.rises
    (gives_up_then 369 _ (g.D.Dmi.seen c.step_over.new.link) c.in_err-word.field-0.0 c.step_over.ensures.rises c.in_err-word.ensures.never))

pub returns-then-shows_step-clause-never : goal.returns-then-shows_step-clause-never
returns-then-shows_step-clause-never g c =
    behind_then 184 _ (g.D.Dmi.seen c.slots.new.link) _ c.slots.ensures.rises (behind_then 369 _ (g.D.Dmi.seen c.step_over.new.link) _ c.step_over.ensures.rises
    (behind_then 16 _ (g.D.Dmi.seen c.reg.new.link) _ c.reg.ensures.rises c.free_line-then-shows_step.ensures.never))

pub returns-clause-never : goal.returns-clause-never
returns-clause-never g c =
    behind_then 184 _ (g.D.Dmi.seen c.slots.new.link) _ c.slots.ensures.rises (behind_then 369 _ (g.D.Dmi.seen c.step_over.new.link) _ c.step_over.ensures.rises
    (behind_then 16 _ (g.D.Dmi.seen c.reg.new.link) _ c.reg.ensures.rises c.stop_line.ensures.never))
