use Rattle.debug_model.proofs.RiseLemmas.{within_more, within_then}
use Rattle.std.proofs.Common.{◌∙◌, sym, arith}
use Rattle.probe_session.proofs.HartLines.{stop_falls, stop_plain, stop_trigger, stop_view_falls}
use Rattle.probe_session.proofs.LinkLemmas.{if_err}
use Rattle.probe_session.proofs.Whole.{says_found, says_trigger}
use Rattle.probe_session.proofs.NeverLemmas.{gives_up_then}
use Rattle.probe_session.proofs.hart_lines.stop_line.Goals as goal

pub returns-in_err-at-clause-falls : goal.returns-in_err-at-clause-falls
returns-in_err-at-clause-falls g c = if_err _ c.in_err-at.field-0.0 _ c.from_residual.ensures.1 (stop_falls c.args.halted.now.number c.in_err-at.ensures.fell)

pub returns-in_err-seen-clause-falls : goal.returns-in_err-seen-clause-falls
returns-in_err-seen-clause-falls g c = if_err _ c.in_err-seen.field-0.0 _ c.from_residual-in_err-seen.ensures.1
    (stop_view_falls c.args.halted.now.number _ _ c.in_ok-at.ensures.found c.stop.ensures.keeps.later c.in_err-seen.ensures.fell)

pub returns-then-at-number-clause-went : goal.returns-then-at-number-clause-went
returns-then-at-number-clause-went g c = stop_trigger c.args.halted.now.number c.in_ok-at.at.pc c.in_ok-at.at.cause c.in_ok-seen.seen
    c.in_ok-at.ensures.found (c.if-at-number.true ∙ c.number.ensures) c.in_ok-seen.ensures.viewed

pub returns-clause-went : goal.returns-clause-went
returns-clause-went g c = stop_plain c.args.halted.now.number _ _ _ c.in_ok-at.ensures.found (λ e. c.if-at-number.false (e ∙ sym c.number.ensures))

pub returns-then-at-number-clause-whole : goal.returns-then-at-number-clause-whole
returns-then-at-number-clause-whole g c = λ shows. says_trigger c.in_ok-at.at.cause (c.if-at-number.true ∙ c.number.ensures) shows

pub returns-clause-whole : goal.returns-clause-whole
returns-clause-whole g c = λ shows. says_found c.args.halted.now.number c.in_ok-at.at.pc c.in_ok-at.at.cause _ _ c.requires.serving.serving
    c.in_ok-at.ensures.keeps.behind.serving c.in_ok-at.ensures.found shows

pub returns-in_err-at-clause-rises : goal.returns-in_err-at-clause-rises
returns-in_err-at-clause-rises g c =
    within_more 26 210 _ _ c.stop.ensures.rises (omega arith)

pub returns-in_err-seen-clause-rises : goal.returns-in_err-seen-clause-rises
returns-in_err-seen-clause-rises g c =
    within_then 26 184 210 _ (g.D.Dmi.seen c.stop.new.link) _ c.stop.ensures.rises c.slots.ensures.rises c.stop.ensures.keeps.fixed (omega arith)

pub returns-then-at-number-clause-rises : goal.returns-then-at-number-clause-rises
returns-then-at-number-clause-rises g c =
    within_then 26 184 210 _ (g.D.Dmi.seen c.stop.new.link) _ c.stop.ensures.rises c.slots.ensures.rises c.stop.ensures.keeps.fixed (omega arith)

pub returns-clause-rises : goal.returns-clause-rises
returns-clause-rises g c =
    within_more 26 210 _ _ c.stop.ensures.rises (omega arith)

pub returns-in_err-seen-clause-never : goal.returns-in_err-seen-clause-never
returns-in_err-seen-clause-never g c =
    if_err _ c.in_err-seen.field-0.0 _ c.from_residual-in_err-seen.ensures.1
    (gives_up_then 26 _ (g.D.Dmi.seen c.stop.new.link) c.in_err-seen.field-0.0 c.stop.ensures.rises c.in_err-seen.ensures.never)
