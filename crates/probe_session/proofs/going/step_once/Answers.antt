use Rattle.debug_model.proofs.RiseLemmas.{within_more, within_then}
use Rattle.std.proofs.Common.{◌∙◌, refl, sym, arith}
use Rattle.abstract_debugger.specs.Debugger.{one}
use Rattle.probe_access.proofs.StepReads.{still_reads}
use Rattle.probe_session.specs.Going.{Branches, StepSeen}
use Rattle.probe_session.proofs.GoingLines.{on_ok_map, once, once_falls, once_from, once_from_falls, once_over, once_over_falls, word_falls}
use Rattle.probe_session.proofs.Knowing.{knows_step}
use Rattle.probe_session.proofs.LinkLemmas.{if_err}
use Rattle.probe_session.proofs.OneLine.{if_err_map}
use Rattle.probe_session.proofs.NeverLemmas.{behind_then}
use Rattle.probe_session.proofs.going.step_once.Goals as goal

pub returns-then-is_stepped-clause-went : goal.returns-then-is_stepped-clause-went
returns-then-is_stepped-clause-went g c = on_ok_map _ _ _
    (once c.args.halted.number
    (StepSeen.known (knows_step c.args.known _ _ (sym c.is_stepped.ensures ∙ c.if-is_stepped.true) c.requires.knows).whole refl refl)) c.step.ensures.made

pub returns-then-is_stepped-clause-falls : goal.returns-then-is_stepped-clause-falls
returns-then-is_stepped-clause-falls g c = if_err_map _ _ _
    (λ f fell. once_falls c.args.halted.number
    (StepSeen.known (knows_step c.args.known _ _ (sym c.is_stepped.ensures ∙ c.if-is_stepped.true) c.requires.knows).whole refl refl) (omega arith) fell)
    c.step.ensures.fell

pub returns-in_err-word-clause-falls : goal.returns-in_err-word-clause-falls
returns-in_err-word-clause-falls g c = if_err _ c.in_err-word.field-0.0 _ c.from_residual.ensures.1
    (word_falls c.args.halted.number (λ (b : Branches). one c.args.halted.number b.whole b.other) c.in_err-word.ensures.fell)

pub returns-then-shows_step-clause-went : goal.returns-then-shows_step-clause-went
returns-then-shows_step-clause-went g c = on_ok_map _ _ _
    (once_from c.args.halted.number _ (sym c.shows_step.ensures ∙ c.if-shows_step.true) c.in_ok-word.ensures.got) c.step_from.ensures.made

pub returns-then-shows_step-clause-falls : goal.returns-then-shows_step-clause-falls
returns-then-shows_step-clause-falls g c = if_err_map _ _ _
    (λ f fell. once_from_falls c.args.halted.number _ (sym c.shows_step.ensures ∙ c.if-shows_step.true) c.in_ok-word.ensures.got
    c.reg.ensures.keeps.later fell)
    c.step_from.ensures.fell

pub returns-else-shows_step-clause-went : goal.returns-else-shows_step-clause-went
returns-else-shows_step-clause-went g c = on_ok_map _ _ _
    (once_over c.args.halted.number (StepSeen.read c.in_ok-word.ensures.got (sym c.shows_step.ensures ∙ c.if-shows_step.false)))
    c.step_over.ensures.made

pub returns-else-shows_step-clause-falls : goal.returns-else-shows_step-clause-falls
returns-else-shows_step-clause-falls g c = if_err_map _ _ _
    (λ f fell. once_over_falls c.args.halted.number (StepSeen.read c.in_ok-word.ensures.got (sym c.shows_step.ensures ∙ c.if-shows_step.false))
    c.reg.ensures.keeps.later fell)
    c.step_over.ensures.fell

pub step_from-requires-clause-reads : goal.step_from-requires-clause-reads
step_from-requires-clause-reads g c =
    still_reads c.args.halted.number _ _ _ c.requires.serving.serving.ready c.requires.serving.serving.halted c.in_ok-word.ensures.got.told

pub returns-then-is_stepped-clause-rises : goal.returns-then-is_stepped-clause-rises
returns-then-is_stepped-clause-rises g c =
    within_more 49 385 _ _ c.step.ensures.rises (omega arith)

pub returns-in_err-word-clause-rises : goal.returns-in_err-word-clause-rises
returns-in_err-word-clause-rises g c =
    within_more 16 385 _ _ c.reg.ensures.rises (omega arith)

pub returns-then-shows_step-clause-rises : goal.returns-then-shows_step-clause-rises
returns-then-shows_step-clause-rises g c =
    within_then 16 34 385 _ (g.D.Dmi.seen c.reg.new.link) _ c.reg.ensures.rises c.step_from.ensures.rises c.reg.ensures.keeps.fixed (omega arith)

pub returns-else-shows_step-clause-rises : goal.returns-else-shows_step-clause-rises
returns-else-shows_step-clause-rises g c =
    within_then 16 369 385 _ (g.D.Dmi.seen c.reg.new.link) _ c.reg.ensures.rises c.step_over.ensures.rises c.reg.ensures.keeps.fixed (omega arith)

pub returns-then-shows_step-clause-never : goal.returns-then-shows_step-clause-never
returns-then-shows_step-clause-never g c =
    behind_then 16 _ (g.D.Dmi.seen c.reg.new.link) _ c.reg.ensures.rises c.step_from.ensures.never

pub returns-else-shows_step-clause-never : goal.returns-else-shows_step-clause-never
returns-else-shows_step-clause-never g c =
    behind_then 16 _ (g.D.Dmi.seen c.reg.new.link) _ c.reg.ensures.rises c.step_over.ensures.never
