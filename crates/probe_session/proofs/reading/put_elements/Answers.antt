use Rattle.probe_access.specs.BlockRises.{load_rises}
use Rattle.debug_model.proofs.RiseLemmas.{within_none}
use Rattle.std.proofs.Common.{rules, refl}
use Rattle.std.proofs.Common.{◌∙◌, sym}
use Rattle.jt_base.proofs.FaultLemmas.{rises_from}
use Rattle.probe_session.proofs.LinkLemmas.{if_err}
use Rattle.probe_session.proofs.MemoryLines.{attached_by}
use Rattle.probe_session.proofs.PutLines.{cut_as, fault_at, shown_as}
use Rattle.probe_session.proofs.ReadLines.{block_fell, elements_refused, elements_shown, lines_cut, misaligned_cut, read_misaligned, refusal_cut}
use Rattle.probe_session.proofs.SeenLemmas.{block_refused, block_whole}
use Rattle.probe_session.proofs.Selections.{stays_here}
use Rattle.probe_session.proofs.reading.put_elements.Goals as goal

pub returns-in_err-put_line-clause-fell : goal.returns-in_err-put_line-clause-fell
returns-in_err-put_line-clause-fell g c = if_err _ c.in_err-put_line.field-0.0 _ c.from_residual.ensures.1
    (misaligned_cut c.args.reach.now c.args.size c.args.address c.args.count _ _ (sym c.is_aligned.ensures ∙ c.if-not-is_aligned.true)
    c.in_err-put_line.ensures.sink c.in_err-put_line.ensures.front c.in_err-put_line.ensures.cause)

pub returns-then-not-is_aligned-clause-spoke : goal.returns-then-not-is_aligned-clause-spoke
returns-then-not-is_aligned-clause-spoke g c = read_misaligned c.args.reach.now c.args.size c.args.address c.args.count
    (sym c.is_aligned.ensures ∙ c.if-not-is_aligned.true) c.in_ok-put_line.ensures.put

pub returns-in_err-is_whole-clause-fell : goal.returns-in_err-is_whole-clause-fell
returns-in_err-is_whole-clause-fell g c = if_err _ c.in_err-is_whole.field-0.0 _ c.from_residual-in_err-is_whole.ensures.1
    (block_fell c.args.reach.now c.args.size c.args.address c.args.count _ _ _ (sym c.is_aligned.ensures ∙ c.if-not-is_aligned.false)
    c.in_err-is_whole.ensures.fell)

pub returns-in_err-put_values-clause-fell : goal.returns-in_err-put_values-clause-fell
returns-in_err-put_values-clause-fell g c = if_err _ c.in_err-put_values.field-0.0 _ c.from_residual-in_err-put_values.ensures.1
    (lines_cut c.args.reach.now c.args.size c.args.address c.args.count _ _ _ c.in_ok-is_whole.is_whole c.in_err-put_values.ensures.sink
    (sym c.is_aligned.ensures ∙ c.if-not-is_aligned.false) c.in_ok-is_whole.ensures.loaded
    (cut_as c.args.size c.args.address _ _ _ _ c.as_slice.ensures.value c.in_err-put_values.ensures.cut) c.in_err-put_values.ensures.cause)

pub returns-in_err-put_values-clause-keeps : goal.returns-in_err-put_values-clause-keeps
returns-in_err-put_values-clause-keeps g c = let b = attached_by c.args.reach.now _ c.in_ok-is_whole.ensures.keeps.behind in search rules

pub returns-then-is_whole-clause-spoke : goal.returns-then-is_whole-clause-spoke
returns-then-is_whole-clause-spoke g c = elements_shown c.args.reach.now c.args.size c.args.address c.args.count _
    (sym c.is_aligned.ensures ∙ c.if-not-is_aligned.false) (block_whole c.if-is_whole.true c.in_ok-is_whole.ensures.loaded)
    (shown_as c.args.size c.args.address _ _ _ _ c.as_slice.ensures.value c.in_ok-put_values.ensures.put)

pub returns-then-is_whole-clause-keeps : goal.returns-then-is_whole-clause-keeps
returns-then-is_whole-clause-keeps g c = let b = attached_by c.args.reach.now _ c.in_ok-is_whole.ensures.keeps.behind in search rules

pub returns-in_err-put_line-2-clause-fell : goal.returns-in_err-put_line-2-clause-fell
returns-in_err-put_line-2-clause-fell g c = if_err _ c.in_err-put_line-2.field-0.0 _ c.from_residual-in_err-put_line-2.ensures.1
    (refusal_cut c.args.reach.now c.args.size c.args.address c.args.count _ _ _ _ c.in_err-put_line-2.ensures.sink
    (sym c.is_aligned.ensures ∙ c.if-not-is_aligned.false) (fault_at c.args.size c.args.address _ _ _ (cc) c.len.ensures.value)
    (block_refused c.if-is_whole.false c.in_ok-is_whole.ensures.loaded)
    (shown_as c.args.size c.args.address _ _ _ _ c.as_slice.ensures.value c.in_ok-put_values.ensures.put) c.in_err-put_line-2.ensures.front
    (rises_from _ _ _ c.put_values.ensures.later c.put_line-2.ensures.later c.in_err-put_line-2.ensures.cause))

pub returns-clause-spoke : goal.returns-clause-spoke
returns-clause-spoke g c = elements_refused c.args.reach.now c.args.size c.args.address c.args.count _ _
    (sym c.is_aligned.ensures ∙ c.if-not-is_aligned.false) (fault_at c.args.size c.args.address _ _ _ (cc) c.len.ensures.value)
    (block_refused c.if-is_whole.false c.in_ok-is_whole.ensures.loaded)
    (shown_as c.args.size c.args.address _ _ _ _ c.as_slice.ensures.value c.in_ok-put_values.ensures.put) c.in_ok-put_line-2.ensures.put

pub returns-then-not-is_aligned-clause-selection : goal.returns-then-not-is_aligned-clause-selection
returns-then-not-is_aligned-clause-selection g c = stays_here _

pub returns-in_err-put_line-clause-rises : goal.returns-in_err-put_line-clause-rises
returns-in_err-put_line-clause-rises g c =
    within_none (load_rises c.args.count) _ _ refl

pub returns-then-not-is_aligned-clause-rises : goal.returns-then-not-is_aligned-clause-rises
returns-then-not-is_aligned-clause-rises g c =
    within_none (load_rises c.args.count) _ _ refl
