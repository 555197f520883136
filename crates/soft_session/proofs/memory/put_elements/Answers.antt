use Rattle.std.proofs.Common.{◌∙◌, sym}
use Rattle.probe_session.proofs.LinkLemmas.{if_err}
use Rattle.probe_session.proofs.MemoryLines.{attached_by}
use Rattle.probe_session.proofs.PutLines.{fault_at}
use Rattle.probe_session.proofs.SeenLemmas.{block_refused, block_whole}
use Rattle.soft_session.proofs.ReadSteps.{block_cut, elements_cut, elements_lines, misaligned_cut, misaligned_lines, refusal_cut, refused_lines, shown_front}
use Rattle.soft_session.proofs.ReadSteps.{shown_put}
use Rattle.jt_base.proofs.FaultLemmas.{rises_from}
use Rattle.soft_session.proofs.CausedCalls.{load_fell, no_line, of_sink}
use Rattle.soft_session.proofs.memory.put_elements.Goals as goal

pub returns-in_err-put_line-clause-cut : goal.returns-in_err-put_line-clause-cut
returns-in_err-put_line-clause-cut g c = if_err _ c.in_err-put_line.field-0.0 _ c.from_residual.ensures.1
    (misaligned_cut c.args.reach.now c.args.size c.args.address c.args.count c.args.table.now _ _ _ _ c.in_err-put_line.ensures.sink
    (sym c.is_aligned.ensures ∙ c.if-not-is_aligned.true) c.in_err-put_line.ensures.front)

pub returns-then-not-is_aligned-clause-led : goal.returns-then-not-is_aligned-clause-led
returns-then-not-is_aligned-clause-led g c = misaligned_lines c.args.reach.now c.args.size c.args.address c.args.count c.args.table.now _ _ _
    (sym c.is_aligned.ensures ∙ c.if-not-is_aligned.true) c.in_ok-put_line.ensures.put

pub returns-in_err-is_whole-clause-cut : goal.returns-in_err-is_whole-clause-cut
returns-in_err-is_whole-clause-cut g c = if_err _ c.in_err-is_whole.field-0.0 _ c.from_residual-in_err-is_whole.ensures.1
    (block_cut c.args.reach.now c.args.size c.args.address c.args.count c.args.table.now _ _ _ _ _ _ (sym c.is_aligned.ensures ∙ c.if-not-is_aligned.false)
    (attached_by c.args.reach.now _ c.requires.serving).ready c.in_err-is_whole.ensures.fell)

pub returns-in_err-put_values-clause-cut : goal.returns-in_err-put_values-clause-cut
returns-in_err-put_values-clause-cut g c = if_err _ c.in_err-put_values.field-0.0 _ c.from_residual-in_err-put_values.ensures.1
    (elements_cut c.args.reach.now c.args.size c.args.address c.args.count _ c.in_ok-is_whole.is_whole c.args.table.now _ _ _ _ _
    c.in_err-put_values.ensures.sink (sym c.is_aligned.ensures ∙ c.if-not-is_aligned.false) (attached_by c.args.reach.now _ c.requires.serving).ready
    c.in_ok-is_whole.ensures.loaded
    (shown_front c.args.table.now c.args.size c.args.address _ _ _ _ _ c.as_slice.ensures.value c.hide_all.ensures.hidden c.in_err-put_values.ensures.cut))

pub returns-then-is_whole-clause-led : goal.returns-then-is_whole-clause-led
returns-then-is_whole-clause-led g c = elements_lines c.args.reach.now c.args.size c.args.address c.args.count _ c.args.table.now _ _ _ _
    (sym c.is_aligned.ensures ∙ c.if-not-is_aligned.false) (attached_by c.args.reach.now _ c.requires.serving).ready
    (block_whole c.if-is_whole.true c.in_ok-is_whole.ensures.loaded)
    (shown_put c.args.table.now c.args.size c.args.address _ _ _ _ _ c.as_slice.ensures.value c.hide_all.ensures.hidden c.in_ok-put_values.ensures.put)

pub returns-in_err-put_line-2-clause-cut : goal.returns-in_err-put_line-2-clause-cut
returns-in_err-put_line-2-clause-cut g c = if_err _ c.in_err-put_line-2.field-0.0 _ c.from_residual-in_err-put_line-2.ensures.1
    (refusal_cut c.args.reach.now c.args.size c.args.address c.args.count _ _ c.args.table.now _ _ _ _ _ _ c.in_err-put_line-2.ensures.sink
    (sym c.is_aligned.ensures ∙ c.if-not-is_aligned.false) (attached_by c.args.reach.now _ c.requires.serving).ready
    (fault_at c.args.size c.args.address _ _ _ (cc) (c.len.ensures.value ∙ c.hide_all.ensures.many))
    (block_refused c.if-is_whole.false c.in_ok-is_whole.ensures.loaded)
    (shown_put c.args.table.now c.args.size c.args.address _ _ _ _ _ c.as_slice.ensures.value c.hide_all.ensures.hidden c.in_ok-put_values.ensures.put)
    c.in_err-put_line-2.ensures.front)

pub returns-clause-led : goal.returns-clause-led
returns-clause-led g c = refused_lines c.args.reach.now c.args.size c.args.address c.args.count _ _ c.args.table.now _ _ _ _ _
    (sym c.is_aligned.ensures ∙ c.if-not-is_aligned.false) (attached_by c.args.reach.now _ c.requires.serving).ready
    (fault_at c.args.size c.args.address _ _ _ (cc) (c.len.ensures.value ∙ c.hide_all.ensures.many))
    (block_refused c.if-is_whole.false c.in_ok-is_whole.ensures.loaded)
    (shown_put c.args.table.now c.args.size c.args.address _ _ _ _ _ c.as_slice.ensures.value c.hide_all.ensures.hidden c.in_ok-put_values.ensures.put)
    c.in_ok-put_line-2.ensures.put

pub returns-in_err-put_line-clause-caused : goal.returns-in_err-put_line-clause-caused
returns-in_err-put_line-clause-caused g c =
    if_err _ c.in_err-put_line.field-0.0 _ c.from_residual.ensures.1
    (of_sink _ c.in_err-put_line.field-0.0 (g.D.Dmi.seen c.args.link.now) (g.D.Dmi.seen c.args.link.now) c.in_err-put_line.ensures.sink
    c.in_err-put_line.ensures.cause)

pub returns-in_err-is_whole-clause-caused : goal.returns-in_err-is_whole-clause-caused
returns-in_err-is_whole-clause-caused g c =
    if_err _ c.in_err-is_whole.field-0.0 _ c.from_residual-in_err-is_whole.ensures.1
    (no_line _ c.in_err-is_whole.field-0.0 (g.D.Dmi.seen c.args.link.now) (g.D.Dmi.seen c.load_by.new.link)
    (load_fell c.args.size c.args.address c.args.count c.in_err-is_whole.field-0.0 (g.D.Dmi.seen c.args.link.now) (g.D.Dmi.seen c.load_by.new.link)
    c.in_err-is_whole.ensures.fell))

pub returns-in_err-put_values-clause-caused : goal.returns-in_err-put_values-clause-caused
returns-in_err-put_values-clause-caused g c =
    if_err _ c.in_err-put_values.field-0.0 _ c.from_residual-in_err-put_values.ensures.1
    (of_sink _ c.in_err-put_values.field-0.0 (g.D.Dmi.seen c.args.link.now) (g.D.Dmi.seen c.load_by.new.link) c.in_err-put_values.ensures.sink
    c.in_err-put_values.ensures.cause)

pub returns-in_err-put_line-2-clause-caused : goal.returns-in_err-put_line-2-clause-caused
returns-in_err-put_line-2-clause-caused g c =
    if_err _ c.in_err-put_line-2.field-0.0 _ c.from_residual-in_err-put_line-2.ensures.1
    (of_sink _ c.in_err-put_line-2.field-0.0 (g.D.Dmi.seen c.args.link.now) (g.D.Dmi.seen c.load_by.new.link) c.in_err-put_line-2.ensures.sink
    (rises_from _ _ _ c.put_values.ensures.later c.put_line-2.ensures.later c.in_err-put_line-2.ensures.cause))
