use Rattle.std.proofs.Common.{◌∙◌, refl}
use Rattle.probe_session.proofs.LinkLemmas.{if_err}
use Rattle.probe_session.proofs.MemoryLines.{attached_by}
use Rattle.probe_session.proofs.PutLines.{byte_fault_at}
use Rattle.probe_session.proofs.SeenLemmas.{block_refused, block_whole}
use Rattle.soft_session.proofs.DumpSteps.{dump_cut, rows_cut, rows_front, rows_lines, rows_put, rows_refusal_cut, rows_refused}
use Rattle.rv_model.specs.declared.size.Size.TheVariants.{B1}
use Rattle.jt_base.proofs.FaultLemmas.{rises_from}
use Rattle.soft_session.proofs.CausedCalls.{load_fell, no_line, of_sink}
use Rattle.soft_session.proofs.memory.put_rows.Goals as goal

pub returns-in_err-is_whole-clause-cut : goal.returns-in_err-is_whole-clause-cut
returns-in_err-is_whole-clause-cut g c = if_err _ c.in_err-is_whole.field-0.0 _ c.from_residual.ensures.1
    (dump_cut c.args.reach.now c.args.address c.args.count c.args.table.now _ _ _ _ _ _ (attached_by c.args.reach.now _ c.requires.serving).ready
    c.in_err-is_whole.ensures.fell)

pub returns-in_err-put_bytes-clause-cut : goal.returns-in_err-put_bytes-clause-cut
returns-in_err-put_bytes-clause-cut g c = if_err _ c.in_err-put_bytes.field-0.0 _ c.from_residual-in_err-put_bytes.ensures.1
    (rows_cut c.args.reach.now c.args.address c.args.count _ c.in_ok-is_whole.is_whole c.args.table.now _ _ _ _ _ c.in_err-put_bytes.ensures.sink
    (attached_by c.args.reach.now _ c.requires.serving).ready c.in_ok-is_whole.ensures.loaded
    (rows_front c.args.table.now c.args.address _ _ _ _ _ c.as_slice.ensures.value c.hide_all.ensures.hidden c.in_err-put_bytes.ensures.cut))

pub returns-then-is_whole-clause-led : goal.returns-then-is_whole-clause-led
returns-then-is_whole-clause-led g c = rows_lines c.args.reach.now c.args.address c.args.count _ c.args.table.now _ _ _ _
    (attached_by c.args.reach.now _ c.requires.serving).ready (block_whole c.if-is_whole.true c.in_ok-is_whole.ensures.loaded)
    (rows_put c.args.table.now c.args.address _ _ _ _ _ c.as_slice.ensures.value c.hide_all.ensures.hidden c.in_ok-put_bytes.ensures.put)

pub returns-in_err-put_line-clause-cut : goal.returns-in_err-put_line-clause-cut
returns-in_err-put_line-clause-cut g c = if_err _ c.in_err-put_line.field-0.0 _ c.from_residual-in_err-put_line.ensures.1
    (rows_refusal_cut c.args.reach.now c.args.address c.args.count _ _ c.args.table.now _ _ _ _ _ _ c.in_err-put_line.ensures.sink
    (attached_by c.args.reach.now _ c.requires.serving).ready (byte_fault_at c.args.address _ _ _ refl (c.len.ensures.value ∙ c.hide_all.ensures.many))
    (block_refused c.if-is_whole.false c.in_ok-is_whole.ensures.loaded)
    (rows_put c.args.table.now c.args.address _ _ _ _ _ c.as_slice.ensures.value c.hide_all.ensures.hidden c.in_ok-put_bytes.ensures.put)
    c.in_err-put_line.ensures.front)

pub returns-clause-led : goal.returns-clause-led
returns-clause-led g c = rows_refused c.args.reach.now c.args.address c.args.count _ _ c.args.table.now _ _ _ _ _
    (attached_by c.args.reach.now _ c.requires.serving).ready (byte_fault_at c.args.address _ _ _ refl (c.len.ensures.value ∙ c.hide_all.ensures.many))
    (block_refused c.if-is_whole.false c.in_ok-is_whole.ensures.loaded)
    (rows_put c.args.table.now c.args.address _ _ _ _ _ c.as_slice.ensures.value c.hide_all.ensures.hidden c.in_ok-put_bytes.ensures.put)
    c.in_ok-put_line.ensures.put

pub returns-in_err-is_whole-clause-caused : goal.returns-in_err-is_whole-clause-caused
returns-in_err-is_whole-clause-caused g c =
    if_err _ c.in_err-is_whole.field-0.0 _ c.from_residual.ensures.1
    (no_line _ c.in_err-is_whole.field-0.0 (g.D.Dmi.seen c.args.link.now) (g.D.Dmi.seen c.load_by.new.link)
    (load_fell B1 c.args.address c.args.count c.in_err-is_whole.field-0.0 (g.D.Dmi.seen c.args.link.now) (g.D.Dmi.seen c.load_by.new.link)
    c.in_err-is_whole.ensures.fell))

pub returns-in_err-put_bytes-clause-caused : goal.returns-in_err-put_bytes-clause-caused
returns-in_err-put_bytes-clause-caused g c =
    if_err _ c.in_err-put_bytes.field-0.0 _ c.from_residual-in_err-put_bytes.ensures.1
    (of_sink _ c.in_err-put_bytes.field-0.0 (g.D.Dmi.seen c.args.link.now) (g.D.Dmi.seen c.load_by.new.link) c.in_err-put_bytes.ensures.sink
    c.in_err-put_bytes.ensures.cause)

pub returns-in_err-put_line-clause-caused : goal.returns-in_err-put_line-clause-caused
returns-in_err-put_line-clause-caused g c =
    if_err _ c.in_err-put_line.field-0.0 _ c.from_residual-in_err-put_line.ensures.1
    (of_sink _ c.in_err-put_line.field-0.0 (g.D.Dmi.seen c.args.link.now) (g.D.Dmi.seen c.load_by.new.link) c.in_err-put_line.ensures.sink
    (rises_from _ _ _ c.put_bytes.ensures.later c.put_line.ensures.later c.in_err-put_line.ensures.cause))
