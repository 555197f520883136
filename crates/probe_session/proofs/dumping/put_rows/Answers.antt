use Rattle.std.proofs.Common.{rules}
use Rattle.std.proofs.Common.{refl}
use Rattle.jt_base.proofs.FaultLemmas.{rises_from}
use Rattle.probe_session.proofs.DumpLines.{dump_fell, refusal_cut, rows_cut, rows_refused, rows_shown}
use Rattle.probe_session.proofs.LinkLemmas.{if_err}
use Rattle.probe_session.proofs.MemoryLines.{attached_by}
use Rattle.probe_session.proofs.PutLines.{byte_fault_at, rows_cut_as, rows_shown_as}
use Rattle.probe_session.proofs.SeenLemmas.{block_refused, block_whole}
use Rattle.probe_session.proofs.dumping.put_rows.Goals as goal

pub returns-in_err-is_whole-clause-fell : goal.returns-in_err-is_whole-clause-fell
returns-in_err-is_whole-clause-fell g c = if_err _ c.in_err-is_whole.field-0.0 _ c.from_residual.ensures.1
    (dump_fell c.args.reach.now c.args.address c.args.count _ _ _ c.in_err-is_whole.ensures.fell)

pub returns-in_err-put_bytes-clause-fell : goal.returns-in_err-put_bytes-clause-fell
returns-in_err-put_bytes-clause-fell g c = if_err _ c.in_err-put_bytes.field-0.0 _ c.from_residual-in_err-put_bytes.ensures.1
    (rows_cut c.args.reach.now c.args.address c.args.count _ _ _ c.in_ok-is_whole.is_whole c.in_err-put_bytes.ensures.sink c.in_ok-is_whole.ensures.loaded
    (rows_cut_as c.args.address _ _ _ _ c.as_slice.ensures.value c.in_err-put_bytes.ensures.cut) c.in_err-put_bytes.ensures.cause)

pub returns-in_err-put_bytes-clause-keeps : goal.returns-in_err-put_bytes-clause-keeps
returns-in_err-put_bytes-clause-keeps g c = let b = attached_by c.args.reach.now _ c.in_ok-is_whole.ensures.keeps.behind in search rules

pub returns-then-is_whole-clause-spoke : goal.returns-then-is_whole-clause-spoke
returns-then-is_whole-clause-spoke g c = rows_shown c.args.reach.now c.args.address c.args.count _
    (block_whole c.if-is_whole.true c.in_ok-is_whole.ensures.loaded)
    (rows_shown_as c.args.address _ _ _ _ c.as_slice.ensures.value c.in_ok-put_bytes.ensures.put)

pub returns-then-is_whole-clause-keeps : goal.returns-then-is_whole-clause-keeps
returns-then-is_whole-clause-keeps g c = let b = attached_by c.args.reach.now _ c.in_ok-is_whole.ensures.keeps.behind in search rules

pub returns-in_err-put_line-clause-fell : goal.returns-in_err-put_line-clause-fell
returns-in_err-put_line-clause-fell g c = if_err _ c.in_err-put_line.field-0.0 _ c.from_residual-in_err-put_line.ensures.1
    (refusal_cut c.args.reach.now c.args.address c.args.count _ _ _ _ c.in_err-put_line.ensures.sink
    (byte_fault_at c.args.address _ _ _ refl c.len.ensures.value)
    (block_refused c.if-is_whole.false c.in_ok-is_whole.ensures.loaded)
    (rows_shown_as c.args.address _ _ _ _ c.as_slice.ensures.value c.in_ok-put_bytes.ensures.put) c.in_err-put_line.ensures.front
    (rises_from _ _ _ c.put_bytes.ensures.later c.put_line.ensures.later c.in_err-put_line.ensures.cause))

pub returns-clause-spoke : goal.returns-clause-spoke
returns-clause-spoke g c = rows_refused c.args.reach.now c.args.address c.args.count _ _ (byte_fault_at c.args.address _ _ _ refl c.len.ensures.value)
    (block_refused c.if-is_whole.false c.in_ok-is_whole.ensures.loaded)
    (rows_shown_as c.args.address _ _ _ _ c.as_slice.ensures.value c.in_ok-put_bytes.ensures.put) c.in_ok-put_line.ensures.put
