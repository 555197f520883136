use Rattle.std.proofs.Common.{rules}
use Rattle.std.proofs.Common.{◌∙◌, ℕ, ap}
use Rattle.arrayvec.specs.ArrayVec.{ArrayVec}
use Rattle.probe_session.proofs.PutLines.{byte_waits, is_part, is_whole, row_cut, row_put}
use Rattle.probe_session.proofs.dumping.put_byte.Goals as goal

pub returns-then-not-is_full-clause-put : goal.returns-then-not-is_full-clause-put
returns-then-not-is_full-clause-put g c = byte_waits c.args.first c.args.byte c.args.row.now.items _ _
    (is_part _ _ _ c.is_full.ensures.value c.if-not-is_full.true c.push.ensures.len) c.push.ensures.items

pub returns-in_err-put_line-clause-cut : goal.returns-in_err-put_line-clause-cut
returns-in_err-put_line-clause-cut g c =
    let cut = row_cut c.args.first c.args.byte c.args.row.now.items _ _ _
    (is_whole _ _ _ c.is_full.ensures.value c.if-not-is_full.false c.push.ensures.len)
    (ap (λ (r : ArrayVec ℕ). r.items) c.take.ensures.value ∙ c.push.ensures.items) c.in_err-put_line.ensures.front in search rules

pub returns-clause-put : goal.returns-clause-put
returns-clause-put g c = row_put c.args.first c.args.byte c.args.row.now.items _ _
    (is_whole _ _ _ c.is_full.ensures.value c.if-not-is_full.false c.push.ensures.len)
    (ap (λ (r : ArrayVec ℕ). r.items) c.take.ensures.value ∙ c.push.ensures.items) c.take.ensures.after c.in_ok-put_line.ensures.put
