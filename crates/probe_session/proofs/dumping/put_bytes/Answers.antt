use Rattle.std.proofs.Common.{rules}
use Rattle.std.proofs.Common.{◌≡◌, ◌∙◌, ℕ, List, length, refl, sym, ap, arith}
use Rattle.arrayvec.specs.ArrayVec.{array_vec_len}
use Rattle.std.proofs.lemmas.Bool.{eqb-true}
use Rattle.probe_session.proofs.PutLines.{byte_cut, byte_is, byte_put, bytes_none_yet, last_cut, last_put, no_row_left, not_empty}
use Rattle.probe_session.proofs.dumping.put_bytes.Goals as goal

pub showing-init : goal.showing-init
showing-init g c =
    let e : array_vec_len c.new-row.result ≡ 0 = ap (λ (xs : List ℕ). length xs) c.new-row.ensures in
    record {
      room = omega (arith, e);
      behind = omega (arith, e);
      waits = bytes_none_yet c.args.address c.args.values.now _ _ c.new-row.ensures;
      later = omega arith;
    }

pub returns-in_err-put_byte-clause-cut : goal.returns-in_err-put_byte-clause-cut
returns-in_err-put_byte-clause-cut g c =
    let cut = byte_cut c.args.address c.showing.number _ _ 0 c.args.values.now c.showing.row.items _ _ _ (omega arith)
    (omega (arith, c.len.ensures.value, c.showing.invariant.behind)) (byte_is _ _ _ 0 _ c.args.values.now refl c.cut_to.ensures refl)
    c.showing.invariant.waits c.in_err-put_byte.ensures.cut in search rules

pub showing-preserved : goal.showing-preserved
showing-preserved g c = record {
  room = c.in_ok-put_byte.ensures.room;
  behind = omega (arith, c.in_ok-put_byte.ensures.along, c.showing.invariant.behind);
  waits = byte_put c.args.address c.showing.number _ _ 0 c.args.values.now c.showing.row.items _ (omega arith)
      (omega (arith, c.len.ensures.value, c.showing.invariant.behind)) (byte_is _ _ _ 0 _ c.args.values.now refl c.cut_to.ensures refl)
      c.showing.invariant.waits c.in_ok-put_byte.ensures.put;
  later = omega (arith, c.showing.invariant.later, c.put_byte.ensures.later);
}

pub returns-then-is_empty-clause-put : goal.returns-then-is_empty-clause-put
returns-then-is_empty-clause-put g c = no_row_left c.args.address c.showing.number c.args.values.now c.showing.row.items (omega arith)
    (eqb-true _ 0 (sym c.is_empty.ensures ∙ c.if-is_empty.true)) c.showing.invariant.waits

pub returns-in_err-put_line-clause-cut : goal.returns-in_err-put_line-clause-cut
returns-in_err-put_line-clause-cut g c =
    let cut = last_cut c.args.address c.showing.number _ c.args.values.now c.showing.row.items _ _ _ (omega arith)
    (omega (arith, c.len-2.ensures.value, c.showing.invariant.behind)) (not_empty _ _ c.is_empty.ensures c.if-is_empty.false)
    c.showing.invariant.waits c.in_err-put_line.ensures.front in search rules

pub returns-clause-put : goal.returns-clause-put
returns-clause-put g c = last_put c.args.address c.showing.number _ c.args.values.now c.showing.row.items (omega arith)
    (omega (arith, c.len-2.ensures.value, c.showing.invariant.behind)) (not_empty _ _ c.is_empty.ensures c.if-is_empty.false)
    c.showing.invariant.waits c.in_ok-put_line.ensures.put
