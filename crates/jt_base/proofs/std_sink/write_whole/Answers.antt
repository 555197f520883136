use Rattle.std.proofs.Common.{◌≡◌, length, arith}
use Rattle.std.proofs.lemmas.Bool.Decides.{nat_tests}
use Rattle.jt_base.specs.Written.{AppendsFront}
use Rattle.jt_base.proofs.Pieces.{none_yet, one_more, kept, all_added, on_ok, on_err}
use Rattle.jt_base.proofs.std_sink.write_whole.Goals as goal

pub pieces-init : goal.pieces-init
pieces-init g c = none_yet _ _

pub pieces-preserved : goal.pieces-preserved
pieces-preserved g c = one_more _ _ _ _ _ _ c.pieces.invariant c.in_ok-count.ensures.bytes

pub returns-then-is_empty-clause-whole : goal.returns-then-is_empty-clause-whole
returns-then-is_empty-clause-whole g c =
    let none : length c.pieces.rest.now ≡ 0 = grind (arith, nat_tests) in
    on_ok c.flush.result (all_added _ _ _ _ (kept _ _ _ _ _ c.pieces.invariant c.flush.ensures.bytes) none)

pub returns-then-is_empty-clause-front : goal.returns-then-is_empty-clause-front
returns-then-is_empty-clause-front g c = on_err c.flush.result (c.pieces.rest.now, kept _ _ _ _ _ c.pieces.invariant c.flush.ensures.bytes)

pub returns-in_err-count-clause-front : goal.returns-in_err-count-clause-front
returns-in_err-count-clause-front g c =
    on_err {P = AppendsFront (g.W.Write.contents c.args.out.now) (g.W.Write.contents c.write.new.self) c.args.bytes.now} _
    (c.pieces.rest.now, kept _ _ _ _ _ c.pieces.invariant c.in_err-count.ensures.bytes)

pub returns-then-count-eq0-clause-front : goal.returns-then-count-eq0-clause-front
returns-then-count-eq0-clause-front g c = (_, one_more _ _ _ _ _ _ c.pieces.invariant c.in_ok-count.ensures.bytes)

pub returns-clause-front : goal.returns-clause-front
returns-clause-front g c = (c.pieces.rest.now, c.pieces.invariant)
