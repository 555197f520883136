use Rattle.std.proofs.Common.{refl, arith, rules}
use Rattle.probe_session.proofs.PutLines.{element_cut, element_put}
use Rattle.probe_session.proofs.reading.put_values.Goals as goal

pub returns-in_err-put_line-clause-cut : goal.returns-in_err-put_line-clause-cut
returns-in_err-put_line-clause-cut g c =
    let cut = element_cut c.args.size c.args.address c.showing.number _ _ _ 0 c.args.values.now _ _ _ (omega arith) (cc) refl c.cut_to.ensures
    c.showing.invariant.left c.in_err-put_line.ensures.front in search rules

pub showing-preserved : goal.showing-preserved
showing-preserved g c = record {
  left = element_put c.args.size c.args.address c.showing.number _ _ _ 0 c.args.values.now (omega arith) (cc) refl c.cut_to.ensures c.showing.invariant.left
      c.in_ok-put_line.ensures.put;
  later = omega (arith, c.showing.invariant.later, c.put_line.ensures.later);
}
