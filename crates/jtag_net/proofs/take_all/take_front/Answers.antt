use Rattle.std.proofs.Common.{arith}
use Rattle.std.proofs.lemmas.Grind.{common_steps}
use Rattle.jtag_net.proofs.Takes.{still_wired, took_more, took_none}
use Rattle.jtag_net.proofs.take_all.take_front.Goals as goal

pub pieces-preserved : goal.pieces-preserved
pieces-preserved g c = record {
  took = took_more _ _ _ _ _ _ _ _ c.pieces.invariant.took c.in-Ok.ensures.gave c.in-Ok.ensures.took c.pieces.invariant.within c.in-Ok.ensures.most;
  good = grind (arith, common_steps);
  within = grind (arith, common_steps);
  whole = grind (arith, common_steps);
  wired = still_wired _ _ _ c.pieces.invariant.wired c.in-Ok.ensures.took;
  still = grind (arith, common_steps);
  none_ended = grind (arith, common_steps);
  lenders = grind (arith, common_steps);
}

pub returns-in-Ok-eq0-clause-some : goal.returns-in-Ok-eq0-clause-some
returns-in-Ok-eq0-clause-some g c = took_none _ _ _ _ _ (grind (arith, common_steps))
    (took_more _ _ _ _ _ _ _ _ c.pieces.invariant.took c.in-Ok-eq0.ensures.gave c.in-Ok-eq0.ensures.took c.pieces.invariant.within c.in-Ok-eq0.ensures.most)

pub returns-then-not-are_answers-clause-some : goal.returns-then-not-are_answers-clause-some
returns-then-not-are_answers-clause-some g c = took_more _ _ _ _ _ _ _ _ c.pieces.invariant.took c.in-Ok.ensures.gave c.in-Ok.ensures.took
    c.pieces.invariant.within c.in-Ok.ensures.most
