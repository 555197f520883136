use Rattle.std.proofs.Common.{arith}
use Rattle.std.proofs.lemmas.Grind.{common_steps}
use Rattle.bench_links.proofs.Crossings.{came_more, still_looped, still_tied}
use Rattle.bench_links.proofs.crossing.take_whole.Goals as goal

pub pieces-preserved : goal.pieces-preserved
pieces-preserved g c =
    let end = c.args.end in
    let mid = g.N.Net.state c.pieces.net in
    let new = g.N.Net.state c.take.new.self in
    record {
      came = came_more _ _ _ _ _ _ _ _ _ c.pieces.invariant.came c.in-Ok.ensures.gave c.in-Ok.ensures.took c.pieces.invariant.within c.in-Ok.ensures.most;
      within = grind (arith, common_steps);
      whole = grind (arith, common_steps);
      looped = still_looped end _ mid new c.pieces.invariant.looped c.in-Ok.ensures.took;
      ties = still_tied end _ (g.N.Net.state c.args.net.now) mid new c.pieces.invariant.ties c.in-Ok.ensures.took;
      still = grind (arith, common_steps);
      none_ended = grind (arith, common_steps);
      lenders = grind (arith, common_steps);
    }
