use Rattle.std.proofs.Common.{arith}
use Rattle.std.proofs.lemmas.List.{get_or_default}
use Rattle.chain_bench.proofs.Rises.{risen_all, risen_more}
use Rattle.chain_bench.proofs.sides.rise_all.Goals as goal

pub loop-place-preserved : goal.loop-place-preserved
loop-place-preserved c =
    rw (c.rise.ensures, c.level_from-incoming.ensures)
    (risen_more c.args.tms c.args.tdi c.args.sides.now c.loop-place.sides c.loop-place.place _ (omega arith) c.loop-place.invariant
    (get_or_default c.loop-place.sides c.loop-place.place c.index-sides-place.result _ (omega arith)))

pub returns : goal.returns
returns c = risen_all c.args.tms c.args.tdi c.args.sides.now c.loop-place.sides c.loop-place.place (omega arith) c.loop-place.invariant
