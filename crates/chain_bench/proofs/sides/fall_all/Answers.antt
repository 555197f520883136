use Rattle.std.proofs.Common.{arith}
use Rattle.std.proofs.lemmas.List.{get_or_default}
use Rattle.std.proofs.lemmas.List.Edits.{map_over_more}
use Rattle.chain_scan.specs.SideTap.{side_falls}
use Rattle.chain_bench.proofs.sides.fall_all.Goals as goal

pub loop-side-preserved : goal.loop-side-preserved
loop-side-preserved c =
    rw c.fall.ensures
    (map_over_more side_falls c.args.sides.now c.loop-side.sides c.loop-side.side-index _ (omega arith) c.loop-side.invariant
    (get_or_default c.loop-side.sides c.loop-side.side-index c.side-item.result _ (omega arith)))
