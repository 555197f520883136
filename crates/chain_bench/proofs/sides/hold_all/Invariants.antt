use Rattle.std.proofs.Common.{◌≡◌, map, take, drop, ◌++◌}
use Rattle.chain_scan.specs.SideTap.{side_holds}
use Rattle.chain_bench.proofs.sides.hold_all.Given as goal

abbrev pub invariant-loop-side : goal.invariant-loop-side
invariant-loop-side l = l.sides ≡ map (side_holds l.on) (take l.side-index l.fn.sides) ++ drop l.side-index l.fn.sides
