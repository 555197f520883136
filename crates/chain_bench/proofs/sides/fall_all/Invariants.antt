use Rattle.std.proofs.Common.{◌≡◌, map, take, drop, ◌++◌}
use Rattle.chain_scan.specs.SideTap.{side_falls}
use Rattle.chain_bench.proofs.sides.fall_all.Given as goal

abbrev pub invariant-loop-side : goal.invariant-loop-side
invariant-loop-side l = l.sides ≡ map side_falls (take l.side-index l.fn.sides) ++ drop l.side-index l.fn.sides
