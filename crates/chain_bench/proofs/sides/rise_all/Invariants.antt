use Rattle.std.proofs.Common.{◌≡◌, take, drop, ◌++◌}
use Rattle.chain_scan.specs.Chain.{sides_rise}
use Rattle.chain_bench.proofs.sides.rise_all.Given as goal

abbrev pub invariant-loop-place : goal.invariant-loop-place
invariant-loop-place l = l.sides ≡ take l.place (sides_rise l.tms l.tdi l.fn.sides) ++ drop l.place l.fn.sides
