use Rattle.std.proofs.Common.{◌≡◌, map, take}
use Rattle.arrayvec.specs.ArrayVec.{array_vec_len}
use Rattle.chain_scan.specs.SideTap.{reset_side}
use Rattle.chain_bench.proofs.sides.reset_all.Given as goal

abbrev pub invariant-loop-width : goal.invariant-loop-width
invariant-loop-width l = record {
  items : l.sides.items ≡ map reset_side (take l.width-index l.widths);
  count : array_vec_len l.sides ≡ l.width-index;
}
