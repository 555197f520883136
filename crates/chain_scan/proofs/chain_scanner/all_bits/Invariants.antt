use Rattle.std.proofs.Common.{◌≡◌, ◌+◌, length, sum}
use Rattle.chain_scan.proofs.chain_scanner.all_bits.Given as goal

abbrev pub invariant-widths : goal.invariant-widths
invariant-widths l = l.bits + sum l.rest ≡ sum l.fn.widths

abbrev pub decreases-widths : goal.decreases-widths
decreases-widths l = length l.rest
