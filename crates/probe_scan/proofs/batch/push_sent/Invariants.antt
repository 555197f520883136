use Rattle.std.proofs.Common.{◌≡◌, ◌≤◌, ◌+◌, ◌*◌, ◌++◌, length}
use Rattle.debug_model.specs.Scan.{sent_bits}
use Rattle.probe_scan.proofs.batch.push_sent.Given as goal

abbrev pub invariant-clocks : goal.invariant-clocks
invariant-clocks l = (l.batch ++ sent_bits l.rest ≡ l.fn.batch ++ sent_bits l.fn.bits)
    × (length l.batch + 3 * length l.rest ≤ length l.fn.batch + 3 * length l.fn.bits)

abbrev pub decreases-clocks : goal.decreases-clocks
decreases-clocks l = length l.rest
