use Rattle.std.proofs.Common.{◌≡◌, ◌≤◌, ◌+◌, ◌*◌, ◌++◌, length, map}
use Rattle.probe_scan.specs.Padded.{as_asked, shifted_bytes}
use Rattle.probe_scan.proofs.batch.push_bits.Given as goal

abbrev pub invariant-clocks : goal.invariant-clocks
invariant-clocks l = (l.batch ++ shifted_bytes l.fn.ends (map (as_asked l.fn.ask) l.rest)
    ≡ l.fn.batch ++ shifted_bytes l.fn.ends (map (as_asked l.fn.ask) l.fn.bits))
    × (length l.batch + 3 * length l.rest ≤ length l.fn.batch + 3 * length l.fn.bits)

abbrev pub decreases-clocks : goal.decreases-clocks
decreases-clocks l = length l.rest
