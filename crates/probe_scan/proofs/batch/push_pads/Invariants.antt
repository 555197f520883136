use Rattle.std.proofs.Common.{◌≡◌, ◌≤◌, ◌+◌, ◌*◌, ◌++◌, length}
use Rattle.probe_scan.specs.Padded.{pads, shifted_bytes}
use Rattle.probe_scan.proofs.batch.push_pads.Given as goal

abbrev pub invariant-pads : goal.invariant-pads
invariant-pads l = (l.batch ++ shifted_bytes l.fn.ends (pads l.left l.fn.level) ≡ l.fn.batch ++ shifted_bytes l.fn.ends (pads l.fn.count l.fn.level))
    × (length l.batch + 2 * l.left ≤ length l.fn.batch + 2 * l.fn.count)

abbrev pub decreases-pads : goal.decreases-pads
decreases-pads l = l.left
