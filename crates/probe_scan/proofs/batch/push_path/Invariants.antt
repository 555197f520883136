use Rattle.std.proofs.Common.{◌≡◌, ◌≤◌, ◌+◌, ◌*◌, ◌++◌, length}
use Rattle.debug_model.specs.Scan.{path}
use Rattle.probe_scan.proofs.batch.push_path.Given as goal

abbrev pub invariant-levels : goal.invariant-levels
invariant-levels l = (l.batch ++ path l.rest ≡ l.fn.batch ++ path l.fn.levels)
    × (length l.batch + 3 * length l.rest ≤ length l.fn.batch + 3 * length l.fn.levels)

abbrev pub decreases-levels : goal.decreases-levels
decreases-levels l = length l.rest
