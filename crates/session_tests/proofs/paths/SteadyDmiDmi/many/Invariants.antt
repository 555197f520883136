use Rattle.std.proofs.Common.{◌≡◌, ◌+◌, length}
use Rattle.session_tests.proofs.paths.SteadyDmiDmi.many.Given as goal

abbrev pub invariant-operations : goal.invariant-operations
invariant-operations l = length l.results.items + length l.rest ≡ length l.ops

abbrev pub decreases-operations : goal.decreases-operations
decreases-operations l = length l.rest
