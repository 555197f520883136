use Rattle.std.proofs.Common.{◌≡◌, ◌+◌, length}
use Rattle.probe_run.proofs.tests.SameDmiDmi.many.Given as goal

abbrev pub invariant-operations : goal.invariant-operations
invariant-operations l = length l.results.items + length l.rest ≡ length l.ops

abbrev pub decreases-operations : goal.decreases-operations
decreases-operations l = length l.rest
