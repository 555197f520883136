use Rattle.std.proofs.Common.{◌≡◌, ◌≤◌, ◌+◌, length}
use Rattle.debug_model.proofs.ManyLemmas.{EachSoFar}
use Rattle.debug_model.proofs.scripted_dmi.ScriptedDmiDmi.many.Given as goal

abbrev pub invariant-operations : goal.invariant-operations
invariant-operations l = record {
  so_far : EachSoFar l.ops l.fn.self.results.items l.rest l.results.items l.self.results.items;
  room : length l.results.items + length l.rest ≡ length l.ops;
  alive : l.self.alive ≡ l.fn.self.alive;
  later : l.fn.self.failed ≤ l.self.failed;
}

abbrev pub decreases-operations : goal.decreases-operations
decreases-operations l = length l.rest
