use Rattle.std.proofs.Common.{◌≡◌, IsSome}
use Rattle.chain_bench.specs.Benched.{tck_of}
use Rattle.chain_bench.proofs.tests.shifted.Given as goal

abbrev pub invariant-loop-bit : goal.invariant-loop-bit
invariant-loop-bit l = record { loaded : IsSome l.bench; clock : l.sides.tck ≡ tck_of l.bench }
