use Rattle.std.proofs.Common.{◌≡◌, IsSome}
use Rattle.chain_bench.specs.Benched.{tck_of}
use Rattle.chain_bench.proofs.tests.identifications_stand_one_behind_the_other.Given as goal

abbrev pub invariant-loop-code : goal.invariant-loop-code
invariant-loop-code g l = record { loaded : IsSome l.bench; clock : l.sides.tck ≡ tck_of l.bench }
