use Rattle.std.proofs.Common.{IsSome}
use Rattle.run_tests.proofs.tests.probe.answers_to.Given as goal

abbrev pub invariant-loop-piece : goal.invariant-loop-piece
invariant-loop-piece l =
    (goal.iterator-loop-piece).can_next l.piece-iterator ×
    (goal.iterator-loop-piece).is_finite l.piece-iterator ×
    IsSome l.bench
