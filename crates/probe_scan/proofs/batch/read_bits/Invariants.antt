use Rattle.std.proofs.Common.{◌≡◌, ◌≤◌, ◌+◌, ◌++◌, length, map}
use Rattle.debug_model.specs.Chip.{answer_byte}
use Rattle.probe_scan.proofs.batch.read_bits.Given as goal

abbrev pub invariant-answers : goal.invariant-answers
invariant-answers l = (l.fn.answers ≡ map answer_byte l.bits ++ l.rest) × (length l.bits + length l.rest ≤ 64)

abbrev pub decreases-answers : goal.decreases-answers
decreases-answers l = length l.rest
