use Rattle.std.proofs.Common.{◌≡◌, ◌++◌, IsSome, drop}
use Rattle.chip_core.specs.Feeds.{said_of}
use Rattle.sniff_tests.proofs.chips.answers_of.Given as goal

-- what has been answered, and what is still to come
abbrev pub invariant-loop-byte : goal.invariant-loop-byte
invariant-loop-byte l = IsSome l.bench × (l.all.items ++ said_of l.bench (drop l.byte-index l.bytes) ≡ said_of l.fn.bench l.fn.bytes)
