use Rattle.std.proofs.Common.{◌≡◌, ◌++◌, take}
use Rattle.line_counts.proofs.line_counts.LineCountsSink.put.Given as goal

-- the bytes so far were taken
abbrev pub invariant-loop-byte : goal.invariant-loop-byte
invariant-loop-byte l = l.self ≡ l.initial.self ++ take l.byte-index l.bytes
