use Rattle.std.proofs.Common.{◌≡◌, flat_map, take}
use Rattle.std.specs.Int.{w32, to_le_bytes}
use Rattle.generator.proofs.program.little_endian.Given as goal

abbrev pub invariant-loop-word : goal.invariant-loop-word
invariant-loop-word l = l.bytes.items ≡ flat_map (to_le_bytes w32) (take l.word-index l.words)
