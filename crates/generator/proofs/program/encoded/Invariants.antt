use Rattle.std.proofs.Common.{map, take}
use Rattle.generator.specs.Image.{instruction, AreWordsOf}
use Rattle.generator.proofs.program.encoded.Given as goal

abbrev pub invariant-loop-word : goal.invariant-loop-word
invariant-loop-word l = AreWordsOf (map instruction (take l.word-index l.words)) l.program.items
