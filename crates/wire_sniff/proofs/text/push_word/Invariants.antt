use Rattle.std.proofs.Common.{◌≡◌, ◌+◌, ◌++◌, length}
use Rattle.arrayvec.specs.ArrayVec.{array_vec_len}
use Rattle.wire_sniff.proofs.text.push_word.Given as goal

abbrev pub invariant-bytes : goal.invariant-bytes
invariant-bytes l = (l.text.items ++ l.rest ≡ l.fn.text.items ++ l.fn.word)
    × (array_vec_len l.text + length l.rest ≡ array_vec_len l.fn.text + length l.fn.word)

abbrev pub decreases-bytes : goal.decreases-bytes
decreases-bytes l = length l.rest
