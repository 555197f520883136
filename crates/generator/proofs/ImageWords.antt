-- Words of instructions, one more at a time.
use Rattle.std.proofs.Common.{◌≡◌, ℕ, ◌^◌, ◌<◌, List, [], ◌∷◌, ◌++◌, Some, refl}
use Rattle.std.proofs.lemmas.List.{map_push}
use Rattle.std.proofs.lemmas.List.Elements.{All-append, All-cons, All-nil}
use Rattle.rv_model.specs.declared.insn.Insn.{Insn}
use Rattle.rv_model.specs.Rows.{meaning}
use Rattle.generator.specs.Image.{AreWordsOf}

pub one_more_word : (insns : List Insn) (words : List ℕ) (insn : Insn) (word : ℕ) → AreWordsOf insns words
    → meaning word ≡ Some insn → word < 2 ^ 32 → AreWordsOf (insns ++ insn ∷ []) (words ++ word ∷ [])
one_more_word insns words insn word are means fits = record {
  means = rw (map_push meaning words word, map_push Some insns insn, are.means, means) refl;
  within = All-append (λ w. w < 2 ^ 32) words (word ∷ []) are.within (All-cons (λ w. w < 2 ^ 32) word [] fits (All-nil (λ w. w < 2 ^ 32)));
}
