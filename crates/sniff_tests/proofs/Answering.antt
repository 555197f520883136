-- The answers of a chip that is fed byte after byte.
use Rattle.std.proofs.Common.{◌≡◌, ◌∙◌, ℕ, List, [], ◌∷◌, ◌++◌, Option, Some, None, refl, ap, sym, append_assoc, append-nil}
use Rattle.debug_model.specs.Chip.{Live, after, answer, feed, said}
use Rattle.chip_core.specs.Feeds.{feed_of, said_of}

said_of-cons : (bench : Option Live) (byte : ℕ) (rest : List ℕ)
    → said_of bench (byte ∷ []) ++ said_of (feed_of bench (byte ∷ [])) rest ≡ said_of bench (byte ∷ rest)
unfolding feed said
said_of-cons None byte rest = refl
said_of-cons (Some l) byte rest = ap (λ first. first ++ said (after l byte) rest) (append-nil (answer l byte))

-- with what was answered before
said_more : (before : List ℕ) (bench : Option Live) (byte : ℕ) (rest : List ℕ)
    → (before ++ said_of bench (byte ∷ [])) ++ said_of (feed_of bench (byte ∷ [])) rest ≡ before ++ said_of bench (byte ∷ rest)
said_more before bench byte rest =
    append_assoc before (said_of bench (byte ∷ [])) (said_of (feed_of bench (byte ∷ [])) rest)
    ∙ ap (λ later. before ++ later) (said_of-cons bench byte rest)

said_of-nil : (bench : Option Live) → said_of bench [] ≡ []
unfolding said
said_of-nil None = refl
said_of-nil (Some l) = refl

-- one more byte
pub answered_more : (bench fed : Option Live) (before new : List ℕ) (byte : ℕ) (left rest whole : List ℕ) → fed ≡ feed_of bench (byte ∷ [])
    → new ≡ before ++ said_of bench (byte ∷ []) → left ≡ byte ∷ rest → before ++ said_of bench left ≡ whole → new ++ said_of fed rest ≡ whole
answered_more bench fed before new byte left rest whole is more here all =
    ap (λ b. new ++ said_of b rest) is ∙ ap (λ n. n ++ said_of (feed_of bench (byte ∷ [])) rest) more ∙ said_more before bench byte rest
    ∙ ap (λ l. before ++ said_of bench l) (sym here) ∙ all

-- no byte more
pub answered_all : (bench : Option Live) (new left whole : List ℕ) → left ≡ [] → new ++ said_of bench left ≡ whole → new ≡ whole
answered_all bench new left whole none all =
    sym (append-nil new) ∙ ap (λ said. new ++ said) (sym (said_of-nil bench)) ∙ ap (λ l. new ++ said_of bench l) (sym none) ∙ all
