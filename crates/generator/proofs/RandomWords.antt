-- The words of a generator, as a loop appends them.
use Rattle.std.proofs.Common.{◌≡◌, ◌∙◌, ℕ, suc, ◌+◌, ◌-◌, ◌<◌, ◌≤◌, List, [], ◌∷◌, ◌++◌, ap, arith, append_assoc, append-nil}
use Rattle.rand_core.specs.Steps.{first_words}

-- one more, the i-th of n
pub one_more : {S : Type 0} (step : S → ℕ × S) (all words : List ℕ) (n i : ℕ) (s t : S) (w : ℕ)
    → i < n → (w, t) ≡ step s → words ++ first_words step (n - i) s ≡ all
    → (words ++ w ∷ []) ++ first_words step (n - (i + 1)) t ≡ all
unfolding first_words
one_more step all words n i s t w below is so_far =
    let one : n - i ≡ suc (n - (i + 1)) = omega arith in
    let known = rw one at so_far in
    rw append_assoc (ap (λ (p : ℕ × _). words ++ p.0 ∷ first_words step (n - (i + 1)) p.1) is ∙ known)

-- all n
pub all_drawn : {S : Type 0} (step : S → ℕ × S) (all words : List ℕ) (n i : ℕ) (s : S)
    → n ≤ i → words ++ first_words step (n - i) s ≡ all → words ≡ all
unfolding first_words
all_drawn step all words n i s past so_far =
    let none : n - i ≡ 0 = omega arith in
    let known = rw (none, append-nil) at so_far in
    known
