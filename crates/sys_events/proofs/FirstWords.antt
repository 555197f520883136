-- The words of a generator, one at a time.
use Rattle.std.proofs.Common.{◌≡◌, ◌∙◌, ℕ, suc, ◌+◌, ◌-◌, ◌<◌, ◌≤◌, List, ◌∷◌, ◌++◌, length, take, ap, arith, append_assoc, append-nil}
use Rattle.std.specs.Prelude.{slice_set}
use Rattle.std.proofs.lemmas.List.{take_more_set, take_all}
use Rattle.rand_core.specs.Steps.{first_words}

-- the first word, and those after it
pub first_words-more : {S : Type 0} (step : S → ℕ × S) (k : ℕ) (s t : S) (w : ℕ) → (w, t) ≡ step s
    → w ∷ first_words step k t ≡ first_words step (suc k) s
unfolding first_words
first_words-more step k s t w h = ap (λ (p : ℕ × _). p.0 ∷ first_words step k p.1) h

-- a loop that writes them, at the i-th of n
pub first_words-write : {S : Type 0} (step : S → ℕ × S) (all ws : List ℕ) (n i : ℕ) (s t : S) (w : ℕ)
    → i < n → length ws ≡ n → (w, t) ≡ step s
    → take i ws ++ first_words step (n - i) s ≡ all
    → take (i + 1) (slice_set ws i w) ++ first_words step (n - (i + 1)) t ≡ all
first_words-write step all ws n i s t w h l e ih =
    let one : n - i ≡ suc (n - (i + 1)) = omega arith in
    let within : i < length ws = omega arith in
    let known = rw one at ih in
    rw (take_more_set ws i w within, append_assoc)
    (ap (λ (rest : List ℕ). take i ws ++ rest) (first_words-more step (n - (i + 1)) s t w e) ∙ known)

-- when that loop is done
pub first_words-all : {S : Type 0} (step : S → ℕ × S) (all ws : List ℕ) (n i : ℕ) (s : S)
    → n ≤ i → length ws ≡ n → take i ws ++ first_words step (n - i) s ≡ all → ws ≡ all
unfolding first_words
first_words-all step all ws n i s l h ih =
    let none : n - i ≡ 0 = omega arith in
    let whole : length ws ≤ i = omega arith in
    let known = rw (none, take_all i ws whole, append-nil) at ih in
    known
