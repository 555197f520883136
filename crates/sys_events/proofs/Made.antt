-- The rounds of a schedule, as they are put together.
use Rattle.std.proofs.Common.{◌≡◌, ℕ, ◌+◌, List, [], ◌∷◌, ◌++◌, refl, arith}
use Rattle.std.specs.Prelude.{map}
use Rattle.std.specs.List.{range_with_len}
use Rattle.std.proofs.lemmas.List.{map-append}
use Rattle.std.proofs.lemmas.List.FromFn.{map-range_with_len_more}

-- one more element, which g makes what f says of its number
pub made-more : {A B : Type 0} (g : A → B) (f : ℕ → B) (xs ys : List A) (x : A) (n : ℕ)
    → map g xs ≡ map f (range_with_len 0 n) → g x ≡ f n → ys ≡ xs ++ x ∷ []
    → map g ys ≡ map f (range_with_len 0 (n + 1))
made-more g f xs ys x n made is more =
    let last : 0 + n ≡ n = omega arith in
    rw (more, map-append, made, is, map-range_with_len_more f 0 n n) refl
