-- What holds of each of a list is a proposition where it is one of each.
use Rattle.std.specs.Prelude.{List, [], ◌∷◌}
use Rattle.chain_scan.specs.ChainLaws.{Each}

pub each_prop : {X : Type 0} (P : X → Type 0) → ((x : X) → IsProp (P x)) → (xs : List X) → IsProp (Each P xs)
each_prop P p [] = λ x y. λ i. tt
each_prop P p (x ∷ xs) = λ a b. λ i. (p x a.0 b.0 i, each_prop P p xs a.1 b.1 i)
