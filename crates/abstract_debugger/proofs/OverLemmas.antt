-- A change at one place of a list, and of one hart of a board.
use Rattle.std.proofs.Common.{◌≡◌, ℕ, zero, suc, List, [], ◌∷◌, set, Some, None, slice_get, option_map, refl, ap}
use Rattle.abstract_debugger.specs.Slots.{over}

pub slice_get-over_same : {A : Type 0} (f : A → A) (h : ℕ) (xs : List A) → slice_get (over h f xs) h ≡ option_map f (slice_get xs h)
slice_get-over_same f h [] = refl
slice_get-over_same f zero (x ∷ xs) = refl
slice_get-over_same f (suc h) (x ∷ xs) = slice_get-over_same f h xs

pub slice_get-over_other : {A : Type 0} (f : A → A) (h j : ℕ) (xs : List A) → (j ≡ h → ⊥) → slice_get (over h f xs) j ≡ slice_get xs j
slice_get-over_other f h j [] other = refl
slice_get-over_other f zero zero (x ∷ xs) other = absurd (other refl)
slice_get-over_other f zero (suc j) (x ∷ xs) other = refl
slice_get-over_other f (suc h) zero (x ∷ xs) other = refl
slice_get-over_other f (suc h) (suc j) (x ∷ xs) other = slice_get-over_other f h j xs (λ e. other (ap suc e))

pub slice_get-set_here : {A : Type 0} (xs : List A) (i : ℕ) (x v : A) → slice_get xs i ≡ Some x → slice_get (set xs i v) i ≡ Some v
slice_get-set_here [] i x v is = absurd (cc)
slice_get-set_here (y ∷ xs) zero x v is = refl
slice_get-set_here (y ∷ xs) (suc i) x v is = slice_get-set_here xs i x v is

-- a place that is written with what f makes of it
pub set-over : {A : Type 0} (f : A → A) (xs : List A) (i : ℕ) (x : A) → slice_get xs i ≡ Some x → set xs i (f x) ≡ over i f xs
set-over f [] i x is = refl
set-over f (y ∷ xs) zero x is = ap (λ z. f z ∷ xs) (let e : x ≡ y = cc in e)
set-over f (y ∷ xs) (suc i) x is = ap (λ zs. y ∷ zs) (set-over f xs i x is)

pub over_none : {A : Type 0} (f : A → A) (xs : List A) (i : ℕ) → slice_get xs i ≡ None → over i f xs ≡ xs
over_none f [] i is = refl
over_none f (y ∷ xs) zero is = absurd (cc)
over_none f (y ∷ xs) (suc i) is = ap (λ zs. y ∷ zs) (over_none f xs i is)

-- two changes at one place are one
pub over_twice : {A : Type 0} (f g : A → A) (h : ℕ) (xs : List A) → over h g (over h f xs) ≡ over h (λ x. g (f x)) xs
over_twice f g h [] = refl
over_twice f g zero (x ∷ xs) = refl
over_twice f g (suc h) (x ∷ xs) = ap (λ zs. x ∷ zs) (over_twice f g h xs)
