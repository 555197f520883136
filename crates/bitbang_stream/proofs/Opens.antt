-- The bytes of clocks are signs that leave the stream open.
use Rattle.std.proofs.Common.{◌≡◌, ℕ, List, [], ◌++◌, Bool, true, false, IsTrue, refl}
use Rattle.std.proofs.lemmas.List.Folds.{list_all-append}
use Rattle.debug_model.specs.Signs.{sign_of, stays_open}
use Rattle.debug_model.specs.Wire.{are_open}
use Rattle.bitbang_stream.specs.Clock.{pulsed}

pub nothing_is_open : IsTrue (are_open [])
unfolding are_open
nothing_is_open = refl

clock_is_open : (ask tms tdi : Bool) → are_open (pulsed ask tms tdi) ≡ true
unfolding are_open
clock_is_open false false false = refl
clock_is_open false false true = refl
clock_is_open false true false = refl
clock_is_open false true true = refl
clock_is_open true false false = refl
clock_is_open true false true = refl
clock_is_open true true false = refl
clock_is_open true true true = refl

append_is_open : (xs ys : List ℕ) → are_open xs ≡ true → are_open ys ≡ true → are_open (xs ++ ys) ≡ true
unfolding are_open
append_is_open xs ys p q = rw (list_all-append (λ b. stays_open (sign_of b)) xs ys, p, q) refl

pub pulse_is_open : (old new : List ℕ) (ask tms tdi : Bool) → IsTrue (are_open old) → new ≡ old ++ pulsed ask tms tdi → IsTrue (are_open new)
pulse_is_open old new ask tms tdi p is = rw is (append_is_open old (pulsed ask tms tdi) p (clock_is_open ask tms tdi))
