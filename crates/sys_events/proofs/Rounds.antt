-- The rounds to come of a list that a function of the number makes.
use Rattle.std.proofs.Common.{◌≡◌, ◌∙◌, ℕ, zero, suc, ◌+◌, ◌%◌, ◌<◌, ◌≤◌, inl, inr, List, refl, ap, sym, arith, add-zero}
use Rattle.std.specs.Prelude.{map}
use Rattle.std.specs.List.{range_with_len}
use Rattle.std.proofs.Math.Nat.{mod-eq_of_lt, mod-lt, mod-add-mod, mod_self}
use Rattle.std.proofs.lemmas.Bool.{cases_lt, lt-ltb, le-ltb}
use Rattle.std.proofs.lemmas.List.FromFn.{length-map-range_with_len, get_or-map-range_with_len}
use Rattle.debug_model.specs.Schedule.{RoundPlan, round_of, moved, round_after}
use Rattle.debug_model.specs.declared.event.Event.{Event}

-- a list of n rounds, at a place
abbrev pub made : (ℕ → List Event) → ℕ → ℕ → RoundPlan
made f n place = record { rounds = map f (range_with_len 0 n); place = place }

-- the round that comes next
made-round : (f : ℕ → List Event) (n m : ℕ) → m < n → round_of (made f n m) ≡ f m
made-round f n m h = get_or-map-range_with_len f 0 n m m _ h (omega arith)

-- one place on
moved-below : (f : ℕ → List Event) (n m : ℕ) → m + 1 < n → moved (made f n m) ≡ made f n (m + 1)
moved-below f n m h = rw (length-map-range_with_len f 0 n, lt-ltb (m + 1) n h) refl

-- from the end back at the start
moved-last : (f : ℕ → List Event) (n m : ℕ) → m < n → n ≤ m + 1 → moved (made f n m) ≡ made f n 0
moved-last f n m below h = rw (length-map-range_with_len f 0 n, le-ltb (m + 1) n h, lt-ltb m n below) refl

-- both at once
moved-made : (f : ℕ → List Event) (n m : ℕ) → m < n → moved (made f n m) ≡ made f n ((m + 1) % n)
moved-made f n m h = elim (cases_lt (m + 1) n) [
  | inl below ↦ moved-below f n m below ∙ ap (made f n) (sym (mod-eq_of_lt below))
  | inr last ↦
      let at_end : m + 1 ≡ n = omega arith in
      moved-last f n m h last ∙ ap (made f n) (rw at_end (sym (mod_self n)))
]

-- the k-th round to come is the one whose number is k more, from the end back at the start
pub round_after-made : (f : ℕ → List Event) (n m k : ℕ) → m < n → round_after k (made f n m) ≡ f ((m + k) % n)
round_after-made f n m zero h =
    let here : (m + 0) % n ≡ m = simp (add-zero) (mod-eq_of_lt h) in
    made-round f n m h ∙ ap f (sym here)
round_after-made f n m (suc k) h =
    let positive : 0 < n = omega arith in
    let numbers : ((m + 1) % n + k) % n ≡ (m + suc k) % n =
    mod-add-mod (m + 1) n k ∙ ap (λ (x : ℕ). x % n) (omega arith) in
    ap (round_after k) (moved-made f n m h) ∙ round_after-made f n ((m + 1) % n) k (mod-lt (m + 1) positive) ∙ ap f numbers
