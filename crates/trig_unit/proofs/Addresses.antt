-- The addresses of an access one by one: where one passes a test, and where none does.
use Rattle.std.proofs.Common.{◌≡◌, ℕ, zero, suc, ◌+◌, ◌-◌, ◌%◌, ◌^◌, ◌<◌, ◌≤◌, Bool, true, false, ◌||◌, refl, arith, ap, ◌∙◌, nat_lt, nat_le, ◌==◌}
use Rattle.std.proofs.lemmas.Bool.Decides.{nat_tests}
use Rattle.std.proofs.Math.Bool.{or-true}
use Rattle.std.specs.List.{list_any}
use Rattle.rv_model.specs.declared.slot.Comparison.TheVariants.{Equal, AtLeast, Below}
use Rattle.rv_model.specs.Triggers.{addresses, compares}

pub some_address : (test : ℕ → Bool) (a n i : ℕ) → i < n → test ((a + i) % 2 ^ 64) ≡ true → list_any test (addresses a n) ≡ true
some_address test a zero i h e = absurd (omega arith)
some_address test a (suc n) zero h e =
    let at : a % 2 ^ 64 ≡ (a + 0) % 2 ^ 64 = ap (λ k. k % 2 ^ 64) (omega arith) in
    ap (λ b. b || list_any test (addresses (a + 1) n)) (ap test at ∙ e)
some_address test a (suc n) (suc i) h e =
    let at : (a + 1 + i) % 2 ^ 64 ≡ (a + suc i) % 2 ^ 64 = ap (λ k. k % 2 ^ 64) (omega arith) in
    let rest : list_any test (addresses (a + 1) n) ≡ true = some_address test (a + 1) n i (omega arith) (ap test at ∙ e) in
    rw rest (or-true _)

pub no_address : (test : ℕ → Bool) (a n : ℕ) → ((i : ℕ) → i < n → test ((a + i) % 2 ^ 64) ≡ false) → list_any test (addresses a n) ≡ false
no_address test a zero e = refl
no_address test a (suc n) e =
    let rest : list_any test (addresses (a + 1) n) ≡ false =
    no_address test (a + 1) n (λ i h. ap test (ap (λ k. k % 2 ^ 64) (omega arith)) ∙ e (suc i) (omega arith)) in
    let at : a % 2 ^ 64 ≡ (a + 0) % 2 ^ 64 = ap (λ k. k % 2 ^ 64) (omega arith) in
    rw rest (ap (λ b. b || false) (ap test at ∙ e 0 (omega arith)))

-- ---- ranges: what a test of their ends says of their addresses

same_by_lt : (x n : ℕ) (b : Bool) → (x < n → b ≡ true) → (n ≤ x → b ≡ false) → nat_lt x n ≡ b
same_by_lt x n b below above = grind (arith, nat_tests)

same_by_le : (n x : ℕ) (b : Bool) → (n ≤ x → b ≡ true) → (x < n → b ≡ false) → nat_le n x ≡ b
same_by_le n x b above below = grind (arith, nat_tests)

not_equal : (a t : ℕ) → (a ≡ t → ⊥) → (a == t) ≡ false
not_equal a t h = grind (arith, nat_tests)

is_equal : (a t : ℕ) → a ≡ t → (a == t) ≡ true
is_equal a t h = grind (arith, nat_tests)

pub equal_in : (t a n : ℕ) → t < 2 ^ 64 → a < 2 ^ 64 → nat_lt ((t + (2 ^ 64 - a)) % 2 ^ 64) n ≡ list_any (compares Equal t) (addresses a n)
equal_in t a n ht ha =
    same_by_lt _ n _
    (λ h. some_address (compares Equal t) a n ((t + (2 ^ 64 - a)) % 2 ^ 64) h (is_equal _ t (omega arith)))
    (λ h. no_address (compares Equal t) a n (λ i below. not_equal _ t (λ e. omega arith)))

pub at_least_wrapped : (t a n : ℕ) → t < 2 ^ 64 → a < 2 ^ 64 → 2 ^ 64 < a + n → list_any (compares AtLeast t) (addresses a n) ≡ true
at_least_wrapped t a n ht ha wraps =
    let last : (a + (2 ^ 64 - 1 - a)) % 2 ^ 64 ≡ 2 ^ 64 - 1 = omega arith in
    some_address (compares AtLeast t) a n (2 ^ 64 - 1 - a) (omega arith) (rw last (grind (arith, nat_tests)))

pub at_least_in : (t a n l : ℕ) → 0 < n → a + n ≤ 2 ^ 64 → l ≡ a + (n - 1) → nat_le t l ≡ list_any (compares AtLeast t) (addresses a n)
at_least_in t a n l some room e =
    same_by_le t l _
    (λ h. some_address (compares AtLeast t) a n (n - 1) (omega arith) (let at : t ≤ (a + (n - 1)) % 2 ^ 64 = omega arith in grind (arith, nat_tests)))
    (λ h. no_address (compares AtLeast t) a n (λ i below. let at : (a + i) % 2 ^ 64 < t = omega arith in grind (arith, nat_tests)))

pub below_wrapped : (t a n : ℕ) → a < 2 ^ 64 → 2 ^ 64 < a + n → nat_lt 0 t ≡ list_any (compares Below t) (addresses a n)
below_wrapped t a n ha wraps =
    same_by_lt 0 t _
    (λ h. some_address (compares Below t) a n (2 ^ 64 - a) (omega arith) (let at : (a + (2 ^ 64 - a)) % 2 ^ 64 < t = omega arith in grind (arith, nat_tests)))
    (λ h. no_address (compares Below t) a n (λ i below. grind (arith, nat_tests)))

pub below_in : (t a n : ℕ) → 0 < n → a + n ≤ 2 ^ 64 → nat_lt a t ≡ list_any (compares Below t) (addresses a n)
below_in t a n some room =
    same_by_lt a t _
    (λ h. some_address (compares Below t) a n 0 some (let at : (a + 0) % 2 ^ 64 < t = omega arith in grind (arith, nat_tests)))
    (λ h. no_address (compares Below t) a n (λ i below. let at : t ≤ (a + i) % 2 ^ 64 = omega arith in grind (arith, nat_tests)))
