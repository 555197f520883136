-- Bytes of memory behind a write of several: the written ones, those beside them, and writes and reads that have no byte in common.
use Rattle.std.proofs.Common.{◌≡◌, ◌∙◌, ◌+◌, ◌*◌, ◌/◌, ◌%◌, ◌<◌, ◌≤◌, ◌^◌, ◌⊎◌, ℕ, zero, suc, true, cond}
use Rattle.std.proofs.Common.{Option, Some, None, is_some, refl, sym, ap, if◌then◌else◌, inl, inr, arith}
use Rattle.std.specs.Prelude.{◌==◌}
use Rattle.std.specs.FinMap.{get, get-insert, insert, nat_cmp-IsAntisymmetric, same_map}
use Rattle.std.specs.Cmp.{nat_cmp_total, unsigned_tied}
use Rattle.std.proofs.lemmas.Bool.{cases_eq, cases_lt, eq-eqb, ne_eqb}
use Rattle.std.proofs.Math.Arith.{mod-mul}
use Rattle.std.proofs.Math.Nat.{pow-suc}
use Rattle.rv_model.specs.Memory.{Bytes, kept_byte, ram_base, value_at, with_byte, with_value}
use Rattle.rv_model.proofs.MapLemmas.{kept_high}

-- what is seen at q where a write of a value's lowest bytes, so many, from an address on was kept, and this elsewhere
abbrev pub byte_or : ℕ → ℕ → ℕ → ℕ → Option ℕ → Option ℕ
byte_or a zero v q o = o
byte_or a (suc n) v q o = byte_or (a + 1) n (v / 256) q (if q == a then Some (kept_byte a (v % 256)) else o)

pub get_insert : (m : Bytes) (a v q : ℕ) → get (insert m a v) q ≡ (if q == a then Some v else get m q)
get_insert m a v q = get-insert nat_cmp_total m a v q ∙ ap (λ b. cond b (Some v) (get m q)) (unsigned_tied q a)

pub get-with_value : (m : Bytes) (a n v q : ℕ) → get (with_value m a n v) q ≡ byte_or a n v q (get m q)
get-with_value m a zero v q = refl
get-with_value m a (suc n) v q =
    get-with_value (insert m a (kept_byte a (v % 256))) (a + 1) n (v / 256) q ∙ ap (byte_or (a + 1) n (v / 256) q) (get_insert m a (kept_byte a (v % 256)) q)

-- ---- outside and within

here : (q a : ℕ) (x y : Option ℕ) → q ≡ a → (if q == a then x else y) ≡ x
here q a x y is = ap (λ b. if b then x else y) (eq-eqb q a is)

there : (q a : ℕ) (x y : Option ℕ) → (q ≡ a → ⊥) → (if q == a then x else y) ≡ y
there q a x y other = ap (λ b. if b then x else y) (ne_eqb q a other)

pub byte_below : (a n v q : ℕ) (o : Option ℕ) → q < a → byte_or a n v q o ≡ o
byte_below a zero v q o below = refl
byte_below a (suc n) v q o below =
    byte_below (a + 1) n (v / 256) q (if q == a then Some (kept_byte a (v % 256)) else o) (omega arith)
    ∙ there q a (Some (kept_byte a (v % 256))) o (λ e. absurd (omega arith))

pub byte_above : (a n v q : ℕ) (o : Option ℕ) → a + n ≤ q → byte_or a n v q o ≡ o
byte_above a zero v q o above = refl
byte_above a (suc n) v q o above =
    byte_above (a + 1) n (v / 256) q (if q == a then Some (kept_byte a (v % 256)) else o) (omega arith)
    ∙ there q a (Some (kept_byte a (v % 256))) o (λ e. absurd (omega arith))

-- what was there before doesn't matter
pub byte_within : (a n v q : ℕ) (o o' : Option ℕ) → a ≤ q → q < a + n → byte_or a n v q o ≡ byte_or a n v q o'
byte_within a zero v q o o' from below = absurd (omega arith)
byte_within a (suc n) v q o o' from below = elim (cases_eq q a) [
  | inl e ↦ ap (byte_or (a + 1) n (v / 256) q) (here q a (Some (kept_byte a (v % 256))) o e ∙ sym (here q a (Some (kept_byte a (v % 256))) o' e))
  | inr other ↦ byte_within (a + 1) n (v / 256) q (if q == a then Some (kept_byte a (v % 256)) else o)
      (if q == a then Some (kept_byte a (v % 256)) else o') (omega arith) (omega arith)
]

-- below, within or above
pub data Place (a n q : ℕ) : Type 0 where
  below : q < a → Place a n q
  within : a ≤ q → q < a + n → Place a n q
  above : a + n ≤ q → Place a n q

pub place_of : (a n q : ℕ) → Place a n q
place_of a n q = elim (cases_lt q a) [
  | inl less ↦ below less
  | inr more ↦ elim (cases_lt q (a + n)) [
    | inl less ↦ within more less
    | inr past ↦ above past
  ]
]

pub byte_some : (a n v q : ℕ) (o : Option ℕ) → a ≤ q → q < a + n → is_some (byte_or a n v q o) ≡ true
byte_some a zero v q o from less = absurd (omega arith)
byte_some a (suc n) v q o from less = elim (cases_eq q a) [
  | inl e ↦ ap is_some (byte_below (a + 1) n (v / 256) q (if q == a then Some (kept_byte a (v % 256)) else o) (omega arith)
      ∙ here q a (Some (kept_byte a (v % 256))) o e)
  | inr other ↦ byte_some (a + 1) n (v / 256) q (if q == a then Some (kept_byte a (v % 256)) else o) (omega arith) (omega arith)
]

-- ---- maps

pub same_bytes : (m n : Bytes) → ((q : ℕ) → get m q ≡ get n q) → m ≡ n
same_bytes m n is = same_map nat_cmp_total nat_cmp-IsAntisymmetric m n is

abbrev pub Apart : (a n b k : ℕ) → Type 0
Apart a n b k = (a + n ≤ b) ⊎ (b + k ≤ a)

-- a byte outside both writes, or within just one
swap_at : (a n v b k w q : ℕ) (o : Option ℕ) → Apart a n b k → Place a n q → byte_or b k w q (byte_or a n v q o) ≡ byte_or a n v q (byte_or b k w q o)
swap_at a n v b k w q o apart (below less) = ap (byte_or b k w q) (byte_below a n v q o less) ∙ sym (byte_below a n v q (byte_or b k w q o) less)
swap_at a n v b k w q o apart (above past) = ap (byte_or b k w q) (byte_above a n v q o past) ∙ sym (byte_above a n v q (byte_or b k w q o) past)
swap_at a n v b k w q o (inl front) (within from less) =
    byte_below b k w q (byte_or a n v q o) (omega arith) ∙ ap (byte_or a n v q) (sym (byte_below b k w q o (omega arith)))
swap_at a n v b k w q o (inr behind) (within from less) =
    byte_above b k w q (byte_or a n v q o) (omega arith) ∙ ap (byte_or a n v q) (sym (byte_above b k w q o (omega arith)))

pub writes_swap : (m : Bytes) (a n v b k w : ℕ) → Apart a n b k → with_value (with_value m a n v) b k w ≡ with_value (with_value m b k w) a n v
writes_swap m a n v b k w apart = same_bytes (with_value (with_value m a n v) b k w) (with_value (with_value m b k w) a n v) (λ q.
    get-with_value (with_value m a n v) b k w q ∙ ap (byte_or b k w q) (get-with_value m a n v q)
    ∙ swap_at a n v b k w q (get m q) apart (place_of a n q)
    ∙ sym (get-with_value (with_value m b k w) a n v q ∙ ap (byte_or a n v q) (get-with_value m b k w q)))

over_at : (a n v w q : ℕ) (o : Option ℕ) → Place a n q → byte_or a n w q (byte_or a n v q o) ≡ byte_or a n w q o
over_at a n v w q o (below less) = ap (byte_or a n w q) (byte_below a n v q o less)
over_at a n v w q o (above past) = ap (byte_or a n w q) (byte_above a n v q o past)
over_at a n v w q o (within from less) = byte_within a n w q (byte_or a n v q o) o from less

-- the later of two writes stays
pub written_over : (m : Bytes) (a n v w : ℕ) → with_value (with_value m a n v) a n w ≡ with_value m a n w
written_over m a n v w = same_bytes (with_value (with_value m a n v) a n w) (with_value m a n w) (λ q.
    get-with_value (with_value m a n v) a n w q ∙ ap (byte_or a n w q) (get-with_value m a n v q) ∙ over_at a n v w q (get m q) (place_of a n q)
    ∙ sym (get-with_value m a n w q))

-- ---- values

-- maps that agree on some bytes have the same value there
pub value_alike : (m m' : Bytes) (a n : ℕ) → ((q : ℕ) → a ≤ q → q < a + n → get m q ≡ get m' q) → value_at m a n ≡ value_at m' a n
value_alike m m' a zero alike = refl
value_alike m m' a (suc n) alike =
    ap (λ o. with_byte o (value_at m (a + 1) n)) (alike a (omega arith) (omega arith))
    ∙ ap (with_byte (get m' a)) (value_alike m m' (a + 1) n (λ q from less. alike q (omega arith) (omega arith)))

-- a value beside a write
pub value_apart : (m : Bytes) (a n v b k : ℕ) → Apart a n b k → value_at (with_value m a n v) b k ≡ value_at m b k
value_apart m a n v b k (inl front) = value_alike (with_value m a n v) m b k (λ q from less. get-with_value m a n v q ∙ byte_above a n v q (get m q)
    (omega arith))
value_apart m a n v b k (inr behind) = value_alike (with_value m a n v) m b k (λ q from less. get-with_value m a n v q ∙ byte_below a n v q
    (get m q) (omega arith))

-- the same, of whether there is one
pub value_there : (m m' : Bytes) (a n : ℕ) → ((q : ℕ) → a ≤ q → q < a + n → is_some (get m q) ≡ is_some (get m' q))
    → is_some (value_at m a n) ≡ is_some (value_at m' a n)
value_there m m' a zero alike = refl
value_there m m' a (suc n) alike =
    both (get m a) (get m' a) (value_at m (a + 1) n) (value_at m' (a + 1) n) (alike a (omega arith) (omega arith))
    (value_there m m' (a + 1) n (λ q from less. alike q (omega arith) (omega arith)))
  where
    both : (x y u v : Option ℕ) → is_some x ≡ is_some y → is_some u ≡ is_some v → is_some (with_byte x u) ≡ is_some (with_byte y v)
    both None None u v e f = refl
    both None (Some y) u v e f = absurd (cc)
    both (Some x) None u v e f = absurd (cc)
    both (Some x) (Some y) None None e f = refl
    both (Some x) (Some y) None (Some v) e f = absurd (cc)
    both (Some x) (Some y) (Some u) None e f = absurd (cc)
    both (Some x) (Some y) (Some u) (Some v) e f = refl

-- ---- the value of what was written

positive : (n : ℕ) → 0 < 256 ^ n
positive zero = omega arith
positive (suc n) = omega (arith, pow-suc 256 n, positive n)

byte_first : (a n v : ℕ) (o : Option ℕ) → ram_base ≤ a → byte_or a (suc n) v a o ≡ Some (v % 256)
byte_first a n v o high =
    byte_below (a + 1) n (v / 256) a (if a == a then Some (kept_byte a (v % 256)) else o) (omega arith)
    ∙ here a a (Some (kept_byte a (v % 256))) o refl ∙ ap Some (kept_high a (v % 256) high)

-- the bytes of a value that were written to RAM, read back, are its lowest bytes
pub value_written : (m : Bytes) (a n v : ℕ) → ram_base ≤ a → value_at (with_value m a n v) a n ≡ Some (v % 256 ^ n)
value_written m a zero v high = ap Some (by_one v)
  where
    by_one : (v : ℕ) → 0 ≡ v % 256 ^ 0
    by_one v = omega arith
value_written m a (suc n) v high =
    ap (λ o. with_byte o (value_at (with_value m a (suc n) v) (a + 1) n)) (get-with_value m a (suc n) v a ∙ byte_first a n v (get m a) high)
    ∙ ap (with_byte (Some (v % 256))) (value_written (insert m a (kept_byte a (v % 256))) (a + 1) n (v / 256) (omega arith))
    ∙ ap Some (lowest (256 ^ n) v (positive n) ∙ ap (λ p. v % p) (sym (pow-suc 256 n)))
  where
    lowest : (p v : ℕ) → 0 < p → v % 256 + 256 * (v / 256 % p) ≡ v % (p * 256)
    lowest p v some = omega (arith, mod-mul v {m = p} {c = 256} some (omega arith))

-- ---- RAM alone

-- what is seen at q where all of a value's lowest bytes stand
abbrev pub whole_or : ℕ → ℕ → ℕ → ℕ → Option ℕ → Option ℕ
whole_or a zero v q o = o
whole_or a (suc n) v q o = whole_or (a + 1) n (v / 256) q (if q == a then Some (v % 256) else o)

-- RAM keeps all of what is written
pub byte_or-whole : (a n v q : ℕ) (o : Option ℕ) → ram_base ≤ a → byte_or a n v q o ≡ whole_or a n v q o
byte_or-whole a zero v q o high = refl
byte_or-whole a (suc n) v q o high =
    byte_or-whole (a + 1) n (v / 256) q (if q == a then Some (kept_byte a (v % 256)) else o) (omega arith)
    ∙ ap (λ b. whole_or (a + 1) n (v / 256) q (if q == a then Some b else o)) (kept_high a (v % 256) high)
