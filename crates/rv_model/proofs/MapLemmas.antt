-- Memory as the map of a list of bytes: what a look-up, a write, a value and a store of several bytes are on that list.
-- Each lemma takes the numbers that a goal has, joined by equations, so that `omega arith` shows each premise.
use Rattle.std.proofs.Common.{◌≡◌, ℕ, zero, suc, ◌+◌, ◌-◌, ◌*◌, ◌%◌, ◌^◌, ◌<◌, ◌≤◌, ◌&&◌, ◌==◌, Bool, true, false, cond, List, [], ◌∷◌, length}
use Rattle.std.proofs.Common.{get_or, set, Option, Some, None, is_some, slice_get, refl, sym, ap, ◌∙◌, inl, inr, arith}
use Rattle.std.specs.Prelude.{nat_le, nat_lt}
use Rattle.std.specs.FinMap as map
use Rattle.std.specs.FinMap.{same_map, get-insert, get-from_entries, nat_cmp-IsAntisymmetric}
use Rattle.std.specs.Cmp.{nat_cmp_total, unsigned_tied}
use Rattle.std.specs.Ordering.{nat_cmp, eq_by_cmp}
use Rattle.std.specs.List.{enumerate_from}
use Rattle.std.proofs.lemmas.Bool.{cases_eq, cases_lt, eq-eqb, le-ltb, ne_eqb}
use Rattle.std.proofs.lemmas.Option.{slice_get-get_or, slice_get_past, none-some, same_Some}
use Rattle.std.proofs.Math.Nat.{pow-suc}
use Rattle.rv_model.specs.Memory.{bytes_from, hart_places, kept_byte, map_of, msip_base, msip_size, ram_base, value_at, with_byte}

-- ---- lists

pub slice_get-set_same : {X : Type 0} (xs : List X) (i : ℕ) (v : X) → i < length xs → slice_get (set xs i v) i ≡ Some v
slice_get-set_same [] i v h = absurd (omega arith)
slice_get-set_same (x ∷ xs) zero v h = refl
slice_get-set_same (x ∷ xs) (suc i) v h = slice_get-set_same xs i v (omega arith)

pub slice_get-set_other : {X : Type 0} (xs : List X) (i j : ℕ) (v : X) → (j ≡ i → ⊥) → slice_get (set xs i v) j ≡ slice_get xs j
slice_get-set_other [] i j v h = refl
slice_get-set_other (x ∷ xs) zero zero v h = absurd (h refl)
slice_get-set_other (x ∷ xs) zero (suc j) v h = refl
slice_get-set_other (x ∷ xs) (suc i) zero v h = refl
slice_get-set_other (x ∷ xs) (suc i) (suc j) v h = slice_get-set_other xs i j v (λ e. h (ap suc e))

-- a list in which an element is written that stood there
pub set_same : {X : Type 0} (xs : List X) (i : ℕ) (x : X) → slice_get xs i ≡ Some x → set xs i x ≡ xs
set_same [] i x is = refl
set_same (y ∷ xs) zero x is = ap (λ z. z ∷ xs) (let e : x ≡ y = cc in e)
set_same (y ∷ xs) (suc i) x is = ap (λ zs. y ∷ zs) (set_same xs i x is)

-- ---- one byte

same_key : (q : ℕ) → eq_by_cmp nat_cmp q q ≡ true
same_key q = unsigned_tied q q ∙ eq-eqb q q refl

other_key : (q k : ℕ) → (q ≡ k → ⊥) → eq_by_cmp nat_cmp q k ≡ false
other_key q k h = unsigned_tied q k ∙ ne_eqb q k h

find_from : (xs : List ℕ) (n i q : ℕ) → q ≡ n + i → map.find nat_cmp q (enumerate_from n xs) ≡ slice_get xs i
find_from [] n i q e = refl
find_from (x ∷ xs) n zero q e =
    ap (λ b. cond b (Some x) (map.find nat_cmp q (enumerate_from (n + 1) xs))) (unsigned_tied q n ∙ eq-eqb q n (omega arith))
find_from (x ∷ xs) n (suc i) q e =
    ap (λ b. cond b (Some x) (map.find nat_cmp q (enumerate_from (n + 1) xs))) (other_key q n (λ h. omega arith)) ∙ find_from xs (n + 1) i q (omega arith)

pub find_below : (xs : List ℕ) (n q : ℕ) → q < n → map.find nat_cmp q (enumerate_from n xs) ≡ None
find_below [] n q h = refl
find_below (x ∷ xs) n q h =
    ap (λ b. cond b (Some x) (map.find nat_cmp q (enumerate_from (n + 1) xs))) (other_key q n (λ e. omega arith)) ∙ find_below xs (n + 1) q (omega arith)

pub get-bytes_from : (base : ℕ) (xs : List ℕ) (i q : ℕ) → q ≡ base + i → map.get (bytes_from base xs) q ≡ slice_get xs i
unfolding bytes_from
get-bytes_from base xs i q e = get-from_entries nat_cmp_total (enumerate_from base xs) q ∙ find_from xs base i q e

pub get-bytes_from_below : (base : ℕ) (xs : List ℕ) (q : ℕ) → q < base → map.get (bytes_from base xs) q ≡ None
unfolding bytes_from
get-bytes_from_below base xs q h = get-from_entries nat_cmp_total (enumerate_from base xs) q ∙ find_below xs base q h

pub get-bytes_from_above : (base : ℕ) (xs : List ℕ) (q : ℕ) → base + length xs ≤ q → map.get (bytes_from base xs) q ≡ None
get-bytes_from_above base xs q h = get-bytes_from base xs (q - base) q (omega arith) ∙ slice_get_past xs (q - base) (omega arith)

-- RAM's map is the one whose base is RAM's
pub map_of-bytes_from : (xs : List ℕ) → map_of xs ≡ bytes_from ram_base xs
unfolding map_of bytes_from
map_of-bytes_from xs = refl

pub get-map_of : (xs : List ℕ) (i q : ℕ) → q ≡ ram_base + i → map.get (map_of xs) q ≡ slice_get xs i
get-map_of xs i q e = ap (λ m. map.get m q) (map_of-bytes_from xs) ∙ get-bytes_from ram_base xs i q e

pub get-map_of_below : (xs : List ℕ) (q : ℕ) → q < ram_base → map.get (map_of xs) q ≡ None
get-map_of_below xs q h = ap (λ m. map.get m q) (map_of-bytes_from xs) ∙ get-bytes_from_below ram_base xs q h

pub get-map_of_above : (xs : List ℕ) (q : ℕ) → ram_base + length xs ≤ q → map.get (map_of xs) q ≡ None
get-map_of_above xs q h = ap (λ m. map.get m q) (map_of-bytes_from xs) ∙ get-bytes_from_above ram_base xs q h

pub insert-bytes_from : (base : ℕ) (xs : List ℕ) (i q v : ℕ) → q ≡ base + i → i < length xs → map.insert (bytes_from base xs) q v ≡ bytes_from base (set xs i v)
insert-bytes_from base xs i q v e h =
    let at : (p : ℕ) → map.get (map.insert (bytes_from base xs) q v) p ≡ map.get (bytes_from base (set xs i v)) p = λ p.
    get-insert nat_cmp_total (bytes_from base xs) q v p ∙ elim (cases_lt p base) [
      | inl low ↦
          ap (λ b. cond b (Some v) (map.get (bytes_from base xs) p)) (other_key p q (λ s. omega arith))
          ∙ get-bytes_from_below base xs p low ∙ sym (get-bytes_from_below base (set xs i v) p low)
      | inr high ↦
          let place : p ≡ base + (p - base) = omega arith in
          elim (cases_eq p q) [
            | inl same ↦
                ap (λ b. cond b (Some v) (map.get (bytes_from base xs) p)) (unsigned_tied p q ∙ eq-eqb p q same)
                ∙ sym (get-bytes_from base (set xs i v) i p (omega arith) ∙ slice_get-set_same xs i v h)
            | inr other ↦
                ap (λ b. cond b (Some v) (map.get (bytes_from base xs) p)) (other_key p q other)
                ∙ get-bytes_from base xs (p - base) p place
                ∙ sym (get-bytes_from base (set xs i v) (p - base) p place ∙ slice_get-set_other xs i (p - base) v (λ s. other (omega arith)))
          ]
    ] in
    same_map nat_cmp_total nat_cmp-IsAntisymmetric _ _ at

-- ---- what a write keeps

and_right : (x y : Bool) → y ≡ false → (x && y) ≡ false
and_right true y e = e
and_right false y e = refl

-- of a byte of RAM all
pub kept_high : (a v : ℕ) → ram_base ≤ a → kept_byte a v ≡ v
unfolding kept_byte
kept_high a v high =
    ap (λ b. cond b (cond (a % msip_size == 0) (v % 2) 0) v)
    (and_right (nat_le msip_base a) (nat_lt a (msip_base + msip_size * hart_places)) (le-ltb a (msip_base + msip_size * hart_places) (omega arith)))

-- ---- values

-- one more byte below those that were read
pub value_step : (base : ℕ) (xs : List ℕ) (a b m n i d v w : ℕ) → m ≡ suc n → b ≡ a + 1 → a ≡ base + i → i < length xs
    → value_at (bytes_from base xs) b n ≡ Some v → w ≡ get_or xs i d + 256 * v → value_at (bytes_from base xs) a m ≡ Some w
value_step base xs a b m n i d v w em eb ea h rest ew =
    ap (value_at (bytes_from base xs) a) em
    ∙ ap (λ o. with_byte o (value_at (bytes_from base xs) (a + 1) n)) (get-bytes_from base xs i a ea ∙ slice_get-get_or xs i d h)
    ∙ ap (λ c. with_byte (Some (get_or xs i d)) (value_at (bytes_from base xs) c n)) (sym eb)
    ∙ ap (with_byte (Some (get_or xs i d))) rest ∙ ap Some (sym ew)

pub value_at_low : (base : ℕ) (xs : List ℕ) (a n : ℕ) → a < base → 0 < n → value_at (bytes_from base xs) a n ≡ None
value_at_low base xs a zero h some = absurd (omega arith)
value_at_low base xs a (suc n) h some = ap (λ o. with_byte o (value_at (bytes_from base xs) (a + 1) n)) (get-bytes_from_below base xs a h)

none_rest : (o : Option ℕ) → with_byte o None ≡ None
none_rest None = refl
none_rest (Some b) = refl

pub value_at_high : (base : ℕ) (xs : List ℕ) (a n : ℕ) → base + length xs < a + n → 0 < n → value_at (bytes_from base xs) a n ≡ None
value_at_high base xs a zero h some = absurd (omega arith)
value_at_high base xs a (suc n) h some = elim (cases_lt a (base + length xs)) [
  | inl here ↦
      ap (with_byte (map.get (bytes_from base xs) a)) (value_at_high base xs (a + 1) n (omega arith) (omega arith)) ∙ none_rest (map.get (bytes_from base xs) a)
  | inr past ↦ ap (λ o. with_byte o (value_at (bytes_from base xs) (a + 1) n)) (get-bytes_from_above base xs a past)
]

some_rest : (b : ℕ) (o : Option ℕ) → is_some o ≡ true → is_some (with_byte (Some b) o) ≡ true
some_rest b None h = h
some_rest b (Some v) h = refl

pub value_at_inside : (base : ℕ) (xs : List ℕ) (a n : ℕ) → base ≤ a → a + n ≤ base + length xs → is_some (value_at (bytes_from base xs) a n) ≡ true
value_at_inside base xs a zero low high = refl
value_at_inside base xs a (suc n) low high =
    let here : map.get (bytes_from base xs) a ≡ Some (get_or xs (a - base) 0) = get-bytes_from base xs (a - base) a (omega arith)
    ∙ slice_get-get_or xs (a - base) 0 (omega arith) in
    ap (λ o. is_some (with_byte o (value_at (bytes_from base xs) (a + 1) n))) here
    ∙ some_rest (get_or xs (a - base) 0) (value_at (bytes_from base xs) (a + 1) n) (value_at_inside base xs (a + 1) n (omega arith) (omega arith))

pub small_with : (b : ℕ) (o : Option ℕ) (n v : ℕ) → b < 256 → with_byte (Some b) o ≡ Some v → ((u : ℕ) → o ≡ Some u → u < 256 ^ n) → v < 256 ^ suc n
small_with b None n v h is rest = absurd (none-some v is)
small_with b (Some u) n v h is rest =
    let e : b + 256 * u ≡ v = same_Some (b + 256 * u) v is in
    let k : u < 256 ^ n = rest u refl in
    rw pow-suc (omega arith)

-- a value of so many bytes, each of which is below 256
pub value_small : (base : ℕ) (xs : List ℕ) (a n v : ℕ) → ((i : ℕ) → get_or xs i 0 < 256) → base ≤ a → a + n ≤ base + length xs
    → value_at (bytes_from base xs) a n ≡ Some v → v < 256 ^ n
value_small base xs a zero v small low high is = omega (arith, same_Some 0 v is)
value_small base xs a (suc n) v small low high is =
    let here : map.get (bytes_from base xs) a ≡ Some (get_or xs (a - base) 0) = get-bytes_from base xs (a - base) a (omega arith)
    ∙ slice_get-get_or xs (a - base) 0 (omega arith) in
    let both : with_byte (Some (get_or xs (a - base) 0)) (value_at (bytes_from base xs) (a + 1) n) ≡ Some v =
    ap (λ o. with_byte o (value_at (bytes_from base xs) (a + 1) n)) (sym here) ∙ is in
    small_with (get_or xs (a - base) 0) (value_at (bytes_from base xs) (a + 1) n) n v (small (a - base)) both
    (λ u is_u. value_small base xs (a + 1) n u small (omega arith) (omega arith) is_u)
