-- Bits and the numbers that they spell: what a cut, a push and a pop do to them, and the way back.
use Rattle.std.proofs.Common.{◌≡◌, ℕ, zero, suc, ◌+◌, ◌-◌, ◌*◌, ◌/◌, ◌%◌, ◌^◌, ◌<◌, ◌==◌, List, [], ◌∷◌, ◌++◌, length, Bool, true, false, Some, refl, sym}
use Rattle.std.proofs.Common.{ap, add-one, ◌∙◌, arith}
use Rattle.std.specs.List.{slice_get}
use Rattle.std.proofs.Math.Nat.{pow-suc}
use Rattle.std.proofs.Math.Pow.{mod-mod-pow}
use Rattle.std.proofs.lemmas.Nat.{pow_pos, one_shl, field_of, shr-shr, mod_below}
use Rattle.jt_base.specs.BitList.{bits_of, number_of, digit, lowest}
pub use Rattle.jt_base.specs.BitLaws.{length-bits_of, digit-lowest, number_of-bits_of}

-- a number with a bit below it
pub digit_mod : (b : Bool) (m : ℕ) → ((digit b + 2 * m) % 2 == 1) ≡ b
digit_mod b m = rw (remainder b) (bit b) where
  remainder : (b : Bool) → (digit b + 2 * m) % 2 ≡ digit b
  remainder true = omega arith
  remainder false = omega arith

  bit : (b : Bool) → (digit b == 1) ≡ b
  bit true = refl
  bit false = refl

pub digit_div : (b : Bool) (m : ℕ) → (digit b + 2 * m) / 2 ≡ m
digit_div true m = omega arith
digit_div false m = omega arith

pub bits_of-number_of : (bs : List Bool) → bits_of (length bs) (number_of bs) ≡ bs
unfolding bits_of number_of
bits_of-number_of [] = refl
bits_of-number_of (b ∷ bs) = rw (digit_mod b (number_of bs), digit_div b (number_of bs), bits_of-number_of bs) refl

pub number_of_below : (bs : List Bool) → number_of bs < 2 ^ length bs
unfolding number_of
number_of_below [] = omega arith
number_of_below (true ∷ bs) = omega (arith, number_of_below bs, pow-suc 2 (length bs))
number_of_below (false ∷ bs) = omega (arith, number_of_below bs, pow-suc 2 (length bs))

-- two lists of bits with equal lowest bits and equal rests
same_bits : (v w m : ℕ) (rest : List Bool) (n : ℕ) → v % 2 ≡ w % 2 → v / 2 ≡ m → bits_of n m ≡ rest → bits_of (suc n) v ≡ (w % 2 == 1) ∷ rest
unfolding bits_of
same_bits v w m rest n low high is = λ i. (low i == 1) ∷ (ap (bits_of n) high ∙ is) i

pub bits_of-push : (n v : ℕ) (b : Bool) → v < 2 ^ n → bits_of (suc n) (v + digit b * 2 ^ n) ≡ bits_of n v ++ b ∷ []
unfolding bits_of
bits_of-push zero v true small = λ i. (let e : (v + 1 * 2 ^ 0) % 2 ≡ 1 = omega arith in e i == 1) ∷ []
bits_of-push zero v false small = λ i. (let e : (v + 0 * 2 ^ 0) % 2 ≡ 0 = omega arith in e i == 1) ∷ []
bits_of-push (suc n) v true small = same_bits (v + 1 * 2 ^ suc n) v (v / 2 + 1 * 2 ^ n) _ (suc n) (omega (arith, pow-suc 2 n)) (omega (arith, pow-suc 2 n))
    (bits_of-push n (v / 2) true (omega (arith, pow-suc 2 n)))
bits_of-push (suc n) v false small = same_bits (v + 0 * 2 ^ suc n) v (v / 2 + 0 * 2 ^ n) _ (suc n) (omega (arith, pow-suc 2 n)) (omega (arith, pow-suc 2 n))
    (bits_of-push n (v / 2) false (omega (arith, pow-suc 2 n)))

pub bits_of-pop : (n v : ℕ) → 0 < n → bits_of n v ≡ (v % 2 == 1) ∷ bits_of (n - 1) (v / 2)
unfolding bits_of
bits_of-pop zero v some = absurd (let none : ⊥ = omega arith in none)
bits_of-pop (suc n) v some = λ i. (v % 2 == 1) ∷ bits_of (let e : n ≡ suc n - 1 = omega arith in e i) (v / 2)

pub bits_of-mod : (n v : ℕ) → bits_of n (v % 2 ^ n) ≡ bits_of n v
unfolding bits_of
bits_of-mod zero v = refl
bits_of-mod (suc n) v = same_bits (v % 2 ^ suc n) v (v / 2 % 2 ^ n) _ n (low n v) (high n v) (bits_of-mod n (v / 2)) where
  low : (n v : ℕ) → v % 2 ^ suc n % 2 ≡ v % 2
  low n v = ap (λ k. v % 2 ^ k % 2) (let e : suc n ≡ n + 1 = omega arith in e) ∙ mod-mod-pow v n 1

  high : (n v : ℕ) → v % 2 ^ suc n / 2 ≡ v / 2 % 2 ^ n
  high n v = ap (λ k. v % 2 ^ k / 2) (let e : suc n ≡ n + 1 = omega arith in e) ∙ field_of v n 1

pub slice_get-bits_of : (n v at : ℕ) → at < n → slice_get (bits_of n v) at ≡ Some (v / 2 ^ at % 2 == 1)
unfolding bits_of
slice_get-bits_of zero v at small = absurd (let none : ⊥ = omega arith in none)
slice_get-bits_of (suc n) v zero small = λ i. Some (let e : v % 2 ≡ v / 2 ^ 0 % 2 = omega arith in e i == 1)
slice_get-bits_of (suc n) v (suc at) small =
    slice_get-bits_of n (v / 2) at (omega arith)
    ∙ ap (λ x. Some (x % 2 == 1)) (shr-shr v 1 at ∙ ap (λ k. v / 2 ^ k) (let e : 1 + at ≡ suc at = omega arith in e))

-- the number that the lowest n bits of a number spell
pub number_of-bits_of_mod : (n v : ℕ) → number_of (bits_of n v) ≡ v % 2 ^ n
number_of-bits_of_mod n v = ap number_of (sym (bits_of-mod n v)) ∙ number_of-bits_of n (v % 2 ^ n) (mod_below v (2 ^ n) (pow_pos n))

-- what the fields of `Bits` say of the list that they spell
pub spelled : (n v : ℕ) (bs : List Bool) → bits_of n v ≡ bs → v < 2 ^ n → v ≡ number_of bs
spelled n v bs is small = sym (number_of-bits_of n v small) ∙ ap number_of is

pub spelled_length : (n v : ℕ) (bs : List Bool) → bits_of n v ≡ bs → n ≡ length bs
spelled_length n v bs is = sym (length-bits_of n v) ∙ ap length is

pub spelled_bit : (n v : ℕ) (bs : List Bool) (at : ℕ) → bits_of n v ≡ bs → at < length bs → slice_get bs at ≡ Some (v / 2 ^ at % 2 == 1)
spelled_bit n v bs at is small = rw (← is) (slice_get-bits_of n v at (omega (arith, small, spelled_length n v bs is)))

pub spelled_lowest : (n v : ℕ) (bs : List Bool) → bits_of n v ≡ bs → v < 2 ^ n → (v % 2 == 1) ≡ lowest bs
unfolding bits_of
spelled_lowest zero v bs is small = ap (λ r. r == 1) (let e : v % 2 ≡ 0 = omega arith in e) ∙ ap lowest is
spelled_lowest (suc n) v bs is small = ap lowest is

-- lists of one length that spell one number are one list
pub same_number : (bs cs : List Bool) → number_of bs ≡ number_of cs → length bs ≡ length cs → bs ≡ cs
same_number bs cs number count = sym (bits_of-number_of bs) ∙ (λ i. bits_of (count i) (number i)) ∙ bits_of-number_of cs

-- a cut, at a number of 64 bits
pub cut : (n v : ℕ) → n < 64 → bits_of n (v % (1 * 2 ^ n % 18446744073709551616)) ≡ bits_of n v
cut n v small = ap (λ m. bits_of n (v % m)) (one_shl n 64 small) ∙ bits_of-mod n v

-- a push, at fields of 64 bits
pub pushed : (n v : ℕ) (bs : List Bool) → bits_of n v ≡ bs → v < 2 ^ n → length bs < 64
    → bits_of (n + 1) (v + 1 * 2 ^ n % 18446744073709551616) ≡ bs ++ true ∷ []
pushed n v bs is small room =
    (λ i. bits_of (add-one n i) (v + (let e : 1 * 2 ^ n % 2 ^ 64 ≡ 1 * 2 ^ n = omega (arith, one_shl n 64 (omega (arith, room, spelled_length n v bs is))) in
    e) i)) ∙ bits_of-push n v true small ∙ ap (λ xs. xs ++ true ∷ []) is

pub pushed_false : (n v : ℕ) (bs : List Bool) → bits_of n v ≡ bs → v < 2 ^ n → bits_of (n + 1) v ≡ bs ++ false ∷ []
pushed_false n v bs is small =
    (λ i. bits_of (add-one n i) ((let e : v ≡ v + 0 * 2 ^ n = omega arith in e) i)) ∙ bits_of-push n v false small ∙ ap (λ xs. xs ++ false ∷ []) is

pub ruleset bit_lists = (length-bits_of, bits_of-mod, spelled, spelled_bit, spelled_lowest)
