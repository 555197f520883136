-- The digits that the crate hex writes for bytes are those of each byte, and the bytes of a number, the highest first, have the number's digits.
use Rattle.std.proofs.Common.{
  Result,
  Ok,
  subst,
  ◌≡◌,
  ℕ,
  zero,
  suc,
  ◌+◌,
  ◌*◌,
  ◌-◌,
  ◌/◌,
  ◌%◌,
  ◌^◌,
  ◌<◌,
  ◌==◌,
  ◌&&◌,
  Bool,
  true,
  List,
  [],
  ◌∷◌,
  ◌++◌,
  drop,
  take,
  flat_map,
  slice_index,
  refl,
  sym,
  ap,
  ◌∙◌,
  inl,
  inr,
  arith,
}
use Rattle.std.proofs.lemmas.Bool.{and_parts, cases_lt, eqb-true}
use Rattle.std.proofs.lemmas.List.{append_assoc, append-nil}
use Rattle.std.proofs.Math.Nat.{div-div-eq-div-mul, div-one, pow-suc}
use Rattle.std.specs.Result.{OnOk}
use Rattle.std.specs.Char.{digit_char}
use Rattle.std.specs.Int.{byte_at, bytes_high_first}
use Rattle.rv_model.specs.declared.size.Size.{Size}
use Rattle.rv_model.specs.declared.size.Size.TheVariants.{B1, B2, B4, B8}
use Rattle.rv_model.specs.Size.{count_of}
use Rattle.hex.specs.Hex.{IsBytes, encode_lower, encode_with, lower_digits}
use Rattle.debug_model.specs.Spelling.{hexadecimal}

pub when_ok : {A E P : Type 0} (r : Result A E) (x : A) → r ≡ Ok x → OnOk r P → P
when_ok {P = P} r x is p = subst (λ q. OnOk q P) is p

-- ---- a byte's digits are those of the table

abbrev same_below : ℕ → Bool
same_below zero = true
same_below (suc n) = (slice_index lower_digits n == digit_char n) && same_below n

same_at : (n d : ℕ) → same_below n ≡ true → d < n → slice_index lower_digits d ≡ digit_char d
same_at zero d h lt = absurd (omega arith)
same_at (suc n) d h lt =
    let parts = and_parts (slice_index lower_digits n == digit_char n) (same_below n) h in
    elim (cases_lt d n) [
      | inl below ↦ same_at n d parts.1 below
      | inr top ↦
          let e : d ≡ n = omega arith in
          rw e (eqb-true (slice_index lower_digits n) (digit_char n) parts.0)
    ]

pub encoded : (bytes : List ℕ) → IsBytes bytes → encode_lower bytes ≡ flat_map (hexadecimal 2) bytes
unfolding encode_with hexadecimal
encoded [] small = refl
encoded (b ∷ rest) small =
    let here : b < 256 = small 0 in
    let high = same_at 16 (b / 16) refl (omega arith) in
    let low = same_at 16 (b % 16) refl (omega arith) in
    let one : b / 16 % 16 ≡ b / 16 = omega arith in
    let more = encoded rest (λ i. small (suc i)) in
    rw (high, low, one, more) refl

-- ---- a number's bytes

-- the digits of what stands above the lowest b digits, and these
parted : (b a n : ℕ) → hexadecimal (b + a) n ≡ hexadecimal a (n / 16 ^ b) ++ hexadecimal b n
unfolding hexadecimal
parted zero a n =
    let none : 0 + a ≡ a = omega arith in
    ap (λ m. hexadecimal m n) none ∙ sym (append-nil (hexadecimal a n)) ∙ ap (λ m. hexadecimal a m ++ []) (sym (div-one n))
parted (suc b) a n =
    let more : suc b + a ≡ suc (b + a) = omega arith in
    let power : 16 * 16 ^ b ≡ 16 ^ suc b = omega (arith, pow-suc 16 b) in
    ap (λ m. hexadecimal m n) more
    ∙ ap (λ ds. ds ++ digit_char (n % 16) ∷ []) (parted b a (n / 16))
    ∙ append_assoc (hexadecimal a (n / 16 / 16 ^ b)) (hexadecimal b (n / 16)) (digit_char (n % 16) ∷ [])
    ∙ ap (λ m. hexadecimal a m ++ (hexadecimal b (n / 16) ++ digit_char (n % 16) ∷ [])) (div-div-eq-div-mul n 16 (16 ^ b) ∙ ap (λ p. n / p) power)

power_of_byte : (k : ℕ) → 256 ^ k ≡ 16 ^ (2 * k)
power_of_byte zero = refl
power_of_byte (suc k) =
    let twice : 2 * suc k ≡ suc (suc (2 * k)) = omega arith in
    rw twice (omega (arith, power_of_byte k, pow-suc 256 k, pow-suc 16 (2 * k), pow-suc 16 (suc (2 * k))))

byte_is : (k n : ℕ) → byte_at k n ≡ n / 256 ^ k % 256
byte_is zero n = ap (λ m. m % 256) (sym (div-one n))
byte_is (suc k) n = refl

two_digits : (n : ℕ) → hexadecimal 2 (n % 256) ≡ hexadecimal 2 n
unfolding hexadecimal
two_digits n =
    let high : n % 256 / 16 % 16 ≡ n / 16 % 16 = omega arith in
    let low : n % 256 % 16 ≡ n % 16 = omega arith in
    rw (high, low) refl

pub of_number : (k n : ℕ) → flat_map (hexadecimal 2) (bytes_high_first k n) ≡ hexadecimal (2 * k) n
unfolding hexadecimal
of_number zero n = refl
of_number (suc k) n =
    let twice : 2 * suc k ≡ 2 * k + 2 = omega arith in
    ap (λ ds. hexadecimal 2 (byte_at k n) ++ ds) (of_number k n)
    ∙ ap (λ m. hexadecimal 2 m ++ hexadecimal (2 * k) n) (byte_is k n ∙ ap (λ p. n / p % 256) (power_of_byte k))
    ∙ ap (λ ds. ds ++ hexadecimal (2 * k) n) (two_digits (n / 16 ^ (2 * k)))
    ∙ sym (parted (2 * k) 2 n)
    ∙ ap (λ m. hexadecimal m n) (sym twice)

-- ---- an element's bytes are the lowest of its value's

by_size : (size : Size) (n : ℕ)
    → flat_map (hexadecimal 2) (take (8 - (8 - count_of size)) (drop (8 - count_of size) (bytes_high_first 8 n))) ≡ hexadecimal (2 * count_of size) n
by_size B1 n = of_number 1 n
by_size B2 n = of_number 2 n
by_size B4 n = of_number 4 n
by_size B8 n = of_number 8 n

pub of_element : (size : Size) (n count : ℕ) (bytes : List ℕ) → count ≡ count_of size → bytes ≡ bytes_high_first 8 n
    → flat_map (hexadecimal 2) (take (8 - (8 - count)) (drop (8 - count) bytes)) ≡ hexadecimal (2 * count_of size) n
of_element size n count bytes many are = rw (many, are) (by_size size n)
