-- Numbers, names and commands are read as what they spell.
use Rattle.std.proofs.Common.{◌≡◌, ℕ, zero, suc, ◌+◌, ◌*◌, ◌/◌, ◌%◌, ◌^◌, ◌<◌, ◌≤◌, Bool, true, false, ◌&&◌, ◌==◌, List, [], ◌∷◌, length, take, refl, sym}
use Rattle.std.proofs.Common.{ap, ◌∙◌, arith, decimal, bytes_eq, Some, Ok, lit<}
use Rattle.std.specs.List.{list_all}
use Rattle.std.specs.Char.{digit_char, digit_value, is_digit}
use Rattle.std.specs.Str.Parse.{AllDigits, digits_value}
use Rattle.std.proofs.lemmas.Grind.{pow_more}
use Rattle.std.proofs.lemmas.Bool.{lt-ltb}
use Rattle.std.proofs.lemmas.Bool.Decides.{nat_tests}
use Rattle.std.proofs.lemmas.Str.{digit_value-digit_char}
use Rattle.std.proofs.lemmas.Str.Parse.{digit_from_value}
use Rattle.std.proofs.lemmas.Fmt.{decimal_is_IsNumeral, length-decimal-le}
use Rattle.std.proofs.lemmas.Int.Digits.{digits_push, digits_value_push}
use Rattle.std.proofs.lemmas.List.{length-append}
use Rattle.debug_model.specs.ScriptNumber.{numeral_read, number_read, hexadecimal_prefix}
use Rattle.debug_model.specs.Spelling.{hexadecimal, spelled_address}
use Rattle.script_lang.proofs.NumberLemmas.{numeral_read-value, are_digits-each, number_read-decimal, number_read-hexadecimal}

digits_test : (base : ℕ) (ds : List ℕ) → AllDigits base ds → list_all (λ d. is_digit d base) ds ≡ true
digits_test base [] h = refl
digits_test base (d ∷ ds) h = ap (λ b. b && list_all (λ d. is_digit d base) ds) (lt-ltb (digit_value d) base h.0) ∙ digits_test base ds h.1

numeral_read-digits : (base most n : ℕ) (ds : List ℕ) → 0 < length ds → length ds ≤ most → AllDigits base ds → digits_value base ds ≡ n → n < 2 ^ 64
    → numeral_read base most ds ≡ Ok n
numeral_read-digits base most n ds some few digits value small =
    numeral_read-value base most ds (Some n) (are_digits-each base most ds some few ∙ digits_test base ds digits) (value_fits _ value small, sym value)
  where
    value_fits : (v : ℕ) → v ≡ n → n < 2 ^ 64 → v < 2 ^ 64
    value_fits v e h = omega arith

and_false : (a : Bool) → (a && false) ≡ false
and_false true = refl
and_false false = refl

not_letter : (d : ℕ) → digit_value d < 10 → (d == 120) ≡ false
not_letter d h = let range = digit_from_value d h in grind (arith, nat_tests, range)

not_prefixed : (ds : List ℕ) → AllDigits 10 ds → bytes_eq (take 2 ds) hexadecimal_prefix ≡ false
not_prefixed [] h = refl
not_prefixed (a ∷ []) h = and_false (a == 48)
not_prefixed (a ∷ b ∷ ds) h = ap (λ t. (a == 48) && (t && true)) (not_letter b h.1.0) ∙ and_false (a == 48)

pub number_read-decimal_of : (n : ℕ) → n < 2 ^ 64 → number_read (decimal n) ≡ Ok n
number_read-decimal_of n small =
    let numeral = decimal_is_IsNumeral n small in
    number_read-decimal (decimal n) (not_prefixed (decimal n) numeral.0.1)
    ∙ numeral_read-digits 10 20 n (decimal n) numeral.0.0 (length-decimal-le 20 n (lit< tt) (omega arith) small) numeral.0.1 numeral.1 small

pub length-hexadecimal : (k n : ℕ) → length (hexadecimal k n) ≡ k
unfolding hexadecimal
length-hexadecimal zero n = refl
length-hexadecimal (suc k) n = length-append (hexadecimal k (n / 16)) (digit_char (n % 16) ∷ []) ∙ ap (λ m. m + 1) (length-hexadecimal k (n / 16)) ∙ plus_one k
  where
    plus_one : (k : ℕ) → k + 1 ≡ suc k
    plus_one k = omega arith

pub AllDigits-hexadecimal : (k n : ℕ) → AllDigits 16 (hexadecimal k n)
unfolding hexadecimal
AllDigits-hexadecimal zero n = tt
AllDigits-hexadecimal (suc k) n = digits_push 16 (hexadecimal k (n / 16)) (digit_char (n % 16)) (AllDigits-hexadecimal k (n / 16))
    (below (n % 16) (omega arith))
  where
    below : (d : ℕ) → d < 16 → digit_value (digit_char d) < 16
    below d h = omega (arith, digit_value-digit_char d (omega arith))

digits_value-hexadecimal : (k n : ℕ) → n < 16 ^ k → digits_value 16 (hexadecimal k n) ≡ n
unfolding hexadecimal
digits_value-hexadecimal zero n h = omega arith
digits_value-hexadecimal (suc k) n h =
    digits_value_push 16 (hexadecimal k (n / 16)) (digit_char (n % 16))
    ∙ ap (λ v. v * 16 + digit_value (digit_char (n % 16))) (digits_value-hexadecimal k (n / 16) (smaller (16 ^ k) (16 ^ suc k) n (pow_suc k) h))
    ∙ ap (λ d. n / 16 * 16 + d) (digit_value-digit_char (n % 16) (omega arith))
    ∙ recompose n
  where
    pow_suc : (k : ℕ) → 16 ^ suc k ≡ 16 ^ k * 16
    pow_suc k = ap (λ j. 16 ^ j) (one_more k) ∙ pow_more 16 k
      where
        one_more : (k : ℕ) → suc k ≡ k + 1
        one_more k = omega arith

    smaller : (p w n : ℕ) → w ≡ p * 16 → n < w → n / 16 < p
    smaller p w n e h = omega arith

    recompose : (n : ℕ) → n / 16 * 16 + n % 16 ≡ n
    recompose n = omega arith

pub number_read-address : (n : ℕ) → n < 2 ^ 64 → number_read (spelled_address n) ≡ Ok n
number_read-address n small =
    number_read-hexadecimal (spelled_address n) refl
    ∙ numeral_read-digits 16 16 n (hexadecimal 16 n) (omega (arith, length-hexadecimal 16 n)) (omega (arith, length-hexadecimal 16 n))
    (AllDigits-hexadecimal 16 n) (digits_value-hexadecimal 16 n small) small
