-- The value of digits, as a loop from the left reads it.
use Rattle.std.proofs.Common.{◌≡◌, ℕ, ◌+◌, ◌*◌, ◌^◌, ◌<◌, ◌≤◌, Bool, true, false, ◌&&◌, cond, nat_lt, nat_le, bytes_eq, List, [], ◌∷◌, take, drop, length}
use Rattle.std.proofs.Common.{get_or, Option, Some, None, Ok, Err, SomeIff, refl, sym, ap, ◌∙◌, subst, arith}
use Rattle.std.specs.List.{list_all}
use Rattle.std.specs.Char.{digit_value, is_digit}
use Rattle.std.specs.Str.Parse.{digits_value, digits_value_after, AllDigits}
use Rattle.std.proofs.lemmas.List.{at_drop_more}
use Rattle.std.proofs.lemmas.Bool.{and_parts, ltb-true, lt-ltb}
use Rattle.std.proofs.lemmas.Bool.Decides.{nat_tests}
use Rattle.debug_model.specs.ScriptNumber.{are_digits, numeral_read, number_read, hexadecimal_prefix}
use Rattle.std.specs.Option.{ok_or}
use Rattle.debug_model.specs.declared.script_error.ScriptFault.TheVariants.{BadNumber, OutOfRange}

pub AllDigits-from_test : (base : ℕ) (ds : List ℕ) → list_all (λ d. is_digit d base) ds ≡ true → AllDigits base ds
AllDigits-from_test base [] e = tt
AllDigits-from_test base (d ∷ ds) e =
    let parts = and_parts (is_digit d base) (list_all (λ d. is_digit d base) ds) e in
    (ltb-true _ _ parts.0, AllDigits-from_test base ds parts.1)

pub digits_value_after-drop : (base n : ℕ) (ds : List ℕ) (i : ℕ) → i < length ds
    → digits_value_after base n (drop i ds) ≡ digits_value_after base (n * base + digit_value (get_or ds i 0)) (drop (i + 1) ds)
digits_value_after-drop base n ds i h = at_drop_more (digits_value_after base n) ds i 0 h

pub AllDigits-drop : (base : ℕ) (ds : List ℕ) (i : ℕ) → i < length ds → AllDigits base (drop i ds)
    → (digit_value (get_or ds i 0) < base) × AllDigits base (drop (i + 1) ds)
AllDigits-drop base ds i h a = subst (AllDigits base) (at_drop_more (λ x. x) ds i 0 h) a

-- the value grows with each digit
pub digits_value_after-ge : (base n : ℕ) (ds : List ℕ) → 1 ≤ base → n ≤ digits_value_after base n ds
digits_value_after-ge base n [] h = omega arith
digits_value_after-ge base n (d ∷ ds) h =
    grows base n (digit_value d) (digits_value_after base (n * base + digit_value d) ds) h (digits_value_after-ge base (n * base + digit_value d) ds h)
  where
    grows : (b n d whole : ℕ) → 1 ≤ b → n * b + d ≤ whole → n ≤ whole
    grows b n d whole h g = grind arith

-- what a loop has read with one digit more is not over the whole
pub value_grows : (base n : ℕ) (ds : List ℕ) (i : ℕ) → i < length ds → 1 ≤ base → n * base + digit_value (get_or ds i 0) ≤ digits_value_after base n (drop i ds)
value_grows base n ds i h b =
    omega (arith, digits_value_after-drop base n ds i h, digits_value_after-ge base (n * base + digit_value (get_or ds i 0)) (drop (i + 1) ds) b)

-- a word of no digits is no number, and the value of digits is the number where it is below 2^64
pub numeral_read-bad : (base most : ℕ) (ds : List ℕ) → are_digits base most ds ≡ false → numeral_read base most ds ≡ Err BadNumber
unfolding numeral_read
numeral_read-bad base most ds e = ap (λ b. cond b (cond (nat_lt (digits_value base ds) (2 ^ 64)) (Ok (digits_value base ds)) (Err OutOfRange)) (Err BadNumber))
    e

numeral_read-good : (base most : ℕ) (ds : List ℕ) → are_digits base most ds ≡ true
    → numeral_read base most ds ≡ cond (nat_lt (digits_value base ds) (2 ^ 64)) (Ok (digits_value base ds)) (Err OutOfRange)
unfolding numeral_read
numeral_read-good base most ds e = ap (λ b. cond b (cond (nat_lt (digits_value base ds) (2 ^ 64)) (Ok (digits_value base ds)) (Err OutOfRange))
    (Err BadNumber)) e

pub numeral_read-value : (base most : ℕ) (ds : List ℕ) (o : Option ℕ) → are_digits base most ds ≡ true
    → SomeIff o (digits_value base ds < 2 ^ 64) (digits_value base ds) → numeral_read base most ds ≡ ok_or o OutOfRange
numeral_read-value base most ds (Some n) e h = numeral_read-good base most ds e
    ∙ ap (λ b. cond b (Ok (digits_value base ds)) (Err OutOfRange)) (lt-ltb _ _ h.0) ∙ ap Ok (sym h.1)
numeral_read-value base most ds None e h = numeral_read-good base most ds e ∙ ap (λ b. cond b (Ok (digits_value base ds)) (Err OutOfRange)) (ltb_not _ _ h)
  where
    ltb_not : (m n : ℕ) → ¬ (m < n) → nat_lt m n ≡ false
    ltb_not m n h = grind (arith, nat_tests)

pub AllDigits-from_digits : (base most : ℕ) (ds : List ℕ) → are_digits base most ds ≡ true → AllDigits base ds
unfolding are_digits
AllDigits-from_digits base most ds e =
    AllDigits-from_test base ds (and_parts (nat_le 1 (length ds) && nat_le (length ds) most) (list_all (λ d. is_digit d base) ds) e).1

pub are_digits-empty : (base most : ℕ) (ds : List ℕ) → length ds ≡ 0 → are_digits base most ds ≡ false
unfolding are_digits
are_digits-empty base most ds h = ap (λ n. nat_le 1 n && nat_le n most && list_all (λ d. is_digit d base) ds) h

pub are_digits-long : (base most : ℕ) (ds : List ℕ) → most < length ds → are_digits base most ds ≡ false
unfolding are_digits
are_digits-long base most ds h = ap (λ b. nat_le 1 (length ds) && b && list_all (λ d. is_digit d base) ds) (leb_not (length ds) most h)
    ∙ no_more (nat_le 1 (length ds)) (list_all (λ d. is_digit d base) ds)
  where
    leb_not : (m n : ℕ) → n < m → nat_le m n ≡ false
    leb_not m n h = grind (arith, nat_tests)

    no_more : (a b : Bool) → (a && false && b) ≡ false
    no_more true b = refl
    no_more false b = refl

pub are_digits-each : (base most : ℕ) (ds : List ℕ) → 0 < length ds → length ds ≤ most → are_digits base most ds ≡ list_all (λ d. is_digit d base) ds
unfolding are_digits
are_digits-each base most ds some few = ap (λ b. b && nat_le (length ds) most && list_all (λ d. is_digit d base) ds) (lt-ltb 0 (length ds) some)
    ∙ ap (λ b. b && list_all (λ d. is_digit d base) ds) (le-leb (length ds) most few)
  where
    le-leb : (m n : ℕ) → m ≤ n → nat_le m n ≡ true
    le-leb m n h = grind (arith, nat_tests)

pub ruleset are_digits_steps = (are_digits-empty, are_digits-long, are_digits-each, nat_tests)

pub number_read-hexadecimal : (word : List ℕ) → bytes_eq (take 2 word) hexadecimal_prefix ≡ true → number_read word ≡ numeral_read 16 16 (drop 2 word)
unfolding number_read
number_read-hexadecimal word e = ap (λ b. cond b (numeral_read 16 16 (drop 2 word)) (numeral_read 10 20 word)) e

pub number_read-decimal : (word : List ℕ) → bytes_eq (take 2 word) hexadecimal_prefix ≡ false → number_read word ≡ numeral_read 10 20 word
unfolding number_read
number_read-decimal word e = ap (λ b. cond b (numeral_read 16 16 (drop 2 word)) (numeral_read 10 20 word)) e

pub ruleset number_steps = (number_read-hexadecimal, number_read-decimal)
