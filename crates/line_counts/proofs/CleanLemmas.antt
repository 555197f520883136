-- What printed lines are written with: no byte of it is a line feed, and no register's name begins as an error does.
use Rattle.std.proofs.Common.{◌≡◌, ℕ, zero, suc, ◌%◌, ◌/◌, Bool, true, false, not, ◌&&◌, ◌==◌, nat_eq, cond, List, [], ◌∷◌, ◌++◌, map, codes, decimal}
use Rattle.std.proofs.Common.{unwrap_or, option_map, Some, refl, arith}
use Rattle.std.specs.List.{list_all, find, join_with_byte, flat_map}
use Rattle.std.specs.Char.{digit_char}
use Rattle.std.specs.Fmt.{digits, digits_onto, digit_glyph}
use Rattle.std.proofs.lemmas.Bool.{and_parts, not-true}
use Rattle.std.proofs.lemmas.List.Folds.{list_all-append}
use Rattle.debug_model.specs.Registers.{NamedRegister, named_registers, name_of_register}
use Rattle.debug_model.specs.ScriptText.{line_feed}
use Rattle.debug_model.specs.Spelling.{hexadecimal}
use Rattle.abstract_debugger.specs.Lines.{comma, spelled_places}
use Rattle.line_counts.specs.Counts.{tells_error}

abbrev pub is_in_line : ℕ → Bool
is_in_line byte = not (byte == line_feed)

abbrev pub is_clean : List ℕ → Bool
is_clean text = list_all is_in_line text

clean_both : (xs ys : List ℕ) → is_clean xs ≡ true → is_clean ys ≡ true → is_clean (xs ++ ys) ≡ true
clean_both xs ys first second = rw list_all-append (rw first second)

-- ---- numbers

glyph_clean : (upper : Bool) (n : ℕ) → is_in_line (digit_glyph upper n) ≡ true
glyph_clean upper n = grind arith

pub clean_in_case : (b : Bool) (xs ys : List ℕ) → is_clean xs ≡ true → is_clean ys ≡ true → is_clean (cond b xs ys) ≡ true
clean_in_case true xs ys first second = first
clean_in_case false xs ys first second = second

digits_clean : (k base : ℕ) (upper : Bool) (n : ℕ) (behind : List ℕ) → is_clean behind ≡ true → is_clean (digits_onto k base upper n behind) ≡ true
digits_clean zero base upper n behind is = is
digits_clean (suc k) base upper n behind is =
    let digit = digit_glyph upper (n % base) in
    let here : is_clean (digit ∷ behind) ≡ true = rw glyph_clean is in
    clean_in_case (n / base == 0) (digit ∷ behind) (digits_onto k base upper (n / base) (digit ∷ behind)) here
    (digits_clean k base upper (n / base) (digit ∷ behind) here)

pub decimal_clean : (n : ℕ) → is_clean (decimal n) ≡ true
unfolding digits
decimal_clean n = digits_clean 64 10 false n [] refl

char_clean : (digit : ℕ) → is_in_line (digit_char digit) ≡ true
char_clean digit = grind arith

pub hexadecimal_clean : (count n : ℕ) → is_clean (hexadecimal count n) ≡ true
unfolding hexadecimal
hexadecimal_clean zero n = refl
hexadecimal_clean (suc count) n =
    clean_both (hexadecimal count (n / 16)) (digit_char (n % 16) ∷ []) (hexadecimal_clean count (n / 16)) (rw char_clean refl)

pub bytes_clean : (bytes : List ℕ) → is_clean (flat_map (hexadecimal 2) bytes) ≡ true
bytes_clean [] = refl
bytes_clean (byte ∷ bytes) = clean_both (hexadecimal 2 byte) (flat_map (hexadecimal 2) bytes) (hexadecimal_clean 2 byte) (bytes_clean bytes)

joined_clean : (numbers : List ℕ) → is_clean (join_with_byte comma (map decimal numbers)) ≡ true
joined_clean [] = refl
joined_clean (n ∷ []) = decimal_clean n
joined_clean (n ∷ m ∷ numbers) = clean_both (decimal n) (comma ∷ join_with_byte comma (map decimal (m ∷ numbers))) (decimal_clean n)
    (joined_clean (m ∷ numbers))

pub places_clean : (places : List ℕ) → is_clean (spelled_places places) ≡ true
places_clean [] = refl
places_clean (place ∷ places) = joined_clean (place ∷ places)

-- ---- names

abbrev begins_with_e : List ℕ → Bool
begins_with_e [] = false
begins_with_e (first ∷ rest) = nat_eq 101 first

abbrev is_name : List ℕ → Bool
is_name name = is_clean name && not (begins_with_e name)

names_pass : list_all (λ r. is_name r.0) named_registers ≡ true
unfolding named_registers digits
names_pass = refl

found_passes : (test : List ℕ → Bool) (wanted : NamedRegister → Bool) (rows : List NamedRegister) → list_all (λ r. test r.0) rows ≡ true → test [] ≡ true
    → test (unwrap_or (option_map (λ r. r.0) (find wanted rows)) []) ≡ true
found_passes test wanted [] all none = none
found_passes test wanted (r ∷ rows) all none =
    let parts = and_parts (test r.0) (list_all (λ q. test q.0) rows) all in
    elim (wanted r) as (λ b. test (unwrap_or (option_map (λ q. q.0) (cond b (Some r) (find wanted rows))) []) ≡ true)
    [ true ↦ parts.0 | false ↦ found_passes test wanted rows parts.1 none ]

name_passes : (number : ℕ) → is_name (name_of_register number) ≡ true
unfolding name_of_register
name_passes number = found_passes is_name (λ r. r.1 == number) named_registers names_pass refl

pub name_clean : (number : ℕ) → is_clean (name_of_register number) ≡ true
name_clean number = (and_parts (is_clean (name_of_register number)) (not (begins_with_e (name_of_register number))) (name_passes number)).0

quiet_words : (name rest : List ℕ) → begins_with_e name ≡ false → tells_error (name ++ codes " " ++ rest) ≡ false
quiet_words [] rest other = refl
quiet_words (first ∷ name) rest other = rw other refl

pub name_is_quiet : (number : ℕ) (rest : List ℕ) → tells_error (name_of_register number ++ codes " " ++ rest) ≡ false
name_is_quiet number rest =
    let name = name_of_register number in
    quiet_words name rest (not-true (begins_with_e name) (and_parts (is_clean name) (not (begins_with_e name)) (name_passes number)).1)
