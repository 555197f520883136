-- Words without blanks, number signs and line feeds part again where a line joins them, and lines where a text joins them.
use Rattle.std.proofs.Common.{◌≡◌, ℕ, suc, ◌+◌, ◌*◌, ◌≤◌, Bool, true, false, not, ◌&&◌, ◌==◌, nat_le, cond, List, [], ◌∷◌, ◌++◌, length, take, refl, ap}
use Rattle.std.proofs.Common.{◌∙◌, arith, append_assoc}
use Rattle.std.specs.List.{All, filter, list_all, slice_split, position_or_len, join_with_byte}
use Rattle.std.proofs.lemmas.Bool.{and_parts, leb-true}
use Rattle.std.proofs.lemmas.Bool.Decides.{nat_tests}
use Rattle.std.proofs.lemmas.List.{length-append}
use Rattle.std.proofs.lemmas.List.Elements.{All-nil, All-cons, All-head, All-tail, All-append, All-weaker}
use Rattle.std.proofs.lemmas.List.Splits.{slice_split_none, slice_split_at}
use Rattle.debug_model.specs.ScriptText.{is_blank, is_allowed, is_plain, is_not_empty, words_of, content_of, lines_of, number_sign, line_feed, space}

-- a byte of a word
pub record IsWordByte (b : ℕ) : Type 0 where
  pub no_blank : is_blank b ≡ false
  pub no_comment : (b == number_sign) ≡ false
  pub no_line_feed : (b == line_feed) ≡ false
  pub allowed : is_allowed b ≡ true

-- a byte of a line without a comment
pub record IsLineByte (b : ℕ) : Type 0 where
  pub no_comment : (b == number_sign) ≡ false
  pub no_line_feed : (b == line_feed) ≡ false
  pub allowed : is_allowed b ≡ true

pub IsWordByte-from_range : (b : ℕ) → 48 ≤ b → b ≤ 126 → IsWordByte b
IsWordByte-from_range b low high = record {
  no_blank = grind (arith, nat_tests);
  no_comment = grind (arith, nat_tests);
  no_line_feed = grind (arith, nat_tests);
  allowed = grind (arith, nat_tests);
}

-- the greatest number has the longest word
abbrev pub longest_word : ℕ
longest_word = 20

pub record IsWord (word : List ℕ) : Type 0 where
  pub some : is_not_empty word ≡ true
  pub few : length word ≤ longest_word
  pub bytes : All IsWordByte word

-- a word of letters and digits, by a test
abbrev pub is_name_byte : ℕ → Bool
is_name_byte b = nat_le 48 b && nat_le b 126

abbrev pub is_name : List ℕ → Bool
is_name word = is_not_empty word && nat_le (length word) longest_word && list_all is_name_byte word

bytes_of_name : (word : List ℕ) → list_all is_name_byte word ≡ true → All IsWordByte word
bytes_of_name [] e = All-nil IsWordByte
bytes_of_name (b ∷ word) e =
    let parts = and_parts (is_name_byte b) (list_all is_name_byte word) e in
    let ends = and_parts (nat_le 48 b) (nat_le b 126) parts.0 in
    All-cons IsWordByte b word (IsWordByte-from_range b (leb-true 48 b ends.0) (leb-true b 126 ends.1)) (bytes_of_name word parts.1)

pub IsWord-from_name : (word : List ℕ) → is_name word ≡ true → IsWord word
IsWord-from_name word e =
    let ends = and_parts (is_not_empty word && nat_le (length word) longest_word) (list_all is_name_byte word) e in
    let starts = and_parts (is_not_empty word) (nat_le (length word) longest_word) ends.0 in
    record { some = starts.0; few = leb-true (length word) longest_word starts.1; bytes = bytes_of_name word ends.1 }

-- a line of words

line_byte : (b : ℕ) → IsWordByte b → IsLineByte b
line_byte b h = record { no_comment = h.no_comment; no_line_feed = h.no_line_feed; allowed = h.allowed }

space_is_line_byte : IsLineByte space
space_is_line_byte = record { no_comment = refl; no_line_feed = refl; allowed = refl }

pub line_of_words : (words : List (List ℕ)) → All IsWord words → All IsLineByte (join_with_byte space words)
line_of_words [] h = All-nil IsLineByte
line_of_words (w ∷ []) h = All-weaker IsWordByte IsLineByte line_byte w (All-head IsWord w [] h).bytes
line_of_words (w ∷ v ∷ words) h =
    All-append IsLineByte w (space ∷ join_with_byte space (v ∷ words))
    (All-weaker IsWordByte IsLineByte line_byte w (All-head IsWord w (v ∷ words) h).bytes)
    (All-cons IsLineByte space (join_with_byte space (v ∷ words)) space_is_line_byte (line_of_words (v ∷ words) (All-tail IsWord w (v ∷ words) h)))

pub length-line_of_words : (words : List (List ℕ)) → All IsWord words → length (join_with_byte space words) ≤ (longest_word + 1) * length words
length-line_of_words [] h = omega arith
length-line_of_words (w ∷ []) h = let short = (All-head IsWord w [] h).few in omega arith
length-line_of_words (w ∷ v ∷ words) h =
    let short = (All-head IsWord w (v ∷ words) h).few in
    let rest = length-line_of_words (v ∷ words) (All-tail IsWord w (v ∷ words) h) in
    let joined = length-append w (space ∷ join_with_byte space (v ∷ words)) in
    omega (arith, joined)

before_all : (bytes : List ℕ) → All IsLineByte bytes → take (position_or_len (λ b. b == number_sign) bytes) bytes ≡ bytes
before_all [] h = refl
before_all (b ∷ bytes) h =
    ap (λ t. take (cond (not t) (1 + position_or_len (λ b. b == number_sign) bytes) 0) (b ∷ bytes)) (All-head IsLineByte b bytes h).no_comment
    ∙ ap (λ n. take n (b ∷ bytes)) (one_more (position_or_len (λ b. b == number_sign) bytes))
    ∙ ap (λ t. b ∷ t) (before_all bytes (All-tail IsLineByte b bytes h))
  where
    one_more : (n : ℕ) → 1 + n ≡ suc n
    one_more n = omega arith

pub content_of-plain : (bytes : List ℕ) → All IsLineByte bytes → content_of bytes ≡ bytes
unfolding content_of
content_of-plain bytes h = before_all bytes h

pub is_plain-line : (bytes : List ℕ) → All IsLineByte bytes → is_plain bytes ≡ true
is_plain-line [] h = refl
is_plain-line (b ∷ bytes) h = ap (λ t. t && list_all is_allowed bytes) (All-head IsLineByte b bytes h).allowed
    ∙ is_plain-line bytes (All-tail IsLineByte b bytes h)

not_blank : (b : ℕ) → IsWordByte b → is_blank b ≡ false
not_blank b h = h.no_blank

split_words : (w : List ℕ) (words : List (List ℕ)) → IsWord w → All IsWord words → slice_split is_blank (join_with_byte space (w ∷ words)) ≡ w ∷ words
split_words w [] h hs = slice_split_none is_blank w (All-weaker IsWordByte (λ b. is_blank b ≡ false) not_blank w h.bytes)
split_words w (v ∷ words) h hs =
    slice_split_at is_blank w space (join_with_byte space (v ∷ words)) (All-weaker IsWordByte (λ b. is_blank b ≡ false) not_blank w h.bytes) refl
    ∙ ap (λ ws. w ∷ ws) (split_words v words (All-head IsWord v words hs) (All-tail IsWord v words hs))

keep_words : (words : List (List ℕ)) → All IsWord words → filter is_not_empty words ≡ words
keep_words [] h = refl
keep_words (w ∷ words) h =
    ap (λ b. cond b (w ∷ filter is_not_empty words) (filter is_not_empty words)) (All-head IsWord w words h).some
    ∙ ap (λ ws. w ∷ ws) (keep_words words (All-tail IsWord w words h))

pub words_of-joined : (w : List ℕ) (words : List (List ℕ)) → IsWord w → All IsWord words → words_of (join_with_byte space (w ∷ words)) ≡ w ∷ words
unfolding words_of
words_of-joined w words h hs = ap (filter is_not_empty) (split_words w words h hs) ∙ keep_words (w ∷ words) (All-cons IsWord w words h hs)

-- a text of lines

no_end : (b : ℕ) → IsLineByte b → (b == line_feed) ≡ false
no_end b h = h.no_line_feed

pub lines_of-line : (line rest : List ℕ) → All IsLineByte line → lines_of ((line ++ (line_feed ∷ [])) ++ rest) ≡ line ∷ lines_of rest
lines_of-line line rest h =
    ap lines_of (append_assoc line (line_feed ∷ []) rest)
    ∙ slice_split_at (λ byte. byte == line_feed) line line_feed rest (All-weaker IsLineByte (λ b. (b == line_feed) ≡ false) no_end line h) refl
