-- The words of a line, from its front: a blank there is passed over, and a word there is the first.
use Rattle.std.proofs.Common.{◌≡◌, ℕ, suc, ◌+◌, ◌<◌, ◌≤◌, Bool, true, false, not, cond, List, [], ◌∷◌, take, drop, length, get_or, refl, sym, ap, ◌∙◌}
use Rattle.std.proofs.Common.{subst, arith}
use Rattle.std.specs.List.{filter, slice_split, onto_first, position_or_len}
use Rattle.debug_model.specs.ScriptText.{is_blank, is_not_empty, words_of}
use Rattle.script_lang.specs.Cursor.{StartsWithWord}

words_of-blank : (byte : ℕ) (bytes : List ℕ) → is_blank byte ≡ true → words_of bytes ≡ words_of (byte ∷ bytes)
unfolding words_of
words_of-blank byte bytes e =
    sym (ap (λ b. filter is_not_empty (cond b ([] ∷ slice_split is_blank bytes) (onto_first byte (slice_split is_blank bytes)))) e)

pub words_of-rest : (bytes : List ℕ) → 1 ≤ length bytes → is_blank (get_or bytes 0 0) ≡ true → words_of (drop 1 bytes) ≡ words_of bytes
words_of-rest [] h e = absurd (omega arith)
words_of-rest (byte ∷ bytes) h e = words_of-blank byte bytes e

pub words_of-none : (bytes : List ℕ) → length bytes ≡ 0 → words_of bytes ≡ []
unfolding words_of
words_of-none [] h = refl
words_of-none (byte ∷ bytes) h = absurd (omega arith)

-- the first part of a cut, and what is left of the line after it
pub record Cut (bytes : List ℕ) (n : ℕ) : Type 0 where
  pub tail : List (List ℕ)
  pub parts : slice_split is_blank bytes ≡ take n bytes ∷ tail
  pub rest : filter is_not_empty tail ≡ filter is_not_empty (slice_split is_blank (drop n bytes))

cut_at : (byte : ℕ) (bytes : List ℕ) (b : Bool) → is_blank byte ≡ b → Cut bytes (position_or_len is_blank bytes)
    → Cut (byte ∷ bytes) (cond (not b) (1 + position_or_len is_blank bytes) 0)
cut_at byte bytes true e h = record {
  tail = slice_split is_blank bytes;
  parts = ap (λ b. cond b ([] ∷ slice_split is_blank bytes) (onto_first byte (slice_split is_blank bytes))) e;
  rest = sym (ap (λ b. filter is_not_empty (cond b ([] ∷ slice_split is_blank bytes) (onto_first byte (slice_split is_blank bytes)))) e);
}
cut_at byte bytes false e h = record {
  tail = h.tail;
  parts = ap (λ b. cond b ([] ∷ slice_split is_blank bytes) (onto_first byte (slice_split is_blank bytes))) e ∙ ap (onto_first byte) h.parts
      ∙ sym (ap (λ n. take n (byte ∷ bytes) ∷ h.tail) (one_more (position_or_len is_blank bytes)));
  rest = h.rest ∙ sym (ap (λ n. filter is_not_empty (slice_split is_blank (drop n (byte ∷ bytes)))) (one_more (position_or_len is_blank bytes)));
}
  where
    one_more : (n : ℕ) → 1 + n ≡ suc n
    one_more n = omega arith

cut : (bytes : List ℕ) → Cut bytes (position_or_len is_blank bytes)
cut [] = record { tail = []; parts = refl; rest = refl }
cut (byte ∷ bytes) = cut_at byte bytes (is_blank byte) refl (cut bytes)

first_of_cut : (byte : ℕ) (bytes : List ℕ) (n : ℕ) → n ≡ cond (not (is_blank byte)) (suc (position_or_len is_blank bytes)) 0 → is_blank byte ≡ false
    → is_not_empty (take n (byte ∷ bytes)) ≡ true
first_of_cut byte bytes n e f = ap (λ k. is_not_empty (take k (byte ∷ bytes))) (e ∙ ap (λ b. cond (not b) (suc (position_or_len is_blank bytes)) 0) f)

with_first : (word : List ℕ) (words : List (List ℕ)) → is_not_empty word ≡ true → filter is_not_empty (word ∷ words) ≡ word ∷ filter is_not_empty words
with_first word words e = ap (λ b. cond b (word ∷ filter is_not_empty words) (filter is_not_empty words)) e

pub words_of-first : (bytes : List ℕ) (n : ℕ) → 0 < length bytes → StartsWithWord bytes → n ≡ position_or_len is_blank bytes
    → words_of bytes ≡ take n bytes ∷ words_of (drop n bytes)
unfolding words_of
words_of-first [] n h s e = absurd (omega arith)
words_of-first (byte ∷ bytes) n h s e =
    let whole : Cut (byte ∷ bytes) n = subst (Cut (byte ∷ bytes)) (sym e) (cut (byte ∷ bytes)) in
    let counted : n ≡ cond (not (is_blank byte)) (suc (position_or_len is_blank bytes)) 0 =
    e ∙ ap (λ k. cond (not (is_blank byte)) k 0) (one_more (position_or_len is_blank bytes)) in
    ap (filter is_not_empty) whole.parts ∙ with_first (take n (byte ∷ bytes)) whole.tail (first_of_cut byte bytes n counted s)
    ∙ ap (λ ws. take n (byte ∷ bytes) ∷ ws) whole.rest
  where
    one_more : (n : ℕ) → 1 + n ≡ suc n
    one_more n = omega arith
