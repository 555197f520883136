-- The table's fields and what callers see of them.
use Rattle.std.proofs.Common.{◌≡◌, ◌∙◌, ◌+◌, ◌-◌, ◌*◌, ◌/◌, ◌%◌, ◌^◌, ◌<◌, ◌≤◌, ℕ, zero, suc, Bool, true, false, not, cond, ◌||◌, List, [], ◌∷◌, length, All}
use Rattle.std.proofs.Common.{Option, Some, None}
use Rattle.std.proofs.Common.{get_or, is_some, refl, sym, ap, subst, arith, if◌then◌else◌, set, unwrap_or}
use Rattle.std.specs.Prelude.{◌==◌}
use Rattle.std.specs.FinMap.{get, insert}
use Rattle.std.specs.Int.{byte_at}
use Rattle.std.specs.List as list
use Rattle.std.specs.List.{position, position_or_len, remove}
use Rattle.std.proofs.lemmas.Bool.{eqb-true, false≢true, ne_eqb}
use Rattle.std.proofs.lemmas.Bool.Decides.{nat_tests}
use Rattle.std.proofs.lemmas.List.{length-set}
use Rattle.debug_model.specs.SoftCommand.{IsSoftAddress}
use Rattle.rv_model.specs.declared.size.Size.{Size}
use Rattle.rv_model.specs.declared.size.Size.TheVariants.{B1, B2, B4, B8}
use Rattle.rv_model.specs.Memory.{is_aligned, kept_byte, ram_base}
use Rattle.rv_model.proofs.MapLemmas.{kept_high}
use Rattle.rv_model.specs.Size.{count_of}
use Rattle.soft_laws.specs.Lowered.{Table, merged, merged_byte, written_table}
use Rattle.soft_laws.specs.Shown.{shown_byte, shown_value}
use Rattle.soft_laws.specs.SoftBreaks.{ebreak_word, is_listed, meets, meets_some, without}
use Rattle.soft_laws.specs.SoftDebugger.{put_in}
use Rattle.soft_laws.proofs.ByteLemmas.{byte_or, get-with_value, get_insert}
use Rattle.soft_break.specs.Patches.{ArePatches, IsReplaced, IsSameTable, KeepsWords, Patches, laid, original_of, put_word, table_of, with_patch, without_patch}
use Rattle.soft_break.specs.Patches.{word_in}
use Rattle.soft_break.proofs.Covering.{Found, found, found_high, laid_set, no_place, none_meets, none_merges, place_found}
use Rattle.soft_break.proofs.Lists.{inserted, inserted_word, is_listed-at, not_listed, patches_with, patches_without, place_at, place_for}
use Rattle.soft_break.proofs.Lists.{removed, removed_word, word_at_place, word_put}

abbrev of_fields : List ℕ → List ℕ → Patches
of_fields cs ws = record { addresses = cs; originals = ws }

same_patches : (cs ds ws vs : List ℕ) → cs ≡ ds → ws ≡ vs → of_fields cs ws ≡ of_fields ds vs
same_patches cs ds ws vs e f = λ i. record { addresses = e i; originals = f i }

-- ---- which addresses are listed

pub listed_some : (cs : List ℕ) (a : ℕ) (o : Option ℕ) → o ≡ position (λ c. a == c) cs → (is_some o ≡ true → place_at a cs < length cs)
    → is_some o ≡ is_listed cs a
listed_some cs a None e inside = sym (not_listed cs a (no_place (λ c. a == c) cs (sym e)))
listed_some cs a (Some i) e inside = sym (is_listed-at cs a (place_at a cs) refl (inside refl))

pub place_inside : (cs : List ℕ) (a i : ℕ) (o : Option ℕ) → o ≡ position (λ c. a == c) cs → o ≡ Some i → i < length cs → place_at a cs < length cs
place_inside cs a i o e f less = omega (arith, place_found (λ c. a == c) cs i (sym e ∙ f), less)

-- ---- one more, and one less

-- a word changed to one of 32 bits
word_set : (a : ℕ) (cs ws : List ℕ) (i new : ℕ) → new < 2 ^ 32 → word_in a cs ws < 2 ^ 32 → word_in a cs (set ws i new) < 2 ^ 32
word_set a [] ws i new small less = less
word_set a (c ∷ cs) [] i new small less = less
word_set a (c ∷ cs) (w ∷ ws) zero new small less = by (a == c) less
  where
    by : (b : Bool) → (if b then w else word_in a cs ws) < 2 ^ 32 → (if b then new else word_in a cs ws) < 2 ^ 32
    by true l = small
    by false l = l
word_set a (c ∷ cs) (w ∷ ws) (suc i) new small less = by (a == c) less (word_set a cs ws i new small)
  where
    by : (b : Bool) → (if b then w else word_in a cs ws) < 2 ^ 32 → (word_in a cs ws < 2 ^ 32 → word_in a cs (set ws i new) < 2 ^ 32)
        → (if b then w else word_in a cs (set ws i new)) < 2 ^ 32
    by true l later = l
    by false l later = later l

module _ (p : Patches) (cs ws : List ℕ) (e : p ≡ of_fields cs ws) (h : ArePatches (of_fields cs ws)) where
  addresses_are : p.addresses ≡ cs
  addresses_are = ap (λ (p : Patches). p.addresses) e

  pub put_view : (new_cs new_ws : List ℕ) (a v place : ℕ) → is_listed p.addresses a ≡ false → place ≡ place_for a p.addresses → new_cs ≡ list.insert cs place a
      → new_ws ≡ list.insert ws place v → of_fields new_cs new_ws ≡ with_patch a v p
  put_view new_cs new_ws a v place free at f g =
      same_patches new_cs (put_in a cs) new_ws (put_word a v cs ws) (f ∙ ap (λ n. list.insert cs n a) here ∙ inserted cs a)
      (g ∙ ap (λ n. list.insert ws n v) here ∙ inserted_word cs ws a v h.alike)
      ∙ sym (ap (with_patch a v) e)
    where
      here : place ≡ place_for a cs
      here = at ∙ ap (place_for a) addresses_are

  pub put_found : (new_cs new_ws : List ℕ) (a v place : ℕ) → is_listed p.addresses a ≡ false → place ≡ place_for a p.addresses
      → new_cs ≡ list.insert cs place a → new_ws ≡ list.insert ws place v → original_of a (of_fields new_cs new_ws) ≡ v
  put_found new_cs new_ws a v place free at f g =
      ap (original_of a) (put_view new_cs new_ws a v place free at f g ∙ ap (with_patch a v) e)
      ∙ word_put a v cs ws h.alike (sym (ap (λ (p : Patches). is_listed p.addresses a) e) ∙ free)

  pub put_keeps : (new_cs new_ws : List ℕ) (a v place : ℕ) → IsSoftAddress a → is_listed p.addresses a ≡ false → place ≡ place_for a p.addresses
      → new_cs ≡ list.insert cs place a → new_ws ≡ list.insert ws place v → ArePatches (of_fields new_cs new_ws)
  put_keeps new_cs new_ws a v place word free at f g =
      subst ArePatches (ap (with_patch a v) (sym e) ∙ sym (put_view new_cs new_ws a v place free at f g))
      (patches_with a v (of_fields cs ws) word (sym (ap (λ (p : Patches). is_listed p.addresses a) e) ∙ free) h)

  pub forget_view : (new_cs new_ws : List ℕ) (a i : ℕ) → is_listed p.addresses a ≡ true → position (λ c. a == c) p.addresses ≡ Some i
      → new_cs ≡ remove cs i → new_ws ≡ remove ws i → of_fields new_cs new_ws ≡ without_patch a p
  forget_view new_cs new_ws a i is at f g =
      same_patches new_cs (without a cs) new_ws _ (f ∙ ap (remove cs) here ∙ removed cs a h.upwards listed)
      (g ∙ ap (remove ws) here ∙ removed_word cs ws a h.alike h.upwards listed)
      ∙ sym (ap (without_patch a) e)
    where
      listed : is_listed cs a ≡ true
      listed = sym (ap (λ (p : Patches). is_listed p.addresses a) e) ∙ is

      here : i ≡ place_at a cs
      here = sym (place_found (λ c. a == c) p.addresses i at) ∙ ap (place_at a) addresses_are

  pub forget_keeps : (new_cs new_ws : List ℕ) (a i : ℕ) → is_listed p.addresses a ≡ true → position (λ c. a == c) p.addresses ≡ Some i
      → new_cs ≡ remove cs i → new_ws ≡ remove ws i → ArePatches (of_fields new_cs new_ws)
  forget_keeps new_cs new_ws a i is at f g =
      subst ArePatches (ap (without_patch a) (sym e) ∙ sym (forget_view new_cs new_ws a i is at f g)) (patches_without a (of_fields cs ws) h)

  pub original_view : (a i : ℕ) → is_listed p.addresses a ≡ true → position (λ c. a == c) p.addresses ≡ Some i → get_or ws i 0 ≡ original_of a p
  original_view a i is at =
      ap (λ n. get_or ws n 0) (sym (place_found (λ c. a == c) p.addresses i at) ∙ ap (place_at a) addresses_are)
      ∙ word_at_place cs ws a h.alike (sym (ap (λ (p : Patches). is_listed p.addresses a) e) ∙ is) ∙ sym (ap (original_of a) e)

  -- ---- one byte

  pub found_view : (q i : ℕ) → position (λ a. meets a q 1) p.addresses ≡ Some i → i < length p.addresses → Found cs ws q i
  found_view q i at inside =
      found cs ws q i h.words h.alike
      (ap (position_or_len (λ a. meets a q 1)) (sym addresses_are) ∙ place_found (λ a. meets a q 1) p.addresses i at)
      (subst (λ l. i < length l) addresses_are inside)

  pub shown_view : (q byte i : ℕ) → Found cs ws q i → byte_at (q - get_or cs i 0) (get_or ws i 0) ≡ shown_byte (table_of p) q byte
  shown_view q byte i f =
      sym (ap (λ b. if b then unwrap_or (get (laid cs ws) q) 0 else byte) f.some ∙ ap (λ o. unwrap_or o 0) f.byte)
      ∙ sym (ap (λ (p : Patches). shown_byte (table_of p) q byte) e)

  pub shown_none : (q byte : ℕ) → position (λ a. meets a q 1) p.addresses ≡ None → byte ≡ shown_byte (table_of p) q byte
  shown_none q byte at =
      sym (ap (λ b. if b then unwrap_or (get (laid p.addresses p.originals) q) 0 else byte)
      (none_meets p.addresses q (no_place (λ a. meets a q 1) p.addresses at)))

  pub merged_view : (q byte i : ℕ) → Found cs ws q i → byte_at (q - get_or cs i 0) ebreak_word ≡ merged_byte p.addresses q byte
  merged_view q byte i f = sym (f.ebreak byte) ∙ ap (λ l. merged_byte l q byte) (sym addresses_are)

  pub merged_none : (q byte : ℕ) → position (λ a. meets a q 1) p.addresses ≡ None → byte ≡ merged_byte p.addresses q byte
  merged_none q byte at = sym (none_merges p.addresses q byte (subst (All IsSoftAddress) (sym addresses_are) h.words) (no_place (λ a. meets a q 1) p.addresses at))

  written_byte : (q byte r : ℕ) → get ((written_table q 1 byte (table_of p)).originals) r
      ≡ (if r == q then Some (kept_byte q (byte % 256)) else get (laid p.addresses p.originals) r)
  written_byte q byte r = get_insert (laid p.addresses p.originals) q (kept_byte q (byte % 256)) r

  -- a byte of a patched word is kept whole, since that stands in RAM
  written_high : (q byte r : ℕ) → byte < 256 → ram_base ≤ q → get ((written_table q 1 byte (table_of p)).originals) r
      ≡ (if r == q then Some byte else get (laid p.addresses p.originals) r)
  written_high q byte r small high =
      written_byte q byte r
      ∙ ap (λ v. if r == q then Some v else get (laid p.addresses p.originals) r) (kept_high q (byte % 256) high ∙ low byte small)
    where
      low : (b : ℕ) → b < 256 → b % 256 ≡ b
      low b l = omega arith

  pub taken_view : (q byte i new : ℕ) → byte < 256 → position (λ a. meets a q 1) p.addresses ≡ Some i → i < length p.addresses
      → IsReplaced (q - get_or cs i 0) byte (get_or ws i 0) new
      → IsSameTable (written_table q 1 byte (table_of p)) (table_of (of_fields cs (set ws i new)))
  taken_view q byte i new small at inside made = record {
    covered = addresses_are;
    bytes = λ r m. written_high q byte r small (found_high cs ws q i h.words (found_view q i at inside) (subst (λ l. i < length l) addresses_are inside))
        ∙ ap (λ (p : Patches). if r == q then Some byte else get (laid p.addresses p.originals) r) e
        ∙ sym (laid_set cs ws q i byte new h.words h.alike
        (ap (position_or_len (λ a. meets a q 1)) (sym addresses_are) ∙ place_found (λ a. meets a q 1) p.addresses i at)
        (subst (λ l. i < length l) addresses_are inside) made r);
  }

  pub words_view : (i new : ℕ) → new < 2 ^ 32 → KeepsWords p (of_fields cs (set ws i new))
  words_view i new small =
      subst (λ (o : Patches). KeepsWords o (of_fields cs (set ws i new))) (sym e)
      (record { alike = length-set ws i new; fits = λ a less. word_set a cs ws i new small less })

  pub taken_none : (q byte : ℕ) → byte < 256 → position (λ a. meets a q 1) p.addresses ≡ None
      → IsSameTable (written_table q 1 byte (table_of p)) (table_of p)
  taken_none q byte small at = record {
    covered = refl;
    bytes = λ r m. written_byte q byte r ∙ ap (λ b. if b then Some (kept_byte q (byte % 256)) else get (laid p.addresses p.originals) r) (ne_eqb r q (λ same. false≢true
        (sym (ap (λ n. meets_some p.addresses n 1) same ∙ none_meets p.addresses q (no_place (λ a. meets a q 1) p.addresses at)) ∙ m)));
  }

-- ---- several bytes

pub words_itself : (p : Patches) → KeepsWords p p
words_itself p = record { alike = refl; fits = λ a less. less }

pub words_more : (p q r : Patches) → KeepsWords p q → KeepsWords q r → KeepsWords p r
words_more p q r first next = record { alike = next.alike ∙ first.alike; fits = λ a less. next.fits a (first.fits a less) }

pub same_itself : (t : Table) → IsSameTable t t
same_itself t = record { covered = refl; bytes = λ q m. refl }

pub same_more : (t u v : Table) (a n w b : ℕ) → b ≡ w % 256 → IsSameTable (written_table a 1 b t) u → IsSameTable (written_table (a + 1) n (w / 256) u) v
    → IsSameTable (written_table a (suc n) w t) v
same_more t u v a n w b low s next = record {
  covered = s.covered ∙ next.covered;
  bytes = λ q m.
      get-with_value (insert t.originals a (kept_byte a (w % 256))) (a + 1) n (w / 256) q
      ∙ ap (byte_or (a + 1) n (w / 256) q) (ap (λ x. get (insert t.originals a x) q) first ∙ s.bytes q m)
      ∙ sym (get-with_value u.originals (a + 1) n (w / 256) q)
      ∙ next.bytes q (sym (ap (λ l. meets_some l q 1) s.covered) ∙ m);
}
  where
    same : w % 256 ≡ b % 256
    same = omega (arith, low)

    first : kept_byte a (w % 256) ≡ kept_byte a (b % 256)
    first = ap (kept_byte a) same

pub one_more : (n : ℕ) → 1 ≤ n → suc (n - 1) ≡ n
one_more n h = omega arith

pub merged_more : (cs : List ℕ) (a n v : ℕ) → 1 ≤ n → merged_byte cs a (v % 256) + 256 * merged cs (a + 1) (n - 1) (v / 256) ≡ merged cs a n v
unfolding merged
merged_more cs a zero v h = absurd (omega arith)
merged_more cs a (suc n) v h = ap (λ k. merged_byte cs a (v % 256) + 256 * merged cs (a + 1) k (v / 256)) (less n)
  where
    less : (n : ℕ) → suc n - 1 ≡ n
    less n = omega arith

pub merged_one : (cs : List ℕ) (a n v : ℕ) → n ≡ 1 → merged_byte cs a (v % 256) ≡ merged cs a n v
unfolding merged
merged_one cs a n v e = nothing (merged_byte cs a (v % 256)) ∙ sym (ap (λ k. merged cs a k v) e)
  where
    nothing : (b : ℕ) → b ≡ b + 256 * 0
    nothing b = omega arith

pub shown_more : (t : Table) (a n v : ℕ) → 1 ≤ n → shown_byte t a (v % 256) + 256 * shown_value t (a + 1) (n - 1) (v / 256) ≡ shown_value t a n v
unfolding shown_value
shown_more t a zero v h = absurd (omega arith)
shown_more t a (suc n) v h = ap (λ k. shown_byte t a (v % 256) + 256 * shown_value t (a + 1) k (v / 256)) (less n)
  where
    less : (n : ℕ) → suc n - 1 ≡ n
    less n = omega arith

pub shown_one : (t : Table) (a n v : ℕ) → n ≡ 1 → shown_byte t a (v % 256) ≡ shown_value t a n v
unfolding shown_value
shown_one t a n v e = nothing (shown_byte t a (v % 256)) ∙ sym (ap (λ k. shown_value t a k v) e)
  where
    nothing : (b : ℕ) → b ≡ b + 256 * 0
    nothing b = omega arith

pub fits_more : (n first rest : ℕ) → 2 ≤ n → n ≤ 8 → first < 256 → rest < 256 ^ (n - 1) → first + 256 * rest < 256 ^ n
fits_more zero first rest low high f r = absurd (omega arith)
fits_more (suc zero) first rest low high f r = absurd (omega arith)
fits_more (suc (suc zero)) first rest low high f r = omega (arith, f, r)
fits_more (suc (suc (suc zero))) first rest low high f r = omega (arith, f, r)
fits_more (suc (suc (suc (suc zero)))) first rest low high f r = omega (arith, f, r)
fits_more (suc (suc (suc (suc (suc zero))))) first rest low high f r = omega (arith, f, r)
fits_more (suc (suc (suc (suc (suc (suc zero)))))) first rest low high f r = omega (arith, f, r)
fits_more (suc (suc (suc (suc (suc (suc (suc zero))))))) first rest low high f r = omega (arith, f, r)
fits_more (suc (suc (suc (suc (suc (suc (suc (suc zero)))))))) first rest low high f r = omega (arith, f, r)
fits_more (suc (suc (suc (suc (suc (suc (suc (suc (suc n))))))))) first rest low high f r = absurd (omega arith)

pub power_most : (n v : ℕ) → n ≤ 8 → v < 256 ^ n → v < 2 ^ 64
power_most zero v h l = omega (arith, l)
power_most (suc zero) v h l = omega (arith, l)
power_most (suc (suc zero)) v h l = omega (arith, l)
power_most (suc (suc (suc zero))) v h l = omega (arith, l)
power_most (suc (suc (suc (suc zero)))) v h l = omega (arith, l)
power_most (suc (suc (suc (suc (suc zero))))) v h l = omega (arith, l)
power_most (suc (suc (suc (suc (suc (suc zero)))))) v h l = omega (arith, l)
power_most (suc (suc (suc (suc (suc (suc (suc zero))))))) v h l = omega (arith, l)
power_most (suc (suc (suc (suc (suc (suc (suc (suc zero)))))))) v h l = omega (arith, l)
power_most (suc (suc (suc (suc (suc (suc (suc (suc (suc n))))))))) v h l = absurd (omega arith)

pub block_ends : (size : Size) (a : ℕ) → a < 2 ^ 64 → is_aligned a size ≡ true → a + count_of size ≤ 2 ^ 64
block_ends B1 a small is = omega (arith, small)
block_ends B2 a small is = omega (arith, small, eqb-true (a % 2) 0 is)
block_ends B4 a small is = omega (arith, small, eqb-true (a % 4) 0 is)
block_ends B8 a small is = omega (arith, small, eqb-true (a % 8) 0 is)

pub block_sizes : (size : Size) → (1 ≤ count_of size) × (count_of size ≤ 8)
block_sizes B1 = (omega arith, omega arith)
block_sizes B2 = (omega arith, omega arith)
block_sizes B4 = (omega arith, omega arith)
block_sizes B8 = (omega arith, omega arith)

pub listed_found : (cs : List ℕ) (a i : ℕ) → position (λ c. a == c) cs ≡ Some i → i < length cs → true ≡ is_listed cs a
listed_found cs a i e less = sym (is_listed-at cs a i (place_found (λ c. a == c) cs i e) less)

pub listed_none : (cs : List ℕ) (a : ℕ) → position (λ c. a == c) cs ≡ None → false ≡ is_listed cs a
listed_none cs a e = sym (not_listed cs a (no_place (λ c. a == c) cs e))

-- ---- an element beside a word

meets_at : (cs : List ℕ) (a n i : ℕ) → position_or_len (λ c. meets c a n) cs ≡ i → i < length cs → meets_some cs a n ≡ true
meets_at [] a n i is less = absurd (omega (arith, less))
meets_at (c ∷ cs) a n i is less = by (meets c a n) refl is (λ h. meets_at cs a n (position_or_len (λ c. meets c a n) cs) refl h)
  where
    by : (b : Bool) → meets c a n ≡ b → cond (not b) (1 + position_or_len (λ c. meets c a n) cs) 0 ≡ i
        → (position_or_len (λ c. meets c a n) cs < length cs → meets_some cs a n ≡ true) → (meets c a n || meets_some cs a n) ≡ true
    by true m e later = ap (λ x. x || meets_some cs a n) m
    by false m e later = ap (λ x. x || meets_some cs a n) m ∙ later (omega (arith, e, less))

meets_none : (cs : List ℕ) (a n : ℕ) → position_or_len (λ c. meets c a n) cs ≡ length cs → meets_some cs a n ≡ false
meets_none [] a n is = refl
meets_none (c ∷ cs) a n is = by (meets c a n) refl is (meets_none cs a n)
  where
    by : (b : Bool) → meets c a n ≡ b → cond (not b) (1 + position_or_len (λ c. meets c a n) cs) 0 ≡ suc (length cs)
        → (position_or_len (λ c. meets c a n) cs ≡ length cs → meets_some cs a n ≡ false) → (meets c a n || meets_some cs a n) ≡ false
    by true m e later = absurd (omega (arith, e))
    by false m e later = ap (λ x. x || meets_some cs a n) m ∙ later (omega (arith, e))

pub beside_found : (cs : List ℕ) (a n i : ℕ) → position (λ c. meets c a n) cs ≡ Some i → i < length cs → true ≡ meets_some cs a n
beside_found cs a n i e less = sym (meets_at cs a n i (place_found (λ c. meets c a n) cs i e) less)

pub beside_none : (cs : List ℕ) (a n : ℕ) → position (λ c. meets c a n) cs ≡ None → false ≡ meets_some cs a n
beside_none cs a n e = sym (meets_none cs a n (no_place (λ c. meets c a n) cs e))

-- ---- a changed list

refill_all : (xs ys : List ℕ) → length ys ≡ length xs → list.refill (length xs) xs ys ≡ ys
refill_all [] [] e = refl
refill_all [] (y ∷ ys) e = absurd (omega (arith, e))
refill_all (x ∷ xs) [] e = absurd (omega (arith, e))
refill_all (x ∷ xs) (y ∷ ys) e = ap (λ l. y ∷ l) (refill_all xs ys (omega (arith, e)))

pub refill_set : (xs ms : List ℕ) (i v : ℕ) → ms ≡ xs → set xs i v ≡ list.refill (length xs) xs (set ms i v)
refill_set xs ms i v e =
    sym (ap (λ l. list.refill (length xs) xs (set l i v)) e ∙ refill_all xs (set xs i v) (length-set xs i v))

pub room_of : (n : ℕ) → (n == 32) ≡ false → n ≤ 32 → n < 32
room_of n e h = grind (arith, nat_tests)
