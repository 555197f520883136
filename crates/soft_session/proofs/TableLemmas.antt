-- The probe's table and the plan's go on together: one breakpoint more, one less, and one that was lifted for a step.
use Rattle.std.proofs.Common.{◌≡◌, ◌∙◌, ◌<◌, ◌%◌, ◌^◌, ℕ, Bool, true, false, ◌||◌, nat_lt, List, [], ◌∷◌, length, unwrap_or, if◌then◌else◌}
use Rattle.std.proofs.Common.{refl, sym, ap, subst, arith}
use Rattle.std.specs.FinMap.{get}
use Rattle.rv_model.specs.Memory.{with_value}
use Rattle.std.specs.Prelude.{◌==◌}
use Rattle.std.proofs.lemmas.Bool.{eq-eqb, eqb-true, false≢true}
use Rattle.std.proofs.lemmas.List.Elements.{All-nil}
use Rattle.debug_model.specs.SoftCommand.{IsSoftAddress}
use Rattle.soft_laws.specs.Lowered.{Table, no_table, patched_table}
use Rattle.soft_laws.specs.Shown.{original_at}
use Rattle.soft_laws.specs.SoftBreaks.{is_listed, meets, without}
use Rattle.soft_laws.specs.SoftDebugger.{put_in}
use Rattle.soft_laws.proofs.ByteLemmas.{get-with_value, value_apart, value_written}
use Rattle.soft_laws.proofs.PatchLemmas.{patched-aligned, remembers-patch, without-meets}
use Rattle.soft_laws.proofs.PatchedLemmas.{byte_outside, listed-soft, words_apart}
use Rattle.soft_break.specs.Patches.{Patches, laid, no_patches, original_of, put_word, with_patch}
use Rattle.soft_break.specs.Patches.{without_patch, without_word, word_in}
use Rattle.soft_break.proofs.TableBytes.{laid_less, laid_more, laid_same}
use Rattle.soft_break.proofs.TableBytes.{without_clear}
use Rattle.soft_break.proofs.Lists.{patches_with, patches_without, word_put}
use Rattle.soft_session.specs.Tables.{Holds}

-- ---- which words are listed

other : (a b : ℕ) → (b == a) ≡ false → b ≡ a → ⊥
other a b differs e = false≢true (sym differs ∙ eq-eqb b a e)

without_other : (a b : ℕ) (cs : List ℕ) → (b == a) ≡ false → is_listed (without a cs) b ≡ is_listed cs b
without_other a b [] differs = refl
without_other a b (c ∷ cs) differs = by (a == c) refl (without_other a b cs differs)
  where
    gone : (x : Bool) → (b == c) ≡ x → x ≡ false → is_listed cs b ≡ (x || is_listed cs b)
    gone false e none = refl
    gone true e none = absurd (false≢true (sym none))

    by : (x : Bool) → (a == c) ≡ x → is_listed (without a cs) b ≡ is_listed cs b
        → is_listed (if x then without a cs else c ∷ without a cs) b ≡ ((b == c) || is_listed cs b)
    by true e rest = rest ∙ gone (b == c) refl (ap (λ n. b == n) (sym (eqb-true a c e)) ∙ differs)
    by false e rest = ap (λ x. (b == c) || x) rest

without_self : (a : ℕ) (cs : List ℕ) → is_listed (without a cs) a ≡ false
without_self a [] = refl
without_self a (c ∷ cs) = by (a == c) refl (without_self a cs)
  where
    by : (x : Bool) → (a == c) ≡ x → is_listed (without a cs) a ≡ false → is_listed (if x then without a cs else c ∷ without a cs) a ≡ false
    by true e rest = rest
    by false e rest = ap (λ x. x || is_listed (without a cs) a) e ∙ rest

put_other : (a b : ℕ) (cs : List ℕ) → (b == a) ≡ false → is_listed (put_in a cs) b ≡ is_listed cs b
put_other a b [] differs = ap (λ x. x || false) differs
put_other a b (c ∷ cs) differs = by (nat_lt a c) (put_other a b cs differs)
  where
    by : (x : Bool) → is_listed (put_in a cs) b ≡ is_listed cs b
        → is_listed (if x then a ∷ c ∷ cs else c ∷ put_in a cs) b ≡ ((b == c) || is_listed cs b)
    by true rest = ap (λ x. x || ((b == c) || is_listed cs b)) differs
    by false rest = ap (λ x. (b == c) || x) rest

put_self : (a : ℕ) (cs : List ℕ) → is_listed (put_in a cs) a ≡ true
put_self a [] = ap (λ x. x || false) (eq-eqb a a refl)
put_self a (c ∷ cs) = by (nat_lt a c) (put_self a cs)
  where
    or_true : (x : Bool) → (x || true) ≡ true
    or_true true = refl
    or_true false = refl

    by : (x : Bool) → is_listed (put_in a cs) a ≡ true → is_listed (if x then a ∷ c ∷ cs else c ∷ put_in a cs) a ≡ true
    by true rest = ap (λ x. x || is_listed (c ∷ cs) a) (eq-eqb a a refl)
    by false rest = ap (λ x. (a == c) || x) rest ∙ or_true (a == c)

-- ---- the words

word_in_put : (a b w : ℕ) (cs ws : List ℕ) → (b == a) ≡ false → length ws ≡ length cs → word_in b (put_in a cs) (put_word a w cs ws) ≡ word_in b cs ws
word_in_put a b w [] ws differs alike = ap (λ x. if x then w else word_in b [] ws) differs
word_in_put a b w (c ∷ cs) [] differs alike = absurd (omega (arith, alike))
word_in_put a b w (c ∷ cs) (v ∷ ws) differs alike = by (nat_lt a c) (word_in_put a b w cs ws differs (omega (arith, alike)))
  where
    by : (x : Bool) → word_in b (put_in a cs) (put_word a w cs ws) ≡ word_in b cs ws
        → word_in b (if x then a ∷ c ∷ cs else c ∷ put_in a cs) (if x then w ∷ v ∷ ws else v ∷ put_word a w cs ws) ≡ word_in b (c ∷ cs) (v ∷ ws)
    by true rest = ap (λ x. if x then w else word_in b (c ∷ cs) (v ∷ ws)) differs
    by false rest = ap (λ n. if b == c then v else n) rest

word_in_without : (a b : ℕ) (cs ws : List ℕ) → (b == a) ≡ false → length ws ≡ length cs → word_in b (without a cs) (without_word a cs ws) ≡ word_in b cs ws
word_in_without a b [] ws differs alike = refl
word_in_without a b (c ∷ cs) [] differs alike = absurd (omega (arith, alike))
word_in_without a b (c ∷ cs) (v ∷ ws) differs alike = by (a == c) refl (word_in_without a b cs ws differs (omega (arith, alike)))
  where
    by : (x : Bool) → (a == c) ≡ x → word_in b (without a cs) (without_word a cs ws) ≡ word_in b cs ws
        → word_in b (if x then without a cs else c ∷ without a cs) (if x then without_word a cs ws else v ∷ without_word a cs ws)
        ≡ (if b == c then v else word_in b cs ws)
    by true e rest = rest
        ∙ ap (λ x. if x then v else word_in b cs ws) (sym (ap (λ n. b == n) (sym (eqb-true a c e)) ∙ differs))
    by false e rest = ap (λ n. if b == c then v else n) rest

-- ---- a word that was written, and one beside it

written_word : (a w : ℕ) (t : Table) (covers : Bool) → IsSoftAddress a → w < 2 ^ 32 → original_at (patched_table covers a w t) a ≡ w
written_word a w t covers word fits =
    ap (λ o. unwrap_or o 0) (value_written t.originals a 4 w word.1) ∙ whole w fits
  where
    whole : (v : ℕ) → v < 2 ^ 32 → v % 256 ^ 4 ≡ v
    whole v less = omega (arith, less)

beside_word : (a b w : ℕ) (t : Table) (covers : Bool) → IsSoftAddress a → IsSoftAddress b → (b == a) ≡ false
    → original_at (patched_table covers a w t) b ≡ original_at t b
beside_word a b w t covers word word' differs =
    ap (λ o. unwrap_or o 0) (value_apart t.originals a 4 w b 4 (words_apart a b word.0 word'.0 (other a b differs)))

word_of : (p : Patches) (t : Table) (b : ℕ) → Holds p t → is_listed p.addresses b ≡ true → IsSoftAddress b
word_of p t b h is = listed-soft t.covered h.words b (h.listed b ∙ is)

-- ---- no breakpoint

pub holds_none : Holds no_patches no_table
holds_none = record {
  are = record { upwards = tt; alike = refl; words = All-nil IsSoftAddress };
  listed = λ a. refl;
  words = tt;
  fits = λ a is. absurd (false≢true is);
  exact = λ a is. absurd (false≢true is);
  bytes = λ q is. absurd (false≢true is);
}

-- ---- one more

pub holds_planted : (a w : ℕ) (p : Patches) (t : Table) → IsSoftAddress a → is_listed p.addresses a ≡ false → w < 2 ^ 32 → Holds p t
    → Holds (with_patch a w p) (patched_table true a w t)
holds_planted a w p t word free fits h = record {
  are = patches_with a w p word free h.are;
  listed = λ b. listed_by b (b == a) refl;
  words = patched-aligned true a t.covered word h.words;
  fits = λ b is. fits_by b (b == a) refl is;
  exact = λ b is. exact_by b (b == a) refl is;
  bytes = λ q is. remembers-patch true a w t.covered t.originals (laid p.addresses p.originals) h.bytes q is
      ∙ ap (λ m. get m q) (sym (laid_more a w p.addresses p.originals word h.are.words h.are.alike free));
}
  where
    listed_by : (b : ℕ) (x : Bool) → (b == a) ≡ x → is_listed (a ∷ without a t.covered) b ≡ is_listed (put_in a p.addresses) b
    listed_by b true e =
        ap (λ x. x || is_listed (without a t.covered) b) e
        ∙ sym (ap (λ n. is_listed (put_in a p.addresses) n) (eqb-true b a e) ∙ put_self a p.addresses)
    listed_by b false e =
        ap (λ x. x || is_listed (without a t.covered) b) e ∙ without_other a b t.covered e ∙ h.listed b ∙ sym (put_other a b p.addresses e)

    here : original_of a (with_patch a w p) ≡ w
    here = word_put a w p.addresses p.originals h.are.alike free

    fits_by : (b : ℕ) (x : Bool) → (b == a) ≡ x → is_listed (put_in a p.addresses) b ≡ true → original_of b (with_patch a w p) < 2 ^ 32
    fits_by b true e is = subst (λ n. original_of n (with_patch a w p) < 2 ^ 32) (sym (eqb-true b a e)) (subst (λ n. n < 2 ^ 32) (sym here) fits)
    fits_by b false e is = subst (λ n. n < 2 ^ 32) (sym (word_in_put a b w p.addresses p.originals e h.are.alike))
        (h.fits b (sym (put_other a b p.addresses e) ∙ is))

    exact_by : (b : ℕ) (x : Bool) → (b == a) ≡ x → is_listed (put_in a p.addresses) b ≡ true
        → original_at (patched_table true a w t) b ≡ original_of b (with_patch a w p)
    exact_by b true e is =
        subst (λ n. original_at (patched_table true a w t) n ≡ original_of n (with_patch a w p)) (sym (eqb-true b a e))
        (written_word a w t true word fits ∙ sym here)
    exact_by b false e is =
        let before : is_listed p.addresses b ≡ true = sym (put_other a b p.addresses e) ∙ is in
        beside_word a b w t true word (word_of p t b h before) e ∙ h.exact b before ∙ sym (word_in_put a b w p.addresses p.originals e h.are.alike)

-- ---- one less

pub holds_lifted : (a w : ℕ) (p : Patches) (t : Table) → is_listed p.addresses a ≡ true → Holds p t → Holds (without_patch a p) (patched_table false a w t)
holds_lifted a w p t set h = record {
  are = patches_without a p h.are;
  listed = λ b. listed_by b (b == a) refl;
  words = patched-aligned false a t.covered (word_of p t a h set) h.words;
  fits = λ b is. fits_by b (b == a) refl is;
  exact = λ b is. exact_by b (b == a) refl is;
  bytes = λ q is.
      let clear : meets a q 1 ≡ false = without_clear a t.covered h.words (word_of p t a h set) q is in
      get-with_value t.originals a 4 w q ∙ byte_outside a q w (get t.originals q) clear ∙ h.bytes q (without-meets a t.covered q 1 is)
      ∙ sym (laid_less a q p.addresses p.originals h.are.alike clear);
}
  where
    listed_by : (b : ℕ) (x : Bool) → (b == a) ≡ x → is_listed (without a t.covered) b ≡ is_listed (without a p.addresses) b
    listed_by b true e =
        subst (λ n. is_listed (without a t.covered) n ≡ is_listed (without a p.addresses) n) (sym (eqb-true b a e))
        (without_self a t.covered ∙ sym (without_self a p.addresses))
    listed_by b false e = without_other a b t.covered e ∙ h.listed b ∙ sym (without_other a b p.addresses e)

    none : (b : ℕ) → (b == a) ≡ true → is_listed (without a p.addresses) b ≡ true → ⊥
    none b e is = false≢true (sym (without_self a p.addresses) ∙ ap (λ n. is_listed (without a p.addresses) n) (sym (eqb-true b a e)) ∙ is)

    fits_by : (b : ℕ) (x : Bool) → (b == a) ≡ x → is_listed (without a p.addresses) b ≡ true → original_of b (without_patch a p) < 2 ^ 32
    fits_by b true e is = absurd (none b e is)
    fits_by b false e is = subst (λ n. n < 2 ^ 32) (sym (word_in_without a b p.addresses p.originals e h.are.alike))
        (h.fits b (sym (without_other a b p.addresses e) ∙ is))

    exact_by : (b : ℕ) (x : Bool) → (b == a) ≡ x → is_listed (without a p.addresses) b ≡ true
        → original_at (patched_table false a w t) b ≡ original_of b (without_patch a p)
    exact_by b true e is = absurd (none b e is)
    exact_by b false e is =
        let before : is_listed p.addresses b ≡ true = sym (without_other a b p.addresses e) ∙ is in
        beside_word a b w t false (word_of p t a h set) (word_of p t b h before) e ∙ h.exact b before
        ∙ sym (word_in_without a b p.addresses p.originals e h.are.alike)

-- ---- one that was lifted for a step

pub holds_again : (a w : ℕ) (p : Patches) (t : Table) → is_listed p.addresses a ≡ true → original_of a p ≡ w → Holds p t
    → Holds p (patched_table true a w (patched_table false a w t))
holds_again a w p t set is_word h = record {
  are = h.are;
  listed = λ b. listed_by b (b == a) refl;
  words = patched-aligned true a (without a t.covered) word (patched-aligned false a t.covered word h.words);
  fits = h.fits;
  exact = λ b is. exact_by b (b == a) refl is;
  bytes = λ q is. remembers-patch true a w (without a t.covered) lifted.originals (with_value (laid p.addresses p.originals) a 4 w)
      (remembers-patch false a w t.covered t.originals (laid p.addresses p.originals) h.bytes) q is
      ∙ ap (λ m. get (with_value m a 4 w) q) there ∙ ap (λ m. get m q) there;
}
  where
    word : IsSoftAddress a
    word = word_of p t a h set

    lifted : Table
    lifted = patched_table false a w t

    there : with_value (laid p.addresses p.originals) a 4 w ≡ laid p.addresses p.originals
    there = ap (with_value (laid p.addresses p.originals) a 4) (sym is_word) ∙ laid_same a p.addresses p.originals h.are.words h.are.alike set

    listed_by : (b : ℕ) (x : Bool) → (b == a) ≡ x → is_listed (a ∷ without a (without a t.covered)) b ≡ is_listed p.addresses b
    listed_by b true e =
        ap (λ x. x || is_listed (without a (without a t.covered)) b) e ∙ sym (ap (λ n. is_listed p.addresses n) (eqb-true b a e) ∙ set)
    listed_by b false e =
        ap (λ x. x || is_listed (without a (without a t.covered)) b) e ∙ without_other a b (without a t.covered) e ∙ without_other a b t.covered e ∙ h.listed b

    exact_by : (b : ℕ) (x : Bool) → (b == a) ≡ x → is_listed p.addresses b ≡ true
        → original_at (patched_table true a w lifted) b ≡ original_of b p
    exact_by b true e is =
        subst (λ n. original_at (patched_table true a w lifted) n ≡ original_of n p) (sym (eqb-true b a e))
        (written_word a w lifted true word (subst (λ n. n < 2 ^ 32) is_word (h.fits a set)) ∙ sym is_word)
    exact_by b false e is =
        beside_word a b w lifted true word (word_of p t b h is) e ∙ beside_word a b w t false word (word_of p t b h is) e ∙ h.exact b is
