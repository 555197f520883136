-- The lists of addresses and words behind one patch more or less.
use Rattle.std.proofs.Common.{◌≡◌, ◌∙◌, ◌+◌, ◌<◌, ℕ, suc, Bool, true, false, not, cond, ◌||◌, nat_lt, List, [], ◌∷◌, length, All}
use Rattle.std.proofs.Common.{get_or, refl, sym, ap, subst, arith, if◌then◌else◌}
use Rattle.std.specs.Prelude.{◌==◌}
use Rattle.std.specs.List.{insert, list_any, position_or_len, remove}
use Rattle.std.proofs.lemmas.Bool.Decides.{nat_tests}
use Rattle.std.proofs.lemmas.Bool.{eq-eqb, eqb-true, false≢true, ltb-true, ne_eqb}
use Rattle.std.proofs.lemmas.List.Elements.{All-nil, All-cons, All-head, All-tail}
use Rattle.debug_model.specs.SoftCommand.{IsSoftAddress}
use Rattle.soft_laws.specs.SoftBreaks.{is_listed, without}
use Rattle.soft_laws.specs.SoftDebugger.{put_in}
use Rattle.soft_break.specs.Patches.{ArePatches, IsBelow, Patches, Upwards, put_word, with_patch, without_patch, without_word, word_in}

pub listed_any : (cs : List ℕ) (a : ℕ) → list_any (λ c. a == c) cs ≡ is_listed cs a
listed_any [] a = refl
listed_any (c ∷ cs) a = ap (λ b. a == c || b) (listed_any cs a)

-- ---- where an address is

abbrev pub place_at : ℕ → List ℕ → ℕ
place_at a cs = position_or_len (λ c. a == c) cs

pub listed_inside : (cs : List ℕ) (a : ℕ) → is_listed cs a ≡ true → place_at a cs < length cs
listed_inside [] a is = absurd (false≢true is)
listed_inside (c ∷ cs) a is = by (a == c) is (listed_inside cs a)
  where
    by : (b : Bool) → (b || is_listed cs a) ≡ true → (is_listed cs a ≡ true → place_at a cs < length cs)
        → cond (not b) (1 + place_at a cs) 0 < suc (length cs)
    by true h later = omega arith
    by false h later = omega (arith, later h)

pub not_listed : (cs : List ℕ) (a : ℕ) → place_at a cs ≡ length cs → is_listed cs a ≡ false
not_listed [] a is = refl
not_listed (c ∷ cs) a is = by (a == c) is (not_listed cs a)
  where
    by : (b : Bool) → cond (not b) (1 + place_at a cs) 0 ≡ suc (length cs) → (place_at a cs ≡ length cs → is_listed cs a ≡ false)
        → (b || is_listed cs a) ≡ false
    by true h later = absurd (omega (arith, h))
    by false h later = later (omega (arith, h))

pub is_listed-at : (cs : List ℕ) (a i : ℕ) → place_at a cs ≡ i → i < length cs → is_listed cs a ≡ true
is_listed-at [] a i is less = absurd (omega arith)
is_listed-at (c ∷ cs) a i is less = by (a == c) is (λ h. is_listed-at cs a (place_at a cs) refl h)
  where
    by : (b : Bool) → cond (not b) (1 + place_at a cs) 0 ≡ i → (place_at a cs < length cs → is_listed cs a ≡ true) → (b || is_listed cs a) ≡ true
    by true h later = refl
    by false h later = later (omega (arith, h, less))

pub word_at_place : (cs ws : List ℕ) (a : ℕ) → length ws ≡ length cs → is_listed cs a ≡ true → get_or ws (place_at a cs) 0 ≡ word_in a cs ws
word_at_place [] ws a alike is = absurd (false≢true is)
word_at_place (c ∷ cs) [] a alike is = absurd (omega (arith, alike))
word_at_place (c ∷ cs) (w ∷ ws) a alike is = by (a == c) is (word_at_place cs ws a (omega (arith, alike)))
  where
    by : (b : Bool) → (b || is_listed cs a) ≡ true → (is_listed cs a ≡ true → get_or ws (place_at a cs) 0 ≡ word_in a cs ws)
        → get_or (w ∷ ws) (cond (not b) (1 + place_at a cs) 0) 0 ≡ (if b then w else word_in a cs ws)
    by true h later = refl
    by false h later = ap (λ n. get_or (w ∷ ws) n 0) (one_more (place_at a cs)) ∙ later h
      where
        one_more : (n : ℕ) → 1 + n ≡ suc n
        one_more n = omega arith

-- ---- one less

below_all : (a : ℕ) (cs : List ℕ) → IsBelow a cs → Upwards cs → without a cs ≡ cs
below_all a [] b u = refl
below_all a (c ∷ cs) b u =
    ap (λ t. if t then without a cs else c ∷ without a cs) (ne_eqb a c (λ e. absurd (omega (arith, e, b)))) ∙ ap (λ l. c ∷ l) (below_all a cs (lower cs b u.0) u.1)
  where
    lower : (cs : List ℕ) → a < c → IsBelow c cs → IsBelow a cs
    lower [] h i = tt
    lower (d ∷ cs) h i = omega (arith, h, i)

below_all_words : (a : ℕ) (cs ws : List ℕ) → length ws ≡ length cs → IsBelow a cs → Upwards cs → without_word a cs ws ≡ ws
below_all_words a [] [] alike b u = refl
below_all_words a [] (w ∷ ws) alike b u = absurd (omega (arith, alike))
below_all_words a (c ∷ cs) [] alike b u = refl
below_all_words a (c ∷ cs) (w ∷ ws) alike b u =
    ap (λ t. if t then without_word a cs ws else w ∷ without_word a cs ws) (ne_eqb a c (λ e. absurd (omega (arith, e, b))))
    ∙ ap (λ l. w ∷ l) (below_all_words a cs ws (omega (arith, alike)) (lower cs b u.0) u.1)
  where
    lower : (cs : List ℕ) → a < c → IsBelow c cs → IsBelow a cs
    lower [] h i = tt
    lower (d ∷ cs) h i = omega (arith, h, i)

remove_next : {X : Type 0} (x : X) (xs : List X) (n : ℕ) → remove (x ∷ xs) (1 + n) ≡ x ∷ remove xs n
remove_next x xs n = ap (remove (x ∷ xs)) (one_more n)
  where
    one_more : (n : ℕ) → 1 + n ≡ suc n
    one_more n = omega arith

pub removed : (cs : List ℕ) (a : ℕ) → Upwards cs → is_listed cs a ≡ true → remove cs (place_at a cs) ≡ without a cs
removed [] a u is = absurd (false≢true is)
removed (c ∷ cs) a u is = by (a == c) refl is (removed cs a u.1)
  where
    by : (b : Bool) → (a == c) ≡ b → (b || is_listed cs a) ≡ true → (is_listed cs a ≡ true → remove cs (place_at a cs) ≡ without a cs)
        → remove (c ∷ cs) (cond (not b) (1 + place_at a cs) 0) ≡ (if b then without a cs else c ∷ without a cs)
    by true e h later = sym (below_all a cs (subst (λ n. IsBelow n cs) (sym (eqb-true a c e)) u.0) u.1)
    by false e h later = remove_next c cs (place_at a cs) ∙ ap (λ l. c ∷ l) (later h)

pub removed_word : (cs ws : List ℕ) (a : ℕ) → length ws ≡ length cs → Upwards cs → is_listed cs a ≡ true → remove ws (place_at a cs) ≡ without_word a cs ws
removed_word [] ws a alike u is = absurd (false≢true is)
removed_word (c ∷ cs) [] a alike u is = absurd (omega (arith, alike))
removed_word (c ∷ cs) (w ∷ ws) a alike u is = by (a == c) refl is (removed_word cs ws a (omega (arith, alike)) u.1)
  where
    by : (b : Bool) → (a == c) ≡ b → (b || is_listed cs a) ≡ true → (is_listed cs a ≡ true → remove ws (place_at a cs) ≡ without_word a cs ws)
        → remove (w ∷ ws) (cond (not b) (1 + place_at a cs) 0) ≡ (if b then without_word a cs ws else w ∷ without_word a cs ws)
    by true e h later = sym (below_all_words a cs ws (omega (arith, alike)) (subst (λ n. IsBelow n cs) (sym (eqb-true a c e)) u.0) u.1)
    by false e h later = remove_next w ws (place_at a cs) ∙ ap (λ l. w ∷ l) (later h)

below_without : (a b : ℕ) (cs : List ℕ) → IsBelow b cs → Upwards cs → IsBelow b (without a cs)
below_without a b [] h u = tt
below_without a b (c ∷ cs) h u = by (a == c) (λ i. below_without a b cs i u.1)
  where
    lower : (cs : List ℕ) → b < c → IsBelow c cs → IsBelow b cs
    lower [] h i = tt
    lower (d ∷ cs) h i = omega (arith, h, i)

    by : (t : Bool) → (IsBelow b cs → IsBelow b (without a cs)) → IsBelow b (if t then without a cs else c ∷ without a cs)
    by true later = later (lower cs h u.0)
    by false later = h

upwards_without : (a : ℕ) (cs : List ℕ) → Upwards cs → Upwards (without a cs)
upwards_without a [] u = tt
upwards_without a (c ∷ cs) u = by (a == c) (upwards_without a cs u.1)
  where
    by : (t : Bool) → Upwards (without a cs) → Upwards (if t then without a cs else c ∷ without a cs)
    by true later = later
    by false later = (below_without a c cs u.0 u.1, later)

alike_without : (a : ℕ) (cs ws : List ℕ) → length ws ≡ length cs → length (without_word a cs ws) ≡ length (without a cs)
alike_without a [] ws alike = refl
alike_without a (c ∷ cs) [] alike = absurd (omega (arith, alike))
alike_without a (c ∷ cs) (w ∷ ws) alike = by (a == c) (alike_without a cs ws (omega (arith, alike)))
  where
    by : (t : Bool) → length (without_word a cs ws) ≡ length (without a cs)
        → length (if t then without_word a cs ws else w ∷ without_word a cs ws) ≡ length (if t then without a cs else c ∷ without a cs)
    by true rest = rest
    by false rest = ap suc rest

words_without : (a : ℕ) (cs : List ℕ) → All IsSoftAddress cs → All IsSoftAddress (without a cs)
words_without a [] h = All-nil IsSoftAddress
words_without a (c ∷ cs) h = by (a == c) (words_without a cs (All-tail IsSoftAddress c cs h))
  where
    by : (t : Bool) → All IsSoftAddress (without a cs) → All IsSoftAddress (if t then without a cs else c ∷ without a cs)
    by true later = later
    by false later = All-cons IsSoftAddress c (without a cs) (All-head IsSoftAddress c cs h) later

pub patches_without : (a : ℕ) (p : Patches) → ArePatches p → ArePatches (without_patch a p)
patches_without a p h = record {
  upwards = upwards_without a p.addresses h.upwards;
  alike = alike_without a p.addresses p.originals h.alike;
  words = words_without a p.addresses h.words;
}

-- ---- one more

abbrev pub place_for : ℕ → List ℕ → ℕ
place_for a cs = position_or_len (λ c. nat_lt a c) cs

insert_next : {X : Type 0} (x y : X) (xs : List X) (n : ℕ) → insert (x ∷ xs) (1 + n) y ≡ x ∷ insert xs n y
insert_next x y xs n = ap (λ k. insert (x ∷ xs) k y) (one_more n)
  where
    one_more : (n : ℕ) → 1 + n ≡ suc n
    one_more n = omega arith

pub inserted : (cs : List ℕ) (a : ℕ) → insert cs (place_for a cs) a ≡ put_in a cs
inserted [] a = refl
inserted (c ∷ cs) a = by (nat_lt a c) (inserted cs a)
  where
    by : (b : Bool) → insert cs (place_for a cs) a ≡ put_in a cs
        → insert (c ∷ cs) (cond (not b) (1 + place_for a cs) 0) a ≡ (if b then a ∷ c ∷ cs else c ∷ put_in a cs)
    by true later = refl
    by false later = insert_next c a cs (place_for a cs) ∙ ap (λ l. c ∷ l) later

pub inserted_word : (cs ws : List ℕ) (a v : ℕ) → length ws ≡ length cs → insert ws (place_for a cs) v ≡ put_word a v cs ws
inserted_word [] [] a v alike = refl
inserted_word [] (w ∷ ws) a v alike = absurd (omega (arith, alike))
inserted_word (c ∷ cs) [] a v alike = absurd (omega (arith, alike))
inserted_word (c ∷ cs) (w ∷ ws) a v alike = by (nat_lt a c) (inserted_word cs ws a v (omega (arith, alike)))
  where
    by : (b : Bool) → insert ws (place_for a cs) v ≡ put_word a v cs ws
        → insert (w ∷ ws) (cond (not b) (1 + place_for a cs) 0) v ≡ (if b then v ∷ w ∷ ws else w ∷ put_word a v cs ws)
    by true later = refl
    by false later = insert_next w v ws (place_for a cs) ∙ ap (λ l. w ∷ l) later

below_put : (a c : ℕ) (cs : List ℕ) → c < a → IsBelow c cs → IsBelow c (put_in a cs)
below_put a c [] less h = less
below_put a c (d ∷ cs) less h = by (nat_lt a d)
  where
    by : (b : Bool) → IsBelow c (if b then a ∷ d ∷ cs else d ∷ put_in a cs)
    by true = less
    by false = h

upwards_put : (a : ℕ) (cs : List ℕ) → is_listed cs a ≡ false → Upwards cs → Upwards (put_in a cs)
upwards_put a [] free u = (tt, tt)
upwards_put a (c ∷ cs) free u = by (nat_lt a c) refl (λ f. upwards_put a cs f u.1)
  where
    other : (x y : Bool) → (x || y) ≡ false → (x ≡ false) × (y ≡ false)
    other true y e = absurd (false≢true (sym e))
    other false y e = (refl, e)

    parts : ((a == c) ≡ false) × (is_listed cs a ≡ false)
    parts = other (a == c) (is_listed cs a) free

    apart : (a c : ℕ) → nat_lt a c ≡ false → (a == c) ≡ false → c < a
    apart a c less e = grind (arith, nat_tests)

    by : (b : Bool) → nat_lt a c ≡ b → (is_listed cs a ≡ false → Upwards (put_in a cs)) → Upwards (if b then a ∷ c ∷ cs else c ∷ put_in a cs)
    by true e later = (ltb-true a c e, u)
    by false e later = (below_put a c cs (apart a c e parts.0) u.0, later parts.1)

alike_put : (a v : ℕ) (cs ws : List ℕ) → length ws ≡ length cs → length (put_word a v cs ws) ≡ length (put_in a cs)
alike_put a v [] ws alike = ap suc alike
alike_put a v (c ∷ cs) [] alike = absurd (omega (arith, alike))
alike_put a v (c ∷ cs) (w ∷ ws) alike = by (nat_lt a c) (alike_put a v cs ws (omega (arith, alike)))
  where
    by : (b : Bool) → length (put_word a v cs ws) ≡ length (put_in a cs)
        → length (if b then v ∷ w ∷ ws else w ∷ put_word a v cs ws) ≡ length (if b then a ∷ c ∷ cs else c ∷ put_in a cs)
    by true later = ap suc alike
    by false later = ap suc later

words_put : (a : ℕ) (cs : List ℕ) → IsSoftAddress a → All IsSoftAddress cs → All IsSoftAddress (put_in a cs)
words_put a [] is h = All-cons IsSoftAddress a [] is h
words_put a (c ∷ cs) is h = by (nat_lt a c) (words_put a cs is (All-tail IsSoftAddress c cs h))
  where
    by : (b : Bool) → All IsSoftAddress (put_in a cs) → All IsSoftAddress (if b then a ∷ c ∷ cs else c ∷ put_in a cs)
    by true later = All-cons IsSoftAddress a (c ∷ cs) is h
    by false later = All-cons IsSoftAddress c (put_in a cs) (All-head IsSoftAddress c cs h) later

pub patches_with : (a v : ℕ) (p : Patches) → IsSoftAddress a → is_listed p.addresses a ≡ false → ArePatches p → ArePatches (with_patch a v p)
patches_with a v p is free h = record {
  upwards = upwards_put a p.addresses free h.upwards;
  alike = alike_put a v p.addresses p.originals h.alike;
  words = words_put a p.addresses is h.words;
}

-- ---- the word of one more is found again

itself : (a : ℕ) → (a == a) ≡ true
itself a = eq-eqb a a refl

neither : (x y : Bool) → (x || y) ≡ false → (x ≡ false) × (y ≡ false)
neither true y e = absurd (false≢true (sym e))
neither false y e = (refl, e)

pub word_put : (a v : ℕ) (cs ws : List ℕ) → length ws ≡ length cs → is_listed cs a ≡ false → word_in a (put_in a cs) (put_word a v cs ws) ≡ v
word_put a v [] ws alike free = ap (λ b. if b then v else word_in a [] ws) (itself a)
word_put a v (c ∷ cs) [] alike free = absurd (omega (arith, alike))
word_put a v (c ∷ cs) (w ∷ ws) alike free = by (nat_lt a c) (word_put a v cs ws (omega (arith, alike)))
  where
    by : (b : Bool) → (is_listed cs a ≡ false → word_in a (put_in a cs) (put_word a v cs ws) ≡ v)
        → word_in a (if b then a ∷ c ∷ cs else c ∷ put_in a cs) (if b then v ∷ w ∷ ws else w ∷ put_word a v cs ws) ≡ v
    by true later = ap (λ b. if b then v else word_in a (c ∷ cs) (w ∷ ws)) (itself a)
    by false later =
        ap (λ b. if b then w else word_in a (put_in a cs) (put_word a v cs ws)) (neither (a == c) (is_listed cs a) free).0
        ∙ later (neither (a == c) (is_listed cs a) free).1
