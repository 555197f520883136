-- Which patch covers a byte, and what the table remembers and merges there.
use Rattle.std.proofs.Common.{◌≡◌, ◌∙◌, ◌+◌, ◌-◌, ◌<◌, ◌≤◌, ◌⊎◌, ℕ, zero, suc, Bool, true, false, not, cond, ◌||◌, nat_lt, List, [], ◌∷◌, length, Option, Some, None}
use Rattle.std.proofs.Common.{get_or, refl, sym, ap, subst, inl, inr, arith, if◌then◌else◌, set}
use Rattle.std.specs.Prelude.{◌==◌, All}
use Rattle.std.proofs.lemmas.List.Elements.{All-head, All-tail}
use Rattle.std.specs.FinMap.{get}
use Rattle.std.specs.Int.{byte_at}
use Rattle.std.specs.List.{position, position_or_len}
use Rattle.std.proofs.lemmas.Bool.{and_parts, eq-eqb, ne_eqb, cases_eq, ltb-false, ltb-true}
use Rattle.std.proofs.lemmas.Bool.Decides.{nat_tests}
use Rattle.rv_model.specs.Memory.{ram_base}
use Rattle.debug_model.specs.SoftCommand.{IsSoftAddress}
use Rattle.soft_laws.specs.Lowered.{ebreak_over, merged_byte}
use Rattle.soft_laws.specs.SoftBreaks.{ebreak_word, meets, meets_some}
use Rattle.soft_laws.proofs.ByteLemmas.{Place, byte_above, byte_below, byte_or, get-with_value, place_of}
use Rattle.soft_laws.proofs.ByteLemmas.Place.{below, within, above}
use Rattle.soft_break.specs.Patches.{IsReplaced, laid}
use Rattle.soft_break.proofs.WordBytes.{byte_here, ebreak_apart, ebreak_here}

-- ---- the place that `position` gives

position_or_len-le : (p : ℕ → Bool) (xs : List ℕ) → position_or_len p xs ≤ length xs
position_or_len-le p [] = omega arith
position_or_len-le p (x ∷ xs) = by_cases (p x) (position_or_len-le p xs)
  where
    by_cases : (b : Bool) → position_or_len p xs ≤ length xs → cond (not b) (1 + position_or_len p xs) 0 ≤ suc (length xs)
    by_cases true h = omega arith
    by_cases false h = omega arith

pub place_found : (p : ℕ → Bool) (xs : List ℕ) (i : ℕ) → position p xs ≡ Some i → position_or_len p xs ≡ i
place_found p xs i e = by_cases (nat_lt (position_or_len p xs) (length xs)) e
  where
    by_cases : (b : Bool) → cond b (Some (position_or_len p xs)) None ≡ Some i → position_or_len p xs ≡ i
    by_cases true f = cc
    by_cases false f = cc

pub no_place : (p : ℕ → Bool) (xs : List ℕ) → position p xs ≡ None → position_or_len p xs ≡ length xs
no_place p xs e = by_cases (nat_lt (position_or_len p xs) (length xs)) refl e
  where
    by_cases : (b : Bool) → nat_lt (position_or_len p xs) (length xs) ≡ b → cond b (Some (position_or_len p xs)) None ≡ None → position_or_len p xs ≡ length xs
    by_cases true f g = cc
    by_cases false f g = omega (arith, ltb-false _ _ f, position_or_len-le p xs)

-- ---- one word

pub covered_low : (a q : ℕ) → meets a q 1 ≡ true → a ≤ q
covered_low a q m = let parts = and_parts (nat_lt q (a + 4)) (nat_lt a (q + 1)) m in omega (arith, ltb-true _ _ parts.1)

pub covered_high : (a q : ℕ) → meets a q 1 ≡ true → q < a + 4
covered_high a q m = let parts = and_parts (nat_lt q (a + 4)) (nat_lt a (q + 1)) m in ltb-true _ _ parts.0

pub apart_of : (a q : ℕ) → meets a q 1 ≡ false → (q < a) ⊎ (a + 4 ≤ q)
apart_of a q m = by (place_of a 4 q)
  where
    by : Place a 4 q → (q < a) ⊎ (a + 4 ≤ q)
    by (below h) = inl h
    by (above h) = inr h
    by (within h l) = grind (arith, nat_tests)

byte_apart : (a w q : ℕ) (o : Option ℕ) → (q < a) ⊎ (a + 4 ≤ q) → byte_or a 4 w q o ≡ o
byte_apart a w q o (inl h) = byte_below a 4 w q o h
byte_apart a w q o (inr h) = byte_above a 4 w q o h

-- ---- a byte that a patch covers

abbrev pub place_over : List ℕ → ℕ → ℕ
place_over cs q = position_or_len (λ a. meets a q 1) cs

pub record Found (cs ws : List ℕ) (q i : ℕ) : Type 0 where
  pub low : get_or cs i 0 ≤ q
  pub high : q < get_or cs i 0 + 4
  pub some : meets_some cs q 1 ≡ true
  pub byte : get (laid cs ws) q ≡ Some (byte_at (q - get_or cs i 0) (get_or ws i 0))
  pub ebreak : (b : ℕ) → merged_byte cs q b ≡ byte_at (q - get_or cs i 0) ebreak_word

one_more : (n : ℕ) → 1 + n ≡ suc n
one_more n = omega arith

or_true : (x y : Bool) → y ≡ true → (x || y) ≡ true
or_true true y e = refl
or_true false y e = e

same_length : (w : ℕ) (ws : List ℕ) (n : ℕ) → suc (length ws) ≡ suc n → length ws ≡ n
same_length w ws n e = omega (arith, e)

-- the first word stands in RAM
high_first : (a : ℕ) (cs : List ℕ) → All IsSoftAddress (a ∷ cs) → ram_base ≤ a
high_first a cs words = (All-head IsSoftAddress a cs words).1

pub found : (cs ws : List ℕ) (q i : ℕ) → All IsSoftAddress cs → length ws ≡ length cs → place_over cs q ≡ i → i < length cs → Found cs ws q i
found [] ws q i words alike is inside = absurd (omega arith)
found (a ∷ cs) [] q i words alike is inside = absurd (omega (arith, alike))
found (a ∷ cs) (w ∷ ws) q i words alike is inside =
    by (meets a q 1) refl is
    (λ less. found cs ws q (place_over cs q) (All-tail IsSoftAddress a cs words) (same_length w ws (length cs) alike) refl less)
  where
    high : ram_base ≤ a
    high = high_first a cs words

    further : (n : ℕ) → i ≡ suc n → (q < a) ⊎ (a + 4 ≤ q) → Found cs ws q n → Found (a ∷ cs) (w ∷ ws) q i
    further n e apart f = subst (Found (a ∷ cs) (w ∷ ws) q) (sym e) (record {
      low = f.low;
      high = f.high;
      some = or_true (meets a q 1) (meets_some cs q 1) f.some;
      byte = get-with_value (laid cs ws) a 4 w q ∙ byte_apart a w q (get (laid cs ws) q) apart ∙ f.byte;
      ebreak = λ b. ebreak_apart a q (merged_byte cs q b) high apart ∙ f.ebreak b;
    })

    by : (b : Bool) → meets a q 1 ≡ b → cond (not b) (1 + place_over cs q) 0 ≡ i → (place_over cs q < length cs → Found cs ws q (place_over cs q))
        → Found (a ∷ cs) (w ∷ ws) q i
    by true m e later = subst (Found (a ∷ cs) (w ∷ ws) q) e (record {
      low = covered_low a q m;
      high = covered_high a q m;
      some = ap (λ x. x || meets_some cs q 1) m;
      byte = get-with_value (laid cs ws) a 4 w q ∙ byte_here a w q (get (laid cs ws) q) high (covered_low a q m) (covered_high a q m);
      ebreak = λ b. ebreak_here a q (merged_byte cs q b) high (covered_low a q m) (covered_high a q m);
    })
    by false m e later =
        further (place_over cs q) (sym e ∙ one_more (place_over cs q)) (apart_of a q m) (later (omega (arith, e, inside)))

-- each byte of a word that stands in RAM does so
high_at : (cs : List ℕ) (i : ℕ) → All IsSoftAddress cs → i < length cs → ram_base ≤ get_or cs i 0
high_at [] i words inside = absurd (omega arith)
high_at (a ∷ cs) zero words inside = high_first a cs words
high_at (a ∷ cs) (suc i) words inside = high_at cs i (All-tail IsSoftAddress a cs words) (omega (arith, inside))

pub found_high : (cs ws : List ℕ) (q i : ℕ) → All IsSoftAddress cs → Found cs ws q i → i < length cs → ram_base ≤ q
found_high cs ws q i words f inside = omega (arith, f.low, high_at cs i words inside)

-- ---- a byte that none covers

pub none_meets : (cs : List ℕ) (q : ℕ) → place_over cs q ≡ length cs → meets_some cs q 1 ≡ false
none_meets [] q is = refl
none_meets (a ∷ cs) q is = by (meets a q 1) refl is (none_meets cs q)
  where
    by : (b : Bool) → meets a q 1 ≡ b → cond (not b) (1 + place_over cs q) 0 ≡ suc (length cs)
        → (place_over cs q ≡ length cs → meets_some cs q 1 ≡ false) → (meets a q 1 || meets_some cs q 1) ≡ false
    by true m e later = absurd (omega (arith, e))
    by false m e later = ap (λ x. x || meets_some cs q 1) m ∙ later (omega (arith, e))

pub none_merges : (cs : List ℕ) (q b : ℕ) → All IsSoftAddress cs → place_over cs q ≡ length cs → merged_byte cs q b ≡ b
none_merges [] q b words is = refl
none_merges (a ∷ cs) q b words is = by (meets a q 1) refl is (none_merges cs q b (All-tail IsSoftAddress a cs words))
  where
    by : (x : Bool) → meets a q 1 ≡ x → cond (not x) (1 + place_over cs q) 0 ≡ suc (length cs)
        → (place_over cs q ≡ length cs → merged_byte cs q b ≡ b) → ebreak_over a q (merged_byte cs q b) ≡ b
    by true m e later = absurd (omega (arith, e))
    by false m e later = ebreak_apart a q (merged_byte cs q b) (high_first a cs words) (apart_of a q m) ∙ later (omega (arith, e))

-- ---- one byte of a word changed

pub laid_set : (cs ws : List ℕ) (q i byte new : ℕ) → All IsSoftAddress cs → length ws ≡ length cs → place_over cs q ≡ i → i < length cs
    → IsReplaced (q - get_or cs i 0) byte (get_or ws i 0) new → (r : ℕ) → get (laid cs (set ws i new)) r ≡ (if r == q then Some byte else get (laid cs ws) r)
laid_set [] ws q i byte new words alike is inside made r = absurd (omega arith)
laid_set (a ∷ cs) [] q i byte new words alike is inside made r = absurd (omega (arith, alike))
laid_set (a ∷ cs) (w ∷ ws) q i byte new words alike is inside made r =
    by (meets a q 1) refl is (laid_set cs ws q (place_over cs q) byte new (All-tail IsSoftAddress a cs words) (same_length w ws (length cs) alike) refl)
  where
    high : ram_base ≤ a
    high = high_first a cs words

    goal : ℕ → Type 0
    goal n = get (laid (a ∷ cs) (set (w ∷ ws) n new)) r ≡ (if r == q then Some byte else get (laid (a ∷ cs) (w ∷ ws)) r)

    here : meets a q 1 ≡ true → IsReplaced (q - a) byte w new → goal 0
    here m made = elim (cases_eq r q) [
      | inl e ↦ get-with_value (laid cs ws) a 4 new r ∙ ap (λ n. byte_or a 4 new n (get (laid cs ws) r)) e
          ∙ byte_here a new q (get (laid cs ws) r) high (covered_low a q m) (covered_high a q m) ∙ ap Some made.there
          ∙ sym (ap (λ b. if b then Some byte else get (laid (a ∷ cs) (w ∷ ws)) r) (eq-eqb r q e))
      | inr other ↦ get-with_value (laid cs ws) a 4 new r ∙ beside other (place_of a 4 r) ∙ sym (get-with_value (laid cs ws) a 4 w r)
          ∙ sym (ap (λ b. if b then Some byte else get (laid (a ∷ cs) (w ∷ ws)) r) (ne_eqb r q other))
    ]
      where
        beside : (r ≡ q → ⊥) → Place a 4 r → byte_or a 4 new r (get (laid cs ws) r) ≡ byte_or a 4 w r (get (laid cs ws) r)
        beside other (below h) = byte_below a 4 new r _ h ∙ sym (byte_below a 4 w r _ h)
        beside other (above h) = byte_above a 4 new r _ h ∙ sym (byte_above a 4 w r _ h)
        beside other (within h l) =
            byte_here a new r (get (laid cs ws) r) high h l
            ∙ ap Some (made.others (r - a) (omega arith) (λ e. other (omega (arith, e, covered_low a q m))))
            ∙ sym (byte_here a w r (get (laid cs ws) r) high h l)

    there : (n : ℕ) → (q < a) ⊎ (a + 4 ≤ q) → get (laid cs (set ws n new)) r ≡ (if r == q then Some byte else get (laid cs ws) r) → goal (suc n)
    there n apart later =
        get-with_value (laid cs (set ws n new)) a 4 w r ∙ ap (byte_or a 4 w r) later ∙ split
        ∙ sym (ap (λ o. if r == q then Some byte else o) (get-with_value (laid cs ws) a 4 w r))
      where
        split : byte_or a 4 w r (if r == q then Some byte else get (laid cs ws) r) ≡ (if r == q then Some byte else byte_or a 4 w r (get (laid cs ws) r))
        split = elim (cases_eq r q) [
          | inl e ↦ ap (λ b. byte_or a 4 w r (if b then Some byte else get (laid cs ws) r)) (eq-eqb r q e)
              ∙ ap (λ n. byte_or a 4 w n (Some byte)) e ∙ byte_apart a w q (Some byte) apart
              ∙ sym (ap (λ b. if b then Some byte else byte_or a 4 w r (get (laid cs ws) r)) (eq-eqb r q e))
          | inr other ↦ ap (λ b. byte_or a 4 w r (if b then Some byte else get (laid cs ws) r)) (ne_eqb r q other)
              ∙ sym (ap (λ b. if b then Some byte else byte_or a 4 w r (get (laid cs ws) r)) (ne_eqb r q other))
        ]

    by : (b : Bool) → meets a q 1 ≡ b → cond (not b) (1 + place_over cs q) 0 ≡ i
        → (place_over cs q < length cs → IsReplaced (q - get_or cs (place_over cs q) 0) byte (get_or ws (place_over cs q) 0) new → (r : ℕ)
        → get (laid cs (set ws (place_over cs q) new)) r ≡ (if r == q then Some byte else get (laid cs ws) r)) → goal i
    by true m e later = subst goal e (here m (subst (λ n. IsReplaced (q - get_or (a ∷ cs) n 0) byte (get_or (w ∷ ws) n 0) new) (sym e) made))
    by false m e later =
        let n = place_over cs q in
        let is_suc : suc n ≡ i = sym (one_more n) ∙ e in
        subst goal is_suc (there n (apart_of a q m) (later (omega (arith, is_suc, inside))
        (subst (λ k. IsReplaced (q - get_or (a ∷ cs) k 0) byte (get_or (w ∷ ws) k 0) new) (sym is_suc) made) r))
