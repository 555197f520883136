-- What a table remembers of covered words, byte by byte: with one word more, with one less, and by whole words. Two lists of the same words cover and merge
-- the same bytes, in whatever order.
use Rattle.std.proofs.Common.{◌≡◌, ◌∙◌, ◌+◌, ◌-◌, ◌*◌, ◌/◌, ◌%◌, ◌<◌, ◌≤◌, ◌^◌, ◌||◌, ℕ, zero, suc, Bool, true, false, nat_lt, List, [], ◌∷◌, length, All}
use Rattle.std.proofs.Common.{Some, is_some, if◌then◌else◌, unwrap_or, refl, sym, ap, subst, inl, inr, arith}
use Rattle.std.specs.Prelude.{◌==◌}
use Rattle.std.specs.FinMap.{get}
use Rattle.std.specs.Int.{byte_at}
use Rattle.std.proofs.lemmas.Bool.{eq-eqb, eqb-true, false≢true, or_parts}
use Rattle.std.proofs.lemmas.List.Elements.{All-head, All-tail}
use Rattle.rv_model.specs.Memory.{value_at, with_value}
use Rattle.debug_model.specs.SoftCommand.{IsSoftAddress}
use Rattle.soft_laws.specs.Lowered.{Table, merged, merged_byte}
use Rattle.soft_laws.specs.Shown.{shown_byte, shown_value}
use Rattle.soft_laws.specs.SoftBreaks.{AreSoftAddresses, ebreak_word, is_listed, meets, meets_some, without}
use Rattle.soft_laws.specs.SoftDebugger.{put_in}
use Rattle.soft_laws.proofs.ByteLemmas.{Apart, byte_or, byte_some, get-with_value, value_apart, value_written, writes_swap, written_over}
use Rattle.soft_laws.proofs.PatchedLemmas.{byte_outside, either_true, listed-here, listed-there, meets-not, meets-within, words_apart}
use Rattle.soft_break.specs.Patches.{laid, put_word, without_word, word_in}
use Rattle.soft_break.proofs.Covering.{apart_of}
use Rattle.soft_break.proofs.PlantSteps.{listed_word}
use Rattle.soft_break.proofs.WordBytes.{ebreak_apart, ebreak_here}

or_true : (x y : Bool) → y ≡ true → (x || y) ≡ true
or_true true y e = refl
or_true false y e = e

-- ---- lists of the same words

meets_of_listed : (c : ℕ) (ds : List ℕ) (q n : ℕ) → is_listed ds c ≡ true → meets c q n ≡ true → meets_some ds q n ≡ true
meets_of_listed c [] q n is m = absurd (false≢true is)
meets_of_listed c (d ∷ ds) q n is m = elim (either_true (c == d) (is_listed ds c) is) [
  | inl e ↦ ap (λ b. b || meets_some ds q n) (subst (λ k. meets k q n ≡ true) (eqb-true c d e) m)
  | inr e ↦ or_true (meets d q n) (meets_some ds q n) (meets_of_listed c ds q n e m)
]

meets_by : (cs ds : List ℕ) → ((a : ℕ) → is_listed cs a ≡ true → is_listed ds a ≡ true) → (q n : ℕ) → meets_some cs q n ≡ true → meets_some ds q n ≡ true
meets_by [] ds goes q n is = absurd (false≢true is)
meets_by (c ∷ cs) ds goes q n is = elim (either_true (meets c q n) (meets_some cs q n) is) [
  | inl e ↦ meets_of_listed c ds q n (goes c (listed-here c cs c refl)) e
  | inr e ↦ meets_by cs ds (λ a i. goes a (listed-there c cs a i)) q n e
]

pub meets_alike : (cs ds : List ℕ) → ((a : ℕ) → is_listed cs a ≡ is_listed ds a) → (q n : ℕ) → meets_some cs q n ≡ meets_some ds q n
meets_alike cs ds same q n =
    by (meets_some cs q n) (meets_some ds q n) (meets_by cs ds (λ a is. sym (same a) ∙ is) q n) (meets_by ds cs (λ a is. same a ∙ is) q n)
  where
    by : (x y : Bool) → (x ≡ true → y ≡ true) → (y ≡ true → x ≡ true) → x ≡ y
    by true y f g = sym (f refl)
    by false true f g = g refl
    by false false f g = refl

-- each byte of a listed word is covered
pub listed_byte : (cs : List ℕ) (a q : ℕ) → is_listed cs a ≡ true → meets a q 1 ≡ true → meets_some cs q 1 ≡ true
listed_byte cs a q is m = meets_of_listed a cs q 1 is m

pub all_soft : (cs : List ℕ) → All IsSoftAddress cs → AreSoftAddresses cs
all_soft [] words = tt
all_soft (c ∷ cs) words = (All-head IsSoftAddress c cs words, all_soft cs (All-tail IsSoftAddress c cs words))

-- ---- merged bytes

-- of a covered byte, by its place in its word
ebreak_covered : (cs : List ℕ) → AreSoftAddresses cs → (q byte : ℕ) → meets_some cs q 1 ≡ true → merged_byte cs q byte ≡ byte_at (q % 4) ebreak_word
ebreak_covered [] are q byte is = absurd (false≢true is)
ebreak_covered (c ∷ cs) are q byte is = by (meets c q 1) refl is (ebreak_covered cs are.1 q byte)
  where
    place : c ≤ q → q < c + 4 → q - c ≡ q % 4
    place from less = let whole : c % 4 ≡ 0 = are.0.0 in omega (arith, from, less, whole)

    by : (b : Bool) → meets c q 1 ≡ b → (b || meets_some cs q 1) ≡ true → (meets_some cs q 1 ≡ true → merged_byte cs q byte ≡ byte_at (q % 4) ebreak_word)
        → merged_byte (c ∷ cs) q byte ≡ byte_at (q % 4) ebreak_word
    by true m more later =
        let w = meets-within c q m in
        ebreak_here c q (merged_byte cs q byte) are.0.1 w.from w.less ∙ ap (λ k. byte_at k ebreak_word) (place w.from w.less)
    by false m more later = ebreak_apart c q (merged_byte cs q byte) are.0.1 (apart_of c q m) ∙ later more

-- and of another
byte_free : (cs : List ℕ) → AreSoftAddresses cs → (q byte : ℕ) → meets_some cs q 1 ≡ false → merged_byte cs q byte ≡ byte
byte_free [] are q byte none = refl
byte_free (c ∷ cs) are q byte none =
    let parts = or_parts (meets c q 1) (meets_some cs q 1) none in
    ebreak_apart c q (merged_byte cs q byte) are.0.1 (apart_of c q parts.0) ∙ byte_free cs are.1 q byte parts.1

byte_merged : (cs ds : List ℕ) → AreSoftAddresses cs → AreSoftAddresses ds → (q byte : ℕ) → meets_some cs q 1 ≡ meets_some ds q 1
    → merged_byte cs q byte ≡ merged_byte ds q byte
byte_merged cs ds c_are d_are q byte same = by (meets_some cs q 1) refl
  where
    by : (b : Bool) → meets_some cs q 1 ≡ b → merged_byte cs q byte ≡ merged_byte ds q byte
    by true e = ebreak_covered cs c_are q byte e ∙ sym (ebreak_covered ds d_are q byte (sym same ∙ e))
    by false e = byte_free cs c_are q byte e ∙ sym (byte_free ds d_are q byte (sym same ∙ e))

pub merged_alike : (cs ds : List ℕ) → AreSoftAddresses cs → AreSoftAddresses ds → ((q : ℕ) → meets_some cs q 1 ≡ meets_some ds q 1) → (a n v : ℕ)
    → merged cs a n v ≡ merged ds a n v
unfolding merged
merged_alike cs ds c_are d_are same a zero v = refl
merged_alike cs ds c_are d_are same a (suc n) v =
    ap (λ b. b + 256 * merged cs (a + 1) n (v / 256)) (byte_merged cs ds c_are d_are a (v % 256) (same a))
    ∙ ap (λ r. merged_byte ds a (v % 256) + 256 * r) (merged_alike cs ds c_are d_are same (a + 1) n (v / 256))

-- ---- shown bytes

pub shown_alike : (t u : Table) → ((q : ℕ) → meets_some t.covered q 1 ≡ meets_some u.covered q 1)
    → ((q : ℕ) → meets_some t.covered q 1 ≡ true → get t.originals q ≡ get u.originals q) → (a n v : ℕ) → shown_value t a n v ≡ shown_value u a n v
unfolding shown_value
shown_alike t u same bytes a zero v = refl
shown_alike t u same bytes a (suc n) v =
    ap (λ b. b + 256 * shown_value t (a + 1) n (v / 256)) (by (meets_some t.covered a 1) refl)
    ∙ ap (λ r. shown_byte u a (v % 256) + 256 * r) (shown_alike t u same bytes (a + 1) n (v / 256))
  where
    by : (b : Bool) → meets_some t.covered a 1 ≡ b → (if b then unwrap_or (get t.originals a) 0 else v % 256) ≡ shown_byte u a (v % 256)
    by true e =
        ap (λ o. unwrap_or o 0) (bytes a e) ∙ sym (ap (λ b. if b then unwrap_or (get u.originals a) 0 else v % 256) (sym (same a) ∙ e))
    by false e = sym (ap (λ b. if b then unwrap_or (get u.originals a) 0 else v % 256) (sym (same a) ∙ e))

-- ---- words laid into memory

less_one : (w : ℕ) (ws : List ℕ) (n : ℕ) → suc (length ws) ≡ suc n → length ws ≡ n
less_one w ws n e = omega (arith, e)

-- one more
pub laid_more : (a w : ℕ) (cs ws : List ℕ) → IsSoftAddress a → All IsSoftAddress cs → length ws ≡ length cs → is_listed cs a ≡ false
    → laid (put_in a cs) (put_word a w cs ws) ≡ with_value (laid cs ws) a 4 w
laid_more a w [] ws word words alike free = refl
laid_more a w (c ∷ cs) [] word words alike free = absurd (omega (arith, alike))
laid_more a w (c ∷ cs) (v ∷ ws) word words alike free =
    by (nat_lt a c) (laid_more a w cs ws word (All-tail IsSoftAddress c cs words) (less_one v ws (length cs) alike) parts.1)
  where
    parts : ((a == c) ≡ false) × (is_listed cs a ≡ false)
    parts = or_parts (a == c) (is_listed cs a) free

    other : c ≡ a → ⊥
    other e = false≢true (sym parts.0 ∙ eq-eqb a c (sym e))

    by : (b : Bool) → laid (put_in a cs) (put_word a w cs ws) ≡ with_value (laid cs ws) a 4 w
        → laid (if b then a ∷ c ∷ cs else c ∷ put_in a cs) (if b then w ∷ v ∷ ws else v ∷ put_word a w cs ws)
        ≡ with_value (with_value (laid cs ws) c 4 v) a 4 w
    by true rest = refl
    by false rest = ap (λ m. with_value m c 4 v) rest
        ∙ writes_swap (laid cs ws) a 4 w c 4 v (words_apart a c word.0 (All-head IsSoftAddress c cs words).0 other)

-- one less, beside it
pub laid_less : (a q : ℕ) (cs ws : List ℕ) → length ws ≡ length cs → meets a q 1 ≡ false
    → get (laid (without a cs) (without_word a cs ws)) q ≡ get (laid cs ws) q
laid_less a q [] ws alike none = refl
laid_less a q (c ∷ cs) [] alike none = absurd (omega (arith, alike))
laid_less a q (c ∷ cs) (w ∷ ws) alike none = by (a == c) refl (laid_less a q cs ws (less_one w ws (length cs) alike) none)
  where
    by : (b : Bool) → (a == c) ≡ b → get (laid (without a cs) (without_word a cs ws)) q ≡ get (laid cs ws) q
        → get (laid (if b then without a cs else c ∷ without a cs) (if b then without_word a cs ws else w ∷ without_word a cs ws)) q
        ≡ get (with_value (laid cs ws) c 4 w) q
    by true e rest = rest
        ∙ sym (get-with_value (laid cs ws) c 4 w q
        ∙ byte_outside c q w (get (laid cs ws) q) (subst (λ n. meets n q 1 ≡ false) (eqb-true a c e) none))
    by false e rest =
        get-with_value (laid (without a cs) (without_word a cs ws)) c 4 w q ∙ ap (byte_or c 4 w q) rest ∙ sym (get-with_value (laid cs ws) c 4 w q)

-- the word of one that is listed
pub laid_word : (a : ℕ) (cs ws : List ℕ) → All IsSoftAddress cs → length ws ≡ length cs → is_listed cs a ≡ true → word_in a cs ws < 2 ^ 32
    → value_at (laid cs ws) a 4 ≡ Some (word_in a cs ws)
laid_word a [] ws words alike is fits = absurd (false≢true is)
laid_word a (c ∷ cs) [] words alike is fits = absurd (omega (arith, alike))
laid_word a (c ∷ cs) (w ∷ ws) words alike is fits =
    by (a == c) refl is fits (laid_word a cs ws (All-tail IsSoftAddress c cs words) (less_one w ws (length cs) alike))
  where
    whole : (v : ℕ) → v < 2 ^ 32 → v % 256 ^ 4 ≡ v
    whole v less = omega (arith, less)

    by : (b : Bool) → (a == c) ≡ b → (b || is_listed cs a) ≡ true → (if b then w else word_in a cs ws) < 2 ^ 32
        → (is_listed cs a ≡ true → word_in a cs ws < 2 ^ 32 → value_at (laid cs ws) a 4 ≡ Some (word_in a cs ws))
        → value_at (with_value (laid cs ws) c 4 w) a 4 ≡ Some (if b then w else word_in a cs ws)
    by true e more less later =
        ap (λ n. value_at (with_value (laid cs ws) c 4 w) n 4) (eqb-true a c e)
        ∙ value_written (laid cs ws) c 4 w (All-head IsSoftAddress c cs words).1 ∙ ap Some (whole w less)
    by false e more less later =
        value_apart (laid cs ws) c 4 w a 4 (words_apart c a (All-head IsSoftAddress c cs words).0
        (listed_word cs a (All-tail IsSoftAddress c cs words) more).0 (λ same. false≢true (sym e ∙ eq-eqb a c same)))
        ∙ later more less

-- which is there already
pub laid_same : (a : ℕ) (cs ws : List ℕ) → All IsSoftAddress cs → length ws ≡ length cs → is_listed cs a ≡ true
    → with_value (laid cs ws) a 4 (word_in a cs ws) ≡ laid cs ws
laid_same a [] ws words alike is = absurd (false≢true is)
laid_same a (c ∷ cs) [] words alike is = absurd (omega (arith, alike))
laid_same a (c ∷ cs) (w ∷ ws) words alike is =
    by (a == c) refl is (laid_same a cs ws (All-tail IsSoftAddress c cs words) (less_one w ws (length cs) alike))
  where
    by : (b : Bool) → (a == c) ≡ b → (b || is_listed cs a) ≡ true
        → (is_listed cs a ≡ true → with_value (laid cs ws) a 4 (word_in a cs ws) ≡ laid cs ws)
        → with_value (with_value (laid cs ws) c 4 w) a 4 (if b then w else word_in a cs ws) ≡ with_value (laid cs ws) c 4 w
    by true e more later =
        ap (λ n. with_value (with_value (laid cs ws) c 4 w) n 4 w) (eqb-true a c e) ∙ written_over (laid cs ws) c 4 w w
    by false e more later =
        writes_swap (laid cs ws) c 4 w a 4 (word_in a cs ws) (words_apart c a (All-head IsSoftAddress c cs words).0
        (listed_word cs a (All-tail IsSoftAddress c cs words) more).0 (λ same. false≢true (sym e ∙ eq-eqb a c same)))
        ∙ ap (λ m. with_value m c 4 w) (later more)

pub laid_there : (q : ℕ) (cs ws : List ℕ) → length ws ≡ length cs → meets_some cs q 1 ≡ true → is_some (get (laid cs ws) q) ≡ true
laid_there q [] ws alike is = absurd (false≢true is)
laid_there q (c ∷ cs) [] alike is = absurd (omega (arith, alike))
laid_there q (c ∷ cs) (w ∷ ws) alike is = by (meets c q 1) refl is (laid_there q cs ws (less_one w ws (length cs) alike))
  where
    by : (b : Bool) → meets c q 1 ≡ b → (b || meets_some cs q 1) ≡ true → (meets_some cs q 1 ≡ true → is_some (get (laid cs ws) q) ≡ true)
        → is_some (get (with_value (laid cs ws) c 4 w) q) ≡ true
    by true m more later = ap is_some (get-with_value (laid cs ws) c 4 w q)
        ∙ byte_some c 4 w q (get (laid cs ws) q) (meets-within c q m).from (meets-within c q m).less
    by false m more later =
        ap is_some (get-with_value (laid cs ws) c 4 w q ∙ byte_outside c q w (get (laid cs ws) q) m) ∙ later more

-- no byte of a word that was taken out is covered
pub without_clear : (a : ℕ) (cs : List ℕ) → AreSoftAddresses cs → IsSoftAddress a → (q : ℕ) → meets_some (without a cs) q 1 ≡ true → meets a q 1 ≡ false
without_clear a [] are word q is = absurd (false≢true is)
without_clear a (c ∷ cs) are word q is = by (a == c) refl is (without_clear a cs are.1 word q)
  where
    by : (b : Bool) → (a == c) ≡ b → meets_some (if b then without a cs else c ∷ without a cs) q 1 ≡ true
        → (meets_some (without a cs) q 1 ≡ true → meets a q 1 ≡ false) → meets a q 1 ≡ false
    by true e more later = later more
    by false e more later = elim (either_true (meets c q 1) (meets_some (without a cs) q 1) more) [
      | inl m ↦ meets-not a q 1 (apart (meets-within c q m).from (meets-within c q m).less
          (words_apart c a are.0.0 word.0 (λ same. false≢true (sym e ∙ eq-eqb a c same))))
      | inr m ↦ later m
    ]
      where
        apart : c ≤ q → q < c + 4 → Apart c 4 a 4 → Apart a 4 q 1
        apart from less (inl front) = inr (omega (arith, front, less))
        apart from less (inr behind) = inl (omega (arith, behind, from))
