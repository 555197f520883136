-- What the table of a debugger gives back and keeps: hiding takes patches off, a patch of one word moves through the others, and a merged write
-- is a write below patches.
use Rattle.std.proofs.Common.{◌≡◌, ◌∙◌, ◌+◌, ◌*◌, ◌/◌, ◌%◌, ◌<◌, ◌≤◌, ◌⊎◌, ℕ, zero, suc, Bool, true, false, cond, ◌||◌, List, [], ◌∷◌, Option, Some, None}
use Rattle.std.proofs.Common.{is_some, refl, sym, ap, if◌then◌else◌, inl, inr, arith}
use Rattle.std.specs.Prelude.{◌==◌}
use Rattle.std.specs.FinMap.{get, get-remove}
use Rattle.std.specs.Cmp.{nat_cmp_total, unsigned_tied}
use Rattle.std.proofs.lemmas.Bool.{cases_eq, cases_lt, eq-eqb, eqb-true, false≢true, ne_eqb, or_parts}
use Rattle.rv_model.specs.Memory.{Bytes, kept_byte, ram_base, with_value}
use Rattle.rv_model.proofs.MapLemmas.{kept_high}
use Rattle.soft_laws.specs.Lowered.{copied, ebreak_over, hidden_bytes, merged, merged_byte, put, where_held}
use Rattle.soft_laws.specs.SoftBreaks.{AreInside, AreSoftAddresses, IsSoftAddress, ebreak_word, meets, meets_some, patched_by, patched_bytes, without}
use Rattle.soft_laws.proofs.ByteLemmas.{Place, byte_or, byte_some, byte_within, get-with_value, get_insert, place_of, same_bytes, writes_swap}
use Rattle.soft_laws.proofs.ByteLemmas.{byte_above, byte_below, byte_or-whole, written_over}
use Rattle.soft_laws.proofs.ByteLemmas.Place.{below, within, above}
use Rattle.soft_laws.proofs.PatchedLemmas.{covered_byte, either_true, get-patched, meets-apart, meets-within, patched_or, uncovered_byte, words_apart}

-- ---- hiding

get-put : (o : Option ℕ) (a : ℕ) (m : Bytes) (q : ℕ) → get (put o a m) q ≡ (if q == a then o else get m q)
get-put (Some v) a m q = get_insert m a v q
get-put None a m q = get-remove nat_cmp_total m a q ∙ ap (λ b. cond b None (get m q)) (unsigned_tied q a)

-- the byte at q of a map into which another's bytes x are copied
abbrev copied_or : ℕ → ℕ → ℕ → Option ℕ → Option ℕ → Option ℕ
copied_or a zero q x o = o
copied_or a (suc n) q x o = if q == a then where_held o x else copied_or (a + 1) n q x o

get-copied : (from : Bytes) (a n : ℕ) (m : Bytes) (q : ℕ) → get (copied from a n m) q ≡ copied_or a n q (get from q) (get m q)
get-copied from a zero m q = refl
get-copied from a (suc n) m q =
    get-put (where_held (get m a) (get from a)) a (copied from (a + 1) n m) q
    ∙ ap (λ o. if q == a then where_held (get m a) (get from a) else o) (get-copied from (a + 1) n m q)
    ∙ same_source (q == a) refl (copied_or (a + 1) n q (get from q) (get m q))
  where
    same_source : (b : Bool) → (q == a) ≡ b → (o : Option ℕ)
        → (if b then where_held (get m a) (get from a) else o) ≡ (if b then where_held (get m q) (get from q) else o)
    same_source true e o = ap (λ k. where_held (get m k) (get from k)) (sym (eqb-true q a e))
    same_source false e o = refl

copied_within : (a n q : ℕ) (x o : Option ℕ) → a ≤ q → q < a + n → copied_or a n q x o ≡ where_held o x
copied_within a zero q x o from less = absurd (omega arith)
copied_within a (suc n) q x o from less = elim (cases_eq q a) [
  | inl e ↦ ap (λ b. if b then where_held o x else copied_or (a + 1) n q x o) (eq-eqb q a e)
  | inr other ↦ ap (λ b. if b then where_held o x else copied_or (a + 1) n q x o) (ne_eqb q a other)
      ∙ copied_within (a + 1) n q x o (omega arith) (omega arith)
]

copied_below : (a n q : ℕ) (x o : Option ℕ) → q < a → copied_or a n q x o ≡ o
copied_below a zero q x o less = refl
copied_below a (suc n) q x o less =
    ap (λ b. if b then where_held o x else copied_or (a + 1) n q x o) (ne_eqb q a (λ e. absurd (omega arith))) ∙ copied_below (a + 1) n q x o (omega arith)

copied_above : (a n q : ℕ) (x o : Option ℕ) → a + n ≤ q → copied_or a n q x o ≡ o
copied_above a zero q x o more = refl
copied_above a (suc n) q x o more =
    ap (λ b. if b then where_held o x else copied_or (a + 1) n q x o) (ne_eqb q a (λ e. absurd (omega arith))) ∙ copied_above (a + 1) n q x o (omega arith)

copied_outside : (c q : ℕ) (x o : Option ℕ) → meets c q 1 ≡ false → copied_or c 4 q x o ≡ o
copied_outside c q x o none = elim (meets-apart c q 1 none) [
  | inl front ↦ copied_above c 4 q x o front
  | inr behind ↦ copied_below c 4 q x o (omega (arith, behind))
]

abbrev pub hidden_or : List ℕ → ℕ → Option ℕ → Option ℕ → Option ℕ
hidden_or [] q x o = o
hidden_or (c ∷ cs) q x o = copied_or c 4 q x (hidden_or cs q x o)

pub get-hidden : (cs : List ℕ) (originals m : Bytes) (q : ℕ) → get (hidden_bytes cs originals m) q ≡ hidden_or cs q (get originals q) (get m q)
unfolding hidden_bytes
get-hidden [] originals m q = refl
get-hidden (c ∷ cs) originals m q =
    get-copied originals c 4 (hidden_bytes cs originals m) q ∙ ap (copied_or c 4 q (get originals q)) (get-hidden cs originals m q)

pub hidden_uncovered : (cs : List ℕ) (q : ℕ) (x o : Option ℕ) → meets_some cs q 1 ≡ false → hidden_or cs q x o ≡ o
hidden_uncovered [] q x o none = refl
hidden_uncovered (c ∷ cs) q x o none =
    let parts = or_parts (meets c q 1) (meets_some cs q 1) none in
    copied_outside c q x (hidden_or cs q x o) parts.0 ∙ hidden_uncovered cs q x o parts.1

held_twice : (o x : Option ℕ) → where_held (where_held o x) x ≡ where_held o x
held_twice None x = refl
held_twice (Some v) None = refl
held_twice (Some v) (Some w) = refl

pub hidden_covered : (cs : List ℕ) (q : ℕ) (x o : Option ℕ) → meets_some cs q 1 ≡ true → hidden_or cs q x o ≡ where_held o x
hidden_covered [] q x o is = absurd (false≢true is)
hidden_covered (c ∷ cs) q x o is = by (meets c q 1) refl (meets_some cs q 1) refl (hidden_covered cs q x o)
  where
    rest : (b : Bool) → meets_some cs q 1 ≡ b → (meets_some cs q 1 ≡ true → hidden_or cs q x o ≡ where_held o x)
        → where_held (hidden_or cs q x o) x ≡ where_held o x
    rest true e later = ap (λ h. where_held h x) (later e) ∙ held_twice o x
    rest false e later = ap (λ h. where_held h x) (hidden_uncovered cs q x o e)

    by : (b : Bool) → meets c q 1 ≡ b → (more : Bool) → meets_some cs q 1 ≡ more → (meets_some cs q 1 ≡ true → hidden_or cs q x o ≡ where_held o x)
        → copied_or c 4 q x (hidden_or cs q x o) ≡ where_held o x
    by true e more f later = copied_within c 4 q x (hidden_or cs q x o) (meets-within c q e).from (meets-within c q e).less ∙ rest more f later
    by false e more f later = copied_outside c q x (hidden_or cs q x o) e ∙ later (sym (ap (λ b. b || meets_some cs q 1) e) ∙ is)

-- where memory holds the byte
pub hidden_held : (cs : List ℕ) (q : ℕ) (x o : Option ℕ) → meets_some cs q 1 ≡ true → is_some o ≡ true → hidden_or cs q x o ≡ x
hidden_held cs q x o is held = hidden_covered cs q x o is ∙ by o held
  where
    by : (o : Option ℕ) → is_some o ≡ true → where_held o x ≡ x
    by None e = absurd (false≢true e)
    by (Some v) e = refl

abbrev pub Remembers : List ℕ → (originals m : Bytes) → Type 0
Remembers cs originals m = (q : ℕ) → meets_some cs q 1 ≡ true → get originals q ≡ get m q

-- with the originals remembered, hiding takes the patches off
pub hidden-patched : (cs : List ℕ) (originals m : Bytes) → Remembers cs originals m → hidden_bytes cs originals (patched_bytes cs m) ≡ m
hidden-patched cs originals m remembers = same_bytes (hidden_bytes cs originals (patched_bytes cs m)) m (λ q.
    get-hidden cs originals (patched_bytes cs m) q ∙ by q (meets_some cs q 1) refl)
  where
    by : (q : ℕ) (b : Bool) → meets_some cs q 1 ≡ b → hidden_or cs q (get originals q) (get (patched_bytes cs m) q) ≡ get m q
    by q true e =
        hidden_held cs q (get originals q) (get (patched_bytes cs m) q) e (ap is_some (get-patched cs m q) ∙ covered_byte cs q (get m q) e) ∙ remembers q e
    by q false e =
        hidden_uncovered cs q (get originals q) (get (patched_bytes cs m) q) e ∙ get-patched cs m q ∙ uncovered_byte cs q (get m q) e

-- ---- one patch

-- where a word is uncovered, by writing its original
pub patch-off : (cs : List ℕ) → AreSoftAddresses cs → (m : Bytes) (a original : ℕ) → IsSoftAddress a
    → with_value (patched_bytes cs m) a 4 original ≡ patched_bytes (without a cs) (with_value m a 4 original)
unfolding patched_bytes
patch-off [] are m a original aligned = refl
patch-off (c ∷ cs) are m a original aligned = by (a == c) refl (patch-off cs are.1 m a original aligned)
  where
    by : (b : Bool) → (a == c) ≡ b
        → with_value (patched_bytes cs m) a 4 original ≡ patched_bytes (without a cs) (with_value m a 4 original)
        → with_value (with_value (patched_bytes cs m) c 4 ebreak_word) a 4 original
        ≡ patched_bytes (if b then without a cs else c ∷ without a cs) (with_value m a 4 original)
    by true e later =
        ap (λ n. with_value (with_value (patched_bytes cs m) n 4 ebreak_word) a 4 original) (sym (eqb-true a c e))
        ∙ written_over (patched_bytes cs m) a 4 ebreak_word original ∙ later
    by false e later =
        writes_swap (patched_bytes cs m) c 4 ebreak_word a 4 original
        (words_apart c a are.0.0 aligned.0 (λ is. false≢true (sym e ∙ eq-eqb a c is)))
        ∙ ap (λ b. with_value b c 4 ebreak_word) later

-- where one is covered, by writing the ebreak
pub patch-on : (cs : List ℕ) → AreSoftAddresses cs → (m : Bytes) (a original : ℕ) → IsSoftAddress a
    → with_value (patched_bytes cs m) a 4 ebreak_word ≡ patched_bytes (a ∷ without a cs) (with_value m a 4 original)
unfolding patched_bytes
patch-on cs are m a original aligned =
    sym (written_over (patched_bytes cs m) a 4 original ebreak_word)
    ∙ ap (λ b. with_value b a 4 ebreak_word) (patch-off cs are m a original aligned)

pub patch-moves : (covers : Bool) (cs : List ℕ) → AreSoftAddresses cs → (m : Bytes) (a original : ℕ) → IsSoftAddress a
    → with_value (patched_bytes cs m) a 4 (if covers then ebreak_word else original) ≡ patched_bytes (patched_by covers a cs) (with_value m a 4 original)
patch-moves true cs are m a original aligned = patch-on cs are m a original aligned
patch-moves false cs are m a original aligned = patch-off cs are m a original aligned

-- ---- a merged write

pub ebreak_bytes : (c q byte : ℕ) → ram_base ≤ c → byte_or c 4 ebreak_word q (Some byte) ≡ Some (ebreak_over c q byte)
ebreak_bytes c q byte high =
    byte_or-whole c 4 ebreak_word q (Some byte) high
    ∙ ap (λ n. if q == n then Some 0x00 else (if q == c + 1 + 1 then Some 0x10 else (if q == c + 1 then Some 0x00 else
    (if q == c then Some 0x73 else Some byte))))
    (third c)
    ∙ ap (λ n. if q == c + 3 then Some 0x00 else (if q == n then Some 0x10 else (if q == c + 1 then Some 0x00 else
    (if q == c then Some 0x73 else Some byte))))
    (second c)
    ∙ five (q == c + 3) (q == c + 2) (q == c + 1) (q == c)
  where
    third : (c : ℕ) → c + 1 + 1 + 1 ≡ c + 3
    third c = omega arith

    second : (c : ℕ) → c + 1 + 1 ≡ c + 2
    second c = omega arith

    five : (t s r p : Bool) → (if t then Some 0x00 else (if s then Some 0x10 else (if r then Some 0x00 else (if p then Some 0x73 else Some byte))))
        ≡ Some (if t then 0x00 else (if s then 0x10 else (if r then 0x00 else (if p then 0x73 else byte))))
    five true s r p = refl
    five false true r p = refl
    five false false true p = refl
    five false false false true = refl
    five false false false false = refl

patched_some : (cs : List ℕ) → AreSoftAddresses cs → (q byte : ℕ) → patched_or cs q (Some byte) ≡ Some (merged_byte cs q byte)
patched_some [] are q byte = refl
patched_some (c ∷ cs) are q byte = ap (byte_or c 4 ebreak_word q) (patched_some cs are.1 q byte) ∙ ebreak_bytes c q (merged_byte cs q byte) are.0.1

-- below RAM no word is covered
merged_low : (cs : List ℕ) → AreSoftAddresses cs → (q byte : ℕ) → q < ram_base → merged_byte cs q byte ≡ byte
merged_low [] are q byte low = refl
merged_low (c ∷ cs) are q byte low =
    let beside : (k : ℕ) → c ≤ k → (q == k) ≡ false = λ k from. ne_eqb q k (λ e. absurd (omega (arith, e, from, low, are.0.1))) in
    ap (λ b. if b then 0x00 else (if q == c + 2 then 0x10 else (if q == c + 1 then 0x00 else (if q == c then 0x73 else merged_byte cs q byte)))) (beside
    (c + 3) (omega arith))
    ∙ ap (λ b. if b then 0x10 else (if q == c + 1 then 0x00 else (if q == c then 0x73 else merged_byte cs q byte))) (beside (c + 2) (omega arith))
    ∙ ap (λ b. if b then 0x00 else (if q == c then 0x73 else merged_byte cs q byte)) (beside (c + 1) (omega arith))
    ∙ ap (λ b. if b then 0x73 else merged_byte cs q byte) (beside c (omega arith))
    ∙ merged_low cs are.1 q byte low

-- so it is the same to keep of a merged byte and to merge what is kept
merged_kept : (cs : List ℕ) → AreSoftAddresses cs → (q byte : ℕ) → kept_byte q (merged_byte cs q byte) ≡ merged_byte cs q (kept_byte q byte)
merged_kept cs are q byte = elim (cases_lt q ram_base) [
  | inl low ↦ ap (kept_byte q) (merged_low cs are q byte low) ∙ sym (merged_low cs are q (kept_byte q byte) low)
  | inr high ↦ kept_high q (merged_byte cs q byte) high ∙ ap (merged_byte cs q) (sym (kept_high q byte high))
]

pub merged_small : (cs : List ℕ) (q byte : ℕ) → byte < 256 → merged_byte cs q byte < 256
merged_small [] q byte small = small
merged_small (c ∷ cs) q byte small = by (q == c + 3) (q == c + 2) (q == c + 1) (q == c) (merged_byte cs q byte) (merged_small cs q byte small)
  where
    by : (t s r p : Bool) (n : ℕ) → n < 256 → (if t then 0x00 else (if s then 0x10 else (if r then 0x00 else (if p then 0x73 else n)))) < 256
    by true s r p n small = omega arith
    by false true r p n small = omega arith
    by false false true p n small = omega arith
    by false false false true n small = omega arith
    by false false false false n small = small

merged_at : (cs : List ℕ) → AreSoftAddresses cs → (a n v q : ℕ) (o : Option ℕ)
    → byte_or a n (merged cs a n v) q (patched_or cs q o) ≡ patched_or cs q (byte_or a n v q o)
unfolding merged
merged_at cs are a zero v q o = refl
merged_at cs are a (suc n) v q o =
    ap (λ rest. byte_or (a + 1) n rest q (if q == a then Some (kept_byte a (merged cs a (suc n) v % 256)) else patched_or cs q o))
    (higher x y (merged_small cs a (v % 256) (omega arith)))
    ∙ ap (λ byte. byte_or (a + 1) n y q (if q == a then Some (kept_byte a byte) else patched_or cs q o))
    (lowest x y (merged_small cs a (v % 256) (omega arith)))
    ∙ ap (byte_or (a + 1) n y q) (first (q == a) refl)
    ∙ merged_at cs are (a + 1) n (v / 256) q (if q == a then Some (kept_byte a (v % 256)) else o)
  where
    x : ℕ
    x = merged_byte cs a (v % 256)

    y : ℕ
    y = merged cs (a + 1) n (v / 256)

    higher : (x y : ℕ) → x < 256 → (x + 256 * y) / 256 ≡ y
    higher x y small = omega arith

    lowest : (x y : ℕ) → x < 256 → (x + 256 * y) % 256 ≡ x
    lowest x y small = omega arith

    first : (b : Bool) → (q == a) ≡ b
        → (if b then Some (kept_byte a x) else patched_or cs q o) ≡ patched_or cs q (if b then Some (kept_byte a (v % 256)) else o)
    first true e =
        ap Some (merged_kept cs are a (v % 256))
        ∙ sym (ap (λ p. patched_or cs p (Some (kept_byte a (v % 256)))) (eqb-true q a e) ∙ patched_some cs are a (kept_byte a (v % 256)))
    first false e = refl

-- a merged write is a write below the patches
pub merged-write : (cs : List ℕ) → AreSoftAddresses cs → (m : Bytes) (a n v : ℕ)
    → with_value (patched_bytes cs m) a n (merged cs a n v) ≡ patched_bytes cs (with_value m a n v)
merged-write cs are m a n v = same_bytes (with_value (patched_bytes cs m) a n (merged cs a n v)) (patched_bytes cs (with_value m a n v)) (λ q.
    get-with_value (patched_bytes cs m) a n (merged cs a n v) q ∙ ap (byte_or a n (merged cs a n v) q) (get-patched cs m q)
    ∙ merged_at cs are a n v q (get m q) ∙ ap (patched_or cs q) (sym (get-with_value m a n v q)) ∙ sym (get-patched cs (with_value m a n v) q))

-- ---- the table

pub without-meets : (a : ℕ) (cs : List ℕ) (q n : ℕ) → meets_some (without a cs) q n ≡ true → meets_some cs q n ≡ true
without-meets a [] q n is = is
without-meets a (c ∷ cs) q n is = by (a == c) is (without-meets a cs q n)
  where
    later : (x y : Bool) → y ≡ true → (x || y) ≡ true
    later true y e = refl
    later false y e = e

    by : (b : Bool) → meets_some (if b then without a cs else c ∷ without a cs) q n ≡ true
        → (meets_some (without a cs) q n ≡ true → meets_some cs q n ≡ true) → (meets c q n || meets_some cs q n) ≡ true
    by true is more = later (meets c q n) (meets_some cs q n) (more is)
    by false is more = elim (either_true (meets c q n) (meets_some (without a cs) q n) is) [
      | inl e ↦ ap (λ b. b || meets_some cs q n) e
      | inr e ↦ later (meets c q n) (meets_some cs q n) (more e)
    ]

pub without-aligned : (a : ℕ) (cs : List ℕ) → AreSoftAddresses cs → AreSoftAddresses (without a cs)
without-aligned a [] are = are
without-aligned a (c ∷ cs) are = by (a == c) (without-aligned a cs are.1)
  where
    by : (b : Bool) → AreSoftAddresses (without a cs) → AreSoftAddresses (if b then without a cs else c ∷ without a cs)
    by true more = more
    by false more = (are.0, more)

pub patched-aligned : (covers : Bool) (a : ℕ) (cs : List ℕ) → IsSoftAddress a → AreSoftAddresses cs → AreSoftAddresses (patched_by covers a cs)
patched-aligned true a cs aligned are = (aligned, without-aligned a cs are)
patched-aligned false a cs aligned are = without-aligned a cs are

pub remembers-write : (cs : List ℕ) (originals m : Bytes) (a n v : ℕ) → Remembers cs originals m → Remembers cs (with_value originals a n v)
    (with_value m a n v)
remembers-write cs originals m a n v remembers q is =
    get-with_value originals a n v q ∙ ap (byte_or a n v q) (remembers q is) ∙ sym (get-with_value m a n v q)

-- a byte that is patched now was patched before, or is one of the word that is covered
patched_either : (covers : Bool) (a : ℕ) (cs : List ℕ) (q : ℕ) → meets_some (patched_by covers a cs) q 1 ≡ true
    → (meets a q 1 ≡ true) ⊎ (meets_some cs q 1 ≡ true)
patched_either true a cs q is = elim (either_true (meets a q 1) (meets_some (without a cs) q 1) is) [
  | inl e ↦ inl e
  | inr e ↦ inr (without-meets a cs q 1 e)
]
patched_either false a cs q is = inr (without-meets a cs q 1 is)

pub remembers-patch : (covers : Bool) (a original : ℕ) (cs : List ℕ) (originals m : Bytes) → Remembers cs originals m
    → Remembers (patched_by covers a cs) (with_value originals a 4 original) (with_value m a 4 original)
remembers-patch covers a original cs originals m remembers q is = elim (patched_either covers a cs q is) [
  | inl e ↦ get-with_value originals a 4 original q
      ∙ byte_within a 4 original q (get originals q) (get m q) (meets-within a q e).from (meets-within a q e).less ∙ sym (get-with_value m a 4 original q)
  | inr e ↦ get-with_value originals a 4 original q ∙ ap (byte_or a 4 original q) (remembers q e) ∙ sym (get-with_value m a 4 original q)
]

-- ---- bytes that are there

kept_at : (a n v q : ℕ) (o : Option ℕ) → is_some o ≡ true → Place a n q → is_some (byte_or a n v q o) ≡ true
kept_at a n v q o is (below less) = ap is_some (byte_below a n v q o less) ∙ is
kept_at a n v q o is (above more) = ap is_some (byte_above a n v q o more) ∙ is
kept_at a n v q o is (within from less) = byte_some a n v q o from less

-- a write takes no byte away
pub written-there : (m : Bytes) (a n v q : ℕ) → is_some (get m q) ≡ true → is_some (get (with_value m a n v) q) ≡ true
written-there m a n v q is = ap is_some (get-with_value m a n v q) ∙ kept_at a n v q (get m q) is (place_of a n q)

pub inside-write : (cs : List ℕ) (m : Bytes) (a n v : ℕ) → AreInside cs m → AreInside cs (with_value m a n v)
inside-write cs m a n v inside q is = written-there m a n v q (inside q is)

pub inside-patch : (covers : Bool) (a original : ℕ) (cs : List ℕ) (m : Bytes) → AreInside cs m → AreInside (patched_by covers a cs)
    (with_value m a 4 original)
inside-patch covers a original cs m inside q is = elim (patched_either covers a cs q is) [
  | inl e ↦ ap is_some (get-with_value m a 4 original q)
      ∙ byte_some a 4 original q (get m q) (meets-within a q e).from (meets-within a q e).less
  | inr e ↦ written-there m a 4 original q (inside q e)
]
