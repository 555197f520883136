-- Memory with patches: reads and writes beside the covered words go through them, and a covered word reads as an ebreak.
use Rattle.std.proofs.Common.{◌≡◌, ◌∙◌, ◌+◌, ◌%◌, ◌<◌, ◌≤◌, ℕ, Bool, true, false, ◌&&◌, ◌||◌, ◌⊎◌, List, [], ◌∷◌, Option, Some, None, is_some, Ok, Err}
use Rattle.std.proofs.Common.{refl, sym, ap, subst, if◌then◌else◌, inl, inr, arith}
use Rattle.std.specs.Prelude.{◌==◌, nat_lt}
use Rattle.std.specs.FinMap.{get}
use Rattle.std.proofs.lemmas.Bool.{and_parts, cases_eq, cases_lt, eq-eqb, eqb-true, false≢true, le-ltb, lt-ltb, ltb-false, ltb-true, ne_eqb, or_parts}
use Rattle.rv_model.specs.declared.mem_fault.MemFault.TheVariants.{Misaligned, Outside}
use Rattle.rv_model.specs.declared.size.Size.{Size}
use Rattle.rv_model.specs.declared.size.Size.TheVariants.{B4}
use Rattle.rv_model.specs.Laws.{answered}
use Rattle.rv_model.specs.Memory.{Bytes, Memory, fetch_of, is_aligned, loaded, or_outside, ram_base, value_at, with_value}
use Rattle.rv_model.specs.Size.{count_of}
use Rattle.rv_model.proofs.MemoryLemmas.{fetch_high}
use Rattle.soft_laws.specs.SoftBreaks.{AreInside, AreSoftAddresses, IsSoftAddress, ebreak_word, is_listed, meets, meets_some, patched_bytes, patched_memory}
use Rattle.soft_laws.proofs.ByteLemmas.{Apart, byte_above, byte_below, byte_or, byte_some, get-with_value, value_apart, value_there, value_written}
use Rattle.soft_laws.proofs.ByteLemmas.{writes_swap}

-- ---- words apart

pub meets-apart : (c a n : ℕ) → meets c a n ≡ false → Apart c 4 a n
meets-apart c a n is = by (nat_lt a (c + 4)) (nat_lt c (a + n)) refl refl is
  where
    by : (x y : Bool) → nat_lt a (c + 4) ≡ x → nat_lt c (a + n) ≡ y → (x && y) ≡ false → Apart c 4 a n
    by false y ex ey none = inl (ltb-false a (c + 4) ex)
    by true false ex ey none = inr (ltb-false c (a + n) ey)
    by true true ex ey none = absurd (false≢true (sym none))

pub meets-not : (c a n : ℕ) → Apart c 4 a n → meets c a n ≡ false
meets-not c a n (inl front) = ap (λ b. b && nat_lt c (a + n)) (le-ltb a (c + 4) front)
meets-not c a n (inr behind) = ap (λ b. nat_lt a (c + 4) && b) (le-ltb c (a + n) behind) ∙ and_nothing (nat_lt a (c + 4))
  where
    and_nothing : (b : Bool) → (b && false) ≡ false
    and_nothing true = refl
    and_nothing false = refl

pub record Within (c q : ℕ) : Type 0 where
  pub from : c ≤ q
  pub less : q < c + 4

pub meets-within : (c q : ℕ) → meets c q 1 ≡ true → Within c q
meets-within c q is =
    let parts = and_parts (nat_lt q (c + 4)) (nat_lt c (q + 1)) is in
    let last : c < q + 1 = ltb-true c (q + 1) parts.1 in
    record { from = omega arith; less = ltb-true q (c + 4) parts.0 }

-- a byte of a word meets it
pub meets-here : (c q : ℕ) → c ≤ q → q < c + 4 → meets c q 1 ≡ true
meets-here c q from less = ap (λ b. b && nat_lt c (q + 1)) (lt-ltb q (c + 4) less) ∙ lt-ltb c (q + 1) (omega (arith, from))

pub words_apart : (c a : ℕ) → c % 4 ≡ 0 → a % 4 ≡ 0 → (a ≡ c → ⊥) → Apart c 4 a 4
words_apart c a ec ea other = elim (cases_lt a c) [
  | inl less ↦ inr (omega (arith, ec, ea, less))
  | inr more ↦ elim (cases_lt c a) [
    | inl less ↦ inl (omega (arith, ec, ea, less))
    | inr same ↦ absurd (other (omega (arith, more, same)))
  ]
]

pub either_true : (x y : Bool) → (x || y) ≡ true → (x ≡ true) ⊎ (y ≡ true)
either_true true y is = inl refl
either_true false y is = inr is

-- ---- addresses that are listed

pub listed-here : (c : ℕ) (cs : List ℕ) (a : ℕ) → a ≡ c → is_listed (c ∷ cs) a ≡ true
listed-here c cs a e = ap (λ b. b || is_listed cs a) (eq-eqb a c e)

pub listed-there : (c : ℕ) (cs : List ℕ) (a : ℕ) → is_listed cs a ≡ true → is_listed (c ∷ cs) a ≡ true
listed-there c cs a is = by (a == c) (is_listed cs a) is
  where
    by : (x y : Bool) → y ≡ true → (x || y) ≡ true
    by true y e = refl
    by false y e = e

pub listed-soft : (cs : List ℕ) → AreSoftAddresses cs → (a : ℕ) → is_listed cs a ≡ true → IsSoftAddress a
listed-soft [] are a is = absurd (false≢true is)
listed-soft (c ∷ cs) are a is = elim (either_true (a == c) (is_listed cs a) is) [
  | inl e ↦ subst IsSoftAddress (sym (eqb-true a c e)) are.0
  | inr later ↦ listed-soft cs are.1 a later
]

pub uncovered-apart : (cs : List ℕ) → AreSoftAddresses cs → (a : ℕ) → a % 4 ≡ 0 → is_listed cs a ≡ false → meets_some cs a 4 ≡ false
uncovered-apart [] are a aligned none = refl
uncovered-apart (c ∷ cs) are a aligned none =
    let parts = or_parts (a == c) (is_listed cs a) none in
    let other : a ≡ c → ⊥ = (λ e. false≢true (sym parts.0 ∙ eq-eqb a c e)) in
    ap (λ b. b || meets_some cs a 4) (meets-not c a 4 (words_apart c a are.0.0 aligned other)) ∙ uncovered-apart cs are.1 a aligned parts.1

-- ---- reads and writes

pub patched-write : (cs : List ℕ) (m : Bytes) (a n v : ℕ) → meets_some cs a n ≡ false
    → with_value (patched_bytes cs m) a n v ≡ patched_bytes cs (with_value m a n v)
unfolding patched_bytes
patched-write [] m a n v none = refl
patched-write (c ∷ cs) m a n v none =
    let parts = or_parts (meets c a n) (meets_some cs a n) none in
    writes_swap (patched_bytes cs m) c 4 ebreak_word a n v (meets-apart c a n parts.0)
    ∙ ap (λ b. with_value b c 4 ebreak_word) (patched-write cs m a n v parts.1)

pub patched-read : (cs : List ℕ) (m : Bytes) (a n : ℕ) → meets_some cs a n ≡ false → value_at (patched_bytes cs m) a n ≡ value_at m a n
unfolding patched_bytes
patched-read [] m a n none = refl
patched-read (c ∷ cs) m a n none =
    let parts = or_parts (meets c a n) (meets_some cs a n) none in
    value_apart (patched_bytes cs m) c 4 ebreak_word a n (meets-apart c a n parts.0) ∙ patched-read cs m a n parts.1

pub patched-covered : (cs : List ℕ) → AreSoftAddresses cs → (m : Bytes) (a : ℕ) → is_listed cs a ≡ true → value_at (patched_bytes cs m) a 4 ≡ Some ebreak_word
unfolding patched_bytes
patched-covered [] are m a is = absurd (false≢true is)
patched-covered (c ∷ cs) are m a is = elim (cases_eq a c) [
  | inl e ↦ ap (λ n. value_at (with_value (patched_bytes cs m) c 4 ebreak_word) n 4) e ∙ value_written (patched_bytes cs m) c 4 ebreak_word are.0.1
  | inr other ↦
      let later : is_listed cs a ≡ true = sym (ap (λ b. b || is_listed cs a) (ne_eqb a c other)) ∙ is in
      value_apart (patched_bytes cs m) c 4 ebreak_word a 4 (words_apart c a are.0.0 (listed-soft cs are.1 a later).0 other)
      ∙ patched-covered cs are.1 m a later
]

-- ---- single bytes

-- a byte of memory with patches, from that without
abbrev pub patched_or : List ℕ → ℕ → Option ℕ → Option ℕ
patched_or [] q o = o
patched_or (c ∷ cs) q o = byte_or c 4 ebreak_word q (patched_or cs q o)

pub get-patched : (cs : List ℕ) (m : Bytes) (q : ℕ) → get (patched_bytes cs m) q ≡ patched_or cs q (get m q)
unfolding patched_bytes
get-patched [] m q = refl
get-patched (c ∷ cs) m q = get-with_value (patched_bytes cs m) c 4 ebreak_word q ∙ ap (byte_or c 4 ebreak_word q) (get-patched cs m q)

pub byte_outside : (c q v : ℕ) (o : Option ℕ) → meets c q 1 ≡ false → byte_or c 4 v q o ≡ o
byte_outside c q v o none = elim (meets-apart c q 1 none) [
  | inl front ↦ byte_above c 4 v q o front
  | inr behind ↦ byte_below c 4 v q o (omega (arith, behind))
]

pub uncovered_byte : (cs : List ℕ) (q : ℕ) (o : Option ℕ) → meets_some cs q 1 ≡ false → patched_or cs q o ≡ o
uncovered_byte [] q o none = refl
uncovered_byte (c ∷ cs) q o none =
    let parts = or_parts (meets c q 1) (meets_some cs q 1) none in
    byte_outside c q ebreak_word (patched_or cs q o) parts.0 ∙ uncovered_byte cs q o parts.1

pub covered_byte : (cs : List ℕ) (q : ℕ) (o : Option ℕ) → meets_some cs q 1 ≡ true → is_some (patched_or cs q o) ≡ true
covered_byte [] q o is = absurd (false≢true is)
covered_byte (c ∷ cs) q o is = by (meets c q 1) refl (covered_byte cs q o)
  where
    by : (b : Bool) → meets c q 1 ≡ b → (meets_some cs q 1 ≡ true → is_some (patched_or cs q o) ≡ true)
        → is_some (byte_or c 4 ebreak_word q (patched_or cs q o)) ≡ true
    by true e later = byte_some c 4 ebreak_word q (patched_or cs q o) (meets-within c q e).from (meets-within c q e).less
    by false e later =
        ap is_some (byte_outside c q ebreak_word (patched_or cs q o) e)
        ∙ later (sym (ap (λ b. b || meets_some cs q 1) e) ∙ is)

-- patches of words that lie inside add no byte
pub patched-there : (cs : List ℕ) (m : Bytes) → AreInside cs m → (q : ℕ) → is_some (get (patched_bytes cs m) q) ≡ is_some (get m q)
patched-there cs m inside q = ap is_some (get-patched cs m q) ∙ by (meets_some cs q 1) refl
  where
    by : (b : Bool) → meets_some cs q 1 ≡ b → is_some (patched_or cs q (get m q)) ≡ is_some (get m q)
    by true e = covered_byte cs q (get m q) e ∙ sym (inside q e)
    by false e = ap is_some (uncovered_byte cs q (get m q) e)

-- ---- loads

pub loaded-patched : (cs : List ℕ) (m : Memory) (a : ℕ) (size : Size) → meets_some cs a (count_of size) ≡ false
    → loaded (patched_memory cs m) a size ≡ loaded m a size
unfolding loaded
loaded-patched cs m a size none =
    ap (λ o. if is_aligned a size then or_outside o else Err Misaligned) (patched-read cs m.bytes a (count_of size) none)

answered_there : (x y : Option ℕ) → is_some x ≡ is_some y → answered (or_outside x) ≡ answered (or_outside y)
answered_there None None e = refl
answered_there None (Some y) e = absurd (cc)
answered_there (Some x) None e = absurd (cc)
answered_there (Some x) (Some y) e = refl

-- what is refused doesn't depend on patches
pub answered-patched : (cs : List ℕ) (m : Memory) (a : ℕ) (size : Size) → AreInside cs m.bytes
    → answered (loaded (patched_memory cs m) a size) ≡ answered (loaded m a size)
unfolding loaded
answered-patched cs m a size inside = by (is_aligned a size)
  where
    by : (b : Bool) → answered (if b then or_outside (value_at (patched_bytes cs m.bytes) a (count_of size)) else Err Misaligned)
        ≡ answered (if b then or_outside (value_at m.bytes a (count_of size)) else Err Misaligned)
    by true = answered_there (value_at (patched_bytes cs m.bytes) a (count_of size)) (value_at m.bytes a (count_of size))
        (value_there (patched_bytes cs m.bytes) m.bytes a (count_of size) (λ q from less. patched-there cs m.bytes inside q))
    by false = refl

-- the word at a pc that isn't covered
word-patched : (cs : List ℕ) (m : Memory) (pc : ℕ) → AreSoftAddresses cs → is_listed cs pc ≡ false → loaded (patched_memory cs m) pc B4 ≡ loaded m pc B4
unfolding loaded
word-patched cs m pc are none = by (is_aligned pc B4) refl
  where
    by : (b : Bool) → is_aligned pc B4 ≡ b → (if b then or_outside (value_at (patched_bytes cs m.bytes) pc 4) else Err Misaligned)
        ≡ (if b then or_outside (value_at m.bytes pc 4) else Err Misaligned)
    by true e = ap or_outside (patched-read cs m.bytes pc 4 (uncovered-apart cs are pc (eqb-true (pc % 4) 0 e) none))
    by false e = refl

pub fetched-patched : (cs : List ℕ) (m : Memory) (pc : ℕ) → AreSoftAddresses cs → is_listed cs pc ≡ false → fetch_of (patched_memory cs m) pc ≡ fetch_of m pc
unfolding fetch_of
fetched-patched cs m pc are none = ap (λ r. if nat_lt pc ram_base then Err Outside else r) (word-patched cs m pc are none)

-- and at one that is
word-covered : (cs : List ℕ) (m : Memory) (pc : ℕ) → AreSoftAddresses cs → is_listed cs pc ≡ true → loaded (patched_memory cs m) pc B4 ≡ Ok ebreak_word
unfolding loaded
word-covered cs m pc are is =
    ap (λ b. if b then or_outside (value_at (patched_bytes cs m.bytes) pc 4) else Err Misaligned)
    (eq-eqb (pc % 4) 0 (listed-soft cs are pc is).0)
    ∙ ap or_outside (patched-covered cs are m.bytes pc is)

pub fetched-covered : (cs : List ℕ) (m : Memory) (pc : ℕ) → AreSoftAddresses cs → is_listed cs pc ≡ true → fetch_of (patched_memory cs m) pc ≡ Ok ebreak_word
fetched-covered cs m pc are is = fetch_high (patched_memory cs m) pc (listed-soft cs are pc is).1 ∙ word-covered cs m pc are is
