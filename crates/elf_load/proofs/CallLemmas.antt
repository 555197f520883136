-- How many bytes the elements of a segment have, and how many calls segments take at most.
use Rattle.std.proofs.Common.{◌≡◌, ◌≢◌, ◌⊎◌, ℕ, ◌+◌, ◌-◌, ◌/◌, ◌%◌, ◌<◌, ◌≤◌, List, [], ◌∷◌, length, get_or, drop, sym, ap, ◌∙◌, subst, inl, inr, arith}
use Rattle.std.proofs.lemmas.Bool.{cases_eq, cases_lt}
use Rattle.std.proofs.lemmas.Bool.Decides.{nat_tests}
use Rattle.std.proofs.lemmas.List.Sums.{sum_by-cons}
use Rattle.std.specs.List.{sum_by}
use Rattle.rv_model.specs.declared.size.Size.{Size}
use Rattle.rv_model.specs.declared.size.Size.TheVariants.{B1, B2, B4, B8}
use Rattle.elf_load.specs.declared.file.Segment.{Segment}
use Rattle.elf_load.specs.Elements.{to_multiple}
use Rattle.elf_load.specs.Elf.{memory_size}
use Rattle.elf_load.specs.Runs.{calls_from, calls_most, size_from}
use Rattle.elf_load.proofs.SegmentLemmas.{segment_next}

-- ---- the size of an element

pub word_size : (a b : ℕ) → a % 8 ≡ 0 → 8 ≤ b → size_from a b ≡ B8
word_size a b aligned enough = grind (arith, nat_tests)

pub odd_size : (a b : ℕ) → a % 8 ≢ 0 → size_from a b ≡ B1
odd_size a b other = grind (arith, nat_tests)

pub tail_size : (a b : ℕ) → b < 8 → size_from a b ≡ B1
tail_size a b few = grind (arith, nat_tests)

pub B1_is_not_B8 : B1 ≡ B8 → ⊥
B1_is_not_B8 is = absurd (cc)

size_cases : (a b : ℕ) (P : Size → Type 0) → P B1 → P B8 → P (size_from a b)
size_cases a b P one eight = elim (cases_eq (a % 8) 0) [
  | inr odd ↦ subst P (sym (odd_size a b odd)) one
  | inl aligned ↦ elim (cases_lt b 8) [
    | inl few ↦ subst P (sym (tail_size a b few)) one
    | inr enough ↦ subst P (sym (word_size a b aligned enough)) eight
  ]
]

pub no_half : (a b : ℕ) → B2 ≡ size_from a b → ⊥
no_half a b = size_cases a b (λ (s : Size). B2 ≡ s → ⊥) (λ is. absurd (cc)) (λ is. absurd (cc))

pub no_word : (a b : ℕ) → B4 ≡ size_from a b → ⊥
no_word a b = size_cases a b (λ (s : Size). B4 ≡ s → ⊥) (λ is. absurd (cc)) (λ is. absurd (cc))

pub eight_is : (a b : ℕ) → size_from a b ≡ B8 → (a % 8 ≡ 0) × (8 ≤ b)
eight_is a b is = elim (cases_eq (a % 8) 0) [
  | inr odd ↦ absurd (B1_is_not_B8 (sym (odd_size a b odd) ∙ is))
  | inl aligned ↦ elim (cases_lt b 8) [
    | inl few ↦ absurd (B1_is_not_B8 (sym (tail_size a b few) ∙ is))
    | inr enough ↦ (aligned, enough)
  ]
]

-- ---- a run of single bytes

-- a run of single bytes ends at the next multiple of 8, or with the segment soon behind it
abbrev pub IsShort : ℕ → ℕ → ℕ → Type 0
IsShort a bytes n = (n ≤ to_multiple a) ⊎ (bytes < to_multiple a + 8)

pub short_next : (a bytes n : ℕ) → IsShort a bytes n → n < bytes → size_from (a + n) (bytes - n) ≡ B1 → IsShort a bytes (n + 1)
short_next a bytes n (inr few) inside is = inr few
short_next a bytes n (inl upto) inside is = elim (cases_lt n (to_multiple a)) [
  | inl below ↦ inl (omega (arith, below))
  | inr from ↦ elim (cases_lt (bytes - n) 8) [
    | inl few ↦ inr (omega (arith, few, upto, inside))
    | inr enough ↦
        let aligned : (a + n) % 8 ≡ 0 = omega (arith, upto, from) in
        absurd (B1_is_not_B8 (sym is ∙ word_size (a + n) (bytes - n) aligned enough))
  ]
]

-- ---- segments

calls_upto : (a b : ℕ) → calls_from a b ≤ 3 + b / 4096
calls_upto a b = grind (arith, nat_tests)

abbrev pub calls_of : List Segment → ℕ
calls_of segments = sum_by (λ (s : Segment). calls_from s.address s.in_memory) segments

pub calls_within : (segments : List Segment) → calls_of segments ≤ calls_most segments
calls_within [] = omega arith
calls_within (s ∷ segments) =
    let e : calls_of (s ∷ segments) ≡ calls_from s.address s.in_memory + calls_of segments =
    sum_by-cons (λ (t : Segment). calls_from t.address t.in_memory) s segments in
    let m : memory_size (s ∷ segments) ≡ s.in_memory + memory_size segments = sum_by-cons (λ (t : Segment). t.in_memory) s segments in
    omega (arith, e, m, calls_upto s.address s.in_memory, calls_within segments)

pub rest_of_calls : (segments : List Segment) (i : ℕ) (d : Segment) → i < length segments
    → calls_of (drop i segments)
    ≡ calls_from ((get_or segments i d).address + 0) ((get_or segments i d).in_memory - 0) + calls_of (drop (i + 1) segments)
rest_of_calls segments i d inside =
    let s : Segment = get_or segments i d in
    let here : s.address ≡ s.address + 0 = omega arith in
    let all : s.in_memory ≡ s.in_memory - 0 = omega arith in
    ap calls_of (segment_next segments i d inside)
    ∙ sum_by-cons (λ (t : Segment). calls_from t.address t.in_memory) s (drop (i + 1) segments)
    ∙ ap (λ n. calls_from n s.in_memory + calls_of (drop (i + 1) segments)) here
    ∙ ap (λ n. calls_from (s.address + 0) n + calls_of (drop (i + 1) segments)) all
