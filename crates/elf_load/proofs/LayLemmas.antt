-- Elements stored in order are their bytes laid one after another, and what stands at an address behind that.
use Rattle.std.proofs.Common.{
  ◌≡◌,
  ℕ,
  zero,
  suc,
  ◌+◌,
  ◌-◌,
  ◌*◌,
  ◌/◌,
  ◌%◌,
  ◌<◌,
  ◌≤◌,
  Bool,
  true,
  false,
  cond,
  ◌&&◌,
  List,
  [],
  ◌∷◌,
  ◌++◌,
  length,
  get_or,
  take,
  drop,
  replicate,
  flat_map,
  nat_le,
  nat_lt,
  Option,
  Some,
  refl,
  sym,
  ap,
  ◌∙◌,
  inl,
  inr,
  ◌⊎◌,
  arith,
  length-drop,
}
use Rattle.std.proofs.lemmas.Bool.{cases_eq, cases_lt, eq-eqb, le-leb, le-ltb, lt-leb, lt-ltb, ne_eqb}
use Rattle.std.proofs.lemmas.List.{get_or-append_right, get_or-drop, get_or-replicate, get_or-take, get_or_append_left, get_or_past, length-take}
use Rattle.std.specs.Cmp.{nat_cmp_total, unsigned_tied}
use Rattle.std.specs.FinMap.{get, get-insert, insert}
use Rattle.std.specs.List.{list_any}
use Rattle.std.specs.Ordering.{eq_by_cmp, nat_cmp}
use Rattle.rv_model.specs.Memory.{Bytes, kept_byte, with_value}
use Rattle.rv_model.specs.Size.{count_of}
use Rattle.elf_load.specs.declared.element.Element.{Element}
use Rattle.elf_load.specs.declared.file.Segment.{Segment}
use Rattle.elf_load.specs.Elements.{bytes_of, cut, elements_of}
use Rattle.elf_load.specs.Elf.{is_bad_segment}
use Rattle.elf_load.specs.Fields.{number_of}
use Rattle.elf_load.specs.Laws.{byte_of, covered, laid, with_elements}
use Rattle.elf_load.proofs.CutSteps.{cut_nothing, cut_single, cut_word}
use Rattle.elf_load.proofs.SegmentLemmas.{Lies, length-bytes_of, lies, none_behind, none_here}

-- ---- bytes one after another

-- as writes keep them
abbrev pub with_bytes : Bytes → ℕ → List ℕ → Bytes
with_bytes m a [] = m
with_bytes m a (b ∷ bytes) = with_bytes (insert m a (kept_byte a b)) (a + 1) bytes

-- each is a byte
abbrev pub AreBytes : List ℕ → Type 0
AreBytes bytes = (i : ℕ) → get_or bytes i 0 < 256

behind_bytes : (b : ℕ) (bytes : List ℕ) → AreBytes (b ∷ bytes) → AreBytes bytes
behind_bytes b bytes small = λ i. small (suc i)

dropped_bytes : (n : ℕ) (bytes : List ℕ) → AreBytes bytes → AreBytes (drop n bytes)
dropped_bytes zero bytes small = small
dropped_bytes (suc n) [] small = small
dropped_bytes (suc n) (b ∷ bytes) small = dropped_bytes n bytes (behind_bytes b bytes small)

-- a number's lowest bytes are those that spell it
value_laid : (n a : ℕ) (m : Bytes) (bytes : List ℕ) → AreBytes bytes → n ≤ length bytes
    → with_value m a n (number_of (take n bytes)) ≡ with_bytes m a (take n bytes)
value_laid zero a m bytes small enough = refl
value_laid (suc n) a m [] small enough = absurd (omega arith)
value_laid (suc n) a m (b ∷ bytes) small enough =
    let v : ℕ = number_of (take n bytes) in
    let here : b < 256 = small 0 in
    let low : (b + 256 * v) % 256 ≡ b = omega (arith, here) in
    let high : (b + 256 * v) / 256 ≡ v = omega (arith, here) in
    ap (λ k. with_value (insert m a (kept_byte a k)) (a + 1) n ((b + 256 * v) / 256)) low ∙ ap (λ k. with_value (insert m a (kept_byte a b)) (a + 1) n k) high
    ∙ value_laid n (a + 1) (insert m a (kept_byte a b)) bytes (behind_bytes b bytes small) (omega arith)

laid_on : (n a : ℕ) (m : Bytes) (bytes : List ℕ) → n ≤ length bytes → with_bytes m a bytes ≡ with_bytes (with_bytes m a (take n bytes)) (a + n) (drop n bytes)
laid_on zero a m bytes enough = let e : a ≡ a + 0 = omega arith in ap (λ k. with_bytes m k bytes) e
laid_on (suc n) a m [] enough = absurd (omega arith)
laid_on (suc n) a m (b ∷ bytes) enough =
    let e : a + 1 + n ≡ a + suc n = omega arith in
    laid_on n (a + 1) (insert m a (kept_byte a b)) bytes (omega arith)
    ∙ ap (λ k. with_bytes (with_bytes (insert m a (kept_byte a b)) (a + 1) (take n bytes)) k (drop n bytes)) e

-- ---- the elements of bytes

single_laid : (m : Bytes) (a b : ℕ) → b < 256 → with_value m a 1 b ≡ insert m a (kept_byte a b)
single_laid m a b small = let e : b % 256 ≡ b = omega arith in ap (λ k. insert m a (kept_byte a k)) e

single_step : (a b : ℕ) (m : Bytes) (bytes : List ℕ) → b < 256 → (a % 8 ≡ 0 → length bytes < 7)
    → with_elements (insert m a (kept_byte a b)) (cut (a + 1) bytes) ≡ with_bytes (insert m a (kept_byte a b)) (a + 1) bytes
    → with_elements m (cut a (b ∷ bytes)) ≡ with_bytes m a (b ∷ bytes)
single_step a b m bytes small short behind =
    ap (with_elements m) (cut_single a b bytes short) ∙ ap (λ k. with_elements k (cut (a + 1) bytes)) (single_laid m a b small) ∙ behind

-- with at most so many bytes
cut_laid : (most a : ℕ) (m : Bytes) (bytes : List ℕ) → length bytes ≤ most → AreBytes bytes → with_elements m (cut a bytes) ≡ with_bytes m a bytes
cut_laid most a m [] few small = ap (with_elements m) (cut_nothing a)
cut_laid zero a m (b ∷ bytes) few small = absurd (omega arith)
cut_laid (suc most) a m (b ∷ bytes) few small =
    let behind : with_elements (insert m a (kept_byte a b)) (cut (a + 1) bytes) ≡ with_bytes (insert m a (kept_byte a b)) (a + 1) bytes =
    cut_laid most (a + 1) (insert m a (kept_byte a b)) bytes (omega arith) (behind_bytes b bytes small) in
    elim (cases_eq (a % 8) 0) [
      | inl aligned ↦ elim (cases_lt (length (b ∷ bytes)) 8) [
        | inl short ↦ single_step a b m bytes (small 0) (λ e. omega (arith, short)) behind
        | inr enough ↦
            let word : List ℕ = b ∷ bytes in
            let left : length (drop 8 word) ≤ most = omega (arith, few, enough, length-drop 8 word) in
            ap (with_elements m) (cut_word a word aligned enough)
            ∙ ap (λ k. with_elements k (cut (a + 8) (drop 8 word))) (value_laid 8 a m word small enough)
            ∙ cut_laid most (a + 8) (with_bytes m a (take 8 word)) (drop 8 word) left (dropped_bytes 8 word small)
            ∙ sym (laid_on 8 a m word enough)
      ]
      | inr other ↦ single_step a b m bytes (small 0) (λ e. absurd (other e)) behind
    ]

-- ---- what stands at an address

same_key : (q k : ℕ) → q ≡ k → eq_by_cmp nat_cmp q k ≡ true
same_key q k is = unsigned_tied q k ∙ eq-eqb q k is

other_key : (q k : ℕ) → (q ≡ k → ⊥) → eq_by_cmp nat_cmp q k ≡ false
other_key q k h = unsigned_tied q k ∙ ne_eqb q k h

get_out : (bytes : List ℕ) (a x : ℕ) (m : Bytes) → (x < a) ⊎ (a + length bytes ≤ x) → get (with_bytes m a bytes) x ≡ get m x
get_out [] a x m h = refl
get_out (b ∷ bytes) a x m (inl below) =
    get_out bytes (a + 1) x (insert m a (kept_byte a b)) (inl (omega arith)) ∙ get-insert nat_cmp_total m a (kept_byte a b) x
    ∙ ap (λ t. cond t (Some (kept_byte a b)) (get m x)) (other_key x a (λ e. omega arith))
get_out (b ∷ bytes) a x m (inr above) =
    get_out bytes (a + 1) x (insert m a (kept_byte a b)) (inr (omega arith)) ∙ get-insert nat_cmp_total m a (kept_byte a b) x
    ∙ ap (λ t. cond t (Some (kept_byte a b)) (get m x)) (other_key x a (λ e. omega arith))

get_in : (bytes : List ℕ) (a x i : ℕ) (m : Bytes) → x ≡ a + i → i < length bytes → get (with_bytes m a bytes) x ≡ Some (kept_byte x (get_or bytes i 0))
get_in [] a x i m at inside = absurd (omega arith)
get_in (b ∷ bytes) a x zero m at inside =
    get_out bytes (a + 1) x (insert m a (kept_byte a b)) (inl (omega arith)) ∙ get-insert nat_cmp_total m a (kept_byte a b) x
    ∙ ap (λ t. cond t (Some (kept_byte a b)) (get m x)) (same_key x a (omega arith))
    ∙ ap (λ k. Some (kept_byte k b)) (omega arith)
get_in (b ∷ bytes) a x (suc i) m at inside = get_in bytes (a + 1) x i (insert m a (kept_byte a b)) (omega arith) (omega arith)

-- ---- the bytes of a segment

byte_is : (file : List ℕ) (s : Segment) (i : ℕ) → Lies (length file) s → i < s.in_memory → get_or (bytes_of file s) i 0 ≡ byte_of file s i
unfolding bytes_of
byte_is file s i l inside =
    let xs : List ℕ = take s.in_file (drop s.offset file) in
    let zeros : List ℕ = replicate (s.in_memory - s.in_file) 0 in
    let long : length xs ≡ s.in_file = omega (arith, l.in_file, length-take s.in_file (drop s.offset file), length-drop s.offset file) in
    elim (cases_lt i s.in_file) [
      | inl there ↦
          get_or_append_left xs zeros 0 i (omega (arith, long, there)) ∙ get_or-take s.in_file (drop s.offset file) i 0 there
          ∙ get_or-drop s.offset file i 0 ∙ ap (λ t. cond t (get_or file (s.offset + i) 0) 0) (sym (lt-ltb i s.in_file there))
      | inr behind ↦
          get_or-append_right xs zeros s.in_file i 0 long behind
          ∙ get_or-replicate (s.in_memory - s.in_file) (i - s.in_file) 0 0 (omega (arith, behind, inside))
          ∙ ap (λ t. cond t (get_or file (s.offset + i) 0) 0) (sym (le-ltb i s.in_file behind))
    ]

byte_small : (file : List ℕ) (s : Segment) (i : ℕ) → AreBytes file → byte_of file s i < 256
byte_small file s i small = elim (cases_lt i s.in_file) [
  | inl there ↦
      let e : byte_of file s i ≡ get_or file (s.offset + i) 0 = ap (λ t. cond t (get_or file (s.offset + i) 0) 0) (lt-ltb i s.in_file there) in
      omega (arith, e, small (s.offset + i))
  | inr behind ↦
      let e : byte_of file s i ≡ 0 = ap (λ t. cond t (get_or file (s.offset + i) 0) 0) (le-ltb i s.in_file behind) in
      omega (arith, e)
]

bytes_small : (file : List ℕ) (s : Segment) → Lies (length file) s → AreBytes file → AreBytes (bytes_of file s)
bytes_small file s l small = λ i. elim (cases_lt i s.in_memory) [
  | inl inside ↦ let e = byte_is file s i l inside in omega (arith, e, byte_small file s i small)
  | inr past ↦ let e = get_or_past (bytes_of file s) i 0 (omega (arith, past, length-bytes_of file s l)) in omega (arith, e)
]

-- ---- segments

both : (b c : Bool) → b ≡ true → c ≡ true → (b && c) ≡ true
both b c p q = ap (λ t. t && c) p ∙ q

first_off : (b c : Bool) → b ≡ false → (b && c) ≡ false
first_off b c p = ap (λ t. t && c) p

second_off : (b c : Bool) → c ≡ false → (b && c) ≡ false
second_off false c q = refl
second_off true c q = q

segment_laid : (file : List ℕ) (s : Segment) (m : Bytes) (x : ℕ) → Lies (length file) s → AreBytes file
    → get (with_elements m (elements_of file s)) x ≡ covered file s x (get m x)
segment_laid file s m x l small =
    let bytes : List ℕ = bytes_of file s in
    let whole : length bytes ≡ s.in_memory = length-bytes_of file s l in
    let b : Bool = nat_le s.address x in
    let c : Bool = nat_lt x (s.address + s.in_memory) in
    let byte : Option ℕ = Some (kept_byte x (byte_of file s (x - s.address))) in
    let as_bytes : get (with_elements m (elements_of file s)) x ≡ get (with_bytes m s.address bytes) x =
    ap (λ k. get k x) (cut_laid (length bytes) s.address m bytes (omega arith) (bytes_small file s l small)) in
    as_bytes ∙ elim (cases_lt x s.address) [
      | inl below ↦
          get_out bytes s.address x m (inl below) ∙ ap (λ t. cond t byte (get m x)) (sym (first_off b c (lt-leb s.address x below)))
      | inr from ↦ elim (cases_lt x (s.address + s.in_memory)) [
        | inl inside ↦
            get_in bytes s.address x (x - s.address) m (omega (arith, from)) (omega (arith, whole, from, inside))
            ∙ ap (λ v. Some (kept_byte x v)) (byte_is file s (x - s.address) l (omega (arith, from, inside)))
            ∙ ap (λ t. cond t byte (get m x)) (sym (both b c (le-leb s.address x from) (lt-ltb x (s.address + s.in_memory) inside)))
        | inr past ↦
            get_out bytes s.address x m (inr (omega (arith, whole, past)))
            ∙ ap (λ t. cond t byte (get m x)) (sym (second_off b c (le-ltb x (s.address + s.in_memory) past)))
      ]
    ]

elements-append : (m : Bytes) (xs ys : List Element) → with_elements m (xs ++ ys) ≡ with_elements (with_elements m xs) ys
elements-append m [] ys = refl
elements-append m (e ∷ xs) ys = elements-append (with_value m e.address (count_of e.size) e.value) xs ys

pub segments_laid : (file : List ℕ) (segments : List Segment) (m : Bytes) (x : ℕ) → AreBytes file
    → list_any (is_bad_segment (length file)) segments ≡ false
    → get (with_elements m (flat_map (elements_of file) segments)) x ≡ laid file segments x (get m x)
segments_laid file [] m x small none = refl
segments_laid file (s ∷ segments) m x small none =
    let l : Lies (length file) s = lies (length file) s (none_here (is_bad_segment (length file)) s (s ∷ segments) segments refl none) in
    let behind : Bytes = with_elements m (elements_of file s) in
    ap (λ k. get k x) (elements-append m (elements_of file s) (flat_map (elements_of file) segments))
    ∙ segments_laid file segments behind x small (none_behind (is_bad_segment (length file)) s (s ∷ segments) segments refl none)
    ∙ ap (laid file segments x) (segment_laid file s m x l small)
