-- What a file without a fault has: segments that lie within it, and as few bytes of memory as elements allow.
use Rattle.std.proofs.Common.{
  ◌≡◌,
  ℕ,
  zero,
  suc,
  ◌+◌,
  ◌*◌,
  ◌<◌,
  ◌≤◌,
  ◌^◌,
  Bool,
  true,
  false,
  cond,
  not,
  List,
  [],
  ◌∷◌,
  ◌++◌,
  length,
  get_or,
  drop,
  flat_map,
  Option,
  Some,
  None,
  refl,
  ap,
  ◌∙◌,
  arith,
}
use Rattle.std.proofs.lemmas.Bool.{ltb-false}
use Rattle.std.proofs.lemmas.List.Sums.{sum_by-cons}
use Rattle.std.specs.List.{list_any}
use Rattle.elf_load.specs.declared.fault.ElfFault.{ElfFault}
use Rattle.elf_load.specs.declared.fault.ElfFault.TheVariants.{Short, NotElf, Kind, Headers, Segment as BadSegment, TooLarge}
use Rattle.elf_load.specs.declared.file.Elf.{Elf}
use Rattle.elf_load.specs.declared.file.Segment.{Segment}
use Rattle.elf_load.specs.Elements.{bytes_of, cut, elements_of}
use Rattle.elf_load.specs.Elf.{
  ReadsAs,
  elements,
  elements_most,
  has_bad_segment,
  has_bad_table,
  is_bad_segment,
  is_short,
  is_too_large,
  memory_size,
  refusal_of,
}
use Rattle.elf_load.specs.Fields.{begins_as_elf, is_known_kind, segments_of}
use Rattle.elf_load.proofs.CutLemmas.{length-cut}
use Rattle.elf_load.proofs.CutSteps.{cut_nothing}
use Rattle.elf_load.specs.declared.element.Element.{Element}
use Rattle.std.proofs.lemmas.List.{drop_all}
use Rattle.elf_load.proofs.SegmentLemmas.{Lies, length-bytes_of, length-flat_map-cons, lies, none_behind, none_here, segment_next}

-- ---- a file without a fault

passed : (b : Bool) (f : ElfFault) (next : Option ElfFault) → cond b (Some f) next ≡ None → b ≡ false
passed false f next is = refl
passed true f next is = absurd (cc)

left : (b : Bool) (f : ElfFault) (next : Option ElfFault) → cond b (Some f) next ≡ None → next ≡ None
left false f next is = is
left true f next is = absurd (cc)

behind_headers : (file : List ℕ) → refusal_of file ≡ None
    → cond (has_bad_segment file) (Some BadSegment) (cond (is_too_large file) (Some TooLarge) None) ≡ None
behind_headers file sound =
    left (has_bad_table file) Headers _ (left (not (is_known_kind file)) Kind _ (left (not (begins_as_elf file)) NotElf _ (left (is_short file) Short _ sound)))

pub no_bad_segment : (file : List ℕ) → refusal_of file ≡ None → has_bad_segment file ≡ false
no_bad_segment file sound = passed (has_bad_segment file) BadSegment _ (behind_headers file sound)

pub few_elements : (file : List ℕ) → refusal_of file ≡ None → length (elements file) ≤ elements_most
few_elements file sound =
    ltb-false elements_most (length (elements file))
    (passed (is_too_large file) TooLarge None (left (has_bad_segment file) BadSegment _ (behind_headers file sound)))

-- ---- its segments

sound_from : (size i : ℕ) (segments : List Segment) (d : Segment) → list_any (is_bad_segment size) segments ≡ false → i < length segments
    → Lies size (get_or segments i d)
sound_from size i [] d none inside = absurd (omega arith)
sound_from size zero (s ∷ segments) d none inside = lies size s (none_here (is_bad_segment size) s (s ∷ segments) segments refl none)
sound_from size (suc i) (s ∷ segments) d none inside =
    sound_from size i segments d (none_behind (is_bad_segment size) s (s ∷ segments) segments refl none) (omega arith)

pub segment_lies : (file : List ℕ) (elf : Elf) (segments : List Segment) (i : ℕ) (d : Segment) → ReadsAs file elf → segments ≡ elf.segments.items
    → i < length segments → Lies (length file) (get_or segments i d)
segment_lies file elf segments i d read same inside =
    let none : list_any (is_bad_segment (length file)) segments ≡ false =
    ap (list_any (is_bad_segment (length file))) (same ∙ read.segments_are) ∙ no_bad_segment file read.sound in
    sound_from (length file) i segments d none inside

pub rest_of_elements : (file : List ℕ) (segments : List Segment) (i : ℕ) (d : Segment) → i < length segments
    → flat_map (elements_of file) (drop i segments)
    ≡ cut ((get_or segments i d).address + 0) (drop 0 (bytes_of file (get_or segments i d))) ++ flat_map (elements_of file) (drop (i + 1) segments)
rest_of_elements file segments i d inside =
    let s : Segment = get_or segments i d in
    let here : s.address ≡ s.address + 0 = omega arith in
    ap (flat_map (elements_of file)) (segment_next segments i d inside)
    ∙ ap (λ n. cut n (bytes_of file s) ++ flat_map (elements_of file) (drop (i + 1) segments)) here

-- ---- how many bytes they have in memory

element_bytes : (file : List ℕ) (s : Segment) → Lies (length file) s → s.in_memory ≤ 8 * length (elements_of file s)
element_bytes file s l = omega (arith, length-bytes_of file s l, length-cut s.address (bytes_of file s))

memory_bound : (file : List ℕ) (segments : List Segment) → list_any (is_bad_segment (length file)) segments ≡ false
    → memory_size segments ≤ 8 * length (flat_map (elements_of file) segments)
memory_bound file [] none = omega arith
memory_bound file (s ∷ segments) none =
    let here = element_bytes file s (lies (length file) s (none_here (is_bad_segment (length file)) s (s ∷ segments) segments refl none)) in
    let behind = memory_bound file segments (none_behind (is_bad_segment (length file)) s (s ∷ segments) segments refl none) in
    let size : memory_size (s ∷ segments) ≡ s.in_memory + memory_size segments = sum_by-cons (λ (t : Segment). t.in_memory) s segments in
    omega (arith, here, behind, size, length-flat_map-cons file s (s ∷ segments) segments refl)

pub memory_most : (file : List ℕ) (elf : Elf) (segments : List Segment) → ReadsAs file elf → segments ≡ elf.segments.items
    → memory_size segments ≤ 8 * elements_most
memory_most file elf segments read same =
    let is : segments ≡ segments_of file = same ∙ read.segments_are in
    let bound = memory_bound file (segments_of file) (no_bad_segment file read.sound) in
    omega (arith, ap memory_size is, bound, few_elements file read.sound)

pub memory_fits : (file : List ℕ) (elf : Elf) (segments : List Segment) → ReadsAs file elf → segments ≡ elf.segments.items → memory_size segments < 2 ^ 64
memory_fits file elf segments read same = omega (arith, memory_most file elf segments read same)

one_of : (segments : List Segment) (i : ℕ) (d : Segment) → i < length segments → (get_or segments i d).in_memory ≤ memory_size segments
one_of [] i d inside = absurd (omega arith)
one_of (s ∷ segments) zero d inside =
    let size : memory_size (s ∷ segments) ≡ s.in_memory + memory_size segments = sum_by-cons (λ (t : Segment). t.in_memory) s segments in
    omega (arith, size)
one_of (s ∷ segments) (suc i) d inside =
    let size : memory_size (s ∷ segments) ≡ s.in_memory + memory_size segments = sum_by-cons (λ (t : Segment). t.in_memory) s segments in
    omega (arith, size, one_of segments i d (omega arith))

pub segment_small : (file : List ℕ) (elf : Elf) (segments : List Segment) (i : ℕ) (d : Segment) → ReadsAs file elf → segments ≡ elf.segments.items
    → i < length segments → (get_or segments i d).in_memory < 2 ^ 64
segment_small file elf segments i d read same inside = omega (arith, one_of segments i d inside, memory_fits file elf segments read same)

-- ---- the segments behind

pub rest_is_none : (file : List ℕ) (segments : List Segment) (i : ℕ) → length segments ≤ i → flat_map (elements_of file) (drop i segments) ≡ []
rest_is_none file segments i past = ap (flat_map (elements_of file)) (drop_all i segments past)

pub segment_is_done : (file : List ℕ) (s : Segment) (done : ℕ) (rest : List Element) → Lies (length file) s → s.in_memory ≤ done
    → cut (s.address + done) (drop done (bytes_of file s)) ++ rest ≡ rest
segment_is_done file s done rest l past =
    let none : drop done (bytes_of file s) ≡ [] = drop_all done (bytes_of file s) (omega (arith, length-bytes_of file s l)) in
    ap (λ x. cut (s.address + done) x ++ rest) none ∙ ap (λ x. x ++ rest) (cut_nothing (s.address + done))
