-- The segments of program headers one by one, and how many elements they have.
use Rattle.std.proofs.Common.{
  ◌≡◌,
  ℕ,
  suc,
  ◌+◌,
  ◌-◌,
  ◌<◌,
  ◌≤◌,
  Bool,
  true,
  false,
  cond,
  ◌||◌,
  List,
  [],
  ◌∷◌,
  ◌++◌,
  length,
  get_or,
  take,
  drop,
  map,
  flat_map,
  nat_lt,
  refl,
  sym,
  ap,
  ◌∙◌,
  arith,
  append_assoc,
  add-one,
  drop-cons,
  length-append,
  length-drop,
}
use Rattle.std.proofs.lemmas.Bool.{ltb-false}
use Rattle.std.proofs.lemmas.List.{length-replicate, length-take}
use Rattle.std.specs.List.{filter, list_any}
use Rattle.elf_load.specs.declared.file.Segment.{Segment}
use Rattle.elf_load.specs.Elements.{bytes_of, cut, elements_of}
use Rattle.elf_load.specs.Elf.{all_addresses, is_bad_segment}
use Rattle.elf_load.specs.Fields.{is_load, load_segments, program_headers, segment_of}

-- ---- program headers

kept_by : (b : Bool) (x : List ℕ) (xs : List (List ℕ)) → b ≡ true → map segment_of (cond b (x ∷ xs) xs) ≡ segment_of x ∷ map segment_of xs
kept_by b x xs is = ap (λ t. map segment_of (cond t (x ∷ xs) xs)) is

skipped_by : (b : Bool) (x : List ℕ) (xs : List (List ℕ)) → b ≡ false → map segment_of (cond b (x ∷ xs) xs) ≡ map segment_of xs
skipped_by b x xs is = ap (λ t. map segment_of (cond t (x ∷ xs) xs)) is

-- the next header is of a segment to be loaded
pub load_kept : (n m : ℕ) (table header behind : List ℕ) → n ≡ suc m → header ≡ take 56 table → behind ≡ drop 56 table → is_load header ≡ true
    → load_segments n table ≡ segment_of header ∷ load_segments m behind
load_kept n m table header behind count front back is =
    ap (λ k. load_segments k table) count
    ∙ kept_by (is_load (take 56 table)) (take 56 table) (filter is_load (program_headers m (drop 56 table))) (ap is_load (sym front) ∙ is)
    ∙ ap (λ h. segment_of h ∷ load_segments m (drop 56 table)) (sym front) ∙ ap (λ t. segment_of header ∷ load_segments m t) (sym back)

-- it isn't
pub load_skipped : (n m : ℕ) (table header behind : List ℕ) → n ≡ suc m → header ≡ take 56 table → behind ≡ drop 56 table → is_load header ≡ false
    → load_segments n table ≡ load_segments m behind
load_skipped n m table header behind count front back is =
    ap (λ k. load_segments k table) count
    ∙ skipped_by (is_load (take 56 table)) (take 56 table) (filter is_load (program_headers m (drop 56 table))) (ap is_load (sym front) ∙ is)
    ∙ ap (λ t. load_segments m t) (sym back)

-- ---- a test of segments

either_true : (a b : Bool) → a ≡ true → (a || b) ≡ true
either_true a b is = ap (λ t. t || b) is

second_left : (a b : Bool) → a ≡ false → (a || b) ≡ b
second_left a b is = ap (λ t. t || b) is

pub any_here : (p : Segment → Bool) (s : Segment) (xs ys : List Segment) → xs ≡ s ∷ ys → p s ≡ true → list_any p xs ≡ true
any_here p s xs ys is holds = ap (list_any p) is ∙ either_true (p s) (list_any p ys) holds

pub any_behind : (p : Segment → Bool) (s : Segment) (xs ys : List Segment) → xs ≡ s ∷ ys → p s ≡ false → list_any p xs ≡ list_any p ys
any_behind p s xs ys is fails = ap (list_any p) is ∙ second_left (p s) (list_any p ys) fails

first_false : (a b : Bool) → (a || b) ≡ false → a ≡ false
first_false false b h = refl
first_false true b h = h

second_false : (a b : Bool) → (a || b) ≡ false → b ≡ false
second_false false b h = h
second_false true b h = absurd (cc)

pub none_here : (p : Segment → Bool) (s : Segment) (xs ys : List Segment) → xs ≡ s ∷ ys → list_any p xs ≡ false → p s ≡ false
none_here p s xs ys is none = first_false (p s) (list_any p ys) (ap (list_any p) (sym is) ∙ none)

pub none_behind : (p : Segment → Bool) (s : Segment) (xs ys : List Segment) → xs ≡ s ∷ ys → list_any p xs ≡ false → list_any p ys ≡ false
none_behind p s xs ys is none = second_false (p s) (list_any p ys) (ap (list_any p) (sym is) ∙ none)

-- ---- a segment that isn't bad

pub record Lies (size : ℕ) (s : Segment) : Type 0 where
  pub in_file : s.offset + s.in_file ≤ size
  pub grows : s.in_file ≤ s.in_memory
  pub in_addresses : s.address + s.in_memory ≤ all_addresses

pub lies : (size : ℕ) (s : Segment) → is_bad_segment size s ≡ false → Lies size s
lies size s fine =
    let a : Bool = nat_lt size (s.offset + s.in_file) in
    let b : Bool = nat_lt s.in_memory s.in_file in
    let c : Bool = nat_lt all_addresses (s.address + s.in_memory) in
    let front : (a || b) ≡ false = first_false (a || b) c fine in
    record {
      in_file = ltb-false size (s.offset + s.in_file) (first_false a b front);
      grows = ltb-false s.in_memory s.in_file (second_false a b front);
      in_addresses = ltb-false all_addresses (s.address + s.in_memory) (second_false (a || b) c fine);
    }

pub length-bytes_of : (file : List ℕ) (s : Segment) → Lies (length file) s → length (bytes_of file s) ≡ s.in_memory
unfolding bytes_of
length-bytes_of file s l =
    omega (
      arith,
      l.in_file,
      l.grows,
      length-append {A = ℕ},
      length-take s.in_file (drop s.offset file),
      length-drop s.offset file,
      length-replicate {A = ℕ} (s.in_memory - s.in_file) 0,
    )

-- ---- how many elements

pub length-flat_map-cons : (file : List ℕ) (s : Segment) (xs ys : List Segment) → xs ≡ s ∷ ys
    → length (flat_map (elements_of file) xs) ≡ length (elements_of file s) + length (flat_map (elements_of file) ys)
length-flat_map-cons file s xs ys is =
    ap (λ l. length (flat_map (elements_of file) l)) is ∙ length-append (elements_of file s) (flat_map (elements_of file) ys)

-- ---- lists that are taken from the front

pub moved_on : (done now xs ys : List Segment) (s : Segment) → now ≡ done ++ s ∷ [] → xs ≡ s ∷ ys → now ++ ys ≡ done ++ xs
moved_on done now xs ys s push is = ap (λ l. l ++ ys) push ∙ append_assoc done (s ∷ []) ys ∙ ap (λ l. done ++ l) (sym is)

pub segment_next : (segments : List Segment) (i : ℕ) (d : Segment) → i < length segments → drop i segments ≡ get_or segments i d ∷ drop (i + 1) segments
segment_next segments i d inside = rw add-one (drop-cons segments i d inside)

-- ---- the elements of a segment are counted

pub counted_next : (file : List ℕ) (s : Segment) (xs ys : List Segment) (count : ℕ) → xs ≡ s ∷ ys → list_any (is_bad_segment (length file)) xs ≡ false
    → ((bytes : List ℕ) → length bytes ≡ s.in_memory → length (cut s.address bytes) ≡ count)
    → length (flat_map (elements_of file) xs) ≡ count + length (flat_map (elements_of file) ys)
counted_next file s xs ys count is fine counts =
    let whole = length-bytes_of file s (lies (length file) s (none_here (is_bad_segment (length file)) s xs ys is fine)) in
    length-flat_map-cons file s xs ys is ∙ ap (λ n. n + length (flat_map (elements_of file) ys)) (counts (bytes_of file s) whole)
