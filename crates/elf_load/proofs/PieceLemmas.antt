-- The number in bytes of a segment: of what the file has of them.
use Rattle.std.proofs.Common.{
  ◌≡◌,
  ℕ,
  zero,
  suc,
  ◌+◌,
  ◌-◌,
  ◌*◌,
  ◌≤◌,
  List,
  [],
  ◌∷◌,
  ◌++◌,
  length,
  min,
  take,
  drop,
  replicate,
  refl,
  sym,
  ap,
  ◌∙◌,
  arith,
  length-drop,
}
use Rattle.std.proofs.lemmas.List.{drop-replicate, length-take, take-replicate}
use Rattle.std.proofs.Math.Seq.{drop-drop}
use Rattle.elf_load.specs.declared.file.Segment.{Segment}
use Rattle.elf_load.specs.Elements.{bytes_of}
use Rattle.elf_load.specs.Fields.{number_of}

-- ---- zeros behind

no_value : (n : ℕ) → number_of (replicate n 0) ≡ 0
no_value zero = refl
no_value (suc n) = ap (λ k. 0 + 256 * k) (no_value n)

zeros_behind : (xs : List ℕ) (n : ℕ) → number_of (xs ++ replicate n 0) ≡ number_of xs
zeros_behind [] n = no_value n
zeros_behind (x ∷ xs) n = ap (λ k. x + 256 * k) (zeros_behind xs n)

zeros_same : (m n : ℕ) → m ≡ n → replicate {A = ℕ} m 0 ≡ replicate {A = ℕ} n 0
zeros_same m n is = ap (λ k. replicate {A = ℕ} k 0) is

front_then_zeros : (xs : List ℕ) (k count : ℕ) → count ≤ length xs + k
    → take count (xs ++ replicate k 0) ≡ take count xs ++ replicate (count - length (take count xs)) 0
front_then_zeros [] k zero h = refl
front_then_zeros [] k (suc count) h = take-replicate (suc count) k 0 (omega arith) ∙ zeros_same (suc count) (suc count - 0) (omega arith)
front_then_zeros (x ∷ xs) k zero h = refl
front_then_zeros (x ∷ xs) k (suc count) h =
    let left : count - length (take count xs) ≡ suc count - suc (length (take count xs)) = omega arith in
    ap (λ l. x ∷ l) (front_then_zeros xs k count (omega arith) ∙ ap (λ l. take count xs ++ l) (zeros_same _ _ left))

piece : (xs : List ℕ) (k done count : ℕ) → done + count ≤ length xs + k
    → take count (drop done (xs ++ replicate k 0)) ≡ take count (drop done xs) ++ replicate (count - length (take count (drop done xs))) 0
piece xs k zero count h = front_then_zeros xs k count (omega arith)
piece [] k (suc done) count h = ap (take count) (drop-replicate (suc done) k 0) ∙ front_then_zeros [] (k - suc done) count (omega arith)
piece (x ∷ xs) k (suc done) count h = piece xs k done count (omega arith)

-- ---- a front of bytes

take_nil : (k : ℕ) → take {A = ℕ} k [] ≡ []
take_nil zero = refl
take_nil (suc k) = refl

taken_twice : (count n : ℕ) (ys : List ℕ) → take count (take n ys) ≡ take (min n count) ys
taken_twice zero n ys = let e : 0 ≡ min n 0 = omega arith in ap (λ k. take k ys) e
taken_twice (suc count) zero ys = let e : 0 ≡ min 0 (suc count) = omega arith in ap (λ k. take k ys) e
taken_twice (suc count) (suc n) [] = sym (take_nil (min (suc n) (suc count)))
taken_twice (suc count) (suc n) (y ∷ ys) =
    let e : suc (min n count) ≡ min (suc n) (suc count) = omega arith in
    ap (λ l. y ∷ l) (taken_twice count n ys) ∙ ap (λ k. take k (y ∷ ys)) e

cut_of_front : (count done n : ℕ) (ys : List ℕ) → take count (drop done (take n ys)) ≡ take (min (n - done) count) (drop done ys)
cut_of_front count zero n ys = let e : n ≡ n - 0 = omega arith in taken_twice count n ys ∙ ap (λ k. take (min k count) ys) e
cut_of_front count (suc done) zero ys =
    let e : 0 ≡ min (0 - suc done) count = omega arith in take_nil count ∙ ap (λ k. take k (drop (suc done) ys)) e
cut_of_front count (suc done) (suc n) [] = take_nil count ∙ sym (take_nil (min (suc n - suc done) count))
cut_of_front count (suc done) (suc n) (y ∷ ys) =
    let e : n - done ≡ suc n - suc done = omega arith in cut_of_front count done n ys ∙ ap (λ k. take (min k count) (drop done ys)) e

-- ---- bytes of a segment

pub value_is : (file : List ℕ) (s : Segment) (done count there : ℕ) → s.offset + s.in_file ≤ length file → s.in_file ≤ s.in_memory
    → done + count ≤ s.in_memory → there ≡ min (s.in_file - done) count
    → number_of (take there (drop (s.offset + done) file)) ≡ number_of (take count (drop done (bytes_of file s)))
unfolding bytes_of
value_is file s done count there lies grows inside is =
    let xs : List ℕ = take s.in_file (drop s.offset file) in
    let long : length xs ≡ s.in_file = omega (arith, length-take s.in_file (drop s.offset file), length-drop s.offset file) in
    let enough : done + count ≤ length xs + (s.in_memory - s.in_file) = omega arith in
    sym (
    ap number_of (piece xs (s.in_memory - s.in_file) done count enough)
    ∙ zeros_behind (take count (drop done xs)) (count - length (take count (drop done xs)))
    ∙ ap number_of (
    cut_of_front count done s.in_file (drop s.offset file)
    ∙ ap (λ k. take k (drop done (drop s.offset file))) (sym is)
    ∙ ap (take there) (drop-drop done s.offset file)
    )
    )
