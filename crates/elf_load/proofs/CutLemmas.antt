-- How many elements bytes are cut into.
use Rattle.std.proofs.Common.{
  ◌≡◌,
  ℕ,
  zero,
  suc,
  ◌+◌,
  ◌-◌,
  ◌*◌,
  ◌/◌,
  ◌%◌,
  ◌≤◌,
  List,
  [],
  ◌∷◌,
  ◌++◌,
  length,
  min,
  take,
  drop,
  refl,
  ap,
  ◌∙◌,
  arith,
  length-append,
  length-drop,
}
use Rattle.std.proofs.lemmas.List.{length-take}
use Rattle.elf_load.specs.declared.element.Element.{Element}
use Rattle.elf_load.specs.Elements.{cut, cut_at, singles, to_multiple, words}

pub length-singles : (address : ℕ) (bytes : List ℕ) → length (singles address bytes) ≡ length bytes
length-singles address [] = refl
length-singles address (b ∷ bytes) = ap suc (length-singles (address + 1) bytes)

pub length-words : (count address : ℕ) (bytes : List ℕ) → length (words count address bytes) ≡ count
length-words zero address bytes = refl
length-words (suc count) address bytes = ap suc (length-words count (address + 8) (drop 8 bytes))

pub length-cut_at : (front count address : ℕ) (bytes : List ℕ) → front ≤ length bytes
    → length (cut_at front count address bytes) ≡ front + count + (length bytes - (front + 8 * count))
length-cut_at front count address bytes within =
    let a : List Element = singles address (take front bytes) in
    let b : List Element = words count (address + front) (drop front bytes) in
    let c : List Element = singles (address + front + 8 * count) (drop (front + 8 * count) bytes) in
    let all : length ((a ++ b) ++ c) ≡ length a + length b + length c = length-append (a ++ b) c ∙ ap (λ n. n + length c) (length-append a b) in
    omega (
      arith,
      all,
      length-singles address (take front bytes),
      length-take front bytes,
      length-words count (address + front) (drop front bytes),
      length-singles (address + front + 8 * count) (drop (front + 8 * count) bytes),
      length-drop (front + 8 * count) bytes,
    )

pub length-cut : (address : ℕ) (bytes : List ℕ) → length (cut address bytes)
    ≡ min (to_multiple address) (length bytes) + (length bytes - min (to_multiple address) (length bytes)) / 8
    + (length bytes - min (to_multiple address) (length bytes)) % 8
unfolding cut
length-cut address bytes =
    let front : ℕ = min (to_multiple address) (length bytes) in
    let within : front ≤ length bytes = omega arith in
    let e = length-cut_at front ((length bytes - front) / 8) address bytes within in
    omega (arith, e)
