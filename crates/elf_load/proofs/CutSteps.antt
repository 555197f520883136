-- The first element of bytes, and the cut of those behind it.
use Rattle.std.proofs.Common.{
  ◌≡◌,
  ℕ,
  suc,
  ◌+◌,
  ◌-◌,
  ◌*◌,
  ◌/◌,
  ◌%◌,
  ◌<◌,
  ◌≤◌,
  List,
  [],
  ◌∷◌,
  ◌++◌,
  length,
  get_or,
  min,
  take,
  drop,
  refl,
  sym,
  ap,
  ◌∙◌,
  inl,
  inr,
  add-one,
  append-nil,
  arith,
  drop-cons,
  length-drop,
}
use Rattle.std.proofs.lemmas.Bool.{cases_eq}
use Rattle.std.proofs.lemmas.List.{drop_all, take_all}
use Rattle.std.proofs.Math.Seq.{drop-drop}
use Rattle.rv_model.specs.declared.size.Size.TheVariants.{B1, B8}
use Rattle.elf_load.specs.declared.element.Element.{Element}
use Rattle.elf_load.specs.Elements.{cut, cut_at, singles, to_multiple, words}
use Rattle.elf_load.specs.Fields.{number_of}

abbrev pub word_of : ℕ → List ℕ → Element
word_of address bytes = record { address = address; size = B8; value = number_of (take 8 bytes) }

abbrev pub single_of : ℕ → ℕ → Element
single_of address b = record { address = address; size = B1; value = b }

cut_is : (front count address : ℕ) (bytes : List ℕ) → front ≡ min (to_multiple address) (length bytes) → count ≡ (length bytes - front) / 8
    → cut address bytes ≡ cut_at front count address bytes
unfolding cut
cut_is front count address bytes first many =
    let f : ℕ = min (to_multiple address) (length bytes) in
    ap (λ k. cut_at f k address bytes) (ap (λ n. (length bytes - n) / 8) (sym first) ∙ sym many) ∙ ap (λ n. cut_at n count address bytes) (sym first)

same_parts : (count a b c d e f : ℕ) (ps qs rs xs ys zs : List ℕ) → a ≡ d → ps ≡ xs → b ≡ e → qs ≡ ys → c ≡ f → rs ≡ zs
    → (singles a ps ++ words count b qs) ++ singles c rs ≡ (singles d xs ++ words count e ys) ++ singles f zs
same_parts count a b c d e f ps qs rs xs ys zs p1 p2 p3 p4 p5 p6 = cc

-- ---- an element of eight bytes

word_first : (count address : ℕ) (bytes : List ℕ)
    → cut_at 0 (suc count) address bytes ≡ word_of address bytes ∷ cut_at 0 count (address + 8) (drop 8 bytes)
word_first count address bytes =
    let left : ℕ = address + 0 + 8 * suc count in
    let here : address + 0 ≡ address = omega arith in
    let same : address + 8 ≡ (address + 8) + 0 = omega arith in
    let same_left : left ≡ (address + 8) + 0 + 8 * count = omega arith in
    let e : 0 + 8 * suc count ≡ 8 + (0 + 8 * count) = omega arith in
    let back : drop (0 + 8 * suc count) bytes ≡ drop (0 + 8 * count) (drop 8 bytes) =
    ap (λ n. drop n bytes) e ∙ sym (drop-drop (0 + 8 * count) 8 bytes) in
    ap (λ n. words (suc count) n bytes ++ singles left (drop (0 + 8 * suc count) bytes)) here
    ∙ ap (λ l. word_of address bytes ∷ l)
    (same_parts count (address + 8) (address + 8) left (address + 8) ((address + 8) + 0) ((address + 8) + 0 + 8 * count) [] (drop 8 bytes)
    (drop (0 + 8 * suc count) bytes) [] (drop 8 bytes) (drop (0 + 8 * count) (drop 8 bytes)) refl refl same refl same_left back)

pub cut_word : (address : ℕ) (bytes : List ℕ) → address % 8 ≡ 0 → 8 ≤ length bytes
    → cut address bytes ≡ word_of address bytes ∷ cut (address + 8) (drop 8 bytes)
cut_word address bytes aligned enough =
    let count : ℕ = (length bytes - 8) / 8 in
    let first : 0 ≡ min (to_multiple address) (length bytes) = omega arith in
    let many : suc count ≡ (length bytes - 0) / 8 = omega arith in
    let next_first : 0 ≡ min (to_multiple (address + 8)) (length (drop 8 bytes)) = omega arith in
    let next_many : count ≡ (length (drop 8 bytes) - 0) / 8 = omega (arith, length-drop 8 bytes) in
    cut_is 0 (suc count) address bytes first many ∙ word_first count address bytes
    ∙ ap (λ l. word_of address bytes ∷ l) (sym (cut_is 0 count (address + 8) (drop 8 bytes) next_first next_many))

-- ---- a single byte

single_first : (front count address b : ℕ) (bytes : List ℕ)
    → cut_at (suc front) count address (b ∷ bytes) ≡ single_of address b ∷ cut_at front count (address + 1) bytes
single_first front count address b bytes =
    let behind : address + suc front ≡ address + 1 + front = omega arith in
    let left : address + suc front + 8 * count ≡ address + 1 + front + 8 * count = omega arith in
    let back : drop (suc front + 8 * count) (b ∷ bytes) ≡ drop (front + 8 * count) bytes =
    let e : suc front + 8 * count ≡ suc (front + 8 * count) = omega arith in ap (λ n. drop n (b ∷ bytes)) e in
    ap (λ l. single_of address b ∷ l)
    (same_parts count (address + 1) (address + suc front) (address + suc front + 8 * count) (address + 1) (address + 1 + front)
    (address + 1 + front + 8 * count) (take front bytes) (drop front bytes) (drop (suc front + 8 * count) (b ∷ bytes)) (take front bytes)
    (drop front bytes) (drop (front + 8 * count) bytes) refl refl behind refl left back)

singles_alone : (address : ℕ) (bytes : List ℕ) → length bytes ≤ to_multiple address → cut address bytes ≡ singles address bytes
singles_alone address bytes few =
    let front : length bytes ≡ min (to_multiple address) (length bytes) = omega arith in
    let none : 0 ≡ (length bytes - length bytes) / 8 = omega arith in
    let past : length bytes ≤ length bytes + 8 * 0 = omega arith in
    let back : drop (length bytes + 8 * 0) bytes ≡ [] = drop_all (length bytes + 8 * 0) bytes past in
    cut_is (length bytes) 0 address bytes front none
    ∙ ap (λ l. (singles address l ++ []) ++ singles (address + length bytes + 8 * 0) (drop (length bytes + 8 * 0) bytes))
    (take_all (length bytes) bytes (omega arith))
    ∙ ap (λ l. (singles address bytes ++ []) ++ singles (address + length bytes + 8 * 0) l) back
    ∙ append-nil (singles address bytes ++ []) ∙ append-nil (singles address bytes)

few_alone : (address : ℕ) (bytes : List ℕ) → address % 8 ≡ 0 → length bytes < 8 → cut address bytes ≡ singles address bytes
few_alone address bytes aligned few =
    let front : 0 ≡ min (to_multiple address) (length bytes) = omega arith in
    let none : 0 ≡ (length bytes - 0) / 8 = omega arith in
    let here : address + 0 + 8 * 0 ≡ address = omega arith in
    cut_is 0 0 address bytes front none ∙ ap (λ n. singles n bytes) here

pub cut_single : (address b : ℕ) (bytes : List ℕ) → (address % 8 ≡ 0 → length bytes < 7)
    → cut address (b ∷ bytes) ≡ single_of address b ∷ cut (address + 1) bytes
cut_single address b bytes short = elim (cases_eq (address % 8) 0) [
  | inl aligned ↦
      let few : length bytes < 7 = short aligned in
      let up_to : length bytes ≤ to_multiple (address + 1) = omega arith in
      few_alone address (b ∷ bytes) aligned (omega (arith, few)) ∙ ap (λ l. single_of address b ∷ l) (sym (singles_alone (address + 1) bytes up_to))
  | inr other ↦
      let front : ℕ = min (to_multiple address - 1) (length bytes) in
      let count : ℕ = (length bytes - front) / 8 in
      let first : suc front ≡ min (to_multiple address) (length (b ∷ bytes)) = omega arith in
      let many : count ≡ (length (b ∷ bytes) - suc front) / 8 = omega arith in
      let next_first : front ≡ min (to_multiple (address + 1)) (length bytes) = omega arith in
      cut_is (suc front) count address (b ∷ bytes) first many ∙ single_first front count address b bytes
      ∙ ap (λ l. single_of address b ∷ l) (sym (cut_is front count (address + 1) bytes next_first refl))
]

-- ---- behind bytes that are done

pub word_next : (address done value : ℕ) (bytes : List ℕ) → (address + done) % 8 ≡ 0 → done + 8 ≤ length bytes → value ≡ number_of (take 8 (drop done bytes))
    → cut (address + done) (drop done bytes)
    ≡ record { address = address + done; size = B8; value = value } ∷ cut (address + (done + 8)) (drop (done + 8) bytes)
word_next address done value bytes aligned enough is =
    let element : ℕ → Element = λ v. record { address = address + done; size = B8; value = v } in
    let further : address + done + 8 ≡ address + (done + 8) = omega arith in
    cut_word (address + done) (drop done bytes) aligned (omega (arith, length-drop done bytes))
    ∙ ap (λ v. element v ∷ cut (address + done + 8) (drop 8 (drop done bytes))) (sym is)
    ∙ ap (λ n. element value ∷ cut n (drop 8 (drop done bytes))) further
    ∙ ap (λ l. element value ∷ cut (address + (done + 8)) l) (drop-drop 8 done bytes)

first_byte : (b v : ℕ) (bytes : List ℕ) → v ≡ number_of (take 1 (b ∷ bytes)) → b ≡ v
first_byte b v bytes is = omega (arith, is)

pub single_next : (address done value : ℕ) (bytes : List ℕ) → ((address + done) % 8 ≡ 0 → length bytes < done + 8) → done < length bytes
    → value ≡ number_of (take 1 (drop done bytes))
    → cut (address + done) (drop done bytes)
    ≡ record { address = address + done; size = B1; value = value } ∷ cut (address + (done + 1)) (drop (done + 1) bytes)
single_next address done value bytes short inside is =
    let b : ℕ = get_or bytes done 0 in
    let here : drop done bytes ≡ b ∷ drop (suc done) bytes = drop-cons bytes done 0 inside in
    let further : address + done + 1 ≡ address + (done + 1) = omega arith in
    let few : (address + done) % 8 ≡ 0 → length (drop (suc done) bytes) < 7 = λ aligned. omega (arith, short aligned, length-drop (suc done) bytes) in
    let same : b ≡ value = first_byte b value (drop (suc done) bytes) (is ∙ ap (λ l. number_of (take 1 l)) here) in
    ap (cut (address + done)) here ∙ cut_single (address + done) b (drop (suc done) bytes) few
    ∙ ap (λ v. single_of (address + done) v ∷ cut (address + done + 1) (drop (suc done) bytes)) same
    ∙ ap (λ n. single_of (address + done) value ∷ cut n (drop (suc done) bytes)) further
    ∙ ap (λ n. single_of (address + done) value ∷ cut (address + (done + 1)) (drop n bytes)) (sym (add-one done))

pub cut_nothing : (address : ℕ) → cut address [] ≡ []
cut_nothing address = singles_alone address [] (omega arith)
