-- Laws of the instruction table. Each is computed over the whole list or goes by induction on a list of rows; none looks at a single row.
use Rattle.std.proofs.Common.{
  ◌≡◌,
  ℕ,
  zero,
  suc,
  Bool,
  true,
  false,
  not,
  cond,
  ◌&&◌,
  eqb,
  List,
  [],
  ◌∷◌,
  ◌++◌,
  Option,
  Some,
  None,
  slice_get,
  bit_and,
  filter,
  find,
  option_map,
  refl,
  sym,
  ap,
  ◌∙◌,
  inl,
  inr,
}
use Rattle.std.specs.List.{list_all}
use Rattle.std.specs.Option.{option_or}
use Rattle.std.proofs.lemmas.Bool.{and_parts, cases_Bool, eq-eqb, eqb-true, ne_eqb, not-true, both_ways}
use Rattle.std.proofs.lemmas.List.Folds.{find-append}
use Rattle.std.proofs.lemmas.Nat.{and_assoc, and_comm}
use Rattle.rv_model.specs.declared.insn.Insn.{Insn}
use Rattle.rv_model.specs.Laws.{RowsAreApart}
use Rattle.rv_model.specs.Rows.{
  Row,
  rows,
  matches,
  meaning_in,
  meaning,
  lui_rows,
  auipc_rows,
  jal_rows,
  jalr_rows,
  branch_rows,
  load_rows,
  store_rows,
  immediate_rows,
  immediate_word_rows,
  register_rows,
  register_word_rows,
  atomic_rows,
  fence_rows,
  system_rows,
}

-- no word can match both rows: under both masks together their codes differ
abbrev pub apart : Row → Row → Bool
apart r s = not (eqb (bit_and r.code s.mask) (bit_and s.code r.mask))

abbrev pub all_apart : List Row → Bool
all_apart [] = true
all_apart (r ∷ rs) = list_all (apart r) rs && all_apart rs

pub rows_apart : all_apart rows ≡ true
rows_apart = refl

-- what two rows that one word matches have in common
pub codes_agree : (w : ℕ) (r s : Row) → bit_and w r.mask ≡ r.code → bit_and w s.mask ≡ s.code → bit_and r.code s.mask ≡ bit_and s.code r.mask
codes_agree w r s is_r is_s =
    ap (λ c. bit_and c s.mask) (sym is_r) ∙ and_assoc s.mask w r.mask ∙ ap (bit_and w) (and_comm r.mask s.mask)
    ∙ sym (and_assoc r.mask w s.mask) ∙ ap (λ c. bit_and c r.mask) is_s

pub not_both : (w : ℕ) (r s : Row) → apart r s ≡ true → bit_and w s.mask ≡ s.code → matches w r ≡ false
not_both w r s sep is_s =
    ne_eqb _ _ (λ is_r. both_ways _ (not-true _ sep) (eq-eqb _ _ (codes_agree w r s is_r is_s)))

pub all_at : (p : Row → Bool) (rs : List Row) (i : ℕ) (r : Row) → list_all p rs ≡ true → slice_get rs i ≡ Some r → p r ≡ true
all_at p [] i r h at = cc
all_at p (s ∷ rs) zero r h at = let e : s ≡ r = cc in ap p (sym e) ∙ (and_parts _ _ h).0
all_at p (s ∷ rs) (suc i) r h at = all_at p rs i r (and_parts _ _ h).1 at

pub found_row : (w : ℕ) (rs : List Row) → all_apart rs ≡ true → (i : ℕ) (r : Row) → slice_get rs i ≡ Some r → bit_and w r.mask ≡ r.code
    → find (matches w) rs ≡ Some r
found_row w [] sep i r at is = cc
found_row w (s ∷ rs) sep zero r at is =
    let e : s ≡ r = cc in
    let here : matches w s ≡ true = ap (matches w) e ∙ eq-eqb _ _ is in
    ap (λ b. cond b (Some s) (find (matches w) rs)) here ∙ ap Some e
found_row w (s ∷ rs) sep (suc i) r at is =
    let parts = and_parts (list_all (apart s) rs) (all_apart rs) sep in
    let here : matches w s ≡ false = not_both w s r (all_at (apart s) rs i r parts.0 at) is in
    ap (λ b. cond b (Some s) (find (matches w) rs)) here ∙ found_row w rs parts.1 i r at is

-- a word that has the code of the row at some place means what that row says
pub meaning_of_row : (w i : ℕ) (r : Row) → slice_get rows i ≡ Some r → bit_and w r.mask ≡ r.code → meaning w ≡ Some (r.operands w)
unfolding meaning
meaning_of_row w i r at is = ap (option_map (λ s. s.operands w)) (found_row w rows rows_apart i r at is)

-- ---- one opcode

-- the row is one of that opcode, the lowest seven bits of its code
abbrev pub of_opcode : ℕ → Row → Bool
of_opcode op r = eqb (bit_and r.code 0x7f) op

abbrev pub tests_opcode : Row → Bool
tests_opcode r = eqb (bit_and r.mask 0x7f) 0x7f

pub rows_test_opcode : list_all tests_opcode rows ≡ true
rows_test_opcode = refl

pub opcode_agrees : (w : ℕ) (r : Row) → tests_opcode r ≡ true → bit_and w r.mask ≡ r.code → bit_and r.code 0x7f ≡ bit_and w 0x7f
opcode_agrees w r t is =
    ap (λ c. bit_and c 0x7f) (sym is) ∙ and_assoc 0x7f w r.mask ∙ ap (bit_and w) (eqb-true _ _ t)

other_opcode : (w op : ℕ) (r : Row) → tests_opcode r ≡ true → bit_and w 0x7f ≡ op → of_opcode op r ≡ false → matches w r ≡ false
other_opcode w op r t is_op other =
    ne_eqb _ _ (λ is. both_ways _ other (eq-eqb _ _ (opcode_agrees w r t is ∙ is_op)))

find_of_opcode : (w op : ℕ) (rs : List Row) → list_all tests_opcode rs ≡ true → bit_and w 0x7f ≡ op
    → find (matches w) (filter (of_opcode op) rs) ≡ find (matches w) rs
find_of_opcode w op [] t is = refl
find_of_opcode w op (r ∷ rs) t is =
    let parts = and_parts (tests_opcode r) (list_all tests_opcode rs) t in
    let rest = find_of_opcode w op rs parts.1 is in
    elim (cases_Bool (of_opcode op r)) [
      | inl same ↦
          ap (λ b. find (matches w) (cond b (r ∷ filter (of_opcode op) rs) (filter (of_opcode op) rs))) same
          ∙ ap (λ o. cond (matches w r) (Some r) o) rest
      | inr other ↦
          ap (λ b. find (matches w) (cond b (r ∷ filter (of_opcode op) rs) (filter (of_opcode op) rs))) other
          ∙ rest ∙ sym (ap (λ b. cond b (Some r) (find (matches w) rs)) (other_opcode w op r parts.0 is other))
    ]

-- the rows of a word's own opcode say all that the table says of it
pub meaning_of_opcode : (w op : ℕ) (group : List Row) → bit_and w 0x7f ≡ op → filter (of_opcode op) rows ≡ group → meaning_in group w ≡ meaning w
unfolding meaning
meaning_of_opcode w op group is these =
    ap (λ rs. meaning_in rs w) (sym these) ∙ ap (option_map (λ r. r.operands w)) (find_of_opcode w op rows rows_test_opcode is)

-- ---- one group of rows after the other

option_or_assoc : (a b c : Option Insn) → option_or (option_or a b) c ≡ option_or a (option_or b c)
option_or_assoc None b c = refl
option_or_assoc (Some x) b c = refl

option_or_none : (a : Option Insn) → option_or a None ≡ a
option_or_none None = refl
option_or_none (Some x) = refl

option_map_or : (f : Row → Insn) (a b : Option Row) → option_map f (option_or a b) ≡ option_or (option_map f a) (option_map f b)
option_map_or f None b = refl
option_map_or f (Some x) b = refl

pub meaning_in_both : (w : ℕ) (front back : List Row) → meaning_in (front ++ back) w ≡ option_or (meaning_in front w) (meaning_in back w)
meaning_in_both w front back =
    ap (option_map (λ r. r.operands w)) (find-append (matches w) front back)
    ∙ option_map_or (λ r. r.operands w) (find (matches w) front) (find (matches w) back)

-- the first answer of several groups, after one that there may be already
abbrev pub first_so_far : ℕ → Option Insn → List (List Row) → Option Insn
first_so_far w o [] = o
first_so_far w o (g ∷ gs) = first_so_far w (option_or o (meaning_in g w)) gs

abbrev joined : List (List Row) → List Row
joined [] = []
joined (g ∷ gs) = g ++ joined gs

first_of_joined : (w : ℕ) (o : Option Insn) (gs : List (List Row)) → first_so_far w o gs ≡ option_or o (meaning_in (joined gs) w)
first_of_joined w o [] = sym (option_or_none o)
first_of_joined w o (g ∷ gs) =
    first_of_joined w (option_or o (meaning_in g w)) gs ∙ option_or_assoc o (meaning_in g w) (meaning_in (joined gs) w)
    ∙ ap (option_or o) (sym (meaning_in_both w g (joined gs)))

-- the groups of the table in its order
pub meaning_of_groups : (w : ℕ) → first_so_far w (meaning_in lui_rows w)
    (auipc_rows ∷ jal_rows ∷ jalr_rows ∷ branch_rows ∷ load_rows ∷ store_rows ∷ immediate_rows ∷ immediate_word_rows ∷ register_rows ∷ register_word_rows
    ∷ atomic_rows ∷ fence_rows ∷ system_rows ∷ []) ≡ meaning w
unfolding meaning
meaning_of_groups w =
    first_of_joined w (meaning_in lui_rows w) (auipc_rows ∷ jal_rows ∷ jalr_rows ∷ branch_rows ∷ load_rows ∷ store_rows ∷ immediate_rows ∷ immediate_word_rows
    ∷ register_rows ∷ register_word_rows ∷ atomic_rows ∷ fence_rows ∷ system_rows ∷ [])
    ∙ sym (meaning_in_both w lui_rows (joined (auipc_rows ∷ jal_rows ∷ jalr_rows ∷ branch_rows ∷ load_rows ∷ store_rows ∷ immediate_rows ∷ immediate_word_rows
    ∷ register_rows ∷ register_word_rows ∷ atomic_rows ∷ fence_rows ∷ system_rows ∷ [])))

-- ---- no word matches two rows

apart_places : (w : ℕ) (rs : List Row) (t s : Row) (j : ℕ) → list_all (apart t) rs ≡ true → slice_get rs j ≡ Some s → bit_and w t.mask ≡ t.code
    → bit_and w s.mask ≡ s.code → ⊥
apart_places w rs t s j sep at is_t is_s = both_ways (matches w t) (not_both w t s (all_at (apart t) rs j s sep at) is_s) (eq-eqb _ _ is_t)

same_place : (w : ℕ) (rs : List Row) → all_apart rs ≡ true → (i j : ℕ) (r s : Row) → slice_get rs i ≡ Some r → slice_get rs j ≡ Some s
    → bit_and w r.mask ≡ r.code → bit_and w s.mask ≡ s.code → i ≡ j
same_place w [] sep i j r s at_i at_j is_r is_s = cc
same_place w (t ∷ ts) sep zero zero r s at_i at_j is_r is_s = refl
same_place w (t ∷ ts) sep zero (suc j) r s at_i at_j is_r is_s =
    let e : t ≡ r = cc in
    let is_t : bit_and w t.mask ≡ t.code = rw e is_r in
    absurd (apart_places w ts t s j (and_parts (list_all (apart t) ts) (all_apart ts) sep).0 at_j is_t is_s)
same_place w (t ∷ ts) sep (suc i) zero r s at_i at_j is_r is_s =
    let e : t ≡ s = cc in
    let is_t : bit_and w t.mask ≡ t.code = rw e is_s in
    absurd (apart_places w ts t r i (and_parts (list_all (apart t) ts) (all_apart ts) sep).0 at_i is_t is_r)
same_place w (t ∷ ts) sep (suc i) (suc j) r s at_i at_j is_r is_s =
    ap suc (same_place w ts (and_parts (list_all (apart t) ts) (all_apart ts) sep).1 i j r s at_i at_j is_r is_s)

pub rows_are_apart : RowsAreApart
rows_are_apart w i j r s at_i at_j is_r is_s = same_place w rows rows_apart i j r s at_i at_j is_r is_s
