-- Elements of one size in a row: one more, one among them, and what storing their values is to each.
use Rattle.std.proofs.Common.{◌≡◌, ℕ, zero, suc, ◌+◌, ◌*◌, ◌<◌, ◌≤◌, Bool, true, false, List, [], ◌∷◌, ◌++◌, length, take, drop, refl, sym, ap, ◌∙◌, subst, arith, add-one, append_assoc, append-nil, length-append}
use Rattle.std.proofs.lemmas.List.{take_all}
use Rattle.rv_model.specs.declared.size.Size.{Size}
use Rattle.rv_model.specs.Size.{count_of}
use Rattle.debug_model.specs.Module.{Site}
use Rattle.probe_access.specs.Blocks.{element_at, value_at}
use Rattle.probe_access.specs.BusBlocks.{BusStoredValues}
use Rattle.probe_access.specs.BusBlocks.BusStoredValues.{nothing as no_values, further as further_value}
use Rattle.probe_access.specs.BusStoreStreams.{data_puts, data_words, element_puts, puts_where, upper_at, words_from}
use Rattle.elf_load.specs.declared.element.Element.{Element}
use Rattle.elf_load.specs.Runs.{in_a_row}
use Rattle.elf_load.specs.Stores.{StoredAll, StoredOne}
use Rattle.elf_load.specs.Stores.StoredAll.{further as stored_further}

-- ---- an element of a row

abbrev element : Size → ℕ → ℕ → Element
element size address value = record { address = address; size = size; value = value }

abbrev pub element_of : Size → ℕ → List ℕ → ℕ → Element
element_of size address values n = record { address = element_at size address n; size = size; value = value_at values n }

first_at : (size : Size) (address : ℕ) → address ≡ element_at size address 0
first_at size address = omega arith

next_at : (size : Size) (address n : ℕ) → element_at size (address + count_of size) n ≡ element_at size address (suc n)
next_at size address n = omega arith

pub row_last : (size : Size) (address n : ℕ) (values : List ℕ) → n < length values
    → in_a_row size address (take (suc n) values) ≡ in_a_row size address (take n values) ++ element_of size address values n ∷ []
row_last size address n [] inside = absurd (omega (arith, inside))
row_last size address zero (v ∷ values) inside =
    ap (λ (a : ℕ). element size a v ∷ []) (first_at size address)
row_last size address (suc n) (v ∷ values) inside =
    ap (λ (es : List Element). element size address v ∷ es)
    (row_last size (address + count_of size) n values (omega (arith, inside))
    ∙ ap (λ (a : ℕ). in_a_row size (address + count_of size) (take n values) ++ element size a (value_at values n) ∷ [])
    (next_at size address n))

-- the others behind it
pub row_parts : (size : Size) (address n : ℕ) (values : List ℕ) → n < length values
    → in_a_row size address values
    ≡ in_a_row size address (take n values) ++ element_of size address values n ∷ in_a_row size (element_at size address (suc n)) (drop (suc n) values)
row_parts size address n [] inside = absurd (omega (arith, inside))
row_parts size address zero (v ∷ values) inside =
    ap (λ (a : ℕ). element size a v ∷ in_a_row size (address + count_of size) values) (first_at size address)
    ∙ ap (λ (a : ℕ). element_of size address (v ∷ values) 0 ∷ in_a_row size a values) (first_at size (address + count_of size) ∙ next_at size address 0)
row_parts size address (suc n) (v ∷ values) inside =
    let a : ℕ = address + count_of size in
    ap (λ (es : List Element). element size address v ∷ es)
    (row_parts size a n values (omega (arith, inside))
    ∙ ap (λ (k : ℕ). in_a_row size a (take n values)
    ++ element size k (value_at values n) ∷ in_a_row size (element_at size a (suc n)) (drop (suc n) values))
    (next_at size address n)
    ∙ ap (λ (k : ℕ). in_a_row size a (take n values) ++ element_of size address (v ∷ values) (suc n) ∷ in_a_row size k (drop (suc n) values))
    (next_at size address (suc n)))

-- one more value
pub row_push : (size : Size) (address at : ℕ) (values : List ℕ) (value : ℕ) → at ≡ address + length values * count_of size
    → in_a_row size address (values ++ value ∷ []) ≡ in_a_row size address values ++ record { address = at; size = size; value = value } ∷ []
row_push size address at [] value is =
    ap (λ (a : ℕ). element size a value ∷ []) (omega (arith, is))
row_push size address at (v ∷ values) value is =
    ap (λ (es : List Element). element size address v ∷ es)
    (row_push size (address + count_of size) at values value (omega (arith, is)))

pub length-row : (size : Size) (address : ℕ) (values : List ℕ) → length (in_a_row size address values) ≡ length values
length-row size address [] = refl
length-row size address (v ∷ values) = ap suc (length-row size (address + count_of size) values)

-- ---- its values are stored

pub row_stored : (size : Size) (address : ℕ) (values : List ℕ) (s m : Site) (done : List Element) (n : ℕ) (t : Site) → StoredAll s done m
    → BusStoredValues size address values m n t → n ≤ length values → StoredAll s (done ++ in_a_row size address (take n values)) t
row_stored size address values s m done _ _ before no_values few =
    subst (λ (es : List Element). StoredAll s es m) (sym (append-nil done)) before
row_stored size address values s m done _ t before (further_value n k _ each one) few =
    let inside : n < length values = omega (arith, few) in
    let e : Element = element_of size address values n in
    let front : List Element = done ++ in_a_row size address (take n values) in
    let here : StoredAll s front k = row_stored size address values s m done n k before each (omega (arith, few)) in
    let stored : StoredOne e k t = record { before = one.before; behind = one.behind; done = one.done; taken = one.taken; access = one.access } in
    let is : front ++ e ∷ [] ≡ done ++ in_a_row size address (take (n + 1) values) =
    append_assoc done (in_a_row size address (take n values)) (e ∷ [])
    ∙ ap (λ (es : List Element). done ++ es) (sym (row_last size address n values inside))
    ∙ ap (λ (i : ℕ). done ++ in_a_row size address (take i values)) (sym (add-one n)) in
    subst (λ (es : List Element). StoredAll s es t) is (stored_further front e k t here stored)

pub whole_row_stored : (size : Size) (address : ℕ) (values : List ℕ) (s m : Site) (done : List Element) (t : Site) → StoredAll s done m
    → BusStoredValues size address values m (length values) t → StoredAll s (done ++ in_a_row size address values) t
whole_row_stored size address values s m done t before each =
    subst (λ (vs : List ℕ). StoredAll s (done ++ in_a_row size address vs) t) (take_all (length values) values (omega arith))
    (row_stored size address values s m done (length values) t before each (omega arith))

-- ---- how many words of the data they take

few_puts : (held : Bool) (value : ℕ) → length (puts_where held value) ≤ 2
few_puts true value = omega arith
few_puts false value = omega arith

few_from : (values : List ℕ) (from n : ℕ) → words_from values from n ≤ 2 * n
few_from values from zero = omega arith
few_from values from (suc n) =
    let one : length (element_puts (upper_at values from) (value_at values from)) ≤ 2 = few_puts _ (value_at values from) in
    let e : words_from values from (suc n) ≡ length (element_puts (upper_at values from) (value_at values from)) + words_from values (from + 1) n =
    length-append (element_puts (upper_at values from) (value_at values from)) (data_puts values (from + 1) n) in
    omega (arith, one, e, few_from values (from + 1) n)

pub few_words : (values : List ℕ) → data_words values ≤ 2 * length values
few_words values = few_from values 0 (length values)
