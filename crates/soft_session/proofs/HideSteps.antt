-- Values that were loaded are hidden one behind another: each becomes what a user sees of it.
use Rattle.std.proofs.Common.{◌≡◌, ◌∙◌, ◌+◌, ◌^◌, ◌<◌, ◌≤◌, ℕ, zero, suc, List, [], ◌∷◌, length, map, get_or, set, refl, sym, ap, subst}
use Rattle.std.proofs.Common.{inl, inr, arith}
use Rattle.std.proofs.lemmas.Bool.{cases_eq}
use Rattle.std.proofs.lemmas.List.{ext_get_or, get_or-map, get_or-set_other, get_or-set_same, length-map, length-set}
use Rattle.rv_model.specs.declared.size.Size.{Size}
use Rattle.rv_model.specs.declared.size.Size.TheVariants.{B1, B2, B4, B8}
use Rattle.rv_model.specs.Size.{count_of}
use Rattle.probe_access.specs.Blocks.{element_at}
use Rattle.probe_access.specs.BusRuns.{cut_to}
use Rattle.probe_session.proofs.BlockDeals.{later_is}
use Rattle.probe_session.proofs.MemoryLines.{first_address}
use Rattle.soft_laws.specs.Lowered.{Table}
use Rattle.soft_laws.specs.Shown.{shown_value}
use Rattle.soft_break.specs.Patches.{Patches, table_of}
use Rattle.soft_session.specs.Memory.{shown_values}

pub record HiddenAt (p : Patches) (size : Size) (a : ℕ) (old new : List ℕ) (i : ℕ) : Type 0 where
  pub is : get_or new i 0 ≡ shown_value (table_of p) (element_at size a i) (count_of size) (cut_to size (get_or old i 0))
  pub fits : get_or new i 0 < 256 ^ count_of size

-- those in front of a number are hidden, and the others as they were
pub record HiddenTo (p : Patches) (size : Size) (a : ℕ) (old new : List ℕ) (number : ℕ) : Type 0 where
  pub many : length new ≡ length old
  pub done : (i : ℕ) → i < number → HiddenAt p size a old new i
  pub rest : (i : ℕ) → number ≤ i → get_or new i 0 ≡ get_or old i 0

pub hidden_none : (p : Patches) (size : Size) (a : ℕ) (values : List ℕ) → HiddenTo p size a values values 0
hidden_none p size a values = record { many = refl; done = λ i less. absurd (omega (arith, less)); rest = λ i from. refl }

pub hidden_one : (p : Patches) (size : Size) (a number at held shown : ℕ) (old now new : List ℕ) → number < length now → HiddenTo p size a old now number
    → at ≡ element_at size a number → held ≡ get_or now number 0
    → shown ≡ shown_value (table_of p) at (count_of size) (cut_to size held) → shown < 256 ^ count_of size → new ≡ set now number shown
    → HiddenTo p size a old new (number + 1)
hidden_one p size a number at held shown old now new inside h at_is held_is is fits new_is = subst (λ xs. HiddenTo p size a old xs (number + 1)) (sym new_is) (record {
  many = length-set now number shown ∙ h.many;
  done = λ i less. elim (cases_eq i number) [
    | inl e ↦ subst (λ k. HiddenAt p size a old (set now number shown) k) (sym e) (record {
      is = here ∙ is ∙ ap (λ x. shown_value (table_of p) x (count_of size) (cut_to size held)) at_is
          ∙ ap (λ x. shown_value (table_of p) (element_at size a number) (count_of size) (cut_to size x)) (held_is ∙ h.rest number (omega arith));
      fits = subst (λ x. x < 256 ^ count_of size) (sym here) fits;
    })
    | inr other ↦
        let before : HiddenAt p size a old now i = h.done i (omega (arith, less, other)) in
        let same : get_or (set now number shown) i 0 ≡ get_or now i 0 = get_or-set_other now number i shown 0 other in
        record { is = same ∙ before.is; fits = subst (λ x. x < 256 ^ count_of size) (sym same) before.fits }
  ];
  rest = λ i from. get_or-set_other now number i shown 0 (λ e. absurd (omega (arith, from, e))) ∙ h.rest i (omega (arith, from));
})
  where
    here : get_or (set now number shown) number 0 ≡ shown
    here = get_or-set_same now number shown 0 inside

-- ---- all of them

cut_small : (size : Size) (v : ℕ) → v < 256 ^ count_of size → cut_to size v ≡ v
cut_small B1 v less = omega (arith, less)
cut_small B2 v less = omega (arith, less)
cut_small B4 v less = omega (arith, less)
cut_small B8 v less = omega (arith, less)

shown_many : (t : Table) (size : Size) (a : ℕ) (values : List ℕ) → length (shown_values t size a values) ≡ length values
shown_many t size a [] = refl
shown_many t size a (v ∷ values) = ap suc (shown_many t size (a + count_of size) values)

shown_at : (t : Table) (size : Size) (a : ℕ) (values : List ℕ) (i : ℕ) → i < length values
    → get_or (shown_values t size a values) i 0 ≡ shown_value t (element_at size a i) (count_of size) (get_or values i 0)
shown_at t size a [] i less = absurd (omega (arith, less))
shown_at t size a (v ∷ values) zero less = ap (λ x. shown_value t x (count_of size) v) (first_address size a)
shown_at t size a (v ∷ values) (suc i) less =
    shown_at t size (a + count_of size) values i (omega (arith, less))
    ∙ ap (λ x. shown_value t x (count_of size) (get_or values i 0)) (sym (later_is size a i))

pub hidden_all : (p : Patches) (size : Size) (a number : ℕ) (old new : List ℕ) → length new ≤ number → HiddenTo p size a old new number
    → map (cut_to size) new ≡ shown_values (table_of p) size a (map (cut_to size) old)
hidden_all p size a number old new whole h =
    ext_get_or 0 (map (cut_to size) new) (shown_values (table_of p) size a (map (cut_to size) old))
    (length-map new (cut_to size) ∙ h.many ∙ sym (shown_many (table_of p) size a (map (cut_to size) old) ∙ length-map old (cut_to size))) (λ i less.
    let inside : i < length new = subst (λ n. i < n) (length-map new (cut_to size)) less in
    let inside_old : i < length old = subst (λ n. i < n) h.many inside in
    let one : HiddenAt p size a old new i = h.done i (omega (arith, inside, whole)) in
    get_or-map (cut_to size) new i 0 0 inside ∙ cut_small size (get_or new i 0) one.fits ∙ one.is
    ∙ ap (λ x. shown_value (table_of p) (element_at size a i) (count_of size) x) (sym (get_or-map (cut_to size) old i 0 0 inside_old))
    ∙ sym (shown_at (table_of p) size a (map (cut_to size) old) i (subst (λ n. i < n) (sym (length-map old (cut_to size))) inside_old)))
