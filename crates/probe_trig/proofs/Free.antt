-- The lowest free slot of a list.
use Rattle.std.proofs.Common.{
  ◌≡◌,
  ◌∙◌,
  ◌<◌,
  ℕ,
  zero,
  suc,
  true,
  false,
  List,
  [],
  ◌∷◌,
  Option,
  Some,
  None,
  option_map,
  slice_get,
  refl,
  ap,
  arith,
  if◌then◌else◌,
}
use Rattle.std.proofs.lemmas.Option.{same_Some, none-some}
use Rattle.rv_model.specs.declared.slot.Slot.{Slot}
use Rattle.abstract_debugger.specs.Slots.{first_free, is_free}

-- every slot below a place is in use
abbrev pub UsedBelow : ℕ → List Slot → Type 0
UsedBelow n ss = (j : ℕ) (s : Slot) → j < n → slice_get ss j ≡ Some s → is_free s.trigger ≡ false

behind_used : (s : Slot) (ss : List Slot) (o : Option ℕ) → is_free s.trigger ≡ false → first_free ss ≡ o → first_free (s ∷ ss) ≡ option_map suc o
behind_used s ss o used e = ap (λ b. if b then Some 0 else option_map suc (first_free ss)) used ∙ ap (option_map suc) e

pub lowest_free : (ss : List Slot) (n : ℕ) (s : Slot) → slice_get ss n ≡ Some s → is_free s.trigger ≡ true → UsedBelow n ss → first_free ss ≡ Some n
lowest_free [] n s at free used = absurd (none-some s at)
lowest_free (x ∷ ss) zero s at free used = ap (λ b. if b then Some 0 else option_map suc (first_free ss))
    (ap (λ (z : Slot). is_free z.trigger) (same_Some x s at) ∙ free)
lowest_free (x ∷ ss) (suc n) s at free used =
    behind_used x ss (Some n) (used 0 x (omega arith) refl) (lowest_free ss n s at free (λ j z lt here. used (suc j) z (omega arith) here))

pub none_free : (ss : List Slot) → ((j : ℕ) (s : Slot) → slice_get ss j ≡ Some s → is_free s.trigger ≡ false) → first_free ss ≡ None
none_free [] used = refl
none_free (x ∷ ss) used = behind_used x ss None (used 0 x refl) (none_free ss (λ j z here. used (suc j) z here))
