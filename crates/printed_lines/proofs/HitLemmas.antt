-- The slots with a hit, written one after another.
use Rattle.std.proofs.Common.{
  ◌≡◌,
  ℕ,
  zero,
  suc,
  ◌+◌,
  ◌<◌,
  Bool,
  true,
  false,
  List,
  [],
  ◌∷◌,
  ◌++◌,
  length,
  drop,
  get_or,
  map,
  decimal,
  if◌then◌else◌,
  refl,
  sym,
  ap,
  ◌∙◌,
  arith,
  append_assoc,
}
use Rattle.std.specs.List.{join_with_byte}
use Rattle.std.proofs.lemmas.List.{append-nil, at_drop_more}
use Rattle.std.proofs.lemmas.Fmt.{decimal_digit}
use Rattle.rv_model.specs.declared.slot_set.SlotSet.{SlotSet}
use Rattle.rv_model.specs.SlotSet.{has_slot}
use Rattle.debug_model.specs.ScriptText.{space}
use Rattle.abstract_debugger.specs.Lines.{comma, places_from, spelled_places}
use Rattle.abstract_debugger.specs.SlotUses.{hits_in}

-- places, each behind a byte: the first behind one of its own, the others behind a comma
abbrev pub parted : ℕ → List ℕ → List ℕ
parted before [] = []
parted before (place ∷ places) = before ∷ (decimal place ++ parted comma places)

joined : (place : ℕ) (places : List ℕ) → join_with_byte comma (map decimal (place ∷ places)) ≡ decimal place ++ parted comma places
joined place [] = sym (append-nil (decimal place))
joined place (next ∷ places) = ap (λ t. decimal place ++ (comma ∷ t)) (joined next places)

pub parted-spelled : (places : List ℕ) → parted space places ≡ spelled_places places
parted-spelled [] = refl
parted-spelled (place ∷ places) = ap (λ t. space ∷ t) (sym (joined place places))

-- the places from one on, by whether it is one of them
abbrev pub from_here : Bool → ℕ → List ℕ → List ℕ
from_here true place places = place ∷ places
from_here false place places = places

next_place : (here : Bool) (i : ℕ) (hits : List Bool)
    → (if here then i ∷ places_from (suc i) hits else places_from (suc i) hits) ≡ from_here here i (places_from (i + 1) hits)
next_place here i hits =
    let e : suc i ≡ i + 1 = omega arith in
    elim here as (λ b. (if b then i ∷ places_from (suc i) hits else places_from (suc i) hits) ≡ from_here b i (places_from (i + 1) hits))
    [ true ↦ ap (λ k. i ∷ places_from k hits) e | false ↦ ap (λ k. places_from k hits) e ]

pub places_from-here : (hits : List Bool) (i : ℕ) (d : Bool) → i < length hits
    → places_from i (drop i hits) ≡ from_here (get_or hits i d) i (places_from (i + 1) (drop (i + 1) hits))
places_from-here hits i d h = at_drop_more (places_from i) hits i d h ∙ next_place (get_or hits i d) i (drop (i + 1) hits)

-- a place written behind its byte
written_place : (place before : ℕ) (places text parting written : List ℕ) → place < 10 → parting ≡ text ++ before ∷ [] → written ≡ parting ++ (48 + place) ∷ []
    → written ++ parted comma places ≡ text ++ parted before (place ∷ places)
written_place place before places text parting written small e f =
    let rest = parted comma places in
    let digit = 48 + place in
    ap (λ t. t ++ rest) (f ∙ ap (λ t. t ++ digit ∷ []) e)
    ∙ append_assoc (text ++ before ∷ []) (digit ∷ []) rest
    ∙ append_assoc text (before ∷ []) (digit ∷ rest)
    ∙ ap (λ d. text ++ before ∷ (d ++ rest)) (sym (decimal_digit place small))

-- what is still to be written from a place on
abbrev pub rest_from : ℕ → ℕ → List Bool → List ℕ
rest_from before i hits = parted before (places_from i (drop i hits))

-- one place further, where it has a hit
pub hit_step : (hits : List Bool) (i before after : ℕ) (text parting written whole : List ℕ) → i < 10 → i < length hits → get_or hits i false ≡ true
    → after ≡ comma → parting ≡ text ++ before ∷ [] → written ≡ parting ++ (48 + i) ∷ [] → text ++ rest_from before i hits ≡ whole
    → written ++ rest_from after (i + 1) hits ≡ whole
hit_step hits i before after text parting written whole small h here a e f g =
    let later = places_from (i + 1) (drop (i + 1) hits) in
    ap (λ b. written ++ parted b later) a
    ∙ written_place i before later text parting written small e f
    ∙ ap (λ ps. text ++ parted before ps) (sym (places_from-here hits i false h ∙ ap (λ b. from_here b i later) here))
    ∙ g

-- and where it has none
pub no_hit_step : (hits : List Bool) (i before after : ℕ) (text written whole : List ℕ) → i < length hits → get_or hits i false ≡ false → after ≡ before
    → written ≡ text → text ++ rest_from before i hits ≡ whole → written ++ rest_from after (i + 1) hits ≡ whole
no_hit_step hits i before after text written whole h here a e g =
    let later = places_from (i + 1) (drop (i + 1) hits) in
    ap (λ b. written ++ parted b later) a
    ∙ ap (λ t. t ++ parted before later) e
    ∙ ap (λ ps. text ++ parted before ps) (sym (places_from-here hits i false h ∙ ap (λ b. from_here b i later) here))
    ∙ g

pub hit_at : (set : SlotSet) (slot : ℕ) → slot < 4 → get_or (hits_in set) slot false ≡ has_slot set slot
hit_at set zero h = refl
hit_at set (suc zero) h = refl
hit_at set (suc (suc zero)) h = refl
hit_at set (suc (suc (suc zero))) h = refl
hit_at set (suc (suc (suc (suc slot)))) h = absurd (omega (arith, h))
