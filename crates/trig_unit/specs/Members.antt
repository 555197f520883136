-- A set of slots as the list of its answers, one for each of the four slots, and what taking a hit by such a list is.
-- RISC-V Debug Specification 1.0, "Trigger Select": the slots are the triggers that tselect numbers.
use Rattle.std.specs.Prelude.{Bool, true, false, List, [], ◌∷◌, map}
use Rattle.std.specs.List.{list_any}
use Rattle.rv_model.specs.declared.slot.Slot.{Slot}
use Rattle.rv_model.specs.declared.slot_set.SlotSet.{SlotSet}
use Rattle.rv_model.specs.SlotSet.{has_slot}
use Rattle.rv_model.specs.Triggers.{trigger_hit}

-- is slot 0 in the set, is slot 1, and so on
abbrev pub members : SlotSet → List Bool
members slots = map (has_slot slots) (0 ∷ 1 ∷ 2 ∷ 3 ∷ [])

abbrev pub some_member : List Bool → Bool
some_member fired = list_any (λ f. f) fired

abbrev pub slot_hit_by : Bool → Slot → Slot
slot_hit_by true s = record s { trigger = trigger_hit s.trigger }
slot_hit_by false s = s

-- the slots, where those with the answer true have taken their hit
abbrev pub hit_by : List Bool → List Slot → List Slot
hit_by [] slots = slots
hit_by (f ∷ fs) [] = []
hit_by (f ∷ fs) (s ∷ ss) = slot_hit_by f s ∷ hit_by fs ss
