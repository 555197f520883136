-- A set of trigger slots as a number: bit n says that slot n is in it.
-- The slots are the triggers that tselect numbers (RISC-V Debug Specification 1.0, "Trigger Select").
use Rattle.std.specs.Prelude.{ℕ, ◌/◌, ◌%◌, ◌^◌, Bool, ◌==◌}
use Rattle.rv_model.specs.declared.slot_set.SlotSet.{SlotSet}

abbrev pub has_slot : SlotSet → ℕ → Bool
has_slot slots slot = slots.0 / 2 ^ slot % 2 == 1
