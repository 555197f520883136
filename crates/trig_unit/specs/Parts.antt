-- What is true of the trigger slots that a `Slots` holds, and how their registers are stored as the value of a model.
-- RISC-V Debug Specification 1.0, "Sdtrig (ISA Extension)".
use Rattle.std.specs.Prelude.{◌≡◌, ℕ, ◌<◌, Bool, List, length, refl}
use Rattle.std.specs.List.{All}
use Rattle.std.specs.Coded.{Coded, code_by, coded×, coded_ℕ, coded_list}
use Rattle.rv_model.specs.declared.slot.Slot.{Slot}
use Rattle.rv_model.specs.declared.version.Version.{Version}
use Rattle.rv_model.specs.Board.{slot_count}
use Rattle.rv_model.specs.Codes.{slot_code, version_code}
use Rattle.rv_model.specs.TriggerWords.{TriggerPart, CountFits}
use Rattle.trig_unit.specs.Armed.{some_armed}

abbrev pub trigger_part_code : Coded TriggerPart
trigger_part_code =
    code_by (Version × (ℕ × List Slot)) (coded× version_code (coded× coded_ℕ (coded_list slot_code))) (λ t. (t.version, (t.tselect, t.slots)))
    (λ p. record { version = p.0; tselect = p.1.0; slots = p.1.1 }) (λ _. refl)

abbrev pub CountsFit : List Slot → Type 0
CountsFit slots = All (λ s. CountFits s.trigger) slots

-- a mark is kept that says whether some slot is armed
pub record IsSlots (tselect : ℕ) (slots : List Slot) (armed : Bool) : Type 0 where
  pub four : length slots ≡ slot_count
  pub selected : tselect < slot_count
  pub counts : CountsFit slots
  pub marked : armed ≡ some_armed slots
