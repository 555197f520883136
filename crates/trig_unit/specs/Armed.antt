-- Which trigger slots can fire at all, or count: those that are on in Machine Mode.
-- RISC-V Debug Specification 1.0, "Match Control Type 6" and "Instruction Count", the field m.
use Rattle.std.specs.Prelude.{Bool, false, List}
use Rattle.std.specs.List.{list_any}
use Rattle.rv_model.specs.declared.slot.Trigger.{Trigger}
use Rattle.rv_model.specs.declared.slot.Trigger.TheVariants as kind
use Rattle.rv_model.specs.declared.slot.Slot.{Slot}

abbrev pub trigger_armed : Trigger → Bool
trigger_armed (kind.Mcontrol6 t) = t.m
trigger_armed (kind.Icount t) = t.m
trigger_armed kind.Disabled = false

abbrev pub slot_armed : Slot → Bool
slot_armed s = trigger_armed s.trigger

abbrev pub some_armed : List Slot → Bool
some_armed slots = list_any slot_armed slots
