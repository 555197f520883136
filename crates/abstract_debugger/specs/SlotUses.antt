-- Which use of a slot, and which slots with a hit, a value of the code stands for.
use Rattle.std.specs.Prelude.{List, [], ◌∷◌, Bool}
use Rattle.rv_model.specs.declared.slot_set.SlotSet.{SlotSet}
use Rattle.rv_model.specs.SlotSet.{has_slot}
use Rattle.debug_model.specs.declared.slot_use.SlotUse.{SlotUse}
use Rattle.debug_model.specs.declared.slot_use.SlotUse.TheVariants as slot_use
use Rattle.abstract_debugger.specs.Slots.{Use}
use Rattle.abstract_debugger.specs.Slots.Use.{Armed, Other, Unused}
use Rattle.abstract_debugger.specs.Trace.What.{Break, Watch, Count}

abbrev pub use_named : SlotUse → Use
use_named slot_use.Free = Unused
use_named (slot_use.Break address) = Armed (Break address)
use_named (slot_use.Watch kind address) = Armed (Watch kind address)
use_named (slot_use.Count turns) = Armed (Count turns)
use_named (slot_use.Other tdata1) = Other tdata1

-- by place
abbrev pub hits_in : SlotSet → List Bool
hits_in set = has_slot set 0 ∷ has_slot set 1 ∷ has_slot set 2 ∷ has_slot set 3 ∷ []
