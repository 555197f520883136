-- What a slot is to be armed for.
-- It is this project's own.
use Rattle.abstract_debugger.specs.Trace.{What}
use Rattle.abstract_debugger.specs.Trace.What.{Break, Count, Watch}
use Rattle.debug_model.specs.declared.slot_use.SlotUse.{SlotUse}
use Rattle.debug_model.specs.declared.slot_use.SlotUse.TheVariants as slot_use

-- nothing but these three can be armed
abbrev pub what_of : SlotUse → What
what_of slot_use.Free = Break 0
what_of (slot_use.Break address) = Break address
what_of (slot_use.Watch kind address) = Watch kind address
what_of (slot_use.Count turns) = Count turns
what_of (slot_use.Other tdata1) = Break 0
