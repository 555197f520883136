-- Which of a hart's trigger slots fire at the instruction at its pc, and what firing and executing change in them.
-- RISC-V Debug Specification 1.0, "Sdtrig (ISA Extension)": Match Control Type 6 and Instruction Count.
use Rattle.std.specs.Prelude.{◌≡◌, ℕ, zero, suc, ◌+◌, ◌-◌, ◌%◌, ◌^◌, ◌<◌, ⊤, Bool, true, false, ◌&&◌, ◌||◌, ◌==◌, nat_le, nat_lt, List, [], ◌∷◌, map, Option}
use Rattle.std.specs.Prelude.{Some, None, slice_get, if◌then◌else◌}
use Rattle.std.specs.List.{list_any}
use Rattle.rv_model.specs.declared.slot.Comparison.{Comparison}
use Rattle.rv_model.specs.declared.slot.Comparison.TheVariants.{Equal, AtLeast, Below}
use Rattle.rv_model.specs.declared.slot.Icount.{Icount}
use Rattle.rv_model.specs.declared.slot.Trigger.{Trigger}
use Rattle.rv_model.specs.declared.slot.Trigger.TheVariants as kind
use Rattle.rv_model.specs.declared.slot.Slot.{Slot}
use Rattle.rv_model.specs.declared.touch.Touch.{Touch}

-- the field count of icount has 14 bits
abbrev pub count_limit : ℕ
count_limit = 2 ^ 14

abbrev pub CountFits : Trigger → Type 0
CountFits (kind.Mcontrol6 t) = ⊤
CountFits (kind.Icount t) = t.count < count_limit
CountFits kind.Disabled = ⊤

-- every slot's count fits
abbrev pub CountsFit : List Slot → Type 0
CountsFit slots = (k : ℕ) (s : Slot) → slice_get slots k ≡ Some s → CountFits s.trigger

-- ---- which slots fire

-- the comparison of an address with tdata2, both unsigned
abbrev pub compares : Comparison → ℕ → ℕ → Bool
compares Equal tdata2 a = a == tdata2
compares AtLeast tdata2 a = nat_le tdata2 a
compares Below tdata2 a = nat_lt a tdata2

-- so many addresses from one on, modulo 2^64
abbrev pub addresses : ℕ → ℕ → List ℕ
addresses a zero = []
addresses a (suc count) = a % 2 ^ 64 ∷ addresses (a + 1) count

-- some byte of an access compares
abbrev pub access_compares : Comparison → ℕ → Option (ℕ × ℕ) → Bool
access_compares comparison tdata2 None = false
access_compares comparison tdata2 (Some access) = list_any (compares comparison tdata2) (addresses access.0 access.1)

-- does the slot's condition hold for what an instruction touches?
abbrev pub trigger_fires : Trigger → ℕ → Touch → Bool
trigger_fires (kind.Mcontrol6 t) tdata2 touch =
    t.m && ((t.execute && compares t.comparison tdata2 touch.pc)
    || ((t.load && access_compares t.comparison tdata2 touch.load)
    || (t.store && access_compares t.comparison tdata2 touch.store)))
trigger_fires (kind.Icount t) tdata2 touch = t.m && t.pending
trigger_fires kind.Disabled tdata2 touch = false

abbrev pub slot_fires : Touch → Slot → Bool
slot_fires touch s = trigger_fires s.trigger s.tdata2 touch

-- the slots that fire, by their place
abbrev pub fires : Touch → List Slot → List Bool
fires touch slots = map (slot_fires touch) slots

-- ---- what a hart's turn changes in its slots

-- a slot that stops its hart takes its hit, and a count loses its pending mark
abbrev pub trigger_hit : Trigger → Trigger
trigger_hit (kind.Mcontrol6 t) = kind.Mcontrol6 (record t { hit = true })
trigger_hit (kind.Icount t) = kind.Icount (record t { hit = true; pending = false })
trigger_hit kind.Disabled = kind.Disabled

abbrev pub slot_marked : Touch → Slot → Slot
slot_marked touch s = if slot_fires touch s then record s { trigger = trigger_hit s.trigger } else s

-- the slots behind a stop at what they fire at
abbrev pub marked : Touch → List Slot → List Slot
marked touch slots = map (slot_marked touch) slots

-- an executed turn lets a count fall, and from 1 to 0 it takes its pending mark
abbrev pub counted : Icount → Icount
counted t =
    if t.m && nat_lt 0 t.count
    then (record t { count = t.count - 1; pending = if t.count == 1 then true else t.pending })
    else t

abbrev pub trigger_counted : Trigger → Trigger
trigger_counted (kind.Mcontrol6 t) = kind.Mcontrol6 t
trigger_counted (kind.Icount t) = kind.Icount (counted t)
trigger_counted kind.Disabled = kind.Disabled

abbrev pub slot_counted : Slot → Slot
slot_counted s = record s { trigger = trigger_counted s.trigger }

-- the slots behind an executed turn
abbrev pub counted_down : List Slot → List Slot
counted_down slots = map slot_counted slots
