-- What the words of a slot's registers show, and what is made of a trigger that has a hit.
-- RISC-V Debug Specification 1.0, "Trigger Data 1" and "Trigger Data 2"; RISC-V External Debug Support 0.13.2, "Match Control". That a slot is free
-- where its type is 15, what it is used for, and that a word is read by the type in it whatever release the chip follows, is this project's own.
use Rattle.std.specs.Prelude.{ℕ, ◌==◌, ◌≤◌, Bool, true, false, Option, Some, None, if◌then◌else◌}
use Rattle.rv_model.specs.declared.slot.Trigger.{Trigger}
use Rattle.rv_model.specs.declared.slot.Trigger.TheVariants.{Disabled}
use Rattle.rv_model.specs.declared.version.Version.{Version}
use Rattle.rv_model.specs.Fields.{field}
use Rattle.rv_model.specs.TriggerWords.{tdata1_of, trigger_of, version_shown}
use Rattle.abstract_debugger.specs.Slots.{
  Use,
  address_trigger,
  count_trigger,
  trigger_back,
  trigger_forgotten,
  trigger_has_hit,
  trigger_held,
  trigger_use,
  watch_trigger,
}
use Rattle.abstract_debugger.specs.Slots.Use.{Armed, Other, Unused}
use Rattle.probe_trig.specs.declared.change.Change.{Change}
use Rattle.probe_trig.specs.declared.change.Change.TheVariants as change
use Rattle.debug_model.specs.declared.slot_use.SlotUse.{SlotUse}
use Rattle.debug_model.specs.declared.slot_use.SlotUse.TheVariants as slot_use

-- ---- what a slot is used for

-- a word by the type in it: 2 is an address trigger of release 0.13, 6 one of release 1.0
abbrev pub trigger_shown : ℕ → Trigger
trigger_shown tdata1 = trigger_of (version_shown tdata1) tdata1

-- type 15: a slot of any other type is in use, whoever programmed it
abbrev pub shows_free : ℕ → Bool
shows_free tdata1 = field 60 4 tdata1 == 15

-- what no script arms is shown as the word that was read
abbrev pub or_other : ℕ → Use → Use
or_other tdata1 (Armed what) = Armed what
or_other tdata1 Unused = Other tdata1
or_other tdata1 (Other _) = Other tdata1

abbrev pub use_shown : ℕ → ℕ → Use
use_shown tdata1 tdata2 = if shows_free tdata1 then Unused else or_other tdata1 (trigger_use (version_shown tdata1) (trigger_shown tdata1) tdata2)

abbrev pub shows_hit : ℕ → Bool
shows_hit tdata1 = trigger_has_hit (trigger_shown tdata1)

-- ---- what a slot is armed for

-- a use that a slot can be armed for; a count has 14 bits, and counts at least one turn
abbrev pub CanArm : SlotUse → Type 0
CanArm slot_use.Free = ⊥
CanArm (slot_use.Break address) = Unit {0}
CanArm (slot_use.Watch kind address) = Unit {0}
CanArm (slot_use.Count turns) = (1 ≤ turns) × (turns ≤ 16383)
CanArm (slot_use.Other tdata1) = ⊥

abbrev pub trigger_named : SlotUse → Trigger
trigger_named slot_use.Free = Disabled
trigger_named (slot_use.Break address) = address_trigger true false false
trigger_named (slot_use.Watch kind address) = watch_trigger kind
trigger_named (slot_use.Count turns) = count_trigger turns
trigger_named (slot_use.Other tdata1) = Disabled

-- the word that arms a slot for it, with an address trigger of this release's type
abbrev pub word_named : Version → SlotUse → ℕ
word_named v what = tdata1_of v (trigger_named what)

-- the address that it compares with
abbrev pub address_named : SlotUse → Option ℕ
address_named slot_use.Free = None
address_named (slot_use.Break address) = Some address
address_named (slot_use.Watch kind address) = Some address
address_named (slot_use.Count turns) = None
address_named (slot_use.Other tdata1) = None

-- ---- what is made of the triggers that have a hit

abbrev pub trigger_changed : Change → Trigger → Trigger
trigger_changed change.Hold t = trigger_held t
trigger_changed change.PutBack t = trigger_back t
trigger_changed change.Forget t = trigger_forgotten t
trigger_changed change.PutBackAndForget t = trigger_forgotten (trigger_back t)

-- of the same type as before
abbrev pub word_changed : Change → ℕ → ℕ
word_changed how tdata1 = tdata1_of (version_shown tdata1) (trigger_changed how (trigger_shown tdata1))
