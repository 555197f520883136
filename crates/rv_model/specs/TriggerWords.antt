-- The words of a hart's trigger registers: what tdata1 holds of each kind of trigger, and what a write of one keeps.
-- RISC-V Debug Specification 1.0, "Sdtrig (ISA Extension)": "Trigger Select", "Trigger Data 1", "Trigger Data 2", "Trigger Info", "Match Control Type 6"
-- and "Instruction Count"; RISC-V External Debug Support 0.13.2, "Match Control". Which fields are writable, that every trigger enters Debug Mode and
-- is written in Debug Mode alone (action 1, dmode 1), the value of tinfo, and that a hart of 0.13 has icount's pending bit and takes type 15 are this
-- project's own choice.
use Rattle.std.specs.Prelude.{ℕ, ◌+◌, ◌*◌, ◌%◌, ◌^◌, if◌then◌else◌, ◌==◌, List, Option, Some, None, slice_index_or, slice_set}
use Rattle.rv_model.specs.declared.slot.Comparison.{Comparison}
use Rattle.rv_model.specs.declared.slot.Comparison.TheVariants.{Equal, AtLeast, Below}
use Rattle.rv_model.specs.declared.slot.Mcontrol6.{Mcontrol6}
use Rattle.rv_model.specs.declared.slot.Icount.{Icount}
use Rattle.rv_model.specs.declared.slot.Trigger.{Trigger}
use Rattle.rv_model.specs.declared.slot.Trigger.TheVariants as kind
use Rattle.rv_model.specs.declared.slot.Slot.{Slot}
use Rattle.rv_model.specs.declared.version.Version.{Version}
use Rattle.rv_model.specs.declared.version.Version.TheVariants.{V013, V10}
use Rattle.rv_model.specs.Board.{DebugPart, free_slot, slot_count}
use Rattle.rv_model.specs.Fields.{field, bit, bit_value}
pub use Rattle.rv_model.specs.Triggers.{count_limit, CountFits}

-- ---- the field match of an address trigger

abbrev pub comparison_number : Comparison → ℕ
comparison_number Equal = 0
comparison_number AtLeast = 2
comparison_number Below = 3

-- what a written match is kept as: another number becomes 0
abbrev pub comparison_of : ℕ → Comparison
comparison_of n = if n == 2 then AtLeast else (if n == 3 then Below else Equal)

-- ---- an address trigger: mcontrol of release 0.13, mcontrol6 of release 1.0

abbrev pub address_type : Version → ℕ
address_type V013 = 2
address_type V10 = 6

-- the place of hit, which mcontrol6 calls hit0
abbrev pub hit_place : Version → ℕ
hit_place V013 = 20
hit_place V10 = 22

-- its type, dmode and action 1
abbrev pub address_fixed : Version → ℕ
address_fixed version = address_type version * 2 ^ 60 + 2 ^ 59 + 1 * 2 ^ 12

abbrev pub address_word : Version → Mcontrol6 → ℕ
address_word version t =
    address_fixed version + bit_value (hit_place version) t.hit + comparison_number t.comparison * 2 ^ 7 + bit_value 6 t.m
    + bit_value 2 t.execute + bit_value 1 t.store + bit_value 0 t.load

abbrev pub address_of : Version → ℕ → Mcontrol6
address_of version w = record {
  hit = bit (hit_place version) w;
  comparison = comparison_of (field 7 4 w);
  m = bit 6 w;
  execute = bit 2 w;
  store = bit 1 w;
  load = bit 0 w;
}

-- ---- the triggers that both releases have

-- type 3, dmode and action 1
abbrev pub icount_fixed : ℕ
icount_fixed = 3 * 2 ^ 60 + 2 ^ 59 + 1

-- type 15 and dmode
abbrev pub disabled_word : ℕ
disabled_word = 15 * 2 ^ 60 + 2 ^ 59

abbrev pub icount_word : Icount → ℕ
icount_word t = icount_fixed + bit_value 24 t.hit + t.count * 2 ^ 10 + bit_value 9 t.m + bit_value 8 t.pending

abbrev pub icount_of : ℕ → Icount
icount_of w = record { hit = bit 24 w; count = field 10 14 w; m = bit 9 w; pending = bit 8 w }

-- ---- tdata1

-- what tdata1 reads
unfoldable pub tdata1_of : Version → Trigger → ℕ
tdata1_of version (kind.Mcontrol6 t) = address_word version t
tdata1_of version (kind.Icount t) = icount_word t
tdata1_of version kind.Disabled = disabled_word

abbrev pub trigger_of_type : Version → ℕ → ℕ → Trigger
trigger_of_type version type w =
    if type == address_type version then kind.Mcontrol6 (address_of version w)
    else (if type == 3 then kind.Icount (icount_of w) else kind.Disabled)

-- what a write of tdata1 keeps: a trigger of a type that the release has not is disabled
unfoldable pub trigger_of : Version → ℕ → Trigger
trigger_of version w = trigger_of_type version (field 60 4 w) w

-- ---- the release, by what a debugger reads

-- by the type in tdata1: only mcontrol is of release 0.13 alone
abbrev pub version_shown : ℕ → Version
version_shown w = if field 60 4 w == address_type V013 then V013 else V10

-- by tinfo: a slot that does not offer mcontrol6 is of release 0.13
abbrev pub version_offered : ℕ → Version
version_offered info = if bit (address_type V10) info then V10 else V013

-- ---- tinfo

-- the field version, which release 0.13 has not
abbrev pub tinfo_version : Version → ℕ
tinfo_version V013 = 0
tinfo_version V10 = 1

-- the types are those of an address trigger, 3 and 15
abbrev pub tinfo_value : Version → ℕ
tinfo_value version = tinfo_version version * 2 ^ 24 + 2 ^ address_type version + 2 ^ 3 + 2 ^ 15

-- ---- a hart's trigger registers

abbrev pub tselect_number : ℕ
tselect_number = 0x7a0

abbrev pub tdata1_number : ℕ
tdata1_number = 0x7a1

abbrev pub tdata2_number : ℕ
tdata2_number = 0x7a2

abbrev pub tinfo_number : ℕ
tinfo_number = 0x7a4

-- what they hold: tselect, which is below 4, and four slots, by the release that their hart follows
pub record TriggerPart : Type 0 where
  pub version : Version
  pub tselect : ℕ
  pub slots : List Slot

-- the slot that tselect names
abbrev pub selected_slot : TriggerPart → Slot
selected_slot t = slice_index_or t.slots t.tselect free_slot

abbrev pub with_selected : Slot → TriggerPart → TriggerPart
with_selected s t = record t { slots = slice_set t.slots t.tselect s }

-- a register's value by its number, or none where it is no trigger register
unfoldable pub trigger_csr_value : TriggerPart → ℕ → Option ℕ
trigger_csr_value t number =
    if number == tselect_number then Some t.tselect
    else (if number == tdata1_number then Some (tdata1_of t.version (selected_slot t).trigger)
    else (if number == tdata2_number then Some (selected_slot t).tdata2
    else (if number == tinfo_number then Some (tinfo_value t.version) else None)))

-- the registers after a write of one; a write of tinfo, and of what is none of them, changes nothing
unfoldable pub trigger_csr_written : TriggerPart → ℕ → ℕ → TriggerPart
trigger_csr_written t number v =
    if number == tselect_number then record t { tselect = v % slot_count }
    else (if number == tdata1_number then with_selected (record (selected_slot t) { trigger = trigger_of t.version v }) t
    else (if number == tdata2_number then with_selected (record (selected_slot t) { tdata2 = v }) t
    else t))

-- ---- of a debug part

abbrev pub triggers_of : DebugPart → TriggerPart
triggers_of d = record { version = d.version; tselect = d.tselect; slots = d.slots }

abbrev pub with_triggers : TriggerPart → DebugPart → DebugPart
with_triggers t d = record d { tselect = t.tselect; slots = t.slots }
