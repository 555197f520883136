-- Worked examples of dcsr's and the trigger registers' words, and the laws that what a write keeps is read back.
-- The words of the examples are spelled by the field tables of the RISC-V Debug Specification 1.0, "Debug Control and Status" and "Sdtrig (ISA Extension)",
-- and those of release 0.13 by RISC-V External Debug Support 0.13.2, "Match Control" and "Trigger Info".
use Rattle.std.specs.Prelude.{◌≡◌, ℕ, ◌+◌, ◌*◌, ◌<◌, Bool, true, false, [], ◌∷◌, Some, None}
use Rattle.rv_model.specs.declared.cause.Cause.TheVariants.{Trigger as TriggerCause, Reset}
use Rattle.rv_model.specs.declared.dcsr.Dcsr.{Dcsr}
use Rattle.rv_model.specs.declared.slot.Comparison.TheVariants.{Equal}
use Rattle.rv_model.specs.declared.slot.Trigger.{Trigger}
use Rattle.rv_model.specs.declared.slot.Trigger.TheVariants as kind
use Rattle.rv_model.specs.declared.slot.Slot.{Slot}
use Rattle.rv_model.specs.declared.version.Version.{Version}
use Rattle.rv_model.specs.declared.version.Version.TheVariants.{V013, V10}
use Rattle.rv_model.specs.Board.{reset_debug, free_slot}
use Rattle.rv_model.specs.Dcsr.{dcsr_word, dcsr_of_word, dcsr_value, dcsr_written}
use Rattle.rv_model.specs.TriggerWords.{TriggerPart, CountFits, tdata1_of, tinfo_value, trigger_of, trigger_csr_value, trigger_csr_written, triggers_of}
use Rattle.rv_model.specs.TriggerWords.{version_offered, version_shown}

-- ---- dcsr

pub record DcsrExamples : Type 0 where
  pub halted_by_reset : dcsr_value (reset_debug V10 (Some Reset)) ≡ 0x40000143
  pub running : dcsr_value (reset_debug V10 None) ≡ 0x40000003
  pub stopped_by_trigger : dcsr_value (record (reset_debug V10 (Some TriggerCause)) { step = true; ebreakm = true }) ≡ 0x40008087
  pub all_zeros_written : dcsr_written 0 (record (reset_debug V10 (Some Reset)) { step = true; stepie = true; ebreakm = true })
      ≡ reset_debug V10 (Some Reset)
  pub all_ones_written : dcsr_written 0xffffffffffffffff (reset_debug V10 (Some Reset))
      ≡ record (reset_debug V10 (Some Reset)) { step = true; stepie = true; ebreakm = true }

-- what stands in dcsr's writable bits is read back, and the cause stays
abbrev pub DcsrReadBack : Type 0
DcsrReadBack = (d : Dcsr) → d.cause < 8 → dcsr_of_word (dcsr_word d) ≡ d

-- ---- tdata1 as a debugger writes it

abbrev pub address_trigger : Bool → Bool → Bool → Trigger
address_trigger execute store load = kind.Mcontrol6 (record { hit = false; comparison = Equal; m = true; execute = execute; store = store; load = load })

abbrev pub count_trigger : ℕ → Trigger
count_trigger count = kind.Icount (record { hit = false; count = count; m = true; pending = false })

pub record TriggersDecoded : Type 0 where
  pub execution : trigger_of V10 0x6800000000001044 ≡ address_trigger true false false
  pub loads : trigger_of V10 0x6800000000001041 ≡ address_trigger false false true
  pub stores : trigger_of V10 0x6800000000001042 ≡ address_trigger false true false
  pub accesses : trigger_of V10 0x6800000000001043 ≡ address_trigger false true true
  pub one : trigger_of V10 (0x3800000000000201 + 1 * 1024) ≡ count_trigger 1
  pub most : trigger_of V10 (0x3800000000000201 + 16383 * 1024) ≡ count_trigger 16383
  pub free : trigger_of V10 0xf800000000000000 ≡ kind.Disabled
  pub execution_V013 : trigger_of V013 0x2800000000001044 ≡ address_trigger true false false
  pub loads_V013 : trigger_of V013 0x2800000000001041 ≡ address_trigger false false true
  pub stores_V013 : trigger_of V013 0x2800000000001042 ≡ address_trigger false true false
  pub accesses_V013 : trigger_of V013 0x2800000000001043 ≡ address_trigger false true true
  pub most_V013 : trigger_of V013 (0x3800000000000201 + 16383 * 1024) ≡ count_trigger 16383
  pub free_V013 : trigger_of V013 0xf800000000000000 ≡ kind.Disabled

-- ---- what a write of each type keeps, of all zeros and of all ones

pub record TriggersKept : Type 0 where
  pub type_0 : trigger_of V10 0 ≡ kind.Disabled
  pub type_2 : trigger_of V10 0x2fffffffffffffff ≡ kind.Disabled
  pub type_15 : trigger_of V10 0xffffffffffffffff ≡ kind.Disabled
  pub disabled : tdata1_of V10 kind.Disabled ≡ 0xf800000000000000
  pub mcontrol6_zeros : tdata1_of V10 (trigger_of V10 0x6000000000000000) ≡ 0x6800000000001000
  pub mcontrol6_ones : tdata1_of V10 (trigger_of V10 0x6fffffffffffffff) ≡ 0x6800000000401047  -- match 15 becomes 0
  pub mcontrol6_at_least : tdata1_of V10 (trigger_of V10 0x6800000000001144) ≡ 0x6800000000001144
  pub mcontrol6_below : tdata1_of V10 (trigger_of V10 0x68000000000011c4) ≡ 0x68000000000011c4
  pub mcontrol6_masked : tdata1_of V10 (trigger_of V10 0x68000000000010c4) ≡ 0x6800000000001044  -- match 1 becomes 0
  pub icount_zeros : tdata1_of V10 (trigger_of V10 0x3000000000000000) ≡ 0x3800000000000001
  pub icount_ones : tdata1_of V10 (trigger_of V10 0x3fffffffffffffff) ≡ 0x3800000001ffff01
  pub type_0_V013 : trigger_of V013 0 ≡ kind.Disabled
  pub type_6_V013 : trigger_of V013 0x6fffffffffffffff ≡ kind.Disabled
  pub type_15_V013 : trigger_of V013 0xffffffffffffffff ≡ kind.Disabled
  pub mcontrol_zeros : tdata1_of V013 (trigger_of V013 0x2000000000000000) ≡ 0x2800000000001000
  pub mcontrol_ones : tdata1_of V013 (trigger_of V013 0x2fffffffffffffff) ≡ 0x2800000000101047  -- match 15 becomes 0
  pub mcontrol_hit0 : tdata1_of V013 (trigger_of V013 0x2800000000401044) ≡ 0x2800000000001044  -- bit 22 is a bit of sizehi, and stays 0
  pub mcontrol_at_least : tdata1_of V013 (trigger_of V013 0x2800000000001144) ≡ 0x2800000000001144
  pub mcontrol_below : tdata1_of V013 (trigger_of V013 0x28000000000011c4) ≡ 0x28000000000011c4
  pub icount_ones_V013 : tdata1_of V013 (trigger_of V013 0x3fffffffffffffff) ≡ 0x3800000001ffff01

-- what tdata1 holds is read back
abbrev pub TriggerReadBack : Type 0
TriggerReadBack = (version : Version) (t : Trigger) → CountFits t → trigger_of version (tdata1_of version t) ≡ t

-- and it shows the release by which it is to be read, as tinfo does by which an address trigger is to be written
pub record ReleaseShown (version : Version) : Type 0 where
  pub offered : version_offered (tinfo_value version) ≡ version
  pub shown : (t : Trigger) → CountFits t → trigger_of (version_shown (tdata1_of version t)) (tdata1_of version t) ≡ t

abbrev pub ReleasesShown : Type 0
ReleasesShown = (version : Version) → ReleaseShown version

-- ---- the registers of a hart that reset left

abbrev pub reset_triggers : TriggerPart
reset_triggers = triggers_of (reset_debug V10 None)

abbrev pub break_slot : Slot
break_slot = record { trigger = address_trigger true false false; tdata2 = 0 }

pub record TriggerRegisters : Type 0 where
  pub tselect : trigger_csr_value reset_triggers 0x7a0 ≡ Some 0
  pub tdata1 : trigger_csr_value reset_triggers 0x7a1 ≡ Some 0xf800000000000000
  pub tdata2 : trigger_csr_value reset_triggers 0x7a2 ≡ Some 0
  pub tinfo : trigger_csr_value reset_triggers 0x7a4 ≡ Some 0x01008048
  pub tinfo_V013 : trigger_csr_value (record reset_triggers { version = V013 }) 0x7a4 ≡ Some 0x0000800c
  pub tdata3 : trigger_csr_value reset_triggers 0x7a3 ≡ None
  pub selects : trigger_csr_written reset_triggers 0x7a0 0x1e ≡ record reset_triggers { tselect = 2 }
  pub ignores : trigger_csr_written reset_triggers 0x7a4 0x1e ≡ reset_triggers
  pub arms : trigger_csr_written (record reset_triggers { tselect = 2 }) 0x7a1 0x6800000000001044
      ≡ record { version = V10; tselect = 2; slots = free_slot ∷ free_slot ∷ break_slot ∷ free_slot ∷ [] }
  pub arms_V013 : trigger_csr_written (record reset_triggers { version = V013; tselect = 2 }) 0x7a1 0x2800000000001044
      ≡ record { version = V013; tselect = 2; slots = free_slot ∷ free_slot ∷ break_slot ∷ free_slot ∷ [] }
