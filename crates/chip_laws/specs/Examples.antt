-- Worked examples of the chip's registers and commands, with the values of the standard.
-- RISC-V Debug Specification 1.0: "DTM Control and Status", "Debug Module Status", "Abstract Control and Status", "Abstract Commands",
-- "System Bus Access Control and Status".
use Rattle.std.specs.Prelude.{◌≡◌, ℕ, Bool, ◌∷◌, [], List, true, false, Some, None}
use Rattle.rv_model.specs.declared.version.Version.TheVariants.{V013, V10}
use Rattle.rv_model.specs.Board.{Hart, halted_by_reset, reset_hart, runs}
use Rattle.rv_model.specs.Memory.{Memory, msip_bit}
use Rattle.debug_model.specs.declared.cmderr.Cmderr.TheVariants as cmderr
use Rattle.debug_model.specs.declared.data_register.DataRegister.TheVariants.{Dmi}
use Rattle.debug_model.specs.declared.dmi_op.DmiOp.{DmiOp}
use Rattle.debug_model.specs.declared.micro.Micro.TheVariants.{Transfer, Run}
use Rattle.debug_model.specs.declared.point.Point.TheVariants.{Look, HaltClear, ResumeReq}
use Rattle.debug_model.specs.declared.sberror.Sberror.TheVariants as sberror
use Rattle.debug_model.specs.declared.sticky.Sticky.TheVariants.{Busy}
use Rattle.debug_model.specs.Commands.{CommandUnit, abstractcs_shown, command_written, micro_step, no_command, reset_commands}
use Rattle.debug_model.specs.Module.{Site, after_read, after_write, hart_status, reset_module}
use Rattle.debug_model.specs.ModuleWords.{abstractcs_word, dmstatus_word, sbcs_word}
use Rattle.debug_model.specs.SystemBus.{reset_bus, sbcs_shown, sbdata0_written}
use Rattle.debug_model.specs.Transport.{Dtm, captured_dtm, dtmcs_seen, fresh_dtm, updated_dtm}
use Rattle.debug_model.specs.TransportWords.{dtmcs_word}

-- ---- words

pub record WordExamples : Type 0 where
  pub dtmcs : dtmcs_word (dtmcs_seen fresh_dtm) ≡ 0x00001071
  pub no_such_hart : dmstatus_word (hart_status V10 None) ≡ 0x0000c083
  pub running : dmstatus_word (hart_status V10 (Some (reset_hart V10 0 runs))) ≡ 0x000c0c83
  pub halted : dmstatus_word (hart_status V10 (Some (reset_hart V10 0 halted_by_reset))) ≡ 0x000c0383
  pub no_such_hart_V013 : dmstatus_word (hart_status V013 None) ≡ 0x0000c082
  pub running_V013 : dmstatus_word (hart_status V013 (Some (reset_hart V013 0 runs))) ≡ 0x000c0c82
  pub halted_V013 : dmstatus_word (hart_status V013 (Some (reset_hart V013 0 halted_by_reset))) ≡ 0x000c0382
  pub abstractcs : abstractcs_word (abstractcs_shown reset_commands) ≡ 0x04000002
  pub sbcs : sbcs_word (sbcs_shown reset_bus) ≡ 0x2004080f

-- ---- the transport

abbrev pub in_flight : DmiOp → Dtm
in_flight op = record fresh_dtm { flight = Some op }

-- a capture of dmi while an operation is in flight sets the sticky status to 3, and a later update of dmi changes nothing
pub record TransportExamples : Type 0 where
  pub busy : (op : DmiOp) → captured_dtm Dmi (in_flight op) ≡ record (in_flight op) { sticky = Busy }
  pub stuck : (op : DmiOp) (bits : List Bool) → updated_dtm Dmi bits (record (in_flight op) { sticky = Busy }) ≡ record (in_flight op) { sticky = Busy }

-- ---- the module

-- an active module that selects a hart, over these harts
abbrev pub site : ℕ → List Hart → Memory → Site
site h harts m = record {
  unit = record (reset_module V10) { active = true; hartsel = h };
  board = record { harts = harts; memory = m };
  journal = [];
}

abbrev pub waiting_hart : Hart
waiting_hart = let hart : Hart = reset_hart V10 0 halted_by_reset in record hart { debug = record hart.debug { halt_request = true } }

pub record ModuleExamples : Type 0 where
  -- a read of dmstatus is a Look of hartsel, also where there is no such hart
  pub looks : (m : Memory) → (after_read 0x11 (site 7 (reset_hart V10 0 runs ∷ []) m)).journal ≡ Look 7 ∷ []
  -- resumereq 1 with haltreq 0, where a halt request is set: that one is cleared first
  pub requests : (m : Memory) → (after_write 0x10 0x40000001 (site 0 (waiting_hart ∷ []) m)).journal ≡ HaltClear 0 ∷ ResumeReq 0 ∷ []
  -- a read of x5 where the hart runs
  pub refuses : (m : Memory) → (after_write 0x17 0x00321005 (site 0 (reset_hart V10 0 runs ∷ []) m)).unit.commands.error ≡ cmderr.HaltResume
  pub refuses_word : (m : Memory) → (after_write 0x17 0x00221005 (site 0 (reset_hart V10 0 runs ∷ []) m)).unit.commands.error ≡ cmderr.HaltResume

-- ---- commands and the bus

abbrev pub load_word : ℕ  -- ld x9, 0(x8)
load_word = 0x00043483

abbrev pub ebreak_word : ℕ
ebreak_word = 0x00100073

-- a program buffer under way whose next word is this one
abbrev pub before_word : ℕ → CommandUnit
before_word w = record reset_commands { steps = Run w ∷ Run ebreak_word ∷ [] }

abbrev pub at_last_word : ℕ → CommandUnit
at_last_word w = record reset_commands { steps = Run w ∷ [] }

-- a transfer of mip under way, from the register or to it, in this size
abbrev pub at_mip : Bool → ℕ → CommandUnit
at_mip writes size = record reset_commands { steps = Transfer (record no_command { aarsize = size; write = writes; regno = 0x344 }) ∷ [] }

-- a transfer under way that a write of `command` meets
abbrev pub met_late : CommandUnit
met_late = command_written 0x00221005 None (record reset_commands { steps = Transfer no_command ∷ [] })

pub record CommandExamples : Type 0 where
  -- a load and an ebreak make just one access to memory, whatever becomes of the load
  pub load_accesses : (hart : Hart) (m : Memory) → (micro_step hart m (before_word load_word)).accessed ≡ true
  pub ebreak_accesses_not : (hart : Hart) (m : Memory) → (micro_step hart m (at_last_word ebreak_word)).accessed ≡ false
  -- mip is read from memory, which is an access in either size; a write of it is none
  pub mip_accesses : (size : ℕ) (hart : Hart) (m : Memory) → (micro_step hart m (at_mip false size)).accessed ≡ true
  pub mip_shows : (hart : Hart) (m : Memory) → msip_bit m hart.core.id ≡ true → (micro_step hart m (at_mip false 2)).unit.data0 ≡ 8
  pub mip_written : (size : ℕ) (hart : Hart) (m : Memory) → (micro_step hart m (at_mip true size)).accessed ≡ false
  -- a program buffer that ends without ebreak, here in a word that does nothing, is an exception
  pub without_ebreak : (hart : Hart) (m : Memory) → (micro_step hart m (at_last_word 0x0000000f)).unit.error ≡ cmderr.Exception
  pub with_ebreak : (hart : Hart) (m : Memory) → (micro_step hart m (at_last_word ebreak_word)).unit ≡ reset_commands
  -- a late write sets cmderr when the command ends, and not before
  pub late_not_yet : met_late.error ≡ cmderr.Fine
  pub late_at_end : (hart : Hart) (m : Memory) → (micro_step hart m met_late).unit.error ≡ cmderr.Busy
  -- sbdata0 written at an address that is no multiple of four
  pub misaligned : (v : ℕ) → (sbdata0_written v (record reset_bus { address = 0x80000001 })).error ≡ sberror.Alignment
