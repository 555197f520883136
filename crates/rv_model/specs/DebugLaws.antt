-- Worked examples and laws of what Debug Mode reaches: its registers and the words of the program buffer.
-- RISC-V Debug Specification 1.0, "Abstract Commands", "Program Buffer" and "Core Debug Registers".
use Rattle.std.specs.Prelude.{◌≡◌, ◌≢◌, ℕ, ◌+◌, ◌%◌, ◌<◌, Bool, true, false, length, Option, Some, None}
use Rattle.rv_model.specs.declared.cause.Cause.TheVariants.{Reset}
use Rattle.rv_model.specs.declared.debug_did.DebugDid.TheVariants as ended
use Rattle.rv_model.specs.declared.insn.Insn.{Insn}
use Rattle.rv_model.specs.declared.insn.Insn.TheVariants.{Load, Csr, CsrImmediate}
use Rattle.rv_model.specs.declared.load_op.LoadOp.TheVariants.{Ld}
use Rattle.rv_model.specs.declared.register_number.TheConstants.{TSELECT, TDATA1, TDATA2, TINFO, DCSR, DPC, X0}
use Rattle.rv_model.specs.declared.trigger_word.TheConstants.{DISABLED_WORD}
use Rattle.rv_model.specs.declared.version.Version.{Version}
use Rattle.rv_model.specs.declared.version.Version.TheVariants.{V013, V10}
use Rattle.rv_model.specs.Board.{DebugPart, Hart, IsHart, reset_hart, slot_count}
use Rattle.rv_model.specs.Core.{with_x, aligned, register_count}
use Rattle.rv_model.specs.Dcsr.{dcsr_word, dcsr_of_word, shown_cause}
use Rattle.rv_model.specs.DebugRegisters.{dcsr_number, debug_value, debug_refuses, debug_written}
use Rattle.rv_model.specs.Laws.{KeepsCore}
use Rattle.rv_model.specs.Memory.{Memory}
use Rattle.rv_model.specs.ProgramBuffer.{Debugged, debugged, ran_word}
use Rattle.rv_model.specs.Registers.{first_x_number, pc_number}
use Rattle.rv_model.specs.Rows.{meaning}
use Rattle.rv_model.specs.TriggerWords.{tselect_number, tdata1_number, tdata2_number, tinfo_number, disabled_word, tdata1_of, trigger_of, tinfo_value}

-- ---- the code's numbers, and the word of a slot that is free

pub record DebugRegisterNumbers : Type 0 where
  pub tselect : TSELECT ≡ tselect_number
  pub tdata1 : TDATA1 ≡ tdata1_number
  pub tdata2 : TDATA2 ≡ tdata2_number
  pub tinfo : TINFO ≡ tinfo_number
  pub disabled : DISABLED_WORD ≡ disabled_word
  pub dcsr : DCSR ≡ dcsr_number
  pub dpc : DPC ≡ pc_number
  pub x0 : X0 ≡ first_x_number

-- ---- worked examples: hart 2, halted by reset

abbrev pub halted_by : Version → Hart
halted_by version = reset_hart version 2 (Some Reset)

abbrev pub halted_hart : Hart
halted_hart = halted_by V10

pub record DebugRegisterExamples : Type 0 where
  pub dcsr : debug_value halted_hart 0x07b0 ≡ Some 0x40000143
  pub dpc : debug_value halted_hart 0x07b1 ≡ Some 0x80000000
  pub tinfo : debug_value halted_hart 0x07a4 ≡ Some 0x01008048
  pub tinfo_V013 : debug_value (halted_by V013) 0x07a4 ≡ Some 0x0000800c
  pub tdata1 : (version : Version) → debug_value (halted_by version) 0x07a1 ≡ Some 0xf800000000000000
  pub mhartid : debug_value halted_hart 0x0f14 ≡ Some 2
  pub last_x : debug_value halted_hart 0x101f ≡ Some 0
  pub behind_last_x : debug_value halted_hart 0x1020 ≡ None
  pub dscratch0 : debug_value halted_hart 0x07b2 ≡ None
  pub mhartid_refuses : debug_refuses 0x0f14 ≡ true
  pub misa_ignores : debug_refuses 0x0301 ≡ false
  pub misa_written : debug_written halted_hart 0x0301 7 ≡ halted_hart
  pub tinfo_written : debug_written halted_hart 0x07a4 7 ≡ halted_hart
  pub x0_written : debug_written halted_hart 0x1000 7 ≡ halted_hart

-- what a word does by itself, whatever the hart and memory
abbrev pub Ends : ℕ → Type 0
Ends word = (h : Hart) (m : Memory) → ran_word word h m ≡ debugged ended.Ebreak false h m

abbrev pub IsException : ℕ → Type 0
IsException word = (h : Hart) (m : Memory) → ran_word word h m ≡ debugged ended.Exception false h m

abbrev pub DoesNothing : ℕ → Type 0
DoesNothing word = (h : Hart) (m : Memory) → ran_word word h m ≡ debugged ended.Next false h m

-- hart 2 as before but for x8
abbrev pub with_x8 : ℕ → Hart
with_x8 v = record halted_hart { core = with_x halted_hart.core 8 v }

pub record ProgramBufferExamples : Type 0 where
  pub ebreak : Ends 0x00100073
  pub all_zeros : IsException 0x00000000
  pub jal : IsException 0x0020006f
  pub auipc : IsException 0x00000417
  pub branch : IsException 0x00000063
  pub lr : IsException 0x1004242f
  pub ecall : IsException 0x00000073
  pub mret : IsException 0x30200073
  pub fence : DoesNothing 0x0000000f
  pub fence_i : DoesNothing 0x0000100f
  pub wfi : DoesNothing 0x10500073
  pub load_means : meaning 0x00043483 ≡ Some (Load Ld (record { rd = 9; rs1 = 8; imm = 0 }))  -- ld x9, 0(x8)
  pub adds : (m : Memory) → ran_word 0x00140413 halted_hart m ≡ debugged ended.Next false (with_x8 1) m  -- addi x8, x8, 1: pc stays
  pub reads_dcsr : (m : Memory) → ran_word 0x7b002473 halted_hart m ≡ debugged ended.Next false (with_x8 0x40000143) m  -- csrrs x8, dcsr, x0
  -- csrrsi x0, dcsr, 4
  pub sets_step : (m : Memory) → ran_word 0x7b026073 halted_hart m
      ≡ debugged ended.Next false (record halted_hart { debug = record halted_hart.debug { step = true } }) m
  -- csrrwi x0, dpc, 4
  pub sets_dpc : (m : Memory) → ran_word 0x7b125073 halted_hart m
      ≡ debugged ended.Next false (record halted_hart { core = record halted_hart.core { pc = 4 } }) m
  pub writes_mhartid : IsException 0xf1401073  -- csrrw x0, mhartid, x0
  pub reads_dscratch0 : IsException 0x7b202473  -- csrrs x8, dscratch0, x0: there is none
  pub faulting_load : (m : Memory) → ran_word 0x00102483 halted_hart m ≡ debugged ended.Exception true halted_hart m  -- lw x9, 1(x0)
  pub faulting_store : (m : Memory) → ran_word 0x000020a3 halted_hart m ≡ debugged ended.Exception true halted_hart m  -- sw x0, 1(x0)

-- ---- writes of registers

-- a write leaves the hart halted or running as it was, its requests, and the release that it follows
pub record SameRequests (d after : DebugPart) : Type 0 where
  pub version : after.version ≡ d.version
  pub halted : after.halted ≡ d.halted
  pub halt_request : after.halt_request ≡ d.halt_request
  pub resume_request : after.resume_request ≡ d.resume_request
  pub resume_ack : after.resume_ack ≡ d.resume_ack
  pub have_reset : after.have_reset ≡ d.have_reset

-- and the core keeps its number, x0 and what is true of every core, as the hart keeps what is true of every hart
pub record WriteKeeps (h after : Hart) : Type 0 where
  pub requests : SameRequests h.debug after.debug
  pub core : KeepsCore h.core after.core
  pub is_hart : (n : ℕ) → IsHart n h → IsHart n after

abbrev pub WritesKeep : Type 0
WritesKeep = (h : Hart) (number v : ℕ) → WriteKeeps h (debug_written h number v)

-- a register reads this after a write of that
abbrev pub ReadsBack : Hart → ℕ → ℕ → ℕ → Type 0
ReadsBack h number v kept = debug_value (debug_written h number v) number ≡ Some kept

-- what a write keeps is read back
pub record ReadBack (h : Hart) (v : ℕ) : Type 0 where
  pub x : (r : ℕ) → 0 < r → r < length h.core.x → r < register_count → ReadsBack h (0x1000 + r) v v
  pub x0 : ReadsBack h 0x1000 v 0
  pub dpc : ReadsBack h 0x07b1 v (aligned v)
  pub dcsr : ReadsBack h 0x07b0 v (dcsr_word (record (dcsr_of_word v) { cause = shown_cause h.debug.halted }))
  pub tselect : ReadsBack h 0x07a0 v (v % slot_count)
  pub tdata1 : h.debug.tselect < length h.debug.slots → ReadsBack h 0x07a1 v (tdata1_of h.debug.version (trigger_of h.debug.version v))
  pub tdata2 : h.debug.tselect < length h.debug.slots → ReadsBack h 0x07a2 v v
  pub tinfo : ReadsBack h 0x07a4 v (tinfo_value h.debug.version)

abbrev pub WritesReadBack : Type 0
WritesReadBack = (h : Hart) (v : ℕ) → ReadBack h v

-- ---- words of the program buffer

pub record ChangesNothing (h : Hart) (m : Memory) (after : Debugged) : Type 0 where
  pub hart : after.hart ≡ h
  pub memory : after.memory ≡ m

-- an exception changes no register and no memory, nor does the ebreak that ends the program
abbrev pub ExceptionsChangeNothing : Type 0
ExceptionsChangeNothing = (w : ℕ) (h : Hart) (m : Memory) → (ran_word w h m).did ≢ ended.Next → ChangesNothing h m (ran_word w h m)

-- memory changes by an access alone
abbrev pub MemoryNeedsAccess : Type 0
MemoryNeedsAccess = (w : ℕ) (h : Hart) (m : Memory) → (ran_word w h m).accessed ≡ false → (ran_word w h m).memory ≡ m

-- whatever a word is, it keeps of its hart what a write of a register keeps, and no reservation's place comes or goes
pub record WordKeeps (h : Hart) (m : Memory) (after : Debugged) : Type 0 where
  pub hart : WriteKeeps h after.hart
  pub places : length after.memory.reserved ≡ length m.reserved

abbrev pub WordsKeep : Type 0
WordsKeep = (w : ℕ) (h : Hart) (m : Memory) → WordKeeps h m (ran_word w h m)

abbrev pub is_csr_insn : Option Insn → Bool
is_csr_insn None = false
is_csr_insn (Some (Csr change p)) = true
is_csr_insn (Some (CsrImmediate change p)) = true
is_csr_insn (Some insn) = false

pub record KeepsDebug (h after : Hart) : Type 0 where
  pub debug : after.debug ≡ h.debug
  pub pc : after.core.pc ≡ h.core.pc

-- only CSR instructions change the debug part and dpc
abbrev pub DebugNeedsCsr : Type 0
DebugNeedsCsr = (w : ℕ) (h : Hart) (m : Memory) → is_csr_insn (meaning w) ≡ false → KeepsDebug h (ran_word w h m).hart
