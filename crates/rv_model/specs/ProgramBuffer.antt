-- One instruction word of the program buffer, executed by a halted hart.
-- RISC-V Debug Specification 1.0, "Program Buffer": ebreak ends the command, and an exception ends it and changes no register of the hart. That jumps,
-- branches, auipc, ecall, mret, lr and sc are exceptions is this project's own choice: each would need a pc, a trap or a reservation of Debug Mode's own.
use Rattle.std.specs.Prelude.{ℕ, Bool, true, false, ◌&&◌, ◌||◌, if◌then◌else◌, Option, Some, None, is_some}
use Rattle.rv_model.specs.declared.debug_did.DebugDid.{DebugDid}
use Rattle.rv_model.specs.declared.debug_did.DebugDid.TheVariants as ended
use Rattle.rv_model.specs.declared.csr_change.CsrChange.{CsrChange}
use Rattle.rv_model.specs.declared.did.Did.{Did}
use Rattle.rv_model.specs.declared.did.Did.TheVariants.{Retired, Trapped, Interrupted}
use Rattle.rv_model.specs.declared.insn.Insn.{Insn}
use Rattle.rv_model.specs.declared.insn.Insn.TheVariants.{Auipc, Jal, Jalr, Branch, LoadReserved, StoreConditional, Csr, CsrImmediate, Ecall, Ebreak, Mret}
use Rattle.rv_model.specs.declared.touch.Touch.{Touch}
use Rattle.rv_model.specs.Board.{Hart}
use Rattle.rv_model.specs.Core.{Core, x_of, with_x}
use Rattle.rv_model.specs.DebugRegisters.{debug_seen, debug_refuses, debug_written}
use Rattle.rv_model.specs.CsrChanges.{change_by, writes_by}
use Rattle.rv_model.specs.Effects.{Outcome, effect_of}
use Rattle.rv_model.specs.Memory.{Memory}
use Rattle.rv_model.specs.Rows.{meaning}
use Rattle.rv_model.specs.Touch.{touch}

-- a hart and memory behind a word, and what became of it
pub record Debugged : Type 0 where
  pub hart : Hart
  pub memory : Memory
  pub did : DebugDid
  pub accessed : Bool  -- it was a load, a store or an atomic memory operation, also one that faults

abbrev pub debugged : DebugDid → Bool → Hart → Memory → Debugged
debugged did accessed h m = record { hart = h; memory = m; did = did; accessed = accessed }

abbrev pub refused : Hart → Memory → Debugged
refused h m = debugged ended.Exception false h m

-- ---- sorts of instructions

-- a CSR instruction: rd takes the old value, and where it writes, the register takes what the change makes of the old value and the operand
pub record CsrSwap : Type 0 where
  pub writes : Bool
  pub change : ℕ → ℕ → ℕ
  pub number : ℕ
  pub operand : ℕ
  pub rd : ℕ

pub data Sort : Type 0 where
  Ends : Sort
  Refused : Sort
  Swaps : CsrSwap → Sort
  Accesses : Sort
  Plain : Sort

abbrev pub csr_swap_by : Bool → CsrChange → ℕ → ℕ → ℕ → CsrSwap
csr_swap_by writes change number operand rd = record { writes = writes; change = change_by change; number = number; operand = operand; rd = rd }

-- whether it writes goes by its source: the number of a register, or an immediate
abbrev pub csr_swap : CsrChange → ℕ → ℕ → ℕ → ℕ → CsrSwap
csr_swap change source number operand rd = csr_swap_by (writes_by change source) change number operand rd

abbrev pub sort_by_touch : Touch → Sort
sort_by_touch t = if is_some t.load || is_some t.store then Accesses else Plain

abbrev pub sort_of : Insn → Core → Sort
sort_of Ebreak c = Ends
sort_of (Auipc p) c = Refused
sort_of (Jal p) c = Refused
sort_of (Jalr p) c = Refused
sort_of (Branch condition p) c = Refused
sort_of (LoadReserved width p) c = Refused
sort_of (StoreConditional width p) c = Refused
sort_of Ecall c = Refused
sort_of Mret c = Refused
sort_of (Csr change p) c = Swaps (csr_swap change p.rs1 p.csr (x_of c p.rs1) p.rd)
sort_of (CsrImmediate change p) c = Swaps (csr_swap change p.imm p.csr p.imm p.rd)
sort_of insn c = sort_by_touch (touch insn c)

-- ---- what each sort does

-- the hart after a CSR instruction that is executed
abbrev pub swapped_hart : CsrSwap → ℕ → Hart → Hart
swapped_hart s old h =
    let after : Hart = if s.writes then debug_written h s.number (s.change old s.operand) else h in
    record after { core = with_x after.core s.rd old }

abbrev pub swapped : Option ℕ → CsrSwap → Hart → Memory → Debugged
swapped None s h m = refused h m
swapped (Some old) s h m = if s.writes && debug_refuses s.number then refused h m else debugged ended.Next false (swapped_hart s old h) m

-- the effect of the instruction with pc as it was, or nothing in the place of a trap
abbrev pub executed_by : Did → Outcome → Bool → Hart → Memory → Debugged
executed_by Retired o accessed h m = debugged ended.Next accessed (record h { core = record o.step.core { pc = h.core.pc } }) o.memory
executed_by (Trapped cause) o accessed h m = debugged ended.Exception accessed h m
executed_by Interrupted o accessed h m = debugged ended.Exception accessed h m  -- no instruction's effect is an interrupt

abbrev pub executed : Outcome → Bool → Hart → Memory → Debugged
executed o accessed h m = executed_by o.step.did o accessed h m

abbrev pub ran_sort : Sort → Insn → Hart → Memory → Debugged
ran_sort Ends insn h m = debugged ended.Ebreak false h m
ran_sort Refused insn h m = refused h m
ran_sort (Swaps s) insn h m = swapped (debug_seen h m s.number) s h m
ran_sort Accesses insn h m = executed (effect_of insn h.core m) true h m
ran_sort Plain insn h m = executed (effect_of insn h.core m) false h m

abbrev pub ran_insn : Insn → Hart → Memory → Debugged
ran_insn insn h m = ran_sort (sort_of insn h.core) insn h m

-- a word that means nothing is an exception
abbrev pub ran_meant : Option Insn → Hart → Memory → Debugged
ran_meant (Some insn) h m = ran_insn insn h m
ran_meant None h m = refused h m

-- one word of the program buffer
unfoldable pub ran_word : ℕ → Hart → Memory → Debugged
ran_word w h m = ran_meant (meaning w) h m
