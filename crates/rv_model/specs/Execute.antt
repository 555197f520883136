-- Execution of one instruction by one core on a memory: it is fetched at pc, and its effect or a trap follows; an enabled interrupt that pends is taken in
-- its place.
-- Unprivileged manual, "Programmers' Model for Base Integer ISA"; privileged manual, "Machine Cause" and "Machine Interrupt Registers". An instruction word is
-- always four bytes.
use Rattle.std.specs.Prelude.{ℕ, Bool, ◌&&◌, ◌==◌, if◌then◌else◌, Option, Some, None, Result, Ok, Err}
use Rattle.rv_model.specs.declared.did.Did.TheVariants.{Interrupted}
use Rattle.rv_model.specs.declared.insn.Insn.{Insn}
use Rattle.rv_model.specs.declared.mem_fault.MemFault.{MemFault}
use Rattle.rv_model.specs.Rows.{meaning}
use Rattle.rv_model.specs.Memory.{Memory, fetch_of, msip_bit}
use Rattle.rv_model.specs.Core.{Core, mie_of, msie_of}
use Rattle.rv_model.specs.Traps.{fetch_outside, illegal_instruction, interrupt_entered}
use Rattle.rv_model.specs.Effects.{Outcome, Step, same_memory, traps, effect_of}

-- a word that means nothing is an illegal instruction
abbrev pub decoded : Option Insn → Core → Memory → Outcome
decoded (Some insn) c m = effect_of insn c m
decoded None c m = same_memory m (traps illegal_instruction 0 c)

-- without four bytes at pc there is no word
abbrev pub fetched : Result ℕ MemFault → Core → Memory → Outcome
fetched (Ok w) c m = decoded (meaning w) c m
fetched (Err fault) c m = same_memory m (traps fetch_outside c.pc c)

-- one instruction or one trap, and no interrupt
unfoldable pub exec_masked_of : Core → Memory → Outcome
exec_masked_of c m = fetched (fetch_of m c.pc) c m

-- ---- the machine software interrupt

-- interrupts are enabled, this one is, and it pends
abbrev pub takes_interrupt : Core → Memory → Bool
takes_interrupt c m = mie_of c == 1 && (msie_of c == 1 && msip_bit m c.id)

abbrev pub interrupted : Core → Step
interrupted c = record { core = interrupt_entered c; did = Interrupted }

-- one instruction, one trap or one interrupt
unfoldable pub exec_of : Core → Memory → Outcome
exec_of c m = if takes_interrupt c m then same_memory m (interrupted c) else exec_masked_of c m
