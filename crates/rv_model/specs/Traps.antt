-- Traps: their codes, what one sets on its hart, and the return from one; and the machine software interrupt, which is a trap too.
-- Privileged manual, "Machine Cause", "Machine Trap Value", "Machine Trap-Vector Base-Address Register", "Trap-Return Instructions"; that mtval is 0 where
-- it holds no address is this project's own choice.
use Rattle.std.specs.Prelude.{ℕ, ◌+◌, ◌*◌, ◌^◌, ◌==◌, if◌then◌else◌}
use Rattle.rv_model.specs.declared.mem_fault.MemFault.{MemFault}
use Rattle.rv_model.specs.declared.mem_fault.MemFault.TheVariants.{Misaligned, Outside}
use Rattle.rv_model.specs.Core.{Core, handler_base, mie_of, mode_of, mpie_of, mstatus_with, offset_by, vectored}

-- ---- exceptions

abbrev pub misaligned_target : ℕ
misaligned_target = 0

abbrev pub fetch_outside : ℕ
fetch_outside = 1

abbrev pub illegal_instruction : ℕ
illegal_instruction = 2

abbrev pub breakpoint : ℕ
breakpoint = 3

abbrev pub environment_call : ℕ
environment_call = 11

-- of a refused load and lr
abbrev pub load_cause : MemFault → ℕ
load_cause Misaligned = 4
load_cause Outside = 5

-- of a refused store, sc and atomic memory operation
abbrev pub store_cause : MemFault → ℕ
store_cause Misaligned = 6
store_cause Outside = 7

-- the core as it enters its trap handler, by the trap's cause and value
abbrev pub trap_entered : ℕ → ℕ → Core → Core
trap_entered cause value c = record c { pc = handler_base c; mepc = c.pc; mcause = cause; mtval = value; mstatus = mstatus_with 0 (mie_of c) }

-- ---- the machine software interrupt

abbrev pub software_interrupt : ℕ
software_interrupt = 3

-- in mcause the highest bit tells an interrupt from the other traps
abbrev pub interrupt_cause : ℕ
interrupt_cause = 2 ^ 63 + software_interrupt

-- where it is handled: in vectored mode each code has an instruction of its own, from the base on
abbrev pub interrupt_handler : Core → ℕ
interrupt_handler c = if mode_of c == vectored then offset_by (handler_base c) (4 * software_interrupt) else handler_base c

-- the core as it enters the handler before the instruction at pc
abbrev pub interrupt_entered : Core → Core
interrupt_entered c = record (trap_entered interrupt_cause 0 c) { pc = interrupt_handler c }

-- ---- the return

-- the core as mret leaves it
abbrev pub trap_left : Core → Core
trap_left c = record c { pc = c.mepc; mstatus = mstatus_with (mpie_of c) 1 }
