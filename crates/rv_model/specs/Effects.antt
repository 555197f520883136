-- What each instruction does to the core that executes it and to memory: its effect, or the trap in its place.
-- Unprivileged manual: RV64I, M, A, Zicsr and Zifencei; privileged manual, "Machine-Mode Privileged Instructions". fence, fence.i and wfi do nothing here.
use Rattle.std.specs.Prelude.{ℕ, ◌*◌, ◌/◌, ◌%◌, Bool, ◌&&◌, if◌then◌else◌, ◌==◌, ⊤, Option, Some, None, Result, Ok, Err}
use Rattle.rv_model.specs.declared.alu_op.AluOp.{AluOp}
use Rattle.rv_model.specs.declared.alu_op.ImmediateOp.{ImmediateOp}
use Rattle.rv_model.specs.declared.alu_op.RegisterOp.{RegisterOp}
use Rattle.rv_model.specs.declared.alu_op.AmoOp.{AmoOp}
use Rattle.rv_model.specs.declared.alu_op.AluOp.TheVariants as op
use Rattle.rv_model.specs.declared.did.Did.{Did}
use Rattle.rv_model.specs.declared.did.Did.TheVariants.{Retired, Trapped}
use Rattle.rv_model.specs.declared.mem_fault.MemFault.{MemFault}
use Rattle.rv_model.specs.declared.size.Size.{Size}
use Rattle.rv_model.specs.declared.insn.Insn.{Insn}
use Rattle.rv_model.specs.declared.insn.Insn.TheVariants.{Lui, Auipc, Jal, Jalr, Branch, Load, Store, Immediate, Shift, WordShift, Register, LoadReserved}
use Rattle.rv_model.specs.declared.insn.Insn.TheVariants.{StoreConditional, Amo, Fence, FenceI, Csr, CsrImmediate, Ecall, Ebreak, Mret, Wfi}
use Rattle.rv_model.specs.declared.load_op.LoadOp.{LoadOp}
use Rattle.rv_model.specs.declared.width.Width.{Width}
use Rattle.rv_model.specs.declared.operands.RType.{RType}
use Rattle.rv_model.specs.declared.operands.IType.{IType}
use Rattle.rv_model.specs.declared.operands.SType.{SType}
use Rattle.rv_model.specs.declared.operands.BType.{BType}
use Rattle.rv_model.specs.declared.operands.ShiftType.{ShiftType}
use Rattle.rv_model.specs.declared.operands.LoadReservedType.{LoadReservedType}
use Rattle.rv_model.specs.Accesses.{load_size, load_extension, width_size, width_extension}
use Rattle.rv_model.specs.Alu.{alu_of}
use Rattle.rv_model.specs.Conditions.{holds}
use Rattle.rv_model.specs.CsrChanges.{change_by, writes_by}
use Rattle.rv_model.specs.Memory.{Memory, loaded, store_answer, after_store, reserve, dropped, covers}
use Rattle.rv_model.specs.Core.{Core, x_of, with_x, next_pc, offset_by}
use Rattle.rv_model.specs.Registers.{csr_seen, csr_written, csr_read_only}
use Rattle.rv_model.specs.Traps.{misaligned_target, illegal_instruction, breakpoint, environment_call, load_cause, store_cause, trap_entered, trap_left}

-- a core after one instruction, and what became of it
pub record Step : Type 0 where
  pub core : Core
  pub did : Did

-- the same, with the memory that it leaves
pub record Outcome : Type 0 where
  pub step : Step
  pub memory : Memory

abbrev pub same_memory : Memory → Step → Outcome
same_memory m s = record { step = s; memory = m }

-- ---- a core alone

abbrev pub retires : Core → Step
retires c = record { core = c; did = Retired }

abbrev pub goes_on : Core → Step
goes_on c = retires (record c { pc = next_pc c })

abbrev pub traps : ℕ → ℕ → Core → Step
traps cause value c = record { core = trap_entered cause value c; did = Trapped cause }

abbrev pub sets_rd : ℕ → ℕ → Core → Step
sets_rd rd v c = goes_on (with_x c rd v)

abbrev pub by_immediate : ImmediateOp → IType → Core → Step
by_immediate o p c = sets_rd p.rd (alu_of (op.Immediate o) (x_of c p.rs1) p.imm) c

abbrev pub by_amount : AluOp → ShiftType → Core → Step
by_amount o p c = sets_rd p.rd (alu_of o (x_of c p.rs1) p.amount) c

abbrev pub by_registers : RegisterOp → RType → Core → Step
by_registers o p c = sets_rd p.rd (alu_of (op.Register o) (x_of c p.rs1) (x_of c p.rs2)) c

-- a jump leaves the address behind it in rd; it traps where its target is not a multiple of 4
abbrev pub jumps : ℕ → ℕ → Core → Step
jumps rd target c = if target % 4 == 0 then retires (record (with_x c rd (next_pc c)) { pc = target }) else traps misaligned_target target c

-- a branch that is taken jumps, and leaves no address
abbrev pub branches : Bool → BType → Core → Step
branches taken p c = if taken then jumps 0 (offset_by c.pc p.imm) c else goes_on c

-- ---- control and status registers

abbrev pub swapped_csr : Option ℕ → Bool → (ℕ → ℕ → ℕ) → ℕ → ℕ → ℕ → Core → Step
swapped_csr None writes change number v rd c = traps illegal_instruction 0 c
swapped_csr (Some old) writes change number v rd c =
    if writes && csr_read_only number then traps illegal_instruction 0 c
    else sets_rd rd old (if writes then csr_written c number (change old v) else c)

-- rd takes a register's old value; where the instruction writes, the register takes the changed one
abbrev pub swaps_csr : Bool → (ℕ → ℕ → ℕ) → ℕ → ℕ → ℕ → Core → Memory → Step
swaps_csr writes change number v rd c m = swapped_csr (csr_seen c m number) writes change number v rd c

-- ---- loads and stores: the step goes by what memory answers, and a refused access changes no memory

abbrev pub after_load : Result ℕ MemFault → (ℕ → ℕ) → ℕ → ℕ → Core → Step
after_load (Ok v) extend rd a c = sets_rd rd (extend v) c
after_load (Err fault) extend rd a c = traps (load_cause fault) a c

abbrev pub loads_at : ℕ → Size → (ℕ → ℕ) → ℕ → Core → Memory → Outcome
loads_at a size extend rd c m = same_memory m (after_load (loaded m a size) extend rd a c)

abbrev pub loads : LoadOp → IType → Core → Memory → Outcome
loads o p c m = loads_at (offset_by (x_of c p.rs1) p.imm) (load_size o) (load_extension o) p.rd c m

abbrev pub stored_step : Result ⊤ MemFault → ℕ → Core → Step
stored_step (Ok _) a c = goes_on c
stored_step (Err fault) a c = traps (store_cause fault) a c

abbrev pub stores_at : ℕ → Size → ℕ → Core → Memory → Outcome
stores_at a size v c m = record { step = stored_step (store_answer m a size) a c; memory = after_store m a size v }

abbrev pub stores : Size → SType → Core → Memory → Outcome
stores size p c m = stores_at (offset_by (x_of c p.rs1) p.imm) size (x_of c p.rs2) c m

-- ---- reservations: lr takes one for its hart; sc ends it, and stores only where it covers the bytes

abbrev pub after_reserve : Result ℕ MemFault → ℕ → Core → Memory → Memory
after_reserve (Ok _) a c m = reserve m c.id a
after_reserve (Err fault) a c m = m

abbrev pub reserves_at : ℕ → Size → (ℕ → ℕ) → ℕ → Core → Memory → Outcome
reserves_at a size extend rd c m = record { step = after_load (loaded m a size) extend rd a c; memory = after_reserve (loaded m a size) a c m }

abbrev pub reserves : Width → LoadReservedType → Core → Memory → Outcome
reserves width p c m = reserves_at (x_of c p.rs1) (width_size width) (width_extension width) p.rd c m

-- an sc or an atomic memory operation is refused where a load of its bytes is, as a store
abbrev pub sc_step : Result ℕ MemFault → Bool → ℕ → ℕ → Core → Step
sc_step (Ok _) covered rd a c = sets_rd rd (if covered then 0 else 1) c
sc_step (Err fault) covered rd a c = traps (store_cause fault) a c

abbrev pub after_sc : Result ℕ MemFault → Bool → ℕ → Size → ℕ → Core → Memory → Memory
after_sc (Ok _) covered a size v c m = dropped (if covered then after_store m a size v else m) c.id
after_sc (Err fault) covered a size v c m = m

abbrev pub stores_if_reserved_at : ℕ → Size → ℕ → ℕ → Core → Memory → Outcome
stores_if_reserved_at a size v rd c m = record {
  step = sc_step (loaded m a size) (covers m c.id a size) rd a c;
  memory = after_sc (loaded m a size) (covers m c.id a size) a size v c m;
}

abbrev pub stores_if_reserved : Width → RType → Core → Memory → Outcome
stores_if_reserved width p c m = stores_if_reserved_at (x_of c p.rs1) (width_size width) (x_of c p.rs2) p.rd c m

-- ---- atomic memory operations: rd takes the old value, memory the result

abbrev pub amo_step : Result ℕ MemFault → (ℕ → ℕ) → ℕ → ℕ → Core → Step
amo_step (Ok v) extend rd a c = sets_rd rd (extend v) c
amo_step (Err fault) extend rd a c = traps (store_cause fault) a c

abbrev pub after_amo : Result ℕ MemFault → (ℕ → ℕ) → AluOp → ℕ → Size → ℕ → Memory → Memory
after_amo (Ok v) extend o a size b m = after_store m a size (alu_of o (extend v) b)
after_amo (Err fault) extend o a size b m = m

abbrev pub updates_at : ℕ → Size → (ℕ → ℕ) → AluOp → ℕ → ℕ → Core → Memory → Outcome
updates_at a size extend o b rd c m = record {
  step = amo_step (loaded m a size) extend rd a c;
  memory = after_amo (loaded m a size) extend o a size b m;
}

abbrev pub updates : AmoOp → Width → RType → Core → Memory → Outcome
updates o width p c m = updates_at (x_of c p.rs1) (width_size width) (width_extension width) (op.Amo o width) (x_of c p.rs2) p.rd c m

-- ---- the table: one line for each format's instructions

abbrev pub effect : Insn → Core → Memory → Outcome
effect (Lui p) c m = same_memory m (sets_rd p.rd p.imm c)
effect (Auipc p) c m = same_memory m (sets_rd p.rd (offset_by c.pc p.imm) c)
effect (Jal p) c m = same_memory m (jumps p.rd (offset_by c.pc p.imm) c)
effect (Jalr p) c m = same_memory m (jumps p.rd (offset_by (x_of c p.rs1) p.imm / 2 * 2) c)
effect (Branch condition p) c m = same_memory m (branches (holds condition (x_of c p.rs1) (x_of c p.rs2)) p c)
effect (Load o p) c m = loads o p c m
effect (Store size p) c m = stores size p c m
effect (Immediate o p) c m = same_memory m (by_immediate o p c)
effect (Shift o p) c m = same_memory m (by_amount (op.Shift o) p c)
effect (WordShift o p) c m = same_memory m (by_amount (op.WordShift o) p c)
effect (Register o p) c m = same_memory m (by_registers o p c)
effect (LoadReserved width p) c m = reserves width p c m
effect (StoreConditional width p) c m = stores_if_reserved width p c m
effect (Amo o width p) c m = updates o width p c m
effect Fence c m = same_memory m (goes_on c)
effect FenceI c m = same_memory m (goes_on c)
effect (Csr change p) c m = same_memory m (swaps_csr (writes_by change p.rs1) (change_by change) p.csr (x_of c p.rs1) p.rd c m)
effect (CsrImmediate change p) c m = same_memory m (swaps_csr (writes_by change p.imm) (change_by change) p.csr p.imm p.rd c m)
effect Ecall c m = same_memory m (traps environment_call 0 c)
effect Ebreak c m = same_memory m (traps breakpoint 0 c)
effect Mret c m = same_memory m (retires (trap_left c))
effect Wfi c m = same_memory m (goes_on c)

-- the same, closed: what contracts cite
unfoldable pub effect_of : Insn → Core → Memory → Outcome
effect_of = effect
