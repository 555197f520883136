-- What every instruction leaves of a wide core and of ready memory, by its line in the table of effects.
use Rattle.std.proofs.Common.{◌≡◌, ◌*◌, ◌/◌, ◌^◌, ◌<◌, ℕ, Bool, true, false, if◌then◌else◌, Option, Some, None, Result, Ok, Err, arith, refl}
use Rattle.rv_model.specs.declared.alu_op.AluOp.{AluOp}
use Rattle.rv_model.specs.declared.alu_op.AluOp.TheVariants as op
use Rattle.rv_model.specs.declared.insn.Insn.{Insn}
use Rattle.rv_model.specs.declared.insn.Insn.TheVariants.{
  Lui,
  Auipc,
  Jal,
  Jalr,
  Branch,
  Load,
  Store,
  Immediate,
  Shift,
  WordShift,
  Register,
  LoadReserved,
  StoreConditional,
  Amo,
  Fence,
  FenceI,
  Csr,
  CsrImmediate,
  Ecall,
  Ebreak,
  Mret,
  Wfi,
}
use Rattle.rv_model.specs.declared.load_op.LoadOp.{LoadOp}
use Rattle.rv_model.specs.declared.load_op.LoadOp.TheVariants.{Lb, Lh, Lw, Ld, Lbu, Lhu, Lwu}
use Rattle.rv_model.specs.declared.mem_fault.MemFault.{MemFault}
use Rattle.rv_model.specs.declared.size.Size.{Size}
use Rattle.rv_model.specs.declared.size.Size.TheVariants.{B1, B2, B4, B8}
use Rattle.rv_model.specs.declared.width.Width.{Width}
use Rattle.rv_model.specs.declared.width.Width.TheVariants.{Word, DoubleWord}
use Rattle.rv_model.specs.Accesses.{load_extension, load_size, whole, width_extension, width_size}
use Rattle.rv_model.specs.Core.{Core, offset_by, x_of}
use Rattle.rv_model.specs.Effects.{Outcome, Step, effect, effect_of, loads_at, reserves_at, same_memory, stores_at, stores_if_reserved_at, updates_at}
use Rattle.rv_model.specs.Execute.{decoded, exec_masked_of, exec_of, fetched, interrupted, takes_interrupt}
use Rattle.rv_model.specs.Fields.{sign_extended}
use Rattle.rv_model.specs.Memory.{Memory, covers, fetch_of, loaded, store_answer}
use Rattle.rv_model.specs.Rows.{meaning}
use Rattle.rv_model.specs.Size.{count_of}
use Rattle.rv_model.specs.Widths.{MemoryReady}
use Rattle.rv_model.proofs.WideCore.{
  CoreWide,
  after_load_wide,
  amo_wide,
  branches_wide,
  goes_on_wide,
  illegal_wide,
  interrupt_wide,
  jumps_wide,
  offset_wide,
  sc_wide,
  sets_rd_wide,
  stored_wide,
  swaps_wide,
  trap_left_wide,
  traps_wide,
  x_wide,
  zero_wide,
}
use Rattle.rv_model.proofs.WideMemory.{amo_ready, loaded_small, reserve_ready, sc_ready, stored_ready}
use Rattle.rv_model.proofs.WideOperands.{ImmediateWide, meaning_wide}
use Rattle.rv_model.proofs.WideWords.{IsWide, alu_wide, extended_wide}

pub record OutcomeWide (o : Outcome) : Type 0 where
  pub core : CoreWide o.step.core
  pub memory : MemoryReady o.memory

quiet_wide : (m : Memory) {s : Step} → CoreWide s.core → MemoryReady m → OutcomeWide (same_memory m s)
quiet_wide m w r = record { core = w; memory = r }

-- ---- what a load puts into a register

abbrev Extends : Size → (ℕ → ℕ) → Type 0
Extends size extend = (v : ℕ) → v < 256 ^ count_of size → IsWide (extend v)

byte_extended : Extends B1 (sign_extended 8)
byte_extended v small = extended_wide 8 v (omega arith) (omega arith) (omega arith)

half_extended : Extends B2 (sign_extended 16)
half_extended v small = extended_wide 16 v (omega arith) (omega arith) (omega arith)

word_extended : Extends B4 (sign_extended 32)
word_extended v small = extended_wide 32 v (omega arith) (omega arith) (omega arith)

whole_extended_1 : Extends B1 whole
whole_extended_1 v small = omega arith

whole_extended_2 : Extends B2 whole
whole_extended_2 v small = omega arith

whole_extended_4 : Extends B4 whole
whole_extended_4 v small = omega arith

whole_extended_8 : Extends B8 whole
whole_extended_8 v small = omega arith

load_extends : (o : LoadOp) → Extends (load_size o) (load_extension o)
load_extends Lb = byte_extended
load_extends Lh = half_extended
load_extends Lw = word_extended
load_extends Ld = whole_extended_8
load_extends Lbu = whole_extended_1
load_extends Lhu = whole_extended_2
load_extends Lwu = whole_extended_4

width_extends : (width : Width) → Extends (width_size width) (width_extension width)
width_extends Word = word_extended
width_extends DoubleWord = whole_extended_8

-- ---- accesses

loads_wide : (a : ℕ) (size : Size) (extend : ℕ → ℕ) (rd : ℕ) (c : Core) (m : Memory) → CoreWide c → MemoryReady m → IsWide a → Extends size extend
    → OutcomeWide (loads_at a size extend rd c m)
loads_wide a size extend rd c m w r p q = record {
  core = after_load_wide (loaded m a size) extend rd a c w p (λ v is. q v (loaded_small m a size v r is));
  memory = r;
}

stores_wide : (a : ℕ) (size : Size) (v : ℕ) (c : Core) (m : Memory) → CoreWide c → MemoryReady m → IsWide a → OutcomeWide (stores_at a size v c m)
stores_wide a size v c m w r p = record { core = stored_wide (store_answer m a size) a c w p; memory = stored_ready m a size v r }

reserves_wide : (a : ℕ) (size : Size) (extend : ℕ → ℕ) (rd : ℕ) (c : Core) (m : Memory) → CoreWide c → MemoryReady m → IsWide a → Extends size extend
    → OutcomeWide (reserves_at a size extend rd c m)
reserves_wide a size extend rd c m w r p q = record {
  core = after_load_wide (loaded m a size) extend rd a c w p (λ v is. q v (loaded_small m a size v r is));
  memory = reserve_ready (loaded m a size) a c m r;
}

conditional_wide : (a : ℕ) (size : Size) (v rd : ℕ) (c : Core) (m : Memory) → CoreWide c → MemoryReady m → IsWide a
    → OutcomeWide (stores_if_reserved_at a size v rd c m)
conditional_wide a size v rd c m w r p = record {
  core = sc_wide (loaded m a size) (covers m c.id a size) rd a c w p;
  memory = sc_ready (loaded m a size) (covers m c.id a size) a size v c m r;
}

updates_wide : (a : ℕ) (size : Size) (extend : ℕ → ℕ) (o : AluOp) (b rd : ℕ) (c : Core) (m : Memory) → CoreWide c → MemoryReady m → IsWide a
    → Extends size extend → OutcomeWide (updates_at a size extend o b rd c m)
updates_wide a size extend o b rd c m w r p q = record {
  core = amo_wide (loaded m a size) extend rd a c w p (λ v is. q v (loaded_small m a size v r is));
  memory = amo_ready (loaded m a size) extend o a size b m r;
}

-- ---- the table

even_wide : (n : ℕ) → IsWide n → IsWide (n / 2 * 2)
even_wide n p = omega arith

eleven_wide : IsWide 11
eleven_wide = omega arith

three_wide : IsWide 3
three_wide = omega arith

one_wide : IsWide 1
one_wide = omega arith

effect_wide : (insn : Insn) (c : Core) (m : Memory) → CoreWide c → MemoryReady m → ImmediateWide insn → OutcomeWide (effect insn c m)
effect_wide (Lui p) c m w r imm = quiet_wide m (sets_rd_wide p.rd p.imm c w imm) r
effect_wide (Auipc p) c m w r imm = quiet_wide m (sets_rd_wide p.rd (offset_by c.pc p.imm) c w (offset_wide c.pc p.imm)) r
effect_wide (Jal p) c m w r imm = quiet_wide m (jumps_wide p.rd (offset_by c.pc p.imm) c w (offset_wide c.pc p.imm)) r
effect_wide (Jalr p) c m w r imm = quiet_wide m (jumps_wide p.rd (offset_by (x_of c p.rs1) p.imm / 2 * 2) c w
    (even_wide (offset_by (x_of c p.rs1) p.imm) (offset_wide (x_of c p.rs1) p.imm))) r
effect_wide (Branch condition p) c m w r imm = quiet_wide m (branches_wide _ p c w) r
effect_wide (Load o p) c m w r imm = loads_wide (offset_by (x_of c p.rs1) p.imm) (load_size o) (load_extension o) p.rd c m w r
    (offset_wide (x_of c p.rs1) p.imm) (load_extends o)
effect_wide (Store size p) c m w r imm = stores_wide (offset_by (x_of c p.rs1) p.imm) size (x_of c p.rs2) c m w r (offset_wide (x_of c p.rs1) p.imm)
effect_wide (Immediate o p) c m w r imm = quiet_wide m (sets_rd_wide p.rd _ c w (alu_wide (op.Immediate o) (x_of c p.rs1) p.imm (x_wide c p.rs1 w) imm)) r
effect_wide (Shift o p) c m w r imm = quiet_wide m (sets_rd_wide p.rd _ c w (alu_wide (op.Shift o) (x_of c p.rs1) p.amount (x_wide c p.rs1 w) imm)) r
effect_wide (WordShift o p) c m w r imm = quiet_wide m (sets_rd_wide p.rd _ c w (alu_wide (op.WordShift o) (x_of c p.rs1) p.amount (x_wide c p.rs1 w) imm)) r
effect_wide (Register o p) c m w r imm = quiet_wide m
    (sets_rd_wide p.rd _ c w (alu_wide (op.Register o) (x_of c p.rs1) (x_of c p.rs2) (x_wide c p.rs1 w) (x_wide c p.rs2 w))) r
effect_wide (LoadReserved width p) c m w r imm = reserves_wide (x_of c p.rs1) (width_size width) (width_extension width) p.rd c m w r (x_wide c p.rs1 w)
    (width_extends width)
effect_wide (StoreConditional width p) c m w r imm = conditional_wide (x_of c p.rs1) (width_size width) (x_of c p.rs2) p.rd c m w r (x_wide c p.rs1 w)
effect_wide (Amo o width p) c m w r imm = updates_wide (x_of c p.rs1) (width_size width) (width_extension width) (op.Amo o width) (x_of c p.rs2) p.rd c m w r
    (x_wide c p.rs1 w) (width_extends width)
effect_wide Fence c m w r imm = quiet_wide m (goes_on_wide c w) r
effect_wide FenceI c m w r imm = quiet_wide m (goes_on_wide c w) r
effect_wide (Csr change p) c m w r imm = quiet_wide m (swaps_wide _ _ _ _ p.rd c m w) r
effect_wide (CsrImmediate change p) c m w r imm = quiet_wide m (swaps_wide _ _ _ _ p.rd c m w) r
effect_wide Ecall c m w r imm = quiet_wide m (traps_wide 11 0 c w eleven_wide zero_wide) r
effect_wide Ebreak c m w r imm = quiet_wide m (traps_wide 3 0 c w three_wide zero_wide) r
effect_wide Mret c m w r imm = quiet_wide m (trap_left_wide c w) r
effect_wide Wfi c m w r imm = quiet_wide m (goes_on_wide c w) r

-- ---- execution

decoded_wide : (o : Option Insn) (c : Core) (m : Memory) → CoreWide c → MemoryReady m → ((i : Insn) → o ≡ Some i → ImmediateWide i)
    → OutcomeWide (decoded o c m)
unfolding effect_of
decoded_wide (Some insn) c m w r imm = effect_wide insn c m w r (imm insn refl)
decoded_wide None c m w r imm = quiet_wide m (traps_wide 2 0 c w illegal_wide zero_wide) r

fetched_wide : (f : Result ℕ MemFault) (c : Core) (m : Memory) → CoreWide c → MemoryReady m → OutcomeWide (fetched f c m)
fetched_wide (Ok word) c m w r = decoded_wide (meaning word) c m w r (λ i is. meaning_wide word i is)
fetched_wide (Err fault) c m w r = quiet_wide m (traps_wide 1 c.pc c w one_wide w.pc) r

pub masked_wide : (c : Core) (m : Memory) → CoreWide c → MemoryReady m → OutcomeWide (exec_masked_of c m)
unfolding exec_masked_of
masked_wide c m w r = fetched_wide (fetch_of m c.pc) c m w r

exec_by : (taken : Bool) (c : Core) (m : Memory) → CoreWide c → MemoryReady m
    → OutcomeWide (if taken then same_memory m (interrupted c) else exec_masked_of c m)
exec_by true c m w r = quiet_wide m (interrupt_wide c w) r
exec_by false c m w r = masked_wide c m w r

pub exec_wide : (c : Core) (m : Memory) → CoreWide c → MemoryReady m → OutcomeWide (exec_of c m)
unfolding exec_of
exec_wide c m w r = exec_by (takes_interrupt c m) c m w r
