-- What every instruction keeps, by its line in the table of effects, and that none is an interrupt.
use Rattle.std.proofs.Common.{◌≡◌, ◌*◌, ◌/◌}
use Rattle.rv_model.specs.declared.did.Did.TheVariants.{Interrupted, Retired}
use Rattle.rv_model.specs.declared.insn.Insn.{Insn}
use Rattle.rv_model.specs.declared.insn.Insn.TheVariants.{
  Lui,
  Auipc,
  Jal,
  Jalr,
  Branch,
  Load,
  Store,
  Immediate,
  Shift,
  WordShift,
  Register,
  LoadReserved,
  StoreConditional,
  Amo,
  Fence,
  FenceI,
  Csr,
  CsrImmediate,
  Ecall,
  Ebreak,
  Mret,
  Wfi,
}
use Rattle.rv_model.specs.Accesses.{load_extension, load_size, width_extension, width_size}
use Rattle.rv_model.specs.Conditions.{holds}
use Rattle.rv_model.specs.CsrChanges.{change_by, writes_by}
use Rattle.rv_model.specs.Memory.{Memory, covers, loaded, store_answer}
use Rattle.rv_model.specs.Core.{Core, offset_by, x_of}
use Rattle.rv_model.specs.Effects.{effect, effect_of}
use Rattle.rv_model.specs.Laws.{Keeps}
use Rattle.rv_model.proofs.KeptLemmas.{
  quiet,
  goes_on_keeps,
  traps_keeps,
  trap_left_keeps,
  sets_rd_keeps,
  jumps_keeps,
  branches_keeps,
  swaps_csr_keeps,
  after_load_keeps,
  stores_keeps,
  reserves_keeps,
  stores_if_reserved_keeps,
  updates_keeps,
  stored_step_keeps,
  sc_step_keeps,
  amo_step_keeps,
}

pub effect_keeps : (insn : Insn) (c : Core) (m : Memory) → Keeps c m (effect insn c m)
effect_keeps (Lui p) c m = quiet m (sets_rd_keeps p.rd _ c)
effect_keeps (Auipc p) c m = quiet m (sets_rd_keeps p.rd _ c)
effect_keeps (Jal p) c m = quiet m (jumps_keeps p.rd _ c)
effect_keeps (Jalr p) c m = quiet m (jumps_keeps p.rd _ c)
effect_keeps (Branch condition p) c m = quiet m (branches_keeps _ p c)
effect_keeps (Load op p) c m = quiet m (after_load_keeps (loaded m _ _) _ p.rd _ c)
effect_keeps (Store size p) c m = stores_keeps _ _ _ c m
effect_keeps (Immediate op p) c m = quiet m (sets_rd_keeps p.rd _ c)
effect_keeps (Shift op p) c m = quiet m (sets_rd_keeps p.rd _ c)
effect_keeps (WordShift op p) c m = quiet m (sets_rd_keeps p.rd _ c)
effect_keeps (Register op p) c m = quiet m (sets_rd_keeps p.rd _ c)
effect_keeps (LoadReserved width p) c m = reserves_keeps _ _ _ _ c m
effect_keeps (StoreConditional width p) c m = stores_if_reserved_keeps _ _ _ _ c m
effect_keeps (Amo op width p) c m = updates_keeps _ _ _ _ _ _ c m
effect_keeps Fence c m = quiet m (goes_on_keeps c)
effect_keeps FenceI c m = quiet m (goes_on_keeps c)
effect_keeps (Csr change p) c m = quiet m (swaps_csr_keeps _ _ _ _ _ c m)
effect_keeps (CsrImmediate change p) c m = quiet m (swaps_csr_keeps _ _ _ _ _ c m)
effect_keeps Ecall c m = quiet m (traps_keeps _ _ c)
effect_keeps Ebreak c m = quiet m (traps_keeps _ _ c)
effect_keeps Mret c m = quiet m (trap_left_keeps c)
effect_keeps Wfi c m = quiet m (goes_on_keeps c)

retires_alone : Retired ≡ Interrupted → ⊥
retires_alone e = cc

uninterrupted : (insn : Insn) (c : Core) (m : Memory) → (effect insn c m).step.did ≡ Interrupted → ⊥
uninterrupted (Jal p) c m = (jumps_keeps p.rd (offset_by c.pc p.imm) c).no_interrupt
uninterrupted (Jalr p) c m = (jumps_keeps p.rd (offset_by (x_of c p.rs1) p.imm / 2 * 2) c).no_interrupt
uninterrupted (Branch condition p) c m = (branches_keeps (holds condition (x_of c p.rs1) (x_of c p.rs2)) p c).no_interrupt
uninterrupted (Load o p) c m =
    let a = offset_by (x_of c p.rs1) p.imm in
    (after_load_keeps (loaded m a (load_size o)) (load_extension o) p.rd a c).no_interrupt
uninterrupted (Store size p) c m =
    let a = offset_by (x_of c p.rs1) p.imm in
    (stored_step_keeps (store_answer m a size) a c).no_interrupt
uninterrupted (LoadReserved width p) c m =
    (after_load_keeps (loaded m (x_of c p.rs1) (width_size width)) (width_extension width) p.rd (x_of c p.rs1) c).no_interrupt
uninterrupted (StoreConditional width p) c m =
    let a = x_of c p.rs1 in
    (sc_step_keeps (loaded m a (width_size width)) (covers m c.id a (width_size width)) p.rd a c).no_interrupt
uninterrupted (Amo o width p) c m =
    (amo_step_keeps (loaded m (x_of c p.rs1) (width_size width)) (width_extension width) p.rd (x_of c p.rs1) c).no_interrupt
uninterrupted (Csr change p) c m = (swaps_csr_keeps (writes_by change p.rs1) (change_by change) p.csr (x_of c p.rs1) p.rd c m).no_interrupt
uninterrupted (CsrImmediate change p) c m = (swaps_csr_keeps (writes_by change p.imm) (change_by change) p.csr p.imm p.rd c m).no_interrupt
uninterrupted Ecall c m = (traps_keeps 11 0 c).no_interrupt
uninterrupted Ebreak c m = (traps_keeps 3 0 c).no_interrupt
uninterrupted (Lui p) c m = retires_alone
uninterrupted (Auipc p) c m = retires_alone
uninterrupted (Immediate op p) c m = retires_alone
uninterrupted (Shift op p) c m = retires_alone
uninterrupted (WordShift op p) c m = retires_alone
uninterrupted (Register op p) c m = retires_alone
uninterrupted Fence c m = retires_alone
uninterrupted FenceI c m = retires_alone
uninterrupted Mret c m = retires_alone
uninterrupted Wfi c m = retires_alone

-- an instruction's effect is never an interrupt
pub effect_uninterrupted : (insn : Insn) (c : Core) (m : Memory) → (effect_of insn c m).step.did ≡ Interrupted → ⊥
unfolding effect_of
effect_uninterrupted insn c m = uninterrupted insn c m
