-- The bytes of memory behind one instruction: they are kept, or written where the instruction writes.
use Rattle.std.proofs.Common.{◌≡◌, ◌∙◌, ◌⊎◌, ◌+◌, ◌<◌, ◌≤◌, ℕ, Bool, true, false, List, [], ◌∷◌, Option, Some, None, Result, Ok, Err, is_some, refl, ap}
use Rattle.std.proofs.Common.{if◌then◌else◌, inl, inr, arith}
use Rattle.std.specs.FinMap.{get}
use Rattle.std.proofs.lemmas.Bool.{false≢true, or_parts}
use Rattle.rv_model.specs.declared.insn.Insn.{Insn}
use Rattle.rv_model.specs.declared.insn.Insn.TheVariants.{Lui, Auipc, Jal, Jalr, Branch, Load, Store, Immediate, Shift, WordShift, Register, LoadReserved}
use Rattle.rv_model.specs.declared.insn.Insn.TheVariants.{StoreConditional, Amo, Fence, FenceI, Csr, CsrImmediate, Ecall, Ebreak, Mret, Wfi}
use Rattle.rv_model.specs.declared.mem_fault.MemFault.{MemFault}
use Rattle.rv_model.specs.declared.size.Size.{Size}
use Rattle.rv_model.specs.Accesses.{load_size, width_extension, width_size}
use Rattle.rv_model.specs.Core.{Core, offset_by, x_of}
use Rattle.rv_model.specs.declared.alu_op.AluOp.TheVariants as op
use Rattle.rv_model.specs.declared.alu_op.AluOp.{AluOp}
use Rattle.rv_model.specs.Board.{Hart}
use Rattle.rv_model.specs.Effects.{after_amo, after_reserve, after_sc, effect_of, same_memory}
use Rattle.rv_model.specs.Execute.{decoded, exec_masked_of, exec_of, fetched, interrupted, takes_interrupt}
use Rattle.rv_model.specs.Laws.{answered}
use Rattle.rv_model.specs.Memory.{Bytes, Memory, after_store, covers, fetch_of, loaded, with_value}
use Rattle.rv_model.specs.Rows.{meaning}
use Rattle.rv_model.specs.Size.{count_of}
use Rattle.rv_model.specs.Touch.{reads, reads_and_writes, touches_nothing, writes}
use Rattle.rv_model.specs.Turn.{masks_interrupts, turn_outcome}
use Rattle.rv_model.proofs.MemoryLemmas.{after_store_refused, after_store_taken, store_answer_is}
use Rattle.soft_laws.specs.SoftBreaks.{meets, meets_some}
use Rattle.soft_laws.specs.Undisturbed.{accessed, accessed_fetched, accessed_meant, accessed_of, reaches, unless_refused}
use Rattle.soft_laws.proofs.ByteLemmas.{Apart, byte_above, byte_below, byte_or, get-with_value}
use Rattle.soft_laws.proofs.PatchedLemmas.{either_true, meets-apart, meets-within}
use Rattle.soft_laws.proofs.PatchLemmas.{written-there}

-- kept, or a value written there
abbrev pub Stored : Option (ℕ × ℕ) → (old new : Bytes) → Type 0
Stored None old new = new ≡ old
Stored (Some access) old new = (new ≡ old) ⊎ ((v : ℕ) × (new ≡ with_value old access.0 access.1 v))

bytes_taken : (m : Memory) (a : ℕ) (size : Size) (v old : ℕ) → loaded m a size ≡ Ok old → (after_store m a size v).bytes ≡ with_value m.bytes a
    (count_of size) v
bytes_taken m a size v old is = ap (λ (n : Memory). n.bytes) (after_store_taken m a size v (store_answer_is m a size ∙ ap answered is))

stored_store : (m : Memory) (c : Core) (a : ℕ) (size : Size) (v : ℕ) (r : Result ℕ MemFault) → loaded m a size ≡ r
    → Stored (unless_refused r (writes c a size) c).store m.bytes (after_store m a size v).bytes
stored_store m c a size v (Ok old) is = inr (v, bytes_taken m a size v old is)
stored_store m c a size v (Err fault) is =
    ap (λ (n : Memory). n.bytes) (after_store_refused m a size v fault (store_answer_is m a size ∙ ap answered is))

stored_sc : (m : Memory) (c : Core) (a : ℕ) (size : Size) (v : ℕ) (covered : Bool) (r : Result ℕ MemFault) → loaded m a size ≡ r
    → Stored (unless_refused r (if covered then writes c a size else touches_nothing c) c).store m.bytes (after_sc r covered a size v c m).bytes
stored_sc m c a size v true (Ok old) is = inr (v, bytes_taken m a size v old is)
stored_sc m c a size v false (Ok old) is = refl
stored_sc m c a size v covered (Err fault) is = refl

stored_amo : (m : Memory) (c : Core) (a : ℕ) (size : Size) (extend : ℕ → ℕ) (o : AluOp) (b : ℕ) (r : Result ℕ MemFault) → loaded m a size ≡ r
    → Stored (unless_refused r (reads_and_writes c a size) c).store m.bytes (after_amo r extend o a size b m).bytes
stored_amo m c a size extend o b (Ok old) is = inr (_, bytes_taken m a size _ old is)
stored_amo m c a size extend o b (Err fault) is = refl

-- a load reads, and a reservation writes no byte
stored_load : (m : Memory) (c : Core) (a : ℕ) (size : Size) (r : Result ℕ MemFault) → Stored (unless_refused r (reads c a size) c).store m.bytes m.bytes
stored_load m c a size (Ok v) = refl
stored_load m c a size (Err fault) = refl

stored_reserve : (m : Memory) (c : Core) (a : ℕ) (size : Size) (r : Result ℕ MemFault)
    → Stored (unless_refused r (reads c a size) c).store m.bytes (after_reserve r a c m).bytes
stored_reserve m c a size (Ok v) = refl
stored_reserve m c a size (Err fault) = refl

effect-bytes : (insn : Insn) (c : Core) (m : Memory) → Stored (accessed insn c m).store m.bytes (effect_of insn c m).memory.bytes
unfolding effect_of
effect-bytes (Load o p) c m =
    stored_load m c (offset_by (x_of c p.rs1) p.imm) (load_size o) (loaded m (offset_by (x_of c p.rs1) p.imm) (load_size o))
effect-bytes (Store size p) c m =
    stored_store m c (offset_by (x_of c p.rs1) p.imm) size (x_of c p.rs2) (loaded m (offset_by (x_of c p.rs1) p.imm) size) refl
effect-bytes (LoadReserved width p) c m = stored_reserve m c (x_of c p.rs1) (width_size width) (loaded m (x_of c p.rs1) (width_size width))
effect-bytes (StoreConditional width p) c m =
    stored_sc m c (x_of c p.rs1) (width_size width) (x_of c p.rs2) (covers m c.id (x_of c p.rs1) (width_size width))
    (loaded m (x_of c p.rs1) (width_size width)) refl
effect-bytes (Amo o width p) c m =
    stored_amo m c (x_of c p.rs1) (width_size width) (width_extension width) (op.Amo o width) (x_of c p.rs2) (loaded m (x_of c p.rs1) (width_size width)) refl
effect-bytes (Lui p) c m = refl
effect-bytes (Auipc p) c m = refl
effect-bytes (Jal p) c m = refl
effect-bytes (Jalr p) c m = refl
effect-bytes (Branch condition p) c m = refl
effect-bytes (Immediate o p) c m = refl
effect-bytes (Shift o p) c m = refl
effect-bytes (WordShift o p) c m = refl
effect-bytes (Register o p) c m = refl
effect-bytes Fence c m = refl
effect-bytes FenceI c m = refl
effect-bytes (Csr change p) c m = refl
effect-bytes (CsrImmediate change p) c m = refl
effect-bytes Ecall c m = refl
effect-bytes Ebreak c m = refl
effect-bytes Mret c m = refl
effect-bytes Wfi c m = refl

fetched-bytes : (r : Result ℕ MemFault) (c : Core) (m : Memory) → Stored (accessed_fetched r c m).store m.bytes (fetched r c m).memory.bytes
fetched-bytes (Err fault) c m = refl
fetched-bytes (Ok w) c m = by (meaning w)
  where
    by : (o : Option Insn) → Stored (accessed_meant o c m).store m.bytes (decoded o c m).memory.bytes
    by (Some insn) = effect-bytes insn c m
    by None = refl

masked-bytes : (c : Core) (m : Memory) → Stored (accessed_of c m).store m.bytes (exec_masked_of c m).memory.bytes
unfolding exec_masked_of accessed_of
masked-bytes c m = fetched-bytes (fetch_of m c.pc) c m

stored_same : (s : Option (ℕ × ℕ)) (m : Bytes) → Stored s m m
stored_same None m = refl
stored_same (Some access) m = inl refl

exec-bytes : (c : Core) (m : Memory) → Stored (accessed_of c m).store m.bytes (exec_of c m).memory.bytes
unfolding exec_of
exec-bytes c m = by (takes_interrupt c m)
  where
    by : (b : Bool) → Stored (accessed_of c m).store m.bytes (if b then same_memory m (interrupted c) else exec_masked_of c m).memory.bytes
    by true = stored_same (accessed_of c m).store m.bytes
    by false = masked-bytes c m

pub outcome-bytes : (x : Hart) (m : Memory) → Stored (accessed_of x.core m).store m.bytes (turn_outcome x m).memory.bytes
unfolding turn_outcome
outcome-bytes x m = by (masks_interrupts x.debug)
  where
    by : (b : Bool) → Stored (accessed_of x.core m).store m.bytes (if b then exec_masked_of x.core m else exec_of x.core m).memory.bytes
    by true = masked-bytes x.core m
    by false = exec-bytes x.core m

-- ---- what of it holds of covered words

beside : (cs : List ℕ) (m : Bytes) (a n v q : ℕ) → meets_some cs a n ≡ false → meets_some cs q 1 ≡ true → get (with_value m a n v) q ≡ get m q
beside [] m a n v q none is = absurd (false≢true is)
beside (c ∷ cs) m a n v q none is =
    let parts = or_parts (meets c a n) (meets_some cs a n) none in
    elim (either_true (meets c q 1) (meets_some cs q 1) is) [
      | inl e ↦ get-with_value m a n v q ∙ apart (meets-apart c a n parts.0) (meets-within c q e).from (meets-within c q e).less
      | inr e ↦ beside cs m a n v q parts.1 e
    ]
  where
    apart : Apart c 4 a n → c ≤ q → q < c + 4 → byte_or a n v q (get m q) ≡ get m q
    apart (inl front) from less = byte_below a n v q (get m q) (omega (arith, front, from, less))
    apart (inr behind) from less = byte_above a n v q (get m q) (omega (arith, behind, from, less))

-- a store beside covered words leaves their bytes
pub stored_covered : (cs : List ℕ) (s : Option (ℕ × ℕ)) (old new : Bytes) → Stored s old new → reaches cs s ≡ false → (q : ℕ) → meets_some cs q 1 ≡ true
    → get new q ≡ get old q
stored_covered cs None old new is none q there = ap (λ m. get m q) is
stored_covered cs (Some access) old new (inl is) none q there = ap (λ m. get m q) is
stored_covered cs (Some access) old new (inr e) none q there =
    ap (λ m. get m q) e.1 ∙ beside cs old access.0 access.1 e.0 q none there

-- no byte goes
pub stored_there : (s : Option (ℕ × ℕ)) (old new : Bytes) → Stored s old new → (q : ℕ) → is_some (get old q) ≡ true → is_some (get new q) ≡ true
stored_there None old new is q there = ap (λ m. is_some (get m q)) is ∙ there
stored_there (Some access) old new (inl is) q there = ap (λ m. is_some (get m q)) is ∙ there
stored_there (Some access) old new (inr e) q there = ap (λ m. is_some (get m q)) e.1 ∙ written-there old access.0 access.1 e.0 q there
