-- One instruction over memory with patches: where it isn't a covered one and leaves covered words alone, it does what it does without them.
use Rattle.std.proofs.Common.{◌≡◌, ◌∙◌, ◌+◌, ◌*◌, ◌<◌, ◌≤◌, ◌&&◌, ◌==◌, ℕ, Bool, true, false, List, [], ◌∷◌, arith, Option, Some}
use Rattle.std.proofs.Common.{None, Result, Ok, Err, refl, sym, ap, if◌then◌else◌}
use Rattle.std.specs.Prelude.{nat_lt}
use Rattle.std.specs.FinMap.{get}
use Rattle.std.proofs.lemmas.Bool.{ltb-true}
use Rattle.rv_model.specs.declared.alu_op.AluOp.{AluOp}
use Rattle.rv_model.specs.declared.alu_op.AluOp.TheVariants as op
use Rattle.rv_model.specs.declared.insn.Insn.{Insn}
use Rattle.rv_model.specs.declared.insn.Insn.TheVariants.{Lui, Auipc, Jal, Jalr, Branch, Load, Store, Immediate, Shift, WordShift, Register, LoadReserved}
use Rattle.rv_model.specs.declared.insn.Insn.TheVariants.{StoreConditional, Amo, Fence, FenceI, Csr, CsrImmediate, Ecall, Ebreak, Mret, Wfi}
use Rattle.rv_model.specs.declared.mem_fault.MemFault.{MemFault}
use Rattle.rv_model.specs.declared.size.Size.{Size}
use Rattle.rv_model.specs.Accesses.{load_extension, load_size, width_extension, width_size}
use Rattle.rv_model.specs.Core.{Core, mie_of, msie_of, offset_by, x_of}
use Rattle.rv_model.specs.CsrChanges.{change_by, writes_by}
use Rattle.rv_model.specs.Effects.{Outcome, after_amo, after_load, after_reserve, after_sc, amo_step, effect_of, same_memory, sc_step, stored_step}
use Rattle.rv_model.specs.Effects.{stores_at, stores_if_reserved_at, swapped_csr, swaps_csr, updates_at, loads_at, reserves_at}
use Rattle.rv_model.specs.Execute.{decoded, exec_masked_of, exec_of, fetched, interrupted, takes_interrupt}
use Rattle.rv_model.specs.Fields.{bit_value}
use Rattle.rv_model.specs.Laws.{answered}
use Rattle.rv_model.specs.Memory.{Bytes, Memory, after_store, cleared, covers, dropped, fetch_of, is_set, loaded, msip_bit, ram_base, store_answer}
use Rattle.rv_model.specs.Registers.{csr_seen, csr_value, mip_number}
use Rattle.rv_model.specs.Rows.{meaning}
use Rattle.rv_model.specs.Size.{count_of}
use Rattle.rv_model.specs.Touch.{reads, reads_and_writes, touch_fetched, touch_of, touches_nothing, writes}
use Rattle.rv_model.specs.Turn.{is_ebreak_at, is_ebreak_word, masks_interrupts, turn_outcome}
use Rattle.rv_model.specs.Board.{Hart}
use Rattle.rv_model.proofs.MemoryLemmas.{after_store_refused, after_store_taken, store_answer_is}
use Rattle.soft_laws.specs.SoftBreaks.{AreSoftAddresses, AreInside, ebreak_word, is_listed, meets_some, patched_bytes, patched_memory}
use Rattle.soft_laws.specs.SoftTurns.{ebreak_by, soft_touch, touch_by}
use Rattle.soft_laws.specs.Undisturbed.{LeavesWords, accessed, accessed_fetched, accessed_meant, accessed_of, reaches, unless_refused}
use Rattle.soft_laws.proofs.ByteLemmas.{byte_below, get-with_value}
use Rattle.soft_laws.proofs.PatchedLemmas.{answered-patched, fetched-covered, fetched-patched, loaded-patched, patched-write}

abbrev pub patched_outcome : List ℕ → Outcome → Outcome
patched_outcome cs o = record o { memory = patched_memory cs o.memory }

-- ---- an access by what memory answers

-- where it is taken, it meets no covered word
abbrev LeftBy : List ℕ → ℕ → Size → Result ℕ MemFault → Type 0
LeftBy cs a size (Ok v) = meets_some cs a (count_of size) ≡ false
LeftBy cs a size (Err fault) = Unit {0}

left_load : (cs : List ℕ) (c : Core) (a : ℕ) (size : Size) (r : Result ℕ MemFault) → reaches cs (unless_refused r (reads c a size) c).load ≡ false
    → LeftBy cs a size r
left_load cs c a size (Ok v) is = is
left_load cs c a size (Err fault) is = tt

left_store : (cs : List ℕ) (c : Core) (a : ℕ) (size : Size) (r : Result ℕ MemFault) → reaches cs (unless_refused r (writes c a size) c).store ≡ false
    → LeftBy cs a size r
left_store cs c a size (Ok v) is = is
left_store cs c a size (Err fault) is = tt

left_both : (cs : List ℕ) (c : Core) (a : ℕ) (size : Size) (r : Result ℕ MemFault)
    → reaches cs (unless_refused r (reads_and_writes c a size) c).store ≡ false → LeftBy cs a size r
left_both cs c a size (Ok v) is = is
left_both cs c a size (Err fault) is = tt

refused_too : (r : Result ℕ MemFault) (fault : MemFault) → answered r ≡ Err fault → r ≡ Err fault
refused_too (Ok v) fault is = absurd (cc)
refused_too (Err other) fault is = let e : other ≡ fault = cc in ap Err e

taken_too : (r : Result ℕ MemFault) → answered r ≡ Ok tt → (v : ℕ) × (r ≡ Ok v)
taken_too (Ok v) is = (v, refl)
taken_too (Err other) is = absurd (cc)

pub loaded-left : (cs : List ℕ) (m : Memory) (a : ℕ) (size : Size) → AreInside cs m.bytes → (r : Result ℕ MemFault) → loaded m a size ≡ r → LeftBy cs a size r
    → loaded (patched_memory cs m) a size ≡ r
loaded-left cs m a size inside (Ok v) is left = loaded-patched cs m a size left ∙ is
loaded-left cs m a size inside (Err fault) is left =
    refused_too (loaded (patched_memory cs m) a size) fault (answered-patched cs m a size inside ∙ ap answered is)

store_answer-patched : (cs : List ℕ) (m : Memory) (a : ℕ) (size : Size) → AreInside cs m.bytes
    → store_answer (patched_memory cs m) a size ≡ store_answer m a size
store_answer-patched cs m a size inside =
    store_answer_is (patched_memory cs m) a size ∙ answered-patched cs m a size inside ∙ sym (store_answer_is m a size)

after_store-patched : (cs : List ℕ) (m : Memory) (a : ℕ) (size : Size) (v : ℕ) → AreInside cs m.bytes → (r : Result ℕ MemFault) → loaded m a size ≡ r
    → LeftBy cs a size r → after_store (patched_memory cs m) a size v ≡ patched_memory cs (after_store m a size v)
after_store-patched cs m a size v inside (Ok old) is left =
    let plain : store_answer m a size ≡ Ok tt = store_answer_is m a size ∙ ap answered is in
    after_store_taken (patched_memory cs m) a size v (store_answer-patched cs m a size inside ∙ plain)
    ∙ ap (λ b. cleared (record m { bytes = b }) a (count_of size)) (patched-write cs m.bytes a (count_of size) v left)
    ∙ ap (patched_memory cs) (sym (after_store_taken m a size v plain))
after_store-patched cs m a size v inside (Err fault) is left =
    let plain : store_answer m a size ≡ Err fault = store_answer_is m a size ∙ ap answered is in
    after_store_refused (patched_memory cs m) a size v fault (store_answer-patched cs m a size inside ∙ plain)
    ∙ ap (patched_memory cs) (sym (after_store_refused m a size v fault plain))

-- ---- the instructions with an access

loads-patched : (cs : List ℕ) (a : ℕ) (size : Size) (extend : ℕ → ℕ) (rd : ℕ) (c : Core) (m : Memory) → AreInside cs m.bytes → LeftBy cs a size
    (loaded m a size)
    → loads_at a size extend rd c (patched_memory cs m) ≡ patched_outcome cs (loads_at a size extend rd c m)
loads-patched cs a size extend rd c m inside left =
    ap (λ r. same_memory (patched_memory cs m) (after_load r extend rd a c)) (loaded-left cs m a size inside (loaded m a size) refl left)

stores-patched : (cs : List ℕ) (a : ℕ) (size : Size) (v : ℕ) (c : Core) (m : Memory) → AreInside cs m.bytes → LeftBy cs a size (loaded m a size)
    → stores_at a size v c (patched_memory cs m) ≡ patched_outcome cs (stores_at a size v c m)
stores-patched cs a size v c m inside left =
    ap (λ r. let o : Outcome = record { step = stored_step r a c; memory = after_store (patched_memory cs m) a size v } in o)
    (store_answer-patched cs m a size inside)
    ∙ ap (λ (n : Memory). let o : Outcome = record { step = stored_step (store_answer m a size) a c; memory = n } in o)
    (after_store-patched cs m a size v inside (loaded m a size) refl left)

reserves-patched : (cs : List ℕ) (a : ℕ) (size : Size) (extend : ℕ → ℕ) (rd : ℕ) (c : Core) (m : Memory) → AreInside cs m.bytes
    → LeftBy cs a size (loaded m a size)
    → reserves_at a size extend rd c (patched_memory cs m) ≡ patched_outcome cs (reserves_at a size extend rd c m)
reserves-patched cs a size extend rd c m inside left =
    ap (λ r. let o : Outcome = record { step = after_load r extend rd a c; memory = after_reserve r a c (patched_memory cs m) } in o)
    (loaded-left cs m a size inside (loaded m a size) refl left)
    ∙ ap (λ (n : Memory). let o : Outcome = record { step = after_load (loaded m a size) extend rd a c; memory = n } in o) (by (loaded m a size))
  where
    by : (r : Result ℕ MemFault) → after_reserve r a c (patched_memory cs m) ≡ patched_memory cs (after_reserve r a c m)
    by (Ok v) = refl
    by (Err fault) = refl

updates-patched : (cs : List ℕ) (a : ℕ) (size : Size) (extend : ℕ → ℕ) (o : AluOp) (b rd : ℕ) (c : Core) (m : Memory) → AreInside cs m.bytes
    → LeftBy cs a size (loaded m a size)
    → updates_at a size extend o b rd c (patched_memory cs m) ≡ patched_outcome cs (updates_at a size extend o b rd c m)
updates-patched cs a size extend o b rd c m inside left =
    ap (λ r. let p : Outcome = record { step = amo_step r extend rd a c; memory = after_amo r extend o a size b (patched_memory cs m) } in p)
    (loaded-left cs m a size inside (loaded m a size) refl left)
    ∙ ap (λ (n : Memory). let p : Outcome = record { step = amo_step (loaded m a size) extend rd a c; memory = n } in p) (by (loaded m a size) refl left)
  where
    by : (r : Result ℕ MemFault) → loaded m a size ≡ r → LeftBy cs a size r
        → after_amo r extend o a size b (patched_memory cs m) ≡ patched_memory cs (after_amo r extend o a size b m)
    by (Ok v) is l = after_store-patched cs m a size _ inside (Ok v) is l
    by (Err fault) is l = refl

-- an sc goes by whether its access is refused, and writes only where its reservation covers it
sc_alike : (r r' : Result ℕ MemFault) (covered : Bool) (rd a : ℕ) (c : Core) → answered r ≡ answered r' → sc_step r covered rd a c ≡ sc_step r' covered rd a c
sc_alike (Ok v) (Ok w) covered rd a c e = refl
sc_alike (Ok v) (Err fault) covered rd a c e = absurd (cc)
sc_alike (Err fault) (Ok w) covered rd a c e = absurd (cc)
sc_alike (Err fault) (Err other) covered rd a c e = let same : fault ≡ other = cc in ap (λ f. sc_step (Err f) covered rd a c) same

abbrev ScLeft : List ℕ → ℕ → Size → (covered : Bool) → Result ℕ MemFault → Type 0
ScLeft cs a size true r = LeftBy cs a size r
ScLeft cs a size false r = Unit {0}

left_sc : (cs : List ℕ) (c : Core) (a : ℕ) (size : Size) (covered : Bool) (r : Result ℕ MemFault)
    → reaches cs (unless_refused r (if covered then writes c a size else touches_nothing c) c).store ≡ false → ScLeft cs a size covered r
left_sc cs c a size true (Ok v) is = is
left_sc cs c a size true (Err fault) is = tt
left_sc cs c a size false r is = tt

after_sc-patched : (cs : List ℕ) (a : ℕ) (size : Size) (v : ℕ) (c : Core) (m : Memory) → AreInside cs m.bytes → (covered : Bool) (r r' : Result ℕ MemFault)
    → loaded m a size ≡ r → answered r' ≡ answered r → ScLeft cs a size covered r
    → after_sc r' covered a size v c (patched_memory cs m) ≡ patched_memory cs (after_sc r covered a size v c m)
after_sc-patched cs a size v c m inside covered (Ok old) (Err fault) is e left = absurd (cc)
after_sc-patched cs a size v c m inside covered (Err fault) (Ok new) is e left = absurd (cc)
after_sc-patched cs a size v c m inside covered (Err fault) (Err other) is e left = refl
after_sc-patched cs a size v c m inside true (Ok old) (Ok new) is e left =
    ap (λ n. dropped n c.id) (after_store-patched cs m a size v inside (Ok old) is left)
after_sc-patched cs a size v c m inside false (Ok old) (Ok new) is e left = refl

sc-patched : (cs : List ℕ) (a : ℕ) (size : Size) (v rd : ℕ) (c : Core) (m : Memory) → AreInside cs m.bytes
    → ScLeft cs a size (covers m c.id a size) (loaded m a size)
    → stores_if_reserved_at a size v rd c (patched_memory cs m) ≡ patched_outcome cs (stores_if_reserved_at a size v rd c m)
sc-patched cs a size v rd c m inside left =
    let alike : answered (loaded (patched_memory cs m) a size) ≡ answered (loaded m a size) = answered-patched cs m a size inside in
    ap (λ s. let o : Outcome = record {
      step = s;
      memory = after_sc (loaded (patched_memory cs m) a size) (covers m c.id a size) a size v c (patched_memory cs m);
    } in o) (sc_alike (loaded (patched_memory cs m) a size) (loaded m a size) (covers m c.id a size) rd a c alike)
    ∙ ap (λ (n : Memory). let o : Outcome = record { step = sc_step (loaded m a size) (covers m c.id a size) rd a c; memory = n } in o)
    (after_sc-patched cs a size v c m inside (covers m c.id a size) (loaded m a size) (loaded (patched_memory cs m) a size) refl alike left)

-- ---- mip

-- MSIP words lie below RAM, and patches in it
get-below : (cs : List ℕ) → AreSoftAddresses cs → (m : Bytes) (q : ℕ) → q < ram_base → get (patched_bytes cs m) q ≡ get m q
unfolding patched_bytes
get-below [] are m q low = refl
get-below (c ∷ cs) are m q low =
    get-with_value (patched_bytes cs m) c 4 ebreak_word q
    ∙ byte_below c 4 ebreak_word q (get (patched_bytes cs m) q) (let from : ram_base ≤ c = are.0.1 in omega arith)
    ∙ get-below cs are.1 m q low

msip-patched : (cs : List ℕ) (m : Memory) (h : ℕ) → AreSoftAddresses cs → msip_bit (patched_memory cs m) h ≡ msip_bit m h
msip-patched cs m h are = by (nat_lt h 4) refl
  where
    by : (b : Bool) → nat_lt h 4 ≡ b → (b && is_set (get (patched_bytes cs m.bytes) (0x2000000 + 4 * h))) ≡ (b && is_set (get m.bytes (0x2000000 + 4 * h)))
    by true e = ap is_set (get-below cs are m.bytes (0x2000000 + 4 * h) (let small : h < 4 = ltb-true h 4 e in omega arith))
    by false e = refl

-- so a CSR instruction does what it does without them
swap-patched : (cs : List ℕ) (writes : Bool) (change : ℕ → ℕ → ℕ) (number v rd : ℕ) (c : Core) (m : Memory) → AreSoftAddresses cs
    → same_memory (patched_memory cs m) (swaps_csr writes change number v rd c (patched_memory cs m))
    ≡ patched_outcome cs (same_memory m (swaps_csr writes change number v rd c m))
unfolding csr_seen
swap-patched cs writes change number v rd c m are =
    ap (λ b. same_memory (patched_memory cs m) (swapped_csr (if number == mip_number then Some (bit_value 3 b) else csr_value c number)
    writes change number v rd c))
    (msip-patched cs m c.id are)

-- ---- the table

effect-patched : (cs : List ℕ) (insn : Insn) (c : Core) (m : Memory) → AreSoftAddresses cs → AreInside cs m.bytes → LeavesWords cs (accessed insn c m)
    → effect_of insn c (patched_memory cs m) ≡ patched_outcome cs (effect_of insn c m)
unfolding effect_of
effect-patched cs (Load o p) c m are inside leaves =
    loads-patched cs (offset_by (x_of c p.rs1) p.imm) (load_size o) (load_extension o) p.rd c m inside
    (left_load cs c (offset_by (x_of c p.rs1) p.imm) (load_size o) (loaded m (offset_by (x_of c p.rs1) p.imm) (load_size o)) leaves.0)
effect-patched cs (Store size p) c m are inside leaves =
    stores-patched cs (offset_by (x_of c p.rs1) p.imm) size (x_of c p.rs2) c m inside
    (left_store cs c (offset_by (x_of c p.rs1) p.imm) size (loaded m (offset_by (x_of c p.rs1) p.imm) size) leaves.1)
effect-patched cs (LoadReserved width p) c m are inside leaves =
    reserves-patched cs (x_of c p.rs1) (width_size width) (width_extension width) p.rd c m inside
    (left_load cs c (x_of c p.rs1) (width_size width) (loaded m (x_of c p.rs1) (width_size width)) leaves.0)
effect-patched cs (StoreConditional width p) c m are inside leaves =
    sc-patched cs (x_of c p.rs1) (width_size width) (x_of c p.rs2) p.rd c m inside
    (left_sc cs c (x_of c p.rs1) (width_size width) (covers m c.id (x_of c p.rs1) (width_size width)) (loaded m (x_of c p.rs1) (width_size width)) leaves.1)
effect-patched cs (Amo o width p) c m are inside leaves =
    updates-patched cs (x_of c p.rs1) (width_size width) (width_extension width) (op.Amo o width) (x_of c p.rs2) p.rd c m inside
    (left_both cs c (x_of c p.rs1) (width_size width) (loaded m (x_of c p.rs1) (width_size width)) leaves.1)
effect-patched cs (Lui p) c m are inside leaves = refl
effect-patched cs (Auipc p) c m are inside leaves = refl
effect-patched cs (Jal p) c m are inside leaves = refl
effect-patched cs (Jalr p) c m are inside leaves = refl
effect-patched cs (Branch condition p) c m are inside leaves = refl
effect-patched cs (Immediate o p) c m are inside leaves = refl
effect-patched cs (Shift o p) c m are inside leaves = refl
effect-patched cs (WordShift o p) c m are inside leaves = refl
effect-patched cs (Register o p) c m are inside leaves = refl
effect-patched cs Fence c m are inside leaves = refl
effect-patched cs FenceI c m are inside leaves = refl
effect-patched cs (Csr change p) c m are inside leaves =
    swap-patched cs (writes_by change p.rs1) (change_by change) p.csr (x_of c p.rs1) p.rd c m are
effect-patched cs (CsrImmediate change p) c m are inside leaves = swap-patched cs (writes_by change p.imm) (change_by change) p.csr p.imm p.rd c m are
effect-patched cs Ecall c m are inside leaves = refl
effect-patched cs Ebreak c m are inside leaves = refl
effect-patched cs Mret c m are inside leaves = refl
effect-patched cs Wfi c m are inside leaves = refl

fetched_by : (cs : List ℕ) (r : Result ℕ MemFault) (c : Core) (m : Memory) → AreSoftAddresses cs
    → AreInside cs m.bytes → LeavesWords cs (accessed_fetched r c m)
    → fetched r c (patched_memory cs m) ≡ patched_outcome cs (fetched r c m)
fetched_by cs (Err fault) c m are inside leaves = refl
fetched_by cs (Ok w) c m are inside leaves = by (meaning w) leaves
  where
    by : (o : Option Insn) → LeavesWords cs (accessed_meant o c m) → decoded o c (patched_memory cs m) ≡ patched_outcome cs (decoded o c m)
    by (Some insn) left = effect-patched cs insn c m are inside left
    by None left = refl

masked-patched : (cs : List ℕ) (c : Core) (m : Memory) → AreSoftAddresses cs → AreInside cs m.bytes → is_listed cs c.pc ≡ false
    → LeavesWords cs (accessed_of c m) → exec_masked_of c (patched_memory cs m) ≡ patched_outcome cs (exec_masked_of c m)
unfolding exec_masked_of accessed_of
masked-patched cs c m are inside none leaves =
    ap (λ r. fetched r c (patched_memory cs m)) (fetched-patched cs m c.pc are none) ∙ fetched_by cs (fetch_of m c.pc) c m are inside leaves

-- an interrupt that pends does so under patches too
exec-patched : (cs : List ℕ) (c : Core) (m : Memory) → AreSoftAddresses cs → AreInside cs m.bytes → is_listed cs c.pc ≡ false
    → LeavesWords cs (accessed_of c m) → exec_of c (patched_memory cs m) ≡ patched_outcome cs (exec_of c m)
unfolding exec_of
exec-patched cs c m are inside none leaves =
    ap (λ b. if mie_of c == 1 && (msie_of c == 1 && b) then same_memory (patched_memory cs m) (interrupted c) else exec_masked_of c (patched_memory cs m))
    (msip-patched cs m c.id are)
    ∙ by (takes_interrupt c m)
  where
    by : (b : Bool) → (if b then same_memory (patched_memory cs m) (interrupted c) else exec_masked_of c (patched_memory cs m))
        ≡ patched_outcome cs (if b then same_memory m (interrupted c) else exec_masked_of c m)
    by true = refl
    by false = masked-patched cs c m are inside none leaves

pub outcome-patched : (cs : List ℕ) (x : Hart) (m : Memory) → AreSoftAddresses cs → AreInside cs m.bytes → is_listed cs x.core.pc ≡ false
    → LeavesWords cs (accessed_of x.core m) → turn_outcome x (patched_memory cs m) ≡ patched_outcome cs (turn_outcome x m)
unfolding turn_outcome
outcome-patched cs x m are inside none leaves = by (masks_interrupts x.debug)
  where
    by : (b : Bool) → (if b then exec_masked_of x.core (patched_memory cs m) else exec_of x.core (patched_memory cs m))
        ≡ patched_outcome cs (if b then exec_masked_of x.core m else exec_of x.core m)
    by true = masked-patched cs x.core m are inside none leaves
    by false = exec-patched cs x.core m are inside none leaves

-- ---- what stands at pc

pub touch-patched : (cs : List ℕ) (c : Core) (m : Memory) → AreSoftAddresses cs → touch_of c (patched_memory cs m) ≡ soft_touch cs c m
unfolding soft_touch touch_of meaning
touch-patched cs c m are = by (is_listed cs c.pc) refl
  where
    by : (b : Bool) → is_listed cs c.pc ≡ b → touch_of c (patched_memory cs m) ≡ touch_by b c m
    by true e = ap (λ r. touch_fetched r c) (fetched-covered cs m c.pc are e)
    by false e = ap (λ r. touch_fetched r c) (fetched-patched cs m c.pc are e)

pub ebreak-patched : (cs : List ℕ) (c : Core) (m : Memory) → AreSoftAddresses cs → is_ebreak_at c (patched_memory cs m) ≡ ebreak_by (is_listed cs c.pc) c m
unfolding is_ebreak_at meaning
ebreak-patched cs c m are = by (is_listed cs c.pc) refl
  where
    by : (b : Bool) → is_listed cs c.pc ≡ b → is_ebreak_at c (patched_memory cs m) ≡ ebreak_by b c m
    by true e = ap is_ebreak_word (fetched-covered cs m c.pc are e)
    by false e = ap is_ebreak_word (fetched-patched cs m c.pc are e)
