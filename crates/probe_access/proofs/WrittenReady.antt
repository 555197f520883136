-- A hart whose register is written stays ready.
use Rattle.std.proofs.Common.{
  ◌≡◌,
  ◌∙◌,
  ◌<◌,
  ◌^◌,
  ◌-◌,
  ◌==◌,
  ℕ,
  zero,
  suc,
  List,
  [],
  ◌∷◌,
  Bool,
  true,
  false,
  Some,
  slice_get,
  set,
  refl,
  subst,
  arith,
  if◌then◌else◌,
  slice_index_or,
}
use Rattle.std.proofs.lemmas.Option.{same_Some}
use Rattle.rv_model.specs.declared.slot.Slot.{Slot}
use Rattle.rv_model.specs.Board.{DebugPart, Hart, free_slot}
use Rattle.rv_model.specs.Core.{Core, aligned, with_x}
use Rattle.rv_model.specs.DebugLaws.{WriteKeeps}
use Rattle.rv_model.specs.DebugRegisters.{debug_csr_written, debug_written}
use Rattle.rv_model.specs.Registers.{csr_written, is_x_number, pc_number, reg_written}
use Rattle.rv_model.specs.TriggerWords.{TriggerPart, trigger_csr_written, triggers_of}
use Rattle.rv_model.proofs.DebugLemmas.{writes_keep}
use Rattle.debug_model.specs.Told.{HartReady}
use Rattle.rv_model.proofs.WideCore.{CoreWide, csr_written_wide, with_x_wide}
use Rattle.rv_model.proofs.WideHart.{core_wide, registers_wide}
use Rattle.rv_model.proofs.WideWords.{IsWide}

-- ---- its core

pc_wide : (c : Core) (v : ℕ) → CoreWide c → IsWide v → CoreWide (record c { pc = aligned v })
pc_wide c v w p = record {
  id = w.id;
  x = w.x;
  pc = omega arith;
  mstatus = w.mstatus;
  mie = w.mie;
  mtvec = w.mtvec;
  mscratch = w.mscratch;
  mepc = w.mepc;
  mcause = w.mcause;
  mtval = w.mtval;
}

core_if : (a b : Bool) (c d e : Core) → CoreWide c → CoreWide d → CoreWide e → CoreWide (if a then c else (if b then d else e))
core_if true b c d e p q r = p
core_if false true c d e p q r = q
core_if false false c d e p q r = r

reg_written_wide : (c : Core) (number v : ℕ) → CoreWide c → IsWide v → CoreWide (reg_written c number v)
reg_written_wide c number v w p =
    core_if (is_x_number number) (number == pc_number) (with_x c (number - 0x1000) v) (record c { pc = aligned v }) (csr_written c number v)
    (with_x_wide c _ v w p) (pc_wide c v w p) (csr_written_wide c number v w)

-- ---- its slots

abbrev Compared : List Slot → Type 0
Compared slots = (slot : ℕ) (s : Slot) → slice_get slots slot ≡ Some s → s.tdata2 < 2 ^ 64

compared_cons : (x : Slot) (xs : List Slot) → x.tdata2 < 2 ^ 64 → Compared xs → Compared (x ∷ xs)
compared_cons x xs p c zero s is = subst (λ (z : Slot). z.tdata2 < 2 ^ 64) (same_Some x s is) p
compared_cons x xs p c (suc slot) s is = c slot s is

compared_set : (slots : List Slot) (i : ℕ) (y : Slot) → Compared slots → y.tdata2 < 2 ^ 64 → Compared (set slots i y)
compared_set [] i y c p = c
compared_set (x ∷ xs) zero y c p = compared_cons y xs p (λ slot s is. c (suc slot) s is)
compared_set (x ∷ xs) (suc i) y c p = compared_cons x (set xs i y) (c zero x refl) (compared_set xs i y (λ slot s is. c (suc slot) s is) p)

selected_compared : (slots : List Slot) (i : ℕ) → Compared slots → (slice_index_or slots i free_slot).tdata2 < 2 ^ 64
selected_compared [] i c = omega arith
selected_compared (x ∷ xs) zero c = c zero x refl
selected_compared (x ∷ xs) (suc i) c = selected_compared xs i (λ slot s is. c (suc slot) s is)

slots_if : (a : Bool) (c d : TriggerPart) → Compared c.slots → Compared d.slots → Compared (if a then c else d).slots
slots_if true c d p q = p
slots_if false c d p q = q

triggers_compared : (t : TriggerPart) (number v : ℕ) → Compared t.slots → v < 2 ^ 64 → Compared (trigger_csr_written t number v).slots
unfolding trigger_csr_written
triggers_compared t number v c p =
    slots_if (number == 0x7a0) _ _ c
    (slots_if (number == 0x7a1) _ _ (compared_set t.slots t.tselect _ c (selected_compared t.slots t.tselect c))
    (slots_if (number == 0x7a2) _ _ (compared_set t.slots t.tselect _ c p) c))

debug_if : (a : Bool) (c d : DebugPart) → Compared c.slots → Compared d.slots → Compared (if a then c else d).slots
debug_if true c d p q = p
debug_if false c d p q = q

debug_compared : (d : DebugPart) (number v : ℕ) → Compared d.slots → v < 2 ^ 64 → Compared (debug_csr_written d number v).slots
debug_compared d number v c p = debug_if (number == 0x7b0) _ _ c (triggers_compared (triggers_of d) number v c p)

-- ---- the hart

pub written_ready : (h : ℕ) (x : Hart) (number v : ℕ) → HartReady h x → v < 2 ^ 64 → HartReady h (debug_written x number v)
unfolding debug_written
written_ready h x number v r small =
    let y : Hart = debug_written x number v in
    let k : WriteKeeps x y = writes_keep x number v in
    let core : CoreWide y.core = reg_written_wide x.core number v (core_wide h x r.whole r.registers) small in
    let slots : Compared y.debug.slots = debug_compared x.debug number v r.compared small in
    record {
      no_halt_request = k.requests.halt_request ∙ r.no_halt_request;
      no_resume_request = k.requests.resume_request ∙ r.no_resume_request;
      whole = k.is_hart h r.whole;
      registers = registers_wide h y (k.is_hart h r.whole) core slots;
      compared = slots;
    }
