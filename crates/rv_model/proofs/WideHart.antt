-- A hart that is whole, and none of whose numbers has more than 64 bits: by the debugger's numbers of its registers, and by its parts.
use Rattle.std.proofs.Common.{
  ◌≡◌,
  ◌+◌,
  ◌-◌,
  ◌^◌,
  ◌<◌,
  ◌≤◌,
  ◌==◌,
  ℕ,
  Bool,
  true,
  false,
  length,
  get_or,
  Option,
  Some,
  None,
  slice_get,
  refl,
  ap,
  subst,
  arith,
  inl,
  inr,
  if◌then◌else◌,
}
use Rattle.std.proofs.lemmas.Bool.{cases_lt}
use Rattle.std.proofs.lemmas.List.{get_or_past}
use Rattle.std.proofs.lemmas.Option.{none-some, same_Some, slice_get-get_or}
use Rattle.rv_model.specs.declared.cause.Cause.{Cause}
use Rattle.rv_model.specs.declared.cause.Cause.TheVariants as cause
use Rattle.rv_model.specs.declared.dcsr.Dcsr.{Dcsr}
use Rattle.rv_model.specs.declared.slot.Comparison.{Comparison}
use Rattle.rv_model.specs.declared.slot.Comparison.TheVariants.{Equal, AtLeast, Below}
use Rattle.rv_model.specs.declared.slot.Slot.{Slot}
use Rattle.rv_model.specs.declared.slot.Trigger.{Trigger}
use Rattle.rv_model.specs.declared.slot.Trigger.TheVariants as kind
use Rattle.rv_model.specs.declared.version.Version.{Version}
use Rattle.rv_model.specs.declared.version.Version.TheVariants.{V013, V10}
use Rattle.rv_model.specs.Board.{DebugPart, Hart, IsHart, free_slot}
use Rattle.rv_model.specs.Core.{Core, x_of}
use Rattle.rv_model.specs.Dcsr.{dcsr_of, dcsr_value, dcsr_word, shown_cause}
use Rattle.rv_model.specs.DebugRegisters.{debug_csr_value, debug_value, value_or}
use Rattle.rv_model.specs.Fields.{bit_value}
use Rattle.rv_model.specs.Registers.{csr_value, is_x_number, reg_value}
use Rattle.rv_model.specs.TriggerWords.{CountFits, comparison_number, selected_slot, tdata1_of, tinfo_value, trigger_csr_value, triggers_of}
use Rattle.rv_model.proofs.DebugRegisterLemmas.{is_x}
use Rattle.rv_model.proofs.WideCore.{CoreWide, csr_value_wide, x_wide, zero_by}
use Rattle.rv_model.proofs.WideWords.{IsWide}

pub record HartWide (h : ℕ) (hart : Hart) : Type 0 where
  pub whole : IsHart h hart
  pub registers : (number value : ℕ) → debug_value hart number ≡ Some value → value < 2 ^ 64
  pub compared : (slot : ℕ) (s : Slot) → slice_get hart.debug.slots slot ≡ Some s → s.tdata2 < 2 ^ 64

-- ---- its core

abbrev RegistersWide : Hart → Type 0
RegistersWide x = (number value : ℕ) → debug_value x number ≡ Some value → value < 2 ^ 64

x_by : (b : Bool) (c : Core) (d : DebugPart) (number : ℕ) (other : Option ℕ) (v : ℕ) → b ≡ true → x_of c (number - 0x1000) ≡ v
    → value_or (if b then Some (x_of c (number - 0x1000)) else other) (debug_csr_value d number) ≡ Some v
x_by true c d number other v is e = ap Some e
x_by false c d number other v is e = cc

x_debug : (x : Hart) (i : ℕ) → i < 32 → debug_value x (0x1000 + i) ≡ Some (x_of x.core i)
unfolding debug_value
x_debug x i small =
    let e : (0x1000 + i) - 0x1000 ≡ i = omega arith in
    x_by (is_x_number (0x1000 + i)) x.core x.debug (0x1000 + i) _ (x_of x.core i) (is_x i small) (ap (x_of x.core) e)

pub core_wide : (h : ℕ) (x : Hart) → IsHart h x → RegistersWide x → CoreWide x.core
unfolding debug_value csr_value
core_wide h x whole wide = record {
  id = wide 0xf14 x.core.id refl;
  x = λ i. elim (cases_lt i 32) [
    | inl small ↦ wide (0x1000 + i) (x_of x.core i) (x_debug x i small)
    | inr past ↦ zero_by (i == 0) (get_or x.core.x i 0) (get_or_past x.core.x i 0 (let e : length x.core.x ≡ 32 = whole.core.registers in omega arith))
  ];
  pc = wide 0x7b1 x.core.pc refl;
  mstatus = wide 0x300 x.core.mstatus refl;
  mie = wide 0x304 x.core.mie refl;
  mtvec = wide 0x305 x.core.mtvec refl;
  mscratch = wide 0x340 x.core.mscratch refl;
  mepc = wide 0x341 x.core.mepc refl;
  mcause = wide 0x342 x.core.mcause refl;
  mtval = wide 0x343 x.core.mtval refl;
}

-- ---- and back

some_if : (b : Bool) (u : ℕ) (o : Option ℕ) (v : ℕ) → IsWide u → ((w : ℕ) → o ≡ Some w → IsWide w) → (if b then Some u else o) ≡ Some v → IsWide v
some_if true u o v p later is = subst (λ n. IsWide n) (same_Some u v is) p
some_if false u o v p later is = later v is

reg_wide : (c : Core) (number v : ℕ) → CoreWide c → reg_value c number ≡ Some v → IsWide v
reg_wide c number v w is =
    some_if (is_x_number number) (x_of c (number - 0x1000)) (if number == 0x7b1 then Some c.pc else csr_value c number) v (x_wide c (number - 0x1000) w)
    (λ u at. some_if (number == 0x7b1) c.pc (csr_value c number) u w.pc (λ t at'. csr_value_wide c number t w at') at) is

bit_small : (place : ℕ) (b : Bool) → bit_value place b ≤ 2 ^ place
bit_small place true = omega arith
bit_small place false = omega arith

cause_small : (halted : Option Cause) → shown_cause halted ≤ 5
cause_small None = omega arith
cause_small (Some cause.Ebreak) = omega arith
cause_small (Some cause.Trigger) = omega arith
cause_small (Some cause.HaltReq) = omega arith
cause_small (Some cause.Step) = omega arith
cause_small (Some cause.Reset) = omega arith

dcsr_wide : (d : Dcsr) → d.cause ≤ 5 → IsWide (dcsr_word d)
unfolding dcsr_word
dcsr_wide d small =
    let a : bit_value 15 d.ebreakm ≤ 2 ^ 15 = bit_small 15 d.ebreakm in
    let b : bit_value 11 d.stepie ≤ 2 ^ 11 = bit_small 11 d.stepie in
    let e : bit_value 2 d.step ≤ 2 ^ 2 = bit_small 2 d.step in
    omega arith

comparison_small : (c : Comparison) → comparison_number c ≤ 3
comparison_small Equal = omega arith
comparison_small AtLeast = omega arith
comparison_small Below = omega arith

tdata1_wide : (v : Version) (t : Trigger) → CountFits t → IsWide (tdata1_of v t)
unfolding tdata1_of
tdata1_wide V013 (kind.Mcontrol6 t) fits =
    let a : bit_value 20 t.hit ≤ 2 ^ 20 = bit_small 20 t.hit in
    let b : bit_value 6 t.m ≤ 2 ^ 6 = bit_small 6 t.m in
    let c : bit_value 2 t.execute ≤ 2 ^ 2 = bit_small 2 t.execute in
    let d : bit_value 1 t.store ≤ 2 ^ 1 = bit_small 1 t.store in
    let e : bit_value 0 t.load ≤ 2 ^ 0 = bit_small 0 t.load in
    let f : comparison_number t.comparison ≤ 3 = comparison_small t.comparison in
    omega arith
tdata1_wide V10 (kind.Mcontrol6 t) fits =
    let a : bit_value 22 t.hit ≤ 2 ^ 22 = bit_small 22 t.hit in
    let b : bit_value 6 t.m ≤ 2 ^ 6 = bit_small 6 t.m in
    let c : bit_value 2 t.execute ≤ 2 ^ 2 = bit_small 2 t.execute in
    let d : bit_value 1 t.store ≤ 2 ^ 1 = bit_small 1 t.store in
    let e : bit_value 0 t.load ≤ 2 ^ 0 = bit_small 0 t.load in
    let f : comparison_number t.comparison ≤ 3 = comparison_small t.comparison in
    omega arith
tdata1_wide v (kind.Icount t) fits =
    let a : bit_value 24 t.hit ≤ 2 ^ 24 = bit_small 24 t.hit in
    let b : bit_value 9 t.m ≤ 2 ^ 9 = bit_small 9 t.m in
    let c : bit_value 8 t.pending ≤ 2 ^ 8 = bit_small 8 t.pending in
    let d : t.count < 2 ^ 14 = fits in
    omega arith
tdata1_wide v kind.Disabled fits = omega arith

tinfo_wide : (v : Version) → IsWide (tinfo_value v)
tinfo_wide V013 = omega arith
tinfo_wide V10 = omega arith

-- the selected slot, where it is there
selected_is : (h : ℕ) (x : Hart) → IsHart h x → slice_get x.debug.slots x.debug.tselect ≡ Some (selected_slot (triggers_of x.debug))
selected_is h x whole = slice_get-get_or x.debug.slots x.debug.tselect free_slot
    (let a : x.debug.tselect < 4 = whole.selected in let b : length x.debug.slots ≡ 4 = whole.slots in omega arith)

trigger_wide : (h : ℕ) (x : Hart) (number v : ℕ) → IsHart h x → ((slot : ℕ) (s : Slot) → slice_get x.debug.slots slot ≡ Some s → s.tdata2 < 2 ^ 64)
    → trigger_csr_value (triggers_of x.debug) number ≡ Some v → IsWide v
unfolding trigger_csr_value
trigger_wide h x number v whole compared is =
    let s : Slot = selected_slot (triggers_of x.debug) in
    let at : slice_get x.debug.slots x.debug.tselect ≡ Some s = selected_is h x whole in
    some_if (number == 0x7a0) x.debug.tselect _ v (let a : x.debug.tselect < 4 = whole.selected in omega arith)
    (λ u e. some_if (number == 0x7a1) (tdata1_of x.debug.version s.trigger) _ u (tdata1_wide x.debug.version s.trigger (whole.counts x.debug.tselect s at))
    (λ u' e'. some_if (number == 0x7a2) s.tdata2 _ u' (compared x.debug.tselect s at)
    (λ u'' e''. some_if (number == 0x7a4) (tinfo_value x.debug.version) None u'' (tinfo_wide x.debug.version) (λ u''' e'''. absurd (none-some u''' e''')) e'') e') e) is

or_wide : (o p : Option ℕ) (v : ℕ) → ((u : ℕ) → o ≡ Some u → IsWide u) → ((u : ℕ) → p ≡ Some u → IsWide u) → value_or o p ≡ Some v → IsWide v
or_wide (Some u) p v first second is = subst (λ n. IsWide n) (same_Some u v is) (first u refl)
or_wide None p v first second is = second v is

pub registers_wide : (h : ℕ) (x : Hart) → IsHart h x → CoreWide x.core → ((slot : ℕ) (s : Slot) → slice_get x.debug.slots slot ≡ Some s → s.tdata2 < 2 ^ 64)
    → RegistersWide x
unfolding debug_value
registers_wide h x whole w compared number v is =
    or_wide (reg_value x.core number) (debug_csr_value x.debug number) v (λ u at. reg_wide x.core number u w at)
    (λ u at. some_if (number == 0x7b0) (dcsr_value x.debug) (trigger_csr_value (triggers_of x.debug) number) u
    (dcsr_wide (dcsr_of x.debug) (cause_small x.debug.halted))
    (λ t at'. trigger_wide h x number t whole compared at') at) is
