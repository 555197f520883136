-- A turn keeps every number of a hart within 64 bits, and every byte of memory a byte.
use Rattle.std.proofs.Common.{
  ◌≡◌,
  ◌^◌,
  ◌<◌,
  ℕ,
  zero,
  suc,
  Bool,
  true,
  false,
  List,
  [],
  ◌∷◌,
  map,
  Option,
  Some,
  None,
  slice_get,
  refl,
  sym,
  subst,
  if◌then◌else◌,
}
use Rattle.std.proofs.lemmas.Option.{none-some, same_Some}
use Rattle.rv_model.specs.declared.cause.Cause.{Cause}
use Rattle.rv_model.specs.declared.slot.Slot.{Slot}
use Rattle.rv_model.specs.declared.touch.Touch.{Touch}
use Rattle.rv_model.specs.Board.{DebugPart, Hart}
use Rattle.rv_model.specs.Effects.{Outcome}
use Rattle.rv_model.specs.Core.{Core}
use Rattle.rv_model.specs.Execute.{exec_masked_of, exec_of}
use Rattle.rv_model.specs.Memory.{Memory}
use Rattle.rv_model.specs.Touch.{touch_of}
use Rattle.rv_model.specs.Triggers.{slot_counted, slot_marked, trigger_fires}
use Rattle.rv_model.specs.Turn.{executes, masks_interrupts, memory_after, place_by, place_of, some_fires, stops_at_ebreak, turn_outcome}
use Rattle.rv_model.proofs.WholeBoards.{turn_keeps_hart}
use Rattle.rv_model.specs.Widths.{MemoryReady}
use Rattle.rv_model.proofs.WideCore.{CoreWide}
use Rattle.rv_model.proofs.WideEffects.{OutcomeWide, exec_wide, masked_wide}
use Rattle.rv_model.proofs.WideMemory.{if_ready}
use Rattle.rv_model.proofs.WideHart.{HartWide, core_wide, registers_wide}

abbrev SlotsWide : List Slot → Type 0
SlotsWide slots = (k : ℕ) (s : Slot) → slice_get slots k ≡ Some s → s.tdata2 < 2 ^ 64

-- a change of each slot that leaves tdata2
map_wide : (f : Slot → Slot) → ((s : Slot) → (f s).tdata2 ≡ s.tdata2) → (slots : List Slot) → SlotsWide slots → SlotsWide (map f slots)
map_wide f same [] all k s is = absurd (none-some s is)
map_wide f same (x ∷ xs) all zero s is =
    subst (λ (y : Slot). y.tdata2 < 2 ^ 64) (same_Some (f x) s is) (subst (λ n. n < 2 ^ 64) (sym (same x)) (all zero x refl))
map_wide f same (x ∷ xs) all (suc k) s is = map_wide f same xs (λ j. all (suc j)) k s is

stepped_slots : (step : Bool) (d e : DebugPart) → SlotsWide d.slots → SlotsWide e.slots → SlotsWide (if step then d else e).slots
stepped_slots true d e p q = p
stepped_slots false d e p q = q

if_same : (b : Bool) (s t : Slot) → t.tdata2 ≡ s.tdata2 → (if b then t else s).tdata2 ≡ s.tdata2
if_same true s t same = same
if_same false s t same = refl

marked_same : (touch : Touch) (s : Slot) → (slot_marked touch s).tdata2 ≡ s.tdata2
marked_same touch s = if_same (trigger_fires s.trigger s.tdata2 touch) s _ refl

place_slots : (halted : Option Cause) (resume request fired at_ebreak : Bool) (touch : Touch) (o : Outcome) (x : Hart) → SlotsWide x.debug.slots
    → SlotsWide (place_by halted resume request fired at_ebreak touch o x).hart.debug.slots
place_slots (Some why) true request fired at_ebreak touch o x p = p
place_slots (Some why) false request fired at_ebreak touch o x p = p
place_slots None resume true fired at_ebreak touch o x p = p
place_slots None resume false true at_ebreak touch o x p = map_wide (slot_marked touch) (marked_same touch) x.debug.slots p
place_slots None resume false false true touch o x p = p
place_slots None resume false false false touch o x p =
    stepped_slots x.debug.step _ _ (map_wide slot_counted (λ s. refl) x.debug.slots p) (map_wide slot_counted (λ s. refl) x.debug.slots p)

place_core : (halted : Option Cause) (resume request fired at_ebreak : Bool) (touch : Touch) (o : Outcome) (x : Hart) → CoreWide x.core → CoreWide o.step.core
    → CoreWide (place_by halted resume request fired at_ebreak touch o x).hart.core
place_core (Some why) true request fired at_ebreak touch o x w q = w
place_core (Some why) false request fired at_ebreak touch o x w q = w
place_core None resume true fired at_ebreak touch o x w q = w
place_core None resume false true at_ebreak touch o x w q = w
place_core None resume false false true touch o x w q = w
place_core None resume false false false touch o x w q = q

either_wide : (masks : Bool) (c : Core) (m : Memory) → CoreWide c → MemoryReady m → OutcomeWide (if masks then exec_masked_of c m else exec_of c m)
either_wide true c m w r = masked_wide c m w r
either_wide false c m w r = exec_wide c m w r

executed_wide : (h : ℕ) (x : Hart) (m : Memory) → HartWide h x → MemoryReady m → OutcomeWide (turn_outcome x m)
unfolding turn_outcome
executed_wide h x m w r = either_wide (masks_interrupts x.debug) x.core m (core_wide h x w.whole w.registers) r

pub place_wide : (h : ℕ) (x : Hart) (m : Memory) → HartWide h x → MemoryReady m → HartWide h (place_of x m).hart
unfolding place_of
place_wide h x m w r =
    let y : Hart = (place_of x m).hart in
    let slots : SlotsWide y.debug.slots = place_slots x.debug.halted x.debug.resume_request x.debug.halt_request (some_fires (touch_of x.core m) x)
    (stops_at_ebreak x m) (touch_of x.core m) (turn_outcome x m) x w.compared in
    let core : CoreWide y.core =
    place_core x.debug.halted x.debug.resume_request x.debug.halt_request (some_fires (touch_of x.core m) x) (stops_at_ebreak x m) (touch_of x.core m)
    (turn_outcome x m) x
    (core_wide h x w.whole w.registers) (executed_wide h x m w r).core in
    record { whole = turn_keeps_hart h x m w.whole; registers = registers_wide h y (turn_keeps_hart h x m w.whole) core slots; compared = slots }

pub memory_wide : (h : ℕ) (x : Hart) (m : Memory) → HartWide h x → MemoryReady m → MemoryReady (memory_after x m)
unfolding memory_after
memory_wide h x m w r = if_ready (executes x m) (turn_outcome x m).memory m (executed_wide h x m w r).memory r
