-- A halted hart that nobody asks to resume: turns pass it by, and a change of it may wait.
use Rattle.std.proofs.Common.{◌≡◌, ◌∙◌, ℕ, zero, suc, List, [], ◌∷◌, set, Bool, true, false, Option, Some, None, option_map, slice_get, refl, sym, ap}
use Rattle.std.proofs.Common.{subst, if◌then◌else◌, inl, inr}
use Rattle.std.specs.Prelude.{slice_set, ◌==◌}
use Rattle.std.proofs.lemmas.Bool.{cases_eq}
use Rattle.std.proofs.lemmas.Option.{none-some, same_Some}
use Rattle.rv_model.specs.declared.cause.Cause.{Cause}
use Rattle.rv_model.specs.Board.{Board, DebugPart, Hart}
use Rattle.rv_model.specs.Memory.{Memory}
use Rattle.rv_model.specs.Registers.{pc_number}
use Rattle.rv_model.specs.Turn.{executes, executes_by, memory_after, place_of, some_fires, stops_at_ebreak, turn, turn_by, turn_outcome}
use Rattle.rv_model.specs.Touch.{touch_of}
use Rattle.rv_model.proofs.MapLemmas.{slice_get-set_other}
use Rattle.abstract_debugger.specs.Laws.{ChangesMayWait, FrozenMayWait, FrozenStays, IsChangeOf, IsFrozen, IsFrozenAt}
use Rattle.abstract_debugger.specs.Plan.{Change, changed_board, ebreak_halts, hart_over, register_set, slot_changed, slot_freed, step_begun}
use Rattle.abstract_debugger.specs.Plan.{step_ended, with_debug_part}
use Rattle.abstract_debugger.specs.Plan.Change.{WriteReg, WriteMem, ArmSlot, FreeSlot, StepOver, StepDone, EbreakHalts, Patch}
use Rattle.abstract_debugger.specs.Slots.{hits_forgotten, over, with_slots}
use Rattle.abstract_debugger.specs.Turns.{after_turns}
use Rattle.abstract_debugger.proofs.HartLemmas.{frozen_place}
use Rattle.abstract_debugger.proofs.OverLemmas.{over_none, slice_get-over_same, slice_get-over_other}
use Rattle.rv_model.proofs.MapLemmas.{set_same}

-- ---- its own turn

halted_executes : (halted : Option Cause) (resume request fired at_ebreak : Bool) (why : Cause) → halted ≡ Some why
    → executes_by halted resume request fired at_ebreak ≡ false
halted_executes (Some w) true request fired at_ebreak why is = refl
halted_executes (Some w) false request fired at_ebreak why is = refl
halted_executes None resume request fired at_ebreak why is = absurd (none-some why is)

frozen_memory : (hart : Hart) (m : Memory) → IsFrozen hart.debug → memory_after hart m ≡ m
unfolding memory_after executes
frozen_memory hart m f =
    ap (λ b. if b then (turn_outcome hart m).memory else m)
    (halted_executes hart.debug.halted hart.debug.resume_request hart.debug.halt_request (some_fires (touch_of hart.core m) hart)
    (stops_at_ebreak hart m) f.why f.halted)

abbrev board_of : Memory → List Hart → Board
board_of m hs = record { harts = hs; memory = m }

frozen_turn_by : (o : Option Hart) (h : ℕ) (hart : Hart) (b : Board) → slice_get b.harts h ≡ o → o ≡ Some hart → IsFrozen hart.debug → turn_by o h b ≡ b
frozen_turn_by None h hart b at is f = absurd (none-some hart is)
frozen_turn_by (Some x) h hart b at is f =
    let e : hart ≡ x = sym (same_Some x hart is) in
    let fx : IsFrozen x.debug = subst (λ (y : Hart). IsFrozen y.debug) e f in
    let hs : slice_set b.harts h (place_of x b.memory).hart ≡ b.harts = ap (λ (y : Hart). set b.harts h y)
    (frozen_place x b.memory fx.why fx.halted fx.not_asked) ∙ set_same b.harts h x at in
    ap (λ m. board_of m (slice_set b.harts h (place_of x b.memory).hart)) (frozen_memory x b.memory fx) ∙ ap (board_of b.memory) hs

frozen_turn : (h : ℕ) (hart : Hart) (b : Board) → slice_get b.harts h ≡ Some hart → IsFrozen hart.debug → turn h b ≡ b
frozen_turn h hart b is f = frozen_turn_by (slice_get b.harts h) h hart b refl is f

-- ---- another hart's turn

turned_elsewhere : (o : Option Hart) (g h : ℕ) (b : Board) → (h ≡ g → ⊥) → slice_get (turn_by o g b).harts h ≡ slice_get b.harts h
turned_elsewhere None g h b other = refl
turned_elsewhere (Some x) g h b other = slice_get-set_other b.harts g h (place_of x b.memory).hart other

stays_at : (h : ℕ) (hart : Hart) (b : Board) (g : ℕ) → slice_get b.harts h ≡ Some hart → IsFrozen hart.debug → slice_get (turn g b).harts h ≡ Some hart
stays_at h hart b g is f = elim (cases_eq h g) [
  | inl e ↦ ap (λ n. slice_get (turn n b).harts h) (sym e) ∙ ap (λ (c : Board). slice_get c.harts h) (frozen_turn h hart b is f) ∙ is
  | inr other ↦ turned_elsewhere (slice_get b.harts g) g h b other ∙ is
]

pub frozen_stays : FrozenStays
frozen_stays h hart b [] is f = is
frozen_stays h hart b (g ∷ harts) is f = frozen_stays h hart (turn g b) harts (stays_at h hart b g is f) f

-- ---- a change of it

over-set : (f : Hart → Hart) (h g : ℕ) (v : Hart) (hs : List Hart) → (h ≡ g → ⊥) → slice_set (over h f hs) g v ≡ over h f (slice_set hs g v)
over-set f h g v [] other = refl
over-set f zero zero v (x ∷ xs) other = absurd (other refl)
over-set f zero (suc g) v (x ∷ xs) other = refl
over-set f (suc h) zero v (x ∷ xs) other = refl
over-set f (suc h) (suc g) v (x ∷ xs) other = ap (λ (l : List Hart). x ∷ l) (over-set f h g v xs (λ e. other (ap suc e)))

turn_over_by : (o : Option Hart) (f : Hart → Hart) (h g : ℕ) (b : Board) → (h ≡ g → ⊥) → turn_by o g (hart_over f h b) ≡ hart_over f h (turn_by o g b)
turn_over_by None f h g b other = refl
turn_over_by (Some x) f h g b other = ap (board_of (memory_after x b.memory)) (over-set f h g (place_of x b.memory).hart b.harts other)

turn_over : (f : Hart → Hart) (h g : ℕ) (b : Board) → (h ≡ g → ⊥) → turn g (hart_over f h b) ≡ hart_over f h (turn g b)
turn_over f h g b other =
    ap (λ o. turn_by o g (hart_over f h b)) (slice_get-over_other f h g b.harts (λ e. other (sym e))) ∙ turn_over_by (slice_get b.harts g) f h g b other

waits_at : (f : Hart → Hart) (h : ℕ) (hart : Hart) (b : Board) (g : ℕ) → slice_get b.harts h ≡ Some hart → IsFrozen hart.debug → IsFrozen (f hart).debug
    → turn g (hart_over f h b) ≡ hart_over f h (turn g b)
waits_at f h hart b g is frozen after = elim (cases_eq h g) [
  | inl e ↦
      let at : slice_get (hart_over f h b).harts h ≡ Some (f hart) = slice_get-over_same f h b.harts ∙ ap (option_map f) is in
      ap (λ n. turn n (hart_over f h b)) (sym e) ∙ frozen_turn h (f hart) (hart_over f h b) at after
      ∙ ap (hart_over f h) (sym (frozen_turn h hart b is frozen)) ∙ ap (λ n. hart_over f h (turn n b)) e
  | inr other ↦ turn_over f h g b other
]

pub frozen_may_wait : FrozenMayWait
frozen_may_wait f h hart b [] is frozen after = refl
frozen_may_wait f h hart b (g ∷ harts) is frozen after =
    ap (after_turns harts) (waits_at f h hart b g is frozen after)
    ∙ frozen_may_wait f h hart (turn g b) harts (stays_at h hart b g is frozen) frozen after

-- ---- a hart that is frozen where it is there at all

set_absent : (hs : List Hart) (g h : ℕ) (v : Hart) → slice_get hs h ≡ None → slice_get (slice_set hs g v) h ≡ None
set_absent [] g h v is = refl
set_absent (x ∷ xs) g zero v is = absurd (none-some x (sym is))
set_absent (x ∷ xs) zero (suc h) v is = is
set_absent (x ∷ xs) (suc g) (suc h) v is = set_absent xs g h v is

turned_absent : (o : Option Hart) (g h : ℕ) (b : Board) → slice_get b.harts h ≡ None → slice_get (turn_by o g b).harts h ≡ None
turned_absent None g h b is = is
turned_absent (Some x) g h b is = set_absent b.harts g h (place_of x b.memory).hart is

absent_stays : (harts : List ℕ) (h : ℕ) (b : Board) → slice_get b.harts h ≡ None → slice_get (after_turns harts b).harts h ≡ None
absent_stays [] h b is = is
absent_stays (g ∷ harts) h b is = absent_stays harts h (turn g b) (turned_absent (slice_get b.harts g) g h b is)

same_by : (o : Option Hart) (h : ℕ) (b : Board) (harts : List ℕ) → slice_get b.harts h ≡ o → IsFrozenAt h b
    → slice_get (after_turns harts b).harts h ≡ slice_get b.harts h
same_by (Some x) h b harts is frozen = frozen_stays h x b harts is (frozen x is) ∙ sym is
same_by None h b harts is frozen = absent_stays harts h b is ∙ sym is

-- turns leave it as it is
pub stays_same : (h : ℕ) (b : Board) (harts : List ℕ) → IsFrozenAt h b → slice_get (after_turns harts b).harts h ≡ slice_get b.harts h
stays_same h b harts frozen = same_by (slice_get b.harts h) h b harts refl frozen

wait_by : (o : Option Hart) (f : Hart → Hart) (h : ℕ) (b : Board) (harts : List ℕ) → slice_get b.harts h ≡ o → IsFrozenAt h b
    → ((x : Hart) → IsFrozen x.debug → IsFrozen (f x).debug)
    → after_turns harts (hart_over f h b) ≡ hart_over f h (after_turns harts b)
wait_by (Some x) f h b harts is frozen keeps = frozen_may_wait f h x b harts is (frozen x is) (keeps x (frozen x is))
wait_by None f h b harts is frozen keeps =
    ap (after_turns harts) (ap (board_of b.memory) (over_none f b.harts h is))
    ∙ sym (ap (board_of (after_turns harts b).memory) (over_none f (after_turns harts b).harts h (absent_stays harts h b is)))

-- and a change of it may wait
pub may_wait : (f : Hart → Hart) (h : ℕ) (b : Board) (harts : List ℕ) → IsFrozenAt h b → ((x : Hart) → IsFrozen x.debug → IsFrozen (f x).debug)
    → after_turns harts (hart_over f h b) ≡ hart_over f h (after_turns harts b)
may_wait f h b harts frozen keeps = wait_by (slice_get b.harts h) f h b harts refl frozen keeps

-- ---- the changes of a plan

written_frozen : (b : Bool) (d : DebugPart) → IsFrozen d → IsFrozen (if b then with_slots hits_forgotten d else d)
written_frozen true d f = record { why = f.why; halted = f.halted; not_asked = f.not_asked }
written_frozen false d f = f

-- what a plan's change of a hart is
abbrev pub hart_change : Change → Hart → Hart
hart_change (WriteReg h r v) x = register_set r v x
hart_change (WriteMem a count v) x = x
hart_change (ArmSlot h slot what) x = with_debug_part (slot_changed slot what) x
hart_change (FreeSlot h slot) x = with_debug_part (slot_freed slot) x
hart_change (StepOver h) x = with_debug_part step_begun x
hart_change (StepDone h) x = with_debug_part step_ended x
hart_change (EbreakHalts h on) x = with_debug_part (ebreak_halts on) x
hart_change (Patch a original covers) x = x

pub hart_change-frozen : (c : Change) (x : Hart) → IsFrozen x.debug → IsFrozen (hart_change c x).debug
hart_change-frozen (WriteReg h r v) x f = written_frozen (r == pc_number) x.debug f
hart_change-frozen (WriteMem a count v) x f = f
hart_change-frozen (ArmSlot h slot what) x f = record { why = f.why; halted = f.halted; not_asked = f.not_asked }
hart_change-frozen (FreeSlot h slot) x f = record { why = f.why; halted = f.halted; not_asked = f.not_asked }
hart_change-frozen (StepOver h) x f = record { why = f.why; halted = f.halted; not_asked = f.not_asked }
hart_change-frozen (StepDone h) x f = record { why = f.why; halted = f.halted; not_asked = f.not_asked }
hart_change-frozen (EbreakHalts h on) x f = record { why = f.why; halted = f.halted; not_asked = f.not_asked }
hart_change-frozen (Patch a original covers) x f = f

pub changed_hart : (c : Change) (h : ℕ) (b : Board) → IsChangeOf h c → changed_board c b ≡ hart_over (hart_change c) h b
changed_hart (WriteReg j r v) h b is = ap (λ n. hart_over (register_set r v) n b) is
changed_hart (WriteMem a count v) h b is = absurd is
changed_hart (ArmSlot j slot what) h b is = ap (λ n. hart_over (with_debug_part (slot_changed slot what)) n b) is
changed_hart (FreeSlot j slot) h b is = ap (λ n. hart_over (with_debug_part (slot_freed slot)) n b) is
changed_hart (StepOver j) h b is = ap (λ n. hart_over (with_debug_part step_begun) n b) is
changed_hart (StepDone j) h b is = ap (λ n. hart_over (with_debug_part step_ended) n b) is
changed_hart (EbreakHalts j on) h b is = ap (λ n. hart_over (with_debug_part (ebreak_halts on)) n b) is
changed_hart (Patch a original covers) h b is = absurd is

pub changes_may_wait : ChangesMayWait
changes_may_wait c h hart b harts of_h is frozen =
    ap (after_turns harts) (changed_hart c h b of_h)
    ∙ frozen_may_wait (hart_change c) h hart b harts is frozen (hart_change-frozen c hart frozen)
    ∙ sym (changed_hart c h (after_turns harts b) of_h)
