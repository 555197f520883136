-- A hart's turn against execution without debug parts, by the cases of the turn.
use Rattle.std.proofs.Common.{◌≡◌, ◌∙◌, ◌+◌, ℕ, List, [], ◌∷◌, zero, suc, Bool, true, false, set, Option, Some, None, slice_get, option_map, refl, sym}
use Rattle.std.proofs.Common.{ap, subst, inl, inr, if◌then◌else◌}
use Rattle.std.proofs.lemmas.Bool.{cases_eq}
use Rattle.std.proofs.lemmas.List.{length-set}
use Rattle.std.proofs.lemmas.Option.{none-some, same_Some, slice_get_within}
use Rattle.rv_model.specs.declared.version.Version.{Version}
use Rattle.rv_model.specs.declared.cause.Cause.{Cause}
use Rattle.rv_model.specs.declared.touch.Touch.{Touch}
use Rattle.rv_model.specs.Board.{Board, DebugPart, Hart, Machine, cores, execute, execute_by, machine_of, reset_hart, reset_harts}
use Rattle.rv_model.specs.Core.{Core}
use Rattle.rv_model.specs.Effects.{Outcome}
use Rattle.rv_model.specs.Execute.{exec_masked_of, exec_of}
use Rattle.rv_model.specs.Memory.{Memory}
use Rattle.rv_model.specs.Touch.{touch_of}
use Rattle.rv_model.specs.Turn.{executes, executes_by, executes_here, masks_interrupts, memory_after, place_by, place_of, some_fires, stops_at_ebreak}
use Rattle.rv_model.specs.Turn.{turn_by, turn_outcome}
use Rattle.rv_model.specs.TurnLaws.{LeavesHarts, ResetBoardsAreUnmasked, StepsUnmasked, TurnForgetsDebugging, TurnKeepsUnmasked, TurnLeavesOthers}
use Rattle.rv_model.proofs.BoardLemmas.{cores-set, slice_get-cores}
use Rattle.rv_model.proofs.MapLemmas.{slice_get-set_other, slice_get-set_same, set_same}

-- ---- one hart

-- only an executed turn changes the core
core_by : (halted : Option Cause) (resume request fired at_ebreak : Bool) (touch : Touch) (o : Outcome) (h : Hart)
    → (place_by halted resume request fired at_ebreak touch o h).hart.core ≡ (if executes_by halted resume request fired at_ebreak then o.step.core else h.core)
core_by (Some why) true request fired at_ebreak touch o h = refl
core_by (Some why) false request fired at_ebreak touch o h = refl
core_by None resume true fired at_ebreak touch o h = refl
core_by None resume false true at_ebreak touch o h = refl
core_by None resume false false true touch o h = refl
core_by None resume false false false touch o h = refl

core_of : (h : Hart) (m : Memory) → (place_of h m).hart.core ≡ (if executes h m then (turn_outcome h m).step.core else h.core)
unfolding place_of executes
core_of h m = core_by h.debug.halted h.debug.resume_request h.debug.halt_request (some_fires (touch_of h.core m) h) (stops_at_ebreak h m) (touch_of h.core m)
    (turn_outcome h m) h

-- ---- a board

-- by: whether the turn is executed
machine_by : (executed : Bool) (h : ℕ) (b : Board) (hart : Hart) (core : Core) (memory : Memory) → slice_get (cores b.harts) h ≡ Some hart.core
    → core ≡ (if executed then (exec_of hart.core b.memory).step.core else hart.core)
    → memory ≡ (if executed then (exec_of hart.core b.memory).memory else b.memory)
    → (let m : Machine = record { cores = set (cores b.harts) h core; memory = memory } in m)
    ≡ (if executed then execute_by (Some hart.core) h (machine_of b) else machine_of b)
machine_by true h b hart core memory here core_is memory_is = rw (core_is, memory_is) refl
machine_by false h b hart core memory here core_is memory_is = rw (core_is, memory_is, set_same (cores b.harts) h hart.core here) refl

cores_here : (b : Board) (h : ℕ) (hart : Hart) → slice_get b.harts h ≡ Some hart → slice_get (cores b.harts) h ≡ Some hart.core
cores_here b h hart here = slice_get-cores b.harts h ∙ ap (option_map (λ (x : Hart). x.core)) here

-- a hart that does not mask its interrupts executes as one without a debugger
unmasked_by : (masks : Bool) (o p : Outcome) → masks ≡ false → (if masks then p else o) ≡ o
unmasked_by true o p e = absurd (cc)
unmasked_by false o p e = refl

pub outcome_unmasked : (h : Hart) (m : Memory) → masks_interrupts h.debug ≡ false → turn_outcome h m ≡ exec_of h.core m
unfolding turn_outcome
outcome_unmasked h m e = unmasked_by (masks_interrupts h.debug) (exec_of h.core m) (exec_masked_of h.core m) e

forgets_by : (o : Option Hart) (h : ℕ) (b : Board) → slice_get b.harts h ≡ o → ((hart : Hart) → o ≡ Some hart → masks_interrupts hart.debug ≡ false)
    → machine_of (turn_by o h b) ≡ (if executes_here o b.memory then execute h (machine_of b) else machine_of b)
unfolding memory_after
forgets_by None h b here unmasked = refl
forgets_by (Some hart) h b here unmasked =
    let as_ever : turn_outcome hart b.memory ≡ exec_of hart.core b.memory = outcome_unmasked hart b.memory (unmasked hart refl) in
    let pick : Outcome → Core = (λ (o : Outcome). if executes hart b.memory then o.step.core else hart.core) in
    let pick_memory : Outcome → Memory = (λ (o : Outcome). if executes hart b.memory then o.memory else b.memory) in
    let at : slice_get (cores b.harts) h ≡ Some hart.core = cores_here b h hart here in
    let runs : execute h (machine_of b) ≡ execute_by (Some hart.core) h (machine_of b) = ap (λ o. execute_by o h (machine_of b)) at in
    let place : Hart = (place_of hart b.memory).hart in
    ap (λ (cs : List Core). let m : Machine = record { cores = cs; memory = memory_after hart b.memory } in m) (cores-set b.harts h place)
    ∙ machine_by (executes hart b.memory) h b hart place.core (memory_after hart b.memory) at
    (core_of hart b.memory ∙ ap pick as_ever) (ap pick_memory as_ever)
    ∙ ap (λ (m : Machine). if executes hart b.memory then m else machine_of b) (sym runs)

pub turn_forgets_debugging : TurnForgetsDebugging
turn_forgets_debugging h b unmasked = forgets_by (slice_get b.harts h) h b refl (unmasked h)

-- ---- no step masks its interrupts

-- step and stepie stay as they are
masks_if : (step : Bool) (d e : DebugPart) (v : Bool) → masks_interrupts d ≡ v → masks_interrupts e ≡ v → masks_interrupts (if step then d else e) ≡ v
masks_if true d e v p q = p
masks_if false d e v p q = q

masks_by : (halted : Option Cause) (resume request fired at_ebreak : Bool) (touch : Touch) (o : Outcome) (h : Hart)
    → masks_interrupts (place_by halted resume request fired at_ebreak touch o h).hart.debug ≡ masks_interrupts h.debug
masks_by (Some why) true request fired at_ebreak touch o h = refl
masks_by (Some why) false request fired at_ebreak touch o h = refl
masks_by None resume true fired at_ebreak touch o h = refl
masks_by None resume false true at_ebreak touch o h = refl
masks_by None resume false false true touch o h = refl
masks_by None resume false false false touch o h = masks_if h.debug.step _ _ (masks_interrupts h.debug) refl refl

pub place_masks : (h : Hart) (m : Memory) → masks_interrupts (place_of h m).hart.debug ≡ masks_interrupts h.debug
unfolding place_of
place_masks h m = masks_by h.debug.halted h.debug.resume_request h.debug.halt_request (some_fires (touch_of h.core m) h) (stops_at_ebreak h m)
    (touch_of h.core m) (turn_outcome h m) h

-- a hart in the place of another that masks nothing either
pub unmasked_set : (xs : List Hart) (h : ℕ) (x y : Hart) → slice_get xs h ≡ Some x → masks_interrupts y.debug ≡ masks_interrupts x.debug
    → ((j : ℕ) (z : Hart) → slice_get xs j ≡ Some z → masks_interrupts z.debug ≡ false) → (j : ℕ) (z : Hart) → slice_get (set xs h y) j ≡ Some z
    → masks_interrupts z.debug ≡ false
unmasked_set xs h x y there same each j z is = elim (cases_eq j h) [
  | inl e ↦
      let at : slice_get (set xs h y) j ≡ Some y = ap (slice_get (set xs h y)) e ∙ slice_get-set_same xs h y (slice_get_within xs h x there) in
      subst (λ (u : Hart). masks_interrupts u.debug ≡ false) (same_Some y z (sym at ∙ is)) (same ∙ each h x there)
  | inr other ↦ each j z (sym (slice_get-set_other xs h j y other) ∙ is)
]

turned_unmasked : (o : Option Hart) (h : ℕ) (b : Board) → slice_get b.harts h ≡ o → StepsUnmasked b → StepsUnmasked (turn_by o h b)
turned_unmasked None h b here each = each
turned_unmasked (Some x) h b here each = unmasked_set b.harts h x (place_of x b.memory).hart here (place_masks x b.memory) each

pub turn_keeps_unmasked : TurnKeepsUnmasked
turn_keeps_unmasked h b each = turned_unmasked (slice_get b.harts h) h b refl each

reset_each : (version : Version) (id : ℕ) (halted : List (Option Cause)) (h : ℕ) (hart : Hart) → slice_get (reset_harts version id halted) h ≡ Some hart
    → masks_interrupts hart.debug ≡ false
reset_each version id [] h hart is = absurd (none-some hart is)
reset_each version id (first ∷ rest) zero hart is =
    subst (λ (x : Hart). masks_interrupts x.debug ≡ false) (same_Some (reset_hart version id first) hart is) refl
reset_each version id (first ∷ rest) (suc h) hart is = reset_each version (id + 1) rest h hart is

pub reset_boards_are_unmasked : ResetBoardsAreUnmasked
reset_boards_are_unmasked version halted m h hart is = reset_each version 0 halted h hart is

-- ---- other harts

leaves_by : (o : Option Hart) (h : ℕ) (b : Board) → LeavesHarts h b (turn_by o h b)
leaves_by None h b = record { count = refl; others = λ j other. refl }
leaves_by (Some hart) h b = record {
  count = length-set b.harts h (place_of hart b.memory).hart;
  others = λ j other. slice_get-set_other b.harts h j (place_of hart b.memory).hart other;
}

pub turn_leaves_others : TurnLeavesOthers
turn_leaves_others h b = leaves_by (slice_get b.harts h) h b
