-- The machine that a user of software breakpoints sees is the undebugged run of its own entries, whatever the plan, the journal and the end.
use Rattle.std.proofs.Common.{◌≡◌, ◌∙◌, ℕ, List, Bool, true, false, Option, Some, None, slice_get, option_map, set, refl, sym, ap, if◌then◌else◌}
use Rattle.rv_model.specs.declared.cause.Cause.{Cause}
use Rattle.rv_model.specs.declared.touch.Touch.{Touch}
use Rattle.rv_model.specs.Board.{Board, DebugPart, Hart, Machine, cores, execute, execute_by, machine_of}
use Rattle.rv_model.specs.Core.{Core}
use Rattle.rv_model.specs.Effects.{Outcome}
use Rattle.rv_model.specs.Execute.{exec_of}
use Rattle.rv_model.specs.Memory.{Memory}
use Rattle.rv_model.specs.Triggers.{fires}
use Rattle.rv_model.specs.Turn.{executes_by, masks_interrupts, place_by, turn_outcome}
use Rattle.rv_model.specs.TurnLaws.{StepsUnmasked}
use Rattle.rv_model.proofs.BoardLemmas.{cores-set, slice_get-cores}
use Rattle.rv_model.proofs.MapLemmas.{set_same}
use Rattle.rv_model.proofs.TurnLemmas.{outcome_unmasked, unmasked_set}
use Rattle.debug_model.specs.declared.point.Point.{Point}
use Rattle.debug_model.specs.declared.point.Point.TheVariants.{Turn, Look, HaltReq, HaltClear, ResumeReq, Access}
use Rattle.abstract_debugger.specs.Own.{lived}
use Rattle.abstract_debugger.specs.Trace.{Past}
use Rattle.abstract_debugger.specs.Transcript.{World, start}
use Rattle.abstract_debugger.specs.Known.{Erased}
use Rattle.abstract_debugger.proofs.Transparency.{erased-keeps, noted_by-lived, pasts_are_undebugged, start-erased}
use Rattle.soft_laws.specs.Laws.{SoftTransparent}
use Rattle.soft_laws.specs.SoftBreaks.{covered}
use Rattle.soft_laws.specs.SoftReplay.{soft_passed, soft_replay}
use Rattle.soft_laws.specs.SoftTurns.{soft_executes, soft_fires, soft_memory_after, soft_noted_here, soft_place, soft_stops}
use Rattle.soft_laws.specs.SoftTurns.{soft_touch, soft_turn_by, soft_turned}
use Rattle.soft_laws.proofs.SoftKeeps.{SoftKeeps, soft-replay-keeps}

-- ---- one hart

-- only an executed turn changes the core
core_by : (halted : Option Cause) (resume request fired at_ebreak : Bool) (touch : Touch) (o : Outcome) (h : Hart)
    → (place_by halted resume request fired at_ebreak touch o h).hart.core ≡
    (if executes_by halted resume request fired at_ebreak then o.step.core else h.core)
core_by (Some why) true request fired at_ebreak touch o h = refl
core_by (Some why) false request fired at_ebreak touch o h = refl
core_by None resume true fired at_ebreak touch o h = refl
core_by None resume false true at_ebreak touch o h = refl
core_by None resume false false true touch o h = refl
core_by None resume false false false touch o h = refl

soft_core : (cs : List ℕ) (x : Hart) (m : Memory) → (soft_place cs x m).hart.core ≡ (if soft_executes cs x m then (turn_outcome x m).step.core else x.core)
unfolding soft_place
soft_core cs x m = core_by x.debug.halted x.debug.resume_request x.debug.halt_request (soft_fires cs x m) (soft_stops cs x m) (soft_touch cs x.core m)
    (turn_outcome x m) x

-- ---- a board

-- by: whether the turn is executed
machine_by : (executed : Bool) (h : ℕ) (b : Board) (hart : Hart) (core : Core) (memory : Memory) → slice_get (cores b.harts) h ≡ Some hart.core
    → core ≡ (if executed then (exec_of hart.core b.memory).step.core else hart.core)
    → memory ≡ (if executed then (exec_of hart.core b.memory).memory else b.memory)
    → (let m : Machine = record { cores = set (cores b.harts) h core; memory = memory } in m)
    ≡ (if executed then execute_by (Some hart.core) h (machine_of b) else machine_of b)
machine_by true h b hart core memory here core_is memory_is = rw (core_is, memory_is) refl
machine_by false h b hart core memory here core_is memory_is = rw (core_is, memory_is, set_same (cores b.harts) h hart.core here) refl

pub cores_here : (b : Board) (h : ℕ) (hart : Hart) → slice_get b.harts h ≡ Some hart → slice_get (cores b.harts) h ≡ Some hart.core
cores_here b h hart here = slice_get-cores b.harts h ∙ ap (option_map (λ (x : Hart). x.core)) here

soft_forgets : (cs : List ℕ) (x : Hart) (h : ℕ) (b : Board) → slice_get b.harts h ≡ Some x → masks_interrupts x.debug ≡ false
    → machine_of (soft_turn_by cs (Some x) h b) ≡ (if soft_executes cs x b.memory then execute h (machine_of b) else machine_of b)
unfolding soft_memory_after
soft_forgets cs x h b here unmasked =
    let as_ever : turn_outcome x b.memory ≡ exec_of x.core b.memory = outcome_unmasked x b.memory unmasked in
    let pick : Outcome → Core = (λ (o : Outcome). if soft_executes cs x b.memory then o.step.core else x.core) in
    let pick_memory : Outcome → Memory = (λ (o : Outcome). if soft_executes cs x b.memory then o.memory else b.memory) in
    let at : slice_get (cores b.harts) h ≡ Some x.core = cores_here b h x here in
    let runs : execute h (machine_of b) ≡ execute_by (Some x.core) h (machine_of b) = ap (λ o. execute_by o h (machine_of b)) at in
    let place : Hart = (soft_place cs x b.memory).hart in
    ap (λ (c : List Core). let m : Machine = record { cores = c; memory = soft_memory_after cs x b.memory } in m) (cores-set b.harts h place)
    ∙ machine_by (soft_executes cs x b.memory) h b x place.core (soft_memory_after cs x b.memory) at
    (soft_core cs x b.memory ∙ ap pick as_ever) (ap pick_memory as_ever)
    ∙ ap (λ (m : Machine). if soft_executes cs x b.memory then m else machine_of b) (sym runs)

turn_lived : (cs : List ℕ) (o : Option Hart) (h : ℕ) (b : Board) (past : Past) (m : Machine) → slice_get b.harts h ≡ o
    → ((x : Hart) → o ≡ Some x → masks_interrupts x.debug ≡ false) → machine_of b ≡ lived m past
    → machine_of (soft_turn_by cs o h b) ≡ lived m (soft_noted_here cs o h b.memory past)
turn_lived cs None h b past m here unmasked is = is
turn_lived cs (Some x) h b past m here unmasked is =
    soft_forgets cs x h b here (unmasked x refl)
    ∙ noted_by-lived x.debug.halted x.debug.resume_request x.debug.halt_request (soft_fires cs x b.memory) (soft_stops cs x b.memory) x.debug.step h
    (fires (soft_touch cs x.core b.memory) x.debug.slots) past m (machine_of b) is

-- ---- a replay

-- step and stepie stay as they are
masks_if : (step : Bool) (d e : DebugPart) (v : Bool) → masks_interrupts d ≡ v → masks_interrupts e ≡ v → masks_interrupts (if step then d else e) ≡ v
masks_if true d e v p q = p
masks_if false d e v p q = q

masks_by : (halted : Option Cause) (resume request fired at_ebreak : Bool) (touch : Touch) (o : Outcome) (h : Hart)
    → masks_interrupts (place_by halted resume request fired at_ebreak touch o h).hart.debug ≡ masks_interrupts h.debug
masks_by (Some why) true request fired at_ebreak touch o h = refl
masks_by (Some why) false request fired at_ebreak touch o h = refl
masks_by None resume true fired at_ebreak touch o h = refl
masks_by None resume false true at_ebreak touch o h = refl
masks_by None resume false false true touch o h = refl
masks_by None resume false false false touch o h = masks_if h.debug.step _ _ (masks_interrupts h.debug) refl refl

soft_place_masks : (cs : List ℕ) (x : Hart) (m : Memory) → masks_interrupts (soft_place cs x m).hart.debug ≡ masks_interrupts x.debug
unfolding soft_place
soft_place_masks cs x m = masks_by x.debug.halted x.debug.resume_request x.debug.halt_request (soft_fires cs x m) (soft_stops cs x m)
    (soft_touch cs x.core m) (turn_outcome x m) x

turn_unmasked : (cs : List ℕ) (o : Option Hart) (h : ℕ) (b : Board) → slice_get b.harts h ≡ o → StepsUnmasked b → StepsUnmasked (soft_turn_by cs o h b)
turn_unmasked cs None h b here each = each
turn_unmasked cs (Some x) h b here each = unmasked_set b.harts h x (soft_place cs x b.memory).hart here (soft_place_masks cs x b.memory) each

pub soft_turned-erased : (m : Machine) (h : ℕ) (w : World) → Erased m w → Erased m (soft_turned h w)
soft_turned-erased m h w is = record {
  machine = turn_lived (covered w.past) (slice_get w.board.harts h) h w.board w.past m refl (is.unmasked h) is.machine;
  unmasked = turn_unmasked (covered w.past) (slice_get w.board.harts h) h w.board refl is.unmasked;
}

passed-erased : (m : Machine) (q : Point) (w : World) → Erased m w → Erased m (soft_passed q w)
passed-erased m (Turn h) w is = soft_turned-erased m h w is
passed-erased m (Look n) w is = (erased-keeps m).passes (Look n) w is
passed-erased m (HaltReq h) w is = (erased-keeps m).passes (HaltReq h) w is
passed-erased m (HaltClear h) w is = (erased-keeps m).passes (HaltClear h) w is
passed-erased m (ResumeReq h) w is = (erased-keeps m).passes (ResumeReq h) w is
passed-erased m Access w is = (erased-keeps m).passes Access w is

soft-erased-keeps : (m : Machine) → SoftKeeps (Erased m)
soft-erased-keeps m = record {
  passes = passed-erased m;
  changes = (erased-keeps m).changes;
  says = (erased-keeps m).says;
}

pub soft_transparent : SoftTransparent
soft_transparent plan board journal unmasked =
    (soft-replay-keeps (Erased (machine_of board)) (soft-erased-keeps (machine_of board)) plan (start board) journal (start-erased board unmasked)).machine
    ∙ sym (pasts_are_undebugged (machine_of board) (soft_replay plan (start board) journal).world.past)
