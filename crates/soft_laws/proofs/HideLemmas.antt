-- A turn over memory with patches, by the cases of a turn.
use Rattle.std.proofs.Common.{◌≡◌, ◌∙◌, ℕ, Bool, true, false, ◌&&◌, List, Option, Some, None, slice_get, set, refl, sym, ap, if◌then◌else◌}
use Rattle.std.proofs.lemmas.Bool.{false≢true}
use Rattle.rv_model.specs.declared.cause.Cause.{Cause}
use Rattle.rv_model.specs.declared.touch.Touch.{Touch}
use Rattle.rv_model.specs.Board.{Board, Hart}
use Rattle.rv_model.specs.Effects.{Outcome}
use Rattle.rv_model.specs.Memory.{Memory}
use Rattle.rv_model.specs.Turn.{Place, executes, executes_by, memory_after, place_by, place_of, some_fires, stops_at_ebreak, turn_by, turn_outcome}
use Rattle.soft_laws.specs.Laws.{PatchesHide}
use Rattle.soft_laws.specs.SoftBreaks.{AreSoftAddresses, AreInside, is_listed, patched_board, patched_memory}
use Rattle.soft_laws.specs.SoftTurns.{ebreak_by, soft_executes, soft_fires, soft_memory_after, soft_place, soft_stops, soft_touch, soft_turn_by}
use Rattle.soft_laws.specs.Undisturbed.{LeavesWords, accessed_of}
use Rattle.soft_laws.proofs.ExecLemmas.{ebreak-patched, outcome-patched, patched_outcome, touch-patched}

pub stops-patched : (cs : List ℕ) (x : Hart) (m : Memory) → AreSoftAddresses cs → stops_at_ebreak x (patched_memory cs m) ≡ soft_stops cs x m
unfolding soft_stops
stops-patched cs x m are = ap (λ b. x.debug.ebreakm && b) (ebreak-patched cs x.core m are)

pub executes-patched : (cs : List ℕ) (x : Hart) (m : Memory) → AreSoftAddresses cs → executes x (patched_memory cs m) ≡ soft_executes cs x m
unfolding executes
executes-patched cs x m are =
    ap (λ t. executes_by x.debug.halted x.debug.resume_request x.debug.halt_request (some_fires t x) (stops_at_ebreak x (patched_memory cs m)))
    (touch-patched cs x.core m are)
    ∙ ap (executes_by x.debug.halted x.debug.resume_request x.debug.halt_request (soft_fires cs x m)) (stops-patched cs x m are)

-- ---- an executed turn is at no covered word

-- a turn that an ebreak stops executes nothing
stopped_by : (halted : Option Cause) (resume request fired : Bool) → executes_by halted resume request fired true ≡ false
stopped_by (Some why) true request fired = refl
stopped_by (Some why) false request fired = refl
stopped_by None resume true fired = refl
stopped_by None resume false true = refl
stopped_by None resume false false = refl

pub stops_there : (cs : List ℕ) (x : Hart) (m : Memory) → is_listed cs x.core.pc ≡ true → x.debug.ebreakm ≡ true → soft_stops cs x m ≡ true
unfolding soft_stops
stops_there cs x m there halts = ap (λ b. b && ebreak_by (is_listed cs x.core.pc) x.core m) halts ∙ ap (λ b. ebreak_by b x.core m) there

pub executes_uncovered : (cs : List ℕ) (x : Hart) (m : Memory) → (is_listed cs x.core.pc ≡ true → x.debug.ebreakm ≡ true) → soft_executes cs x m ≡ true
    → is_listed cs x.core.pc ≡ false
executes_uncovered cs x m halts runs = by (is_listed cs x.core.pc) refl
  where
    by : (b : Bool) → is_listed cs x.core.pc ≡ b → b ≡ false
    by false e = refl
    by true e = absurd (false≢true (sym (ap (executes_by x.debug.halted x.debug.resume_request x.debug.halt_request (soft_fires cs x m))
        (stops_there cs x m e (halts e)) ∙ stopped_by x.debug.halted x.debug.resume_request x.debug.halt_request (soft_fires cs x m)) ∙ runs))

pub executed-patched : (cs : List ℕ) (x : Hart) (m : Memory) → AreSoftAddresses cs → AreInside cs m.bytes
    → (is_listed cs x.core.pc ≡ true → x.debug.ebreakm ≡ true) → (soft_executes cs x m ≡ true → LeavesWords cs (accessed_of x.core m))
    → soft_executes cs x m ≡ true
    → turn_outcome x (patched_memory cs m) ≡ patched_outcome cs (turn_outcome x m)
executed-patched cs x m are inside halts leaves runs = outcome-patched cs x m are inside (executes_uncovered cs x m halts runs) (leaves runs)

-- ---- the hart and the memory behind the turn

-- what an instruction would do matters only where it is executed
same_place : (halted : Option Cause) (resume request fired at_ebreak : Bool) (t : Touch) (o o' : Outcome) (x : Hart)
    → (executes_by halted resume request fired at_ebreak ≡ true → o.step ≡ o'.step)
    → place_by halted resume request fired at_ebreak t o x ≡ place_by halted resume request fired at_ebreak t o' x
same_place (Some why) true request fired at_ebreak t o o' x same = refl
same_place (Some why) false request fired at_ebreak t o o' x same = refl
same_place None resume true fired at_ebreak t o o' x same = refl
same_place None resume false true at_ebreak t o o' x same = refl
same_place None resume false false true t o o' x same = refl
same_place None resume false false false t o o' x same =
    ap (λ s. place_by None resume false false false t (record { step = s; memory = o.memory }) x) (same refl)

place-patched : (cs : List ℕ) (x : Hart) (m : Memory) → AreSoftAddresses cs
    → (soft_executes cs x m ≡ true → turn_outcome x (patched_memory cs m) ≡ patched_outcome cs (turn_outcome x m))
    → place_of x (patched_memory cs m) ≡ soft_place cs x m
unfolding place_of soft_place
place-patched cs x m are runs =
    ap (λ t. place_by x.debug.halted x.debug.resume_request x.debug.halt_request (some_fires t x) (stops_at_ebreak x (patched_memory cs m)) t
    (turn_outcome x (patched_memory cs m)) x) (touch-patched cs x.core m are)
    ∙ ap (λ b. place_by x.debug.halted x.debug.resume_request x.debug.halt_request (soft_fires cs x m) b (soft_touch cs x.core m)
    (turn_outcome x (patched_memory cs m)) x) (stops-patched cs x m are)
    ∙ same_place x.debug.halted x.debug.resume_request x.debug.halt_request (soft_fires cs x m) (soft_stops cs x m) (soft_touch cs x.core m)
    (turn_outcome x (patched_memory cs m)) (turn_outcome x m) x (λ e. ap (λ (o : Outcome). o.step) (runs e))

memory_by : (cs : List ℕ) (b : Bool) (m new new' : Memory) → (b ≡ true → new' ≡ patched_memory cs new)
    → (if b then new' else patched_memory cs m) ≡ patched_memory cs (if b then new else m)
memory_by cs true m new new' is = is refl
memory_by cs false m new new' is = refl

memory-patched : (cs : List ℕ) (x : Hart) (m : Memory) → AreSoftAddresses cs
    → (soft_executes cs x m ≡ true → turn_outcome x (patched_memory cs m) ≡ patched_outcome cs (turn_outcome x m))
    → memory_after x (patched_memory cs m) ≡ patched_memory cs (soft_memory_after cs x m)
unfolding memory_after soft_memory_after
memory-patched cs x m are runs =
    ap (λ b. if b then (turn_outcome x (patched_memory cs m)).memory else patched_memory cs m) (executes-patched cs x m are)
    ∙ memory_by cs (soft_executes cs x m) m (turn_outcome x m).memory (turn_outcome x (patched_memory cs m)).memory
    (λ e. ap (λ (o : Outcome). o.memory) (runs e))

-- ---- the board

hides_by : (cs : List ℕ) (o : Option Hart) (h : ℕ) (b : Board) → AreSoftAddresses cs
    → ((x : Hart) → o ≡ Some x → soft_executes cs x b.memory ≡ true → turn_outcome x (patched_memory cs b.memory) ≡ patched_outcome cs
    (turn_outcome x b.memory))
    → turn_by o h (patched_board cs b) ≡ patched_board cs (soft_turn_by cs o h b)
hides_by cs None h b are runs = refl
hides_by cs (Some x) h b are runs =
    ap (λ (p : Place). let c : Board = record { harts = set b.harts h p.hart; memory = memory_after x (patched_memory cs b.memory) } in c)
    (place-patched cs x b.memory are (runs x refl))
    ∙ ap (λ (m : Memory). let c : Board = record { harts = set b.harts h (soft_place cs x b.memory).hart; memory = m } in c)
    (memory-patched cs x b.memory are (runs x refl))

pub patches_hide : PatchesHide
patches_hide cs h b may = hides_by cs (slice_get b.harts h) h b may.aligned
    (λ x is runs. executed-patched cs x b.memory may.aligned may.inside (may.halts x is) (may.leaves x is) runs)
