-- A board stays a board: what reset leaves is one, and a turn leaves one.
use Rattle.std.proofs.Common.{
  ◌≡◌,
  ◌∙◌,
  ℕ,
  ◌+◌,
  ◌<◌,
  ◌≤◌,
  List,
  [],
  ◌∷◌,
  length,
  Bool,
  true,
  false,
  cond,
  set,
  zero,
  suc,
  Option,
  Some,
  None,
  slice_get,
  refl,
  sym,
  ap,
  subst,
  inl,
  inr,
  arith,
  if◌then◌else◌,
}
use Rattle.std.proofs.lemmas.Bool.{cases_eq}
use Rattle.std.proofs.lemmas.List.{length-map, length-set}
use Rattle.std.proofs.lemmas.Option.{none-some, same_Some, slice_get_within}
use Rattle.rv_model.specs.declared.cause.Cause.{Cause}
use Rattle.rv_model.specs.declared.touch.Touch.{Touch}
use Rattle.rv_model.specs.declared.version.Version.{Version}
use Rattle.rv_model.specs.Board.{Board, DebugPart, Hart, IsBoard, IsHart, reset_hart, reset_harts}
use Rattle.rv_model.specs.Core.{Core, IsCore, reset_core}
use Rattle.rv_model.specs.Effects.{Outcome}
use Rattle.rv_model.specs.Execute.{exec_masked_of, exec_of}
use Rattle.rv_model.specs.Laws.{Keeps}
use Rattle.rv_model.specs.Memory.{Memory}
use Rattle.rv_model.specs.Touch.{touch_of}
use Rattle.rv_model.specs.Triggers.{slot_marked, slot_counted, counted_down}
use Rattle.rv_model.specs.Turn.{executes, masks_interrupts, memory_after, place_by, place_of, some_fires, stepped, stops_at_ebreak, turn_by, turn_outcome}
use Rattle.rv_model.specs.TurnLaws.{ResetBoardsAreBoards, TurnKeepsBoard}
use Rattle.rv_model.proofs.BoardLemmas.{execution_keeps, masked_execution_keeps}
use Rattle.rv_model.proofs.MapLemmas.{slice_get-set_same, slice_get-set_other}
use Rattle.rv_model.proofs.SlotLemmas.{counted_fits, marked_fits, map_fits, free_slots_fit}

-- ---- reset

reset_is_core : (id : ℕ) → IsCore (reset_core id)
reset_is_core id = record { registers = refl; pc_aligned = refl; mode_known = omega arith; mepc_aligned = refl; mpp_fixed = refl }

pub reset_is_hart : (v : Version) (id : ℕ) (halted : Option Cause) → IsHart id (reset_hart v id halted)
reset_is_hart v id halted = record { number = refl; core = reset_is_core id; slots = refl; counts = free_slots_fit 4; selected = omega arith }

reset_count : (v : Version) (id : ℕ) (halted : List (Option Cause)) → length (reset_harts v id halted) ≡ length halted
reset_count v id [] = refl
reset_count v id (first ∷ rest) = ap suc (reset_count v (id + 1) rest)

reset_each : (v : Version) (id : ℕ) (halted : List (Option Cause)) (h n : ℕ) (hart : Hart) → n ≡ id + h → slice_get (reset_harts v id halted) h ≡ Some hart
    → IsHart n hart
reset_each v id [] h n hart place is = absurd (none-some hart is)
reset_each v id (first ∷ rest) zero n hart place is =
    let at : id ≡ n = omega arith in
    let P : Hart → Type 0 = λ x. IsHart n x in
    let Q : ℕ → Type 0 = λ k. IsHart k (reset_hart v id first) in
    subst P (same_Some (reset_hart v id first) hart is) (subst Q at (reset_is_hart v id first))
reset_each v id (first ∷ rest) (suc h) n hart place is = reset_each v (id + 1) rest h n hart (omega arith) is

pub reset_boards_are_boards : ResetBoardsAreBoards
reset_boards_are_boards v halted m some most places = record {
  some_hart = let e : length (reset_harts v 0 halted) ≡ length halted = reset_count v 0 halted in omega arith;
  at_most_four = let e : length (reset_harts v 0 halted) ≡ length halted = reset_count v 0 halted in omega arith;
  harts = λ h hart is. reset_each v 0 halted h h hart (omega arith) is;
  places = places;
}

-- ---- one hart's turn

stepped_if : (step : Bool) (h : ℕ) (core : Core) (a b : DebugPart) → IsHart h (record { core = core; debug = a }) → IsHart h (record { core = core; debug = b })
    → IsHart h (record { core = core; debug = cond step a b })
stepped_if true h core a b p q = p
stepped_if false h core a b p q = q

executed_hart : (h : ℕ) (hart : Hart) (core : Core) → core.id ≡ hart.core.id → (IsCore hart.core → IsCore core) → IsHart h hart
    → IsHart h (record { core = core; debug = stepped hart.debug })
executed_hart h hart core same whole is =
    let counts = map_fits slot_counted counted_fits hart.debug.slots is.counts in
    let slots : length (counted_down hart.debug.slots) ≡ 4 = length-map hart.debug.slots slot_counted ∙ is.slots in
    stepped_if hart.debug.step h core _ _
    (record { number = same ∙ is.number; core = whole is.core; slots = slots; counts = counts; selected = is.selected })
    (record { number = same ∙ is.number; core = whole is.core; slots = slots; counts = counts; selected = is.selected })

place_keeps : (halted : Option Cause) (resume request fired at_ebreak : Bool) (touch : Touch) (o : Outcome) (h : ℕ) (hart : Hart)
    → o.step.core.id ≡ hart.core.id → (IsCore hart.core → IsCore o.step.core) → IsHart h hart
    → IsHart h (place_by halted resume request fired at_ebreak touch o hart).hart
place_keeps (Some why) true request fired at_ebreak touch o h hart same whole is =
    record { number = is.number; core = is.core; slots = is.slots; counts = is.counts; selected = is.selected }
place_keeps (Some why) false request fired at_ebreak touch o h hart same whole is = is
place_keeps None resume true fired at_ebreak touch o h hart same whole is =
    record { number = is.number; core = is.core; slots = is.slots; counts = is.counts; selected = is.selected }
place_keeps None resume false true at_ebreak touch o h hart same whole is = record {
  number = is.number;
  core = is.core;
  slots = length-map hart.debug.slots (slot_marked touch) ∙ is.slots;
  counts = map_fits (slot_marked touch) (marked_fits touch) hart.debug.slots is.counts;
  selected = is.selected;
}
place_keeps None resume false false true touch o h hart same whole is =
    record { number = is.number; core = is.core; slots = is.slots; counts = is.counts; selected = is.selected }
place_keeps None resume false false false touch o h hart same whole is = executed_hart h hart o.step.core same whole is

-- what a turn executes keeps what every execution does, with interrupts or without
keeps_by : (masks : Bool) (c : Core) (m : Memory) → Keeps c m (if masks then exec_masked_of c m else exec_of c m)
keeps_by true c m = (masked_execution_keeps c m).keeps
keeps_by false c m = execution_keeps c m

pub outcome_keeps : (hart : Hart) (m : Memory) → Keeps hart.core m (turn_outcome hart m)
unfolding turn_outcome
outcome_keeps hart m = keeps_by (masks_interrupts hart.debug) hart.core m

pub turn_keeps_hart : (h : ℕ) (hart : Hart) (m : Memory) → IsHart h hart → IsHart h (place_of hart m).hart
unfolding place_of
turn_keeps_hart h hart m is =
    let k : Keeps hart.core m (turn_outcome hart m) = outcome_keeps hart m in
    place_keeps hart.debug.halted hart.debug.resume_request hart.debug.halt_request (some_fires (touch_of hart.core m) hart) (stops_at_ebreak hart m)
    (touch_of hart.core m) (turn_outcome hart m) h hart k.core.same_id k.core.is_core is

-- ---- a board's turn

places_if : (executed : Bool) (a b : Memory) → length a.reserved ≡ length b.reserved → length (cond executed a b).reserved ≡ length b.reserved
places_if true a b same = same
places_if false a b same = refl

places_kept : (hart : Hart) (m : Memory) → length (memory_after hart m).reserved ≡ length m.reserved
unfolding memory_after
places_kept hart m = places_if (executes hart m) (turn_outcome hart m).memory m (outcome_keeps hart m).places

-- a hart in the place of another
pub each_set : (xs : List Hart) (h : ℕ) (y : Hart) → h < length xs → IsHart h y → ((j : ℕ) (x : Hart) → slice_get xs j ≡ Some x → IsHart j x)
    → (j : ℕ) (x : Hart) → slice_get (set xs h y) j ≡ Some x → IsHart j x
each_set xs h y inside here each j x is = elim (cases_eq j h) [
  | inl same ↦
      let P : Hart → Type 0 = λ z. IsHart j z in
      let Q : ℕ → Type 0 = λ k. IsHart k y in
      let at : slice_get (set xs h y) j ≡ Some y = ap (slice_get (set xs h y)) same ∙ slice_get-set_same xs h y inside in
      subst P (same_Some y x (sym at ∙ is)) (subst Q (sym same) here)
  | inr other ↦ each j x (sym (slice_get-set_other xs h j y other) ∙ is)
]

turn_by_keeps : (o : Option Hart) (h : ℕ) (b : Board) → slice_get b.harts h ≡ o → IsBoard b → IsBoard (turn_by o h b)
turn_by_keeps None h b at is = is
turn_by_keeps (Some hart) h b at is =
    let y : Hart = (place_of hart b.memory).hart in
    let count : length (set b.harts h y) ≡ length b.harts = length-set b.harts h y in
    record {
      some_hart = let some : 0 < length b.harts = is.some_hart in omega arith;
      at_most_four = let most : length b.harts ≤ 4 = is.at_most_four in omega arith;
      harts = each_set b.harts h y (slice_get_within b.harts h hart at) (turn_keeps_hart h hart b.memory (is.harts h hart at)) is.harts;
      places = places_kept hart b.memory ∙ is.places;
    }

pub turn_keeps_board : TurnKeepsBoard
turn_keeps_board h b is = turn_by_keeps (slice_get b.harts h) h b refl is
