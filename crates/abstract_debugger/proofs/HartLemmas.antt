-- The turn of one hart: it keeps the way in which the debugger stands to it, and what it notes is right.
use Rattle.std.proofs.Common.{◌≡◌, ◌∙◌, ◌+◌, ℕ, zero, suc, Bool, true, false, not, ◌&&◌, ◌||◌, List, [], ◌∷◌, Option, Some, None, slice_get}
use Rattle.std.proofs.Common.{option_map, refl, sym, ap, subst, if◌then◌else◌, inl, inr}
use Rattle.std.specs.List.{list_any}
use Rattle.std.proofs.lemmas.Bool.{false≢true, or_parts, or_right}
use Rattle.std.proofs.lemmas.Option.{slice_get-map, none-some}
use Rattle.std.proofs.Math.Bool.{and_comm}
use Rattle.rv_model.specs.declared.cause.Cause.{Cause}
use Rattle.rv_model.specs.declared.cause.Cause.TheVariants as cause
use Rattle.rv_model.specs.declared.slot.Slot.{Slot}
use Rattle.rv_model.specs.declared.touch.Touch.{Touch}
use Rattle.rv_model.specs.Board.{DebugPart, Hart, Machine}
use Rattle.rv_model.specs.Core.{Core}
use Rattle.rv_model.specs.Effects.{Outcome}
use Rattle.rv_model.specs.Memory.{Memory}
use Rattle.rv_model.specs.Touch.{touch_of}
use Rattle.rv_model.specs.Triggers.{counted_down, fires, marked, slot_counted, slot_fires, slot_marked}
use Rattle.rv_model.specs.Turn.{halted_for, place_by, place_of, resumed, some_fires, stops_at_ebreak, turn_outcome}
use Rattle.rv_model.specs.Undebugged.{Exec}
use Rattle.abstract_debugger.specs.FirstMatch.{FirstMatch, NothingRunPast, StopsAtMatch, Story, armed_matches, has, has_here, matching, story, told}
use Rattle.abstract_debugger.specs.Trace.{Past, no_slots, noted_by, noted_turn}
use Rattle.abstract_debugger.specs.Trace.Note.{Did, Stop}
use Rattle.abstract_debugger.specs.Ways.{Fits, IsSlot, IsSlotFor, IsSteppedSlot, Moves, NothingSpent, SlotsHeld, Starts, Way}
use Rattle.abstract_debugger.specs.Ways.Starts.{runs, waits}
use Rattle.abstract_debugger.specs.Ways.Way.{Idle, Still, Ready, Going, Holding, Asked, Over}
use Rattle.abstract_debugger.proofs.SlotLemmas.{fires_here, slot-counted, slot-fires, slot-marked}
use Rattle.abstract_debugger.proofs.StoryLemmas.{same_number, story-here}

-- what the undebugged machine has at hart h, this core and memory have
abbrev pub Knows : Machine → ℕ → Past → Core → Memory → Type 0
Knows m h past c mem = (k : ℕ) → matching m h k past ≡ armed_matches (story h k past).armed c mem (story h k past).execs (story h k past).stopped

-- a turn kept the way, and what it noted is right
pub record Turned (way : Way) (m : Machine) (h : ℕ) (past new : Past) (d : DebugPart) : Type 0 where
  pub fits : Fits way h new d
  pub right : FirstMatch m past → FirstMatch m new

-- ---- which slots fire

has-fires : (t : Touch) (slots : List Slot) (k : ℕ) → has (fires t slots) k ≡ fires_here t (slice_get slots k)
has-fires t slots k = ap has_here (slice_get-map (slot_fires t) slots k)

none_has : (xs : List Bool) (k : ℕ) → list_any (λ b. b) xs ≡ false → has xs k ≡ false
none_has [] k none = refl
none_has (x ∷ xs) zero none = (or_parts x (list_any (λ b. b) xs) none).0
none_has (x ∷ xs) (suc k) none = none_has xs k (or_parts x (list_any (λ b. b) xs) none).1

-- of slots that are off where they are spent
fires-held : (m : Machine) (h : ℕ) (past : Past) (c : Core) (mem : Memory) (slots : List Slot) → SlotsHeld h past slots → (k : ℕ)
    → has (fires (touch_of c mem) slots) k ≡ (not (story h k past).spent && armed_matches (story h k past).armed c mem (story h k past).execs
    (story h k past).stopped)
fires-held m h past c mem slots are k =
    has-fires (touch_of c mem) slots k
    ∙ slot-fires c mem (slice_get slots k) (story h k past).armed (not (story h k past).spent) (story h k past).spent (story h k past).execs
    (story h k past).stopped (are k)

right_stop : (m : Machine) (h : ℕ) (past : Past) (c : Core) (mem : Memory) (slots : List Slot) → SlotsHeld h past slots → Knows m h past c mem
    → list_any (λ b. b) (fires (touch_of c mem) slots) ≡ true → StopsAtMatch m h (fires (touch_of c mem) slots) past
right_stop m h past c mem slots are knows some = record {
  each = λ k. fires-held m h past c mem slots are k ∙ ap (λ b. not (story h k past).spent && b) (sym (knows k))
      ∙ and_comm (not (story h k past).spent) (matching m h k past);
  some = some;
}

spent_there : (spent match : Bool) → (not spent && match) ≡ false → match ≡ true → spent ≡ true
spent_there true match none is = refl
spent_there false match none is = absurd (false≢true (sym none ∙ is))

calm_there : (m : Machine) (h : ℕ) (past : Past) (c : Core) (mem : Memory) (slots : List Slot) → SlotsHeld h past slots
    → list_any (λ b. b) (fires (touch_of c mem) slots) ≡ false → (k : ℕ)
    → (not (story h k past).spent && armed_matches (story h k past).armed c mem (story h k past).execs (story h k past).stopped) ≡ false
calm_there m h past c mem slots are none k = sym (fires-held m h past c mem slots are k) ∙ none_has (fires (touch_of c mem) slots) k none

right_exec : (m : Machine) (h : ℕ) (past : Past) (c : Core) (mem : Memory) (slots : List Slot) → SlotsHeld h past slots → Knows m h past c mem
    → list_any (λ b. b) (fires (touch_of c mem) slots) ≡ false → NothingRunPast m h past
right_exec m h past c mem slots are knows none k is =
    spent_there (story h k past).spent (matching m h k past)
    (ap (λ b. not (story h k past).spent && b) (knows k) ∙ calm_there m h past c mem slots are none k) is

-- ---- slots behind a note of their hart

off_is_spent : (spent : Bool) → not spent ≡ false → spent ≡ true
off_is_spent true is = refl
off_is_spent false is = absurd (false≢true (sym is))

stop-slot : (c : Core) (mem : Memory) (slots : List Slot) (k : ℕ) (on : Bool) (v : Story) → IsSlot (slice_get slots k) on v.spent v
    → IsSlotFor (slice_get (marked (touch_of c mem) slots) k) v.armed on (has (fires (touch_of c mem) slots) k || v.spent) v.execs
    (has (fires (touch_of c mem) slots) k || v.stopped)
stop-slot c mem slots k on v is =
    subst (λ o. IsSlotFor o v.armed on (has (fires (touch_of c mem) slots) k || v.spent) v.execs (has (fires (touch_of c mem) slots) k || v.stopped))
    (sym (slice_get-map (slot_marked (touch_of c mem)) slots k))
    (subst (λ f. IsSlotFor (option_map (slot_marked (touch_of c mem)) (slice_get slots k)) v.armed on (f || v.spent) v.execs (f || v.stopped))
    (sym (has-fires (touch_of c mem) slots k)) (slot-marked c mem (slice_get slots k) v.armed on v.spent v.execs v.stopped is))

exec-slot : (c : Core) (mem : Memory) (slots : List Slot) (k : ℕ) (v : Story) → IsSlot (slice_get slots k) (not v.spent) v.spent v
    → (not v.spent && armed_matches v.armed c mem v.execs v.stopped) ≡ false
    → IsSlotFor (slice_get (counted_down slots) k) v.armed (not v.spent) v.spent (v.execs + 1) v.stopped
exec-slot c mem slots k v is calm =
    subst (λ o. IsSlotFor o v.armed (not v.spent) v.spent (v.execs + 1) v.stopped) (sym (slice_get-map slot_counted slots k))
    (slot-counted c mem (slice_get slots k) v.armed (not v.spent) v.spent v.execs v.stopped is calm (off_is_spent v.spent))

-- a slot that is not spent is on
abbrev on_slot : Option Slot → Story → Type 0
on_slot o v = IsSlot o true v.spent v

on_again : (o : Option Slot) (v : Story) → v.spent ≡ false → IsSlot o (not v.spent) v.spent v → IsSlot o true v.spent v
on_again o v unspent is = subst (λ b. IsSlot o b v.spent v) (ap not unspent) is

-- ---- a hart that goes on until it stops

-- by: a halt request, some slot fires, an ebreak that halts
run_on : (request fired at_ebreak : Bool) (m : Machine) (h : ℕ) (past : Past) (hart : Hart) (mem : Memory) (o : Outcome)
    → hart.debug.halted ≡ None → hart.debug.resume_request ≡ false → hart.debug.step ≡ false
    → SlotsHeld h past hart.debug.slots → NothingSpent h past → Knows m h past hart.core mem → some_fires (touch_of hart.core mem) hart ≡ fired
    → Turned Idle m h past (noted_by None request fired at_ebreak false h (fires (touch_of hart.core mem) hart.debug.slots) past)
    (place_by None false request fired at_ebreak (touch_of hart.core mem) o hart).hart.debug
run_on true fired at_ebreak m h past hart mem o running not_asked no_step are unspent knows fires_is = record {
  fits = inl (record {
    why = cause.HaltReq;
    is_halted = refl;
    not_asked = not_asked;
    no_step = no_step;
    slots_are = λ k. subst (on_slot (slice_get hart.debug.slots k)) (sym (story-here h k (Stop h cause.HaltReq no_slots) past (same_number h)))
        (on_again (slice_get hart.debug.slots k) (story h k past) (unspent k) (are k));
    whole = λ w. absurd (false≢true w);
  });
  right = λ r. (tt, r);
}
run_on false true at_ebreak m h past hart mem o running not_asked no_step are unspent knows fires_is = record {
  fits = inl (record {
    why = cause.Trigger;
    is_halted = refl;
    not_asked = not_asked;
    no_step = no_step;
    slots_are = λ k. subst (on_slot (slice_get (marked (touch_of hart.core mem) hart.debug.slots) k))
        (sym (story-here h k (Stop h cause.Trigger (fires (touch_of hart.core mem) hart.debug.slots)) past (same_number h)))
        (stop-slot hart.core mem hart.debug.slots k true (story h k past) (on_again (slice_get hart.debug.slots k) (story h k past) (unspent k) (are k)));
    whole = λ w. absurd (false≢true w);
  });
  right = λ r. (right_stop m h past hart.core mem hart.debug.slots are knows fires_is, r);
}
run_on false false true m h past hart mem o running not_asked no_step are unspent knows fires_is = record {
  fits = inl (record {
    why = cause.Ebreak;
    is_halted = refl;
    not_asked = not_asked;
    no_step = no_step;
    slots_are = λ k. subst (on_slot (slice_get hart.debug.slots k)) (sym (story-here h k (Stop h cause.Ebreak no_slots) past (same_number h)))
        (on_again (slice_get hart.debug.slots k) (story h k past) (unspent k) (are k));
    whole = λ w. absurd (false≢true w);
  });
  right = λ r. (tt, r);
}
run_on false false false m h past hart mem o running not_asked no_step are unspent knows fires_is = record {
  fits = subst (Fits Idle h (Did (Exec h) ∷ past)) (sym (ap (λ b. if b then halted_for cause.Step (record hart.debug { slots = counted_down hart.debug.slots })
      else record hart.debug { slots = counted_down hart.debug.slots }) no_step))
      (inr (record {
        is_running = running;
        moves = record {
          starts = runs running not_asked;
          step_is = no_step;
          slots_are = λ k. subst (λ (v : Story). IsSlot (slice_get (counted_down hart.debug.slots) k) (not v.spent) v.spent v)
              (sym (story-here h k (Did (Exec h)) past (same_number h)))
              (subst (λ b. IsSlotFor (slice_get (counted_down hart.debug.slots) k) (story h k past).armed (not b) b ((story h k past).execs + 1)
              (story h k past).stopped) (unspent k)
              (exec-slot hart.core mem hart.debug.slots k (story h k past) (are k) (calm_there m h past hart.core mem hart.debug.slots are fires_is k)));
          unspent = λ w k. ap (λ (v : Story). v.spent) (story-here h k (Did (Exec h)) past (same_number h));
        };
      }));
  right = λ r. (right_exec m h past hart.core mem hart.debug.slots are knows fires_is, r);
}

-- ---- a hart that does one step

stepped_slot : (o : Option Slot) (v : Story) → IsSlot o (not v.spent) v.spent v → IsSteppedSlot o false v
stepped_slot o v is = record { m = not v.spent; hit = v.spent; is = is; off = off_is_spent v.spent; spent_is = refl }

run_once : (request fired at_ebreak : Bool) (m : Machine) (h : ℕ) (past : Past) (hart : Hart) (mem : Memory) (o : Outcome)
    → hart.debug.halted ≡ None → hart.debug.resume_request ≡ false → hart.debug.step ≡ true
    → SlotsHeld h past hart.debug.slots → Knows m h past hart.core mem → some_fires (touch_of hart.core mem) hart ≡ fired
    → Turned Asked m h past (noted_by None request fired at_ebreak true h (fires (touch_of hart.core mem) hart.debug.slots) past)
    (place_by None false request fired at_ebreak (touch_of hart.core mem) o hart).hart.debug
run_once true fired at_ebreak m h past hart mem o running not_asked step_is are knows fires_is = record {
  fits = inl (record {
    why = cause.HaltReq;
    is_halted = refl;
    not_asked = not_asked;
    slots_are = λ k. subst (IsSteppedSlot (slice_get hart.debug.slots k) false) (sym (story-here h k (Stop h cause.HaltReq no_slots) past (same_number h)))
        (stepped_slot (slice_get hart.debug.slots k) (story h k past) (are k));
  });
  right = λ r. (tt, r);
}
run_once false true at_ebreak m h past hart mem o running not_asked step_is are knows fires_is = record {
  fits = inl (record {
    why = cause.Trigger;
    is_halted = refl;
    not_asked = not_asked;
    slots_are = λ k. subst (IsSteppedSlot (slice_get (marked (touch_of hart.core mem) hart.debug.slots) k) false)
        (sym (story-here h k (Stop h cause.Trigger (fires (touch_of hart.core mem) hart.debug.slots)) past (same_number h)))
        (record {
          m = not (story h k past).spent;
          hit = has (fires (touch_of hart.core mem) hart.debug.slots) k || (story h k past).spent;
          is = stop-slot hart.core mem hart.debug.slots k (not (story h k past).spent) (story h k past) (are k);
          off = λ w. or_right (has (fires (touch_of hart.core mem) hart.debug.slots) k) (story h k past).spent (off_is_spent (story h k past).spent w);
          spent_is = refl;
        });
  });
  right = λ r. (right_stop m h past hart.core mem hart.debug.slots are knows fires_is, r);
}
run_once false false true m h past hart mem o running not_asked step_is are knows fires_is = record {
  fits = inl (record {
    why = cause.Ebreak;
    is_halted = refl;
    not_asked = not_asked;
    slots_are = λ k. subst (IsSteppedSlot (slice_get hart.debug.slots k) false) (sym (story-here h k (Stop h cause.Ebreak no_slots) past (same_number h)))
        (stepped_slot (slice_get hart.debug.slots k) (story h k past) (are k));
  });
  right = λ r. (tt, r);
}
run_once false false false m h past hart mem o running not_asked step_is are knows fires_is = record {
  fits = subst (Fits Asked h (Stop h cause.Step no_slots ∷ Did (Exec h) ∷ past))
      (sym (ap (λ b. if b then halted_for cause.Step (record hart.debug { slots = counted_down hart.debug.slots }) else record hart.debug
      { slots = counted_down hart.debug.slots }) step_is))
      (inl (record {
        why = cause.Step;
        is_halted = refl;
        not_asked = not_asked;
        slots_are = λ k. subst (IsSteppedSlot (slice_get (counted_down hart.debug.slots) k) true)
            (sym (story-here h k (Stop h cause.Step no_slots) (Did (Exec h) ∷ past) (same_number h)
            ∙ ap (told k (Stop h cause.Step no_slots)) (story-here h k (Did (Exec h)) past (same_number h))))
            (record {
              m = not (story h k past).spent;
              hit = (story h k past).spent;
              is = exec-slot hart.core mem hart.debug.slots k (story h k past) (are k) (calm_there m h past hart.core mem hart.debug.slots are fires_is k);
              off = off_is_spent (story h k past).spent;
              spent_is = refl;
            });
      }));
  right = λ r. (tt, (right_exec m h past hart.core mem hart.debug.slots are knows fires_is, r));
}

-- ---- a hart that is halted

frozen_by : (halted : Option Cause) (asked request fired at_ebreak : Bool) (t : Touch) (o : Outcome) (hart : Hart) (why : Cause)
    → halted ≡ Some why → asked ≡ false
    → (place_by halted asked request fired at_ebreak t o hart).hart ≡ hart
frozen_by (Some w) false request fired at_ebreak t o hart why is_halted not_asked = refl
frozen_by (Some w) true request fired at_ebreak t o hart why is_halted not_asked = absurd (false≢true (sym not_asked))
frozen_by None asked request fired at_ebreak t o hart why is_halted not_asked = absurd (none-some why is_halted)

-- a halted hart that nobody asks to resume stays as it is
pub frozen_place : (hart : Hart) (mem : Memory) (why : Cause) → hart.debug.halted ≡ Some why → hart.debug.resume_request ≡ false
    → (place_of hart mem).hart ≡ hart
unfolding place_of
frozen_place hart mem why is_halted not_asked =
    frozen_by hart.debug.halted hart.debug.resume_request hart.debug.halt_request (some_fires (touch_of hart.core mem) hart) (stops_at_ebreak hart mem)
    (touch_of hart.core mem) (turn_outcome hart mem) hart why is_halted not_asked

halted_notes : (halted : Option Cause) (request fired at_ebreak step : Bool) (h : ℕ) (slots : List Bool) (past : Past) (why : Cause) → halted ≡ Some why
    → noted_by halted request fired at_ebreak step h slots past ≡ past
halted_notes (Some w) request fired at_ebreak step h slots past why is = refl
halted_notes None request fired at_ebreak step h slots past why is = absurd (none-some why is)

pub halted_turn : (h : ℕ) (hart : Hart) (mem : Memory) (past : Past) (why : Cause) → hart.debug.halted ≡ Some why → noted_turn h hart mem past ≡ past
halted_turn h hart mem past why is =
    halted_notes hart.debug.halted hart.debug.halt_request (some_fires (touch_of hart.core mem) hart) (stops_at_ebreak hart mem) hart.debug.step
    h (fires (touch_of hart.core mem) hart.debug.slots) past why is

abbrev pub TurnedTo : Way → Machine → ℕ → Past → Hart → Memory → Type 0
TurnedTo way m h past hart mem = Turned way m h past (noted_turn h hart mem past) (place_of hart mem).hart.debug

stays : (way : Way) (m : Machine) (h : ℕ) (past : Past) (hart : Hart) (mem : Memory) (why : Cause) → hart.debug.halted ≡ Some why
    → hart.debug.resume_request ≡ false
    → Fits way h past hart.debug → TurnedTo way m h past hart mem
stays way m h past hart mem why is_halted not_asked fits = record {
  fits = subst (λ new. Fits way h new (place_of hart mem).hart.debug) (sym (halted_turn h hart mem past why is_halted))
      (subst (λ (x : Hart). Fits way h past x.debug) (sym (frozen_place hart mem why is_halted not_asked)) fits);
  right = subst (λ new. FirstMatch m past → FirstMatch m new) (sym (halted_turn h hart mem past why is_halted)) (λ r. r);
}

-- and one that is asked to runs
resumed_by : (halted : Option Cause) (asked request fired at_ebreak : Bool) (t : Touch) (o : Outcome) (hart : Hart) (why : Cause)
    → halted ≡ Some why → asked ≡ true
    → (place_by halted asked request fired at_ebreak t o hart).hart ≡ record hart { debug = resumed hart.debug }
resumed_by (Some w) true request fired at_ebreak t o hart why is_halted is_asked = refl
resumed_by (Some w) false request fired at_ebreak t o hart why is_halted is_asked = absurd (false≢true is_asked)
resumed_by None asked request fired at_ebreak t o hart why is_halted is_asked = absurd (none-some why is_halted)

resumed_place : (hart : Hart) (mem : Memory) (why : Cause) → hart.debug.halted ≡ Some why → hart.debug.resume_request ≡ true
    → (place_of hart mem).hart ≡ record hart { debug = resumed hart.debug }
unfolding place_of
resumed_place hart mem why is_halted is_asked =
    resumed_by hart.debug.halted hart.debug.resume_request hart.debug.halt_request (some_fires (touch_of hart.core mem) hart) (stops_at_ebreak hart mem)
    (touch_of hart.core mem) (turn_outcome hart mem) hart why is_halted is_asked

goes : (way : Way) (m : Machine) (h : ℕ) (past : Past) (hart : Hart) (mem : Memory) (why : Cause) → hart.debug.halted ≡ Some why
    → hart.debug.resume_request ≡ true
    → Fits way h past (resumed hart.debug) → TurnedTo way m h past hart mem
goes way m h past hart mem why is_halted is_asked fits = record {
  fits = subst (λ new. Fits way h new (place_of hart mem).hart.debug) (sym (halted_turn h hart mem past why is_halted))
      (subst (λ (x : Hart). Fits way h past x.debug) (sym (resumed_place hart mem why is_halted is_asked)) fits);
  right = subst (λ new. FirstMatch m past → FirstMatch m new) (sym (halted_turn h hart mem past why is_halted)) (λ r. r);
}

-- ---- any way

at_fields : (P : Option Cause → Bool → Bool → Type 0) (x x' : Option Cause) (y y' z z' : Bool) → x ≡ x' → y ≡ y' → z ≡ z' → P x' y' z' → P x y z
at_fields P x x' y y' z z' ex ey ez is =
    subst (λ a. P a y z) (sym ex) (subst (λ b. P x' b z) (sym ey) (subst (λ c. P x' y' c) (sym ez) is))

abbrev turned_with : Way → Machine → ℕ → Past → Hart → Memory → Option Cause → Bool → Bool → Type 0
turned_with way m h past hart mem halted asked step =
    Turned way m h past (noted_by halted hart.debug.halt_request (some_fires (touch_of hart.core mem) hart) (stops_at_ebreak hart mem) step h
    (fires (touch_of hart.core mem) hart.debug.slots) past)
    (place_by halted asked hart.debug.halt_request (some_fires (touch_of hart.core mem) hart) (stops_at_ebreak hart mem) (touch_of hart.core mem)
    (turn_outcome hart mem) hart).hart.debug

turn_on : (m : Machine) (h : ℕ) (past : Past) (hart : Hart) (mem : Memory) → hart.debug.halted ≡ None → hart.debug.resume_request ≡ false
    → Moves false h past hart.debug.halted hart.debug.resume_request hart.debug.resume_ack hart.debug.step hart.debug.slots → Knows m h past hart.core mem
    → TurnedTo Idle m h past hart mem
unfolding place_of
turn_on m h past hart mem running not_asked moves knows =
    at_fields (turned_with Idle m h past hart mem) hart.debug.halted None hart.debug.resume_request false hart.debug.step false running not_asked moves.step_is
    (run_on hart.debug.halt_request (some_fires (touch_of hart.core mem) hart) (stops_at_ebreak hart mem) m h past hart mem (turn_outcome hart mem)
    running not_asked moves.step_is moves.slots_are (moves.unspent refl) knows refl)

turn_once : (m : Machine) (h : ℕ) (past : Past) (hart : Hart) (mem : Memory) → hart.debug.halted ≡ None → hart.debug.resume_request ≡ false
    → Moves true h past hart.debug.halted hart.debug.resume_request hart.debug.resume_ack hart.debug.step hart.debug.slots → Knows m h past hart.core mem
    → TurnedTo Asked m h past hart mem
unfolding place_of
turn_once m h past hart mem running not_asked moves knows =
    at_fields (turned_with Asked m h past hart mem) hart.debug.halted None hart.debug.resume_request false hart.debug.step true running not_asked moves.step_is
    (run_once hart.debug.halt_request (some_fires (touch_of hart.core mem) hart) (stops_at_ebreak hart mem) m h past hart mem (turn_outcome hart mem)
    running not_asked moves.step_is moves.slots_are knows refl)

-- the moves of a hart that has begun to run
begun : (once : Bool) (h : ℕ) (past : Past) (d : DebugPart) → Moves once h past d.halted d.resume_request d.resume_ack d.step d.slots
    → Moves once h past None false true d.step d.slots
begun once h past d moves = record { starts = runs refl refl; step_is = moves.step_is; slots_are = moves.slots_are; unspent = moves.unspent }

idle_goes : (m : Machine) (h : ℕ) (past : Past) (hart : Hart) (mem : Memory) → TurnedTo Idle m h past hart mem → TurnedTo Going m h past hart mem
idle_goes m h past hart mem t = record { fits = weaker t.fits; right = t.right }
  where
    weaker : Fits Idle h (noted_turn h hart mem past) (place_of hart mem).hart.debug → Fits Going h (noted_turn h hart mem past) (place_of hart mem).hart.debug
    weaker (inl r) = inl r
    weaker (inr r) = inr r.moves

going_turn : (m : Machine) (h : ℕ) (past : Past) (hart : Hart) (mem : Memory) → Starts hart.debug.halted hart.debug.resume_request hart.debug.resume_ack
    → Moves false h past hart.debug.halted hart.debug.resume_request hart.debug.resume_ack hart.debug.step hart.debug.slots → Knows m h past hart.core mem
    → TurnedTo Going m h past hart mem
going_turn m h past hart mem (runs running not_asked) moves knows = idle_goes m h past hart mem (turn_on m h past hart mem running not_asked moves knows)
going_turn m h past hart mem (waits why is_halted is_asked no_ack) moves knows =
    goes Going m h past hart mem why is_halted is_asked (inr (begun false h past hart.debug moves))

asked_turn : (m : Machine) (h : ℕ) (past : Past) (hart : Hart) (mem : Memory) → Starts hart.debug.halted hart.debug.resume_request hart.debug.resume_ack
    → Moves true h past hart.debug.halted hart.debug.resume_request hart.debug.resume_ack hart.debug.step hart.debug.slots → Knows m h past hart.core mem
    → TurnedTo Asked m h past hart mem
asked_turn m h past hart mem (runs running not_asked) moves knows = turn_once m h past hart mem running not_asked moves knows
asked_turn m h past hart mem (waits why is_halted is_asked no_ack) moves knows =
    goes Asked m h past hart mem why is_halted is_asked (inr (begun true h past hart.debug moves))

running_not_asked : (halted : Option Cause) (asked ack : Bool) → halted ≡ None → Starts halted asked ack → asked ≡ false
running_not_asked halted asked ack running (runs _ not_asked) = not_asked
running_not_asked halted asked ack running (waits why is_halted _ _) = absurd (none-some why (sym running ∙ is_halted))

pub turn-fits : (way : Way) (m : Machine) (h : ℕ) (past : Past) (hart : Hart) (mem : Memory) → Knows m h past hart.core mem → Fits way h past hart.debug
    → TurnedTo way m h past hart mem
turn-fits Idle m h past hart mem knows (inl r) = stays Idle m h past hart mem r.why r.is_halted r.not_asked (inl r)
turn-fits Idle m h past hart mem knows (inr r) =
    turn_on m h past hart mem r.is_running (running_not_asked hart.debug.halted hart.debug.resume_request hart.debug.resume_ack r.is_running
    r.moves.starts) r.moves knows
turn-fits Still m h past hart mem knows r = stays Still m h past hart mem r.why r.is_halted r.not_asked r
turn-fits Ready m h past hart mem knows r = stays Ready m h past hart mem r.rests.why r.rests.is_halted r.rests.not_asked r
turn-fits Going m h past hart mem knows (inl r) = stays Going m h past hart mem r.why r.is_halted r.not_asked (inl r)
turn-fits Going m h past hart mem knows (inr r) = going_turn m h past hart mem r.starts r knows
turn-fits Holding m h past hart mem knows r = stays Holding m h past hart mem r.why r.is_halted r.not_asked r
turn-fits Asked m h past hart mem knows (inl r) = stays Asked m h past hart mem r.why r.is_halted r.not_asked (inl r)
turn-fits Asked m h past hart mem knows (inr r) = asked_turn m h past hart mem r.starts r knows
turn-fits Over m h past hart mem knows r = stays Over m h past hart mem r.why r.is_halted r.not_asked r
