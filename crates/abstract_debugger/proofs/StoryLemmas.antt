-- Stories behind a note: of the note's own hart, and of another.
use Rattle.std.proofs.Common.{◌≡◌, ◌∙◌, ℕ, Bool, true, false, List, ◌∷◌, Option, Some, None, refl, sym, ap, subst, if◌then◌else◌, inl, inr}
use Rattle.std.proofs.lemmas.Bool.{eq-eqb, ne_eqb}
use Rattle.rv_model.specs.declared.cause.Cause.{Cause}
use Rattle.rv_model.specs.declared.cause.Cause.TheVariants as cause
use Rattle.rv_model.specs.declared.slot.Slot.{Slot}
use Rattle.rv_model.specs.Board.{DebugPart}
use Rattle.rv_model.specs.Undebugged.{Exec}
use Rattle.abstract_debugger.specs.FirstMatch.{Story, concerns, story, told}
use Rattle.abstract_debugger.specs.Trace.{Note, Past, no_slots, noted_by}
use Rattle.abstract_debugger.specs.Trace.Note.{Did, Stop}
use Rattle.abstract_debugger.specs.Ways.{Fits, IsSlot, IsSteppedSlot, Moves, NothingSpent, Rests, SlotsHeld, SlotsOn, Stepped, Way}
use Rattle.abstract_debugger.specs.Ways.Way.{Idle, Still, Ready, Going, Holding, Asked, Over}
use Rattle.std.specs.Prelude.{◌==◌, not, slice_get}
use Rattle.abstract_debugger.specs.Plan.{is_step}

pub same_number : (h : ℕ) → (h == h) ≡ true
same_number h = eq-eqb h h refl

pub story-here : (h k : ℕ) (n : Note) (past : Past) → concerns h n ≡ true → story h k (n ∷ past) ≡ told k n (story h k past)
story-here h k n past is = ap (λ b. if b then told k n (story h k past) else story h k past) is

pub story-there : (h k : ℕ) (n : Note) (past : Past) → concerns h n ≡ false → story h k (n ∷ past) ≡ story h k past
story-there h k n past is = ap (λ b. if b then told k n (story h k past) else story h k past) is

-- a turn of hart g tells nothing of another hart's slots
pub turn-elsewhere : (halted : Option Cause) (request fired at_ebreak step : Bool) (g : ℕ) (slots : List Bool) (past : Past) (h k : ℕ) → (h ≡ g → ⊥)
    → story h k (noted_by halted request fired at_ebreak step g slots past) ≡ story h k past
turn-elsewhere (Some why) request fired at_ebreak step g slots past h k other = refl
turn-elsewhere None true fired at_ebreak step g slots past h k other = story-there h k (Stop g cause.HaltReq no_slots) past (ne_eqb h g other)
turn-elsewhere None false true at_ebreak step g slots past h k other = story-there h k (Stop g cause.Trigger slots) past (ne_eqb h g other)
turn-elsewhere None false false true step g slots past h k other = story-there h k (Stop g cause.Ebreak no_slots) past (ne_eqb h g other)
turn-elsewhere None false false false true g slots past h k other =
    story-there h k (Stop g cause.Step no_slots) (Did (Exec g) ∷ past) (ne_eqb h g other) ∙ story-there h k (Did (Exec g)) past (ne_eqb h g other)
turn-elsewhere None false false false false g slots past h k other = story-there h k (Did (Exec g)) past (ne_eqb h g other)

-- ---- pasts that tell the same of a hart's slots

abbrev pub Alike : ℕ → (past new : Past) → Type 0
Alike h past new = (k : ℕ) → story h k new ≡ story h k past

on-alike : (h : ℕ) (past new : Past) (slots : List Slot) → Alike h past new → SlotsOn h past slots → SlotsOn h new slots
on-alike h past new slots e is k = subst (λ (v : Story). IsSlot (slice_get slots k) true v.spent v) (sym (e k)) (is k)

held-alike : (h : ℕ) (past new : Past) (slots : List Slot) → Alike h past new → SlotsHeld h past slots → SlotsHeld h new slots
held-alike h past new slots e is k = subst (λ (v : Story). IsSlot (slice_get slots k) (not v.spent) v.spent v) (sym (e k)) (is k)

none-alike : (h : ℕ) (past new : Past) → Alike h past new → NothingSpent h past → NothingSpent h new
none-alike h past new e is k = ap (λ (v : Story). v.spent) (e k) ∙ is k

rests-alike : (h : ℕ) (past new : Past) (halted : Option Cause) (asked step : Bool) (slots : List Slot) → Alike h past new
    → Rests h past halted asked step slots → Rests h new halted asked step slots
rests-alike h past new halted asked step slots e r = record {
  why = r.why;
  is_halted = r.is_halted;
  not_asked = r.not_asked;
  no_step = r.no_step;
  slots_are = on-alike h past new slots e r.slots_are;
  whole = λ w. none-alike h past new e (r.whole w);
}

moves-alike : (once : Bool) (h : ℕ) (past new : Past) (halted : Option Cause) (asked ack step : Bool) (slots : List Slot) → Alike h past new
    → Moves once h past halted asked ack step slots → Moves once h new halted asked ack step slots
moves-alike once h past new halted asked ack step slots e r = record {
  starts = r.starts;
  step_is = r.step_is;
  slots_are = held-alike h past new slots e r.slots_are;
  unspent = λ w. none-alike h past new e (r.unspent w);
}

stepped-alike : (h : ℕ) (past new : Past) (halted : Option Cause) (asked : Bool) (slots : List Slot) → Alike h past new
    → Stepped h past halted asked slots → Stepped h new halted asked slots
stepped-alike h past new halted asked slots e r = record {
  why = r.why;
  is_halted = r.is_halted;
  not_asked = r.not_asked;
  slots_are = λ k. subst (λ (v : Story). IsSteppedSlot (slice_get slots k) (is_step halted) v) (sym (e k)) (r.slots_are k);
}

pub fits-alike : (way : Way) (h : ℕ) (past new : Past) (d : DebugPart) → Alike h past new → Fits way h past d → Fits way h new d
fits-alike Idle h past new d e (inl r) = inl (rests-alike h past new _ _ _ _ e r)
fits-alike Idle h past new d e (inr r) = inr (record { is_running = r.is_running; moves = moves-alike false h past new _ _ _ _ _ e r.moves })
fits-alike Still h past new d e r = rests-alike h past new _ _ _ _ e r
fits-alike Ready h past new d e r = record { rests = rests-alike h past new _ _ _ _ e r.rests; none = none-alike h past new e r.none }
fits-alike Going h past new d e (inl r) = inl (rests-alike h past new _ _ _ _ e r)
fits-alike Going h past new d e (inr r) = inr (moves-alike false h past new _ _ _ _ _ e r)
fits-alike Holding h past new d e r = record {
  why = r.why;
  is_halted = r.is_halted;
  not_asked = r.not_asked;
  step_is = r.step_is;
  slots_are = held-alike h past new d.slots e r.slots_are;
}
fits-alike Asked h past new d e (inl r) = inl (stepped-alike h past new _ _ _ e r)
fits-alike Asked h past new d e (inr r) = inr (moves-alike true h past new _ _ _ _ _ e r)
fits-alike Over h past new d e r = stepped-alike h past new _ _ _ e r
