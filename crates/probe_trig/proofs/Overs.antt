-- Parts of stepping over and of letting go, put together at the harts of a told chip.
use Rattle.std.proofs.Common.{◌≡◌, ◌∙◌, ◌||◌, ℕ, zero, suc, Bool, true, false, List, [], ◌∷◌, map, Option, Some, None, slice_get, refl, sym, ap, subst}
use Rattle.std.proofs.lemmas.Bool.{false≢true}
use Rattle.std.proofs.lemmas.Option.{none-some}
use Rattle.rv_model.specs.declared.slot.Slot.{Slot}
use Rattle.rv_model.specs.declared.slot.Trigger.{Trigger}
use Rattle.rv_model.specs.Board.{Board, Hart}
use Rattle.debug_model.specs.Dmi.{DmiComing}
use Rattle.debug_model.specs.Module.{DebugModule}
use Rattle.debug_model.specs.Scan.{WhereTold}
use Rattle.debug_model.specs.Told.{Far, IsHalted, IsReady, site_of}
use Rattle.debug_model.specs.declared.point.Point.TheVariants.{ResumeReq}
use Rattle.abstract_debugger.specs.Debugger.{Seen as Sight, sees_ack}
use Rattle.abstract_debugger.specs.Laws.{IsFrozenAt}
use Rattle.abstract_debugger.specs.Plan.{step_begun, with_debug_part}
use Rattle.abstract_debugger.specs.Slots.{any_hit, over, slots_at, trigger_has_hit, with_trigger}
use Rattle.abstract_debugger.specs.Stands.{Rewrote, Target, WentOn}
use Rattle.abstract_debugger.specs.Turns.{after_turns}
use Rattle.abstract_debugger.proofs.FrozenLemmas.{stays_same}
use Rattle.abstract_debugger.proofs.StandsLemmas.{rewrote_then}
use Rattle.probe_access.specs.SingleSteps.{StepMissed, StepMissedAt, StepsOnce, SteppedAt, with_step}
use Rattle.probe_run.specs.Acts.{Tells, tells}
use Rattle.probe_run.specs.Happens.{Leaves, MissedAt, ResumesAt, target_of}
use Rattle.probe_trig.specs.declared.change.Change.TheVariants.{Hold}
use Rattle.probe_trig.specs.Going.{FreeAt, GoMissed, IsThroughAt, StoppedAt}
use Rattle.probe_trig.specs.Going.IsThroughAt.{none as through_without, over as through_step}
use Rattle.probe_trig.specs.Runs.{Changes}
use Rattle.probe_trig.specs.Single.{ChangedAll}
use Rattle.probe_trig.specs.Slots.{AtHarts}
use Rattle.probe_trig.specs.Stepping.{BackAt, Ends, OverAt, OverMissed, SteppedBack, executed_at}
use Rattle.probe_trig.specs.Transfers.{Did}
use Rattle.probe_trig.specs.SlotRegisters.{trigger_changed}
use Rattle.probe_trig.proofs.Calls.{ChangedAt, changes_all, makes_changes, slots_there}
use Rattle.probe_trig.proofs.Ends.{Cleared, EndedAt, cleared, makes_end}
use Rattle.probe_trig.proofs.Parts.{unchanged}
use Rattle.probe_trig.proofs.Told.{Makes, did_at, frozen_at}

-- ---- one behind the other

pub at_then : (R S T : Target → Target → Type 0) (x y z : Option Far) → ((a b c : Target) → R a b → S b c → T a c) → WhereTold (AtHarts R) x y
    → WhereTold (AtHarts S) y z → WhereTold (AtHarts T) x z
at_then R S T None y z f r s = subst (λ o. WhereTold (AtHarts S) o z) r s
at_then R S T (Some x) y z f r s =
    let t : AtHarts S r.far.live.chip z = subst (λ o. WhereTold (AtHarts S) o z) r.is s in
    record {
      far = t.far;
      is = t.is;
      happened = f (target_of (site_of x)) (target_of (site_of r.far)) (target_of (site_of t.far)) r.happened t.happened;
      bus = t.bus ∙ r.bus;
    }

pub at_as : (R S : Target → Target → Type 0) (x y : Option Far) → ((a b : Target) → R a b → S a b) → WhereTold (AtHarts R) x y → WhereTold (AtHarts S) x y
at_as R S None y f r = r
at_as R S (Some x) y f r = record { far = r.far; is = r.is; happened = f (target_of (site_of x)) (target_of (site_of r.far)) r.happened; bus = r.bus }

-- what is told goes on being told
pub at_back : (R : Target → Target → Type 0) (x y : Option Far) → WhereTold (AtHarts R) x y → y ≡ None → x ≡ None
at_back R None y r end = refl
at_back R (Some f) y r end = absurd (none-some r.far (sym end ∙ r.is))

pub steps_at : (h : ℕ) (x y : Option Far) → WhereTold (SteppedAt h) x y → WhereTold (AtHarts (StepsOnce h)) x y
steps_at h None y s = s
steps_at h (Some f) y s = record { far = s.far; is = s.is; happened = s.happened; bus = s.bus }

pub missed_at : (h : ℕ) (last : Sight) (x y : Option Far) → WhereTold (StepMissedAt h last) x y → WhereTold (AtHarts (StepMissed h last)) x y
missed_at h last None y s = s
missed_at h last (Some f) y s = record { far = s.far; is = s.is; happened = s.happened; bus = s.bus }

-- run control leaves the bus alone
pub leaves_at : (R : Target → Target → Type 0) (h : ℕ) (x y : Option Far) → WhereTold (Leaves R h) x y → WhereTold (AtHarts R) x y
leaves_at R h None y s = s
leaves_at R h (Some f) y s = record { far = s.far; is = s.is; happened = s.happened; bus = ap (λ (m : DebugModule). m.bus) s.unit }

-- ---- the slots are held

pub record HeldAt (some : Bool) (h : ℕ) (old new : Target) : Type 0 where
  pub frozen : IsFrozenAt h old.board
  pub changed : ChangedAt Hold some h old new

makes_held : (some : Bool) (h : ℕ) (old new : Tells) (c : ChangedAll Hold some h old new) → Makes (Changes Hold c.a c.b c.c c.d) h (HeldAt some h)
makes_held some h old new c x ts s t is whole frozen r sh w =
    record { frozen = frozen_at h x s.board is frozen; changed = makes_changes Hold some c.a c.b c.c c.d h c.some_is x ts s t is whole frozen r sh w }

pub held_at : (some : Bool) (h : ℕ) (far : Option Far) (coming : Option DmiComing) (new : Tells) → IsReady far → IsHalted h far
    → ChangedAll Hold some h (tells far coming) new → WhereTold (AtHarts (HeldAt some h)) far new.far
held_at some h far coming new ready halted c = did_at (Changes Hold c.a c.b c.c c.d) (HeldAt some h) h far coming new ready halted
    (makes_held some h (tells far coming) new c) c.did

-- held, and the flag set
pub begun_by : (some : Bool) (h : ℕ) (old mid new : Target) → HeldAt some h old mid → Rewrote (with_step true) h mid new
    → Rewrote (with_debug_part step_begun) h old new
begun_by some h old mid new held sets =
    rewrote_then (changes_all Hold) (with_step true) h old mid new held.frozen
    (λ x f. record { why = f.why; halted = f.halted; not_asked = f.not_asked }) held.changed.wrote sets

-- ---- a step, and its end

pub back_at : (executed : Bool) (h : ℕ) (x y : Option Far) (coming : Option DmiComing) (new : Tells) → WhereTold (SteppedAt h) x y → IsReady y → IsHalted h y
    → Did (Ends executed) h (tells y coming) new → WhereTold (AtHarts (BackAt executed h)) x new.far
back_at executed h x y coming new steps ready halted ends =
    at_then (StepsOnce h) (EndedAt executed h) (BackAt executed h) x y new.far
    (λ a b c s e. let k : Cleared executed h s.ran c = cleared executed h s.ran b c s.clears e in
    record { begun = s.begun; ran = s.ran; sets = s.sets; steps = s.runs; ends = k.ends; executed_is = k.executed_is })
    (steps_at h x y steps) (did_at (Ends executed) (EndedAt executed h) h y coming new ready halted (makes_end executed h) ends)

-- ---- stepping over

pub record OverAs (some executed : Bool) (h : ℕ) (old new : Target) : Type 0 where
  pub some_is : some ≡ any_hit (slots_at h old.board)
  pub over : OverAt h old new
  pub executed_is : executed ≡ executed_at h new

over_by : (some executed : Bool) (h : ℕ) (a b c : Target) → HeldAt some h a b → BackAt executed h b c → OverAs some executed h a c
over_by some executed h a b c held back = record {
  some_is = held.changed.some_is;
  over = record { held = back.begun; ran = back.ran; holds = begun_by some h a b back.begun held back.sets; steps = back.steps; ends = back.ends };
  executed_is = back.executed_is;
}

pub over_as : (some executed : Bool) (h : ℕ) (x y z : Option Far) → WhereTold (AtHarts (HeldAt some h)) x y → WhereTold (AtHarts (BackAt executed h)) y z
    → WhereTold (AtHarts (OverAs some executed h)) x z
over_as some executed h x y z = at_then (HeldAt some h) (BackAt executed h) (OverAs some executed h) x y z (over_by some executed h)

pub over_missed : (some : Bool) (h : ℕ) (last : Sight) (x y z : Option Far) → WhereTold (AtHarts (HeldAt some h)) x y → WhereTold (StepMissedAt h last) y z
    → WhereTold (AtHarts (OverMissed h last)) x z
over_missed some h last x y z held missed =
    at_then (HeldAt some h) (StepMissed h last) (OverMissed h last) x y z
    (λ a b c k m. record { held = m.begun; holds = begun_by some h a b m.begun k m.sets; missed = m.missed }) held (missed_at h last y z missed)

-- ---- letting go

-- no slot has a hit, so nothing was changed
over_same : (f : Hart → Hart) (h : ℕ) (hs : List Hart) → ((x : Hart) → slice_get hs h ≡ Some x → f x ≡ x) → over h f hs ≡ hs
over_same f h [] same = refl
over_same f zero (x ∷ hs) same = ap (λ z. z ∷ hs) (same x refl)
over_same f (suc h) (x ∷ hs) same = ap (λ zs. x ∷ zs) (over_same f h hs same)

left_false : (a b : Bool) → (a || b) ≡ false → a ≡ false
left_false true b e = e
left_false false b e = refl

right_false : (a b : Bool) → (a || b) ≡ false → b ≡ false
right_false true b e = absurd (false≢true (sym e))
right_false false b e = e

all_same : (ss : List Slot) → any_hit ss ≡ false → map (with_trigger (trigger_changed Hold)) ss ≡ ss
all_same [] none = refl
all_same (s ∷ ss) none =
    ap (λ (t : Trigger). record s { trigger = t } ∷ map (with_trigger (trigger_changed Hold)) ss)
    (unchanged Hold s.trigger (left_false (trigger_has_hit s.trigger) (any_hit ss) none))
    ∙ ap (λ zs. s ∷ zs) (all_same ss (right_false (trigger_has_hit s.trigger) (any_hit ss) none))

none_held : (h : ℕ) (old new : Target) → HeldAt false h old new → WentOn old new
none_held h old new held =
    let w : Rewrote (changes_all Hold) h old new = held.changed.wrote in
    let b : Board = after_turns w.harts old.board in
    record {
      harts = w.harts;
      board =
          w.board ∙ ap (λ hs. let c : Board = record { harts = hs; memory = b.memory } in c)
          (over_same (changes_all Hold) h b.harts (λ x here.
          ap (λ ss. let y : Hart = record { core = x.core; debug = record x.debug { slots = ss } } in y)
          (all_same x.debug.slots (ap any_hit (sym (slots_there h x old.board (sym (stays_same h old.board w.harts held.frozen) ∙ here)))
          ∙ sym held.changed.some_is))));
      journal = w.journal;
    }

pub through_none : (h : ℕ) (x y : Option Far) → WhereTold (AtHarts (HeldAt false h)) x y → WhereTold (AtHarts (IsThroughAt h)) x y
through_none h x y = at_as (HeldAt false h) (IsThroughAt h) x y (λ a b held. through_without (sym held.changed.some_is) (none_held h a b held))

pub through_over : (h : ℕ) (x y : Option Far) → WhereTold (AtHarts (OverAs true true h)) x y → WhereTold (AtHarts (IsThroughAt h)) x y
through_over h x y = at_as (OverAs true true h) (IsThroughAt h) x y (λ a b o. through_step (sym o.some_is) o.over (sym o.executed_is))

pub free_at : (h : ℕ) (x y z : Option Far) → WhereTold (AtHarts (IsThroughAt h)) x y → WhereTold (Leaves (ResumesAt h) h) y z
    → WhereTold (AtHarts (FreeAt h)) x z
free_at h x y z t r = at_then (IsThroughAt h) (ResumesAt h) (FreeAt h) x y z (λ a b c s m. record { mid = b; through = s; resumes = m }) t
    (leaves_at (ResumesAt h) h y z r)

pub go_missed : (h : ℕ) (last : Sight) (x y z : Option Far) → WhereTold (AtHarts (IsThroughAt h)) x y
    → WhereTold (Leaves (MissedAt (ResumeReq h) sees_ack h last) h) y z → WhereTold (AtHarts (GoMissed h last)) x z
go_missed h last x y z t r =
    at_then (IsThroughAt h) (MissedAt (ResumeReq h) sees_ack h last) (GoMissed h last) x y z (λ a b c s m. record { mid = b; through = s; missed = m }) t
    (leaves_at (MissedAt (ResumeReq h) sees_ack h last) h y z r)

pub stopped_at : (h : ℕ) (x y : Option Far) → WhereTold (AtHarts (OverAs true false h)) x y → WhereTold (AtHarts (StoppedAt h)) x y
stopped_at h x y = at_as (OverAs true false h) (StoppedAt h) x y (λ a b o. record { some = sym o.some_is; over = o.over; other = sym o.executed_is })

-- ---- by whether the step was a whole one

pub back_is : (executed whole : Bool) (h : ℕ) (x y : Option Far) → executed ≡ whole → WhereTold (AtHarts (BackAt executed h)) x y
    → WhereTold (AtHarts (BackAt whole h)) x y
back_is executed whole h x y is b = subst (λ e. WhereTold (AtHarts (BackAt e h)) x y) is b

pub stepped_is : (executed whole : Bool) (h : ℕ) (old new : Tells) → executed ≡ whole → SteppedBack executed h old new → SteppedBack whole h old new
stepped_is executed whole h old new is s = subst (λ e. SteppedBack e h old new) is s
