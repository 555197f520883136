-- A hart that runs from where no slot has a hit: until a trigger stops it none has one, and a slot that has one then is on.
use Rattle.std.proofs.Common.{◌≡◌, ◌∙◌, ◌&&◌, ◌||◌, ℕ, Bool, true, false, List, [], ◌∷◌, map, Option, Some, None, is_some, slice_get, refl, sym, ap, subst}
use Rattle.std.proofs.Common.{if◌then◌else◌, inl, inr}
use Rattle.std.specs.Prelude.{slice_set, nat_lt, ◌-◌, ◌==◌}
use Rattle.std.proofs.lemmas.Bool.{cases_eq, false≢true}
use Rattle.std.proofs.lemmas.Option.{none-some, same_Some}
use Rattle.rv_model.specs.declared.cause.Cause.{Cause}
use Rattle.rv_model.specs.declared.cause.Cause.TheVariants as cause
use Rattle.rv_model.specs.declared.slot.Icount.{Icount}
use Rattle.rv_model.specs.declared.slot.Slot.{Slot}
use Rattle.rv_model.specs.declared.slot.Trigger.{Trigger}
use Rattle.rv_model.specs.declared.slot.Trigger.TheVariants as kind
use Rattle.rv_model.specs.declared.touch.Touch.{Touch}
use Rattle.rv_model.specs.Board.{Board, DebugPart, Hart}
use Rattle.rv_model.specs.Effects.{Outcome}
use Rattle.rv_model.specs.Memory.{Memory}
use Rattle.rv_model.specs.Touch.{touch_of}
use Rattle.rv_model.specs.Triggers.{counted_down, marked, slot_fires, trigger_counted, trigger_fires, trigger_hit}
use Rattle.rv_model.specs.Turn.{halted_for, place_by, place_of, some_fires, stops_at_ebreak, turn, turn_by, turn_outcome}
use Rattle.rv_model.proofs.MapLemmas.{slice_get-set_other}
use Rattle.debug_model.specs.declared.point.Point.TheVariants.{ResumeReq}
use Rattle.debug_model.specs.Journal.{after_point, debug_changed_by, resume_asked, resume_asked_by, with_debug}
use Rattle.abstract_debugger.specs.Debugger.{Seen}
use Rattle.abstract_debugger.specs.Laws.{IsFrozen}
use Rattle.abstract_debugger.specs.Plan.{is_step, step_ended}
use Rattle.abstract_debugger.specs.Slots.{any_hit, hits_forgotten, slots_back, trigger_back, trigger_has_hit, with_trigger}
use Rattle.abstract_debugger.specs.Stands.{Looked, Pointed, Target}
use Rattle.abstract_debugger.specs.Turns.{after_turns}
use Rattle.abstract_debugger.proofs.FrozenLemmas.{stays_same}
use Rattle.abstract_debugger.proofs.OverLemmas.{slice_get-set_here}
use Rattle.probe_run.specs.Happens.{InVain, MetAt}
use Rattle.probe_run.specs.Happens.InVain.{none, again}
use Rattle.probe_trig.specs.declared.change.Change.{Change}
use Rattle.probe_trig.specs.declared.change.Change.TheVariants.{Forget, PutBack}
use Rattle.probe_trig.specs.SlotRegisters.{trigger_changed}
use Rattle.probe_trig.proofs.Parts.{unchanged}

abbrev pub is_trigger : Option Cause → Bool
is_trigger (Some cause.Trigger) = true
is_trigger (Some cause.Ebreak) = false
is_trigger (Some cause.HaltReq) = false
is_trigger (Some cause.Step) = false
is_trigger (Some cause.Reset) = false
is_trigger None = false

-- no slot has a hit but where a trigger has stopped the hart, and one that has a hit is on
pub record IsClear (d : DebugPart) : Type 0 where
  pub on : slots_back d.slots ≡ d.slots
  pub none : is_trigger d.halted ≡ false → any_hit d.slots ≡ false
  pub asked : d.resume_request ≡ true → (is_some d.halted ≡ true) × (any_hit d.slots ≡ false)

-- halted, with nobody to ask it to resume, and without a hit
pub record IsUnhit (d : DebugPart) : Type 0 where
  pub frozen : IsFrozen d
  pub none : any_hit d.slots ≡ false

abbrev pub UnhitAt : ℕ → Board → Type 0
UnhitAt h b = (x : Hart) → slice_get b.harts h ≡ Some x → IsUnhit x.debug

abbrev pub ClearAt : ℕ → Board → Type 0
ClearAt h b = (x : Hart) → slice_get b.harts h ≡ Some x → IsClear x.debug

-- ---- slots without a hit

left_false : (a b : Bool) → (a || b) ≡ false → a ≡ false
left_false true b e = e
left_false false b e = refl

right_false : (a b : Bool) → (a || b) ≡ false → b ≡ false
right_false true b e = absurd (false≢true (sym e))
right_false false b e = e

-- nothing is made of them
pub none_changed : (how : Change) (ss : List Slot) → any_hit ss ≡ false → map (with_trigger (trigger_changed how)) ss ≡ ss
none_changed how [] e = refl
none_changed how (s ∷ ss) e =
    ap (λ (t : Trigger). record s { trigger = t } ∷ map (with_trigger (trigger_changed how)) ss)
    (unchanged how s.trigger (left_false (trigger_has_hit s.trigger) (any_hit ss) e))
    ∙ ap (λ zs. s ∷ zs) (none_changed how ss (right_false (trigger_has_hit s.trigger) (any_hit ss) e))

pub on_again : (ss : List Slot) → any_hit ss ≡ false → slots_back ss ≡ ss
on_again ss e = none_changed PutBack ss e

pub forgotten_same : (ss : List Slot) → any_hit ss ≡ false → hits_forgotten ss ≡ ss
forgotten_same ss e = none_changed Forget ss e

-- an executed turn gives none

same_hit : (b : Bool) (t : Icount) (n : ℕ) (p : Bool) → (if b then (record t { count = n; pending = p }) else t).hit ≡ t.hit
same_hit true t n p = refl
same_hit false t n p = refl

counted_hit : (t : Trigger) → trigger_has_hit (trigger_counted t) ≡ trigger_has_hit t
counted_hit (kind.Mcontrol6 t) = refl
counted_hit (kind.Icount t) = same_hit (t.m && nat_lt 0 t.count) t (t.count - 1) (if t.count == 1 then true else t.pending)
counted_hit kind.Disabled = refl

counted_hits : (ss : List Slot) → any_hit (counted_down ss) ≡ any_hit ss
counted_hits [] = refl
counted_hits (s ∷ ss) = ap (λ b. b || any_hit (counted_down ss)) (counted_hit s.trigger) ∙ ap (λ b. trigger_has_hit s.trigger || b) (counted_hits ss)

-- a slot that fires is on

m_on : (m b : Bool) → (m && b) ≡ true → (m || true) ≡ m
m_on true b e = refl
m_on false b e = absurd (false≢true e)

hit_on : (t : Trigger) (tdata2 : ℕ) (touch : Touch) → trigger_fires t tdata2 touch ≡ true → trigger_back (trigger_hit t) ≡ trigger_hit t
hit_on (kind.Mcontrol6 t) tdata2 touch e = ap (λ m. kind.Mcontrol6 (record t { hit = true; m = m })) (m_on t.m _ e)
hit_on (kind.Icount t) tdata2 touch e = ap (λ m. kind.Icount (record t { hit = true; pending = false; m = m })) (m_on t.m t.pending e)
hit_on kind.Disabled tdata2 touch e = refl

marked_slot : (b : Bool) (touch : Touch) (s : Slot) → slot_fires touch s ≡ b → trigger_has_hit s.trigger ≡ false
    → with_trigger trigger_back (if b then record s { trigger = trigger_hit s.trigger } else s) ≡
    (if b then record s { trigger = trigger_hit s.trigger } else s)
marked_slot true touch s is e = ap (λ (t : Trigger). record s { trigger = t }) (hit_on s.trigger s.tdata2 touch is)
marked_slot false touch s is e = ap (λ (t : Trigger). record s { trigger = t }) (unchanged PutBack s.trigger e)

marked_on : (touch : Touch) (ss : List Slot) → any_hit ss ≡ false → slots_back (marked touch ss) ≡ marked touch ss
marked_on touch [] e = refl
marked_on touch (s ∷ ss) e =
    ap (λ z. z ∷ slots_back (marked touch ss)) (marked_slot (slot_fires touch s) touch s refl (left_false (trigger_has_hit s.trigger) (any_hit ss) e))
    ∙ ap (λ zs. (if slot_fires touch s then record s { trigger = trigger_hit s.trigger } else s) ∷ zs)
    (marked_on touch ss (right_false (trigger_has_hit s.trigger) (any_hit ss) e))

-- ---- a turn of the hart

running_unhit : (d : DebugPart) → d.halted ≡ None → IsClear d → any_hit d.slots ≡ false
running_unhit d is c = c.none (ap is_trigger is)

-- a hart that runs is not asked to resume
not_running : (d : DebugPart) → d.halted ≡ None → is_some d.halted ≡ true → ⊥
not_running d is some = false≢true (sym (ap is_some is) ∙ some)

clear_ran : (b : Bool) (d : DebugPart) → d.halted ≡ None → IsClear d
    → IsClear (if b then halted_for cause.Step (record d { slots = counted_down d.slots }) else record d { slots = counted_down d.slots })
clear_ran true d is c =
    let e : any_hit (counted_down d.slots) ≡ false = counted_hits d.slots ∙ running_unhit d is c in
    record { on = on_again (counted_down d.slots) e; none = λ other. e; asked = λ asked. (refl, e) }
clear_ran false d is c =
    let e : any_hit (counted_down d.slots) ≡ false = counted_hits d.slots ∙ running_unhit d is c in
    record { on = on_again (counted_down d.slots) e; none = λ other. e; asked = λ asked. ((c.asked asked).0, e) }

clear_by : (halted : Option Cause) (resume request fired at_ebreak : Bool) (touch : Touch) (o : Outcome) (x : Hart) → x.debug.halted ≡ halted
    → x.debug.resume_request ≡ resume → IsClear x.debug → IsClear (place_by halted resume request fired at_ebreak touch o x).hart.debug
clear_by (Some why) true request fired at_ebreak touch o x is asked c =
    record { on = c.on; none = λ other. (c.asked asked).1; asked = λ e. absurd (false≢true e) }
clear_by (Some why) false request fired at_ebreak touch o x is asked c = c
clear_by None resume true fired at_ebreak touch o x is asked c =
    record { on = c.on; none = λ other. running_unhit x.debug is c; asked = λ e. (refl, running_unhit x.debug is c) }
clear_by None resume false true at_ebreak touch o x is asked c = record {
  on = marked_on touch x.debug.slots (running_unhit x.debug is c);
  none = λ other. absurd (false≢true (sym other));
  asked = λ e. absurd (not_running x.debug is (c.asked e).0);
}
clear_by None resume false false true touch o x is asked c =
    record { on = c.on; none = λ other. running_unhit x.debug is c; asked = λ e. (refl, running_unhit x.debug is c) }
clear_by None resume false false false touch o x is asked c = clear_ran x.debug.step x.debug is c

clear_place : (x : Hart) (m : Memory) → IsClear x.debug → IsClear (place_of x m).hart.debug
unfolding place_of
clear_place x m c = clear_by x.debug.halted x.debug.resume_request x.debug.halt_request (some_fires (touch_of x.core m) x) (stops_at_ebreak x m)
    (touch_of x.core m) (turn_outcome x m) x refl refl c

-- ---- on a board

clear_turn_by : (o : Option Hart) (h g : ℕ) (b : Board) → slice_get b.harts g ≡ o → ClearAt h b → ClearAt h (turn_by o g b)
clear_turn_by None h g b at c x is = c x is
clear_turn_by (Some y) h g b at c x is = elim (cases_eq h g) [
  | inl e ↦
      let there : slice_get (slice_set b.harts g (place_of y b.memory).hart) g ≡ Some (place_of y b.memory).hart =
      slice_get-set_here b.harts g y (place_of y b.memory).hart at in
      let same : x ≡ (place_of y b.memory).hart =
      same_Some x (place_of y b.memory).hart (sym is ∙ ap (slice_get (slice_set b.harts g (place_of y b.memory).hart)) e ∙ there) in
      subst (λ (z : Hart). IsClear z.debug) (sym same) (clear_place y b.memory (c y (ap (slice_get b.harts) e ∙ at)))
  | inr other ↦ c x (sym (slice_get-set_other b.harts g h (place_of y b.memory).hart other) ∙ is)
]

pub clear_turns : (h : ℕ) (harts : List ℕ) (b : Board) → ClearAt h b → ClearAt h (after_turns harts b)
clear_turns h [] b c = c
clear_turns h (g ∷ harts) b c = clear_turns h harts (turn g b) (clear_turn_by (slice_get b.harts g) h g b refl c)

-- ---- it is asked to resume

asked_clear : (halted : Option Cause) (d : DebugPart) → d.halted ≡ halted → is_some halted ≡ true → any_hit d.slots ≡ false → IsClear (resume_asked_by halted d)
asked_clear None d is some e = absurd (false≢true some)
asked_clear (Some why) d is some e = record { on = on_again d.slots e; none = λ other. e; asked = λ asked. (ap is_some is, e) }

unhit_asked : (d : DebugPart) → IsUnhit d → IsClear (resume_asked d)
unhit_asked d u = asked_clear d.halted d refl (ap is_some u.frozen.halted) u.none

resumes_clear_by : (o : Option Hart) (h : ℕ) (b : Board) → slice_get b.harts h ≡ o → UnhitAt h b → ClearAt h (debug_changed_by o resume_asked h b)
resumes_clear_by None h b at u x is = absurd (none-some x (sym at ∙ is))
resumes_clear_by (Some y) h b at u x is =
    let there : slice_get (slice_set b.harts h (with_debug resume_asked y)) h ≡ Some (with_debug resume_asked y) =
    slice_get-set_here b.harts h y (with_debug resume_asked y) at in
    subst (λ (z : Hart). IsClear z.debug) (sym (same_Some x (with_debug resume_asked y) (sym is ∙ there))) (unhit_asked y.debug (u y at))

pub unhit_turns : (h : ℕ) (harts : List ℕ) (b : Board) → UnhitAt h b → UnhitAt h (after_turns harts b)
unhit_turns h harts b u x is = u x (sym (stays_same h b harts (λ y at. (u y at).frozen)) ∙ is)

-- ---- a request and its Looks

clear_pointed : (h : ℕ) (old new : Target) → Pointed (ResumeReq h) old new → UnhitAt h old.board → ClearAt h new.board
clear_pointed h old new p u =
    subst (ClearAt h) (sym p.board)
    (clear_turns h p.behind (after_point (ResumeReq h) (after_turns p.before old.board))
    (resumes_clear_by (slice_get (after_turns p.before old.board).harts h) h (after_turns p.before old.board) refl (unhit_turns h p.before old.board u)))

clear_looked : (h : ℕ) (now : Seen) (old new : Target) → Looked h now old new → ClearAt h old.board → ClearAt h new.board
clear_looked h now old new l c =
    subst (ClearAt h) (sym l.pointed.board) (clear_turns h l.pointed.behind (after_turns l.pointed.before old.board)
    (clear_turns h l.pointed.before old.board c))

clear_vain : (test : Seen → Bool) (h : ℕ) (old : Target) (n : ℕ) (last : Seen) (new : Target) → InVain test h old n last new → ClearAt h old.board
    → ClearAt h new.board
clear_vain test h old n last new none c = c
clear_vain test h old n last new (again k before now mid end v look shown) c = clear_looked h now mid new look (clear_vain test h old k before mid v c)

pub clear_met : (test : Seen → Bool) (h : ℕ) (old new : Target) → MetAt (ResumeReq h) test h old new → UnhitAt h old.board → ClearAt h new.board
clear_met test h old new m u =
    clear_looked h m.now m.mid new m.look (clear_vain test h m.asked m.looks m.last m.mid m.in_vain (clear_pointed h old m.asked m.asks u))

-- ---- so nothing is to be put back behind its step

ended_slots : (halted : Option Cause) (ss : List Slot) → slots_back ss ≡ ss → (is_trigger halted ≡ false → any_hit ss ≡ false)
    → (if is_step halted then hits_forgotten (slots_back ss) else slots_back ss) ≡ ss
ended_slots None ss on unhit = on
ended_slots (Some cause.Trigger) ss on unhit = on
ended_slots (Some cause.Ebreak) ss on unhit = on
ended_slots (Some cause.HaltReq) ss on unhit = on
ended_slots (Some cause.Step) ss on unhit = ap hits_forgotten on ∙ forgotten_same ss (unhit refl)
ended_slots (Some cause.Reset) ss on unhit = on

pub ended_clear : (d : DebugPart) → IsClear d → record d { step = false; stepie = false } ≡ step_ended d
ended_clear d c = ap (λ (ss : List Slot). record d { step = false; stepie = false; slots = ss }) (sym (ended_slots d.halted d.slots c.on c.none))
