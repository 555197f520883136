-- `slots`: the lines of a hart's slots, one behind another.
use Rattle.std.proofs.Common.{◌≡◌, ◌<◌, ◌+◌, ◌∙◌, ℕ, zero, suc, Bool, false, List, [], ◌∷◌, map, drop, get_or, length, Option, Some, slice_get, refl}
use Rattle.std.proofs.Common.{sym, ap, subst, arith}
use Rattle.std.proofs.lemmas.List.{length-map}
use Rattle.std.proofs.lemmas.Option.{none-some, same_Some, slice_get-get_or}
use Rattle.jt_base.specs.Faults.{Rises}
use Rattle.jt_base.specs.Sink.{GrewByPrefix, grown}
use Rattle.rv_model.specs.declared.slot_set.SlotSet.{SlotSet}
use Rattle.rv_model.specs.SlotSet.{has_slot}
use Rattle.abstract_debugger.specs.Debugger.{saying}
use Rattle.abstract_debugger.specs.Lines.{Line, text_of}
use Rattle.abstract_debugger.specs.Slots.{Use}
use Rattle.abstract_debugger.specs.Ways.Way.{Still}
use Rattle.probe_run.specs.Acts.{Tells}
use Rattle.debug_model.specs.declared.slot_use.SlotUse.{SlotUse}
use Rattle.probe_trig.specs.declared.slot_view.SlotView.{SlotView}
use Rattle.probe_trig.specs.Runs.{ReadsAny}
use Rattle.probe_session.specs.declared.fault.Failure.{Failure}
use Rattle.probe_session.specs.declared.fault.Failure.TheVariants as failure
use Rattle.probe_session.specs.Calls.{SlotsFell, Viewed}
use Rattle.abstract_debugger.specs.Laws.{Quiet}
use Rattle.abstract_debugger.specs.SlotUses.{hits_in, use_named}
use Rattle.probe_session.proofs.QuietTails.{quiet_saying}
use Rattle.probe_session.specs.Goes.{Falls, Fault, Fell, Spoke}
use Rattle.probe_session.specs.Places.{idle, still}
use Rattle.probe_session.specs.Showing.{at_slots}
use Rattle.probe_session.specs.Steps.{lines_by}
use Rattle.probe_session.specs.Steps.Step.{rests, same, shows_slots}
use Rattle.probe_session.proofs.Spoken.{fell_line, spoke_first, spoke_says, spoke_went}
use Rattle.probe_session.proofs.WentLemmas.{falls_at, went_one, went_then}

-- ---- the lines that are left

abbrev line_at : (slot : ℕ) → SlotUse → SlotSet → Line
line_at slot used hits = Line.Slot slot (use_named used) (has_slot hits slot)

abbrev lines_from : ℕ → List SlotUse → SlotSet → List Line
lines_from slot uses hits = drop slot (lines_by 0 (map use_named uses) (hits_in hits))

next_line : (slot : ℕ) (uses : List SlotUse) (hits : SlotSet) (used : SlotUse) → length uses ≡ 4 → slice_get uses slot ≡ Some used
    → lines_from slot uses hits ≡ line_at slot used hits ∷ lines_from (slot + 1) uses hits
next_line slot [] hits used four is = absurd (omega (arith, four))
next_line slot (a ∷ []) hits used four is = absurd (omega (arith, four))
next_line slot (a ∷ b ∷ []) hits used four is = absurd (omega (arith, four))
next_line slot (a ∷ b ∷ c ∷ []) hits used four is = absurd (omega (arith, four))
next_line zero (a ∷ b ∷ c ∷ d ∷ []) hits used four is = ap (λ (x : SlotUse). line_at 0 x hits ∷ lines_from 1 (a ∷ b ∷ c ∷ d ∷ []) hits) (same_Some a used is)
next_line (suc zero) (a ∷ b ∷ c ∷ d ∷ []) hits used four is = ap (λ (x : SlotUse). line_at 1 x hits ∷ lines_from 2 (a ∷ b ∷ c ∷ d ∷ []) hits)
    (same_Some b used is)
next_line (suc (suc zero)) (a ∷ b ∷ c ∷ d ∷ []) hits used four is = ap (λ (x : SlotUse). line_at 2 x hits ∷ lines_from 3 (a ∷ b ∷ c ∷ d ∷ []) hits)
    (same_Some c used is)
next_line (suc (suc (suc zero))) (a ∷ b ∷ c ∷ d ∷ []) hits used four is =
    ap (λ (x : SlotUse). line_at 3 x hits ∷ lines_from 4 (a ∷ b ∷ c ∷ d ∷ []) hits) (same_Some d used is)
next_line (suc (suc (suc (suc n)))) (a ∷ b ∷ c ∷ d ∷ []) hits used four is = absurd (none-some used is)
next_line slot (a ∷ b ∷ c ∷ d ∷ e ∷ more) hits used four is = absurd (omega (arith, four))

no_line : (uses : List SlotUse) (hits : SlotSet) → length uses ≡ 4 → lines_from 4 uses hits ≡ []
no_line [] hits four = absurd (omega (arith, four))
no_line (a ∷ []) hits four = absurd (omega (arith, four))
no_line (a ∷ b ∷ []) hits four = absurd (omega (arith, four))
no_line (a ∷ b ∷ c ∷ []) hits four = absurd (omega (arith, four))
no_line (a ∷ b ∷ c ∷ d ∷ []) hits four = refl
no_line (a ∷ b ∷ c ∷ d ∷ e ∷ more) hits four = absurd (omega (arith, four))

-- there are four of them
pub four_uses : (h : ℕ) (view : SlotView) {t u : Tells} → Viewed h view t u → length view.used ≡ 4
four_uses h view v = sym (length-map view.used use_named) ∙ ap (λ (us : List Use). length us) v.heard.shows.uses_are

pub used_at : (view : SlotView) (i slot : ℕ) (d : SlotUse) → length view.used ≡ 4 → i ≡ slot → slot < 4 → slice_get view.used slot ≡ Some (get_or view.used i d)
used_at view i slot d four is below = slice_get-get_or view.used slot d (omega (arith, four)) ∙ ap (λ n. Some (get_or view.used n d)) (sym is)

-- ---- what was said

-- the lines of the slots below this one
abbrev pub SlotsSaid : (h : ℕ) → SlotView → (slot : ℕ) → (t u : Tells) → (c d : Option (List ℕ)) → Type 0
SlotsSaid h view slot t u c d = Spoke (at_slots h) (λ next. still h (saying (lines_from slot view.used view.hits) next)) false t u c d

pub slots_viewed : (h : ℕ) (view : SlotView) {t u : Tells} (c : Option (List ℕ)) → Viewed h view t u → SlotsSaid h view 0 t u c c
slots_viewed h view c viewed = spoke_first c (went_one (λ next. shows_slots next viewed))

pub slots_fell : (h : ℕ) {old_count new_count : ℕ} {t u : Tells} {f : Failure} → SlotsFell ReadsAny h old_count new_count t u f
    → Falls (at_slots h) [] old_count new_count t u f
slots_fell h fell = falls_at (λ next. Fault.viewing fell)

at_next : (h : ℕ) (view : SlotView) (slot : ℕ) (used : SlotUse) {t u : Tells} {c d : Option (List ℕ)} → length view.used ≡ 4
    → slice_get view.used slot ≡ Some used → SlotsSaid h view slot t u c d
    → Spoke (at_slots h) (λ next. still h (saying (line_at slot used view.hits ∷ lines_from (slot + 1) view.used view.hits) next)) false t u c d
at_next h view slot used four is s = spoke_went s (went_one (λ next. same
    (ap (λ (l : List Line). saying l next) (next_line slot view.used view.hits used four is))))

pub slot_said : (h : ℕ) (view : SlotView) (slot : ℕ) (used : SlotUse) (hit : Bool) {t u : Tells} {c d e : Option (List ℕ)} → length view.used ≡ 4
    → slice_get view.used slot ≡ Some used
    → hit ≡ has_slot view.hits slot → SlotsSaid h view slot t u c d → e ≡ grown (text_of (Line.Slot slot (use_named used) hit)) d
    → SlotsSaid h view (slot + 1) t u c e
slot_said h view slot used hit {d = d} four is hit_is s put =
    spoke_says Still h (line_at slot used view.hits) (λ next. saying (lines_from (slot + 1) view.used view.hits) next) refl (at_next h view slot used four is s)
    (put ∙ ap (λ (b : Bool). grown (text_of (Line.Slot slot (use_named used) b)) d) hit_is)

pub slot_cut : (h : ℕ) (view : SlotView) (slot : ℕ) (used : SlotUse) (hit : Bool) (old_count new_count : ℕ) {t u : Tells} {sink_old sink_new : ℕ}
    {c d e : Option (List ℕ)} {f : Failure} → length view.used ≡ 4
    → slice_get view.used slot ≡ Some used → hit ≡ has_slot view.hits slot → f ≡ failure.Sink → SlotsSaid h view slot t u c d
    → GrewByPrefix (text_of (Line.Slot slot (use_named used) hit)) d e
    → Rises sink_old sink_new → Fell Quiet (at_slots h) old_count new_count t u sink_old sink_new c e f
slot_cut h view slot used hit old_count new_count {d = d} {e = e} four is hit_is sink s front rises =
    fell_line Still h (line_at slot used view.hits) (λ next. saying (lines_from (slot + 1) view.used view.hits) next) refl
    (λ next calm. quiet_saying (lines_from (slot + 1) view.used view.hits) next calm) old_count new_count sink (at_next h view slot used four is s)
    (subst (λ (b : Bool). GrewByPrefix (text_of (Line.Slot slot (use_named used) b)) d e) hit_is front) rises

pub slots_all : (h : ℕ) (view : SlotView) (slot : ℕ) {t u : Tells} {c d : Option (List ℕ)} → length view.used ≡ 4 → slot ≡ 4 → SlotsSaid h view slot t u c d
    → Spoke (at_slots h) idle false t u c d
slots_all h view slot {t} {u} {c} {d} four is s =
    spoke_went (subst (λ n. SlotsSaid h view n t u c d) is s)
    (went_then (went_one (λ next. same (ap (λ (l : List Line). saying l next) (no_line view.used view.hits four)))) (went_one (λ next. rests)))
