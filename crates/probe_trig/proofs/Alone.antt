-- A single step of a hart none of whose slots has a hit is a step over its slots.
use Rattle.std.proofs.Common.{◌≡◌, ◌∙◌, ℕ, zero, suc, true, false, List, [], ◌∷◌, Option, Some, None, IfSome, option_map, slice_get, refl, sym, ap, subst}
use Rattle.std.proofs.lemmas.Option.{none-some, same_Some}
use Rattle.rv_model.specs.declared.slot.Slot.{Slot}
use Rattle.rv_model.specs.Board.{Board, DebugPart, Hart}
use Rattle.debug_model.specs.Scan.{WhereTold}
use Rattle.debug_model.specs.Told.{Far, site_of}
use Rattle.abstract_debugger.specs.Debugger.{Seen as Sight, sees_both}
use Rattle.abstract_debugger.specs.Plan.{step_begun, step_ended, with_debug_part}
use Rattle.abstract_debugger.specs.Laws.{IsFrozenAt}
use Rattle.abstract_debugger.specs.Slots.{any_hit, over, slots_at, slots_here}
use Rattle.abstract_debugger.specs.Stands.{Rewrote, Target}
use Rattle.abstract_debugger.specs.Turns.{after_turns}
use Rattle.abstract_debugger.proofs.OverLemmas.{slice_get-over_same}
use Rattle.probe_access.specs.declared.fault.AccessFault.{AccessFault}
use Rattle.probe_access.specs.declared.fault.AccessFault.TheVariants as fault
use Rattle.probe_access.specs.BlockCuts.{StepCut}
use Rattle.probe_access.specs.Cuts.{IfCut, Leaves}
use Rattle.probe_access.specs.SingleSteps.{StepLeft, StepMissed, StepMissedAt, StepsOnce, SteppedAt, with_step}
use Rattle.probe_run.specs.declared.fault.RunFault.TheVariants as run_fault
use Rattle.probe_run.specs.Happens.{target_of}
use Rattle.probe_trig.specs.declared.change.Change.TheVariants.{Hold}
use Rattle.probe_trig.specs.Slots.{AtHarts}
use Rattle.probe_trig.specs.StepCuts.{BackCut, LeavesAt, OverCut}
use Rattle.probe_trig.specs.StepCuts.StepCutAt.{before_step, behind_step, in_step}
use Rattle.probe_trig.specs.StepLaws.{SingleStepsAreOver}
use Rattle.probe_trig.specs.Stepping.{OverAt, OverLeft, OverMissed}
use Rattle.probe_trig.proofs.Clear.{ClearAt, IsUnhit, UnhitAt, clear_met, clear_turns, ended_clear, none_changed, unhit_turns}
use Rattle.probe_trig.proofs.StepCutLemmas.{back_in_step}

-- ---- one change of a hart for another that makes the same of it

over_as : (f g : Hart → Hart) (h : ℕ) (hs : List Hart) → ((x : Hart) → slice_get hs h ≡ Some x → f x ≡ g x) → over h f hs ≡ over h g hs
over_as f g h [] same = refl
over_as f g zero (x ∷ hs) same = ap (λ z. z ∷ hs) (same x refl)
over_as f g (suc h) (x ∷ hs) same = ap (λ zs. x ∷ zs) (over_as f g h hs same)

rewrote_as : (f g : Hart → Hart) (h : ℕ) (old new : Target) (w : Rewrote f h old new)
    → ((x : Hart) → slice_get (after_turns w.harts old.board).harts h ≡ Some x → f x ≡ g x) → Rewrote g h old new
rewrote_as f g h old new w same = record {
  harts = w.harts;
  board = w.board ∙ ap (λ (hs : List Hart). let b : Board = record { harts = hs; memory = (after_turns w.harts old.board).memory } in b)
      (over_as f g h (after_turns w.harts old.board).harts same);
  journal = w.journal;
}

-- ---- the flag is set and cleared, and that is all

held_part : (d : DebugPart) → IsUnhit d → record d { step = true; stepie = true } ≡ step_begun d
held_part d u = ap (λ (ss : List Slot). record d { step = true; stepie = true; slots = ss }) (sym (none_changed Hold d.slots u.none))

pub held_as : (h : ℕ) (old new : Target) → UnhitAt h old.board → Rewrote (with_step true) h old new → Rewrote (with_debug_part step_begun) h old new
held_as h old new u w =
    rewrote_as (with_step true) (with_debug_part step_begun) h old new w
    (λ x is. ap (λ (d : DebugPart). let y : Hart = record { core = x.core; debug = d } in y) (held_part x.debug (unhit_turns h w.harts old.board u x is)))

ended_as : (h : ℕ) (old new : Target) → ClearAt h old.board → Rewrote (with_step false) h old new → Rewrote (with_debug_part step_ended) h old new
ended_as h old new c w =
    rewrote_as (with_step false) (with_debug_part step_ended) h old new w
    (λ x is. ap (λ (d : DebugPart). let y : Hart = record { core = x.core; debug = d } in y) (ended_clear x.debug (clear_turns h w.harts old.board c x is)))

-- a hart with its flag set is without a hit still
flagged_unhit : (h : ℕ) (o : Option Hart) (x : Hart) → option_map (with_step true) o ≡ Some x → ((y : Hart) → o ≡ Some y → IsUnhit y.debug) → IsUnhit x.debug
flagged_unhit h None x is u = absurd (none-some x is)
flagged_unhit h (Some y) x is u =
    let v : IsUnhit y.debug = u y refl in
    subst (λ (z : Hart). IsUnhit z.debug) (same_Some (with_step true y) x is)
    (record { frozen = record { why = v.frozen.why; halted = v.frozen.halted; not_asked = v.frozen.not_asked }; none = v.none })

begun_unhit : (h : ℕ) (old new : Target) → UnhitAt h old.board → Rewrote (with_step true) h old new → UnhitAt h new.board
begun_unhit h old new u w x is =
    flagged_unhit h (slice_get (after_turns w.harts old.board).harts h) x
    (sym (slice_get-over_same (with_step true) h (after_turns w.harts old.board).harts) ∙ sym (ap (λ (b : Board). slice_get b.harts h) w.board) ∙ is)
    (unhit_turns h w.harts old.board u)

pub alone_over : (h : ℕ) (old new : Target) → UnhitAt h old.board → StepsOnce h old new → OverAt h old new
alone_over h old new u s = record {
  held = s.begun;
  ran = s.ran;
  holds = held_as h old s.begun u s.sets;
  steps = s.runs;
  ends = ended_as h s.ran new (clear_met sees_both h s.begun s.ran s.runs (begun_unhit h old s.begun u s.sets)) s.clears;
}

unhit_by : (h : ℕ) (b : Board) → IsFrozenAt h b → any_hit (slots_at h b) ≡ false → UnhitAt h b
unhit_by h b frozen none x is = record { frozen = frozen x is; none = ap (λ (o : Option Hart). any_hit (slots_here o)) (sym is) ∙ none }

pub single_steps_are_over : SingleStepsAreOver
single_steps_are_over h old new frozen none s = alone_over h old new (unhit_by h old.board frozen none) s

alone_missed : (h : ℕ) (last : Sight) (old new : Target) → UnhitAt h old.board → StepMissed h last old new → OverMissed h last old new
alone_missed h last old new u s = record { held = s.begun; holds = held_as h old s.begun u s.sets; missed = s.missed }

alone_cut : (h : ℕ) (old new : Target) → UnhitAt h old.board → BackCut h old new → OverCut h old new
alone_cut h old new u (before_step d) = before_step d
alone_cut h old new u (in_step r) = in_step (record { begun = r.begun; set_so = held_as h old r.begun u r.set_so; runs = r.runs })
alone_cut h old new u (behind_step r) =
    behind_step (record { begun = r.begun; set_so = held_as h old r.begun u r.set_so; ran = r.ran; steps = r.steps; left = r.left })

-- ---- at the chip

-- where it is told, no slot of hart h has a hit
abbrev pub UnhitTold : ℕ → Option Far → Type 0
UnhitTold h told = IfSome told (λ f. UnhitAt h (site_of f).board)

pub alone_made : (h : ℕ) (x y : Option Far) → UnhitTold h x → WhereTold (SteppedAt h) x y → WhereTold (AtHarts (OverAt h)) x y
alone_made h None y u s = s
alone_made h (Some f) y u s =
    record { far = s.far; is = s.is; happened = alone_over h (target_of (site_of f)) (target_of (site_of s.far)) u s.happened; bus = s.bus }

missed_over : (h : ℕ) (last : Sight) (x y : Option Far) → UnhitTold h x → WhereTold (StepMissedAt h last) x y → WhereTold (AtHarts (OverMissed h last)) x y
missed_over h last None y u s = s
missed_over h last (Some f) y u s =
    record { far = s.far; is = s.is; happened = alone_missed h last (target_of (site_of f)) (target_of (site_of s.far)) u s.happened; bus = s.bus }

pub alone_left : (h : ℕ) (x y : Option Far) (e : AccessFault) → UnhitTold h x → StepLeft h x y e → OverLeft h x y e
alone_left h x y (fault.Dmi why) u l = tt
alone_left h x y (fault.Memory at) u l = l
alone_left h x y (fault.Register number) u l = l
alone_left h x y fault.StillBusy u l = tt
alone_left h x y (fault.Run (run_fault.Dmi why)) u l = l
alone_left h x y (fault.Run (run_fault.NoHalt looks)) u l = (l.0, (l.1.0, l.1.1, missed_over h l.1.0 x y u l.1.2))
alone_left h x y (fault.Run (run_fault.NoAck looks)) u l = (l.0, (l.1.0, l.1.1, missed_over h l.1.0 x y u l.1.2))
alone_left h x y (fault.Odd shown) u l = l

leaves_over : (h : ℕ) (x y : Option Far) → UnhitTold h x → LeavesAt (BackCut h) x y → LeavesAt (OverCut h) x y
leaves_over h None y u p = tt
leaves_over h (Some f) y u p =
    record { far = p.far; is = p.is; happened = alone_cut h (target_of (site_of f)) (target_of (site_of p.far)) u p.happened; bus = p.bus }

over_in_cut : (h : ℕ) (x y : Option Far) (e : AccessFault) → UnhitTold h x → IfCut (LeavesAt (BackCut h) x y) e → IfCut (LeavesAt (OverCut h) x y) e
over_in_cut h x y (fault.Dmi why) u p = leaves_over h x y u p
over_in_cut h x y (fault.Memory at) u p = tt
over_in_cut h x y (fault.Register number) u p = tt
over_in_cut h x y fault.StillBusy u p = leaves_over h x y u p
over_in_cut h x y (fault.Run why) u p = tt
over_in_cut h x y (fault.Odd shown) u p = tt

pub alone_in_cut : (h : ℕ) (x y : Option Far) (e : AccessFault) → UnhitTold h x → IfCut (Leaves (StepCut h) x y) e → IfCut (LeavesAt (OverCut h) x y) e
alone_in_cut h x y e u p = over_in_cut h x y e u (back_in_step h x y e p)
