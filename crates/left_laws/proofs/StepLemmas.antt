-- What a single step leaves, by its own words.
use Rattle.std.proofs.Common.{◌≡◌, ℕ, Bool, true, false, Option, Some, Ok, Err, refl, sym, ap, subst, inl, inr}
use Rattle.rv_model.specs.Board.{DebugPart, Hart}
use Rattle.rv_model.specs.DebugLaws.{SameRequests}
use Rattle.debug_model.specs.Module.{Site}
use Rattle.debug_model.specs.Scan.{WhereTold}
use Rattle.debug_model.specs.Told.{Far, site_of}
use Rattle.debug_model.specs.declared.point.Point.TheVariants.{ResumeReq}
use Rattle.abstract_debugger.specs.Debugger.{Seen as Sight, sees_both}
use Rattle.abstract_debugger.specs.Laws.{IsFrozenAt}
use Rattle.abstract_debugger.specs.Stands.{Rewrote, Target}
use Rattle.probe_run.specs.declared.fault.RunFault.TheVariants as run_fault
use Rattle.probe_run.specs.Happens.{StepsAt, target_of}
use Rattle.probe_run.specs.Told.{Serving}
use Rattle.probe_run.proofs.Asking.{OnlyAt, Unasked}
use Rattle.probe_run.proofs.Wide.{EachHart}
use Rattle.probe_access.specs.declared.fault.AccessFault.{AccessFault}
use Rattle.probe_access.specs.declared.fault.AccessFault.TheVariants as fault
use Rattle.probe_access.specs.BlockCuts.{MaybeFlagged, StepCut}
use Rattle.probe_access.specs.BlockCuts.StepCut.{clearing, running, setting}
use Rattle.probe_access.specs.Cuts.{IfCut, LeftAside, Leaves}
use Rattle.probe_access.specs.SingleSteps.{StepLeft, StepMissed, StepMissedAt, StepsOnce, SteppedAt, flagged, with_step}
use Rattle.left_laws.specs.Left.Spared.{Nothing}
use Rattle.left_laws.specs.Scopes.{driving}
use Rattle.left_laws.specs.StepLaws.{StepLeaves}
use Rattle.left_laws.proofs.Leads.{Led, led_left, led_met, led_missed, led_rewrote, led_run_cut, led_then}
use Rattle.left_laws.proofs.SiteLeads.{Left, leaves_left, part_put, served, told_left, untold_left, whole}
use Rattle.left_laws.proofs.Stopped.{frozen_behind, ready_unasked, rewrote_unasked}

-- ---- the flag

pub flag_requests : (on : Bool) (d : DebugPart) → SameRequests d (flagged on d)
flag_requests on d = record { version = refl; halted = refl; halt_request = refl; resume_request = refl; resume_ack = refl; have_reset = refl }

pub flag_led : (on : Bool) (h : ℕ) (old new : Target) → Rewrote (with_step on) h old new → Led (driving h) old new
flag_led on h old new w = led_rewrote (driving h) (flagged on) h old new w refl (λ x is. flag_requests on x.debug)

flag_core : (on : Bool) (x y : Hart) → MaybeFlagged on x y → y.core ≡ x.core
flag_core on x y (inl is) = ap (λ (z : Hart). z.core) is
flag_core on x y (inr is) = ap (λ (z : Hart). z.core) is

maybe_requests : (on : Bool) (x y : Hart) → MaybeFlagged on x y → SameRequests x.debug y.debug
maybe_requests on x y (inl is) =
    subst (λ (z : Hart). SameRequests x.debug z.debug) (sym is)
    (record { version = refl; halted = refl; halt_request = refl; resume_request = refl; resume_ack = refl; have_reset = refl })
maybe_requests on x y (inr is) = subst (λ (z : Hart). SameRequests x.debug z.debug) (sym is) (flag_requests on x.debug)

flag_aside : (on : Bool) (h : ℕ) (a b : Site) → IsFrozenAt h a.board → LeftAside (MaybeFlagged on) h a b → Led (driving h) (target_of a) (target_of b)
flag_aside on h a b frozen l =
    part_put (driving h) h l.harts l.hart l.left a (target_of b) refl frozen l.here (flag_core on l.hart l.left l.one) (maybe_requests on l.hart l.left l.one)
    l.board l.journal

-- ---- the step

pub run_led : (h : ℕ) (old new : Target) → StepsAt h old new → Led (driving h) old new
run_led h old new m = led_met (driving h) (ResumeReq h) sees_both h old new refl refl m

step_led : (h : ℕ) (old new : Target) → StepsOnce h old new → Led (driving h) old new
step_led h old new s =
    led_then (driving h) old s.begun new (flag_led true h old s.begun s.sets)
    (led_then (driving h) s.begun s.ran new (run_led h s.begun s.ran s.runs) (flag_led false h s.ran new s.clears))

missed_led : (h : ℕ) (last : Sight) (old new : Target) → StepMissed h last old new → Led (driving h) old new
missed_led h last old new s =
    led_then (driving h) old s.begun new (flag_led true h old s.begun s.sets)
    (led_missed (driving h) (ResumeReq h) sees_both h last s.begun new refl refl s.missed)

cut_led : (h : ℕ) (a b : Site) → IsFrozenAt h a.board → EachHart (OnlyAt h Unasked) a.board → StepCut h a b → Led (driving h) (target_of a) (target_of b)
cut_led h a b frozen each (setting l) = flag_aside true h a b frozen l
cut_led h a b frozen each (running l) =
    led_then (driving h) (target_of a) l.begun (target_of b) (flag_led true h (target_of a) l.begun l.sets)
    (led_run_cut (driving h) (ResumeReq h) sees_both h l.begun (target_of b) refl refl l.runs)
cut_led h a b frozen each (clearing l) =
    let asked = rewrote_unasked (flagged true) h (target_of a) l.begun (flag_requests true) each l.sets in
    led_then (driving h) (target_of a) l.begun (target_of b) (flag_led true h (target_of a) l.begun l.sets)
    (led_then (driving h) l.begun (target_of l.ran) (target_of b) (run_led h l.begun (target_of l.ran) l.runs)
    (flag_aside false h l.ran b (frozen_behind h l.begun (target_of l.ran) l.runs asked) l.clears))

-- ---- of a told chip

pub unasked_told : (h : ℕ) (x : Option Far) (f : Far) → Serving h x → x ≡ Some f → EachHart (OnlyAt h Unasked) (site_of f).board
unasked_told h x f serving is = ready_unasked h f (subst (Serving h) is serving).ready

missed_kept : (h : ℕ) (last : Sight) (x y : Option Far) → WhereTold (StepMissedAt h last) x y → Left (driving h) Nothing x y
missed_kept h last x y w =
    told_left (driving h) Nothing (StepMissedAt h last) x y
    (λ f is r. whole (driving h) f r.far y r.is (missed_led h last (target_of (site_of f)) (target_of (site_of r.far)) r.happened)) w

broke : (h : ℕ) (x y : Option Far) → Serving h x → Leaves (StepCut h) x y → Left (driving h) Nothing x y
broke h x y serving c =
    leaves_left (driving h) Nothing (StepCut h) x y
    (λ f g is l. led_left (driving h) Nothing (target_of (site_of f)) (target_of (site_of g))
    (cut_led h (site_of f) (site_of g) (served h x f serving is) (unasked_told h x f serving is) l)) c

step_kept : (h : ℕ) (x y : Option Far) (e : AccessFault) → Serving h x → StepLeft h x y e → IfCut (Leaves (StepCut h) x y) e → Left (driving h) Nothing x y
step_kept h x y (fault.Dmi why) serving left cut = broke h x y serving cut
step_kept h x y (fault.Memory at) serving left cut = absurd left
step_kept h x y (fault.Register number) serving left cut = untold_left (driving h) Nothing x y left
step_kept h x y fault.StillBusy serving left cut = broke h x y serving cut
step_kept h x y (fault.Run (run_fault.Dmi why)) serving left cut = absurd left
step_kept h x y (fault.Run (run_fault.NoHalt looks)) serving left cut = missed_kept h left.1.0 x y left.1.2
step_kept h x y (fault.Run (run_fault.NoAck looks)) serving left cut = missed_kept h left.1.0 x y left.1.2
step_kept h x y (fault.Odd shown) serving left cut = untold_left (driving h) Nothing x y left

pub step_leaves : StepLeaves
step_leaves h old new (Ok again) serving stepped left cut =
    told_left (driving h) Nothing (SteppedAt h) old.far new.far
    (λ f is r. whole (driving h) f r.far new.far r.is (step_led h (target_of (site_of f)) (target_of (site_of r.far)) r.happened)) stepped
step_leaves h old new (Err e) serving stepped left cut = step_kept h old.far new.far e serving left cut
