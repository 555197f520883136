-- What stepping over and letting go leave, by their own words.
use Rattle.std.proofs.Common.{◌≡◌, ◌∙◌, ℕ, ◌++◌, Option, Some, None, Ok, Err, slice_get, refl, sym, ap}
use Rattle.rv_model.specs.Board.{Board, DebugPart, Hart}
use Rattle.rv_model.specs.DebugLaws.{SameRequests}
use Rattle.debug_model.specs.Scan.{WhereTold}
use Rattle.debug_model.specs.Told.{Far, site_of}
use Rattle.debug_model.specs.declared.point.Point.TheVariants.{ResumeReq}
use Rattle.abstract_debugger.specs.Debugger.{Seen as Sight, sees_ack, sees_both}
use Rattle.abstract_debugger.specs.Laws.{IsFrozenAt}
use Rattle.abstract_debugger.specs.Plan.{step_begun, step_ended, with_debug_part}
use Rattle.abstract_debugger.specs.Stands.{Rewrote, Target}
use Rattle.abstract_debugger.specs.Turns.{after_turns, turns}
use Rattle.abstract_debugger.proofs.FrozenLemmas.{stays_same}
use Rattle.abstract_debugger.proofs.OverLemmas.{set-over}
use Rattle.probe_run.specs.declared.fault.RunFault.TheVariants as run_fault
use Rattle.probe_run.specs.Happens.{target_of}
use Rattle.probe_run.specs.Told.{Serving}
use Rattle.probe_run.proofs.Asking.{OnlyAt, Unasked}
use Rattle.probe_run.proofs.Wide.{EachHart}
use Rattle.probe_access.specs.declared.fault.AccessFault.{AccessFault}
use Rattle.probe_access.specs.declared.fault.AccessFault.TheVariants as fault
use Rattle.probe_access.specs.Cuts.{IfCut}
use Rattle.probe_trig.specs.declared.fault.TrigFault.{TrigFault}
use Rattle.probe_trig.specs.declared.fault.TrigFault.TheVariants as trig_fault
use Rattle.probe_trig.specs.declared.gone.Gone.{Gone}
use Rattle.probe_trig.specs.declared.gone.Gone.TheVariants as gone
use Rattle.probe_trig.specs.Faults.{ByFault, IfAccess}
use Rattle.probe_trig.specs.Going.{GoLeft, GoMissed, GoesAt, IsThroughAt, NoAckLeft}
use Rattle.probe_trig.specs.Slots.{AtHarts}
use Rattle.probe_trig.specs.StepCuts.{GoCut, LeavesAt, OverAside, OverCut, StepCutAt}
use Rattle.probe_trig.specs.Stepping.{OverAt, OverLeft, OverMissed}
use Rattle.left_laws.specs.Left.Spared.{Nothing}
use Rattle.left_laws.specs.Scopes.{driving}
use Rattle.left_laws.specs.SlotLaws.{LetGoLeaves, StepOverLeaves}
use Rattle.left_laws.proofs.BoardLemmas.{board_of}
use Rattle.left_laws.proofs.Leads.{Led, led_left, led_met, led_missed, led_rewrote, led_run_cut, led_then, led_turns, led_went}
use Rattle.left_laws.proofs.PathLemmas.{frozen_along}
use Rattle.left_laws.proofs.Puts.{led_part}
use Rattle.left_laws.proofs.SiteLeads.{Left, served, untold_left}
use Rattle.left_laws.proofs.SlotLemmas.{at_kept}
use Rattle.left_laws.proofs.StepLemmas.{run_led, unasked_told}
use Rattle.left_laws.proofs.Stopped.{frozen_behind, rewrote_unasked}

-- ---- the slots are held, and put back

begun_requests : (d : DebugPart) → SameRequests d (step_begun d)
begun_requests d = record { version = refl; halted = refl; halt_request = refl; resume_request = refl; resume_ack = refl; have_reset = refl }

ended_requests : (d : DebugPart) → SameRequests d (step_ended d)
ended_requests d = record { version = refl; halted = refl; halt_request = refl; resume_request = refl; resume_ack = refl; have_reset = refl }

begun_led : (h : ℕ) (old new : Target) → Rewrote (with_debug_part step_begun) h old new → Led (driving h) old new
begun_led h old new w = led_rewrote (driving h) step_begun h old new w refl (λ x is. begun_requests x.debug)

ended_led : (h : ℕ) (old new : Target) → Rewrote (with_debug_part step_ended) h old new → Led (driving h) old new
ended_led h old new w = led_rewrote (driving h) step_ended h old new w refl (λ x is. ended_requests x.debug)

over_led : (h : ℕ) (old new : Target) → OverAt h old new → Led (driving h) old new
over_led h old new o =
    led_then (driving h) old o.held new (begun_led h old o.held o.holds)
    (led_then (driving h) o.held o.ran new (run_led h o.held o.ran o.steps) (ended_led h o.ran new o.ends))

missed_led : (h : ℕ) (last : Sight) (old new : Target) → OverMissed h last old new → Led (driving h) old new
missed_led h last old new o =
    led_then (driving h) old o.held new (begun_led h old o.held o.holds)
    (led_missed (driving h) (ResumeReq h) sees_both h last o.held new refl refl o.missed)

-- ---- where it broke off

-- registers of the debug part alone are others
aside_led : (h : ℕ) (old new : Target) → IsFrozenAt h old.board → OverAside h old new → Led (driving h) old new
aside_led h old new frozen o =
    let still : IsFrozenAt h o.mid.board =
    frozen_along h old.board o.mid.board (ap (λ (b : Board). slice_get b.harts h) o.went.board ∙ stays_same h old.board o.went.harts frozen) frozen in
    let b : Board = after_turns o.wrote.harts o.mid.board in
    let last : Target = record { board = b; journal = o.mid.journal ++ turns o.wrote.harts } in
    let at : slice_get b.harts h ≡ Some o.hart = stays_same h o.mid.board o.wrote.harts still ∙ o.here in
    led_then (driving h) old o.mid new (led_went (driving h) old o.mid o.went)
    (led_then (driving h) o.mid last new (led_turns (driving h) o.wrote.harts o.mid last refl refl)
    (led_part (driving h) h o.hart o.left last new refl at o.one.alone.core o.one.alone.requests
    (o.wrote.board ∙ ap (board_of b.memory) (sym (set-over (λ (x : Hart). o.left) b.harts h o.hart at))) o.wrote.journal))

cut_led : (h : ℕ) (old new : Target) → IsFrozenAt h old.board → EachHart (OnlyAt h Unasked) old.board → OverCut h old new → Led (driving h) old new
cut_led h old new frozen each (StepCutAt.before_step o) = aside_led h old new frozen o
cut_led h old new frozen each (StepCutAt.in_step c) =
    led_then (driving h) old c.begun new (begun_led h old c.begun c.set_so)
    (led_run_cut (driving h) (ResumeReq h) sees_both h c.begun new refl refl c.runs)
cut_led h old new frozen each (StepCutAt.behind_step c) =
    let asked = rewrote_unasked step_begun h old c.begun begun_requests each c.set_so in
    led_then (driving h) old c.begun new (begun_led h old c.begun c.set_so)
    (led_then (driving h) c.begun c.ran new (run_led h c.begun c.ran c.steps)
    (aside_led h c.ran new (frozen_behind h c.begun c.ran c.steps asked) c.left))

-- ---- it is let go

through_led : (h : ℕ) (old mid : Target) → IsThroughAt h old mid → Led (driving h) old mid
through_led h old mid (IsThroughAt.none any went) = led_went (driving h) old mid went
through_led h old mid (IsThroughAt.over any over executed) = over_led h old mid over

goes_led : (h : ℕ) (g : Gone) (old new : Target) → GoesAt h g old new → Led (driving h) old new
goes_led h (gone.Free r) old new f =
    led_then (driving h) old f.mid new (through_led h old f.mid f.through) (led_met (driving h) (ResumeReq h) sees_ack h f.mid new refl refl f.resumes)
goes_led h (gone.Stopped x) old new s = over_led h old new s.over

go_missed_led : (h : ℕ) (last : Sight) (old new : Target) → GoMissed h last old new → Led (driving h) old new
go_missed_led h last old new g =
    led_then (driving h) old g.mid new (through_led h old g.mid g.through)
    (led_missed (driving h) (ResumeReq h) sees_ack h last g.mid new refl refl g.missed)

go_cut_led : (h : ℕ) (old new : Target) → IsFrozenAt h old.board → EachHart (OnlyAt h Unasked) old.board → GoCut h old new → Led (driving h) old new
go_cut_led h old new frozen each (GoCut.in_hold o) = aside_led h old new frozen o
go_cut_led h old new frozen each (GoCut.in_over some c) = cut_led h old new frozen each c
go_cut_led h old new frozen each (GoCut.in_resume c) =
    led_then (driving h) old c.mid new (through_led h old c.mid c.through)
    (led_run_cut (driving h) (ResumeReq h) sees_ack h c.mid new refl refl c.runs)

-- ---- of a told chip

cut_kept : (h : ℕ) (R : Target → Target → Type 0) (x y : Option Far) → Serving h x
    → ((a b : Target) → IsFrozenAt h a.board → EachHart (OnlyAt h Unasked) a.board → R a b → Led (driving h) a b) → LeavesAt R x y
    → Left (driving h) Nothing x y
cut_kept h R None y serving to c = tt
cut_kept h R (Some f) y serving to c = record {
  far = c.far;
  is = c.is;
  left = led_left (driving h) Nothing (target_of (site_of f)) (target_of (site_of c.far))
      (to (target_of (site_of f)) (target_of (site_of c.far)) (served h (Some f) f serving refl) (unasked_told h (Some f) f serving refl) c.happened);
}

over_missed : (h : ℕ) (last : Sight) (x y : Option Far) → WhereTold (AtHarts (OverMissed h last)) x y → Left (driving h) Nothing x y
over_missed h last x y w = at_kept (driving h) (OverMissed h last) x y (missed_led h last) w

over_kept : (h : ℕ) (x y : Option Far) (e : AccessFault) → Serving h x → OverLeft h x y e → IfCut (LeavesAt (OverCut h) x y) e → Left (driving h) Nothing x y
over_kept h x y (fault.Dmi why) serving left cut = cut_kept h (OverCut h) x y serving (cut_led h) cut
over_kept h x y (fault.Memory at) serving left cut = absurd left
over_kept h x y (fault.Register number) serving left cut = untold_left (driving h) Nothing x y left
over_kept h x y fault.StillBusy serving left cut = cut_kept h (OverCut h) x y serving (cut_led h) cut
over_kept h x y (fault.Run (run_fault.Dmi why)) serving left cut = absurd left
over_kept h x y (fault.Run (run_fault.NoHalt looks)) serving left cut = over_missed h left.1.0 x y left.1.2
over_kept h x y (fault.Run (run_fault.NoAck looks)) serving left cut = over_missed h left.1.0 x y left.1.2
over_kept h x y (fault.Odd shown) serving left cut = untold_left (driving h) Nothing x y left

over_by : (h : ℕ) (x y : Option Far) (e : TrigFault) → Serving h x → ByFault (OverLeft h x y) ⊥ ⊥ e → IfAccess (IfCut (LeavesAt (OverCut h) x y)) e
    → Left (driving h) Nothing x y
over_by h x y (trig_fault.Access e) serving left cut = over_kept h x y e serving left cut
over_by h x y trig_fault.NoFreeSlot serving left cut = absurd left
over_by h x y trig_fault.NotInUse serving left cut = absurd left

pub step_over_leaves : StepOverLeaves
step_over_leaves h old new (Ok again) serving over left cut = at_kept (driving h) (OverAt h) old.far new.far (over_led h) over
step_over_leaves h old new (Err e) serving over left cut = over_by h old.far new.far e serving left cut

no_ack : (h looks : ℕ) (x y : Option Far) → NoAckLeft h looks x y → Left (driving h) Nothing x y
no_ack h looks x y (NoAckLeft.in_step m) = over_missed h m.1.0 x y m.1.2
no_ack h looks x y (NoAckLeft.in_resume m) = at_kept (driving h) (GoMissed h m.1.0) x y (go_missed_led h m.1.0) m.1.1

go_kept : (h : ℕ) (x y : Option Far) (e : AccessFault) → Serving h x → GoLeft h x y e → IfCut (LeavesAt (GoCut h) x y) e → Left (driving h) Nothing x y
go_kept h x y (fault.Dmi why) serving left cut = cut_kept h (GoCut h) x y serving (go_cut_led h) cut
go_kept h x y (fault.Memory at) serving left cut = absurd left
go_kept h x y (fault.Register number) serving left cut = untold_left (driving h) Nothing x y left
go_kept h x y fault.StillBusy serving left cut = cut_kept h (GoCut h) x y serving (go_cut_led h) cut
go_kept h x y (fault.Run (run_fault.Dmi why)) serving left cut = absurd left
go_kept h x y (fault.Run (run_fault.NoHalt looks)) serving left cut = over_missed h left.1.0 x y left.1.2
go_kept h x y (fault.Run (run_fault.NoAck looks)) serving left cut = no_ack h looks x y left
go_kept h x y (fault.Odd shown) serving left cut = untold_left (driving h) Nothing x y left

go_by : (h : ℕ) (x y : Option Far) (e : TrigFault) → Serving h x → ByFault (GoLeft h x y) ⊥ ⊥ e → IfAccess (IfCut (LeavesAt (GoCut h) x y)) e
    → Left (driving h) Nothing x y
go_by h x y (trig_fault.Access e) serving left cut = go_kept h x y e serving left cut
go_by h x y trig_fault.NoFreeSlot serving left cut = absurd left
go_by h x y trig_fault.NotInUse serving left cut = absurd left

pub let_go_leaves : LetGoLeaves
let_go_leaves h old new (Ok g) serving goes left cut = at_kept (driving h) (GoesAt h g) old.far new.far (goes_led h g) goes
let_go_leaves h old new (Err e) serving goes left cut = go_by h old.far new.far e serving left cut
