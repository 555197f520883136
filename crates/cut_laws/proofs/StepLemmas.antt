-- A single step that failed, over a told chip.
use Rattle.std.proofs.Common.{◌≡◌, ◌∙◌, ◌++◌, ℕ, Bool, true, false, List, Option, Some, None, slice_get, refl, sym, ap, subst, if◌then◌else◌}
use Rattle.std.proofs.lemmas.Option.{none-some, same_Some}
use Rattle.rv_model.specs.Board.{Board, Hart, Machine, machine_of}
use Rattle.debug_model.specs.declared.point.Point.TheVariants.{ResumeReq}
use Rattle.debug_model.specs.Told.{Far, site_of}
use Rattle.abstract_debugger.specs.Debugger.{lost_step, most_looks, one, sees_ack, sees_both}
use Rattle.abstract_debugger.specs.Laws.{Quiet, WritesOnly}
use Rattle.abstract_debugger.specs.Lines.{Line}
use Rattle.abstract_debugger.specs.Plan.{Plan, step_begun, with_debug_part}
use Rattle.abstract_debugger.specs.Plan.Change.{StepDone}
use Rattle.abstract_debugger.specs.Plan.Plan.{change, stop}
use Rattle.abstract_debugger.specs.Plan.PlanEnd.{NoAck, NoHalt}
use Rattle.abstract_debugger.specs.Stands.{At, Deals, Origin, Rewrote, Target}
use Rattle.abstract_debugger.specs.Transcript.{End}
use Rattle.abstract_debugger.specs.Turns.{after_turns}
use Rattle.abstract_debugger.specs.Ways.{Way}
use Rattle.abstract_debugger.specs.Ways.Way.{Asked, Holding, Over, Ready, Still as StillWay}
use Rattle.abstract_debugger.proofs.DealsLemmas.{IsStill, deals_ask, deals_frozen, deals_hold, deals_went_on, target_frozen}
use Rattle.abstract_debugger.proofs.FrozenLemmas.{stays_same}
use Rattle.abstract_debugger.proofs.KnownPoints.{known-over}
use Rattle.probe_access.specs.declared.fault.AccessFault.{AccessFault}
use Rattle.probe_access.specs.declared.fault.AccessFault.TheVariants as fault
use Rattle.probe_access.specs.Cuts.{IfCut}
use Rattle.probe_run.specs.declared.fault.RunFault.TheVariants as run_fault
use Rattle.probe_run.specs.Happens.{target_of}
use Rattle.probe_run.proofs.SessionLemmas.{steps_lead}
use Rattle.probe_trig.specs.StepCuts.{LeavesAt, OverAside, OverCut, StepCutAt}
use Rattle.probe_trig.specs.Stepping.{OverLeft}
use Rattle.probe_trig.proofs.Alone.{UnhitTold, alone_in_cut, alone_left}
use Rattle.probe_session.specs.declared.fault.Failure.{Failure}
use Rattle.probe_session.specs.Failures.{Became}
use Rattle.probe_session.specs.Led.{target_at}
use Rattle.probe_session.specs.Steps.{behind_step}
use Rattle.probe_session.specs.Transcribed.{Still}
use Rattle.probe_session.proofs.BrokeOff.{LeftAs, is_told, still_as}
use Rattle.probe_session.proofs.OverFaults.{over_by}
use Rattle.probe_session.proofs.ResumedWay.{stepping_wait}
use Rattle.probe_session.proofs.Unhit.{still_at, unhit_at}
use Rattle.left_laws.specs.Left.{scratch, wiped, wiped_core}
use Rattle.cut_laws.specs.Cut.{EndsBut, LeftLosing, lost, to_write}
use Rattle.cut_laws.specs.StepCutLaws.{SteppingCut, SteppingFromCut, SteppingOverCut}
use Rattle.cut_laws.proofs.Ends.{written_ends, written_turns}
use Rattle.cut_laws.proofs.RunLemmas.{transcribed_ends}
use Rattle.cut_laws.proofs.Waits.{run_cut_ends}
use Rattle.cut_laws.proofs.Wiping.{alike_over}

-- what follows the step, in the plan
abbrev behind_it : ℕ → (stepped other : Plan) → Plan
behind_it h stepped other = change (StepDone h) (behind_step h stepped other)

-- ---- the hart stands halted, and some registers of its debug part are others

aside_ends : (h : ℕ) (n : Option ℕ) (m : Machine) (way : Way) (o : Origin) (p : Plan) (lines : List Line) (old new : Target) → IsStill way
    → WritesOnly h n p → Deals m h way o p lines old → OverAside h old new → EndsBut (lost h n) o new
aside_ends h n m way o p lines old new still only d a =
    let there : Deals m h way o p lines a.mid = deals_went_on m h way o p lines old a.mid d a.went in
    let turned : Board = after_turns a.wrote.harts a.mid.board in
    let at : slice_get turned.harts h ≡ Some a.hart =
    stays_same h a.mid.board a.wrote.harts (target_frozen m h way o p lines a.mid still there) ∙ a.here in
    written_turns h n o p lines a.mid a.wrote.harts new.journal there.stands (deals_frozen m h way o p lines a.mid still there) only a.wrote.journal
    ∙ sym (ap (λ b. wiped (lost h n) (machine_of b)) a.wrote.board
    ∙ alike_over (to_write n ++ scratch) (λ (x : Hart). a.left) h turned
    (λ x is. ap (wiped_core (to_write n ++ scratch)) (a.one.alone.core ∙ ap (λ (y : Hart). y.core) (same_Some a.hart x (sym at ∙ is)))))

-- ---- it is let go for the step

held : (h : ℕ) (m : Machine) (o : Origin) (stepped other : Plan) (lines : List Line) (old begun : Target)
    → Deals m h StillWay o (one h stepped other) lines old → Rewrote (with_debug_part step_begun) h old begun
    → Deals m h Holding o (stepping_wait h (behind_it h stepped other)) lines begun
held h m o stepped other lines old begun d at = deals_hold m h o (stepping_wait h (behind_it h stepped other)) lines old begun d at

stops_quietly : (b : Bool) → Quiet (if b then stop (NoHalt most_looks) else stop (NoAck most_looks))
stops_quietly true = tt
stops_quietly false = tt

over_ends : (h : ℕ) (n : Option ℕ) (m : Machine) (o : Origin) (stepped other : Plan) (lines : List Line) (old new : Target)
    → WritesOnly h n (behind_step h stepped other) → Deals m h StillWay o (one h stepped other) lines old → OverCut h old new → EndsBut (lost h n) o new
over_ends h n m o stepped other lines old new only d (StepCutAt.before_step l) =
    aside_ends h n m StillWay o (one h stepped other) lines old new tt (refl, tt) d l
over_ends h n m o stepped other lines old new only d (StepCutAt.in_step r) =
    run_cut_ends (lost h n) m h Holding Asked Over o (ResumeReq h) sees_both lost_step (behind_it h stepped other) lines r.begun new tt
    (λ s. stops_quietly (sees_ack s)) (known-over m h)
    (λ e. written_ends h n o (behind_it h stepped other) lines new e.stands (deals_frozen m h Over o (behind_it h stepped other) lines new tt e) (refl, only))
    (λ asked at. deals_ask m h o _ lines r.begun asked (held h m o stepped other lines old r.begun d r.set_so) at)
    (held h m o stepped other lines old r.begun d r.set_so) r.runs
over_ends h n m o stepped other lines old new only d (StepCutAt.behind_step e) =
    aside_ends h n m Over o (behind_it h stepped other) lines e.ran new tt (refl, only)
    (steps_lead m h o (behind_it h stepped other) lines e.begun e.ran e.steps (held h m o stepped other lines old e.begun d e.set_so)) e.left

-- ---- by the fault

cut_left : (h : ℕ) (n : Option ℕ) (m : Machine) (o : Origin) (stepped other : Plan) (lines : List Line) (old new : Option Far)
    → WritesOnly h n (behind_step h stepped other) → At m h StillWay o (one h stepped other) lines (target_at old) → LeavesAt (OverCut h) old new
    → LeftLosing h n o new
cut_left h n m o stepped other lines None new only a l = absurd (none-some a.target a.is)
cut_left h n m o stepped other lines (Some c) new only a l = record {
  far = l.far;
  is = l.is;
  holds = over_ends h n m o stepped other lines (target_of (site_of c)) (target_of (site_of l.far)) only
      (subst (λ t. Deals m h StillWay o (one h stepped other) lines t) (sym (same_Some (target_of (site_of c)) a.target a.is)) a.holds) l.happened;
}

over_left : (why : AccessFault) (f : Failure) (h : ℕ) (n : Option ℕ) (m : Machine) (o : Origin) (stepped other : Plan) (lines : List Line)
    (old new : Option Far) → Became why f → OverLeft h old new why → IfCut (LeavesAt (OverCut h) old new) why → WritesOnly h n (behind_step h stepped other)
    → At m h StillWay o (one h stepped other) lines (target_at old) → LeftLosing h n o new
over_left (fault.Dmi why) f h n m o stepped other lines old new is told cut only a = cut_left h n m o stepped other lines old new only a cut
over_left (fault.Memory at) f h n m o stepped other lines old new is told cut only a = absurd is
over_left (fault.Register number) f h n m o stepped other lines old new is told cut only a =
    absurd (is_told m h StillWay o (one h stepped other) lines old a told)
over_left fault.StillBusy f h n m o stepped other lines old new is told cut only a = cut_left h n m o stepped other lines old new only a cut
over_left (fault.Run (run_fault.Dmi why)) f h n m o stepped other lines old new is told cut only a = absurd told
over_left (fault.Run (run_fault.NoHalt looks)) f h n m o stepped other lines old new is told cut only a =
    still_as new (λ g t. transcribed_ends (lost h n) o (End.NoHalt looks) lines (target_of (site_of g)) t)
    (subst (λ g. Still (LeftAs o lines g) new) is
    (over_by (fault.Run (run_fault.NoHalt looks)) f h m o stepped other lines old new is told cut a))
over_left (fault.Run (run_fault.NoAck looks)) f h n m o stepped other lines old new is told cut only a =
    still_as new (λ g t. transcribed_ends (lost h n) o (End.NoAck looks) lines (target_of (site_of g)) t)
    (subst (λ g. Still (LeftAs o lines g) new) is
    (over_by (fault.Run (run_fault.NoAck looks)) f h m o stepped other lines old new is told cut a))
over_left (fault.Odd shown) f h n m o stepped other lines old new is told cut only a =
    absurd (is_told m h StillWay o (one h stepped other) lines old a told)

pub stepping_over_cut : SteppingOverCut
stepping_over_cut h n stepped other old_count new_count old new f fell m o lines only a =
    over_left fell.why f h n m o stepped other lines old.far new.far fell.is fell.told fell.cut only a

-- ---- slots without a hit need not be stepped over

unhit_told : (m : Machine) (h : ℕ) (o : Origin) (p : Plan) (lines : List Line) (told : Option Far) → At m h Ready o p lines (target_at told) → UnhitTold h told
unhit_told m h o p lines None a = tt
unhit_told m h o p lines (Some f) a =
    unhit_at m h o p lines (target_of (site_of f)) (subst (λ t. Deals m h Ready o p lines t) (sym (same_Some (target_of (site_of f)) a.target a.is)) a.holds)

pub stepping_cut : SteppingCut
stepping_cut h n stepped other old_count new_count old new f fell m o lines only a =
    let u : UnhitTold h old.far = unhit_told m h o (one h stepped other) lines old.far a in
    over_left fell.why f h n m o stepped other lines old.far new.far fell.is (alone_left h old.far new.far fell.why u fell.told)
    (alone_in_cut h old.far new.far fell.why u fell.cut) only (still_at m h o (one h stepped other) lines (target_at old.far) a)

pub stepping_from_cut : SteppingFromCut
stepping_from_cut h word n stepped other old_count new_count old new f fell m o lines only a =
    let u : UnhitTold h old.far = unhit_told m h o (one h stepped other) lines old.far a in
    over_left fell.why f h n m o stepped other lines old.far new.far fell.is (alone_left h old.far new.far fell.why u fell.told)
    (alone_in_cut h old.far new.far fell.why u fell.cut) only (still_at m h o (one h stepped other) lines (target_at old.far) a)
