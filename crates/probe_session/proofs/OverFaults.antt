-- A step over the spent slots that failed, over a told chip.
use Rattle.std.proofs.Common.{◌≡◌, ◌++◌, ℕ, Bool, true, false, List, Option, Some, None, slice_get, sym, subst, if◌then◌else◌}
use Rattle.std.proofs.lemmas.Option.{none-some, same_Some}
use Rattle.rv_model.specs.Board.{Machine}
use Rattle.debug_model.specs.Scan.{WhereTold}
use Rattle.debug_model.specs.Told.{Far, site_of}
use Rattle.abstract_debugger.specs.Debugger.{Seen as Sight, halted_of, most_looks, one, sees_ack}
use Rattle.abstract_debugger.specs.Lines.{Line}
use Rattle.abstract_debugger.specs.Plan.{Plan, is_step, step_begun, with_debug_part}
use Rattle.abstract_debugger.specs.Plan.Change.{StepDone}
use Rattle.abstract_debugger.specs.Plan.Plan.{change, see}
use Rattle.abstract_debugger.specs.Stands.{At, Deals, IsTranscribed, Origin, Rewrote, Stands, Target}
use Rattle.abstract_debugger.specs.Transcript.{End}
use Rattle.abstract_debugger.specs.Ways.Way.{Holding, Still as StillWay}
use Rattle.abstract_debugger.proofs.DealsLemmas.{deals_hold}
use Rattle.probe_access.specs.declared.fault.AccessFault.{AccessFault}
use Rattle.probe_access.specs.declared.fault.AccessFault.TheVariants as fault
use Rattle.probe_access.specs.Cuts.{IfCut}
use Rattle.probe_run.specs.declared.fault.RunFault.TheVariants as run_fault
use Rattle.probe_run.specs.Acts.{Tells}
use Rattle.probe_run.specs.Happens.{target_of}
use Rattle.probe_run.proofs.SessionLemmas.{steps_lead}
use Rattle.probe_trig.specs.Slots.{AtHarts}
use Rattle.probe_trig.specs.StepCuts.{LeavesAt, OverAside, OverCut, StepCutAt}
use Rattle.probe_trig.specs.Stepping.{OverLeft, OverMissed}
use Rattle.probe_session.specs.declared.fault.Failure.{Failure}
use Rattle.probe_session.specs.Calls.{StepOverFell}
use Rattle.probe_session.specs.Failures.{Became, failure_of_run}
use Rattle.probe_session.specs.Led.{target_at}
use Rattle.probe_session.specs.Transcribed.{OnTheWay, Still}
use Rattle.probe_session.proofs.BrokeOff.{LeftAs, OnWay, by_access, is_told, told_still}
use Rattle.probe_session.proofs.OnTheWay.{turns_twice, turns_way}
use Rattle.probe_session.proofs.ResumedWay.{step_cut_way, step_not_acknowledged, step_not_halted, stepping_wait}

-- what follows the step, in the plan
abbrev behind_it : ℕ → (stepped other : Plan) → Plan
behind_it h stepped other = change (StepDone h) (see (λ b. if is_step (halted_of (slice_get b.harts h)) then stepped else other))

held_deals : (h : ℕ) (m : Machine) (o : Origin) (stepped other : Plan) (lines : List Line) (old held : Target)
    → Deals m h StillWay o (one h stepped other) lines old → Rewrote (with_debug_part step_begun) h old held
    → Deals m h Holding o (stepping_wait h (behind_it h stepped other)) lines held
held_deals h m o stepped other lines old held d at = deals_hold m h o (stepping_wait h (behind_it h stepped other)) lines old held d at

-- of the hart at most some registers are others
aside_way : (h : ℕ) (o : Origin) (p : Plan) (lines : List Line) (old new : Target) → Stands o p lines old → OverAside h old new → OnTheWay o lines new.journal
aside_way h o p lines old new s a = turns_way o p lines old (a.went.harts ++ a.wrote.harts) new.journal s
    (turns_twice old.journal a.mid.journal new.journal a.went.harts a.wrote.harts a.went.journal a.wrote.journal)

over_cut : (h : ℕ) (m : Machine) (o : Origin) (stepped other : Plan) (lines : List Line) (old new : Target)
    → Deals m h StillWay o (one h stepped other) lines old → OverCut h old new → OnTheWay o lines new.journal
over_cut h m o stepped other lines old new d (StepCutAt.before_step l) = aside_way h o (one h stepped other) lines old new d.stands l
over_cut h m o stepped other lines old new d (StepCutAt.in_step r) = step_cut_way m h o (behind_it h stepped other) lines r.begun new
    (held_deals h m o stepped other lines old r.begun d r.set_so) r.runs
over_cut h m o stepped other lines old new d (StepCutAt.behind_step e) =
    aside_way h o (behind_it h stepped other) lines e.ran new (steps_lead m h o (behind_it h stepped other) lines e.begun e.ran e.steps
    (held_deals h m o stepped other lines old e.begun d e.set_so)).stands e.left

-- an object that tells
cut_still : (h : ℕ) (m : Machine) (o : Origin) (stepped other : Plan) (lines : List Line) (old new : Option Far)
    → At m h StillWay o (one h stepped other) lines (target_at old) → LeavesAt (OverCut h) old new → Still (OnWay o lines) new
cut_still h m o stepped other lines None new a l = absurd (none-some a.target a.is)
cut_still h m o stepped other lines (Some c) new a l = record {
  far = l.far;
  is = l.is;
  holds = over_cut h m o stepped other lines (target_of (site_of c)) (target_of (site_of l.far))
      (subst (λ t. Deals m h StillWay o (one h stepped other) lines t) (sym (same_Some (target_of (site_of c)) a.target a.is)) a.holds) l.happened;
}

missed : (acknowledged : Bool) (h looks : ℕ) (e : ℕ → End) (m : Machine) (o : Origin) (stepped other : Plan) (lines : List Line) (f : Failure)
    (old new : Option Far) → looks ≡ most_looks
    → ((s t : Target) → Deals m h StillWay o (one h stepped other) lines s → (last : Sight) → sees_ack last ≡ acknowledged → OverMissed h last s t
    → IsTranscribed o (e most_looks) lines t)
    → ((g : Far) → IsTranscribed o (e looks) lines (target_of (site_of g)) → LeftAs o lines f g) → (last : Sight) → sees_ack last ≡ acknowledged
    → WhereTold (AtHarts (OverMissed h last)) old new
    → At m h StillWay o (one h stepped other) lines (target_at old) → Still (LeftAs o lines f) new
missed acknowledged h looks e m o stepped other lines f old new is step left last ack w a =
    told_still (AtHarts (OverMissed h last)) m h StillWay o (one h stepped other) lines (LeftAs o lines f) old new
    (λ c d l. record {
      far = l.far;
      is = l.is;
      holds = left l.far (subst (λ n. IsTranscribed o (e n) lines (target_of (site_of l.far))) (sym is)
          (step (target_of (site_of c)) (target_of (site_of l.far)) d last ack l.happened));
    }) w a

pub over_by : (why : AccessFault) (f : Failure) (h : ℕ) (m : Machine) (o : Origin) (stepped other : Plan) (lines : List Line) (old new : Option Far)
    → Became why f
    → OverLeft h old new why → IfCut (LeavesAt (OverCut h) old new) why
    → At m h StillWay o (one h stepped other) lines (target_at old) → Still (LeftAs o lines f) new
over_by (fault.Dmi why) f h m o stepped other lines old new is told cut a =
    by_access (fault.Dmi why) f o lines new (LeavesAt (OverCut h) old new) is tt cut (cut_still h m o stepped other lines old new a)
over_by (fault.Memory at) f h m o stepped other lines old new is told cut a = absurd is
over_by (fault.Register number) f h m o stepped other lines old new is told cut a = absurd (is_told m h StillWay o (one h stepped other) lines old a told)
over_by fault.StillBusy f h m o stepped other lines old new is told cut a =
    by_access fault.StillBusy f o lines new (LeavesAt (OverCut h) old new) is tt cut (cut_still h m o stepped other lines old new a)
over_by (fault.Run (run_fault.Dmi why)) f h m o stepped other lines old new is told cut a = absurd told
over_by (fault.Run (run_fault.NoHalt looks)) f h m o stepped other lines old new is told cut a =
    subst (λ g. Still (LeftAs o lines g) new) (sym is)
    (missed true h looks (λ n. End.NoHalt n) m o stepped other lines (failure_of_run (run_fault.NoHalt looks)) old new told.0
    (λ s t d last ack x. step_not_halted m h o (behind_it h stepped other) last lines x.held t ack (held_deals h m o stepped other lines s x.held d x.holds)
    x.missed) (λ g t. t) told.1.0 told.1.1 told.1.2 a)
over_by (fault.Run (run_fault.NoAck looks)) f h m o stepped other lines old new is told cut a =
    subst (λ g. Still (LeftAs o lines g) new) (sym is)
    (missed false h looks (λ n. End.NoAck n) m o stepped other lines (failure_of_run (run_fault.NoAck looks)) old new told.0
    (λ s t d last ack x. step_not_acknowledged m h o (behind_it h stepped other) last lines x.held t ack
    (held_deals h m o stepped other lines s x.held d x.holds) x.missed) (λ g t. t) told.1.0 told.1.1 told.1.2 a)
over_by (fault.Odd shown) f h m o stepped other lines old new is told cut a = absurd (is_told m h StillWay o (one h stepped other) lines old a told)

pub over_fell : (h : ℕ) (m : Machine) (o : Origin) (stepped other : Plan) (lines : List Line) (old_count new_count : ℕ) (old new : Tells) (f : Failure)
    → StepOverFell h old_count new_count old new f
    → At m h StillWay o (one h stepped other) lines (target_at old.far) → Still (LeftAs o lines f) new.far
over_fell h m o stepped other lines old_count new_count old new f fell a =
    over_by fell.why f h m o stepped other lines old.far new.far fell.is fell.told fell.cut a
