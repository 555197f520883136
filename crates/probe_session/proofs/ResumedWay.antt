-- Resumes and steps that were cut, and those that nobody acknowledged.
use Rattle.std.proofs.Common.{◌≡◌, ℕ, Bool, true, false, List, ap, if◌then◌else◌}
use Rattle.rv_model.specs.Board.{Machine}
use Rattle.debug_model.specs.declared.point.Point.TheVariants.{ResumeReq}
use Rattle.abstract_debugger.specs.Debugger.{Seen, going, lost_step, most_looks, sees_ack, sees_both, unseen, until}
use Rattle.abstract_debugger.specs.Lines.{Line}
use Rattle.abstract_debugger.specs.Plan.{Plan}
use Rattle.abstract_debugger.specs.Plan.Plan.{stop, take}
use Rattle.abstract_debugger.specs.Plan.PlanEnd.{NoAck, NoHalt}
use Rattle.abstract_debugger.specs.Stands.{Deals, IsTranscribed, Origin, Target}
use Rattle.abstract_debugger.specs.Transcript.{End}
use Rattle.abstract_debugger.specs.Ways.Way.{Asked, Going, Holding, Ready}
use Rattle.abstract_debugger.proofs.DealsLemmas.{deals_ask, deals_at_plan, deals_go}
use Rattle.abstract_debugger.proofs.StandsLemmas.{transcribed}
use Rattle.probe_run.specs.Happens.{MissedAt, RunCut}
use Rattle.probe_session.specs.Transcribed.{OnTheWay}
use Rattle.probe_session.proofs.OnTheWay.{missed_deals, run_cut_way}

pub resume_cut_way : (m : Machine) (h : ℕ) (o : Origin) (next : Plan) (lines : List Line) (old new : Target) → Deals m h Ready o (going h next) lines old
    → RunCut (ResumeReq h) sees_ack h old new → OnTheWay o lines new.journal
resume_cut_way m h o next lines old new d c =
    run_cut_way m h Ready Going o (ResumeReq h) sees_ack (λ s. stop (NoAck most_looks)) next lines old new tt
    (λ asked at. deals_go m h o _ lines old asked d at) d c

pub resume_missed : (m : Machine) (h : ℕ) (o : Origin) (next : Plan) (last : Seen) (lines : List Line) (old new : Target)
    → Deals m h Ready o (going h next) lines old → MissedAt (ResumeReq h) sees_ack h last old new
    → IsTranscribed o (End.NoAck most_looks) lines new
resume_missed m h o next last lines old new d missed =
    transcribed o (NoAck most_looks) lines new
    (missed_deals m h Going o (ResumeReq h) sees_ack (λ s. stop (NoAck most_looks)) next last lines old new
    (λ asked at. deals_go m h o _ lines old asked d at) missed).stands

-- ---- a step, behind the change in front of it

abbrev pub stepping_wait : ℕ → Plan → Plan
stepping_wait h next = take (ResumeReq h) (until most_looks h sees_both lost_step next unseen)

pub step_cut_way : (m : Machine) (h : ℕ) (o : Origin) (next : Plan) (lines : List Line) (old new : Target)
    → Deals m h Holding o (stepping_wait h next) lines old → RunCut (ResumeReq h) sees_both h old new → OnTheWay o lines new.journal
step_cut_way m h o next lines old new d c =
    run_cut_way m h Holding Asked o (ResumeReq h) sees_both lost_step next lines old new tt (λ asked at. deals_ask m h o _ lines old asked d at) d c

step_missed : (m : Machine) (h : ℕ) (o : Origin) (next : Plan) (last : Seen) (lines : List Line) (old new : Target)
    → Deals m h Holding o (stepping_wait h next) lines old → MissedAt (ResumeReq h) sees_both h last old new
    → Deals m h Asked o (lost_step last) lines new
step_missed m h o next last lines old new d missed =
    missed_deals m h Asked o (ResumeReq h) sees_both lost_step next last lines old new (λ asked at. deals_ask m h o _ lines old asked d at) missed

by_ack : (b : Bool) (is : Bool) (p q : Plan) → b ≡ is → (if b then p else q) ≡ (if is then p else q)
by_ack b is p q e = ap (λ (x : Bool). if x then p else q) e

pub step_not_halted : (m : Machine) (h : ℕ) (o : Origin) (next : Plan) (last : Seen) (lines : List Line) (old new : Target) → sees_ack last ≡ true
    → Deals m h Holding o (stepping_wait h next) lines old → MissedAt (ResumeReq h) sees_both h last old new
    → IsTranscribed o (End.NoHalt most_looks) lines new
step_not_halted m h o next last lines old new is d missed =
    transcribed o (NoHalt most_looks) lines new
    (deals_at_plan m h Asked o _ _ lines new (by_ack (sees_ack last) true (stop (NoHalt most_looks)) (stop (NoAck most_looks)) is)
    (step_missed m h o next last lines old new d missed)).stands

pub step_not_acknowledged : (m : Machine) (h : ℕ) (o : Origin) (next : Plan) (last : Seen) (lines : List Line) (old new : Target) → sees_ack last ≡ false
    → Deals m h Holding o (stepping_wait h next) lines old → MissedAt (ResumeReq h) sees_both h last old new
    → IsTranscribed o (End.NoAck most_looks) lines new
step_not_acknowledged m h o next last lines old new is d missed =
    transcribed o (NoAck most_looks) lines new
    (deals_at_plan m h Asked o _ _ lines new (by_ack (sees_ack last) false (stop (NoHalt most_looks)) (stop (NoAck most_looks)) is)
    (step_missed m h o next last lines old new d missed)).stands
