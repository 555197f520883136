-- A Look or a call of run control that failed, over a told chip.
use Rattle.std.proofs.Common.{◌≡◌, ℕ, Bool, true, false, List, Option, refl, ap}
use Rattle.rv_model.specs.Board.{Machine}
use Rattle.debug_model.specs.declared.point.Point.TheVariants.{HaltClear, HaltReq, Look, ResumeReq}
use Rattle.debug_model.specs.Told.{site_of}
use Rattle.abstract_debugger.specs.Debugger.{Seen, going, halting, look, most_looks, seen_at, sees_ack, sees_halted}
use Rattle.abstract_debugger.specs.Laws.{Quiet, WritesOnly}
use Rattle.abstract_debugger.specs.Lines.{Line}
use Rattle.abstract_debugger.specs.Plan.{Plan}
use Rattle.abstract_debugger.specs.Plan.Plan.{stop, take}
use Rattle.abstract_debugger.specs.Plan.PlanEnd.{NoAck, NoHalt}
use Rattle.abstract_debugger.specs.Stands.{At, Cut, Deals, Looked, Origin, Target}
use Rattle.abstract_debugger.specs.Turns.{after_turns}
use Rattle.abstract_debugger.specs.Ways.Way.{Going, Idle, Ready, Still as StillWay}
use Rattle.abstract_debugger.proofs.DealsLemmas.{deals_frozen, deals_go, deals_halt_clear, deals_halt_req, deals_halted, deals_looked, deals_selects}
use Rattle.abstract_debugger.proofs.KnownPoints.{known-gone, known-still}
use Rattle.abstract_debugger.proofs.StandsLemmas.{went_on}
use Rattle.probe_run.specs.declared.fault.RunFault.{RunFault}
use Rattle.probe_run.specs.declared.fault.RunFault.TheVariants as run_fault
use Rattle.probe_run.specs.Acts.{Tells}
use Rattle.probe_run.specs.Happens.{HaltCut, HaltLeft, Leaves as Left, LeftBy, LookLeft, MissedAt, ResumeLeft, RunCut, target_of}
use Rattle.probe_run.proofs.SessionLemmas.{met}
use Rattle.probe_session.specs.Led.{target_at}
use Rattle.probe_session.proofs.BrokeOff.{told_still}
use Rattle.probe_session.proofs.OnTheWay.{halt_missed}
use Rattle.probe_session.proofs.ResumedWay.{resume_missed}
use Rattle.left_laws.specs.Left.{Spared, wiped}
use Rattle.left_laws.specs.Left.Spared.{Nothing}
use Rattle.rv_model.specs.Board.{machine_of}
use Rattle.abstract_debugger.specs.Stands.{IsTranscribed}
use Rattle.abstract_debugger.specs.Transcript.{End}
use Rattle.cut_laws.specs.Cut.{EndsBut, LeftLosing, LeftWhole, lost}
use Rattle.cut_laws.specs.RunCutLaws.{HaltingCut, LookingCut, ResumingCut, WritesSeen}
use Rattle.cut_laws.proofs.Ends.{quiet_ends, written_ends}
use Rattle.cut_laws.proofs.Waits.{run_cut_ends}

-- a session that has stopped has the chip's board
pub transcribed_ends : (sp : Spared) (o : Origin) (e : End) (lines : List Line) (t : Target) → IsTranscribed o e lines t → EndsBut sp o t
transcribed_ends sp o e lines t i = ap (λ b. wiped sp (machine_of b)) i.board_is

-- where the hart rests behind a point
rests_ends : (h : ℕ) (n : Option ℕ) (m : Machine) (o : Origin) (p : Plan) (lines : List Line) (t : Target) → WritesOnly h n p → Deals m h StillWay o p lines t
    → EndsBut (lost h n) o t
rests_ends h n m o p lines t only d = written_ends h n o p lines t d.stands (deals_frozen m h StillWay o p lines t tt d) only

-- ---- Looks

looked_ends : (b : Bool) (h : ℕ) (n : Option ℕ) (m : Machine) (o : Origin) (next : Seen → Plan) (now : Seen) (lines : List Line) (old new : Target)
    → sees_halted now ≡ b → WritesSeen h n next → Deals m h Idle o (look h next) lines old → Looked h now old new → EndsBut (lost h n) o new
looked_ends true h n m o next now lines old new is only d at =
    rests_ends h n m o (next now) lines new (only.halted now is) (deals_halted m h o next now lines old new is d at)
looked_ends false h n m o next now lines old new is only d at =
    quiet_ends (lost h n) o (next now) lines new (only.others now is) (deals_looked m h Idle Idle o h next now lines old new (λ w e k. k) d at).stands

look_cut_loses : (h : ℕ) (n : Option ℕ) (m : Machine) (o : Origin) (next : Seen → Plan) (lines : List Line) (old new : Target) → WritesSeen h n next
    → Deals m h Idle o (look h next) lines old → Cut (Look h) old new → EndsBut (lost h n) o new
look_cut_loses h n m o next lines old new only d (Cut.before went) =
    quiet_ends (lost h n) o (look h next) lines new tt (went_on o (look h next) lines old new d.stands went)
look_cut_loses h n m o next lines old new only d (Cut.behind at) =
    let now : Seen = seen_at h (after_turns at.before old.board) in
    looked_ends (sees_halted now) h n m o next now lines old new refl only d (record { pointed = at; shows = refl })

look_left : (why : RunFault) (h : ℕ) (n : Option ℕ) (m : Machine) (o : Origin) (next : Seen → Plan) (lines : List Line) (old new : Tells) → WritesSeen h n next
    → LookLeft h old.far new.far why → At m 0 Idle o (look h next) lines (target_at old.far) → LeftLosing h n o new.far
look_left (run_fault.Dmi why) h n m o next lines old new only told a =
    told_still (LeftBy (Cut (Look h)) h) m 0 Idle o (look h next) lines (λ g. EndsBut (lost h n) o (target_of (site_of g))) old.far new.far
    (λ c d l. record {
      far = l.far;
      is = l.is;
      holds = look_cut_loses h n m o next lines (target_of (site_of c)) (target_of (site_of l.far)) only
          (deals_selects m 0 h o (look h next) lines (target_of (site_of c)) d) l.happened;
    }) told a
look_left (run_fault.NoHalt looks) h n m o next lines old new only told a = absurd told
look_left (run_fault.NoAck looks) h n m o next lines old new only told a = absurd told

pub looking_cut : LookingCut
looking_cut h n next old_count new_count old new f fell m o lines only a = look_left fell.why h n m o next lines old new only fell.told a

-- ---- a halt

halt_cut_ends : (h : ℕ) (n : Option ℕ) (m : Machine) (o : Origin) (next : Plan) (lines : List Line) (old new : Target) → WritesOnly h n next
    → Deals m h Idle o (halting h next) lines old → HaltCut h old new → EndsBut (lost h n) o new
halt_cut_ends h n m o next lines old new only d (HaltCut.before_halt c) =
    run_cut_ends (lost h n) m h Idle Idle Idle o (HaltReq h) sees_halted (λ s. stop (NoHalt most_looks)) (take (HaltClear h) next) lines old new tt
    (λ s. tt) (λ w e k. k) (λ e. quiet_ends (lost h n) o (take (HaltClear h) next) lines new tt e.stands)
    (λ asked at. deals_halt_req m h Idle h o _ lines old asked d at) d c
halt_cut_ends h n m o next lines old new only d (HaltCut.at_clear c) = cleared c.cut
  where
    there : Deals m h StillWay o (take (HaltClear h) next) lines c.mid
    there = met m h Idle StillWay o (HaltReq h) sees_halted (λ s. stop (NoHalt most_looks)) (take (HaltClear h) next) lines old c.mid c.met (known-still m h)
        (deals_halt_req m h Idle h o _ lines old c.met.asked d c.met.asks)

    cleared : Cut (HaltClear h) c.mid new → EndsBut (lost h n) o new
    cleared (Cut.before went) =
        quiet_ends (lost h n) o (take (HaltClear h) next) lines new tt (went_on o (take (HaltClear h) next) lines c.mid new there.stands went)
    cleared (Cut.behind at) = rests_ends h n m o next lines new only (deals_halt_clear m h StillWay h o next lines c.mid new there at)

halt_left : (why : RunFault) (h : ℕ) (n : Option ℕ) (m : Machine) (o : Origin) (next : Plan) (lines : List Line) (old new : Tells) → WritesOnly h n next
    → HaltLeft h old.far new.far why → At m 0 Idle o (halting h next) lines (target_at old.far) → LeftLosing h n o new.far
halt_left (run_fault.Dmi why) h n m o next lines old new only told a =
    told_still (LeftBy (HaltCut h) h) m 0 Idle o (halting h next) lines (λ g. EndsBut (lost h n) o (target_of (site_of g))) old.far new.far
    (λ c d l. record {
      far = l.far;
      is = l.is;
      holds = halt_cut_ends h n m o next lines (target_of (site_of c)) (target_of (site_of l.far)) only
          (deals_selects m 0 h o (halting h next) lines (target_of (site_of c)) d) l.happened;
    }) told a
halt_left (run_fault.NoHalt looks) h n m o next lines old new only told a =
    told_still (Left (MissedAt (HaltReq h) sees_halted h told.0) h) m 0 Idle o (halting h next) lines
    (λ g. EndsBut (lost h n) o (target_of (site_of g))) old.far new.far
    (λ c d l. record {
      far = l.far;
      is = l.is;
      holds = transcribed_ends (lost h n) o (End.NoHalt most_looks) lines (target_of (site_of l.far))
          (halt_missed m h o next told.0 lines (target_of (site_of c)) (target_of (site_of l.far))
          (deals_selects m 0 h o (halting h next) lines (target_of (site_of c)) d) l.happened);
    }) told.1 a
halt_left (run_fault.NoAck looks) h n m o next lines old new only told a = absurd told

pub halting_cut : HaltingCut
halting_cut h n next old_count new_count old new f fell m o lines only a = halt_left fell.why h n m o next lines old new only fell.told a

-- ---- a resume

resume_cut_ends : (h : ℕ) (m : Machine) (o : Origin) (next : Plan) (lines : List Line) (old new : Target) → Quiet next
    → Deals m h Ready o (going h next) lines old → RunCut (ResumeReq h) sees_ack h old new → EndsBut Nothing o new
resume_cut_ends h m o next lines old new quiet d c =
    run_cut_ends Nothing m h Ready Going Idle o (ResumeReq h) sees_ack (λ s. stop (NoAck most_looks)) next lines old new tt
    (λ s. tt) (known-gone m h) (λ e. quiet_ends Nothing o next lines new quiet e.stands) (λ asked at. deals_go m h o _ lines old asked d at) d c

resume_left : (why : RunFault) (h : ℕ) (m : Machine) (o : Origin) (next : Plan) (lines : List Line) (old new : Tells) → Quiet next
    → ResumeLeft h old.far new.far why → At m h Ready o (going h next) lines (target_at old.far) → LeftWhole o new.far
resume_left (run_fault.Dmi why) h m o next lines old new quiet told a =
    told_still (LeftBy (RunCut (ResumeReq h) sees_ack h) h) m h Ready o (going h next) lines (λ g. EndsBut Nothing o (target_of (site_of g)))
    old.far new.far
    (λ c d l. record {
      far = l.far;
      is = l.is;
      holds = resume_cut_ends h m o next lines (target_of (site_of c)) (target_of (site_of l.far)) quiet d l.happened;
    }) told a
resume_left (run_fault.NoHalt looks) h m o next lines old new quiet told a = absurd told
resume_left (run_fault.NoAck looks) h m o next lines old new quiet told a =
    told_still (Left (MissedAt (ResumeReq h) sees_ack h told.0) h) m h Ready o (going h next) lines
    (λ g. EndsBut Nothing o (target_of (site_of g))) old.far new.far
    (λ c d l. record {
      far = l.far;
      is = l.is;
      holds = transcribed_ends Nothing o (End.NoAck most_looks) lines (target_of (site_of l.far))
          (resume_missed m h o next told.0 lines (target_of (site_of c)) (target_of (site_of l.far)) d l.happened);
    }) told.1 a

pub resuming_cut : ResumingCut
resuming_cut h next old_count new_count old new f fell m o lines quiet a = resume_left fell.why h m o next lines old new quiet fell.told a
