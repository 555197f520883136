-- Each call of a session that fails, over a told chip.
use Rattle.std.proofs.Common.{◌≡◌, ◌∙◌, ◌++◌, ℕ, List, Option, Some, None, sym, ap, subst}
use Rattle.std.proofs.lemmas.Option.{none-some, same_Some}
use Rattle.rv_model.specs.Board.{Machine}
use Rattle.debug_model.specs.declared.point.Point.TheVariants.{HaltReq, Look, ResumeReq}
use Rattle.debug_model.specs.Dmi.{NoneOperated}
use Rattle.debug_model.specs.Module.{Site}
use Rattle.debug_model.specs.Scan.{WhereTold}
use Rattle.debug_model.specs.Told.{Far, IsReady, site_of}
use Rattle.abstract_debugger.specs.Debugger.{Seen, going, halting, look, most_looks, sees_ack, sees_halted}
use Rattle.abstract_debugger.specs.Lines.{Line}
use Rattle.abstract_debugger.specs.Plan.{Plan}
use Rattle.abstract_debugger.specs.Stands.{At, Cut, Deals, IsTranscribed, Origin, Target}
use Rattle.abstract_debugger.specs.Transcript.{End}
use Rattle.abstract_debugger.specs.Turns.{turns}
use Rattle.abstract_debugger.specs.Ways.{Way}
use Rattle.abstract_debugger.specs.Ways.Way.{Idle, Ready}
use Rattle.abstract_debugger.proofs.DealsLemmas.{deals_selects}
use Rattle.probe_run.specs.declared.fault.RunFault.{RunFault}
use Rattle.probe_run.specs.declared.fault.RunFault.TheVariants as run_fault
use Rattle.probe_run.specs.Acts.{Tells}
use Rattle.probe_run.specs.Happens.{HaltCut, HaltLeft, Leaves as Left, LeftBy, LookLeft, MissedAt, ResumeLeft, RunCut, target_of}
use Rattle.probe_run.specs.Outcomes.{HaltFails, ResumeFails}
use Rattle.probe_run.specs.Sites.{TurnsAlone}
use Rattle.probe_run.proofs.SiteLemmas.{quiet_deeds}
use Rattle.probe_session.specs.declared.fault.Failure.{Failure}
use Rattle.probe_session.specs.Calls.{HaltFell, IdcodeFell, LookFell, ResumeFell}
use Rattle.probe_session.specs.Failures.{failure_of_run}
use Rattle.probe_session.specs.Led.{target_at}
use Rattle.probe_session.specs.Transcribed.{OnTheWay, Still}
use Rattle.probe_session.proofs.BrokeOff.{LeftAs, OnWay, by_dmi, told_still}
use Rattle.probe_session.proofs.OnTheWay.{cut_way, halt_cut_way, halt_missed, turns_way}
use Rattle.probe_session.proofs.ResumedWay.{resume_cut_way, resume_missed}

-- ---- the transport

pub idcode_fell : (m : Machine) (sel : ℕ) (way : Way) (o : Origin) (p : Plan) (lines : List Line) (old_count new_count : ℕ) (old new : Tells) (f : Failure)
    → IdcodeFell old_count new_count old new f → At m sel way o p lines (target_at old.far)
    → Still (LeftAs o lines f) new.far
idcode_fell m sel way o p lines old_count new_count old new f fell a =
    by_dmi fell.why f o lines new.far fell.is (passed old.far fell.ready fell.told a)
  where
    passed : (far : Option Far) → IsReady far → WhereTold NoneOperated far new.far → At m sel way o p lines (target_at far) → Still (OnWay o lines) new.far
    passed None ready w b = absurd (none-some b.target b.is)
    passed (Some c) ready w b =
        let alone : TurnsAlone (site_of c) (site_of w.far) = quiet_deeds (site_of c) (site_of w.far)
        (record { no_command = ready.unit.commands.idle; no_access = ready.unit.bus.idle }) w.site in
        record {
          far = w.far;
          is = w.is;
          holds = turns_way o p lines b.target alone.harts (site_of w.far).journal b.holds.stands
              (ap (λ (s : Site). s.journal) alone.is ∙ ap (λ (t : Target). t.journal ++ turns alone.harts) (same_Some (target_of (site_of c)) b.target b.is));
        }

-- ---- Looks and run control

look_fell_by : (h : ℕ) (m : Machine) (o : Origin) (p : Plan) (lines : List Line) (old new : Option Far)
    → ((s t : Target) → Deals m 0 Idle o p lines s → Cut (Look h) s t → OnTheWay o lines t.journal)
    → WhereTold (LeftBy (Cut (Look h)) h) old new → At m 0 Idle o p lines (target_at old) → Still (OnWay o lines) new
look_fell_by h m o p lines old new step w a =
    told_still (LeftBy (Cut (Look h)) h) m 0 Idle o p lines (OnWay o lines) old new
    (λ c d l. record { far = l.far; is = l.is; holds = step (target_of (site_of c)) (target_of (site_of l.far)) d l.happened }) w a

run_fell : (why : RunFault) (f : Failure) (h : ℕ) (m : Machine) (o : Origin) (p : Plan) (lines : List Line) (old_count new_count : ℕ) (old new : Tells)
    → ((s t : Target) → Deals m 0 Idle o p lines s → Cut (Look h) s t → OnTheWay o lines t.journal)
    → LookLeft h old.far new.far why → f ≡ failure_of_run why → At m 0 Idle o p lines (target_at old.far)
    → Still (LeftAs o lines f) new.far
run_fell (run_fault.Dmi why) f h m o p lines old_count new_count old new step told is a =
    by_dmi why f o lines new.far is (look_fell_by h m o p lines old.far new.far step told a)
run_fell (run_fault.NoHalt looks) f h m o p lines old_count new_count old new step told is a = absurd told
run_fell (run_fault.NoAck looks) f h m o p lines old_count new_count old new step told is a = absurd told

pub look_fell : (h : ℕ) (m : Machine) (o : Origin) (next : Seen → Plan) (lines : List Line) (old_count new_count : ℕ) (old new : Tells) (f : Failure)
    → LookFell h old_count new_count old new f
    → At m 0 Idle o (look h next) lines (target_at old.far) → Still (LeftAs o lines f) new.far
look_fell h m o next lines old_count new_count old new f fell a =
    run_fell fell.why f h m o (look h next) lines old_count new_count old new (λ s t d c. cut_way o (Look h) _ lines s t tt d.stands c)
    fell.told fell.is a

-- 64 Looks in vain
at_most : (looks : ℕ) (o : Origin) (lines : List Line) (e : ℕ → End) (t : Target) → looks ≡ most_looks → IsTranscribed o (e most_looks) lines t
    → IsTranscribed o (e looks) lines t
at_most looks o lines e t is i = subst (λ n. IsTranscribed o (e n) lines t) (sym is) i

halt_fell_by : (why : RunFault) (f : Failure) (h : ℕ) (m : Machine) (o : Origin) (next : Plan) (lines : List Line) (old_count new_count : ℕ) (old new : Tells)
    → HaltFails h old_count new_count old new why → HaltLeft h old.far new.far why
    → f ≡ failure_of_run why → At m 0 Idle o (halting h next) lines (target_at old.far) → Still (LeftAs o lines f) new.far
halt_fell_by (run_fault.Dmi why) f h m o next lines old_count new_count old new heard told is a =
    by_dmi why f o lines new.far is
    (told_still (LeftBy (HaltCut h) h) m 0 Idle o (halting h next) lines (OnWay o lines) old.far new.far
    (λ c d l. record {
      far = l.far;
      is = l.is;
      holds = halt_cut_way m h o next lines (target_of (site_of c)) (target_of (site_of l.far))
          (deals_selects m 0 h o (halting h next) lines (target_of (site_of c)) d) l.happened;
    }) told a)
halt_fell_by (run_fault.NoHalt looks) f h m o next lines old_count new_count old new heard told is a =
    subst (λ g. Still (LeftAs o lines g) new.far) (sym is)
    (told_still (Left (MissedAt (HaltReq h) sees_halted h told.0) h) m 0 Idle o (halting h next) lines
    (LeftAs o lines (failure_of_run (run_fault.NoHalt looks))) old.far new.far
    (λ c d l. record {
      far = l.far;
      is = l.is;
      holds = at_most looks o lines (λ n. End.NoHalt n) (target_of (site_of l.far)) heard.0
          (halt_missed m h o next told.0 lines (target_of (site_of c)) (target_of (site_of l.far))
          (deals_selects m 0 h o (halting h next) lines (target_of (site_of c)) d) l.happened);
    }) told.1 a)
halt_fell_by (run_fault.NoAck looks) f h m o next lines old_count new_count old new heard told is a = absurd heard

pub halt_fell : (h : ℕ) (m : Machine) (o : Origin) (next : Plan) (lines : List Line) (old_count new_count : ℕ) (old new : Tells) (f : Failure)
    → HaltFell h old_count new_count old new f
    → At m 0 Idle o (halting h next) lines (target_at old.far) → Still (LeftAs o lines f) new.far
halt_fell h m o next lines old_count new_count old new f fell a = halt_fell_by fell.why f h m o next lines old_count new_count old new fell.heard
    fell.told fell.is a

resume_fell_by : (why : RunFault) (f : Failure) (h : ℕ) (m : Machine) (o : Origin) (next : Plan) (lines : List Line) (old_count new_count : ℕ) (old new : Tells)
    → ResumeFails h old_count new_count old new why → ResumeLeft h old.far new.far why
    → f ≡ failure_of_run why → At m h Ready o (going h next) lines (target_at old.far) → Still (LeftAs o lines f) new.far
resume_fell_by (run_fault.Dmi why) f h m o next lines old_count new_count old new heard told is a =
    by_dmi why f o lines new.far is
    (told_still (LeftBy (RunCut (ResumeReq h) sees_ack h) h) m h Ready o (going h next) lines (OnWay o lines) old.far new.far
    (λ c d l. record {
      far = l.far;
      is = l.is;
      holds = resume_cut_way m h o next lines (target_of (site_of c)) (target_of (site_of l.far)) d
          l.happened;
    }) told a)
resume_fell_by (run_fault.NoHalt looks) f h m o next lines old_count new_count old new heard told is a = absurd heard
resume_fell_by (run_fault.NoAck looks) f h m o next lines old_count new_count old new heard told is a =
    subst (λ g. Still (LeftAs o lines g) new.far) (sym is)
    (told_still (Left (MissedAt (ResumeReq h) sees_ack h told.0) h) m h Ready o (going h next) lines
    (LeftAs o lines (failure_of_run (run_fault.NoAck looks))) old.far new.far
    (λ c d l. record {
      far = l.far;
      is = l.is;
      holds = at_most looks o lines (λ n. End.NoAck n) (target_of (site_of l.far)) heard.0
          (resume_missed m h o next told.0 lines (target_of (site_of c)) (target_of (site_of l.far)) d l.happened);
    }) told.1 a)

pub resume_fell : (h : ℕ) (m : Machine) (o : Origin) (next : Plan) (lines : List Line) (old_count new_count : ℕ) (old new : Tells) (f : Failure)
    → ResumeFell h old_count new_count old new f
    → At m h Ready o (going h next) lines (target_at old.far) → Still (LeftAs o lines f) new.far
resume_fell h m o next lines old_count new_count old new f fell a = resume_fell_by fell.why f h m o next lines old_count new_count old new fell.heard
    fell.told fell.is a
