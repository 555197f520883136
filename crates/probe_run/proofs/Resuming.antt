-- What a resume and a single step did at a told chip, by their answers.
use Rattle.std.proofs.Common.{◌≡◌, ◌++◌, ◌+◌, ◌<◌, ◌^◌, ℕ, List, [], length, map, All, Bool, Option, ap, subst, arith}
use Rattle.std.proofs.lemmas.List.Elements.{All-nil}
use Rattle.rv_model.specs.Board.{DebugPart}
use Rattle.debug_model.specs.Addresses.{dmcontrol_address, dmstatus_address}
use Rattle.debug_model.specs.declared.dmi.DmiFault.{DmiFault}
use Rattle.debug_model.specs.declared.dmi_op.DmiOp.TheVariants.{Read, Write}
use Rattle.debug_model.specs.declared.point.Point.TheVariants.{ResumeReq}
use Rattle.debug_model.specs.Dmi.{SiteCut}
use Rattle.debug_model.specs.Module.{DebugModule, Site}
use Rattle.debug_model.specs.Scan.{WhereTold}
use Rattle.debug_model.specs.Told.{Far, HartExists, HartHalted, IsHalted, IsReady, Selects, SiteReady}
use Rattle.abstract_debugger.specs.Debugger.{Seen, most_looks, sees_ack, sees_both}
use Rattle.probe_run.specs.declared.control.Request.TheVariants.{Resume}
use Rattle.probe_run.specs.Acts.{Tells}
use Rattle.probe_run.specs.Happens.{Exists, Leaves, LeftBy, MetAt, MissedAt, RunCut, target_of}
use Rattle.probe_run.specs.Looks.{Met, Missed, Shows, ShowsNot, look_act, looks_until, seen_in}
use Rattle.probe_run.specs.Outcomes.{RunBroke, asks}
use Rattle.probe_run.specs.Outcomes.RunBroke.{at_first, at_look}
use Rattle.probe_run.specs.Requests.{control_word}
use Rattle.probe_run.proofs.Asking.{GoAsked, KeptByTurns, Stopped, Unasked, go_asked_kept, stopped_kept, unasked_kept}
use Rattle.probe_run.proofs.Between.{between_ready, between_weaker, ready_between, stopped_unasked}
use Rattle.probe_run.proofs.Calls.{HappenedCut, Holds, Outcome, broke_outcome, did_outcome, outcome_holds, outcome_leaves, outcome_left}
use Rattle.probe_run.proofs.FirstLooks.{first_outcome}
use Rattle.probe_run.proofs.HartControl.{CanRun, reveals_ack, reveals_both, stopped_halted, there_met}
use Rattle.probe_run.proofs.Moves.{Reveals, cut_point, moves_resume, resume_notes}
use Rattle.probe_run.proofs.RanLemmas.{Ran}
use Rattle.probe_run.proofs.Runs.{MetRan, MissedRan, RunCutAs, look_cut_ran, met_ran, missed_ran, request_cut}

-- ---- Ok: this is known of the hart behind it

pub record GoRan (test : Seen → Bool) (R : DebugPart → Type 0) (h : ℕ) (s t : Site) : Type 0 where
  pub met : MetRan (ResumeReq h) test R h s t
  pub there : HartExists h t.board

go_ran : (test : Seen → Bool) (R : DebugPart → Type 0) → KeptByTurns R → (h : ℕ) → h < 2 ^ 10 → (vain : List ℕ) (last : ℕ) → All (ShowsNot test) vain
    → Shows test last → length vain < most_looks
    → Reveals h (seen_in last) GoAsked R → (s t : Site) → CanRun h s → Ran (asks Resume h ++ looks_until vain last) s t → GoRan test R h s t
go_ran test R keeps h small vain last all shown few reveals s t can (m, did, rest) =
    let r : MetRan (ResumeReq h) test R h s t = met_ran (ResumeReq h) test GoAsked R go_asked_kept keeps h s m t vain last
    (moves_resume h (control_word Resume h) s m small (ready_between h s can.ready) can.there did) all shown few reveals rest in
    record { met = r; there = there_met (ResumeReq h) test h (target_of s) (target_of t) r.met can.there }

go_outcome : (test : Seen → Bool) (R : DebugPart → Type 0) → KeptByTurns R → (h : ℕ) → h < 2 ^ 10 → (old new : Tells) → Holds (CanRun h) old.far
    → (m : Met test (asks Resume h) old new)
    → Reveals h (seen_in m.last) GoAsked R → Outcome (GoRan test R h) old.far new.far
go_outcome test R keeps h small old new can m reveals =
    did_outcome (asks Resume h ++ looks_until m.vain m.last) (GoRan test R h) (CanRun h) old new can
    (λ s t c ran. go_ran test R keeps h small m.vain m.last m.none m.shown m.few reveals s t c ran) m.did

resume_outcome : (h : ℕ) → h < 2 ^ 10 → (old new : Tells) → Holds (CanRun h) old.far → Met sees_ack (asks Resume h) old new
    → Outcome (GoRan sees_ack Unasked h) old.far new.far
resume_outcome h small old new can m = go_outcome sees_ack Unasked unasked_kept h small old new can m (reveals_ack h (seen_in m.last) m.shown)

step_outcome : (h : ℕ) → h < 2 ^ 10 → (old new : Tells) → Holds (CanRun h) old.far → Met sees_both (asks Resume h) old new
    → Outcome (GoRan sees_both Stopped h) old.far new.far
step_outcome h small old new can m = go_outcome sees_both Stopped stopped_kept h small old new can m (reveals_both h (seen_in m.last) m.shown)

pub resume_happened : (h : ℕ) → h < 2 ^ 10 → (old new : Tells) → Holds (CanRun h) old.far → Met sees_ack (asks Resume h) old new
    → WhereTold (Leaves (MetAt (ResumeReq h) sees_ack h) h) old.far new.far
resume_happened h small old new can m =
    outcome_leaves (MetAt (ResumeReq h) sees_ack h) h (GoRan sees_ack Unasked h) old.far new.far (λ s t r. record { happened = r.met.met; unit = r.met.unit })
    (resume_outcome h small old new can m)

pub resume_ready : (h : ℕ) → h < 2 ^ 10 → (old new : Tells) → Holds (CanRun h) old.far → Met sees_ack (asks Resume h) old new → IsReady new.far
resume_ready h small old new can m = outcome_holds SiteReady (GoRan sees_ack Unasked h) old.far new.far (λ s t r. between_ready h t r.met.between)
    (resume_outcome h small old new can m)

pub resume_selects : (h : ℕ) → h < 2 ^ 10 → (old new : Tells) → Holds (CanRun h) old.far → Met sees_ack (asks Resume h) old new → Selects h new.far
resume_selects h small old new can m =
    outcome_holds (λ s. s.unit.hartsel ≡ h) (GoRan sees_ack Unasked h) old.far new.far (λ s t r. ap (λ (u : DebugModule). u.hartsel) r.met.unit)
    (resume_outcome h small old new can m)

pub resume_exists : (h : ℕ) → h < 2 ^ 10 → (old new : Tells) → Holds (CanRun h) old.far → Met sees_ack (asks Resume h) old new → Exists h new.far
resume_exists h small old new can m = outcome_holds (λ s. HartExists h s.board) (GoRan sees_ack Unasked h) old.far new.far (λ s t r. r.there)
    (resume_outcome h small old new can m)

pub step_happened : (h : ℕ) → h < 2 ^ 10 → (old new : Tells) → Holds (CanRun h) old.far → Met sees_both (asks Resume h) old new
    → WhereTold (Leaves (MetAt (ResumeReq h) sees_both h) h) old.far new.far
step_happened h small old new can m =
    outcome_leaves (MetAt (ResumeReq h) sees_both h) h (GoRan sees_both Stopped h) old.far new.far
    (λ s t r. record { happened = r.met.met; unit = r.met.unit }) (step_outcome h small old new can m)

pub step_ready : (h : ℕ) → h < 2 ^ 10 → (old new : Tells) → Holds (CanRun h) old.far → Met sees_both (asks Resume h) old new → IsReady new.far
step_ready h small old new can m =
    outcome_holds SiteReady (GoRan sees_both Stopped h) old.far new.far
    (λ s t r. between_ready h t (between_weaker Stopped Unasked h t stopped_unasked r.met.between)) (step_outcome h small old new can m)

pub step_selects : (h : ℕ) → h < 2 ^ 10 → (old new : Tells) → Holds (CanRun h) old.far → Met sees_both (asks Resume h) old new → Selects h new.far
step_selects h small old new can m =
    outcome_holds (λ s. s.unit.hartsel ≡ h) (GoRan sees_both Stopped h) old.far new.far (λ s t r. ap (λ (u : DebugModule). u.hartsel) r.met.unit)
    (step_outcome h small old new can m)

pub step_halted : (h : ℕ) → h < 2 ^ 10 → (old new : Tells) → Holds (CanRun h) old.far → Met sees_both (asks Resume h) old new → IsHalted h new.far
step_halted h small old new can m =
    outcome_holds (λ s. HartHalted h s.board) (GoRan sees_both Stopped h) old.far new.far (λ s t r. stopped_halted h t r.there r.met.between)
    (step_outcome h small old new can m)

-- ---- Looks in vain

go_missed : (test : Seen → Bool) (h : ℕ) → h < 2 ^ 10 → (front : List ℕ) (last : ℕ) → All (ShowsNot test) front → ShowsNot test last
    → length front + 1 ≡ most_looks
    → (s t : Site) → CanRun h s → Ran (asks Resume h ++ looks_until front last) s t → MissedRan (ResumeReq h) test GoAsked h (seen_in last) s t
go_missed test h small front last all not_shown count s t can (m, did, rest) =
    missed_ran (ResumeReq h) test GoAsked go_asked_kept h s m t front last
    (moves_resume h (control_word Resume h) s m small (ready_between h s can.ready) can.there did) all not_shown count rest

pub go_missed_at : (test : Seen → Bool) (h : ℕ) → h < 2 ^ 10 → (last : ℕ) (old new : Tells) → Holds (CanRun h) old.far
    → Missed test last (asks Resume h) old new
    → WhereTold (Leaves (MissedAt (ResumeReq h) test h (seen_in last)) h) old.far new.far
go_missed_at test h small last old new can m =
    outcome_leaves (MissedAt (ResumeReq h) test h (seen_in last)) h (MissedRan (ResumeReq h) test GoAsked h (seen_in last)) old.far new.far
    (λ s t r. record { happened = r.missed; unit = r.unit })
    (did_outcome (asks Resume h ++ looks_until m.front last) (MissedRan (ResumeReq h) test GoAsked h (seen_in last)) (CanRun h) old new can
    (λ s t c ran. go_missed test h small m.front last m.none m.not_shown m.all s t c ran) m.did)

-- ---- a fault

go_request_cut : (test : Seen → Bool) (h : ℕ) → h < 2 ^ 10 → (s e t : Site) → CanRun h s → Ran [] s e
    → SiteCut (Write dmcontrol_address (control_word Resume h)) e t → RunCutAs (ResumeReq h) test h s t
go_request_cut test h small s e t can is cut =
    request_cut (ResumeReq h) test h s t (cut_point (Write dmcontrol_address (control_word Resume h)) (ResumeReq h) h s t can.ready.unit
    (resume_notes h s small (ready_between h s can.ready) can.there) (subst (λ x. SiteCut (Write dmcontrol_address (control_word Resume h)) x t) is cut))

go_look_cut : (test : Seen → Bool) (h : ℕ) → h < 2 ^ 10 → (vain : List ℕ) → All (ShowsNot test) vain → length vain < most_looks
    → (s e t : Site) → CanRun h s → Ran (asks Resume h ++ map look_act vain) s e → SiteCut (Read dmstatus_address) e t → RunCutAs (ResumeReq h) test h s t
go_look_cut test h small vain all few s e t can (m, did, rest) cut =
    look_cut_ran (ResumeReq h) test GoAsked go_asked_kept h s m e t vain
    (moves_resume h (control_word Resume h) s m small (ready_between h s can.ready) can.there did) all few rest cut

run_cut : (test : Seen → Bool) (h : ℕ) (s t : Site) → RunCutAs (ResumeReq h) test h s t → HappenedCut (RunCut (ResumeReq h) test h) h s t
run_cut test h s t c = record { happened = c.cut; unit = c.unit }

pub go_broke : (test : Seen → Bool) (h : ℕ) → h < 2 ^ 10 → (old_count new_count : ℕ) (old : Tells) (new : Option Far) (fault : DmiFault)
    → Holds (CanRun h) old.far
    → RunBroke Resume test h old_count new_count old new fault → WhereTold (LeftBy (RunCut (ResumeReq h) test h) h) old.far new
go_broke test h small old_count new_count old new fault can (at_first b) =
    outcome_left (RunCut (ResumeReq h) test h) h (RunCutAs (ResumeReq h) test h) old.far new (run_cut test h)
    (first_outcome Resume h (RunCutAs (ResumeReq h) test h) (CanRun h) old_count new_count old new fault small can (go_request_cut test h small)
    (λ s e t c ran cut. go_look_cut test h small [] (All-nil (ShowsNot test)) (omega arith) s e t c ran cut) b)
go_broke test h small old_count new_count old new fault can (at_look w) =
    outcome_left (RunCut (ResumeReq h) test h) h (RunCutAs (ResumeReq h) test h) old.far new (run_cut test h)
    (broke_outcome (asks Resume h ++ map look_act w.vain) (Read dmstatus_address) (RunCutAs (ResumeReq h) test h) (CanRun h) old_count new_count old new fault
    can
    (λ s e t c ran cut. go_look_cut test h small w.vain w.none w.few s e t c ran cut) w.broke)
