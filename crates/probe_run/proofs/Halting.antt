-- What a halt did at a told chip, by its answer.
use Rattle.std.proofs.Common.{◌≡◌, ◌++◌, ◌<◌, ◌≤◌, ◌^◌, ℕ, [], map, Option, Some, None, ap, append-nil, arith}
use Rattle.std.proofs.lemmas.List.Elements.{All-nil}
use Rattle.debug_model.specs.Addresses.{dmcontrol_address, dmstatus_address}
use Rattle.debug_model.specs.declared.dmi.DmiFault.{DmiFault}
use Rattle.debug_model.specs.declared.dmi_op.DmiOp.TheVariants.{Read, Write}
use Rattle.debug_model.specs.declared.point.Point.TheVariants.{HaltReq, HaltClear}
use Rattle.debug_model.specs.Dmi.{SiteCut}
use Rattle.debug_model.specs.Module.{DebugModule, Site}
use Rattle.debug_model.specs.Scan.{WhereTold}
use Rattle.debug_model.specs.Told.{Far, HartHalted, IsHalted, IsReady, Selects, SiteReady, site_of}
use Rattle.abstract_debugger.specs.Debugger.{sees_halted}
use Rattle.probe_run.specs.declared.control.Request.TheVariants.{Nothing, Halt}
use Rattle.probe_run.specs.Acts.{Broke, Did, Tells}
use Rattle.probe_run.specs.Acts.Attempt.{Operation}
use Rattle.probe_run.specs.Happens.{Exists, HaltCut, HaltsAt, Leaves, LeftBy, MissedAt, target_of}
use Rattle.probe_run.specs.Looks.{Met, ShowsNot, Missed, look_act, looks_until, seen_in}
use Rattle.probe_run.specs.Outcomes.{ClearBroke, HaltedBy, RunBroke, asks}
use Rattle.probe_run.specs.Outcomes.RunBroke.{at_first, at_look}
use Rattle.probe_run.specs.Requests.{control_word}
use Rattle.probe_run.proofs.ActLemmas.{broke_list, broke_then, did_then}
use Rattle.probe_run.proofs.Asking.{HaltAsked, HaltSeen}
use Rattle.probe_run.proofs.Calls.{HappenedCut, Holds, Outcome, broke_outcome, did_outcome, outcome_holds, outcome_leaves, outcome_left}
use Rattle.probe_run.proofs.FirstLooks.{first_outcome}
use Rattle.probe_run.proofs.HartControl.{CanRun, HaltRan, halt_look_cut, halt_met, halt_missed, halt_ran, halt_request_cut, halted_there, there_met}
use Rattle.probe_run.proofs.Moves.{CutAs, clear_notes, cut_point}
use Rattle.probe_run.proofs.Runs.{MetRan, MissedRan, RunCutAs, cut_unit}

pub can_run : (h : ℕ) (told : Option Far) → IsReady told → Exists h told → Holds (CanRun h) told
can_run h None ready there = tt
can_run h (Some f) ready there = record { ready = ready; there = there }

pub can_run_halted : (h : ℕ) (told : Option Far) → IsReady told → IsHalted h told → Holds (CanRun h) told
can_run_halted h None ready halted = tt
can_run_halted h (Some f) ready halted = record { ready = ready; there = halted_there h (site_of f).board halted }

-- ---- Ok

halt_outcome : (h : ℕ) → h < 2 ^ 10 → (old new : Tells) → Holds (CanRun h) old.far → HaltedBy h old new → Outcome (HaltRan h) old.far new.far
halt_outcome h small old new can d =
    did_outcome ((asks Halt h ++ looks_until d.met.vain d.met.last) ++ asks Nothing h) (HaltRan h) (CanRun h) old new can
    (λ s t c ran. halt_ran h small d.met.vain d.met.last d.met.none d.met.shown d.met.few s t c ran)
    (did_then (asks Halt h ++ looks_until d.met.vain d.met.last) old d.mid d.met.did (asks Nothing h) new d.cleared)

pub halt_happened : (h : ℕ) → h < 2 ^ 10 → (old new : Tells) → Holds (CanRun h) old.far → HaltedBy h old new → WhereTold (Leaves (HaltsAt h) h) old.far new.far
halt_happened h small old new can d =
    outcome_leaves (HaltsAt h) h (HaltRan h) old.far new.far (λ s t r. record { happened = r.happened; unit = r.unit }) (halt_outcome h small old new can d)

pub halt_ready : (h : ℕ) → h < 2 ^ 10 → (old new : Tells) → Holds (CanRun h) old.far → HaltedBy h old new → IsReady new.far
halt_ready h small old new can d = outcome_holds SiteReady (HaltRan h) old.far new.far (λ s t r. r.ready) (halt_outcome h small old new can d)

pub halt_selects : (h : ℕ) → h < 2 ^ 10 → (old new : Tells) → Holds (CanRun h) old.far → HaltedBy h old new → Selects h new.far
halt_selects h small old new can d =
    outcome_holds (λ s. s.unit.hartsel ≡ h) (HaltRan h) old.far new.far (λ s t r. ap (λ (m : DebugModule). m.hartsel) r.unit)
    (halt_outcome h small old new can d)

pub halt_halted : (h : ℕ) → h < 2 ^ 10 → (old new : Tells) → Holds (CanRun h) old.far → HaltedBy h old new → IsHalted h new.far
halt_halted h small old new can d = outcome_holds (λ s. HartHalted h s.board) (HaltRan h) old.far new.far (λ s t r. r.halted)
    (halt_outcome h small old new can d)

-- ---- NoHalt

pub halt_missed_at : (h : ℕ) → h < 2 ^ 10 → (last : ℕ) (old new : Tells) → Holds (CanRun h) old.far → Missed sees_halted last (asks Halt h) old new
    → WhereTold (Leaves (MissedAt (HaltReq h) sees_halted h (seen_in last)) h) old.far new.far
halt_missed_at h small last old new can m =
    outcome_leaves (MissedAt (HaltReq h) sees_halted h (seen_in last)) h (MissedRan (HaltReq h) sees_halted HaltAsked h (seen_in last)) old.far new.far
    (λ s t r. record { happened = r.missed; unit = r.unit })
    (did_outcome (asks Halt h ++ looks_until m.front last) (MissedRan (HaltReq h) sees_halted HaltAsked h (seen_in last)) (CanRun h) old new can
    (λ s t c ran. halt_missed h small m.front last m.none m.not_shown m.all s t c ran) m.did)

-- ---- a fault

before_halt : (h : ℕ) (s t : Site) → RunCutAs (HaltReq h) sees_halted h s t → HappenedCut (HaltCut h) h s t
before_halt h s t c = record { happened = HaltCut.before_halt c.cut; unit = c.unit }

pub halt_broke : (h : ℕ) → h < 2 ^ 10 → (old_count new_count : ℕ) (old : Tells) (new : Option Far) (fault : DmiFault) → Holds (CanRun h) old.far
    → RunBroke Halt sees_halted h old_count new_count old new fault → WhereTold (LeftBy (HaltCut h) h) old.far new
halt_broke h small old_count new_count old new fault can (at_first b) =
    outcome_left (HaltCut h) h (RunCutAs (HaltReq h) sees_halted h) old.far new (before_halt h)
    (first_outcome Halt h (RunCutAs (HaltReq h) sees_halted h) (CanRun h) old_count new_count old new fault small can (halt_request_cut h small)
    (λ s e t c ran cut. halt_look_cut h small [] (All-nil (ShowsNot sees_halted)) (omega arith) s e t c ran cut) b)
halt_broke h small old_count new_count old new fault can (at_look w) =
    outcome_left (HaltCut h) h (RunCutAs (HaltReq h) sees_halted h) old.far new (before_halt h)
    (broke_outcome (asks Halt h ++ map look_act w.vain) (Read dmstatus_address) (RunCutAs (HaltReq h) sees_halted h) (CanRun h) old_count new_count old new
    fault can
    (λ s e t c ran cut. halt_look_cut h small w.vain w.none w.few s e t c ran cut) w.broke)

clear_cut : (h : ℕ) → h < 2 ^ 10 → (s e t : Site) → CanRun h s → MetRan (HaltReq h) sees_halted HaltSeen h s e
    → SiteCut (Write dmcontrol_address (control_word Nothing h)) e t → HappenedCut (HaltCut h) h s t
clear_cut h small s e t can met cut =
    let c : CutAs (HaltClear h) h e t = cut_point (Write dmcontrol_address (control_word Nothing h)) (HaltClear h) h e t met.between.unit
    (clear_notes h e small met.between (there_met (HaltReq h) sees_halted h (target_of s) (target_of e) met.met can.there)) cut in
    record { happened = HaltCut.at_clear (record { mid = target_of e; met = met.met; cut = c.cut }); unit = cut_unit h e.unit t.unit s.unit met.unit c.unit }

pub clear_broke : (h : ℕ) → h < 2 ^ 10 → (old_count new_count : ℕ) (old : Tells) (new : Option Far) (fault : DmiFault) → old_count ≤ new_count
    → Holds (CanRun h) old.far
    → ClearBroke h old_count new_count old new fault → WhereTold (LeftBy (HaltCut h) h) old.far new
clear_broke h small old_count new_count old new fault later can b =
    outcome_left (HaltCut h) h (HappenedCut (HaltCut h) h) old.far new (λ s t c. c)
    (broke_outcome (asks Halt h ++ looks_until b.met.vain b.met.last) (Write dmcontrol_address (control_word Nothing h)) (HappenedCut (HaltCut h) h) (CanRun h)
    old_count new_count old new fault can
    (λ s e t c ran cut. clear_cut h small s e t c (halt_met h small b.met.vain b.met.last b.met.none b.met.shown b.met.few s e c ran) cut)
    (broke_list ((asks Halt h ++ looks_until b.met.vain b.met.last) ++ []) (asks Halt h ++ looks_until b.met.vain b.met.last) _ old_count new_count old new
    fault (append-nil (asks Halt h ++ looks_until b.met.vain b.met.last))
    (broke_then (asks Halt h ++ looks_until b.met.vain b.met.last) old b.mid b.met.did [] _ old_count old_count new_count new fault (omega arith) later
    b.broke)))

-- the faults of the clear as the contract has them
pub clear_fails : (h count mid_count new_count : ℕ) (old mid : Tells) (new : Option Far) (fault : DmiFault) → count ≤ mid_count → mid_count ≤ new_count
    → Met sees_halted (asks Halt h) old mid
    → Broke [] (Operation (Write dmcontrol_address (control_word Nothing h))) mid_count new_count mid new fault → ClearBroke h count new_count old new fault
clear_fails h count mid_count new_count old mid new fault le later met b = record {
  mid = mid;
  met = met;
  broke = broke_then [] mid mid Did.nothing [] _ count mid_count new_count new fault le later b;
}
