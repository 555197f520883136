-- What caused a fault in a call of run control, and in the opening.
use Rattle.std.proofs.Common.{◌≡◌, ◌≤◌, ◌<◌, ℕ, List, Bool, Option, Some, None, IfSome, arith, refl, subst, sym}
use Rattle.debug_model.specs.declared.dmi.DmiFault.{DmiFault}
use Rattle.debug_model.specs.declared.dmi.DmiFault.TheVariants as dmi_fault
use Rattle.debug_model.specs.Chip.{Chip}
use Rattle.debug_model.specs.Dmi.{DmiComing, FoundBusy, LostOne, ScannedCause, scanned_coming}
use Rattle.debug_model.specs.Scan.{WhereTold}
use Rattle.debug_model.specs.Told.{Far, chip_of}
use Rattle.abstract_debugger.specs.Debugger.{Seen as Sight, most_looks}
use Rattle.probe_run.specs.declared.control.Request.{Request}
use Rattle.probe_run.specs.declared.fault.RunFault.{RunFault}
use Rattle.probe_run.specs.declared.fault.RunFault.TheVariants as run_fault
use Rattle.probe_run.specs.Acts.{Act, Attempt, AttemptCause, Broke, Tells, chip_cut}
use Rattle.probe_run.specs.Opening.{ActivateBroke, BusBroke, OpeningBroke}
use Rattle.probe_run.specs.Outcomes.{HaltBroke, HaltFails, ResumeFails, RunBroke, StepFails}
use Rattle.probe_run.proofs.ActLemmas.{attempt_wire}
use Rattle.probe_session.specs.Calls.{LookUnheard}
use Rattle.probe_session.specs.Causes.{DroppedOne, LastedBusy, WireCause}

-- every fault of the link has its cause
abbrev pub DmiCaused : (old_count new_count : ℕ) → Option Far → DmiFault → Type 0
DmiCaused old_count new_count told (dmi_fault.Wire why) = WireCause old_count new_count told why
DmiCaused old_count new_count told dmi_fault.Failed = DroppedOne told
DmiCaused old_count new_count told dmi_fault.StillBusy = LastedBusy told

-- and so has each of run control
abbrev pub RunCaused : (old_count new_count : ℕ) → Option Far → RunFault → Type 0
RunCaused old_count new_count told (run_fault.Dmi why) = DmiCaused old_count new_count told why
RunCaused old_count new_count told (run_fault.NoHalt looks) = looks ≡ most_looks
RunCaused old_count new_count told (run_fault.NoAck looks) = looks ≡ most_looks

-- ---- a chip that dropped an operation, or whose transport was found busy

attempt_lost : (failed : Attempt) (old new : ℕ) (was told : Option Far) (coming : Option DmiComing)
    → AttemptCause failed old new was told coming dmi_fault.Failed → IfSome was (λ f. LostOne (chip_of f) told)
attempt_lost Attempt.Scan old new was told coming c = c.0
attempt_lost (Attempt.Operation op) old new was told coming c = c.0
attempt_lost (Attempt.Several op ops) old new was told coming c = c.0

attempt_busy : (failed : Attempt) (old new : ℕ) (was told : Option Far) (coming : Option DmiComing)
    → AttemptCause failed old new was told coming dmi_fault.StillBusy → IfSome was (λ f. FoundBusy (chip_of f) told)
attempt_busy Attempt.Scan old new was told coming c = c.0
attempt_busy (Attempt.Operation op) old new was told coming c = c.0
attempt_busy (Attempt.Several op ops) old new was told coming c = c.0

dropped_one : (R : Chip → Option Far → Type 0) (was told : Option Far) → WhereTold R was told → IfSome was (λ f. LostOne (chip_of f) told) → DroppedOne told
dropped_one R None told is lost = subst DroppedOne (sym is) tt
dropped_one R (Some f) told cut lost = subst DroppedOne (sym lost.is) (omega (arith, lost.more))

lasted_busy : (R : Chip → Option Far → Type 0) (was told : Option Far) → WhereTold R was told → IfSome was (λ f. FoundBusy (chip_of f) told) → LastedBusy told
lasted_busy R None told is found = subst LastedBusy (sym is) (LastedBusy.transport tt)
lasted_busy R (Some f) told cut found = subst LastedBusy (sym found.is) (LastedBusy.transport (omega (arith, found.more)))

-- ---- one call of the link

pub broke_caused : (why : DmiFault) {acts : List Act} {failed : Attempt} {old_count new_count : ℕ} {old : Tells} {told : Option Far}
    → Broke acts failed old_count new_count old told why → DmiCaused old_count new_count told why
broke_caused (dmi_fault.Wire why) {failed = failed} {old_count = old_count} {new_count = new_count} {told = told} b =
    record { coming = scanned_coming b.mid.coming; cause = attempt_wire failed old_count new_count b.mid.far told b.mid.coming why b.cause }
broke_caused dmi_fault.Failed {failed = failed} {old_count = old_count} {new_count = new_count} {told = told} b =
    dropped_one (chip_cut failed) b.mid.far told b.cut (attempt_lost failed old_count new_count b.mid.far told b.mid.coming b.cause)
broke_caused dmi_fault.StillBusy {failed = failed} {old_count = old_count} {new_count = new_count} {told = told} b =
    lasted_busy (chip_cut failed) b.mid.far told b.cut (attempt_busy failed old_count new_count b.mid.far told b.mid.coming b.cause)

pub scanned_caused : (why : DmiFault) (old_count new_count : ℕ) (told : Option Far) (coming : Option DmiComing) → ScannedCause old_count new_count told coming why
    → DmiCaused old_count new_count told why
scanned_caused (dmi_fault.Wire why) old_count new_count told coming cause = record { coming = scanned_coming coming; cause = cause }
scanned_caused dmi_fault.Failed old_count new_count told coming cause = absurd cause
scanned_caused dmi_fault.StillBusy old_count new_count told coming cause = absurd cause

-- ---- run control

run_broke : (why : DmiFault) {request : Request} {test : Sight → Bool} {h old_count new_count : ℕ} {old : Tells} {told : Option Far}
    → RunBroke request test h old_count new_count old told why → DmiCaused old_count new_count told why
run_broke why (RunBroke.at_first b) = broke_caused why b
run_broke why (RunBroke.at_look b) = broke_caused why b.broke

halt_broke : (why : DmiFault) {h old_count new_count : ℕ} {old : Tells} {told : Option Far} → HaltBroke h old_count new_count old told why
    → DmiCaused old_count new_count told why
halt_broke why (HaltBroke.before_halt b) = run_broke why b
halt_broke why (HaltBroke.at_clear b) = broke_caused why b.broke

pub look_caused : (why : RunFault) (h old_count new_count : ℕ) (old new : Tells) → LookUnheard h old_count new_count old new why
    → RunCaused old_count new_count new.far why
look_caused (run_fault.Dmi why) h old_count new_count old new (LookUnheard.selecting f) = broke_caused why f
look_caused (run_fault.Dmi why) h old_count new_count old new (LookUnheard.again selected f) = broke_caused why f
look_caused (run_fault.NoHalt looks) h old_count new_count old new (LookUnheard.selecting f) = absurd f
look_caused (run_fault.NoHalt looks) h old_count new_count old new (LookUnheard.again selected f) = absurd f
look_caused (run_fault.NoAck looks) h old_count new_count old new (LookUnheard.selecting f) = absurd f
look_caused (run_fault.NoAck looks) h old_count new_count old new (LookUnheard.again selected f) = absurd f

pub halt_caused : (why : RunFault) (h old_count new_count : ℕ) (old new : Tells) → HaltFails h old_count new_count old new why
    → RunCaused old_count new_count new.far why
halt_caused (run_fault.Dmi why) h old_count new_count old new f = halt_broke why f
halt_caused (run_fault.NoHalt looks) h old_count new_count old new f = f.0
halt_caused (run_fault.NoAck looks) h old_count new_count old new f = absurd f

pub resume_caused : (why : RunFault) (h old_count new_count : ℕ) (old new : Tells) → ResumeFails h old_count new_count old new why
    → RunCaused old_count new_count new.far why
resume_caused (run_fault.Dmi why) h old_count new_count old new f = run_broke why f
resume_caused (run_fault.NoHalt looks) h old_count new_count old new f = absurd f
resume_caused (run_fault.NoAck looks) h old_count new_count old new f = f.0

pub step_caused : (why : RunFault) (h old_count new_count : ℕ) (old new : Tells) → StepFails h old_count new_count old new why
    → RunCaused old_count new_count new.far why
step_caused (run_fault.Dmi why) h old_count new_count old new f = run_broke why f
step_caused (run_fault.NoHalt looks) h old_count new_count old new f = f.0
step_caused (run_fault.NoAck looks) h old_count new_count old new f = f.0

-- ---- the opening

activate_broke : (why : DmiFault) {old_count new_count : ℕ} {old : Tells} {told : Option Far} → ActivateBroke old_count new_count old told why
    → DmiCaused old_count new_count told why
activate_broke why (ActivateBroke.at_first b) = broke_caused why b
activate_broke why (ActivateBroke.at_read b) = broke_caused why b.broke

bus_broke : (why : DmiFault) {old_count new_count : ℕ} {old : Tells} {told : Option Far} → BusBroke old_count new_count old told why
    → DmiCaused old_count new_count told why
bus_broke why (BusBroke.at_sbcs b) = broke_caused why b
bus_broke why (BusBroke.at_sberror b) = broke_caused why b.broke

pub opening_caused : (why : DmiFault) (old_count new_count : ℕ) (old new : Tells) → OpeningBroke old_count new_count old new why
    → DmiCaused old_count new_count new.far why
opening_caused why old_count new_count old new (OpeningBroke.in_transport b) = broke_caused why b
opening_caused why old_count new_count old new (OpeningBroke.in_activation b) = activate_broke why b.failed
opening_caused why old_count new_count old new (OpeningBroke.in_module b) = broke_caused why b.failed
opening_caused why old_count new_count old new (OpeningBroke.in_commands b) = broke_caused why b.failed
opening_caused why old_count new_count old new (OpeningBroke.in_bus b) = bus_broke why b.failed
