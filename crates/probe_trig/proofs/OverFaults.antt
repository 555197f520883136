-- Faults in the course of stepping over and of letting go.
use Rattle.std.proofs.Common.{◌≤◌, ◌++◌, ℕ, Bool, true, false, List, [], ◌∷◌, map, Option}
use Rattle.debug_model.specs.Addresses.{dmcontrol_address, dmstatus_address}
use Rattle.debug_model.specs.declared.dmi.DmiFault.{DmiFault}
use Rattle.debug_model.specs.declared.dmi_op.DmiOp.TheVariants.{Read, Write}
use Rattle.debug_model.specs.Scan.{WhereTold}
use Rattle.debug_model.specs.Told.{Far}
use Rattle.abstract_debugger.specs.Debugger.{sees_ack}
use Rattle.probe_access.specs.declared.fault.AccessFault.{AccessFault}
use Rattle.probe_access.specs.declared.fault.AccessFault.TheVariants as access_fault
use Rattle.probe_access.specs.Scratches.{ScratchLeft}
use Rattle.probe_access.specs.SingleSteps.{StepLeft}
use Rattle.probe_access.specs.StepRuns.{StepFailed, of_run}
use Rattle.probe_access.specs.StepRuns.StepFailed.{at_read, behind}
use Rattle.probe_access.proofs.DcsrCalls.{dcsr_counted}
use Rattle.probe_access.proofs.StepClauses.{from_counted}
use Rattle.probe_run.specs.declared.control.Request.TheVariants.{Resume}
use Rattle.probe_run.specs.declared.fault.RunFault.{RunFault}
use Rattle.probe_run.specs.declared.fault.RunFault.TheVariants as run_fault
use Rattle.probe_run.specs.Acts.{Tells}
use Rattle.probe_run.specs.Acts.Attempt.{Operation, Several}
use Rattle.probe_run.specs.Acts.Did.{nothing}
use Rattle.probe_run.specs.Happens.{ResumeLeft}
use Rattle.probe_run.specs.Looks.{look_act}
use Rattle.probe_run.specs.Outcomes.{ResumeFails, RunBroke, asks}
use Rattle.probe_run.specs.Outcomes.RunBroke.{at_look, at_first}
use Rattle.probe_run.specs.Requests.{control_word}
use Rattle.probe_run.proofs.ActLemmas.{broke_then}
use Rattle.probe_trig.specs.Going.{GoLeft, IsThroughAt, NoAckLeft}
use Rattle.probe_trig.specs.Slots.{AtHarts}
use Rattle.probe_trig.specs.Stepping.{BackFailed, OverLeft}
use Rattle.probe_trig.specs.Stepping.BackFailed.{in_end, in_step}
use Rattle.probe_trig.specs.Transfers.{FailedIn, Transfer}
use Rattle.probe_trig.proofs.Overs.{HeldAt, at_back, go_missed, over_missed}
use Rattle.probe_trig.proofs.TransferLemmas.{attempt_counted}

-- ---- since an earlier count of faults

pub step_counted : (h count mid_count new_count : ℕ) (old new : Tells) (e : AccessFault) → count ≤ mid_count → mid_count ≤ new_count
    → StepFailed h mid_count new_count old new e → StepFailed h count new_count old new e
step_counted h count mid_count new_count old new e le later (at_read f) = at_read (dcsr_counted count mid_count new_count old new e le later f)
step_counted h count mid_count new_count old new e le later (behind word mid r f) =
    behind word mid r (from_counted h word count mid_count new_count mid new e le later f)

pub failed_counted : (Whole : List Transfer → Type 0) (h count mid_count new_count : ℕ) (old new : Tells) (e : AccessFault) → count ≤ mid_count
    → mid_count ≤ new_count
    → FailedIn Whole h mid_count new_count old new e → FailedIn Whole h count new_count old new e
failed_counted Whole h count mid_count new_count old new e le later f = record {
  done = f.done;
  attempt = f.attempt;
  begins = f.begins;
  mid = f.mid;
  made = f.made;
  failed = attempt_counted h f.attempt count mid_count new_count f.mid new e le later f.failed;
}

pub back_counted : (h count mid_count new_count : ℕ) (old new : Tells) (e : AccessFault) → count ≤ mid_count → mid_count ≤ new_count
    → BackFailed h mid_count new_count old new e → BackFailed h count new_count old new e
back_counted h count mid_count new_count old new e le later (in_step f cut) = in_step (step_counted h count mid_count new_count old new e le later f) cut
back_counted h count mid_count new_count old new e le later (in_end ran s f) = in_end ran s (failed_counted _ h count mid_count new_count ran new e le later f)

broke_resume : (h count mid_count new_count : ℕ) (old : Tells) (told : Option Far) (why : DmiFault) → count ≤ mid_count → mid_count ≤ new_count
    → RunBroke Resume sees_ack h mid_count new_count old told why → RunBroke Resume sees_ack h count new_count old told why
broke_resume h count mid_count new_count old told why le later (at_first b) =
    at_first (broke_then [] old old nothing [] (Several (Write dmcontrol_address (control_word Resume h))
    (Read dmstatus_address ∷ [])) count mid_count new_count told why le later b)
broke_resume h count mid_count new_count old told why le later (at_look w) = at_look (record {
  vain = w.vain;
  none = w.none;
  few = w.few;
  broke = broke_then [] old old nothing (asks Resume h ++ map look_act w.vain)
      (Operation (Read dmstatus_address)) count mid_count new_count told why le later w.broke;
})

pub resume_counted : (h count mid_count new_count : ℕ) (old new : Tells) (why : RunFault) → count ≤ mid_count → mid_count ≤ new_count
    → ResumeFails h mid_count new_count old new why → ResumeFails h count new_count old new why
resume_counted h count mid_count new_count old new (run_fault.Dmi why) le later f = broke_resume h count mid_count new_count old new.far why le later f
resume_counted h count mid_count new_count old new (run_fault.NoHalt looks) le later f = f
resume_counted h count mid_count new_count old new (run_fault.NoAck looks) le later f = f

-- ---- by the fault

pub scratch_over : (h : ℕ) (old new : Option Far) (e : AccessFault) → ScratchLeft old e → OverLeft h old new e
scratch_over h old new (access_fault.Dmi why) f = tt
scratch_over h old new (access_fault.Memory at) f = f
scratch_over h old new (access_fault.Register number) f = f
scratch_over h old new access_fault.StillBusy f = tt
scratch_over h old new (access_fault.Run why) f = absurd f
scratch_over h old new (access_fault.Odd word) f = f

pub step_over_left : (some : Bool) (h : ℕ) (x y z : Option Far) (e : AccessFault) → WhereTold (AtHarts (HeldAt some h)) x y → StepLeft h y z e
    → OverLeft h x z e
step_over_left some h x y z (access_fault.Dmi why) held f = tt
step_over_left some h x y z (access_fault.Memory at) held f = f
step_over_left some h x y z (access_fault.Register number) held f = at_back (HeldAt some h) x y held f
step_over_left some h x y z access_fault.StillBusy held f = tt
step_over_left some h x y z (access_fault.Run (run_fault.Dmi why)) held f = f
step_over_left some h x y z (access_fault.Run (run_fault.NoHalt looks)) held f = (f.0, (f.1.0, f.1.1, over_missed some h f.1.0 x y z held f.1.2))
step_over_left some h x y z (access_fault.Run (run_fault.NoAck looks)) held f = (f.0, (f.1.0, f.1.1, over_missed some h f.1.0 x y z held f.1.2))
step_over_left some h x y z (access_fault.Odd word) held f = at_back (HeldAt some h) x y held f

pub over_go : (h : ℕ) (x z : Option Far) (e : AccessFault) → OverLeft h x z e → GoLeft h x z e
over_go h x z (access_fault.Dmi why) f = tt
over_go h x z (access_fault.Memory at) f = f
over_go h x z (access_fault.Register number) f = f
over_go h x z access_fault.StillBusy f = tt
over_go h x z (access_fault.Run (run_fault.Dmi why)) f = f
over_go h x z (access_fault.Run (run_fault.NoHalt looks)) f = f
over_go h x z (access_fault.Run (run_fault.NoAck looks)) f = NoAckLeft.in_step f
over_go h x z (access_fault.Odd word) f = f

pub resume_go : (h old_count new_count : ℕ) (x y : Option Far) (old new : Tells) (why : RunFault) → WhereTold (AtHarts (IsThroughAt h)) x y
    → ResumeLeft h y new.far why → ResumeFails h old_count new_count old new why → GoLeft h x new.far (of_run why)
resume_go h old_count new_count x y old new (run_fault.Dmi why) t left f = tt
resume_go h old_count new_count x y old new (run_fault.NoHalt looks) t left f = absurd left
resume_go h old_count new_count x y old new (run_fault.NoAck looks) t left f = NoAckLeft.in_resume (f.0, (left.0, go_missed h left.0 x y new.far t left.1))
