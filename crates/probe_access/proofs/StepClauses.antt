-- The clauses of a single step from a word of dcsr on.
use Rattle.std.proofs.Common.{◌≡◌, ◌∙◌, ◌≤◌, ◌++◌, ℕ, [], ◌∷◌, map, Bool, true, false, Option, Some, None, refl, ap, subst, sym}
use Rattle.std.proofs.lemmas.Option.{none-some}
use Rattle.debug_model.specs.Addresses.{dmcontrol_address, dmstatus_address}
use Rattle.debug_model.specs.declared.dmi.DmiFault.{DmiFault}
use Rattle.debug_model.specs.declared.dmi_op.DmiOp.TheVariants.{Read, Write}
use Rattle.debug_model.specs.declared.point.Point.TheVariants.{ResumeReq}
use Rattle.debug_model.specs.Module.{DebugModule}
use Rattle.debug_model.specs.Scan.{WhereTold}
use Rattle.debug_model.specs.Told.{Far, site_of}
use Rattle.abstract_debugger.specs.Debugger.{Seen as Sight, sees_both}
use Rattle.probe_access.specs.declared.fault.AccessFault.{AccessFault}
use Rattle.probe_access.specs.declared.fault.AccessFault.TheVariants as access_fault
use Rattle.probe_run.specs.declared.fault.RunFault.{RunFault}
use Rattle.probe_run.specs.declared.fault.RunFault.TheVariants as run_fault
use Rattle.probe_run.specs.declared.control.Request.TheVariants.{Resume}
use Rattle.probe_run.specs.Acts.{Tells}
use Rattle.probe_run.specs.Acts.Attempt.{Operation, Several}
use Rattle.probe_run.specs.Acts.Did.{nothing}
use Rattle.probe_run.specs.Happens.{Leaves, MissedAt, StepLeft as RunLeft, StepsAt, target_of}
use Rattle.probe_run.specs.Looks.{look_act}
use Rattle.probe_run.specs.Outcomes.{RunBroke, StepFails, asks}
use Rattle.probe_run.specs.Outcomes.RunBroke.{at_first, at_look}
use Rattle.probe_run.specs.Requests.{control_word}
use Rattle.probe_run.proofs.ActLemmas.{broke_then}
use Rattle.probe_access.specs.Scratches.{ScratchLeft}
use Rattle.probe_access.specs.SingleSteps.{FlaggedAt, StepLeft, StepMissedAt, SteppedAt}
use Rattle.probe_access.specs.StepRuns.{ClearFailed, StepFromFailed, of_run, with_flag}
use Rattle.probe_access.specs.StepRuns.ClearFailed.{at_read, at_write}
use Rattle.probe_access.specs.StepRuns.StepFromFailed.{in_clear, in_run, in_set}
use Rattle.probe_access.proofs.Counted.{write_counted}
use Rattle.probe_access.proofs.DcsrCalls.{dcsr_counted}
use Rattle.rv_model.specs.DebugRegisters.{dcsr_number}

-- ---- faults since an earlier count of faults

broke_run : (h count mid_count new_count : ℕ) (old : Tells) (told : Option Far) (why : DmiFault) → count ≤ mid_count → mid_count ≤ new_count
    → RunBroke Resume sees_both h mid_count new_count old told why → RunBroke Resume sees_both h count new_count old told why
broke_run h count mid_count new_count old told why le later (at_first b) =
    at_first (broke_then [] old old nothing [] (Several (Write dmcontrol_address (control_word Resume h))
    (Read dmstatus_address ∷ [])) count mid_count new_count told why le later b)
broke_run h count mid_count new_count old told why le later (at_look w) = at_look (record {
  vain = w.vain;
  none = w.none;
  few = w.few;
  broke = broke_then [] old old nothing (asks Resume h ++ map look_act w.vain) (Operation (Read dmstatus_address)) count mid_count new_count told why le later
      w.broke;
})

pub run_counted : (h count mid_count new_count : ℕ) (old new : Tells) (why : RunFault) → count ≤ mid_count → mid_count ≤ new_count
    → StepFails h mid_count new_count old new why → StepFails h count new_count old new why
run_counted h count mid_count new_count old new (run_fault.Dmi why) le later f = broke_run h count mid_count new_count old new.far why le later f
run_counted h count mid_count new_count old new (run_fault.NoHalt looks) le later f = f
run_counted h count mid_count new_count old new (run_fault.NoAck looks) le later f = f

-- ---- a whole step of a told chip

pub step_told : (h : ℕ) (a b c d : Option Far) → WhereTold (FlaggedAt true h) a b → WhereTold (Leaves (StepsAt h) h) b c → WhereTold (FlaggedAt false h) c d
    → WhereTold (SteppedAt h) a d
step_told h None b c d sets runs clears =
    let at_c : c ≡ None = subst (λ (m : Option Far). WhereTold (Leaves (StepsAt h) h) m c) sets runs in
    subst (λ (m : Option Far). WhereTold (FlaggedAt false h) m d) at_c clears
step_told h (Some f) b c d sets runs clears =
    let went : Leaves (StepsAt h) h sets.far.live.chip c = subst (λ (m : Option Far). WhereTold (Leaves (StepsAt h) h) m c) sets.is runs in
    let end : FlaggedAt false h went.far.live.chip d = subst (λ (m : Option Far). WhereTold (FlaggedAt false h) m d) went.is clears in
    record {
      far = end.far;
      is = end.is;
      happened = record {
        begun = target_of (site_of sets.far);
        ran = target_of (site_of went.far);
        sets = sets.rewrote;
        runs = went.happened;
        clears =
            end.rewrote;
      };
      bus = end.bus ∙ ap (λ (m : DebugModule). m.bus) went.unit ∙ sets.bus;
    }

-- ---- faults

pub none_flagged : (on : Bool) (h : ℕ) (a b : Option Far) → WhereTold (FlaggedAt on h) a b → b ≡ None → a ≡ None
none_flagged on h None b p none = refl
none_flagged on h (Some f) b p none = absurd (none-some p.far (sym none ∙ p.is))

pub none_ran : (h : ℕ) (a b : Option Far) → WhereTold (Leaves (StepsAt h) h) a b → b ≡ None → a ≡ None
none_ran h None b p none = refl
none_ran h (Some f) b p none = absurd (none-some p.far (sym none ∙ p.is))

pub flag_left : (h : ℕ) (old mid new : Option Far) (e : AccessFault) → (mid ≡ None → old ≡ None) → ScratchLeft mid e → StepLeft h old new e
flag_left h old mid new (access_fault.Dmi why) back p = tt
flag_left h old mid new (access_fault.Memory at) back p = p
flag_left h old mid new (access_fault.Register number) back p = back p
flag_left h old mid new access_fault.StillBusy back p = tt
flag_left h old mid new (access_fault.Run why) back p = absurd p
flag_left h old mid new (access_fault.Odd shown) back p = back p

missed_told : (h : ℕ) (last : Sight) (a b c : Option Far) → WhereTold (FlaggedAt true h) a b
    → WhereTold (Leaves (MissedAt (ResumeReq h) sees_both h last) h) b c → WhereTold (StepMissedAt h last) a c
missed_told h last None b c sets missed = subst (λ (m : Option Far). WhereTold (Leaves (MissedAt (ResumeReq h) sees_both h last) h) m c) sets missed
missed_told h last (Some f) b c sets missed =
    let end : Leaves (MissedAt (ResumeReq h) sees_both h last) h sets.far.live.chip c =
    subst (λ (m : Option Far). WhereTold (Leaves (MissedAt (ResumeReq h) sees_both h last) h) m c) sets.is missed in
    record {
      far = end.far;
      is = end.is;
      happened = record { begun = target_of (site_of sets.far); sets = sets.rewrote; missed = end.happened };
      bus = ap (λ (m : DebugModule). m.bus) end.unit ∙ sets.bus;
    }

pub run_left : (h old_count new_count : ℕ) (a : Option Far) (b c : Tells) (why : RunFault) → WhereTold (FlaggedAt true h) a b.far
    → StepFails h old_count new_count b c why → RunLeft h b.far c.far why → StepLeft h a c.far (of_run why)
run_left h old_count new_count a b c (run_fault.Dmi why) sets f l = tt
run_left h old_count new_count a b c (run_fault.NoHalt looks) sets f l = (f.0, (l.0, l.1, missed_told h l.0 a b.far c.far sets l.2))
run_left h old_count new_count a b c (run_fault.NoAck looks) sets f l = (f.0, (l.0, l.1, missed_told h l.0 a b.far c.far sets l.2))

-- ---- since an earlier count of faults

pub clear_counted : (count mid_count new_count : ℕ) (old new : Tells) (e : AccessFault) → count ≤ mid_count → mid_count ≤ new_count
    → ClearFailed mid_count new_count old new e → ClearFailed count new_count old new e
clear_counted count mid_count new_count old new e le later (at_read f) = at_read (dcsr_counted count mid_count new_count old new e le later f)
clear_counted count mid_count new_count old new e le later (at_write word mid r f) =
    at_write word mid r (write_counted dcsr_number (with_flag false word) count mid_count new_count mid new e le later f)

pub from_counted : (h word count mid_count new_count : ℕ) (old new : Tells) (e : AccessFault) → count ≤ mid_count → mid_count ≤ new_count
    → StepFromFailed h word mid_count new_count old new e → StepFromFailed h word count new_count old new e
from_counted h word count mid_count new_count old new e le later (in_set f) =
    in_set (write_counted dcsr_number (with_flag true word) count mid_count new_count old new e le later f)
from_counted h word count mid_count new_count old new e le later (in_run begun w why f is) =
    in_run begun w why (run_counted h count mid_count new_count begun new why le later f) is
from_counted h word count mid_count new_count old new e le later (in_clear begun ran w r f) =
    in_clear begun ran w r (clear_counted count mid_count new_count ran new e le later f)
