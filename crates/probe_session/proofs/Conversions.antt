-- What faults of the layers below make of a session.
use Rattle.std.proofs.Common.{◌≡◌, ◌≤◌, ℕ, Bool, List, Option, Result, Ok, Err, IsErrAnd, refl, sym, subst}
use Rattle.debug_model.specs.Kept.{DmiSeen, StandsUnless}
use Rattle.debug_model.specs.Told.{Far}
use Rattle.probe_access.specs.declared.fault.AccessFault.{AccessFault}
use Rattle.probe_access.specs.declared.fault.AccessFault.TheVariants as access_fault
use Rattle.probe_access.specs.Cuts.{IfCut, Leaves, LeftAside}
use Rattle.probe_access.specs.Registers.{RegisterLeft}
use Rattle.probe_access.specs.Scratches.{ScratchLeft}
use Rattle.probe_access.specs.SingleSteps.{StepLeft}
use Rattle.probe_run.specs.Acts.{Tells}
use Rattle.probe_run.specs.Told.{Serving}
use Rattle.probe_trig.specs.declared.fault.TrigFault.{TrigFault}
use Rattle.probe_trig.specs.declared.fault.TrigFault.TheVariants as trig_fault
use Rattle.probe_trig.specs.Faults.{ByFault, IfAccess, trig_why}
use Rattle.probe_trig.specs.Slots.{DebugAlone}
use Rattle.probe_trig.specs.StepCuts.{LeavesAt, OverCut}
use Rattle.probe_trig.specs.Stepping.{OverFailed, OverLeft}
use Rattle.probe_trig.specs.Transfers.{FailedIn, Transfer}
use Rattle.probe_session.specs.declared.fault.Failure.{Failure}
use Rattle.probe_session.specs.Calls.{SlotsFell, StepOverFell}
use Rattle.probe_session.specs.Failures.{Became, IsNotMemory, failure_of_access, failure_of_trig}
use Rattle.probe_session.specs.Links.{Goes, LeftBy}
use Rattle.probe_session.proofs.LinkLemmas.{access_left, can_quit}

-- ---- of an access

pub became : (why : AccessFault) {f : Failure} → IsNotMemory why → f ≡ failure_of_access why → Became why f
became (access_fault.Dmi why) other is = is
became (access_fault.Memory address) other is = absurd other
became (access_fault.Register number) other is = is
became access_fault.StillBusy other is = is
became (access_fault.Run why) other is = is
became (access_fault.Odd shown) other is = is

-- one of memory that a command asks for is its answer
pub not_memory : (why : AccessFault) → ((address : ℕ) → why ≡ access_fault.Memory address → ⊥) → IsNotMemory why
not_memory (access_fault.Dmi why) other = tt
not_memory (access_fault.Memory address) other = absurd (other address refl)
not_memory (access_fault.Register number) other = tt
not_memory access_fault.StillBusy other = tt
not_memory (access_fault.Run why) other = tt
not_memory (access_fault.Odd shown) other = tt

pub of_register : (write : Bool) (h number : ℕ) (old new : Option Far) (why : AccessFault) → RegisterLeft write h number old new why → IsNotMemory why
of_register write h number old new (access_fault.Dmi why) left = tt
of_register write h number old new (access_fault.Memory address) left = left
of_register write h number old new (access_fault.Register asked) left = tt
of_register write h number old new access_fault.StillBusy left = tt
of_register write h number old new (access_fault.Run why) left = tt
of_register write h number old new (access_fault.Odd shown) left = tt

pub of_scratch : (old : Option Far) (why : AccessFault) → ScratchLeft old why → IsNotMemory why
of_scratch old (access_fault.Dmi why) left = tt
of_scratch old (access_fault.Memory address) left = left
of_scratch old (access_fault.Register number) left = tt
of_scratch old access_fault.StillBusy left = tt
of_scratch old (access_fault.Run why) left = tt
of_scratch old (access_fault.Odd shown) left = tt

of_over : (h : ℕ) (old new : Option Far) (why : AccessFault) → OverLeft h old new why → IsNotMemory why
of_over h old new (access_fault.Dmi why) left = tt
of_over h old new (access_fault.Memory address) left = left
of_over h old new (access_fault.Register number) left = tt
of_over h old new access_fault.StillBusy left = tt
of_over h old new (access_fault.Run why) left = tt
of_over h old new (access_fault.Odd shown) left = tt

pub of_step : (h : ℕ) (old new : Option Far) (why : AccessFault) → StepLeft h old new why → IsNotMemory why
of_step h old new (access_fault.Dmi why) left = tt
of_step h old new (access_fault.Memory address) left = left
of_step h old new (access_fault.Register number) left = tt
of_step h old new access_fault.StillBusy left = tt
of_step h old new (access_fault.Run why) left = tt
of_step h old new (access_fault.Odd shown) left = tt

-- ---- of a call on slots

slots_by : (Whole : List Transfer → Type 0) (h : ℕ) (why : AccessFault) {old_count new_count : ℕ} {old new : Tells} {f : Failure}
    → f ≡ failure_of_access why → old_count ≤ new_count → Serving h old.far → FailedIn Whole h old_count new_count old new why
    → ScratchLeft old.far why → IfCut (Leaves (LeftAside DebugAlone h) old.far new.far) why → SlotsFell Whole h old_count new_count old new f
slots_by Whole h why {old = old} is later at heard told cut = record {
  why = why;
  later = later;
  at = at;
  heard = heard;
  told = told;
  cut = cut;
  is = became why (of_scratch old.far why told) is;
}

-- which no refusal ends
pub slots_failed : (Whole : List Transfer → Type 0) (h : ℕ) (why : TrigFault) {old_count new_count : ℕ} {old new : Tells} {f : Failure}
    → f ≡ failure_of_trig why → old_count ≤ new_count → Serving h old.far
    → ByFault (FailedIn Whole h old_count new_count old new) ⊥ ⊥ why → ByFault (ScratchLeft old.far) ⊥ ⊥ why
    → IfAccess (IfCut (Leaves (LeftAside DebugAlone h) old.far new.far)) why → SlotsFell Whole h old_count new_count old new f
slots_failed Whole h (trig_fault.Access why) is later at heard told cut = slots_by Whole h why is later at heard told cut
slots_failed Whole h trig_fault.NoFreeSlot is later at heard told cut = absurd heard
slots_failed Whole h trig_fault.NotInUse is later at heard told cut = absurd heard

-- whose refusal is the command's answer
pub arming_failed : (P Q : Type 0) (Whole : List Transfer → Type 0) (h : ℕ) (why : TrigFault) {old_count new_count : ℕ} {old new : Tells} {f : Failure}
    → (why ≡ trig_fault.NoFreeSlot → ⊥) → f ≡ failure_of_trig why → old_count ≤ new_count → Serving h old.far
    → ByFault (FailedIn Whole h old_count new_count old new) P ⊥ why → ByFault (ScratchLeft old.far) Q ⊥ why
    → IfAccess (IfCut (Leaves (LeftAside DebugAlone h) old.far new.far)) why → SlotsFell Whole h old_count new_count old new f
arming_failed P Q Whole h (trig_fault.Access why) other is later at heard told cut = slots_by Whole h why is later at heard told cut
arming_failed P Q Whole h trig_fault.NoFreeSlot other is later at heard told cut = absurd (other refl)
arming_failed P Q Whole h trig_fault.NotInUse other is later at heard told cut = absurd heard

pub freeing_failed : (P Q : Type 0) (Whole : List Transfer → Type 0) (h : ℕ) (why : TrigFault) {old_count new_count : ℕ} {old new : Tells} {f : Failure}
    → (why ≡ trig_fault.NotInUse → ⊥) → f ≡ failure_of_trig why → old_count ≤ new_count → Serving h old.far
    → ByFault (FailedIn Whole h old_count new_count old new) ⊥ P why → ByFault (ScratchLeft old.far) ⊥ Q why
    → IfAccess (IfCut (Leaves (LeftAside DebugAlone h) old.far new.far)) why → SlotsFell Whole h old_count new_count old new f
freeing_failed P Q Whole h (trig_fault.Access why) other is later at heard told cut = slots_by Whole h why is later at heard told cut
freeing_failed P Q Whole h trig_fault.NoFreeSlot other is later at heard told cut = absurd heard
freeing_failed P Q Whole h trig_fault.NotInUse other is later at heard told cut = absurd (other refl)

pub over_failed : (h : ℕ) (why : TrigFault) {old_count new_count : ℕ} {old new : Tells} {f : Failure} → f ≡ failure_of_trig why
    → old_count ≤ new_count → Serving h old.far → ByFault (OverFailed h old_count new_count old new) ⊥ ⊥ why
    → ByFault (OverLeft h old.far new.far) ⊥ ⊥ why → IfAccess (IfCut (LeavesAt (OverCut h) old.far new.far)) why
    → StepOverFell h old_count new_count old new f
over_failed h (trig_fault.Access why) {old = old} {new = new} is later at heard told cut = record {
  why = why;
  later = later;
  at = at;
  heard = heard;
  told = told;
  cut = cut;
  is = became why (of_over h old.far new.far why told) is;
}
over_failed h trig_fault.NoFreeSlot is later at heard told cut = absurd heard
over_failed h trig_fault.NotInUse is later at heard told cut = absurd heard

-- ---- what they leave of the link

pub trig_left : (s : DmiSeen) (why : TrigFault) (f : Failure) → StandsUnless s (trig_why why) → f ≡ failure_of_trig why → LeftBy s f
trig_left s (trig_fault.Access why) f b is = access_left s why f b is
trig_left s trig_fault.NoFreeSlot f b is = subst (LeftBy s) (sym is) (can_quit s b)
trig_left s trig_fault.NotInUse f b is = subst (LeftBy s) (sym is) (can_quit s b)

-- what a `?` hands on
pub goes_err : {A : Type 0} (on : A → DmiSeen → Type 0) (old new : DmiSeen) (f : Failure) (result : Result A Failure) → old.fault_count ≤ new.fault_count
    → new.fixed ≡ old.fixed → IsErrAnd result (λ e. e ≡ f) → LeftBy new f → Goes on old new result
goes_err on old new f (Ok x) later fixed is left = absurd is
goes_err on old new f (Err e) later fixed is left = record { later = later; fixed = fixed; behind = subst (LeftBy new) (sym is) left }
