-- What faults of the layers below leave of the link, as a session's failures.
use Rattle.std.proofs.Common.{◌≡◌, ◌≤◌, ◌∙◌, ℕ, Result, Ok, Err, IfErr, IsErrAnd, subst, sym, arith}
use Rattle.debug_model.specs.declared.dmi.DmiFault.{DmiFault}
use Rattle.debug_model.specs.declared.dmi.DmiFault.TheVariants as dmi_fault
use Rattle.debug_model.specs.Dmi.{CanQuit}
use Rattle.probe_access.specs.declared.fault.AccessFault.{AccessFault}
use Rattle.probe_access.specs.declared.fault.AccessFault.TheVariants as access_fault
use Rattle.debug_model.specs.Kept.{DmiSeen, Fallen, Stands, StandsUnless}
use Rattle.probe_access.specs.Faults.{access_why}
use Rattle.probe_run.specs.Outcomes.{run_why}
use Rattle.probe_run.specs.declared.fault.RunFault.{RunFault}
use Rattle.probe_run.specs.declared.fault.RunFault.TheVariants as run_fault
use Rattle.probe_session.specs.declared.fault.Failure.{Failure}
use Rattle.probe_session.specs.declared.fault.Failure.TheVariants as failure
use Rattle.probe_session.specs.declared.odd.Odd.TheVariants as odd
use Rattle.probe_session.specs.declared.fault.LostCause.TheVariants as lost
use Rattle.probe_session.specs.Failures.{failure_of_access, failure_of_dmi, failure_of_run}
use Rattle.probe_session.specs.Links.{AttachedAt, Goes, LeftBy}

-- what a `?` hands on
pub if_err : {A : Type 0} (P : Failure → Type 0) (f : Failure) (result : Result A Failure) → IsErrAnd result (λ e. e ≡ f) → P f → IfErr result P
if_err P f (Ok x) is p = tt
if_err P f (Err e) is p = subst P (sym is) p

pub can_quit : (s : DmiSeen) → Stands s → CanQuit s.far
can_quit s b = record { unended = b.link.unended; read = b.link.read; free = b.link.free }

dmi_left : (s : DmiSeen) (why : DmiFault) → Fallen s why → LeftBy s (failure_of_dmi why)
dmi_left s (dmi_fault.Wire why) b = b.own
dmi_left s dmi_fault.Failed b = b.stream
dmi_left s dmi_fault.StillBusy b = b.stream

to : (s : DmiSeen) (f g : Failure) → f ≡ g → LeftBy s g → LeftBy s f
to s f g is l = subst (LeftBy s) (sym is) l

run_left : (s : DmiSeen) (why : RunFault) → StandsUnless s (run_why why) → LeftBy s (failure_of_run why)
run_left s (run_fault.Dmi why) b = dmi_left s why b
run_left s (run_fault.NoHalt looks) b = can_quit s b
run_left s (run_fault.NoAck looks) b = can_quit s b

pub access_left : (s : DmiSeen) (why : AccessFault) (f : Failure) → StandsUnless s (access_why why) → f ≡ failure_of_access why → LeftBy s f
access_left s (access_fault.Dmi why) f b is = to s f (failure_of_dmi why) is (dmi_left s why b)
access_left s (access_fault.Memory address) f b is = to s f (failure.Lost (lost.Odd odd.Refusal)) is (can_quit s b)
access_left s (access_fault.Register number) f b is = to s f (failure.Lost (lost.Odd (odd.Register number))) is (can_quit s b)
access_left s access_fault.StillBusy f b is = to s f (failure.Lost lost.StillBusy) is (can_quit s b)
access_left s (access_fault.Run why) f b is = to s f (failure_of_run why) is (run_left s why b)
access_left s (access_fault.Odd shown) f b is = to s f (failure.Lost (lost.Odd (odd.Status shown))) is (can_quit s b)

-- behind a call of a hart that is hart h
pub goes_at : {A : Type 0} {n h : ℕ} {old mid new : DmiSeen} {result : Result A Failure} → n ≡ h → old.fault_count ≤ mid.fault_count → mid.fixed ≡ old.fixed
    → Goes (λ (_ : A). AttachedAt n) mid new result → Goes (λ (_ : A). AttachedAt h) old new result
goes_at {A} {n} {h} {old} {mid} {new} {result} is later fixed k =
    let at : Goes (λ (_ : A). AttachedAt h) mid new result = subst (λ m. Goes (λ (_ : A). AttachedAt m) mid new result) is k in
    record { later = omega (arith, later, at.later); fixed = at.fixed ∙ fixed; behind = at.behind }
