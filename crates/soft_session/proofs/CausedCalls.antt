-- What caused the failure of a call of a session with software breakpoints, by what is known of the calls that it makes.
use Rattle.std.proofs.Common.{◌≡◌, ◌≤◌, ℕ, List, [], Result, Ok, Err, IfErr, IsErrAnd, sym, subst}
use Rattle.debug_model.specs.declared.command.Path.{Path}
use Rattle.debug_model.specs.declared.dmi.DmiFault.{DmiFault}
use Rattle.debug_model.specs.declared.dmi.DmiFault.TheVariants as dmi_fault
use Rattle.debug_model.specs.Kept.{DmiSeen}
use Rattle.rv_model.specs.declared.size.Size.{Size}
use Rattle.abstract_debugger.specs.Lines.{Line}
use Rattle.abstract_debugger.specs.Plan.{Plan}
use Rattle.abstract_debugger.specs.Plan.Plan.{stop}
use Rattle.abstract_debugger.specs.Plan.PlanEnd.{Done}
use Rattle.abstract_debugger.specs.Ways.{Way}
use Rattle.probe_access.specs.declared.fault.AccessFault.{AccessFault}
use Rattle.probe_access.specs.declared.fault.AccessFault.TheVariants as access_fault
use Rattle.probe_run.specs.declared.fault.RunFault.{RunFault}
use Rattle.probe_run.specs.declared.fault.RunFault.TheVariants as run_fault
use Rattle.probe_run.specs.Told.{Fails, told}
use Rattle.probe_session.specs.declared.fault.Failure.{Failure}
use Rattle.probe_session.specs.declared.fault.Failure.TheVariants as failure
use Rattle.probe_session.specs.BlockCalls.{BlockLoadFell, BlockStoreFell}
use Rattle.probe_session.specs.Calls.{ReadFell, SlotsFell}
use Rattle.probe_session.specs.Failures.{failure_of_access, failure_of_dmi, failure_of_run}
use Rattle.probe_session.specs.Goes.{Falls}
use Rattle.probe_session.specs.Going.{Branches}
use Rattle.probe_session.specs.Met.{Rest}
use Rattle.probe_session.specs.Places.{Place}
use Rattle.probe_session.specs.Reach.{MemoryRest}
use Rattle.probe_session.proofs.AccessCauses.{AccessCaused}
use Rattle.probe_session.proofs.EndCauses.{Caused, cause_since, fault_traced, load_traced, read_traced, slots_traced, store_traced, traced_since}
use Rattle.probe_session.proofs.RunCauses.{DmiCaused, RunCaused}
use Rattle.probe_session.proofs.SinkCauses.{IsNotSink, of_access, of_fault, of_load, of_store}
use Rattle.probe_trig.specs.Transfers.{Transfer}
use Rattle.soft_break.specs.declared.fault.SoftFault.{SoftFault}
use Rattle.soft_break.specs.declared.fault.SoftFault.TheVariants as soft_fault
use Rattle.soft_break.specs.Calls.{IfAccess}
use Rattle.soft_session.specs.Caused.{FailureCaused, LinkCaused}
use Rattle.soft_session.specs.Setting.{failure_of_soft}
use Rattle.soft_session.proofs.CausedAccesses.{CausedSince}

-- ---- since an earlier count of faults

pub since : (S : Type 0) (f : Failure) (old mid new : DmiSeen) → old.fault_count ≤ mid.fault_count → mid.fault_count ≤ new.fault_count
    → FailureCaused S mid new f → FailureCaused S old new f
since S (failure.Wire why) old mid new le later w = cause_since (failure.Wire why) old.fault_count mid.fault_count new.fault_count new.far le later w
since S (failure.Lost why) old mid new le later w = w
since S failure.Sink old mid new le later w = w

-- what a `?` hands on behind other calls
pub since_err : {A : Type 0} (S : Type 0) (f : Failure) (old mid new : DmiSeen) (result : Result A Failure) → IsErrAnd result (λ e. e ≡ f)
    → old.fault_count ≤ mid.fault_count → mid.fault_count ≤ new.fault_count → FailureCaused S mid new f → IfErr result (FailureCaused S old new)
since_err S f old mid new (Ok x) is le later w = tt
since_err S f old mid new (Err e) is le later w = subst (FailureCaused S old new) (sym is) (since S f old mid new le later w)

-- and what a last call answers
pub since_last : {A : Type 0} (S : Type 0) (old mid new : DmiSeen) (result : Result A Failure)
    → old.fault_count ≤ mid.fault_count → mid.fault_count ≤ new.fault_count → IfErr result (FailureCaused S mid new)
    → IfErr result (FailureCaused S old new)
since_last S old mid new (Ok x) le later w = tt
since_last S old mid new (Err f) le later w = since S f old mid new le later w

-- a call that puts no line
pub no_line : (S : Type 0) (f : Failure) (old new : DmiSeen) → LinkCaused old new f → FailureCaused S old new f
no_line S (failure.Wire why) old new w = w
no_line S (failure.Lost why) old new w = w
no_line S failure.Sink old new w = absurd w

-- and one that puts lines alone
pub of_sink : (S : Type 0) (f : Failure) (old new : DmiSeen) → f ≡ failure.Sink → S → FailureCaused S old new f
of_sink S f old new is s = subst (FailureCaused S old new) (sym is) s

-- ---- a call of a session

of_link : (f : Failure) (old new : DmiSeen) → IsNotSink f → Caused old.fault_count new.fault_count new.far f → LinkCaused old new f
of_link (failure.Wire why) old new other c = c.cause
of_link (failure.Lost why) old new other c = c.cause
of_link failure.Sink old new other c = absurd other

pub fell : {K : Type 0} (before : K → Place) (next : K) (said : List Line) (f : Failure) (old new : DmiSeen) → Fails (Falls before said) old new f
    → LinkCaused old new f
fell before next said f old new r = of_link f old new (of_fault (r.at next) r.count new.fault_count r.mid (told new) f (r.fault next))
    (traced_since f old.fault_count r.count new.fault_count new.far r.later
    (fault_traced (r.at next) r.count new.fault_count r.mid (told new) f (r.fault next)))

pub last_fell : {A K : Type 0} (before : K → Place) (next : K) (old mid new : DmiSeen) (result : Result A Failure)
    → old.fault_count ≤ mid.fault_count → mid.fault_count ≤ new.fault_count → IfErr result (Fails (Falls before []) mid new)
    → IfErr result (LinkCaused old new)
last_fell before next old mid new (Ok x) le later w = tt
last_fell before next old mid new (Err f) le later w = since ⊥ f old mid new le later (fell before next [] f mid new w)

pub any_plan : Plan
any_plan = stop Done

pub any_branches : Branches
any_branches = record { whole = stop Done; other = stop Done }

pub any_rest : Rest
any_rest = record { body = stop Done; next = stop Done }

pub any_memory_rest : MemoryRest
any_memory_rest = record { body = λ path. stop Done; next = stop Done }

pub read_fell : (h number : ℕ) (f : Failure) (old new : DmiSeen) → Fails (ReadFell h number) old new f → LinkCaused old new f
read_fell h number f old new r = of_link f old new (of_access r.why f r.is)
    (read_traced h number old.fault_count new.fault_count (told old) (told new) f r)

pub slots_fell : (Whole : List Transfer → Type 0) (h : ℕ) (f : Failure) (old new : DmiSeen) → Fails (SlotsFell Whole h) old new f → LinkCaused old new f
slots_fell Whole h f old new r = of_link f old new (of_access r.why f r.is)
    (slots_traced Whole h old.fault_count new.fault_count (told old) (told new) f r)

pub load_fell : {path : Path} {way : Way} {h : ℕ} (size : Size) (address count : ℕ) (f : Failure) (old new : DmiSeen)
    → Fails (BlockLoadFell path way h size address count) old new f
    → LinkCaused old new f
load_fell size address count f old new r =
    of_link f old new (of_load size address count old.fault_count new.fault_count (told old) (told new) f r)
    (load_traced size address count old.fault_count new.fault_count (told old) (told new) f r)

pub store_fell : {path : Path} {way : Way} {h : ℕ} (size : Size) (address : ℕ) (values : List ℕ) (f : Failure) (old new : DmiSeen)
    → Fails (BlockStoreFell path way h size address values) old new f → LinkCaused old new f
store_fell size address values f old new r =
    of_link f old new (of_store size address values old.fault_count new.fault_count (told old) (told new) f r)
    (store_traced size address values old.fault_count new.fault_count (told old) (told new) f r)

-- ---- a call on the table of breakpoints, where no fault of memory is its answer

by_dmi : (why : DmiFault) (old new : DmiSeen) → DmiCaused old.fault_count new.fault_count new.far why → LinkCaused old new (failure_of_dmi why)
by_dmi (dmi_fault.Wire why) old new w = w
by_dmi dmi_fault.Failed old new w = w
by_dmi dmi_fault.StillBusy old new w = w

by_run : (why : RunFault) (old new : DmiSeen) → RunCaused old.fault_count new.fault_count new.far why → LinkCaused old new (failure_of_run why)
by_run (run_fault.Dmi why) old new w = by_dmi why old new w
by_run (run_fault.NoHalt looks) old new w = w
by_run (run_fault.NoAck looks) old new w = w

pub by_access : (why : AccessFault) (old new : DmiSeen) → AccessCaused old.fault_count new.fault_count new.far why
    → LinkCaused old new (failure_of_access why)
by_access (access_fault.Dmi why) old new w = by_dmi why old new w
by_access (access_fault.Memory address) old new w = tt
by_access (access_fault.Register number) old new w = tt
by_access access_fault.StillBusy old new w = w
by_access (access_fault.Run why) old new w = by_run why old new w
by_access (access_fault.Odd shown) old new w = tt

pub by_access_since : (why : AccessFault) (old new : DmiSeen) → CausedSince old.fault_count new.fault_count new.far why
    → LinkCaused old new (failure_of_access why)
by_access_since why old new s =
    let mid : DmiSeen = record old { fault_count = s.count } in
    since ⊥ (failure_of_access why) old mid new s.le s.later (by_access why mid new s.caused)

pub by_soft : (why : SoftFault) (f : Failure) (old new : DmiSeen) → f ≡ failure_of_soft why
    → IfAccess (CausedSince old.fault_count new.fault_count new.far) why → LinkCaused old new f
by_soft (soft_fault.Access why) f old new is w = subst (LinkCaused old new) (sym is) (by_access_since why old new w)
by_soft soft_fault.Full f old new is w = subst (LinkCaused old new) (sym is) tt
by_soft soft_fault.Set f old new is w = subst (LinkCaused old new) (sym is) tt
by_soft soft_fault.NotSet f old new is w = subst (LinkCaused old new) (sym is) tt

pub if_access_map : (P Q : AccessFault → Type 0) (why : SoftFault) → ((e : AccessFault) → P e → Q e) → IfAccess P why → IfAccess Q why
if_access_map P Q (soft_fault.Access e) f p = f e p
if_access_map P Q soft_fault.Full f p = tt
if_access_map P Q soft_fault.Set f p = tt
if_access_map P Q soft_fault.NotSet f p = tt
