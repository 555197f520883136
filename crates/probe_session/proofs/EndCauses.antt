-- What caused a fault that ended a session, wherever in the session it came.
use Rattle.std.proofs.Common.{◌≡◌, ◌≤◌, ℕ, List, Option, Some, None, IfSome, sym, subst, arith}
use Rattle.debug_model.specs.declared.command.Path.{Path}
use Rattle.debug_model.specs.declared.dmi.DmiFault.{DmiFault}
use Rattle.debug_model.specs.declared.dmi.DmiFault.TheVariants as dmi_fault
use Rattle.debug_model.specs.declared.wire.WireFault.{WireFault}
use Rattle.debug_model.specs.Dmi.DmiComing.{Scans}
use Rattle.debug_model.specs.Scan.{Coming, ScanCause}
use Rattle.debug_model.specs.Told.{Far}
use Rattle.abstract_debugger.specs.Plan.{Plan}
use Rattle.abstract_debugger.specs.Ways.{Way}
use Rattle.probe_access.specs.declared.fault.AccessFault.{AccessFault}
use Rattle.probe_access.specs.declared.fault.AccessFault.TheVariants as fault
use Rattle.probe_run.specs.declared.fault.RunFault.{RunFault}
use Rattle.probe_run.specs.declared.fault.RunFault.TheVariants as run_fault
use Rattle.probe_run.specs.Acts.{Tells}
use Rattle.probe_run.proofs.ActLemmas.{cause_from}
use Rattle.probe_session.specs.declared.ended.Ended.{Ended}
use Rattle.probe_session.specs.declared.ended.Ended.TheVariants as ended
use Rattle.probe_session.specs.declared.fault.Failure.{Failure}
use Rattle.probe_session.specs.declared.fault.Failure.TheVariants as failure
use Rattle.probe_trig.specs.declared.change.Change.TheVariants.{Forget}
use Rattle.probe_trig.specs.Runs.{ArmsAny, ChangesAny, FreesAny, ReadsAny}
use Rattle.probe_trig.specs.Transfers.{Transfer}
use Rattle.rv_model.specs.declared.size.Size.{Size}
use Rattle.rv_model.specs.DebugRegisters.{dcsr_number}
use Rattle.rv_model.specs.Registers.{mip_number}
use Rattle.probe_session.specs.Steps.{with_ebreakm}
use Rattle.probe_session.specs.BlockCalls.{BlockLoadFell, BlockStoreFell}
use Rattle.probe_session.specs.Calls.{LookFell, ReadFell, SlotsFell, WriteFell}
use Rattle.probe_session.specs.Causes.{EndCaused, LostCaused, WireCause}
use Rattle.probe_session.specs.Failures.{Became, failure_of_dmi, failure_of_run}
use Rattle.probe_session.specs.Goes.{Anyhow, Fault, Fell}
use Rattle.probe_session.specs.Places.{Place}
use Rattle.probe_session.specs.Scripts.{BrokeOff, EndedBy, at_plan}
use Rattle.probe_session.proofs.AccessCauses.{AccessCaused, block_caused, bus_block_caused, over_caused, read_caused, single_step_caused, slots_caused, step_from_caused, stop_caused}
use Rattle.probe_session.proofs.AccessCauses.{apart_caused, write_caused}
use Rattle.probe_session.proofs.RunCauses.{DmiCaused, RunCaused, halt_caused, look_caused, opening_caused, resume_caused, scanned_caused}

abbrev pub FailureCaused : (old_count new_count : ℕ) → Option Far → Failure → Type 0
FailureCaused old_count new_count told (failure.Wire why) = WireCause old_count new_count told why
FailureCaused old_count new_count told (failure.Lost why) = LostCaused told why
FailureCaused old_count new_count told failure.Sink = Unit {0}

-- the count has not fallen, so that the cause is one since any earlier count as well
pub record Caused (old_count new_count : ℕ) (told : Option Far) (f : Failure) : Type 0 where
  pub later : old_count ≤ new_count
  pub cause : FailureCaused old_count new_count told f

-- ---- by the fault

by_dmi : (why : DmiFault) (old_count new_count : ℕ) (told : Option Far) → DmiCaused old_count new_count told why
    → FailureCaused old_count new_count told (failure_of_dmi why)
by_dmi (dmi_fault.Wire why) old_count new_count told w = w
by_dmi dmi_fault.Failed old_count new_count told w = w
by_dmi dmi_fault.StillBusy old_count new_count told w = w

of_dmi : (why : DmiFault) (f : Failure) (old_count new_count : ℕ) (told : Option Far) → f ≡ failure_of_dmi why → DmiCaused old_count new_count told why
    → FailureCaused old_count new_count told f
of_dmi why f old_count new_count told is w = subst (FailureCaused old_count new_count told) (sym is) (by_dmi why old_count new_count told w)

by_run : (why : RunFault) (old_count new_count : ℕ) (told : Option Far) → RunCaused old_count new_count told why
    → FailureCaused old_count new_count told (failure_of_run why)
by_run (run_fault.Dmi why) old_count new_count told w = by_dmi why old_count new_count told w
by_run (run_fault.NoHalt looks) old_count new_count told w = w
by_run (run_fault.NoAck looks) old_count new_count told w = w

pub of_run : (why : RunFault) (f : Failure) (old_count new_count : ℕ) (told : Option Far) → f ≡ failure_of_run why
    → RunCaused old_count new_count told why → FailureCaused old_count new_count told f
of_run why f old_count new_count told is w = subst (FailureCaused old_count new_count told) (sym is) (by_run why old_count new_count told w)

pub of_access : (why : AccessFault) (f : Failure) (old_count new_count : ℕ) (told : Option Far) → Became why f → AccessCaused old_count new_count told why
    → FailureCaused old_count new_count told f
of_access (fault.Dmi why) f old_count new_count told is w = of_dmi why f old_count new_count told is w
of_access (fault.Memory address) f old_count new_count told is w = absurd is
of_access (fault.Register number) f old_count new_count told is w = subst (FailureCaused old_count new_count told) (sym is) tt
of_access fault.StillBusy f old_count new_count told is w = subst (FailureCaused old_count new_count told) (sym is) w
of_access (fault.Run why) f old_count new_count told is w = of_run why f old_count new_count told is w
of_access (fault.Odd shown) f old_count new_count told is w = subst (FailureCaused old_count new_count told) (sym is) tt

-- ---- since an earlier count of faults

scan_since : (coming : Option Coming) (count mid_count new_count : ℕ) (told : Option Far) (why : WireFault) → count ≤ mid_count → mid_count ≤ new_count
    → ScanCause mid_count new_count told coming why → ScanCause count new_count told coming why
scan_since None count mid_count new_count told why le later cause = cause_from count mid_count new_count None told None (dmi_fault.Wire why) le later cause
scan_since (Some coming) count mid_count new_count told why le later cause =
    cause_from count mid_count new_count None told (Some (Scans coming)) (dmi_fault.Wire why) le later cause

pub cause_since : (f : Failure) (count mid_count new_count : ℕ) (told : Option Far) → count ≤ mid_count → mid_count ≤ new_count
    → FailureCaused mid_count new_count told f → FailureCaused count new_count told f
cause_since (failure.Wire why) count mid_count new_count told le later w =
    record { coming = w.coming; cause = scan_since w.coming count mid_count new_count told why le later w.cause }
cause_since (failure.Lost why) count mid_count new_count told le later w = w
cause_since failure.Sink count mid_count new_count told le later w = tt

pub traced_since : (f : Failure) (count mid_count new_count : ℕ) (told : Option Far) → count ≤ mid_count → Caused mid_count new_count told f
    → Caused count new_count told f
traced_since f count mid_count new_count told le w = record {
  later = omega (arith, le, w.later);
  cause =
      cause_since f count mid_count new_count told le w.later w.cause;
}

-- ---- a call that failed

pub load_traced : {path : Path} {way : Way} {h : ℕ} (size : Size) (address count old_count new_count : ℕ) (old new : Tells) (f : Failure)
    → BlockLoadFell path way h size address count old_count new_count old new f → Caused old_count new_count new.far f
load_traced size address count old_count new_count old new f (BlockLoadFell.by_hart why held known at later heard causes told cut is) =
    record { later = later; cause = of_access why f old_count new_count new.far is (block_caused why old_count new_count old new causes) }
load_traced size address count old_count new_count old new f (BlockLoadFell.by_bus why held at later causes told cut is) =
    record { later = later; cause = of_access why f old_count new_count new.far is (bus_block_caused why old_count new_count old new causes) }

pub store_traced : {path : Path} {way : Way} {h : ℕ} (size : Size) (address : ℕ) (values : List ℕ) (old_count new_count : ℕ) (old new : Tells) (f : Failure)
    → BlockStoreFell path way h size address values old_count new_count old new f → Caused old_count new_count new.far f
store_traced size address values old_count new_count old new f (BlockStoreFell.by_hart why value count are known at later heard causes told cut is) =
    record { later = later; cause = of_access why f old_count new_count new.far is (block_caused why old_count new_count old new causes) }
store_traced size address values old_count new_count old new f (BlockStoreFell.by_bus why at later causes told cut is) =
    record { later = later; cause = of_access why f old_count new_count new.far is (bus_block_caused why old_count new_count old new causes) }

pub read_traced : (h number old_count new_count : ℕ) (old new : Tells) (f : Failure) → ReadFell h number old_count new_count old new f
    → Caused old_count new_count new.far f
read_traced h number old_count new_count old new f r =
    record { later = r.later; cause = of_access r.why f old_count new_count new.far r.is (read_caused r.why number old_count new_count old new r.heard) }

pub write_traced : (h number value old_count new_count : ℕ) (old new : Tells) (f : Failure) → WriteFell h number value old_count new_count old new f
    → Caused old_count new_count new.far f
write_traced h number value old_count new_count old new f r =
    record { later = r.later; cause = of_access r.why f old_count new_count new.far r.is (write_caused r.why number value old_count new_count old new r.heard) }

pub slots_traced : (Whole : List Transfer → Type 0) (h old_count new_count : ℕ) (old new : Tells) (f : Failure) → SlotsFell Whole h old_count new_count old new f
    → Caused old_count new_count new.far f
slots_traced Whole h old_count new_count old new f r =
    record { later = r.later; cause = of_access r.why f old_count new_count new.far r.is (slots_caused r.why Whole h old_count new_count old new r.heard) }

pub look_traced : (h old_count new_count : ℕ) (old new : Tells) (f : Failure) → LookFell h old_count new_count old new f → Caused old_count new_count new.far f
look_traced h old_count new_count old new f r = record {
  later = r.later;
  cause =
      of_run r.why f old_count new_count new.far r.is (look_caused r.why h old_count new_count old new r.heard);
}

pub fault_traced : (p : Place) (old_count new_count : ℕ) (old new : Tells) (f : Failure) → Fault p old_count new_count old new f
    → Caused old_count new_count new.far f
fault_traced p old_count new_count old new f (Fault.idcode r) =
    record { later = r.later; cause = of_dmi r.why f old_count new_count new.far r.is (scanned_caused r.why old_count new_count new.far old.coming r.cause) }
fault_traced p old_count new_count old new f (Fault.looking {h} next r) = look_traced h old_count new_count old new f r
fault_traced p old_count new_count old new f (Fault.halt {h} next r) = record
    { later = r.later; cause = of_run r.why f old_count new_count new.far r.is (halt_caused r.why h old_count new_count old new r.heard) }
fault_traced p old_count new_count old new f (Fault.resuming {h} next r) =
    record { later = r.later; cause = of_run r.why f old_count new_count new.far r.is (resume_caused r.why h old_count new_count old new r.heard) }
fault_traced p old_count new_count old new f (Fault.stepping_over {h} stepped other r) =
    record { later = r.later; cause = of_access r.why f old_count new_count new.far r.is (over_caused r.why h old_count new_count old new r.heard) }
fault_traced p old_count new_count old new f (Fault.stepping {h} stepped other r) =
    record { later = r.later; cause = of_access r.why f old_count new_count new.far r.is (single_step_caused r.why h old_count new_count old new r.heard) }
fault_traced p old_count new_count old new f (Fault.stepping_from {h} {word} stepped other got r) =
    record { later = r.later; cause = of_access r.why f old_count new_count new.far r.is (step_from_caused r.why h word old_count new_count old new r.heard) }
fault_traced p old_count new_count old new f (Fault.asking {h} {number} r) = read_traced h number old_count new_count old new f r.fell
fault_traced p old_count new_count old new f (Fault.asking_pending next r) = record {
  later = r.later;
  cause =
      of_access r.why f old_count new_count new.far r.is (apart_caused r.why mip_number old_count new_count old new r.heard);
}
fault_traced p old_count new_count old new f (Fault.reading {h} {number} r of) = read_traced h number old_count new_count old new f r
fault_traced p old_count new_count old new f (Fault.giving {h} {number} {value} refused next r) = write_traced h number value old_count new_count old new f r.fell
fault_traced p old_count new_count old new f (Fault.writing {h} {word} {count = count} {on = on} next {mid = mid} at le r) =
    traced_since f old_count count new_count new.far le (write_traced h dcsr_number (with_ebreakm on word) count new_count mid new f r)
fault_traced p old_count new_count old new f (Fault.viewing {h} r) = slots_traced ReadsAny h old_count new_count old new f r
fault_traced p old_count new_count old new f (Fault.arming {h} {meant = meant} r) = slots_traced (ArmsAny meant) h old_count new_count old new f r
fault_traced p old_count new_count old new f (Fault.freeing {h} {slot} r) = slots_traced (FreesAny slot) h old_count new_count old new f r
fault_traced p old_count new_count old new f (Fault.forgetting {h} r) = slots_traced (ChangesAny Forget) h old_count new_count old new f r
fault_traced p old_count new_count old new f (Fault.forgetting_behind {h} {count = count} refused next {mid = mid} gave le r) =
    traced_since f old_count count new_count new.far le (slots_traced (ChangesAny Forget) h count new_count mid new f r)
fault_traced p old_count new_count old new f (Fault.behind {count = count} {mid = mid} passed le r) =
    traced_since f old_count count new_count new.far le (fault_traced _ count new_count mid new f r)
fault_traced p old_count new_count old new f (Fault.stopping r) = record {
  later = r.later;
  cause =
      of_access r.why f old_count new_count new.far r.is (stop_caused r.why old_count new_count old new r.heard);
}
fault_traced p old_count new_count old new f (Fault.loading_block {address = address} {count} {size = size} may r) =
    load_traced size address count old_count new_count old new f r
fault_traced p old_count new_count old new f (Fault.storing_block {address = address} {size = size} {values} stores r) =
    store_traced size address values old_count new_count old new f r

-- ---- wherever the session broke off

fell_caused : (f : Failure) (p : Plan) (old_count count new_count : ℕ) (mid new : Tells) (sink_old sink_new : ℕ) (was is : Option (List ℕ))
    → old_count ≤ count
    → Fell Anyhow (at_plan p) count new_count mid new sink_old sink_new was is f → FailureCaused old_count new_count new.far f
fell_caused f p old_count count new_count mid new sink_old sink_new was is le (Fell.in_call said falls put) =
    (traced_since f old_count falls.count new_count new.far (omega (arith, le, falls.later))
    (fault_traced (falls.at tt) falls.count new_count falls.mid new f (falls.fault tt))).cause
fell_caused f p old_count count new_count mid new sink_old sink_new was is le (Fell.at_line said line heard way h next may quiet went front rises) = tt
fell_caused f p old_count count new_count mid new sink_old sink_new was is le (Fell.among_lines said ahead way h next quiet went front rises) = tt

broke_caused : (f : Failure) (p : Plan) (old_count new_count : ℕ) (old new : Tells) (sink_old sink_new : ℕ) (was is : Option (List ℕ))
    → BrokeOff p old_count new_count old new sink_old sink_new was is f → FailureCaused old_count new_count new.far f
broke_caused f p old_count new_count old new sink_old sink_new was is (BrokeOff.in_opening why u e) =
    of_dmi why f old_count new_count new.far e (opening_caused why old_count new_count old new u.fails)
broke_caused f p old_count new_count old new sink_old sink_new was is (BrokeOff.in_plan r) =
    fell_caused f p old_count r.count new_count r.mid new sink_old sink_new was is r.later r.fell

pub ended_caused : (e : Ended) (p : Plan) (old_count new_count : ℕ) (old new : Tells) (sink_old sink_new : ℕ) (was is : Option (List ℕ))
    → EndedBy p old_count new_count old new sink_old sink_new was is e → EndCaused old_count new_count new.far e
ended_caused ended.Clean p old_count new_count old new sink_old sink_new was is r = tt
ended_caused ended.WithErrors p old_count new_count old new sink_old sink_new was is r = tt
ended_caused (ended.Target fault) p old_count new_count old new sink_old sink_new was is r = tt
ended_caused (ended.Wire why) p old_count new_count old new sink_old sink_new was is r =
    broke_caused (failure.Wire why) p old_count new_count old new sink_old sink_new was is r
ended_caused (ended.Lost why) p old_count new_count old new sink_old sink_new was is r =
    broke_caused (failure.Lost why) p old_count new_count old new sink_old sink_new was is r
ended_caused ended.Sink p old_count new_count old new sink_old sink_new was is r = tt
