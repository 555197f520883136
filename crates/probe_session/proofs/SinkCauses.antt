-- A session ends by its sink only where the sink failed: no call of the layers below makes that failure.
use Rattle.std.proofs.Common.{◌≡◌, ℕ, List, Option, refl, sym, subst}
use Rattle.jt_base.specs.Faults.{Rises}
use Rattle.debug_model.specs.declared.command.Path.{Path}
use Rattle.debug_model.specs.declared.dmi.DmiFault.{DmiFault}
use Rattle.debug_model.specs.declared.dmi.DmiFault.TheVariants as dmi_fault
use Rattle.abstract_debugger.specs.Plan.{Plan}
use Rattle.abstract_debugger.specs.Lines.{Line}
use Rattle.abstract_debugger.specs.Ways.{Way}
use Rattle.probe_access.specs.declared.fault.AccessFault.{AccessFault}
use Rattle.probe_access.specs.declared.fault.AccessFault.TheVariants as fault
use Rattle.probe_run.specs.declared.fault.RunFault.{RunFault}
use Rattle.probe_run.specs.declared.fault.RunFault.TheVariants as run_fault
use Rattle.probe_run.specs.Acts.{Tells}
use Rattle.rv_model.specs.declared.size.Size.{Size}
use Rattle.probe_session.specs.declared.ended.Ended.{Ended}
use Rattle.probe_session.specs.declared.ended.Ended.TheVariants as ended
use Rattle.probe_session.specs.declared.fault.Failure.{Failure}
use Rattle.probe_session.specs.declared.fault.Failure.TheVariants as failure
use Rattle.probe_session.specs.BlockCalls.{BlockLoadFell, BlockStoreFell}
use Rattle.probe_session.specs.Causes.{SinkCaused}
use Rattle.probe_session.specs.Failures.{Became, failure_of_dmi, failure_of_run}
use Rattle.probe_session.specs.Goes.{Anyhow, Falls, Fault, Fell}
use Rattle.probe_session.specs.Places.{Place}
use Rattle.probe_session.specs.Scripts.{EndedBy, at_plan}

abbrev pub IsNotSink : Failure → Type 0
IsNotSink (failure.Wire why) = Unit {0}
IsNotSink (failure.Lost why) = Unit {0}
IsNotSink failure.Sink = ⊥

-- ---- by the fault

by_dmi : (why : DmiFault) → IsNotSink (failure_of_dmi why)
by_dmi (dmi_fault.Wire why) = tt
by_dmi dmi_fault.Failed = tt
by_dmi dmi_fault.StillBusy = tt

of_dmi : (why : DmiFault) (f : Failure) → f ≡ failure_of_dmi why → IsNotSink f
of_dmi why f is = subst IsNotSink (sym is) (by_dmi why)

by_run : (why : RunFault) → IsNotSink (failure_of_run why)
by_run (run_fault.Dmi why) = by_dmi why
by_run (run_fault.NoHalt looks) = tt
by_run (run_fault.NoAck looks) = tt

pub of_run : (why : RunFault) (f : Failure) → f ≡ failure_of_run why → IsNotSink f
of_run why f is = subst IsNotSink (sym is) (by_run why)

pub of_access : (why : AccessFault) (f : Failure) → Became why f → IsNotSink f
of_access (fault.Dmi why) f is = of_dmi why f is
of_access (fault.Memory address) f is = absurd is
of_access (fault.Register number) f is = subst IsNotSink (sym is) tt
of_access fault.StillBusy f is = subst IsNotSink (sym is) tt
of_access (fault.Run why) f is = of_run why f is
of_access (fault.Odd shown) f is = subst IsNotSink (sym is) tt

-- ---- a call that failed

pub of_load : {path : Path} {way : Way} {h : ℕ} (size : Size) (address count old_count new_count : ℕ) (old new : Tells) (f : Failure)
    → BlockLoadFell path way h size address count old_count new_count old new f → IsNotSink f
of_load size address count old_count new_count old new f (BlockLoadFell.by_hart why held known at later heard causes told cut is) = of_access why f is
of_load size address count old_count new_count old new f (BlockLoadFell.by_bus why held at later causes told cut is) = of_access why f is

pub of_store : {path : Path} {way : Way} {h : ℕ} (size : Size) (address : ℕ) (values : List ℕ) (old_count new_count : ℕ) (old new : Tells) (f : Failure)
    → BlockStoreFell path way h size address values old_count new_count old new f → IsNotSink f
of_store size address values old_count new_count old new f (BlockStoreFell.by_hart why value count are known at later heard causes told cut is) =
    of_access why f is
of_store size address values old_count new_count old new f (BlockStoreFell.by_bus why at later causes told cut is) = of_access why f is

pub of_fault : (p : Place) (old_count new_count : ℕ) (old new : Tells) (f : Failure) → Fault p old_count new_count old new f → IsNotSink f
of_fault p old_count new_count old new f (Fault.idcode r) = of_dmi r.why f r.is
of_fault p old_count new_count old new f (Fault.looking next r) = of_run r.why f r.is
of_fault p old_count new_count old new f (Fault.halt next r) = of_run r.why f r.is
of_fault p old_count new_count old new f (Fault.resuming next r) = of_run r.why f r.is
of_fault p old_count new_count old new f (Fault.stepping_over stepped other r) = of_access r.why f r.is
of_fault p old_count new_count old new f (Fault.stepping stepped other r) = of_access r.why f r.is
of_fault p old_count new_count old new f (Fault.stepping_from stepped other got r) = of_access r.why f r.is
of_fault p old_count new_count old new f (Fault.asking r) = of_access r.fell.why f r.fell.is
of_fault p old_count new_count old new f (Fault.asking_pending next r) = of_access r.why f r.is
of_fault p old_count new_count old new f (Fault.reading r of) = of_access r.why f r.is
of_fault p old_count new_count old new f (Fault.giving refused next r) = of_access r.fell.why f r.fell.is
of_fault p old_count new_count old new f (Fault.writing next at le r) = of_access r.why f r.is
of_fault p old_count new_count old new f (Fault.viewing r) = of_access r.why f r.is
of_fault p old_count new_count old new f (Fault.arming r) = of_access r.why f r.is
of_fault p old_count new_count old new f (Fault.freeing r) = of_access r.why f r.is
of_fault p old_count new_count old new f (Fault.forgetting r) = of_access r.why f r.is
of_fault p old_count new_count old new f (Fault.forgetting_behind refused next gave le r) = of_access r.why f r.is
of_fault p old_count new_count old new f (Fault.behind {count = count} {mid = mid} passed le r) = of_fault _ count new_count mid new f r
of_fault p old_count new_count old new f (Fault.stopping r) = of_access r.why f r.is
of_fault p old_count new_count old new f (Fault.loading_block {address = address} {count} {size = size} may r) =
    of_load size address count old_count new_count old new f r
of_fault p old_count new_count old new f (Fault.storing_block {address = address} {size = size} {values} stores r) =
    of_store size address values old_count new_count old new f r

fault_not_sink : (p : Place) (old_count new_count : ℕ) (old new : Tells) → Fault p old_count new_count old new failure.Sink → ⊥
fault_not_sink p old_count new_count old new r = of_fault p old_count new_count old new failure.Sink r

falls_not_sink : (before : Unit {0} → Place) (said : List Line) (old_count new_count : ℕ) (old new : Tells)
    → Falls before said old_count new_count old new failure.Sink → ⊥
falls_not_sink before said old_count new_count old new r = fault_not_sink (r.at tt) r.count new_count r.mid new (r.fault tt)

-- ---- so it was a line

fell_sink : (f : Failure) → f ≡ failure.Sink → (before : Unit {0} → Place) (old_count new_count : ℕ) (old new : Tells) (sink_old sink_new : ℕ)
    (was is : Option (List ℕ)) → Fell Anyhow before old_count new_count old new sink_old sink_new was is f → Rises sink_old sink_new
fell_sink f e before old_count new_count old new sink_old sink_new was is (Fell.in_call said r put) =
    absurd (falls_not_sink before said old_count new_count old new (subst (Falls before said old_count new_count old new) e r))
fell_sink f e before old_count new_count old new sink_old sink_new was is (Fell.at_line said line heard way h next may quiet went front rises) = rises
fell_sink f e before old_count new_count old new sink_old sink_new was is (Fell.among_lines said ahead way h next quiet went front rises) = rises

pub sink_caused : (e : Ended) (p : Plan) (old_count new_count : ℕ) (old new : Tells) (sink_old sink_new : ℕ) (was is : Option (List ℕ))
    → EndedBy p old_count new_count old new sink_old sink_new was is e → SinkCaused sink_old sink_new e
sink_caused ended.Clean p old_count new_count old new sink_old sink_new was is r = tt
sink_caused ended.WithErrors p old_count new_count old new sink_old sink_new was is r = tt
sink_caused (ended.Target fault) p old_count new_count old new sink_old sink_new was is r = tt
sink_caused (ended.Wire why) p old_count new_count old new sink_old sink_new was is r = tt
sink_caused (ended.Lost why) p old_count new_count old new sink_old sink_new was is r = tt
sink_caused ended.Sink p old_count new_count old new sink_old sink_new was is r =
    fell_sink failure.Sink refl (at_plan p) r.count new_count r.mid new sink_old sink_new was is r.fell
