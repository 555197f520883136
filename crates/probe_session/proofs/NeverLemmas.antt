-- What does not become of a session where its chip's schedule is fair: of the faults of the layers below, and behind a call.
use Rattle.std.proofs.Common.{◌≡◌, ℕ, Option, Result, Ok, Err, IfErr, sym, subst}
use Rattle.debug_model.specs.declared.dmi.DmiFault.{DmiFault}
use Rattle.debug_model.specs.declared.dmi.DmiFault.TheVariants as dmi_fault
use Rattle.debug_model.specs.Kept.{DmiSeen}
use Rattle.debug_model.specs.Rises.{FailsByWire, IsOfWire, Within}
use Rattle.debug_model.specs.Told.{Far}
use Rattle.probe_access.specs.declared.fault.AccessFault.{AccessFault}
use Rattle.probe_access.specs.declared.fault.AccessFault.TheVariants as access_fault
use Rattle.probe_access.specs.Never.{NeverLost}
use Rattle.probe_run.specs.declared.fault.ConnectFault.{ConnectFault}
use Rattle.probe_run.specs.declared.fault.ConnectFault.TheVariants as connect
use Rattle.probe_run.specs.declared.fault.RunFault.{RunFault}
use Rattle.probe_run.specs.declared.fault.RunFault.TheVariants as run_fault
use Rattle.probe_run.specs.Soon.{NeverInVain, OpeningByWire}
use Rattle.probe_run.proofs.NeverLemmas.{paced_then}
use Rattle.probe_trig.specs.declared.fault.TrigFault.{TrigFault}
use Rattle.probe_trig.specs.declared.fault.TrigFault.TheVariants as trig_fault
use Rattle.probe_trig.specs.Never.{SlotNeverLost}
use Rattle.probe_session.specs.declared.acted.Acted.{Acted as Became}
use Rattle.probe_session.specs.declared.acted.Acted.TheVariants as acted
use Rattle.probe_session.specs.declared.ended.Ended.{Ended as End}
use Rattle.probe_session.specs.declared.ended.Ended.TheVariants as ends
use Rattle.probe_session.specs.declared.fault.Failure.{Failure}
use Rattle.probe_session.specs.declared.fault.Failure.TheVariants as failure
use Rattle.probe_session.specs.declared.fault.LostCause.{LostCause}
use Rattle.probe_session.specs.declared.fault.LostCause.TheVariants as lost
use Rattle.probe_session.specs.Failures.{Became as AccessBecame, failure_of_access, failure_of_dmi, failure_of_run, failure_of_trig}
use Rattle.probe_session.specs.Never.{ActsInTime, EndsInTime, LostInTime, NeverGivesUp}
use Rattle.probe_session.specs.Scripts.{ended_unopened}

-- ---- of the layers below

pub by_dmi : (old : DmiSeen) (why : DmiFault) → FailsByWire old why → NeverGivesUp old (failure_of_dmi why)
by_dmi old (dmi_fault.Wire why) x = tt
by_dmi old dmi_fault.Failed x = x
by_dmi old dmi_fault.StillBusy x = x

pub by_run : (old : DmiSeen) (why : RunFault) → NeverInVain old why → NeverGivesUp old (failure_of_run why)
by_run old (run_fault.Dmi why) x = by_dmi old why x
by_run old (run_fault.NoHalt looks) x = x
by_run old (run_fault.NoAck looks) x = x

pub by_access : (old : DmiSeen) (why : AccessFault) → NeverLost old why → NeverGivesUp old (failure_of_access why)
by_access old (access_fault.Dmi why) x = by_dmi old why x
by_access old (access_fault.Memory address) x = tt
by_access old (access_fault.Register number) x = tt
by_access old access_fault.StillBusy x = x
by_access old (access_fault.Run why) x = by_run old why x
by_access old (access_fault.Odd shown) x = tt

pub by_trig : (old : DmiSeen) (why : TrigFault) → SlotNeverLost old why → NeverGivesUp old (failure_of_trig why)
by_trig old (trig_fault.Access why) x = by_access old why x
by_trig old trig_fault.NoFreeSlot x = tt
by_trig old trig_fault.NotInUse x = tt

-- the failure that an access became
pub of_dmi : (old : DmiSeen) (why : DmiFault) (f : Failure) → FailsByWire old why → f ≡ failure_of_dmi why → NeverGivesUp old f
of_dmi old why f x is = subst (NeverGivesUp old) (sym is) (by_dmi old why x)

pub of_run : (old : DmiSeen) (why : RunFault) (f : Failure) → NeverInVain old why → f ≡ failure_of_run why → NeverGivesUp old f
of_run old why f x is = subst (NeverGivesUp old) (sym is) (by_run old why x)

pub of_access : (old : DmiSeen) (why : AccessFault) (f : Failure) → NeverLost old why → f ≡ failure_of_access why → NeverGivesUp old f
of_access old why f x is = subst (NeverGivesUp old) (sym is) (by_access old why x)

pub of_trig : (old : DmiSeen) (why : TrigFault) (f : Failure) → SlotNeverLost old why → f ≡ failure_of_trig why → NeverGivesUp old f
of_trig old why f x is = subst (NeverGivesUp old) (sym is) (by_trig old why x)

pub of_became : (old : DmiSeen) (why : AccessFault) (f : Failure) → NeverLost old why → AccessBecame why f → NeverGivesUp old f
of_became old (access_fault.Dmi why) f x is = of_dmi old why f x is
of_became old (access_fault.Memory address) f x is = absurd is
of_became old (access_fault.Register number) f x is = subst (NeverGivesUp old) (sym is) tt
of_became old access_fault.StillBusy f x is = subst (NeverGivesUp old) (sym is) x
of_became old (access_fault.Run why) f x is = of_run old why f x is
of_became old (access_fault.Odd shown) f x is = subst (NeverGivesUp old) (sym is) tt

-- ---- behind a call

pub lost_in_time_then : (n : ℕ) (old mid : DmiSeen) (cause : LostCause) → Within n old mid → LostInTime mid.far cause → LostInTime old.far cause
lost_in_time_then n old mid lost.DmiFailed w x = paced_then ⊥ n old mid w x
lost_in_time_then n old mid lost.StillBusy w x = paced_then ⊥ n old mid w x
lost_in_time_then n old mid (lost.NoHalt looks) w x = paced_then ⊥ n old mid w x
lost_in_time_then n old mid (lost.NoAck looks) w x = paced_then ⊥ n old mid w x
lost_in_time_then n old mid (lost.Odd odd) w x = tt

pub gives_up_then : (n : ℕ) (old mid : DmiSeen) (why : Failure) → Within n old mid → NeverGivesUp mid why → NeverGivesUp old why
gives_up_then n old mid (failure.Wire why) w x = tt
gives_up_then n old mid (failure.Lost cause) w x = lost_in_time_then n old mid cause w x
gives_up_then n old mid failure.Sink w x = tt

pub acts_then : (n : ℕ) (old mid : DmiSeen) (end : Became) → Within n old mid → ActsInTime mid end → ActsInTime old end
acts_then n old mid acted.Done w x = tt
acts_then n old mid acted.Error w x = tt
acts_then n old mid acted.End w x = tt
acts_then n old mid (acted.Wire why) w x = tt
acts_then n old mid (acted.Lost cause) w x = lost_in_time_then n old mid cause w x
acts_then n old mid acted.Sink w x = tt

pub ends_then : (n : ℕ) (old mid : DmiSeen) (end : End) → Within n old mid → EndsInTime mid.far end → EndsInTime old.far end
ends_then n old mid ends.Clean w x = tt
ends_then n old mid ends.WithErrors w x = tt
ends_then n old mid (ends.Target why) w x = tt
ends_then n old mid (ends.Wire why) w x = tt
ends_then n old mid (ends.Lost cause) w x = lost_in_time_then n old mid cause w x
ends_then n old mid ends.Sink w x = tt

-- whatever a fault of a call behind another became
pub behind_then : {A : Type 0} (n : ℕ) (old mid : DmiSeen) (result : Result A Failure) → Within n old mid → IfErr result (NeverGivesUp mid)
    → IfErr result (NeverGivesUp old)
behind_then n old mid (Ok x) w never = tt
behind_then n old mid (Err e) w never = gives_up_then n old mid e w never

-- ---- of an opening

pub unopened_in_time : (old : DmiSeen) (why : ConnectFault) → OpeningByWire old why → EndsInTime old.far (ended_unopened why)
unopened_in_time old (connect.Dtm word) x = tt
unopened_in_time old (connect.Module word is_activation) x = tt
unopened_in_time old (connect.Abstract word) x = tt
unopened_in_time old (connect.Bus word) x = tt
unopened_in_time old (connect.Dmi (dmi_fault.Wire why)) x = tt
unopened_in_time old (connect.Dmi dmi_fault.Failed) x = x
unopened_in_time old (connect.Dmi dmi_fault.StillBusy) x = x
