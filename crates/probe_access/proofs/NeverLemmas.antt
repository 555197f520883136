-- A fault that does not come behind a call, where its chip's schedule is fair, does not come where the schedule was fair before the call.
use Rattle.std.proofs.Common.{ℕ}
use Rattle.debug_model.specs.Kept.{DmiSeen}
use Rattle.debug_model.specs.Rises.{Within}
use Rattle.probe_run.specs.declared.fault.RunFault.{RunFault}
use Rattle.probe_run.specs.declared.fault.RunFault.TheVariants as run
use Rattle.probe_run.specs.Soon.{NeverInVain}
use Rattle.probe_run.proofs.NeverLemmas.{by_wire_then, paced_then, vain_then}
use Rattle.probe_access.specs.declared.fault.AccessFault.{AccessFault}
use Rattle.probe_access.specs.declared.fault.AccessFault.TheVariants as fault
use Rattle.probe_access.specs.Never.{NeverLost}
use Rattle.probe_access.specs.StepRuns.{of_run}

pub lost_then : (n : ℕ) (old mid : DmiSeen) (why : AccessFault) → Within n old mid → NeverLost mid why → NeverLost old why
lost_then n old mid (fault.Dmi why) w x = by_wire_then n old mid why w x
lost_then n old mid (fault.Memory address) w x = tt
lost_then n old mid (fault.Register number) w x = tt
lost_then n old mid fault.StillBusy w x = paced_then ⊥ n old mid w x
lost_then n old mid (fault.Run why) w x = vain_then n old mid why w x
lost_then n old mid (fault.Odd shown) w x = tt

-- a fault of run control, as one of an access
pub run_lost : (old : DmiSeen) (why : RunFault) → NeverInVain old why → NeverLost old (of_run why)
run_lost old (run.Dmi why) x = x
run_lost old (run.NoHalt looks) x = x
run_lost old (run.NoAck looks) x = x
