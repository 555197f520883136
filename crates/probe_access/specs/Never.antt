-- Which faults of an access do not come where the chip's schedule is fair.
-- It is this project's own.
use Rattle.debug_model.specs.Kept.{DmiSeen}
use Rattle.debug_model.specs.Rises.{FailsByWire}
use Rattle.probe_run.specs.Soon.{NeverInVain, Unpaced}
use Rattle.probe_access.specs.declared.fault.AccessFault.{AccessFault}
use Rattle.probe_access.specs.declared.fault.AccessFault.TheVariants as fault

-- no poll and no Look is in vain, and where an operation failed it was by the wire
abbrev pub NeverLost : DmiSeen → AccessFault → Type 0
NeverLost old (fault.Dmi why) = FailsByWire old why
NeverLost old (fault.Memory address) = Unit {0}
NeverLost old (fault.Register number) = Unit {0}
NeverLost old fault.StillBusy = Unpaced old
NeverLost old (fault.Run why) = NeverInVain old why
NeverLost old (fault.Odd shown) = Unit {0}
