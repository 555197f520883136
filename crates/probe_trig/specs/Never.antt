-- Which faults of a call on slots do not come where the chip's schedule is fair.
-- It is this project's own.
use Rattle.debug_model.specs.Kept.{DmiSeen}
use Rattle.probe_access.specs.Never.{NeverLost}
use Rattle.probe_trig.specs.Faults.{IfAccess}
use Rattle.probe_trig.specs.declared.fault.TrigFault.{TrigFault}

abbrev pub SlotNeverLost : DmiSeen → TrigFault → Type 0
SlotNeverLost old e = IfAccess (NeverLost old) e
