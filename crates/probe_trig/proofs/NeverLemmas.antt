-- A fault of a call on slots that does not come behind a call, where its chip's schedule is fair, does not come where the schedule was fair before the call.
use Rattle.std.proofs.Common.{ℕ}
use Rattle.debug_model.specs.Kept.{DmiSeen}
use Rattle.debug_model.specs.Rises.{Within}
use Rattle.probe_access.proofs.NeverLemmas.{lost_then}
use Rattle.probe_trig.specs.declared.fault.TrigFault.{TrigFault}
use Rattle.probe_trig.specs.declared.fault.TrigFault.TheVariants as fault
use Rattle.probe_trig.specs.Never.{SlotNeverLost}

pub slot_lost_then : (n : ℕ) (old mid : DmiSeen) (why : TrigFault) → Within n old mid → SlotNeverLost mid why → SlotNeverLost old why
slot_lost_then n old mid (fault.Access e) w x = lost_then n old mid e w x
slot_lost_then n old mid fault.NoFreeSlot w x = tt
slot_lost_then n old mid fault.NotInUse w x = tt
