-- The faults of an opening from those of its steps.
use Rattle.std.proofs.Common.{◌≤◌, ℕ, List, [], true, false, Option}
use Rattle.debug_model.specs.declared.dmi.DmiFault.{DmiFault}
use Rattle.debug_model.specs.Told.{Far}
use Rattle.probe_run.specs.declared.fault.ConnectFault.{ConnectFault}
use Rattle.probe_run.specs.declared.fault.ConnectFault.TheVariants.{Dtm, Module, Abstract, Bus, Dmi}
use Rattle.probe_run.specs.Acts.{Act, Attempt, Broke, Tells}
use Rattle.probe_run.specs.Opening.{ActivateBroke, ActivationFails, BusBroke, BusFails, CommandsFail, ConnectFails, ModuleFails, ThenBroke, TransportFails}
use Rattle.probe_run.specs.Opening.{TransportFits, UpToBus, UpToCommands, UpToModule}
use Rattle.probe_run.specs.Opening.ActivateBroke.{at_first, at_read}
use Rattle.probe_run.specs.Opening.BusBroke.{at_sbcs, at_sberror}
use Rattle.probe_run.specs.Opening.OpeningBroke.{in_activation, in_bus, in_commands, in_module, in_transport}
use Rattle.probe_run.proofs.ActLemmas.{attempt_cause_from}

-- counted from an earlier count of faults
broke_from : (acts : List Act) (failed : Attempt) (count mid_count new_count : ℕ) (old : Tells) (told : Option Far) (fault : DmiFault) → count ≤ mid_count
    → mid_count ≤ new_count → Broke acts failed mid_count new_count old told fault
    → Broke acts failed count new_count old told fault
broke_from acts failed count mid_count new_count old told fault le later b =
    record {
      mid = b.mid;
      did = b.did;
      cut = b.cut;
      cause =
          attempt_cause_from failed count mid_count new_count b.mid.far told b.mid.coming fault le later b.cause;
    }

then_from : (R : Tells → Tells → Type 0) (acts : List Act) (failed : Attempt) (count mid_count new_count : ℕ) (old : Tells) (told : Option Far)
    (fault : DmiFault) → count ≤ mid_count → mid_count ≤ new_count
    → ThenBroke R acts failed mid_count new_count old told fault → ThenBroke R acts failed count new_count old told fault
then_from R acts failed count mid_count new_count old told fault le later b =
    record { mid = b.mid; first = b.first; broke = broke_from acts failed count mid_count new_count b.mid told fault le later b.broke }

activation_from : (count mid_count new_count : ℕ) (old : Tells) (told : Option Far) (fault : DmiFault) → count ≤ mid_count → mid_count ≤ new_count
    → ActivateBroke mid_count new_count old told fault → ActivateBroke count new_count old told fault
activation_from count mid_count new_count old told fault le later (at_first b) = at_first (broke_from [] _ count mid_count new_count old told fault le later b)
activation_from count mid_count new_count old told fault le later (at_read b) =
    at_read (record { vain = b.vain; none = b.none; few = b.few; broke = broke_from _ _ count mid_count new_count old told fault le later b.broke })

bus_from : (count mid_count new_count : ℕ) (old : Tells) (told : Option Far) (fault : DmiFault) → count ≤ mid_count → mid_count ≤ new_count
    → BusBroke mid_count new_count old told fault → BusBroke count new_count old told fault
bus_from count mid_count new_count old told fault le later (at_sbcs b) = at_sbcs (broke_from [] _ count mid_count new_count old told fault le later b)
bus_from count mid_count new_count old told fault le later (at_sberror b) = at_sberror (then_from _ _ _ count mid_count new_count old told fault le later b)

-- ---- each step

pub transport_fails : (count new_count : ℕ) (old new : Tells) (fault : ConnectFault) → TransportFails count new_count old new fault
    → ConnectFails count new_count old new fault
transport_fails count new_count old new (Dtm word) f = f
transport_fails count new_count old new (Module word c) f = absurd f
transport_fails count new_count old new (Abstract word) f = absurd f
transport_fails count new_count old new (Bus word) f = absurd f
transport_fails count new_count old new (Dmi fault) f = in_transport f

pub activation_fails : (count mid_count new_count : ℕ) (old mid new : Tells) (fault : ConnectFault) → count ≤ mid_count → mid_count ≤ new_count
    → TransportFits old mid → ActivationFails mid_count new_count mid new fault → ConnectFails count new_count old new fault
activation_fails count mid_count new_count old mid new (Dtm word) le later r f = absurd f
activation_fails count mid_count new_count old mid new (Module word true) le later r f = record { mid = mid; first = r; second = f }
activation_fails count mid_count new_count old mid new (Module word false) le later r f = absurd f
activation_fails count mid_count new_count old mid new (Abstract word) le later r f = absurd f
activation_fails count mid_count new_count old mid new (Bus word) le later r f = absurd f
activation_fails count mid_count new_count old mid new (Dmi fault) le later r f =
    in_activation (record { mid = mid; first = r; failed = activation_from count mid_count new_count mid new.far fault le later f })

pub module_fails : (count mid_count new_count : ℕ) (old mid new : Tells) (fault : ConnectFault) → count ≤ mid_count → mid_count ≤ new_count
    → UpToModule old mid → ModuleFails mid_count new_count mid new fault → ConnectFails count new_count old new fault
module_fails count mid_count new_count old mid new (Dtm word) le later r f = absurd f
module_fails count mid_count new_count old mid new (Module word true) le later r f = absurd f
module_fails count mid_count new_count old mid new (Module word false) le later r f = record { mid = mid; first = r; second = f }
module_fails count mid_count new_count old mid new (Abstract word) le later r f = absurd f
module_fails count mid_count new_count old mid new (Bus word) le later r f = absurd f
module_fails count mid_count new_count old mid new (Dmi fault) le later r f =
    in_module (record { mid = mid; first = r; failed = broke_from [] _ count mid_count new_count mid new.far fault le later f })

pub commands_fail : (count mid_count new_count : ℕ) (old mid new : Tells) (fault : ConnectFault) → count ≤ mid_count → mid_count ≤ new_count
    → UpToCommands old mid → CommandsFail mid_count new_count mid new fault → ConnectFails count new_count old new fault
commands_fail count mid_count new_count old mid new (Dtm word) le later r f = absurd f
commands_fail count mid_count new_count old mid new (Module word c) le later r f = absurd f
commands_fail count mid_count new_count old mid new (Abstract word) le later r f = record { mid = mid; first = r; second = f }
commands_fail count mid_count new_count old mid new (Bus word) le later r f = absurd f
commands_fail count mid_count new_count old mid new (Dmi fault) le later r f =
    in_commands (record { mid = mid; first = r; failed = broke_from [] _ count mid_count new_count mid new.far fault le later f })

pub bus_fails : (count mid_count new_count : ℕ) (old mid new : Tells) (fault : ConnectFault) → count ≤ mid_count → mid_count ≤ new_count → UpToBus old mid
    → BusFails mid_count new_count mid new fault → ConnectFails count new_count old new fault
bus_fails count mid_count new_count old mid new (Dtm word) le later r f = absurd f
bus_fails count mid_count new_count old mid new (Module word c) le later r f = absurd f
bus_fails count mid_count new_count old mid new (Abstract word) le later r f = absurd f
bus_fails count mid_count new_count old mid new (Bus word) le later r f = record { mid = mid; first = r; second = f }
bus_fails count mid_count new_count old mid new (Dmi fault) le later r f =
    in_bus (record { mid = mid; first = r; failed = bus_from count mid_count new_count mid new.far fault le later f })
