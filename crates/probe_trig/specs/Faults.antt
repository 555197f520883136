-- Facts behind a call on slots that has no result, by its fault.
-- It is this project's own.
use Rattle.std.specs.Prelude.{◌≢◌, ℕ, Option, None}
use Rattle.rv_model.specs.TriggerWords.{tinfo_number}
use Rattle.debug_model.specs.declared.dmi.DmiFault.{DmiFault}
use Rattle.probe_access.specs.declared.fault.AccessFault.{AccessFault}
use Rattle.probe_access.specs.declared.fault.AccessFault.TheVariants as access_fault
use Rattle.probe_access.specs.Faults.{access_why}
use Rattle.probe_trig.specs.declared.fault.TrigFault.{TrigFault}
use Rattle.probe_trig.specs.declared.fault.TrigFault.TheVariants as fault

abbrev pub ByFault : (access : AccessFault → Type 0) → (none_free unused : Type 0) → TrigFault → Type 0
ByFault access none_free unused (fault.Access e) = access e
ByFault access none_free unused fault.NoFreeSlot = none_free
ByFault access none_free unused fault.NotInUse = unused

-- a fact that holds where nothing failed, and the slots were not as they must be
abbrev pub UnlessAccess : Type 0 → TrigFault → Type 0
UnlessAccess P e = ByFault (λ _. Unit {0}) P P e

-- a fact behind an access that failed
abbrev pub IfAccess : (AccessFault → Type 0) → TrigFault → Type 0
IfAccess P e = ByFault P (Unit {0}) (Unit {0}) e

-- the fault of the link that it is, if it is one
abbrev pub trig_why : TrigFault → Option DmiFault
trig_why (fault.Access e) = access_why e
trig_why fault.NoFreeSlot = None
trig_why fault.NotInUse = None

-- a register that was refused is such a one
abbrev pub Refuses : (ℕ → Type 0) → AccessFault → Type 0
Refuses P (access_fault.Dmi why) = Unit {0}
Refuses P (access_fault.Memory at) = Unit {0}
Refuses P (access_fault.Register number) = P number
Refuses P access_fault.StillBusy = Unit {0}
Refuses P (access_fault.Run why) = Unit {0}
Refuses P (access_fault.Odd word) = Unit {0}

-- none is refused, or one that each hart with slots has: tinfo may be missing
abbrev pub RefusesNoTinfo : AccessFault → Type 0
RefusesNoTinfo = Refuses (λ number. number ≢ tinfo_number)
