-- What holds behind a fault of memory.
use Rattle.probe_access.specs.declared.fault.AccessFault.{AccessFault}
use Rattle.probe_access.specs.declared.fault.AccessFault.TheVariants as access_fault
use Rattle.probe_access.specs.Accesses.{IfMemory}

pub if_memory : (P Q : Type 0) (e : AccessFault) → (P → Q) → IfMemory P e → IfMemory Q e
if_memory P Q (access_fault.Dmi why) f p = tt
if_memory P Q (access_fault.Memory at) f p = f p
if_memory P Q (access_fault.Register asked) f p = tt
if_memory P Q access_fault.StillBusy f p = tt
if_memory P Q (access_fault.Run why) f p = tt
if_memory P Q (access_fault.Odd shown) f p = tt
