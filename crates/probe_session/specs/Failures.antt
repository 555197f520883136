-- What a fault of a layer below makes of a session.
-- It is this project's own.
use Rattle.std.specs.Prelude.{◌≡◌, ℕ}
use Rattle.debug_model.specs.declared.dmi.DmiFault.{DmiFault}
use Rattle.debug_model.specs.declared.dmi.DmiFault.TheVariants as dmi_fault
use Rattle.probe_access.specs.declared.fault.AccessFault.{AccessFault}
use Rattle.probe_access.specs.declared.fault.AccessFault.TheVariants as access_fault
use Rattle.probe_access.specs.declared.odd.OddStatus.TheVariants.{Abstractcs, Sbcs}
use Rattle.probe_run.specs.declared.fault.RunFault.{RunFault}
use Rattle.probe_run.specs.declared.fault.RunFault.TheVariants as run_fault
use Rattle.probe_trig.specs.declared.fault.TrigFault.{TrigFault}
use Rattle.probe_trig.specs.declared.fault.TrigFault.TheVariants as trig_fault
use Rattle.probe_session.specs.declared.fault.Failure.{Failure}
use Rattle.probe_session.specs.declared.fault.Failure.TheVariants as failure
use Rattle.probe_session.specs.declared.fault.LostCause.TheVariants as lost
use Rattle.probe_session.specs.declared.odd.Odd.{Odd}
use Rattle.probe_session.specs.declared.odd.Odd.TheVariants as odd

abbrev pub failure_of_dmi : DmiFault → Failure
failure_of_dmi (dmi_fault.Wire why) = failure.Wire why
failure_of_dmi dmi_fault.Failed = failure.Lost lost.DmiFailed
failure_of_dmi dmi_fault.StillBusy = failure.Lost lost.StillBusy

abbrev pub failure_of_run : RunFault → Failure
failure_of_run (run_fault.Dmi why) = failure_of_dmi why
failure_of_run (run_fault.NoHalt looks) = failure.Lost (lost.NoHalt looks)
failure_of_run (run_fault.NoAck looks) = failure.Lost (lost.NoAck looks)

-- a refusal of memory is odd where no command asks for memory
abbrev pub failure_of_access : AccessFault → Failure
failure_of_access (access_fault.Dmi why) = failure_of_dmi why
failure_of_access (access_fault.Memory address) = failure.Lost (lost.Odd odd.Refusal)
failure_of_access (access_fault.Register number) = failure.Lost (lost.Odd (odd.Register number))
failure_of_access access_fault.StillBusy = failure.Lost lost.StillBusy
failure_of_access (access_fault.Run why) = failure_of_run why
failure_of_access (access_fault.Odd shown) = failure.Lost (lost.Odd (odd.Status shown))

-- and so is one of a slot where no command asks for a slot
abbrev pub failure_of_trig : TrigFault → Failure
failure_of_trig (trig_fault.Access why) = failure_of_access why
failure_of_trig trig_fault.NoFreeSlot = failure.Lost (lost.Odd odd.Refusal)
failure_of_trig trig_fault.NotInUse = failure.Lost (lost.Odd odd.Refusal)

-- memory is what a command asks about: its fault ends no session
abbrev pub IsNotMemory : AccessFault → Type 0
IsNotMemory (access_fault.Dmi why) = Unit {0}
IsNotMemory (access_fault.Memory address) = ⊥
IsNotMemory (access_fault.Register number) = Unit {0}
IsNotMemory access_fault.StillBusy = Unit {0}
IsNotMemory (access_fault.Run why) = Unit {0}
IsNotMemory (access_fault.Odd shown) = Unit {0}

abbrev pub Became : AccessFault → Failure → Type 0
Became (access_fault.Dmi why) f = f ≡ failure_of_dmi why
Became (access_fault.Memory address) f = ⊥
Became (access_fault.Register number) f = f ≡ failure.Lost (lost.Odd (odd.Register number))
Became access_fault.StillBusy f = f ≡ failure.Lost lost.StillBusy
Became (access_fault.Run why) f = f ≡ failure_of_run why
Became (access_fault.Odd shown) f = f ≡ failure.Lost (lost.Odd (odd.Status shown))

-- what is printed of an answer that no case names: the register as it was read, or the number of the one that was refused; 0 for a refusal of memory or
-- of a slot that no command asks for
abbrev pub odd_word : Odd → ℕ
odd_word (odd.Status (Abstractcs word)) = word
odd_word (odd.Status (Sbcs word)) = word
odd_word (odd.Register number) = number
odd_word odd.Refusal = 0
