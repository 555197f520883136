-- What caused a fault of the link in an access, and in a call on a hart's slots, and that 64 polls showed a command or an access under way.
use Rattle.std.proofs.Common.{ℕ, true, false, List, [], Option, refl, sym, subst}
use Rattle.debug_model.specs.declared.dmi.DmiFault.{DmiFault}
use Rattle.debug_model.specs.declared.dmi_op.DmiOp.{DmiOp}
use Rattle.debug_model.specs.Told.{Far}
use Rattle.probe_access.specs.declared.fault.AccessFault.{AccessFault}
use Rattle.probe_access.specs.declared.fault.AccessFault.TheVariants as fault
use Rattle.probe_access.specs.BlockRuns.{Causes}
use Rattle.probe_access.specs.BusBlockRuns.{BusCauses}
use Rattle.probe_access.specs.CommandRuns.{CommandFailed, EndBehindFailed}
use Rattle.probe_access.specs.Faults.{BrokeIn}
use Rattle.probe_access.specs.DcsrRuns.{DcsrReadFailed}
use Rattle.probe_access.specs.RegisterRuns.{ReadFailed, WriteFailed, ReadApartFailed, ReadApartFailedAt}
use Rattle.probe_access.specs.StepRuns.{ClearFailed, StepFailed, StepFromFailed, of_run, with_flag}
use Rattle.probe_access.specs.Stops.{StopApartFailed, StopFailed, dpc_number}
use Rattle.probe_access.specs.RegisterAccess.{transfer_word}
use Rattle.probe_run.specs.declared.fault.RunFault.{RunFault}
use Rattle.probe_run.specs.declared.fault.RunFault.TheVariants as run_fault
use Rattle.probe_run.specs.Acts.{Act, Attempt, Tells}
use Rattle.probe_trig.specs.Stepping.{BackFailed, OverFailed}
use Rattle.probe_trig.specs.Transfers.{Attempt as TransferAttempt, AttemptFailed, FailedIn, Transfer, number_of}
use Rattle.probe_session.specs.Causes.{LastedBusy}
use Rattle.probe_session.proofs.RunCauses.{DmiCaused, RunCaused, broke_caused, step_caused}
use Rattle.rv_model.specs.DebugRegisters.{dcsr_number}

abbrev pub AccessCaused : (old_count new_count : ℕ) → Option Far → AccessFault → Type 0
AccessCaused old_count new_count told (fault.Dmi why) = DmiCaused old_count new_count told why
AccessCaused old_count new_count told (fault.Memory address) = Unit {0}
AccessCaused old_count new_count told (fault.Register number) = Unit {0}
AccessCaused old_count new_count told fault.StillBusy = LastedBusy told
AccessCaused old_count new_count told (fault.Run why) = RunCaused old_count new_count told why
AccessCaused old_count new_count told (fault.Odd shown) = Unit {0}

pub broke_in : (why : DmiFault) {Begun : List Act → Attempt → Type 0} {old_count new_count : ℕ} {old : Tells} {told : Option Far}
    → BrokeIn Begun old_count new_count old told why → DmiCaused old_count new_count told why
broke_in why b = broke_caused why b.broke

-- ---- registers

pub command_caused : (e : AccessFault) (front : List Act) (word old_count new_count : ℕ) (old new : Tells) → CommandFailed front word old_count new_count old new e
    → AccessCaused old_count new_count new.far e
command_caused (fault.Dmi why) front word old_count new_count old new f = broke_in why f
command_caused (fault.Memory address) front word old_count new_count old new f = tt
command_caused (fault.Register number) front word old_count new_count old new f = tt
command_caused fault.StillBusy front word old_count new_count old new f = LastedBusy.command _ old new refl f
command_caused (fault.Run why) front word old_count new_count old new f = absurd f
command_caused (fault.Odd shown) front word old_count new_count old new f = tt

read_at : (e : AccessFault) (number old_count new_count : ℕ) (old new : Tells) → ReadApartFailedAt number old_count new_count old new e
    → AccessCaused old_count new_count new.far e
read_at _ number old_count new_count old new (ReadApartFailedAt.in_command e f) = command_caused e [] (transfer_word false number) old_count new_count old new f
read_at _ number old_count new_count old new (ReadApartFailedAt.in_words mid ran why b) = broke_in why b

pub apart_caused : (e : AccessFault) (number old_count new_count : ℕ) (old new : Tells) → ReadApartFailed number old_count new_count old new e
    → AccessCaused old_count new_count new.far e
apart_caused (fault.Dmi why) number old_count new_count old new f = read_at (fault.Dmi why) number old_count new_count old new f
apart_caused (fault.Memory address) number old_count new_count old new f = tt
apart_caused (fault.Register asked) number old_count new_count old new f = tt
apart_caused fault.StillBusy number old_count new_count old new f = LastedBusy.command _ old new refl f
apart_caused (fault.Run why) number old_count new_count old new f = absurd f
apart_caused (fault.Odd shown) number old_count new_count old new f = tt

behind_caused : (e : AccessFault) (Front : List Act → Type 0) (op : DmiOp) (ops : List DmiOp) (old_count new_count : ℕ) (old new : Tells)
    → EndBehindFailed Front op ops old_count new_count old new e → AccessCaused old_count new_count new.far e
behind_caused (fault.Dmi why) Front op ops old_count new_count old new f = broke_in why f
behind_caused (fault.Memory address) Front op ops old_count new_count old new f = tt
behind_caused (fault.Register asked) Front op ops old_count new_count old new f = tt
behind_caused fault.StillBusy Front op ops old_count new_count old new f = LastedBusy.command f.front old new refl f.busy
behind_caused (fault.Run why) Front op ops old_count new_count old new f = absurd f
behind_caused (fault.Odd shown) Front op ops old_count new_count old new f = tt

pub read_caused : (e : AccessFault) (number old_count new_count : ℕ) (old new : Tells) → ReadFailed number old_count new_count old new e
    → AccessCaused old_count new_count new.far e
read_caused e number old_count new_count old new (ReadFailed.asking f) = behind_caused e _ _ _ old_count new_count old new f
read_caused e number old_count new_count old new (ReadFailed.late mid early f) = apart_caused e number old_count new_count mid new f

pub write_caused : (e : AccessFault) (number value old_count new_count : ℕ) (old new : Tells) → WriteFailed number value old_count new_count old new e
    → AccessCaused old_count new_count new.far e
write_caused (fault.Dmi why) number value old_count new_count old new f = broke_in why f
write_caused (fault.Memory address) number value old_count new_count old new f = tt
write_caused (fault.Register asked) number value old_count new_count old new f = tt
write_caused fault.StillBusy number value old_count new_count old new f = LastedBusy.command _ old new refl f
write_caused (fault.Run why) number value old_count new_count old new f = absurd f
write_caused (fault.Odd shown) number value old_count new_count old new f = tt

pub stop_caused : (e : AccessFault) (old_count new_count : ℕ) (old new : Tells) → StopFailed old_count new_count old new e
    → AccessCaused old_count new_count new.far e
stop_caused e old_count new_count old new (StopFailed.asking f) = behind_caused e _ _ _ old_count new_count old new f
stop_caused e old_count new_count old new (StopFailed.late mid early (StopApartFailed.at_dpc f)) = apart_caused e dpc_number old_count new_count mid new f
stop_caused e old_count new_count old new (StopFailed.late mid early (StopApartFailed.at_dcsr pc then read f)) =
    apart_caused e dcsr_number old_count new_count then new f

-- ---- memory

pub block_caused : (e : AccessFault) (old_count new_count : ℕ) (old new : Tells) → Causes old_count new_count old new e
    → AccessCaused old_count new_count new.far e
block_caused (fault.Dmi why) old_count new_count old new c = broke_caused why c.2
block_caused (fault.Memory address) old_count new_count old new c = tt
block_caused (fault.Register number) old_count new_count old new c = tt
block_caused fault.StillBusy old_count new_count old new c = LastedBusy.command c.front old new refl c.busy
block_caused (fault.Run why) old_count new_count old new c = absurd c
block_caused (fault.Odd shown) old_count new_count old new c = tt

pub bus_block_caused : (e : AccessFault) (old_count new_count : ℕ) (old new : Tells) → BusCauses old_count new_count old new e
    → AccessCaused old_count new_count new.far e
bus_block_caused (fault.Dmi why) old_count new_count old new c = broke_caused why c.2
bus_block_caused (fault.Memory address) old_count new_count old new c = tt
bus_block_caused (fault.Register number) old_count new_count old new c = absurd c
bus_block_caused fault.StillBusy old_count new_count old new c = LastedBusy.access c.mid new refl c.busy
bus_block_caused (fault.Run why) old_count new_count old new c = absurd c
bus_block_caused (fault.Odd shown) old_count new_count old new c = tt

-- ---- slots, and the step over them

attempt_caused : (a : TransferAttempt) (e : AccessFault) (h old_count new_count : ℕ) (old new : Tells) → AttemptFailed h a old_count new_count old new e
    → AccessCaused old_count new_count new.far e
attempt_caused (TransferAttempt.Getting r) e h old_count new_count old new f = read_caused e (number_of r) old_count new_count old new f.read
attempt_caused (TransferAttempt.Setting r value) e h old_count new_count old new f = write_caused e (number_of r) value old_count new_count old new f.written

pub slots_caused : (e : AccessFault) (Whole : List Transfer → Type 0) (h old_count new_count : ℕ) (old new : Tells)
    → FailedIn Whole h old_count new_count old new e → AccessCaused old_count new_count new.far e
slots_caused e Whole h old_count new_count old new f = attempt_caused f.attempt e h old_count new_count f.mid new f.failed

pub by_run : (why : RunFault) (old_count new_count : ℕ) (told : Option Far) → RunCaused old_count new_count told why
    → AccessCaused old_count new_count told (of_run why)
by_run (run_fault.Dmi why) old_count new_count told w = w
by_run (run_fault.NoHalt looks) old_count new_count told w = w
by_run (run_fault.NoAck looks) old_count new_count told w = w

dcsr_caused : (e : AccessFault) (old_count new_count : ℕ) (old new : Tells) → DcsrReadFailed old_count new_count old new e
    → AccessCaused old_count new_count new.far e
dcsr_caused e old_count new_count old new (DcsrReadFailed.asking f) = behind_caused e _ _ _ old_count new_count old new f
dcsr_caused e old_count new_count old new (DcsrReadFailed.late mid early f) = apart_caused e dcsr_number old_count new_count mid new f

clear_caused : (e : AccessFault) (old_count new_count : ℕ) (old new : Tells) → ClearFailed old_count new_count old new e
    → AccessCaused old_count new_count new.far e
clear_caused e old_count new_count old new (ClearFailed.at_read f) = dcsr_caused e old_count new_count old new f
clear_caused e old_count new_count old new (ClearFailed.at_write word mid r f) = write_caused e dcsr_number (with_flag false word) old_count new_count mid new f

pub step_from_caused : (e : AccessFault) (h word old_count new_count : ℕ) (old new : Tells) → StepFromFailed h word old_count new_count old new e
    → AccessCaused old_count new_count new.far e
step_from_caused e h word old_count new_count old new (StepFromFailed.in_set f) = write_caused e dcsr_number (with_flag true word) old_count new_count old new f
step_from_caused e h word old_count new_count old new (StepFromFailed.in_run begun sets why f is) =
    subst (AccessCaused old_count new_count new.far) (sym is) (by_run why old_count new_count new.far (step_caused why h old_count new_count begun new f))
step_from_caused e h word old_count new_count old new (StepFromFailed.in_clear begun ran sets runs f) = clear_caused e old_count new_count ran new f

pub single_step_caused : (e : AccessFault) (h old_count new_count : ℕ) (old new : Tells) → StepFailed h old_count new_count old new e
    → AccessCaused old_count new_count new.far e
single_step_caused e h old_count new_count old new (StepFailed.at_read f) = dcsr_caused e old_count new_count old new f
single_step_caused e h old_count new_count old new (StepFailed.behind word mid read f) = step_from_caused e h word old_count new_count mid new f

back_caused : (e : AccessFault) (h old_count new_count : ℕ) (old new : Tells) → BackFailed h old_count new_count old new e
    → AccessCaused old_count new_count new.far e
back_caused e h old_count new_count old new (BackFailed.in_step f cut) = single_step_caused e h old_count new_count old new f
back_caused e h old_count new_count old new (BackFailed.in_end ran steps f) = slots_caused e _ h old_count new_count ran new f

pub over_caused : (e : AccessFault) (h old_count new_count : ℕ) (old new : Tells) → OverFailed h old_count new_count old new e
    → AccessCaused old_count new_count new.far e
over_caused e h old_count new_count old new (OverFailed.in_hold f) = slots_caused e _ h old_count new_count old new f
over_caused e h old_count new_count old new (OverFailed.in_back some held holds f) = back_caused e h old_count new_count held new f
