-- Why a session ended before its plan did: the wire's fault by the scan that failed, a lost end by what the chip did or 64 polls showed, and the sink's by its
-- count of faults.
-- It is this project's own; op 2 and op 3 of a scan of `dmi` are those of RISC-V Debug Specification 1.0, "Debug Module Interface Access".
use Rattle.std.specs.Prelude.{◌≡◌, ◌≤◌, ◌<◌, ℕ, List, Option, IfSome}
use Rattle.jt_base.specs.Faults.{Rises}
use Rattle.debug_model.specs.declared.wire.WireFault.{WireFault}
use Rattle.debug_model.specs.Dmi.{busy_most, counts_of}
use Rattle.debug_model.specs.Scan.{Coming, ScanCause}
use Rattle.debug_model.specs.Told.{Far}
use Rattle.abstract_debugger.specs.Debugger.{most_looks}
use Rattle.probe_access.specs.BusRuns.{BusAlwaysBusy}
use Rattle.probe_access.specs.CommandRuns.{AlwaysBusy}
use Rattle.probe_run.specs.Acts.{Act, Tells}
use Rattle.probe_session.specs.declared.ended.Ended.{Ended}
use Rattle.probe_session.specs.declared.ended.Ended.TheVariants as ended
use Rattle.probe_session.specs.declared.fault.LostCause.{LostCause}
use Rattle.probe_session.specs.declared.fault.LostCause.TheVariants as lost

-- by the counts of faults before and behind, the far end behind, and what was still to be heard when the scan was made, where that is told
pub record WireCause (old_count new_count : ℕ) (told : Option Far) (why : WireFault) : Type 0 where
  pub coming : Option Coming
  pub cause : ScanCause old_count new_count told coming why

-- a told chip has dropped an operation since it was loaded, when its counts were 0
abbrev pub DroppedOne : Option Far → Type 0
DroppedOne told = IfSome told (λ far. 0 < (counts_of far).dmi_failed)

-- a told chip's transport was found busy 64 times since then; or the last that was done were 64 polls in a row that showed a command, or an access by the bus,
-- under way
pub data LastedBusy (told : Option Far) : Type 0 where
  transport : IfSome told (λ far. busy_most ≤ (counts_of far).dmi_busy) → LastedBusy told
  command : (first : List Act) (old new : Tells) → new.far ≡ told → AlwaysBusy first old new → LastedBusy told
  access : (old new : Tells) → new.far ≡ told → BusAlwaysBusy old new → LastedBusy told

-- an odd answer comes of no told chip: the transcript says so
abbrev pub LostCaused : Option Far → LostCause → Type 0
LostCaused told lost.DmiFailed = DroppedOne told
LostCaused told lost.StillBusy = LastedBusy told
LostCaused told (lost.NoHalt looks) = looks ≡ most_looks
LostCaused told (lost.NoAck looks) = looks ≡ most_looks
LostCaused told (lost.Odd odd) = Unit {0}

-- every end by the wire and every lost one has its cause, and no other end needs one
abbrev pub EndCaused : (old_count new_count : ℕ) → (told : Option Far) → Ended → Type 0
EndCaused old_count new_count told ended.Clean = Unit {0}
EndCaused old_count new_count told ended.WithErrors = Unit {0}
EndCaused old_count new_count told (ended.Target fault) = Unit {0}
EndCaused old_count new_count told (ended.Wire why) = WireCause old_count new_count told why
EndCaused old_count new_count told (ended.Lost why) = LostCaused told why
EndCaused old_count new_count told ended.Sink = Unit {0}

-- an end by the sink is one behind a rise of the sink's count of faults, and no other end needs one
abbrev pub SinkCaused : (old_count new_count : ℕ) → Ended → Type 0
SinkCaused old_count new_count ended.Clean = Unit {0}
SinkCaused old_count new_count ended.WithErrors = Unit {0}
SinkCaused old_count new_count (ended.Target fault) = Unit {0}
SinkCaused old_count new_count (ended.Wire why) = Unit {0}
SinkCaused old_count new_count (ended.Lost why) = Unit {0}
SinkCaused old_count new_count ended.Sink = Rises old_count new_count
