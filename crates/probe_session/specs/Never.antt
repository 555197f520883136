-- How no session ends where the chip's schedule is fair: lost for what did not come in time, or for an operation that did not fail by the wire.
-- It is this project's own.
use Rattle.std.specs.Prelude.{Option, IfSome}
use Rattle.debug_model.specs.Kept.{DmiSeen}
use Rattle.debug_model.specs.Pacing.{Paced}
use Rattle.debug_model.specs.Told.{Far, chip_of}
use Rattle.probe_session.specs.declared.acted.Acted.{Acted as Became}
use Rattle.probe_session.specs.declared.acted.Acted.TheVariants as acted
use Rattle.probe_session.specs.declared.ended.Ended.{Ended as End}
use Rattle.probe_session.specs.declared.ended.Ended.TheVariants as ends
use Rattle.probe_session.specs.declared.fault.Failure.{Failure}
use Rattle.probe_session.specs.declared.fault.Failure.TheVariants as failure
use Rattle.probe_session.specs.declared.fault.LostCause.{LostCause}
use Rattle.probe_session.specs.declared.fault.LostCause.TheVariants as lost

-- no chip is told whose schedule is fair
abbrev pub IsUnpaced : Option Far → Type 0
IsUnpaced told = IfSome told (λ f. Paced (chip_of f).inside → ⊥)

-- a session that began here may be lost so
abbrev pub LostInTime : Option Far → LostCause → Type 0
LostInTime told lost.DmiFailed = IsUnpaced told
LostInTime told lost.StillBusy = IsUnpaced told
LostInTime told (lost.NoHalt looks) = IsUnpaced told
LostInTime told (lost.NoAck looks) = IsUnpaced told
LostInTime told (lost.Odd odd) = Unit {0}

-- a command
abbrev pub NeverGivesUp : DmiSeen → Failure → Type 0
NeverGivesUp old (failure.Wire why) = Unit {0}
NeverGivesUp old (failure.Lost cause) = LostInTime old.far cause
NeverGivesUp old failure.Sink = Unit {0}

abbrev pub ActsInTime : DmiSeen → Became → Type 0
ActsInTime old acted.Done = Unit {0}
ActsInTime old acted.Error = Unit {0}
ActsInTime old acted.End = Unit {0}
ActsInTime old (acted.Wire why) = Unit {0}
ActsInTime old (acted.Lost cause) = LostInTime old.far cause
ActsInTime old acted.Sink = Unit {0}

-- and a whole session
abbrev pub EndsInTime : Option Far → End → Type 0
EndsInTime told ends.Clean = Unit {0}
EndsInTime told ends.WithErrors = Unit {0}
EndsInTime told (ends.Target why) = Unit {0}
EndsInTime told (ends.Wire why) = Unit {0}
EndsInTime told (ends.Lost cause) = LostInTime told cause
EndsInTime told ends.Sink = Unit {0}
