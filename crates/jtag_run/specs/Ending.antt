-- The status of a run whose session has ended so, and its last line.
-- They are this project's own (docs/FORMATS.md, "Statuses").
use Rattle.std.specs.Prelude.{◌≡◌, Bool, true, false}
use Rattle.jtag_run.specs.LastLine.{Closed, event_limit, lost_line, target_refused, wire_failed}
use Rattle.jtag_run.specs.declared.status.Status.{Status}
use Rattle.jtag_run.specs.declared.status.Status.TheVariants as status_as
use Rattle.probe_session.specs.declared.ended.Ended.{Ended as End}
use Rattle.probe_session.specs.declared.ended.Ended.TheVariants as ends
use Rattle.wire_session.specs.Seen.{SinkSeen}

-- by the end of the session and of its stream, and whether the chip has met its limit of events, which is told before every other end but that of a sink
abbrev pub ClosedBy : End → (limit : Bool) → (old new : SinkSeen) → Status → Type 0
ClosedBy ends.Sink limit old new status = (status ≡ status_as.Sink) × (new ≡ old)
ClosedBy ends.Clean true old new status = Closed event_limit status_as.EventLimit old new status
ClosedBy ends.Clean false old new status = (status ≡ status_as.Clean) × (new ≡ old)
ClosedBy ends.WithErrors true old new status = Closed event_limit status_as.EventLimit old new status
ClosedBy ends.WithErrors false old new status = (status ≡ status_as.WithErrors) × (new ≡ old)
ClosedBy (ends.Target fault) true old new status = Closed event_limit status_as.EventLimit old new status
ClosedBy (ends.Target fault) false old new status = Closed (target_refused fault) status_as.Target old new status
ClosedBy (ends.Wire why) true old new status = Closed event_limit status_as.EventLimit old new status
ClosedBy (ends.Wire why) false old new status = Closed (wire_failed why) status_as.Wire old new status
ClosedBy (ends.Lost why) true old new status = Closed event_limit status_as.EventLimit old new status
ClosedBy (ends.Lost why) false old new status = Closed (lost_line why) status_as.Lost old new status
