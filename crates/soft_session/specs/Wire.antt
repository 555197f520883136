-- A session with software breakpoints over a wire, and the end of its stream: why it broke off, and what it left of a chip that is told.
-- It is this project's own.
use Rattle.std.specs.Prelude.{◌≤◌, List, IfSome}
use Rattle.debug_model.specs.declared.soft_command.SoftCommand.{SoftCommand}
use Rattle.debug_model.specs.Offered.{TurnsOffered}
use Rattle.debug_model.specs.Told.{chip_of}
use Rattle.probe_session.specs.declared.ended.Ended.{Ended as End}
use Rattle.probe_session.specs.Causes.{EndCaused, SinkCaused}
use Rattle.probe_session.specs.Transcribed.{Still}
use Rattle.soft_session.specs.Transcribed.{SoftTranscribedAs}
use Rattle.wire_session.specs.Closing.{Closes}
use Rattle.wire_session.specs.Seen.{SinkSeen, WireSeen}
use Rattle.wire_session.specs.Session.{LeavesWire}

-- by the wire before it and behind the end of its stream, and the sink before it and behind it
pub record SoftWireSession (script : List SoftCommand) (old new : WireSeen) (was is : SinkSeen) (closed : End) : Type 0 where
  pub end : End
  pub mid : WireSeen  -- the wire behind the session, before its stream is ended
  -- a wire fails, and a session is lost, by a cause that the wire's own counts or the chip show
  pub cause : EndCaused old.faults mid.faults mid.far end
  pub later : old.faults ≤ mid.faults
  -- a line could not be written only where the sink's own count shows it
  pub sink_cause : SinkCaused was.faults is.faults closed
  -- where the wire tells its chip: what was printed, what is left of memory and harts, and first match
  pub transcribed : SoftTranscribedAs script was.printed is.printed old.far mid.far end
  -- and that the executed turns are exactly those that the schedule offered
  pub turns : IfSome old.far (λ first. Still (λ last. TurnsOffered first.live.chip.inside.plan (chip_of last)) mid.far)
  pub leaves : LeavesWire mid.far end
  pub closes : Closes mid new end closed
