-- A session over a wire, and the end of its stream: by which answers it went, why it broke off, and what it left of a chip that is told.
-- It is this project's own.
use Rattle.std.specs.Prelude.{◌≡◌, ◌≤◌, List, Option, IfSome}
use Rattle.debug_model.specs.declared.command.Command.{Command}
use Rattle.debug_model.specs.Ties.{Ties, timing_told}
use Rattle.debug_model.specs.Told.{Far}
use Rattle.abstract_debugger.specs.Debugger.{commands, first_state}
use Rattle.abstract_debugger.specs.Plan.{Plan}
use Rattle.probe_session.specs.declared.ended.Ended.{Ended as End}
use Rattle.probe_session.specs.Causes.{EndCaused, SinkCaused}
use Rattle.probe_session.specs.Scripts.{EndedBy}
use Rattle.probe_session.specs.Transcribed.{Still}
use Rattle.probe_session.specs.UnderWay.{EndedUpTo}
use Rattle.wire_session.specs.Closing.{Closes}
use Rattle.wire_session.specs.Headline.{HeadlineBy}
use Rattle.wire_session.specs.Seen.{SinkSeen, WireSeen}
use Rattle.wire_session.specs.Session.{LeavesWire, told_by}

-- what the wire keeps of a told chip's schedule is what it tells of it
abbrev pub IsTimed : Ties → Option Far → Type 0
IsTimed ties far = ties.timing ≡ timing_told far

-- of a session with this plan behind its opening, by the wire before it and behind the end of its stream, and the sink before it and behind it
pub record WireSessionBy (p : Plan) (old new : WireSeen) (was is : SinkSeen) (closed : End) : Type 0 where
  pub end : End
  pub mid : WireSeen  -- the wire behind the session, before its stream is ended
  -- by which answers it went along the plan, and where it broke off
  pub ended : EndedBy p old.faults mid.faults (told_by old.far old.coming) (told_by mid.far mid.coming) was.faults is.faults was.printed is.printed end
  -- a wire fails by a cause that its own counts show
  pub cause : EndCaused old.faults mid.faults mid.far end
  pub later : old.faults ≤ mid.faults
  -- a line could not be written only where the sink's own count shows it
  pub sink_cause : SinkCaused was.faults is.faults closed
  -- where the wire tells its chip
  pub headline : IfSome old.far (λ first. Still (λ last. HeadlineBy p was.printed is.printed first last end) mid.far)
  pub leaves : LeavesWire mid.far end
  pub closes : Closes mid new end closed

-- of one that runs a script
abbrev pub WireSession : List Command → (old new : WireSeen) → (was is : SinkSeen) → (closed : End) → Type 0
WireSession script old new was is closed = WireSessionBy (commands script first_state) old new was is closed

-- where a session that runs a script broke off, by the command that was under way: those in front of it were done, and all their lines are printed
pub record WireUpTo (script : List Command) (old new : WireSeen) (was is : SinkSeen) (closed : End) : Type 0 where
  pub end : End
  pub mid : WireSeen
  pub up_to : EndedUpTo script old.faults mid.faults (told_by old.far old.coming) (told_by mid.far mid.coming) was.faults is.faults was.printed is.printed end
  pub closes : Closes mid new end closed
