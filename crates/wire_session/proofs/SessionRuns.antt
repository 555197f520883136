-- A session over a wire and the end of its stream, by what is known of each.
use Rattle.std.proofs.Common.{◌≡◌, ◌≤◌, All, List}
use Rattle.debug_model.specs.declared.command.Command.{Command}
use Rattle.debug_model.specs.Command.{IsWithinRanges}
use Rattle.debug_model.specs.Ties.{Ties}
use Rattle.debug_model.specs.Told.{IsAsLoaded}
use Rattle.abstract_debugger.specs.Debugger.{commands, first_state}
use Rattle.abstract_debugger.specs.Plan.{Plan}
use Rattle.probe_session.specs.declared.ended.Ended.{Ended as End}
use Rattle.probe_session.specs.Causes.{EndCaused, SinkCaused}
use Rattle.probe_session.specs.Scripts.{EndedAs, EndedBy}
use Rattle.probe_session.specs.Transcribed.{TranscribedAs, TranscribedBy}
use Rattle.probe_session.specs.UnderWay.{EndedUpTo}
use Rattle.wire_session.specs.Closing.{Closes}
use Rattle.wire_session.specs.Seen.{SinkSeen, WireSeen}
use Rattle.wire_session.specs.Session.{LeavesWire, told_by}
use Rattle.wire_session.specs.WireSession.{IsTimed, WireSession, WireSessionBy, WireUpTo}
use Rattle.wire_session.proofs.Headlines.{KeepsFirstMatch, headline_told, scripts_keep}
use Rattle.wire_session.proofs.StreamEnds.{closes_sink, timing_kept}

pub session_ran_by : (p : Plan) (old : WireSeen) {mid new : WireSeen} {was is : SinkSeen} {end closed : End} {held left : Ties}
    → Closes mid new end closed
    → EndedBy p old.faults mid.faults (told_by old.far old.coming) (told_by mid.far mid.coming) was.faults is.faults was.printed is.printed end
    → EndCaused old.faults mid.faults mid.far end → old.faults ≤ mid.faults → SinkCaused was.faults is.faults end
    → TranscribedBy p was.printed is.printed old.far mid.far end → LeavesWire mid.far end → IsAsLoaded old.far → KeepsFirstMatch p
    → left ≡ held → IsTimed held old.far → IsTimed left new.far → WireSessionBy p old new was is closed
session_ran_by p old {mid} {new} {was} {is} {end} {closed} closes ended cause later sink_cause transcribed leaves loaded keeps same before behind = record {
  end = end;
  mid = mid;
  ended = ended;
  cause = cause;
  later = later;
  sink_cause = closes_sink was.faults is.faults mid new end closed sink_cause closes;
  headline = headline_told p was.printed is.printed old.far mid.far end loaded keeps transcribed
      (timing_kept _ _ old mid new end closed same before behind closes);
  leaves = leaves;
  closes = closes;
}

pub session_ran : (script : List Command) (old : WireSeen) {mid new : WireSeen} {was is : SinkSeen} {end closed : End} {held left : Ties}
    → Closes mid new end closed
    → EndedAs script old.faults mid.faults (told_by old.far old.coming) (told_by mid.far mid.coming) was.faults is.faults was.printed is.printed end
    → EndCaused old.faults mid.faults mid.far end → old.faults ≤ mid.faults → SinkCaused was.faults is.faults end
    → TranscribedAs script was.printed is.printed old.far mid.far end → LeavesWire mid.far end → IsAsLoaded old.far → All IsWithinRanges script
    → left ≡ held → IsTimed held old.far → IsTimed left new.far → WireSession script old new was is closed
session_ran script old closes ended cause later sink_cause transcribed leaves loaded within same before behind =
    session_ran_by (commands script first_state) old closes ended cause later sink_cause transcribed leaves loaded (scripts_keep script within) same before
    behind

pub session_up_to : (script : List Command) (old : WireSeen) {mid new : WireSeen} {was is : SinkSeen} {end closed : End} → Closes mid new end closed
    → EndedUpTo script old.faults mid.faults (told_by old.far old.coming) (told_by mid.far mid.coming) was.faults is.faults was.printed is.printed end
    → WireUpTo script old new was is closed
session_up_to script old {mid} {new} {was} {is} {end} {closed} closes up_to = record { end = end; mid = mid; up_to = up_to; closes = closes }
