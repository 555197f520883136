-- A session with software breakpoints over a wire and the end of its stream, by what is known of each.
use Rattle.std.proofs.Common.{◌≡◌, ◌≤◌, List, subst, sym}
use Rattle.debug_model.specs.declared.soft_command.SoftCommand.{SoftCommand}
use Rattle.debug_model.specs.Ties.{Ties}
use Rattle.debug_model.specs.Told.{IsAsLoaded}
use Rattle.debug_model.specs.declared.wire.WireFault.{WireFault}
use Rattle.probe_session.specs.declared.ended.Ended.{Ended as End}
use Rattle.probe_session.specs.declared.ended.Ended.TheVariants as ends
use Rattle.probe_session.specs.Causes.{EndCaused, SinkCaused}
use Rattle.soft_session.specs.Transcribed.{LeavesAlone, SoftTranscribedAs, WrittenAs}
use Rattle.soft_session.specs.Wire.{SoftWireSession}
use Rattle.wire_session.specs.Closing.{Closes, IsOfRegister, unclosed}
use Rattle.wire_session.specs.Closing.Closes.{behind_fault, quitted, unquitted}
use Rattle.wire_session.specs.Seen.{SinkSeen, WireSeen}
use Rattle.wire_session.specs.Session.{LeavesWire}
use Rattle.wire_session.specs.WireSession.{IsTimed}
use Rattle.wire_session.proofs.Headlines.{turns_told}
use Rattle.wire_session.proofs.StreamEnds.{closes_sink, timing_kept}

pub soft_session_ran : (script : List SoftCommand) (old : WireSeen) {mid new : WireSeen} {was is : SinkSeen} {end closed : End} {held left : Ties}
    → Closes mid new end closed → EndCaused old.faults mid.faults mid.far end → old.faults ≤ mid.faults → SinkCaused was.faults is.faults end
    → SoftTranscribedAs script was.printed is.printed old.far mid.far end → LeavesWire mid.far end → IsAsLoaded old.far
    → left ≡ held → IsTimed held old.far → IsTimed left new.far → SoftWireSession script old new was is closed
soft_session_ran script old {mid} {new} {was} {is} {end} {closed} closes cause later sink_cause transcribed leaves loaded same before behind = record {
  end = end;
  mid = mid;
  cause = cause;
  later = later;
  sink_cause = closes_sink was.faults is.faults mid new end closed sink_cause closes;
  transcribed = transcribed;
  turns = turns_told (λ first last. LeavesAlone script first last → WrittenAs script was.printed is.printed first last end) old.far mid.far loaded transcribed
      (timing_kept _ _ old mid new end closed same before behind closes);
  leaves = leaves;
  closes = closes;
}

-- ---- a chip that is refused

unclosed_register : (why : WireFault) (e : End) → IsOfRegister e → IsOfRegister (unclosed why e)
unclosed_register why ends.Clean of = tt
unclosed_register why ends.WithErrors of = tt
unclosed_register why (ends.Target fault) of = tt
unclosed_register why (ends.Wire first) of = tt
unclosed_register why (ends.Lost cause) of = tt
unclosed_register why ends.Sink of = tt

pub closes_register : (mid last : WireSeen) (e closed : End) → IsOfRegister e → Closes mid last e closed → IsOfRegister closed
closes_register mid last e closed of (behind_fault sends same kept) = subst IsOfRegister (sym same) of
closes_register mid last e closed of (quitted sends same done) = subst IsOfRegister (sym same) of
closes_register mid last e closed of (unquitted why sends same done) = subst IsOfRegister (sym same) (unclosed_register why e of)
