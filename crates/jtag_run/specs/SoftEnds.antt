-- A session whose script may set software breakpoints, over the chip on a bench and over a net, and what the program says of its end.
-- The program is this project's own (docs/FORMATS.md, "Statuses").
use Rattle.std.specs.Prelude.{◌≡◌, ℕ, List, [], Bool, false, true, Option, Some, IfSome}
use Rattle.chip_core.specs.Feeds.{limit_met}
use Rattle.debug_model.specs.Chip.{Live}
use Rattle.debug_model.specs.declared.net.Call.TheVariants as calls
use Rattle.debug_model.specs.declared.net.NetFault.{NetFault}
use Rattle.debug_model.specs.declared.soft_command.SoftCommand.{SoftCommand}
use Rattle.jtag_run.specs.Ending.{ClosedBy}
use Rattle.jtag_run.specs.Opening.{ConnectedAt, OpenFailed, refusal_of}
use Rattle.jtag_run.specs.Outside.{NetSeen}
use Rattle.jtag_run.specs.Refusal.{Refused}
use Rattle.jtag_run.specs.Sessions.{at_bench, wired}
use Rattle.jtag_run.specs.declared.status.Status.{Status}
use Rattle.probe_session.specs.declared.ended.Ended.{Ended as End}
use Rattle.probe_session.specs.declared.ended.Ended.TheVariants as ends
use Rattle.soft_session.specs.Wire.{SoftWireSession}
use Rattle.wire_session.specs.Seen.{SinkSeen}

-- ---- on a chip on a bench

-- a wire that is the bench's own does not fail before the limit; that a register is refused is ruled out where the program leaves covered words alone
abbrev pub IsSoftBenchEnd : End → (limit : Bool) → Type 0
IsSoftBenchEnd ends.Clean limit = Unit {0}
IsSoftBenchEnd ends.WithErrors limit = Unit {0}
IsSoftBenchEnd (ends.Target fault) limit = Unit {0}
IsSoftBenchEnd (ends.Wire why) limit = limit ≡ true
IsSoftBenchEnd (ends.Lost why) limit = Unit {0}
IsSoftBenchEnd ends.Sink limit = Unit {0}

-- by the chip that the bench had first, the sink before and behind the session, and the bench behind the end of the stream
pub record OnSoftBench (first : Live) (script : List SoftCommand) (was is : SinkSeen) (bench : Option Live) (limit : Bool) (closed : End) : Type 0 where
  pub unread : List ℕ
  pub session : SoftWireSession script (at_bench (Some first) [] 0) (at_bench bench unread 0) was is closed
  pub possible : IsSoftBenchEnd closed limit

-- with the last line
pub record SoftEnd (first : Live) (script : List SoftCommand) (old new : SinkSeen) (bench : Option Live) (status : Status) : Type 0 where
  pub closed : End
  pub behind : SinkSeen  -- the sink behind the session, before a last line
  pub ran : OnSoftBench first script old behind bench (limit_met bench) closed
  pub told : ClosedBy closed (limit_met bench) behind new status

-- ---- on a chip at the far side of a net

-- over a net that tells its chip no byte came that is no answer
pub record OnSoftNet (script : List SoftCommand) (net_was net_is : NetSeen) (was is : SinkSeen) (closed : End) : Type 0 where
  pub bad_answers : ℕ
  pub session : SoftWireSession script (wired 0 net_was) (wired bad_answers net_is) was is closed
  pub ties : net_is.state.ties ≡ net_was.state.ties
  pub judged : IfSome net_is.state.chip (λ _. bad_answers ≡ 0)

-- with the last line, or the net could not be opened
pub data ProbeSoftEnd (at : List ℕ) (script : List SoftCommand) (net_was net_is : NetSeen) (old new : SinkSeen) (status : Status) : Type 0 where
  unopened : (fault : NetFault) → OpenFailed calls.Connect (Some at) fault net_was net_is → Refused (refusal_of fault) old new status
      → ProbeSoftEnd at script net_was net_is old new status
  opened : (mid : NetSeen) (closed : End) (behind : SinkSeen) → ConnectedAt at net_was mid → OnSoftNet script mid net_is old behind closed
      → ClosedBy closed false behind new status → ProbeSoftEnd at script net_was net_is old new status
