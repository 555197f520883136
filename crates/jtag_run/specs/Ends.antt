-- What each job with a session does once it was accepted: how the session went, and what the program says of its end.
-- The program is this project's own (docs/FORMATS.md, "Statuses").
use Rattle.std.specs.Prelude.{◌≡◌, ◌≤◌, ℕ, List, [], Bool, false, length, count_by, Option, None, Some, IsSome}
use Rattle.chain_scan.specs.ChainPlan.{Plan as ChainPlan}
use Rattle.chip_core.specs.Feeds.{limit_met}
use Rattle.command_line.specs.declared.job.Way.{Way}
use Rattle.command_line.specs.declared.job.Way.TheVariants.{Looped}
use Rattle.debug_model.specs.declared.command.Command.{Command}
use Rattle.debug_model.specs.declared.net.Call.TheVariants as calls
use Rattle.debug_model.specs.declared.net.NetFault.{NetFault}
use Rattle.debug_model.specs.Chip.{Live}
use Rattle.debug_model.specs.Told.{Far, read_out}
use Rattle.abstract_debugger.specs.Lines.{Line, is_error}
use Rattle.jt_base.specs.Faults.{Rises}
use Rattle.jt_base.specs.Sink.{GrewByPrefix, grown}
use Rattle.jtag_run.specs.Ending.{ClosedBy}
use Rattle.jtag_run.specs.Opening.{ConnectedAt, Joined, OpenFailed, refusal_of}
use Rattle.jtag_run.specs.Outside.{NetSeen}
use Rattle.jtag_run.specs.Refusal.{Refused}
use Rattle.jtag_run.specs.Sequel.{Sequel}
use Rattle.jtag_run.specs.Sequel.Sequel.{of_elf, of_script}
use Rattle.jtag_run.specs.Sessions.{Carried, OnBenchBy, OnLoop, OnNetAs, OnNetBy}
use Rattle.jtag_run.specs.Sessions.Carried.{chained, over_net, straight}
use Rattle.jtag_run.specs.Summary.{summary_of}
use Rattle.jtag_run.specs.declared.refusal.Refusal.TheVariants.{Open}
use Rattle.jtag_run.specs.declared.status.Status.{Status}
use Rattle.jtag_run.specs.declared.status.Status.TheVariants as status_as
use Rattle.line_counts.specs.Counts.{errors_in, lines_in}
use Rattle.probe_session.specs.declared.ended.Ended.{Ended as End}
use Rattle.probe_session.specs.declared.ended.Ended.TheVariants as ends
use Rattle.probe_session.specs.declared.fault.LostCause.TheVariants as lost
use Rattle.probe_session.specs.Transcribed.{shown}
use Rattle.wire_session.specs.Seen.{SinkSeen}

-- ---- a script on a chip on a bench

-- by what follows the opening
pub record BenchEndBy (first : Live) (sequel : Sequel) (old new : SinkSeen) (bench : Option Live) (status : Status) : Type 0 where
  pub closed : End
  pub behind : SinkSeen  -- the sink behind the session, before a last line
  pub later : old.faults ≤ behind.faults
  pub ran : OnBenchBy first sequel old behind bench (limit_met bench) closed
  pub told : ClosedBy closed (limit_met bench) behind new status

abbrev pub BenchEnd : Live → List Command → (old new : SinkSeen) → Option Live → Status → Type 0
BenchEnd first script old new bench status = BenchEndBy first (of_script script) old new bench status

-- of a session that loads this ELF file first
abbrev pub ElfEnd : Live → (file : List ℕ) → List Command → (old new : SinkSeen) → Option Live → Status → Type 0
ElfEnd first file script old new bench status = BenchEndBy first (of_elf file script) old new bench status

-- the same over a connection of the machine to itself, or that could not be opened, and the chip stays as it was loaded
pub data LoopEnd (first : Live) (script : List Command) (net_was net_is : NetSeen) (old new : SinkSeen) (bench : Option Live) (status : Status) : Type 0 where
  unjoined : (fault : NetFault) → OpenFailed calls.Join None fault net_was net_is → Refused (refusal_of fault) old new status → bench ≡ Some first
      → LoopEnd first script net_was net_is old new bench status
  joined : (mid : NetSeen) (closed : End) (behind : SinkSeen) → Joined net_was mid → OnLoop first script mid net_is old behind bench closed
      → ClosedBy closed (limit_met bench) behind new status
      → LoopEnd first script net_was net_is old new bench status

-- ---- a session that is made from a number

-- a sink that has counted nothing yet, and what it has counted behind these bytes
abbrev pub taken_seen : List ℕ → SinkSeen
taken_seen taken = record { printed = Some taken; faults = 0 }

-- how the session ended, before its stream, and the chip behind it
abbrev pub end_of : {way : Way} {first : Live} {script : List Command} {net_was net_is : NetSeen} {was is : SinkSeen} {bench : Option Live}
    {limit : Bool} {closed : End}
    → Carried way first script net_was net_is was is bench limit closed → End
end_of (straight direct same ran) = ran.session.end
end_of (chained plan in_chain same ran) = ran.session.end
end_of (over_net mid loops joins ran) = ran.session.end

abbrev pub last_of : {way : Way} {first : Live} {script : List Command} {net_was net_is : NetSeen} {was is : SinkSeen} {bench : Option Live}
    {limit : Bool} {closed : End}
    → Carried way first script net_was net_is was is bench limit closed → Far
last_of (straight direct same ran) = ran.session.headline.far
last_of (chained plan in_chain same ran) = ran.session.headline.far
last_of (over_net mid loops joins ran) = ran.session.headline.far

-- these bytes have as many lines and error lines as the session's lines are
pub record AreCounted (lines : List Line) (taken : List ℕ) : Type 0 where
  pub lines_are : lines_in taken ≡ length lines
  pub errors_are : errors_in taken ≡ count_by is_error lines

-- so it is behind every session that went as far as the transcript's end
abbrev pub CountedBehind : End → List Line → List ℕ → Type 0
CountedBehind ends.Clean lines taken = AreCounted lines taken
CountedBehind ends.WithErrors lines taken = AreCounted lines taken
CountedBehind (ends.Target fault) lines taken = Unit {0}
CountedBehind (ends.Wire why) lines taken = Unit {0}
CountedBehind (ends.Lost lost.DmiFailed) lines taken = Unit {0}
CountedBehind (ends.Lost lost.StillBusy) lines taken = Unit {0}
CountedBehind (ends.Lost (lost.NoHalt looks)) lines taken = AreCounted lines taken
CountedBehind (ends.Lost (lost.NoAck looks)) lines taken = AreCounted lines taken
CountedBehind (ends.Lost (lost.Odd odd)) lines taken = Unit {0}
CountedBehind ends.Sink lines taken = Unit {0}

-- a sink that counts takes every line
abbrev pub TakesAll : End → Type 0
TakesAll ends.Clean = Unit {0}
TakesAll ends.WithErrors = Unit {0}
TakesAll (ends.Target fault) = Unit {0}
TakesAll (ends.Wire why) = Unit {0}
TakesAll (ends.Lost why) = Unit {0}
TakesAll ends.Sink = ⊥

-- the session ran into a sink that counts, which has taken these bytes
pub record Counted (way : Way) (first : Live) (script : List Command) (net_was net_is : NetSeen) (taken : List ℕ) (bench : Option Live)
    (closed : End) : Type 0 where
  pub carried : Carried way first script net_was net_is (taken_seen []) (taken_seen taken) bench (limit_met bench) closed
  pub counted : CountedBehind (end_of carried) (shown script (read_out first) (last_of carried)).world.lines taken
  pub all : TakesAll closed

-- the net that was to be joined for it was not
pub record Unjoined (way : Way) (fault : NetFault) (net_was net_is : NetSeen) : Type 0 where
  pub loops : way ≡ Looped
  pub failed : OpenFailed calls.Join None fault net_was net_is

pub data GenEnd (way : Way) (first : Live) (script : List Command) (net_was net_is : NetSeen) (old new : SinkSeen) (bench : Option Live)
    (status : Status) : Type 0 where
  unjoined : (fault : NetFault) → Unjoined way fault net_was net_is → Refused (refusal_of fault) old new status → bench ≡ Some first
      → GenEnd way first script net_was net_is old new bench status
  -- the summary was printed, and then the end
  summed : (taken : List ℕ) (closed : End) (mid : SinkSeen) → Counted way first script net_was net_is taken bench closed
      → mid.printed ≡ grown (summary_of script taken) old.printed
      → old.faults ≤ mid.faults → ClosedBy closed (limit_met bench) mid new status → GenEnd way first script net_was net_is old new bench status
  -- or a front of it
  unsummed : (taken : List ℕ) (closed : End) → Counted way first script net_was net_is taken bench closed
      → GrewByPrefix (summary_of script taken) old.printed new.printed
      → Rises old.faults new.faults → status ≡ status_as.Sink → GenEnd way first script net_was net_is old new bench status

-- ---- a script on a chip at the far side of a net, alone or in a chain

pub data ProbeEnd (at : List ℕ) (chain : Option ChainPlan) (script : List Command) (net_was net_is : NetSeen) (old new : SinkSeen) (status : Status) : Type 0 where
  -- a net that tells the chip at its far side leads to that chip alone, and is not opened for a chain
  alone : IsSome chain → IsSome net_was.peer.chip → net_is ≡ net_was → Refused Open old new status → ProbeEnd at chain script net_was net_is old new status
  unopened : (fault : NetFault) → OpenFailed calls.Connect (Some at) fault net_was net_is → Refused (refusal_of fault) old new status
      → ProbeEnd at chain script net_was net_is old new status
  opened : (mid : NetSeen) (closed : End) (behind : SinkSeen) → ConnectedAt at net_was mid → old.faults ≤ behind.faults
      → OnNetAs chain script mid net_is old behind closed
      → ClosedBy closed false behind new status
      → ProbeEnd at chain script net_was net_is old new status

-- the same of a session that loads this ELF file first, on a chip that stands alone there
pub data ProbeElfEnd (at file : List ℕ) (script : List Command) (net_was net_is : NetSeen) (old new : SinkSeen) (status : Status) : Type 0 where
  unopened : (fault : NetFault) → OpenFailed calls.Connect (Some at) fault net_was net_is → Refused (refusal_of fault) old new status
      → ProbeElfEnd at file script net_was net_is old new status
  opened : (mid : NetSeen) (closed : End) (behind : SinkSeen) → ConnectedAt at net_was mid → old.faults ≤ behind.faults
      → OnNetBy (of_elf file script) mid net_is old behind closed → ClosedBy closed false behind new status
      → ProbeElfEnd at file script net_was net_is old new status
