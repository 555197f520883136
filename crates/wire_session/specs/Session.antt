-- A session over a wire: what the wire tells of it, and what it leaves.
-- OpenOCD, remote_bitbang, for the stream; the session is this project's own.
use Rattle.std.specs.Prelude.{ℕ, List, Option, option_map}
use Rattle.debug_model.specs.Dmi.{CanQuit, DmiComing}
use Rattle.debug_model.specs.Dmi.DmiComing.{Scans}
use Rattle.debug_model.specs.Kept.{ScanSeen}
use Rattle.debug_model.specs.Scan.Coming.{Answers}
use Rattle.debug_model.specs.Told.{Far}
use Rattle.probe_run.specs.Acts.{Tells, tells}
use Rattle.probe_session.specs.declared.ended.Ended.{Ended as End}
use Rattle.probe_session.specs.declared.ended.Ended.TheVariants as ends

-- the answers that are to come are those of scans
abbrev pub scans_of : Option (List ℕ) → Option DmiComing
scans_of coming = option_map Scans (option_map Answers coming)

-- the chip at the far end and the answers that are to come, where they are told
abbrev pub told_by : Option Far → Option (List ℕ) → Tells
told_by far coming = tells far (scans_of coming)

-- the same of scans over anything
abbrev pub told_by_scan : ScanSeen → Tells
told_by_scan s = tells s.far (option_map Scans s.coming)

-- behind anything but a fault of the wire the stream can be ended
abbrev pub LeavesWire : Option Far → End → Type 0
LeavesWire far ends.Clean = CanQuit far
LeavesWire far ends.WithErrors = CanQuit far
LeavesWire far (ends.Target fault) = CanQuit far
LeavesWire far (ends.Wire why) = Unit {0}
LeavesWire far (ends.Lost why) = CanQuit far
LeavesWire far ends.Sink = CanQuit far
