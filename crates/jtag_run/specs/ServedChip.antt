-- A run whose chip is served over a net: what is accepted first, how the net is opened, and how the serving's end is printed and answered.
-- The program is this project's own (docs/FORMATS.md, "Statuses").
use Rattle.std.specs.Prelude.{◌≡◌, ℕ, List, Option, None, Some, if◌then◌else◌}
use Rattle.chain_bench.specs.ChainFed.{WasServedIn}
use Rattle.chain_scan.specs.ChainPlan.{Plan}
use Rattle.chip_core.specs.Feeds.{limit_met}
use Rattle.debug_model.specs.Chip.{Live}
use Rattle.debug_model.specs.Net.{NetState}
use Rattle.debug_model.specs.declared.net.Call.TheVariants as calls
use Rattle.debug_model.specs.declared.net.NetFault.{NetFault}
use Rattle.jt_base.specs.Files.{Holds, NamedFile}
use Rattle.jtag_run.specs.First.{CanLoad, first_chip}
use Rattle.jtag_run.specs.LastLine.{Closed, bad_byte, event_limit, wire_failed}
use Rattle.jtag_run.specs.Outside.{NetSeen, Outside}
use Rattle.wire_session.specs.Seen.{SinkSeen}
use Rattle.jtag_run.specs.Refusal.{ChipCause, Refused, asked_image}
use Rattle.chip_server.specs.Served.{CountsOnce, WasServed}
use Rattle.jtag_run.specs.Opening.{AcceptedAt, OpenFailed, refusal_of}
use Rattle.jtag_run.specs.Jobs.{Chip, said_chip}
use Rattle.command_line.specs.WrittenJob.{job_of}
use Rattle.jtag_run.specs.declared.refusal.Refusal.{Refusal}
use Rattle.chip_server.specs.declared.served.Served.{Served}
use Rattle.chip_server.specs.declared.served.Served.TheVariants.{Quit, PeerEnded, Bad, Limit, NetFailed}
use Rattle.jtag_run.specs.declared.status.Status.{Status}
use Rattle.jtag_run.specs.declared.status.Status.TheVariants.{Clean, Wire, EventLimit, BadByte}

-- ---- what was accepted

-- the words write this job, and its image can be loaded
pub record IsAcceptedChip (words : List (List ℕ)) (held : Option (List NamedFile)) (job : Chip) (image : List ℕ) : Type 0 where
  pub words_write : job_of words ≡ Some (said_chip job)
  pub image_is : Holds held job.image image
  pub loads : CanLoad job.options image

-- behind what is read and judged first: the chip is on the bench
pub record PreparedChip (job : Chip) (held : Option (List NamedFile)) (bench : Option Live) : Type 0 where
  pub image : List ℕ
  pub image_is : Holds held job.image image
  pub loads : CanLoad job.options image
  pub is : bench ≡ Some (first_chip job.options image)

-- ---- the end of the serving

-- what is told of an end: a chip at its limit says so, whatever ended the serving
abbrev pub limit_first : Option Live → Served → Served
limit_first left served = if limit_met left then Limit else served

-- the last line and the status; behind `Q` and behind the peer's end nothing is printed
abbrev pub Told : Served → SinkSeen → SinkSeen → Status → Type 0
Told Quit old new status = (new ≡ old) × (status ≡ Clean)
Told PeerEnded old new status = (new ≡ old) × (status ≡ Clean)
Told (Bad place byte) old new status = Closed (bad_byte place byte) BadByte old new status
Told Limit old new status = Closed event_limit EventLimit old new status
Told (NetFailed fault) old new status = Closed (wire_failed fault) Wire old new status

-- what the client is served: the chip on the bench alone, or as one of a chain with these devices beside it
abbrev pub WasServedAs : (chain : Option Plan) → Served → NetState → NetState → Option Live → Option Live → Type 0
WasServedAs None served old new bench left = WasServed served old new bench left
WasServedAs (Some plan) served old new bench left = WasServedIn plan served old new bench left

-- how a net is opened and the chip on the bench served there: the opening fails, and the chip stays as it is; or a client is accepted, the chip, or the chain
-- that it is in, takes the bytes that come and nothing else, and the end is told
pub data ServedAt (at : List ℕ) (chain : Option Plan) (old new : NetSeen) (sink_old sink_new : SinkSeen) (bench left : Option Live)
    (status : Status) : Type 0 where
  unopened : (fault : NetFault) → OpenFailed calls.Accept (Some at) fault old new → Refused (refusal_of fault) sink_old sink_new status → left ≡ bench
      → ServedAt at chain old new sink_old sink_new bench left status
  opened : (mid : NetSeen) (served : Served) → AcceptedAt at old mid → WasServedAs chain served mid.state new.state bench left
      → CountsOnce mid.faults new.faults mid.ends new.ends served
      → Told (limit_first left served) sink_old sink_new status → ServedAt at chain old new sink_old sink_new bench left status

-- ---- the whole job

-- its image was refused: nothing was opened, and the bench is as it was; or it was read and loaded, just that file was asked for, and the net was opened and
-- the chip served
pub data RanChip (job : Chip) (old new : Outside) (bench left : Option Live) (status : Status) : Type 0 where
  refused : (refusal : Refusal) → ChipCause job old.files new.files refusal → Refused refusal old.sink new.sink status → new.net ≡ old.net → left ≡ bench
      → RanChip job old new bench left status
  served : (image : List ℕ) → Holds old.files.held job.image image → CanLoad job.options image → new.files.asked ≡ asked_image job old.files
      → ServedAt job.at job.chain old.net new.net old.sink new.sink (Some (first_chip job.options image)) left status → RanChip job old new bench left status
