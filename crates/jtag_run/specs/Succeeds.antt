-- Which runs need not fail, and how they end: what has to hold of the words, of what lies outside and of the chip, and which statuses are left then.
-- The program is this project's own (docs/FORMATS.md, "Statuses").
use Rattle.std.specs.Prelude.{◌≡◌, ◌⊎◌, ◌≤◌, ◌<◌, ◌-◌, ◌^◌, ℕ, List, [], Option, None, Some, IfSome, IsSome, false}
use Rattle.chain_scan.specs.ChainPlan.{Plan}
use Rattle.chip_core.specs.Feeds.{limit_met}
use Rattle.chip_server.specs.declared.served.Served.TheVariants.{Bad}
use Rattle.command_line.specs.Job.{JobValue, both, elf, soft, probe, probe_elf, probe_soft, chip, sniff}
use Rattle.command_line.specs.WrittenJob.{job_of}
use Rattle.command_line.specs.declared.job.Way.{Way}
use Rattle.command_line.specs.declared.job.Way.TheVariants.{Straight, Looped, Chained}
use Rattle.debug_model.specs.Chip.{Live}
use Rattle.debug_model.specs.Told.{MetLimit}
use Rattle.jt_base.specs.Faults.{Rises}
use Rattle.jtag_net.specs.Wired.{summed}
use Rattle.jtag_run.specs.Bounds.{IsFair}
use Rattle.jtag_run.specs.Causes.{RefusalCause}
use Rattle.jtag_run.specs.First.{first_chip}
use Rattle.jtag_run.specs.Jobs.{Chip, said_chip}
use Rattle.jtag_run.specs.Opening.{AcceptedAt, ConnectedAt}
use Rattle.jtag_run.specs.Outside.{NetSeen, Outside}
use Rattle.jtag_run.specs.ServedChip.{WasServedAs}
use Rattle.jtag_run.specs.declared.refusal.Refusal.{Refusal}
use Rattle.jtag_run.specs.declared.refusal.Refusal.TheVariants as refusals
use Rattle.jtag_run.specs.declared.status.Status.{Status}
use Rattle.jtag_run.specs.declared.status.Status.TheVariants as status_as
use Rattle.wire_session.specs.Seen.{SinkSeen}

-- ---- what has to hold

-- nothing for which a run is refused is so, but that memory may be wanting
abbrev pub IsAcceptable : List (List ℕ) → (old new : Outside) → Type 0
IsAcceptable words old new = (refusal : Refusal) → RefusalCause words old.files new.files refusal → refusal ≡ refusals.OutOfMemory

-- net and sink counted no fault, and the chip has not met its limit of events
pub record IsUndisturbed (old new : Outside) (left : Option Live) : Type 0 where
  pub net : Rises old.net.faults new.net.faults → ⊥
  pub sink : Rises old.sink.faults new.sink.faults → ⊥
  pub below : limit_met left ≡ false

-- ---- a served chip

-- what came over the net, once a client was accepted, ends no chip of this job by a byte that is no sign: none comes before `Q` or the peer's end
abbrev pub TakesNoBadByte : Chip → NetSeen → NetSeen → Option Live → Type 0
TakesNoBadByte job old new left =
    (mid : NetSeen) (image : List ℕ) (place byte : ℕ) → AcceptedAt job.at old mid
    → WasServedAs job.chain (Bad place byte) mid.state new.state (Some (first_chip job.options image)) left → ⊥

-- it ends with its client, or memory was wanting before
abbrev pub ChipSucceeds : List (List ℕ) → (old new : Outside) → (left : Option Live) → Status → Type 0
ChipSucceeds words old new left status =
    (job : Chip) → job_of words ≡ Some (said_chip job) → IsAcceptable words old new → IsUndisturbed old new left → TakesNoBadByte job old.net new.net left
    → (status ≡ status_as.Clean) ⊎ (status ≡ status_as.OutOfMemory)

-- ---- a session on the bench's own chip

-- it went to its script's end, with or without errors
abbrev pub ReachesEnd : Status → Type 0
ReachesEnd status = (status ≡ status_as.Clean) ⊎ (status ≡ status_as.WithErrors)

-- of any chip that was as it was loaded, whose schedule is fair: where the sink counted no fault, and the chip has not met its limit of events
abbrev pub WithSucceeds : Live → (old new : SinkSeen) → (left : Option Live) → Status → Type 0
WithSucceeds first old new left status = IsFair first → (Rises old.faults new.faults → ⊥) → limit_met left ≡ false → ReachesEnd status

-- or memory was wanting before
abbrev pub GoesToEnd : Status → Type 0
GoesToEnd status = ReachesEnd status ⊎ (status ≡ status_as.OutOfMemory)

-- straight to the chip, or in a chain: no net is opened
abbrev pub IsOnBench : Way → Type 0
IsOnBench Straight = Unit {0}
IsOnBench (Chained plan) = Unit {0}
IsOnBench Looped = ⊥

-- the session of a script, of a number, or of an ELF file and a script, on the chip of a bench without a net
abbrev pub IsBenchJob : JobValue → Type 0
IsBenchJob (both inputs options piece way) = IsOnBench way
IsBenchJob (elf file script options piece) = Unit {0}
IsBenchJob (soft image script options piece) = ⊥
IsBenchJob (probe at script chain) = ⊥
IsBenchJob (probe_elf at file script) = ⊥
IsBenchJob (probe_soft at script) = ⊥
IsBenchJob (chip at image options chain) = ⊥
IsBenchJob (sniff stream answers waves) = ⊥

-- its schedule is a seed's, which is fair: so nothing is lost
abbrev pub BenchSucceeds : List (List ℕ) → (old new : Outside) → (left : Option Live) → Status → Type 0
BenchSucceeds words old new left status =
    (value : JobValue) → job_of words ≡ Some value → IsBenchJob value → IsAcceptable words old new → IsUndisturbed old new left → GoesToEnd status

-- ---- a session over a net that tells its chip

-- the net told its chip when it was connected, whose schedule was fair; from then on the wire over the net counted nothing more, and the chip has not met its
-- limit of events
pub record StaysQuiet (was is : NetSeen) : Type 0 where
  pub tells : IsSome was.state.chip
  pub fair : IfSome was.state.chip (λ f. IsFair f.live)
  pub room : summed 0 was.faults was.ends < 2 ^ 64 - 1
  pub counts : summed 0 is.faults is.ends ≤ summed 0 was.faults was.ends
  pub below : MetLimit is.state.chip → ⊥

abbrev pub IsAlone : Option Plan → Type 0
IsAlone None = Unit {0}
IsAlone (Some plan) = ⊥

-- the session of a script, or of an ELF file and a script, on a chip that stands alone at the far side
abbrev pub IsProbeJob : JobValue → Type 0
IsProbeJob (both inputs options piece way) = ⊥
IsProbeJob (elf file script options piece) = ⊥
IsProbeJob (soft image script options piece) = ⊥
IsProbeJob (probe at script chain) = IsAlone chain
IsProbeJob (probe_elf at file script) = Unit {0}
IsProbeJob (probe_soft at script) = ⊥
IsProbeJob (chip at image options chain) = ⊥
IsProbeJob (sniff stream answers waves) = ⊥

-- where it connects to
abbrev pub address_of : JobValue → List ℕ
address_of (both inputs options piece way) = []
address_of (elf file script options piece) = []
address_of (soft image script options piece) = []
address_of (probe at script chain) = at
address_of (probe_elf at file script) = at
address_of (probe_soft at script) = at
address_of (chip at image options chain) = at
address_of (sniff stream answers waves) = []

-- the connection, where one was made, was quiet
abbrev pub StaysQuietFrom : Outside → Outside → JobValue → Type 0
StaysQuietFrom old new value = (mid : NetSeen) → ConnectedAt (address_of value) old.net mid → StaysQuiet mid new.net

-- so it goes to its script's end
abbrev pub ProbeSucceeds : List (List ℕ) → (old new : Outside) → Status → Type 0
ProbeSucceeds words old new status =
    (value : JobValue) → job_of words ≡ Some value → IsProbeJob value → IsAcceptable words old new → (Rises old.net.faults new.net.faults → ⊥)
    → (Rises old.sink.faults new.sink.faults → ⊥) → StaysQuietFrom old new value → GoesToEnd status

-- ---- all of them

pub record Succeeds (words : List (List ℕ)) (old new : Outside) (left : Option Live) (status : Status) : Type 0 where
  pub chip : ChipSucceeds words old new left status
  pub bench : BenchSucceeds words old new left status
  pub net : ProbeSucceeds words old new status
