-- What a run has that need not fail, by what it did.
use Rattle.std.proofs.Common.{◌≡◌, ◌∙◌, ℕ, false, List, [], Option, Some, None, IfSome, refl, sym, subst, inl, inr}
use Rattle.std.specs.Prelude.{IsSome}
use Rattle.std.proofs.lemmas.Bool.{false≢true}
use Rattle.std.proofs.lemmas.Option.{same_Some}
use Rattle.chain_scan.specs.ChainPlan.{Plan}
use Rattle.chip_laws.proofs.Pace.{loaded_paced}
use Rattle.command_line.specs.Job.{JobValue}
use Rattle.command_line.specs.WrittenJob.{job_of}
use Rattle.command_line.specs.declared.job.Way.{Way}
use Rattle.command_line.specs.declared.job.Way.TheVariants.{Straight, Looped, Chained}
use Rattle.debug_model.specs.Chip.{Live}
use Rattle.debug_model.specs.Pacing.{Paced}
use Rattle.debug_model.specs.Told.{Far, IsAsLoaded, chip_of}
use Rattle.debug_model.specs.declared.net.Call.TheVariants as calls
use Rattle.jt_base.specs.Faults.{Rises}
use Rattle.debug_model.specs.declared.command.Command.{Command}
use Rattle.jtag_run.proofs.BenchSuccesses.{bench_succeeds, not_sink, number_succeeds, status_by}
use Rattle.jtag_run.proofs.ChipSuccesses.{chip_succeeds, unopened_memory, wants_memory}
use Rattle.jtag_run.proofs.NetSuccesses.{over_net}
use Rattle.jtag_run.proofs.SeedBounds.{first_paced}
use Rattle.jtag_run.specs.Bounds.{IsFair}
use Rattle.jtag_run.specs.Ending.{ClosedBy}
use Rattle.jtag_run.specs.Ends.{BenchEnd, ProbeElfEnd, ProbeEnd}
use Rattle.jtag_run.specs.Ends.ProbeElfEnd.{opened as elf_opened, unopened as elf_unopened}
use Rattle.jtag_run.specs.Ends.ProbeEnd.{alone, opened, unopened}
use Rattle.jtag_run.specs.First.{first_chip}
use Rattle.jtag_run.specs.Jobs.{halted, said_probe, said_probe_elf}
use Rattle.jtag_run.specs.Opening.{ConnectedAt}
use Rattle.jtag_run.specs.Outside.{NetSeen, Outside}
use Rattle.jtag_run.specs.Ran.{BothEnd, Ran}
use Rattle.jtag_run.specs.Ran.Ran.{refused, ran, generated, probed, programmed, probe_programmed, soft, probe_soft, served, sniffed}
use Rattle.jtag_run.specs.Sequel.{Sequel}
use Rattle.jtag_run.specs.Sequel.Sequel.{of_elf, of_script}
use Rattle.jtag_run.specs.Sessions.{OnNetBy}
use Rattle.jtag_run.specs.Succeeds.{BenchSucceeds, GoesToEnd, IsAlone, IsBenchJob, IsOnBench, IsProbeJob, ProbeSucceeds, StaysQuiet, StaysQuietFrom, Succeeds}
use Rattle.jtag_run.specs.declared.status.Status.{Status}
use Rattle.probe_session.specs.declared.ended.Ended.{Ended as End}
use Rattle.wire_session.specs.Seen.{SinkSeen}

-- what holds of the job that the words write
of_job : (P : JobValue → Type 0) (words : List (List ℕ)) (value said : JobValue) → job_of words ≡ Some said → job_of words ≡ Some value → P value → P said
of_job P words value said p q holds = subst P (same_Some value said (sym q ∙ p)) holds

is_bench_job : (words : List (List ℕ)) (value said : JobValue) → job_of words ≡ Some said → job_of words ≡ Some value → IsBenchJob value → IsBenchJob said
is_bench_job words value said p q on = of_job IsBenchJob words value said p q on

is_probe_job : (words : List (List ℕ)) (value said : JobValue) → job_of words ≡ Some said → job_of words ≡ Some value → IsProbeJob value → IsProbeJob said
is_probe_job words value said p q on = of_job IsProbeJob words value said p q on

both_on : (way : Way) (first : Live) (script : List Command) (net_was net_is : NetSeen) (old new : SinkSeen) (left : Option Live) (status : Status)
    → IsOnBench way → BothEnd way first script net_was net_is old new left status → BenchEnd first script old new left status
both_on Straight first script net_was net_is old new left status on ended = ended.1
both_on (Chained plan) first script net_was net_is old new left status on ended = ended.1
both_on Looped first script net_was net_is old new left status on ended = absurd on

bench_succeeds_by : (words : List (List ℕ)) (old new : Outside) (left : Option Live) (status : Status) → Ran words old new left status
    → BenchSucceeds words old new left status
bench_succeeds_by words old new left status (refused refusal cause line net blank) value is on fine still =
    inr (wants_memory refusal old.sink new.sink status line still.sink (fine refusal cause))
bench_succeeds_by words old new left status (ran job commands image accepted asked ended stays) value is on fine still =
    inl (bench_succeeds (first_chip job.options image) (of_script commands) old.sink new.sink left status
    (both_on job.way (first_chip job.options image) commands old.net new.net old.sink new.sink left status
    (is_bench_job words value _ accepted.words_write is on) ended) (first_paced job.options image accepted.fair) still.below still.sink)
bench_succeeds_by words old new left status (generated job image accepted files ended stays) value is on fine still =
    inl (number_succeeds job.way (first_chip job.options image) _ old.net new.net old.sink new.sink left status ended
    (is_bench_job words value _ accepted.words_write is on) (first_paced job.options image accepted.fair) still.below still.sink)
bench_succeeds_by words old new left status (probed job commands accepted asked ended blank) value is on fine still =
    absurd (is_bench_job words value _ accepted.words_write is on)
bench_succeeds_by words old new left status (programmed job commands file accepted asked net ended) value is on fine still =
    inl (bench_succeeds (first_chip (halted job.options) []) (of_elf file commands) old.sink new.sink left status ended
    (first_paced (halted job.options) [] accepted.fair) still.below still.sink)
bench_succeeds_by words old new left status (probe_programmed job commands file accepted asked ended blank) value is on fine still =
    absurd (is_bench_job words value _ accepted.words_write is on)
bench_succeeds_by words old new left status (soft job commands image accepted asked net ended) value is on fine still =
    absurd (is_bench_job words value _ accepted.words_write is on)
bench_succeeds_by words old new left status (probe_soft job commands accepted asked ended blank) value is on fine still =
    absurd (is_bench_job words value _ accepted.words_write is on)
bench_succeeds_by words old new left status (served job image accepted asked at) value is on fine still =
    absurd (is_bench_job words value _ accepted.words_write is on)
bench_succeeds_by words old new left status (sniffed job stream answers accepted asked ended net blank) value is on fine still =
    absurd (is_bench_job words value _ accepted.words_write is on)

-- ---- over a net

told_there : {A : Type 0} (told : Option A) → IsSome told → (x : A) × (told ≡ Some x)
told_there None none = absurd (false≢true none)
told_there (Some x) there = (x, refl)

paced_far : (told : Option Far) (f : Far) → told ≡ Some f → IsAsLoaded told → IfSome told (λ g. IsFair g.live) → Paced (chip_of f).inside
paced_far told f is loaded fair = loaded_paced f.live (subst IsAsLoaded is loaded) (subst (λ t. IfSome t (λ g. IsFair g.live)) is fair)

over_net_by : (sequel : Sequel) (at : List ℕ) (net_was mid net_is : NetSeen) (old behind new : SinkSeen) (closed : End) (status : Status)
    → ConnectedAt at net_was mid → StaysQuiet mid net_is → OnNetBy sequel mid net_is old behind closed → ClosedBy closed false behind new status
    → (Rises old.faults new.faults → ⊥) → GoesToEnd status
over_net_by sequel at net_was mid net_is old behind new closed status connected quiet went told put =
    let there : (f : Far) × (mid.state.chip ≡ Some f) = told_there mid.state.chip quiet.tells in
    inl (status_by closed false behind new status refl
    (over_net sequel there.0 mid net_is old behind closed went there.1 (paced_far mid.state.chip there.0 there.1 connected.loaded quiet.fair) quiet
    (not_sink closed false old behind new status went.session.sink_cause told put)) told)

script_over_net : (at : List ℕ) (chain : Option Plan) (script : List Command) (net_was net_is : NetSeen) (old new : SinkSeen) (status : Status)
    → ProbeEnd at chain script net_was net_is old new status → IsAlone chain → (Rises net_was.faults net_is.faults → ⊥) → (Rises old.faults new.faults → ⊥)
    → ((mid : NetSeen) → ConnectedAt at net_was mid → StaysQuiet mid net_is) → GoesToEnd status
script_over_net at (Some plan) script net_was net_is old new status ended is_alone net put quiet = absurd is_alone
script_over_net at None script net_was net_is old new status (alone some there same line) is_alone net put quiet = absurd (false≢true some)
script_over_net at None script net_was net_is old new status (unopened fault failed line) is_alone net put quiet =
    inr (unopened_memory calls.Connect (Some at) fault net_was net_is old new status failed line net put)
script_over_net at None script net_was net_is old new status (opened mid closed behind connected later went told) is_alone net put quiet =
    over_net_by (of_script script) at net_was mid net_is old behind new closed status connected (quiet mid connected) went told put

elf_over_net : (at file : List ℕ) (script : List Command) (net_was net_is : NetSeen) (old new : SinkSeen) (status : Status)
    → ProbeElfEnd at file script net_was net_is old new status → (Rises net_was.faults net_is.faults → ⊥) → (Rises old.faults new.faults → ⊥)
    → ((mid : NetSeen) → ConnectedAt at net_was mid → StaysQuiet mid net_is) → GoesToEnd status
elf_over_net at file script net_was net_is old new status (elf_unopened fault failed line) net put quiet =
    inr (unopened_memory calls.Connect (Some at) fault net_was net_is old new status failed line net put)
elf_over_net at file script net_was net_is old new status (elf_opened mid closed behind connected later went told) net put quiet =
    over_net_by (of_elf file script) at net_was mid net_is old behind new closed status connected (quiet mid connected) went told put

net_succeeds_by : (words : List (List ℕ)) (old new : Outside) (left : Option Live) (status : Status) → Ran words old new left status
    → ProbeSucceeds words old new status
net_succeeds_by words old new left status (refused refusal cause line net blank) value is on fine still put quiet =
    inr (wants_memory refusal old.sink new.sink status line put (fine refusal cause))
net_succeeds_by words old new left status (ran job commands image accepted asked ended stays) value is on fine still put quiet =
    absurd (is_probe_job words value _ accepted.words_write is on)
net_succeeds_by words old new left status (generated job image accepted files ended stays) value is on fine still put quiet =
    absurd (is_probe_job words value _ accepted.words_write is on)
net_succeeds_by words old new left status (probed job commands accepted asked ended blank) value is on fine still put quiet =
    script_over_net job.at job.chain commands old.net new.net old.sink new.sink status ended
    (is_probe_job words value (said_probe job) accepted.words_write is on) still put
    (of_job (StaysQuietFrom old new) words value (said_probe job) accepted.words_write is quiet)
net_succeeds_by words old new left status (programmed job commands file accepted asked net ended) value is on fine still put quiet =
    absurd (is_probe_job words value _ accepted.words_write is on)
net_succeeds_by words old new left status (probe_programmed job commands file accepted asked ended blank) value is on fine still put quiet =
    elf_over_net job.at file commands old.net new.net old.sink new.sink status ended still put
    (of_job (StaysQuietFrom old new) words value (said_probe_elf job) accepted.words_write is quiet)
net_succeeds_by words old new left status (soft job commands image accepted asked net ended) value is on fine still put quiet =
    absurd (is_probe_job words value _ accepted.words_write is on)
net_succeeds_by words old new left status (probe_soft job commands accepted asked ended blank) value is on fine still put quiet =
    absurd (is_probe_job words value _ accepted.words_write is on)
net_succeeds_by words old new left status (served job image accepted asked at) value is on fine still put quiet =
    absurd (is_probe_job words value _ accepted.words_write is on)
net_succeeds_by words old new left status (sniffed job stream answers accepted asked ended net blank) value is on fine still put quiet =
    absurd (is_probe_job words value _ accepted.words_write is on)

-- ---- all of them

pub succeeds_by : (words : List (List ℕ)) (old new : Outside) (left : Option Live) (status : Status) → Ran words old new left status
    → Succeeds words old new left status
succeeds_by words old new left status done = record {
  chip = chip_succeeds words old new left status done;
  bench = bench_succeeds_by words old new left status done;
  net = net_succeeds_by words old new left status done;
}
