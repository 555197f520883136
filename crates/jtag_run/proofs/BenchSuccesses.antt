-- A session on the bench's own chip whose run need not fail goes along its plan to an end.
use Rattle.std.proofs.Common.{◌≡◌, ◌∙◌, ◌<◌, ℕ, Bool, true, false, List, [], Option, Some, None, IfSome, refl, sym, subst, inl, inr, arith}
use Rattle.std.proofs.lemmas.Bool.{false≢true}
use Rattle.abstract_debugger.specs.Plan.{Plan}
use Rattle.chip_core.specs.Feeds.{limit_met}
use Rattle.chip_laws.proofs.Pace.{loaded_paced}
use Rattle.command_line.specs.declared.job.Way.{Way}
use Rattle.command_line.specs.declared.job.Way.TheVariants.{Looped}
use Rattle.debug_model.specs.Chip.{Live}
use Rattle.debug_model.specs.Pacing.{Paced}
use Rattle.debug_model.specs.Told.{Far, chip_of, read_out}
use Rattle.debug_model.specs.declared.command.Command.{Command}
use Rattle.debug_model.specs.declared.wire.WireFault.{WireFault}
use Rattle.jt_base.specs.Faults.{Rises}
use Rattle.jtag_run.proofs.ChainEnds.{is_loaded}
use Rattle.jtag_run.specs.Ending.{ClosedBy}
use Rattle.jtag_run.specs.Ends.{BenchEndBy, GenEnd, taken_seen}
use Rattle.jtag_run.specs.Ends.GenEnd.{summed, unjoined, unsummed}
use Rattle.jtag_run.specs.Outside.{NetSeen}
use Rattle.jtag_run.specs.Sequel.{Sequel, sequel_plan}
use Rattle.jtag_run.specs.Sequel.Sequel.{of_script}
use Rattle.jtag_run.specs.Sessions.{Carried, IsLoadedBench, OnBench, OnBenchBy, at_bench}
use Rattle.jtag_run.specs.Sessions.Carried.{chained, over_net, straight}
use Rattle.jtag_run.specs.Succeeds.{IsOnBench, ReachesEnd, WithSucceeds}
use Rattle.jtag_run.specs.declared.status.Status.{Status}
use Rattle.jtag_run.specs.declared.status.Status.TheVariants as status_as
use Rattle.probe_session.specs.Causes.{SinkCaused}
use Rattle.probe_session.specs.Never.{LostInTime}
use Rattle.probe_session.specs.Transcribed.{WrittenBy}
use Rattle.probe_session.specs.declared.ended.Ended.{Ended as End}
use Rattle.probe_session.specs.declared.ended.Ended.TheVariants as ends
use Rattle.probe_session.specs.declared.fault.LostCause.{LostCause}
use Rattle.probe_session.specs.declared.fault.LostCause.TheVariants as lost
use Rattle.wire_session.specs.Closing.{Closes, unclosed}
use Rattle.wire_session.specs.Closing.Closes.{behind_fault, quitted, unquitted}
use Rattle.wire_session.specs.Seen.{SinkSeen, WireSeen}

-- ---- a session that is lost was lost before its stream was ended

never_lost : (wire : WireFault) (e : End) (why : LostCause) → ends.Lost why ≡ unclosed wire e → ⊥
never_lost wire ends.Clean why same = cc
never_lost wire ends.WithErrors why same = cc
never_lost wire (ends.Target fault) why same = cc
never_lost wire (ends.Wire first) why same = cc
never_lost wire (ends.Lost cause) why same = cc
never_lost wire ends.Sink why same = cc

pub lost_before : (mid new : WireSeen) (e : End) (why : LostCause) → Closes mid new e (ends.Lost why) → e ≡ ends.Lost why
lost_before mid new e why (behind_fault sends same kept) = sym same
lost_before mid new e why (quitted sends same done) = sym same
lost_before mid new e why (unquitted wire sends same done) = absurd (never_lost wire e why same)

-- where the chip's schedule is fair, nothing came too late, and no register of the chip is odd
pub never_loses : (p : Plan) (was is : Option (List ℕ)) (first last : Far) (why : LostCause) → Paced (chip_of first).inside → LostInTime (Some first) why
    → WrittenBy p was is first last (ends.Lost why) → ⊥
never_loses p was is first last lost.DmiFailed paced in_time w = in_time paced
never_loses p was is first last lost.StillBusy paced in_time w = in_time paced
never_loses p was is first last (lost.NoHalt looks) paced in_time w = in_time paced
never_loses p was is first last (lost.NoAck looks) paced in_time w = in_time paced
never_loses p was is first last (lost.Odd odd) paced in_time w = w

-- ---- by the end

-- the ends that are left
abbrev pub IsWhole : End → Type 0
IsWhole ends.Clean = Unit {0}
IsWhole ends.WithErrors = Unit {0}
IsWhole (ends.Target fault) = ⊥
IsWhole (ends.Wire why) = ⊥
IsWhole (ends.Lost why) = ⊥
IsWhole ends.Sink = ⊥

is_whole : (first : Live) (sequel : Sequel) (was is : SinkSeen) (bench : Option Live) (limit : Bool) (closed : End)
    → (s : OnBenchBy first sequel was is bench limit closed) → Paced first.chip.inside → limit ≡ false → (closed ≡ ends.Sink → ⊥) → IsWhole closed
is_whole first sequel was is bench limit ends.Clean s paced below put = tt
is_whole first sequel was is bench limit ends.WithErrors s paced below put = tt
is_whole first sequel was is bench limit (ends.Target fault) s paced below put = absurd s.possible
is_whole first sequel was is bench limit (ends.Wire why) s paced below put = absurd (false≢true (sym below ∙ s.possible))
is_whole first sequel was is bench limit (ends.Lost why) s paced below put =
    let before : s.session.end ≡ ends.Lost why = lost_before s.session.mid (at_bench bench s.unread 0) s.session.end why s.session.closes in
    absurd (never_loses (sequel_plan sequel) was.printed is.printed (read_out first) s.session.headline.far why paced s.in_time
    (subst (λ e. WrittenBy (sequel_plan sequel) was.printed is.printed (read_out first) s.session.headline.far e) before s.session.headline.holds.written))
is_whole first sequel was is bench limit ends.Sink s paced below put = absurd (put refl)

pub status_by : (closed : End) (limit : Bool) (mid new : SinkSeen) (status : Status) → limit ≡ false → IsWhole closed → ClosedBy closed limit mid new status
    → ReachesEnd status
status_by ends.Clean true mid new status below whole t = absurd (false≢true (sym below))
status_by ends.Clean false mid new status below whole t = inl t.0
status_by ends.WithErrors true mid new status below whole t = absurd (false≢true (sym below))
status_by ends.WithErrors false mid new status below whole t = inr t.0
status_by (ends.Target fault) limit mid new status below whole t = absurd whole
status_by (ends.Wire why) limit mid new status below whole t = absurd whole
status_by (ends.Lost why) limit mid new status below whole t = absurd whole
status_by ends.Sink limit mid new status below whole t = absurd whole

-- ---- a session whose lines are printed

pub not_sink : (closed : End) (limit : Bool) (old mid new : SinkSeen) (status : Status) → SinkCaused old.faults mid.faults closed
    → ClosedBy closed limit mid new status → (Rises old.faults new.faults → ⊥) → closed ≡ ends.Sink → ⊥
not_sink closed limit old mid new status caused t quiet is =
    let last : (status ≡ status_as.Sink) × (new ≡ mid) = subst (λ e. ClosedBy e limit mid new status) is t in
    quiet (subst (λ (s : SinkSeen). Rises old.faults s.faults) (sym last.1) (subst (λ e. SinkCaused old.faults mid.faults e) is caused))

pub bench_succeeds : (first : Live) (sequel : Sequel) (old new : SinkSeen) (left : Option Live) (status : Status) → BenchEndBy first sequel old new left status
    → Paced first.chip.inside → limit_met left ≡ false → (Rises old.faults new.faults → ⊥) → ReachesEnd status
bench_succeeds first sequel old new left status b paced below quiet =
    status_by b.closed (limit_met left) b.behind new status below
    (is_whole first sequel old b.behind left (limit_met left) b.closed b.ran paced below
    (not_sink b.closed (limit_met left) old b.behind new status b.ran.session.sink_cause b.told quiet)) b.told

-- a session on any chip that was as it was loaded
pub with_succeeds : (old left : Option Live) (script : List Command) (was mid is : SinkSeen) (closed : End) (status : Status) → IsLoadedBench old
    → IfSome old (λ first. OnBench first script was mid left (limit_met left) closed) → ClosedBy closed (limit_met left) mid is status
    → IfSome old (λ first. WithSucceeds first was is left status)
with_succeeds None left script was mid is closed status loaded ran told = tt
with_succeeds (Some first) left script was mid is closed status loaded ran told = λ fair quiet below.
    status_by closed (limit_met left) mid is status below
    (is_whole first (of_script script) was mid left (limit_met left) closed ran (loaded_paced first (is_loaded (Some first) loaded) fair) below
    (not_sink closed (limit_met left) was mid is status ran.session.sink_cause told quiet)) told

-- ---- a session that is made from a number

on_bench_loops : (way : Way) → IsOnBench way → way ≡ Looped → ⊥
on_bench_loops way on loops = subst IsOnBench loops on

still_counts : Rises 0 0 → ⊥
still_counts = λ rises. let h : 0 < 0 = rises (omega arith) in omega (arith, h)

never_sink : (closed : End) → SinkCaused 0 0 closed → closed ≡ ends.Sink → ⊥
never_sink closed caused is = still_counts (subst (λ e. SinkCaused 0 0 e) is caused)

carried_on : (way : Way) (first : Live) (script : List Command) (net_was net_is : NetSeen) (was is : SinkSeen) (left : Option Live) (limit : Bool) (closed : End)
    → IsOnBench way → Carried way first script net_was net_is was is left limit closed → OnBench first script was is left limit closed
carried_on way first script net_was net_is was is left limit closed on (straight direct same ran) = ran
carried_on way first script net_was net_is was is left limit closed on (chained plan in_chain same ran) = ran
carried_on way first script net_was net_is was is left limit closed on (over_net mid loops joins ran) = absurd (on_bench_loops way on loops)

pub number_succeeds : (way : Way) (first : Live) (script : List Command) (net_was net_is : NetSeen) (old new : SinkSeen) (left : Option Live) (status : Status)
    → GenEnd way first script net_was net_is old new left status → IsOnBench way → Paced first.chip.inside → limit_met left ≡ false
    → (Rises old.faults new.faults → ⊥) → ReachesEnd status
number_succeeds way first script net_was net_is old new left status (unjoined fault u was is) on paced below quiet = absurd (on_bench_loops way on u.loops)
number_succeeds way first script net_was net_is old new left status (summed taken closed mid counted put later told) on paced below quiet =
    let s : OnBench first script (taken_seen []) (taken_seen taken) left (limit_met left) closed =
    carried_on way first script net_was net_is (taken_seen []) (taken_seen taken) left (limit_met left) closed on counted.carried in
    status_by closed (limit_met left) mid new status below
    (is_whole first (of_script script) (taken_seen []) (taken_seen taken) left (limit_met left) closed s paced below (never_sink closed s.session.sink_cause))
    told
number_succeeds way first script net_was net_is old new left status (unsummed taken closed counted front rises is) on paced below quiet = absurd (quiet rises)
