-- A session over the chip on a bench, alone or in a chain, straight or over a connection of the machine to itself, and a session over a net: what it did there.
-- The program is this project's own.
use Rattle.std.specs.Prelude.{◌≡◌, ℕ, List, [], Bool, true, Option, None, Some, IfSome}
use Rattle.jt_base.specs.Faults.{Rises}
use Rattle.bench_links.specs.Looped.{looped}
use Rattle.chain_scan.specs.ChainPlan.{Plan as ChainPlan}
use Rattle.chip_core.specs.Feeds.{far_of, nothing_coming}
use Rattle.command_line.specs.declared.job.Way.{Way}
use Rattle.command_line.specs.declared.job.Way.TheVariants.{Straight, Looped, Chained}
use Rattle.debug_model.specs.declared.command.Command.{Command}
use Rattle.debug_model.specs.Chip.{Live}
use Rattle.debug_model.specs.Loaded.{AsLoaded}
use Rattle.debug_model.specs.Net.{coming_of}
use Rattle.jtag_net.specs.Wired.{summed}
use Rattle.jtag_run.specs.Opening.{Joined}
use Rattle.jtag_run.specs.Outside.{NetSeen}
use Rattle.jtag_run.specs.Sequel.{Sequel, UpTo, sequel_plan}
use Rattle.jtag_run.specs.Sequel.Sequel.{of_script}
use Rattle.probe_session.specs.Never.{EndsInTime}
use Rattle.probe_session.specs.declared.ended.Ended.{Ended as End}
use Rattle.probe_session.specs.declared.ended.Ended.TheVariants as ends
use Rattle.wire_session.specs.Seen.{SinkSeen, WireSeen}
use Rattle.wire_session.specs.WireSession.{WireSession, WireSessionBy, WireUpTo}

-- a bench whose chip is as it was loaded
pub record IsLoadedBench (bench : Option Live) : Type 0 where
  pub first : Live
  pub is : bench ≡ Some first
  pub as_loaded : AsLoaded first

-- ---- over the chip on a bench

-- a wire that ends at a bench, with these answers unread and so many faults counted
abbrev pub at_bench : Option Live → List ℕ → ℕ → WireSeen
at_bench bench unread faults = record { far = far_of bench unread; coming = nothing_coming; faults = faults }

-- over a wire that is the bench's own no register of the chip is refused, and none fails before the limit
abbrev pub IsBenchEnd : End → (limit : Bool) → Type 0
IsBenchEnd ends.Clean limit = Unit {0}
IsBenchEnd ends.WithErrors limit = Unit {0}
IsBenchEnd (ends.Target fault) limit = ⊥
IsBenchEnd (ends.Wire why) limit = limit ≡ true
IsBenchEnd (ends.Lost why) limit = Unit {0}
IsBenchEnd ends.Sink limit = Unit {0}

-- by the chip that the bench had first, what follows the opening, the sink before and behind the session, and the bench behind the end of the stream
pub record OnBenchBy (first : Live) (sequel : Sequel) (was is : SinkSeen) (bench : Option Live) (limit : Bool) (closed : End) : Type 0 where
  pub unread : List ℕ
  pub session : WireSessionBy (sequel_plan sequel) (at_bench (Some first) [] 0) (at_bench bench unread 0) was is closed
  pub possible : IsBenchEnd closed limit
  -- the command that was under way where it broke off
  pub up_to : UpTo sequel (at_bench (Some first) [] 0) (at_bench bench unread 0) was is closed
  -- where the chip's schedule is fair, nothing was lost
  pub in_time : EndsInTime (far_of (Some first) []) closed

-- of a session that runs a script
abbrev pub OnBench : Live → List Command → (was is : SinkSeen) → Option Live → (limit : Bool) → End → Type 0
OnBench first script was is bench limit closed = OnBenchBy first (of_script script) was is bench limit closed

-- the same over both ends of a net that was joined: its faults, its ends, and bytes that came out otherwise than they were put are faults of the wire.
-- Over a net that tells a pipe none come out so before it has counted a fault or an end
pub record OnLoop (first : Live) (script : List Command) (net_was net_is : NetSeen) (was is : SinkSeen) (bench : Option Live) (closed : End) : Type 0 where
  pub unread : List ℕ
  pub differences : ℕ
  pub session : WireSession script (at_bench (Some first) [] (looped 0 net_was.faults net_was.ends))
      (at_bench bench unread (looped differences net_is.faults net_is.ends)) was is closed
  pub ties : net_is.state.ties ≡ net_was.state.ties
  pub up_to : WireUpTo script (at_bench (Some first) [] (looped 0 net_was.faults net_was.ends))
      (at_bench bench unread (looped differences net_is.faults net_is.ends)) was is closed
  pub in_time : EndsInTime (far_of (Some first) []) closed
  pub alike : net_was.state.ties.tells_pipe ≡ true → (Rises net_was.faults net_is.faults → ⊥) → (Rises net_was.ends net_is.ends → ⊥) → differences ≡ 0

-- straight to the chip, or to a chain that it is in, and the net stays as it is; or over the net, which was joined for it.
-- Of the chip in a chain the same is said as of the chip alone
pub data Carried (way : Way) (first : Live) (script : List Command) (net_was net_is : NetSeen) (was is : SinkSeen) (bench : Option Live) (limit : Bool)
    (closed : End) : Type 0 where
  straight : way ≡ Straight → net_is ≡ net_was → OnBench first script was is bench limit closed
      → Carried way first script net_was net_is was is bench limit closed
  chained : (plan : ChainPlan) → way ≡ Chained plan → net_is ≡ net_was → OnBench first script was is bench limit closed
      → Carried way first script net_was net_is was is bench limit closed
  over_net : (mid : NetSeen) → way ≡ Looped → Joined net_was mid → OnLoop first script mid net_is was is bench closed
      → Carried way first script net_was net_is was is bench limit closed

-- ---- over a net

-- the near end of a net as a wire: its reads that ended at a byte that is no answer, and the net's faults and ends, are faults of the wire
abbrev pub wired : ℕ → NetSeen → WireSeen
wired bad net = record { far = net.state.chip; coming = coming_of net.state; faults = summed bad net.faults net.ends }

-- over a net that tells its chip no byte came that is no answer
pub record OnNetBy (sequel : Sequel) (net_was net_is : NetSeen) (was is : SinkSeen) (closed : End) : Type 0 where
  pub bad_answers : ℕ
  pub session : WireSessionBy (sequel_plan sequel) (wired 0 net_was) (wired bad_answers net_is) was is closed
  pub up_to : UpTo sequel (wired 0 net_was) (wired bad_answers net_is) was is closed
  pub in_time : EndsInTime net_was.state.chip closed
  pub ties : net_is.state.ties ≡ net_was.state.ties
  pub judged : IfSome net_is.state.chip (λ _. bad_answers ≡ 0)

abbrev pub OnNet : List Command → (net_was net_is : NetSeen) → (was is : SinkSeen) → End → Type 0
OnNet script net_was net_is was is closed = OnNetBy (of_script script) net_was net_is was is closed

-- the same of a net with a chain at its far side, of which nothing is told
abbrev pub chained_wire : ℕ → NetSeen → WireSeen
chained_wire bad net = record { far = None; coming = coming_of net.state; faults = summed bad net.faults net.ends }

pub record OnChainNet (script : List Command) (net_was net_is : NetSeen) (was is : SinkSeen) (closed : End) : Type 0 where
  pub bad_answers : ℕ
  pub session : WireSession script (chained_wire 0 net_was) (chained_wire bad_answers net_is) was is closed
  pub up_to : WireUpTo script (chained_wire 0 net_was) (chained_wire bad_answers net_is) was is closed
  pub ties : net_is.state.ties ≡ net_was.state.ties

-- by what is at the far side: a chip alone, or a chain with these devices beside it
abbrev pub OnNetAs : (chain : Option ChainPlan) → List Command → (net_was net_is : NetSeen) → (was is : SinkSeen) → End → Type 0
OnNetAs None script net_was net_is was is closed = OnNet script net_was net_is was is closed
OnNetAs (Some plan) script net_was net_is was is closed = OnChainNet script net_was net_is was is closed
