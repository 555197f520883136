-- How a session goes over a wire through both ends of a joined net to a bench.
use Rattle.std.proofs.Common.{◌≡◌, ◌∙◌, ℕ, Bool, true, List, [], Option, Some, None, IfSome, ap, subst}
use Rattle.std.proofs.lemmas.Option.{same_Some}
use Rattle.bench_links.specs.Looped.{IsBlamed, looped}
use Rattle.chip_core.specs.Feeds.{far_of}
use Rattle.debug_model.specs.declared.command.Command.{Command}
use Rattle.debug_model.specs.Chip.{Live}
use Rattle.debug_model.specs.Ties.{Began}
use Rattle.jt_base.specs.Faults.{Rises}
use Rattle.jtag_run.specs.Outside.{NetSeen}
use Rattle.jtag_run.specs.Sessions.{OnLoop, at_bench}
use Rattle.probe_session.specs.Never.{EndsInTime}
use Rattle.probe_session.specs.declared.ended.Ended.{Ended as End}
use Rattle.wire_session.specs.Seen.{SinkSeen}
use Rattle.wire_session.specs.WireSession.{WireSession, WireUpTo}

-- a wire keeps what its net had counted when it was made
began_faults : (a b : Began) → Some a ≡ Some b → a.faults ≡ b.faults
began_faults a b is = ap (λ (x : Began). x.faults) (same_Some a b is)

began_ends : (a b : Began) → Some a ≡ Some b → a.ends ≡ b.ends
began_ends a b is = ap (λ (x : Began). x.ends) (same_Some a b is)

-- so over a told pipe no bytes differed unless the net has counted something since then
pub still_alike : (was is : Bool) (sound limit : Bool) (differences faults faults_is ends ends_is : ℕ) (now then : Began) → is ≡ was → Some now ≡ Some then
    → then.faults ≡ faults → then.ends ≡ ends → IsBlamed is sound limit differences now.faults faults_is now.ends ends_is
    → was ≡ true → (Rises faults faults_is → ⊥) → (Rises ends ends_is → ⊥) → differences ≡ 0
still_alike was is sound limit differences faults faults_is ends ends_is now then same kept of_faults of_ends blamed tells quiet whole =
    (blamed (same ∙ tells) (λ r. quiet (subst (λ n. Rises n faults_is) (began_faults now then kept ∙ of_faults) r))
    (λ r. whole (subst (λ n. Rises n ends_is) (began_ends now then kept ∙ of_ends) r))).0

pub on_loop : (old bench : Option Live) (unread : List ℕ) (differences : ℕ) (script : List Command) (net_was net_is : NetSeen) (was is : SinkSeen)
    (closed : End)
    → WireSession script (at_bench old [] (looped 0 net_was.faults net_was.ends)) (at_bench bench unread (looped differences net_is.faults net_is.ends)) was is
    closed
    → WireUpTo script (at_bench old [] (looped 0 net_was.faults net_was.ends)) (at_bench bench unread (looped differences net_is.faults net_is.ends)) was is
    closed
    → EndsInTime (far_of old []) closed → net_is.state.ties ≡ net_was.state.ties
    → (net_was.state.ties.tells_pipe ≡ true → (Rises net_was.faults net_is.faults → ⊥) → (Rises net_was.ends net_is.ends → ⊥) → differences ≡ 0)
    → IfSome old (λ first. OnLoop first script net_was net_is was is bench closed)
on_loop None bench unread differences script net_was net_is was is closed session up_to in_time ties alike = tt
on_loop (Some first) bench unread differences script net_was net_is was is closed session up_to in_time ties alike =
    record { unread = unread; differences = differences; session = session; up_to = up_to; in_time = in_time; ties = ties; alike = alike }
