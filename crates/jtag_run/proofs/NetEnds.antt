-- What a session over the near end of a net did there, over plain variables.
use Rattle.std.proofs.Common.{◌≡◌, ℕ, List, Option, Some, None, IfSome, subst}
use Rattle.debug_model.specs.Told.{Far}
use Rattle.debug_model.specs.declared.command.Command.{Command}
use Rattle.jtag_net.specs.Wired.{Sound, SoundFar}
use Rattle.jtag_run.specs.Outside.{NetSeen}
use Rattle.jtag_run.specs.Sessions.{OnNet, wired}
use Rattle.probe_session.specs.Never.{EndsInTime}
use Rattle.probe_session.specs.declared.ended.Ended.{Ended as End}
use Rattle.wire_session.specs.Seen.{SinkSeen, WireSeen}
use Rattle.wire_session.specs.WireSession.{WireSession, WireUpTo}

none_bad : (bad : ℕ) (told : Option Far) → SoundFar bad told → IfSome told (λ _. bad ≡ 0)
none_bad bad None sound = tt
none_bad bad (Some f) sound = sound.1

-- the wire at its start is the net before it, with no bad answer
from_start : {A : Type 0} (P : WireSeen → Type 0) (seen : A → NetSeen) (old mid : A) (none : ℕ) → mid ≡ old → none ≡ 0 → P (wired none (seen mid))
    → P (wired 0 (seen old))
from_start P seen old mid none same zero holds = subst (λ m. P (wired 0 (seen m))) same (subst (λ n. P (wired n (seen mid))) zero holds)

-- by what is seen of a net: before the wire over it, at the wire's start, and behind the session
pub on_net : {A : Type 0} (seen : A → NetSeen) (old mid new : A) (script : List Command) (none bad : ℕ) (was is : SinkSeen) (closed : End)
    → mid ≡ old → none ≡ 0 → WireSession script (wired none (seen mid)) (wired bad (seen new)) was is closed
    → WireUpTo script (wired none (seen mid)) (wired bad (seen new)) was is closed
    → EndsInTime (seen mid).state.chip closed
    → (seen new).state.ties ≡ (seen mid).state.ties → Sound (seen new).state bad → OnNet script (seen old) (seen new) was is closed
on_net seen old mid new script none bad was is closed same zero went up_to in_time ties sound = record {
  bad_answers = bad;
  session = from_start (λ wire. WireSession script wire (wired bad (seen new)) was is closed) seen old mid none same zero went;
  up_to = from_start (λ wire. WireUpTo script wire (wired bad (seen new)) was is closed) seen old mid none same zero up_to;
  in_time = subst (λ m. EndsInTime (seen m).state.chip closed) same in_time;
  ties = subst (λ m. (seen new).state.ties ≡ (seen m).state.ties) same ties;
  judged = none_bad bad (seen new).state.chip sound;
}
