-- What a session's answer to a command says: the way that it went along the abstract debugger's plan, and what it has written.
-- It is this project's own.
use Rattle.std.specs.Prelude.{◌≡◌, ℕ, true, false, List, Option}
use Rattle.debug_model.specs.Dmi.{CanQuit}
use Rattle.debug_model.specs.Kept.{DmiSeen}
use Rattle.debug_model.specs.declared.command.Command.{Command}
use Rattle.debug_model.specs.declared.command.Command.TheVariants as command
use Rattle.abstract_debugger.specs.Debugger.{State}
use Rattle.probe_run.specs.Acts.{Tells}
use Rattle.probe_session.specs.declared.acted.Acted.{Acted}
use Rattle.probe_session.specs.declared.acted.Acted.TheVariants as acted
use Rattle.probe_session.specs.declared.fault.Failure.TheVariants as failure
use Rattle.probe_session.specs.Commands.{before, behind}
use Rattle.probe_session.specs.Goes.{CalmNext, Fell, Spoke}
use Rattle.probe_session.specs.Links.{Attached}

-- nothing was done
pub record Untouched (s t : State) (old new : Tells) (was is : Option (List ℕ)) : Type 0 where
  pub state : t ≡ s
  pub link : new ≡ old
  pub written : is ≡ was

abbrev pub ActedAs : Command → (s t : State) → (old_count new_count : ℕ) → (old new : Tells) → (sink_old sink_new : ℕ)
    → (was is : Option (List ℕ)) → Acted → Type 0
ActedAs c s t old_count new_count old new sink_old sink_new was is acted.Done = Spoke (before c s) (behind t) false old new was is
ActedAs c s t old_count new_count old new sink_old sink_new was is acted.Error = Spoke (before c s) (behind t) true old new was is
ActedAs c s t old_count new_count old new sink_old sink_new was is acted.End = (c ≡ command.End) × Untouched s t old new was is
ActedAs c s t old_count new_count old new sink_old sink_new was is (acted.Wire why) =
    Fell CalmNext (before c s) old_count new_count old new sink_old sink_new was is (failure.Wire why)
ActedAs c s t old_count new_count old new sink_old sink_new was is (acted.Lost why) =
    Fell CalmNext (before c s) old_count new_count old new sink_old sink_new was is (failure.Lost why)
ActedAs c s t old_count new_count old new sink_old sink_new was is acted.Sink =
    Fell CalmNext (before c s) old_count new_count old new sink_old sink_new was is failure.Sink

-- the session goes on; or the stream can be ended, but behind a fault of the wire
abbrev pub AttachedAfter : Acted → DmiSeen → Type 0
AttachedAfter acted.Done s = Attached s
AttachedAfter acted.Error s = Attached s
AttachedAfter acted.End s = Attached s
AttachedAfter (acted.Wire why) s = s.fixed.gives why ≡ true
AttachedAfter (acted.Lost why) s = CanQuit s.far
AttachedAfter acted.Sink s = CanQuit s.far
