-- The command under way where a session of a script broke off: those in front of it were done, and all their lines are written.
-- It is this project's own (docs/HEADLINE.md).
use Rattle.std.specs.Prelude.{◌≡◌, ◌≢◌, ◌≤◌, ◌++◌, ℕ, Bool, List, [], ◌∷◌, Option, IfSome}
use Rattle.jt_base.specs.Sink.{grown}
use Rattle.debug_model.specs.declared.command.Command.{Command}
use Rattle.debug_model.specs.declared.dmi.DmiFault.{DmiFault}
use Rattle.debug_model.specs.Told.{Far}
use Rattle.abstract_debugger.specs.Debugger.{State, first_state}
use Rattle.abstract_debugger.specs.Lines.{text_of_all}
use Rattle.abstract_debugger.specs.Transcript.End.{Open}
use Rattle.probe_run.specs.declared.fault.ConnectFault.TheVariants as connect
use Rattle.probe_run.specs.Acts.{Tells}
use Rattle.probe_run.specs.Opening.{Opened, OpensLoaded}
use Rattle.probe_session.specs.declared.ended.Ended.{Ended}
use Rattle.probe_session.specs.declared.ended.Ended.TheVariants as ended
use Rattle.probe_session.specs.declared.fault.Failure.{Failure}
use Rattle.probe_session.specs.declared.fault.Failure.TheVariants as failure
use Rattle.probe_session.specs.Commands.{before, behind}
use Rattle.probe_session.specs.Failures.{failure_of_dmi}
use Rattle.probe_session.specs.Goes.{CalmNext, Fell, Spoke}
use Rattle.probe_session.specs.Scripts.{Unopened}
use Rattle.probe_session.specs.Transcribed.{Still, WrittenAs, shown}

-- these commands were done, one behind another, and the lines of each were written
pub data EachDone : List Command → (s t : State) → (old new : Tells) → (was is : Option (List ℕ)) → Type 0 where
  none : {s : State} {t : Tells} {was : Option (List ℕ)} → EachDone [] s s t t was was
  one : {c : Command} {cs : List Command} {s t u : State} {wrong : Bool} {old mid new : Tells} {was between is : Option (List ℕ)}
      → Spoke (before c s) (behind t) wrong old mid was between → EachDone cs t u mid new between is → EachDone (c ∷ cs) s u old new was is

-- the script is the commands in front, which were done, this one, in which a call or a line failed, whatever follows it, and the rest
pub record UnderWay (script : List Command) (s : State) (old_count new_count : ℕ) (old new : Tells) (sink_old sink_new : ℕ) (was is : Option (List ℕ))
    (f : Failure) : Type 0 where
  pub front : List Command
  pub command : Command
  pub rest : List Command
  pub parts : script ≡ front ++ command ∷ rest
  pub state : State
  pub mid : Tells
  pub written : Option (List ℕ)
  pub done : EachDone front s state old mid was written
  pub count : ℕ
  pub later : old_count ≤ count
  pub sink_mid : ℕ
  pub sink_later : sink_old ≤ sink_mid
  pub sink_more : sink_mid ≤ sink_new
  pub fell : Fell CalmNext (before command state) count new_count mid new sink_mid sink_new written is f

-- of commands behind the opening, by how they ended
abbrev pub FollowedUpTo : List Command → State → (old_count new_count : ℕ) → (old new : Tells) → (sink_old sink_new : ℕ)
    → (was is : Option (List ℕ)) → Ended → Type 0
FollowedUpTo script s old_count new_count old new sink_old sink_new was is ended.Clean = Unit {0}
FollowedUpTo script s old_count new_count old new sink_old sink_new was is ended.WithErrors = Unit {0}
FollowedUpTo script s old_count new_count old new sink_old sink_new was is (ended.Target fault) = Unit {0}
FollowedUpTo script s old_count new_count old new sink_old sink_new was is (ended.Wire why) =
    UnderWay script s old_count new_count old new sink_old sink_new was is (failure.Wire why)
FollowedUpTo script s old_count new_count old new sink_old sink_new was is (ended.Lost why) =
    UnderWay script s old_count new_count old new sink_old sink_new was is (failure.Lost why)
FollowedUpTo script s old_count new_count old new sink_old sink_new was is ended.Sink =
    UnderWay script s old_count new_count old new sink_old sink_new was is failure.Sink

-- ---- of a whole session

-- the chip was opened, and then a command was under way
pub record RanUpTo (script : List Command) (old_count new_count : ℕ) (old new : Tells) (sink_old sink_new : ℕ) (was is : Option (List ℕ))
    (f : Failure) : Type 0 where
  pub mid : Tells
  pub count : ℕ
  pub opened : Opened old mid
  pub told : OpensLoaded old.far mid.far
  pub later : old_count ≤ count
  pub under_way : UnderWay script first_state count new_count mid new sink_old sink_new was is f

pub data BrokeOffIn (script : List Command) (old_count new_count : ℕ) (old new : Tells) (sink_old sink_new : ℕ) (was is : Option (List ℕ))
    (f : Failure) : Type 0 where
  in_opening : (why : DmiFault) → Unopened old_count new_count old new was is (connect.Dmi why) → f ≡ failure_of_dmi why
      → BrokeOffIn script old_count new_count old new sink_old sink_new was is f
  in_command : RanUpTo script old_count new_count old new sink_old sink_new was is f
      → BrokeOffIn script old_count new_count old new sink_old sink_new was is f

abbrev pub StoppedUpTo : List Command → (old_count new_count : ℕ) → (old new : Tells) → (sink_old sink_new : ℕ) → (was is : Option (List ℕ)) → Ended → Type 0
StoppedUpTo script old_count new_count old new sink_old sink_new was is ended.Clean = Unit {0}
StoppedUpTo script old_count new_count old new sink_old sink_new was is ended.WithErrors = Unit {0}
StoppedUpTo script old_count new_count old new sink_old sink_new was is (ended.Target fault) = Unit {0}
StoppedUpTo script old_count new_count old new sink_old sink_new was is (ended.Wire why) =
    BrokeOffIn script old_count new_count old new sink_old sink_new was is (failure.Wire why)
StoppedUpTo script old_count new_count old new sink_old sink_new was is (ended.Lost why) =
    BrokeOffIn script old_count new_count old new sink_old sink_new was is (failure.Lost why)
StoppedUpTo script old_count new_count old new sink_old sink_new was is ended.Sink =
    RanUpTo script old_count new_count old new sink_old sink_new was is failure.Sink

-- ---- the same in words of the transcript, over a chip as it was loaded

-- the chip's journal goes through all of these commands, and all lines of their transcript along it are written, with maybe more behind them
pub record HoldsLines (front : List Command) (was is : Option (List ℕ)) (first last : Far) : Type 0 where
  pub gone_through : (shown front first last).end ≢ Open
  pub more : List ℕ
  pub written : is ≡ grown (text_of_all (shown front first last).world.lines ++ more) was

-- What is written and left is that of a session which ended so with the command under way as its last, and holds all lines of the commands in front of it.
-- In the opening it is that of a session without a command.
pub data WrittenUpTo (script : List Command) (was is : Option (List ℕ)) (first last : Far) (e : Ended) : Type 0 where
  in_opening : WrittenAs [] was is first last e → WrittenUpTo script was is first last e
  in_command : (front : List Command) (c : Command) (rest : List Command) → script ≡ front ++ c ∷ rest → HoldsLines front was is first last
      → WrittenAs (front ++ c ∷ []) was is first last e → WrittenUpTo script was is first last e

abbrev pub LeftUpTo : List Command → (was is : Option (List ℕ)) → (old new : Option Far) → Ended → Type 0
LeftUpTo script was is old new e = IfSome old (λ first. Still (λ last. WrittenUpTo script was is first last e) new)

abbrev pub TranscribedUpTo : List Command → (was is : Option (List ℕ)) → (old new : Option Far) → Ended → Type 0
TranscribedUpTo script was is old new ended.Clean = Unit {0}
TranscribedUpTo script was is old new ended.WithErrors = Unit {0}
TranscribedUpTo script was is old new (ended.Target fault) = Unit {0}
TranscribedUpTo script was is old new (ended.Wire why) = LeftUpTo script was is old new (ended.Wire why)
TranscribedUpTo script was is old new (ended.Lost why) = LeftUpTo script was is old new (ended.Lost why)
TranscribedUpTo script was is old new ended.Sink = LeftUpTo script was is old new ended.Sink

-- ---- of both

pub record EndedUpTo (script : List Command) (old_count new_count : ℕ) (old new : Tells) (sink_old sink_new : ℕ) (was is : Option (List ℕ)) (e : Ended) : Type 0 where
  -- over any chip
  pub stopped : StoppedUpTo script old_count new_count old new sink_old sink_new was is e
  -- over one that is told
  pub transcribed : TranscribedUpTo script was is old.far new.far e
