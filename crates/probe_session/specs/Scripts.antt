-- How a whole session went: the opening, then what is behind it along the abstract debugger's plan, and where it broke off. Of a session that runs a script
-- that is its commands.
-- It is this project's own.
use Rattle.std.specs.Prelude.{◌≡◌, ◌≤◌, ℕ, Bool, true, false, List, Option, None}
use Rattle.debug_model.specs.declared.command.Command.{Command}
use Rattle.debug_model.specs.declared.dmi.DmiFault.{DmiFault}
use Rattle.debug_model.specs.declared.dmi.DmiFault.TheVariants as dmi_fault
use Rattle.debug_model.specs.Dmi.{CanQuit}
use Rattle.debug_model.specs.Kept.{DmiSeen, Stands}
use Rattle.abstract_debugger.specs.Debugger.{State, commands, first_state}
use Rattle.abstract_debugger.specs.Plan.{Plan}
use Rattle.abstract_debugger.specs.Plan.Plan.{stop}
use Rattle.abstract_debugger.specs.Plan.PlanEnd.{Done}
use Rattle.probe_run.specs.declared.fault.ConnectFault.{ConnectFault}
use Rattle.probe_run.specs.declared.fault.ConnectFault.TheVariants as connect
use Rattle.probe_run.specs.Acts.{Tells}
use Rattle.probe_run.specs.Opening.{ConnectFails, LosesLoaded, Opened, OpensLoaded, opening_why}
use Rattle.probe_session.specs.declared.ended.Ended.{Ended}
use Rattle.probe_session.specs.declared.ended.Ended.TheVariants as ended
use Rattle.probe_session.specs.declared.fault.Failure.{Failure}
use Rattle.probe_session.specs.declared.fault.Failure.TheVariants as failure
use Rattle.probe_session.specs.declared.fault.LostCause.TheVariants as lost
use Rattle.probe_session.specs.Failures.{failure_of_dmi}
use Rattle.probe_session.specs.Goes.{Anyhow, Fell, Spoke}
use Rattle.probe_session.specs.Links.{Attached}
use Rattle.probe_session.specs.Places.{Place, idle}

-- ---- the plan behind the opening

abbrev pub at_plan : Plan → Unit {0} → Place
at_plan p _ = idle p

abbrev pub at_commands : List Command → State → Unit {0} → Place
at_commands script s = at_plan (commands script s)

abbrev pub at_stop : Unit {0} → Place
at_stop = at_plan (stop Done)

-- ---- how it ended

-- the chip was opened, and the plan followed to its end
pub record Ran (p : Plan) (wrong : Bool) (old new : Tells) (was is : Option (List ℕ)) : Type 0 where
  pub mid : Tells
  pub opened : Opened old mid
  pub told : OpensLoaded old.far mid.far
  pub spoke : Spoke (at_plan p) at_stop wrong mid new was is

-- the chip was opened, and the plan followed until it broke off
pub record RanInto (p : Plan) (old_count new_count : ℕ) (old new : Tells) (sink_old sink_new : ℕ) (was is : Option (List ℕ))
    (f : Failure) : Type 0 where
  pub mid : Tells
  pub count : ℕ
  pub opened : Opened old mid
  pub told : OpensLoaded old.far mid.far
  pub later : old_count ≤ count
  pub fell : Fell Anyhow (at_plan p) count new_count mid new sink_old sink_new was is f

-- the chip was not opened, and nothing was written
pub record Unopened (old_count new_count : ℕ) (old new : Tells) (was is : Option (List ℕ)) (fault : ConnectFault) : Type 0 where
  pub fails : ConnectFails old_count new_count old new fault
  pub told : LosesLoaded old.far new.far fault
  pub written : is ≡ was

pub data BrokeOff (p : Plan) (old_count new_count : ℕ) (old new : Tells) (sink_old sink_new : ℕ) (was is : Option (List ℕ))
    (f : Failure) : Type 0 where
  in_opening : (why : DmiFault) → Unopened old_count new_count old new was is (connect.Dmi why) → f ≡ failure_of_dmi why
      → BrokeOff p old_count new_count old new sink_old sink_new was is f
  in_plan : RanInto p old_count new_count old new sink_old sink_new was is f → BrokeOff p old_count new_count old new sink_old sink_new was is f

-- a register of the chip is not as the opening asks
pub record Unfit (old_count new_count : ℕ) (old new : Tells) (was is : Option (List ℕ)) (fault : ConnectFault) : Type 0 where
  pub unopened : Unopened old_count new_count old new was is fault
  pub register : opening_why fault ≡ None

abbrev pub EndedBy : Plan → (old_count new_count : ℕ) → (old new : Tells) → (sink_old sink_new : ℕ) → (was is : Option (List ℕ)) → Ended → Type 0
EndedBy p old_count new_count old new sink_old sink_new was is ended.Clean = Ran p false old new was is
EndedBy p old_count new_count old new sink_old sink_new was is ended.WithErrors = Ran p true old new was is
EndedBy p old_count new_count old new sink_old sink_new was is (ended.Target fault) = Unfit old_count new_count old new was is fault
EndedBy p old_count new_count old new sink_old sink_new was is (ended.Wire why) =
    BrokeOff p old_count new_count old new sink_old sink_new was is (failure.Wire why)
EndedBy p old_count new_count old new sink_old sink_new was is (ended.Lost why) =
    BrokeOff p old_count new_count old new sink_old sink_new was is (failure.Lost why)
EndedBy p old_count new_count old new sink_old sink_new was is ended.Sink =
    RanInto p old_count new_count old new sink_old sink_new was is failure.Sink

-- of a session that runs a script
abbrev pub EndedAs : List Command → (old_count new_count : ℕ) → (old new : Tells) → (sink_old sink_new : ℕ) → (was is : Option (List ℕ)) → Ended → Type 0
EndedAs script old_count new_count old new sink_old sink_new was is e =
    EndedBy (commands script first_state) old_count new_count old new sink_old sink_new was is e

-- a fault of the wire is one that the wire gives; behind any other end the stream can be ended
abbrev pub LeavesLink : Ended → DmiSeen → Type 0
LeavesLink ended.Clean s = Attached s
LeavesLink ended.WithErrors s = Attached s
LeavesLink (ended.Target fault) s = Stands s
LeavesLink (ended.Wire why) s = s.fixed.gives why ≡ true
LeavesLink (ended.Lost why) s = CanQuit s.far
LeavesLink ended.Sink s = CanQuit s.far

-- ---- what is behind the opening alone

abbrev pub FollowedBy : Plan → (old_count new_count : ℕ) → (old new : Tells) → (sink_old sink_new : ℕ) → (was is : Option (List ℕ)) → Ended → Type 0
FollowedBy p old_count new_count old new sink_old sink_new was is ended.Clean = Spoke (at_plan p) at_stop false old new was is
FollowedBy p old_count new_count old new sink_old sink_new was is ended.WithErrors = Spoke (at_plan p) at_stop true old new was is
FollowedBy p old_count new_count old new sink_old sink_new was is (ended.Target fault) = ⊥
FollowedBy p old_count new_count old new sink_old sink_new was is (ended.Wire why) =
    Fell Anyhow (at_plan p) old_count new_count old new sink_old sink_new was is (failure.Wire why)
FollowedBy p old_count new_count old new sink_old sink_new was is (ended.Lost why) =
    Fell Anyhow (at_plan p) old_count new_count old new sink_old sink_new was is (failure.Lost why)
FollowedBy p old_count new_count old new sink_old sink_new was is ended.Sink =
    Fell Anyhow (at_plan p) old_count new_count old new sink_old sink_new was is failure.Sink

-- the commands of a script
abbrev pub FollowedAs : List Command → State → (old_count new_count : ℕ) → (old new : Tells) → (sink_old sink_new : ℕ)
    → (was is : Option (List ℕ)) → Ended → Type 0
FollowedAs script s old_count new_count old new sink_old sink_new was is e = FollowedBy (commands script s) old_count new_count old new sink_old sink_new was is e

-- whose chip was not opened
abbrev pub ended_unopened : ConnectFault → Ended
ended_unopened (connect.Dmi (dmi_fault.Wire why)) = ended.Wire why
ended_unopened (connect.Dmi dmi_fault.Failed) = ended.Lost lost.DmiFailed
ended_unopened (connect.Dmi dmi_fault.StillBusy) = ended.Lost lost.StillBusy
ended_unopened (connect.Dtm word) = ended.Target (connect.Dtm word)
ended_unopened (connect.Module word control) = ended.Target (connect.Module word control)
ended_unopened (connect.Abstract word) = ended.Target (connect.Abstract word)
ended_unopened (connect.Bus word) = ended.Target (connect.Bus word)

-- at the end, by whether some line says an error
abbrev pub graded : Bool → Ended
graded true = ended.WithErrors
graded false = ended.Clean
