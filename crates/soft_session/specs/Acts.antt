-- What a session's answer to a command says where breakpoints may be set, over a told chip: the way along its lowered plan, and what was written.
-- It is this project's own.
use Rattle.std.specs.Prelude.{◌≡◌, ℕ, Bool, true, false, List, [], Option}
use Rattle.debug_model.specs.declared.command.Command.TheVariants as command
use Rattle.debug_model.specs.declared.soft_command.SoftCommand.{SoftCommand}
use Rattle.debug_model.specs.declared.soft_command.SoftCommand.TheVariants.{Plain}
use Rattle.abstract_debugger.specs.Lines.{Line, any_error, text_of_all}
use Rattle.abstract_debugger.specs.Plan.Plan.{stop}
use Rattle.abstract_debugger.specs.Plan.PlanEnd.{Done}
use Rattle.jt_base.specs.Sink.{grown}
use Rattle.probe_run.specs.Acts.{Tells}
use Rattle.probe_session.specs.declared.acted.Acted.{Acted}
use Rattle.probe_session.specs.declared.acted.Acted.TheVariants as acted
use Rattle.probe_session.specs.declared.ended.Ended.{Ended}
use Rattle.probe_session.specs.declared.ended.Ended.TheVariants as ended
use Rattle.probe_session.specs.declared.fault.Failure.{Failure}
use Rattle.probe_session.specs.declared.fault.Failure.TheVariants as failure
use Rattle.probe_session.specs.Led.{Leads}
use Rattle.probe_session.specs.Places.{idle}
use Rattle.soft_laws.specs.Lowered.{Table}
use Rattle.soft_laws.specs.SoftDebugger.{closing, soft_commands}
use Rattle.soft_session.specs.declared.session.SoftSession.{SoftSession}
use Rattle.soft_session.specs.Cuts.{CommandCut, ScriptCut}
use Rattle.soft_session.specs.Led.{CommandLed, Onto, at_plan, soft_state}
use Rattle.soft_session.specs.Tables.{Holds}

-- at `end` each breakpoint is taken out
pub record EndLed (c : SoftCommand) (from to : SoftSession) (old new : Tells) (was is : Option (List ℕ)) : Type 0 where
  pub ends : c ≡ Plain command.End
  pub written : is ≡ was
  pub led : (t : Table) → Holds from.table t → Onto to.table (λ u. Leads (at_plan (closing from.table.addresses (stop Done)) t) old [] (idle (stop Done)) new)

abbrev pub ActedLed : SoftCommand → (from to : SoftSession) → (old new : Tells) → (was is : Option (List ℕ)) → Acted → Type 0
ActedLed c from to old new was is acted.Done = CommandLed c from to false old new was is
ActedLed c from to old new was is acted.Error = CommandLed c from to true old new was is
ActedLed c from to old new was is acted.End = EndLed c from to old new was is
ActedLed c from to old new was is (acted.Wire why) = CommandCut c (soft_state from) from.table old new was is (failure.Wire why)
ActedLed c from to old new was is (acted.Lost why) = CommandCut c (soft_state from) from.table old new was is (failure.Lost why)
ActedLed c from to old new was is acted.Sink = CommandCut c (soft_state from) from.table old new was is failure.Sink

-- the commands, and the end of the session
pub record ScriptLed (script : List SoftCommand) (from : SoftSession) (wrong : Bool) (old new : Tells) (was is : Option (List ℕ)) : Type 0 where
  pub said : List Line
  pub put : is ≡ grown (text_of_all said) was
  pub wrong_is : any_error said ≡ wrong
  pub led : (t : Table) → Holds from.table t → Leads (at_plan (soft_commands script (soft_state from)) t) old said (idle (stop Done)) new

abbrev pub FollowedLed : List SoftCommand → SoftSession → (old new : Tells) → (was is : Option (List ℕ)) → Ended → Type 0
FollowedLed script from old new was is ended.Clean = ScriptLed script from false old new was is
FollowedLed script from old new was is ended.WithErrors = ScriptLed script from true old new was is
FollowedLed script from old new was is (ended.Target fault) = ⊥
FollowedLed script from old new was is (ended.Wire why) = ScriptCut script (soft_state from) from.table old new was is (failure.Wire why)
FollowedLed script from old new was is (ended.Lost why) = ScriptCut script (soft_state from) from.table old new was is (failure.Lost why)
FollowedLed script from old new was is ended.Sink = ScriptCut script (soft_state from) from.table old new was is failure.Sink

abbrev pub ended_failing : Failure → Ended
ended_failing (failure.Wire why) = ended.Wire why
ended_failing (failure.Lost why) = ended.Lost why
ended_failing failure.Sink = ended.Sink
