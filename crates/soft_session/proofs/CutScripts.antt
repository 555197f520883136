-- A script with software breakpoints that was cut in one of its commands, or at its end.
use Rattle.std.proofs.Common.{◌≡◌, ℕ, Bool, List, [], ◌∷◌, Option, sym, subst}
use Rattle.debug_model.specs.declared.soft_command.SoftCommand.{SoftCommand}
use Rattle.abstract_debugger.specs.Plan.Plan.{stop}
use Rattle.abstract_debugger.specs.Plan.PlanEnd.{Done}
use Rattle.probe_run.specs.Acts.{Tells}
use Rattle.probe_session.specs.declared.ended.Ended.{Ended}
use Rattle.probe_session.specs.declared.fault.Failure.{Failure}
use Rattle.probe_session.specs.declared.fault.Failure.TheVariants as failure
use Rattle.probe_session.proofs.Spoken.{grown_none}
use Rattle.soft_laws.specs.SoftDebugger.{soft_commands}
use Rattle.soft_session.specs.declared.session.SoftSession.{SoftSession}
use Rattle.soft_session.specs.Acts.{FollowedLed, ended_failing}
use Rattle.soft_session.specs.Cuts.{CommandCut, CutShort, CutsOf, ScriptCut, at_closing}
use Rattle.soft_session.specs.Led.{soft_state}
use Rattle.soft_session.proofs.CommandSteps.{SoFar}
use Rattle.soft_session.proofs.CutCommands.{behind_others}
use Rattle.soft_session.proofs.CutSteps.{no_line_said}
use Rattle.soft_session.proofs.QuietSteps.{commands_quiet}

pub followed_cut : (script : List SoftCommand) (from : SoftSession) (f : Failure) (e : Ended) (old new : Tells) (was is : Option (List ℕ)) → e ≡ ended_failing f
    → ScriptCut script (soft_state from) from.table old new was is f → FollowedLed script from old new was is e
followed_cut script from f e old new was is e_is cut = subst (FollowedLed script from old new was is) (sym e_is) (by f cut)
  where
    by : (g : Failure) → ScriptCut script (soft_state from) from.table old new was is g
        → FollowedLed script from old new was is (ended_failing g)
    by (failure.Wire why) l = l
    by (failure.Lost why) l = l
    by failure.Sink l = l

-- in one of its commands
pub cut_one : (script : List SoftCommand) (from : SoftSession) (c : SoftCommand) (rest after : List SoftCommand) (mid : SoftSession) (wrong : Bool)
    (f : Failure) (old between new : Tells) (was put is : Option (List ℕ)) → rest ≡ c ∷ after → SoFar script from rest mid wrong old between was put
    → CommandCut c (soft_state mid) mid.table between new put is f
    → ScriptCut script (soft_state from) from.table old new was is f
cut_one script from c rest after mid wrong f old between new was put is front so cut =
    behind_others script from (c ∷ after) mid wrong old between new was put is f (subst (λ r. SoFar script from r mid wrong old between was put) front so)
    (cut (soft_commands after) (commands_quiet after))

-- as its breakpoints were taken out
pub cut_closing : (script : List SoftCommand) (from : SoftSession) (rest : List SoftCommand) (mid : SoftSession) (wrong : Bool) (f : Failure)
    (old between new : Tells) (was is : Option (List ℕ)) → rest ≡ [] → SoFar script from rest mid wrong old between was is
    → CutsOf mid.table (at_closing mid.table.addresses) between new f
    → ScriptCut script (soft_state from) from.table old new was is f
cut_closing script from rest mid wrong f old between new was is none so cuts =
    behind_others script from [] mid wrong old between new was is is f (subst (λ r. SoFar script from r mid wrong old between was is) none so) (CutShort.in_call [] (grown_none is)
    (λ t holds. no_line_said (at_closing mid.table.addresses (stop Done) t) between new f (cuts (stop Done) t holds)))
