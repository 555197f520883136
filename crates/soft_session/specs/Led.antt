-- How far a session with software breakpoints has come over a told chip: along its plan, lowered by a table that remembers what the probe does.
-- It is this project's own.
use Rattle.std.specs.Prelude.{◌≡◌, ℕ, Bool, true, false, List, [], Option}
use Rattle.debug_model.specs.declared.soft_command.SoftCommand.{SoftCommand}
use Rattle.abstract_debugger.specs.Lines.{Line, any_error, text_of_all}
use Rattle.abstract_debugger.specs.Plan.{Plan}
use Rattle.abstract_debugger.specs.Plan.Plan.{say}
use Rattle.jt_base.specs.Sink.{grown}
use Rattle.printed_lines.specs.declared.line.Line.{Line as PrintedLine}
use Rattle.probe_run.specs.Acts.{Tells}
use Rattle.probe_session.specs.declared.acted.Acted.{Acted}
use Rattle.probe_session.specs.declared.acted.Acted.TheVariants as acted
use Rattle.probe_session.specs.declared.fault.Failure.{Failure}
use Rattle.probe_session.specs.declared.fault.Failure.TheVariants as failure
use Rattle.probe_session.specs.Commands.{state_of}
use Rattle.probe_session.specs.Led.{Leads}
use Rattle.probe_session.specs.Places.{Place, idle}
use Rattle.probe_session.specs.Said.{said_by}
use Rattle.soft_laws.specs.Lowered.{Table, lower}
use Rattle.soft_laws.specs.SoftDebugger.{SoftState, soft_act}
use Rattle.soft_break.specs.Patches.{Patches}
use Rattle.soft_session.specs.declared.session.SoftSession.{SoftSession}
use Rattle.soft_session.specs.Tables.{Holds}

abbrev pub soft_state : SoftSession → SoftState
soft_state s = record { plain = state_of s.session; planted = s.table.addresses }

-- to a place that some table behind it tells, which remembers what the probe does then
pub record Onto (p : Patches) (P : Table → Type 0) : Type 0 where
  pub table : Table
  pub holds : Holds p table
  pub leads : P table

-- a plan to go on with by such a table
abbrev pub at_plan : Plan → Table → Place
at_plan p t = idle (lower p t)

-- a command up to its one line
abbrev pub LineLed : SoftCommand → (from to : SoftSession) → (old new : Tells) → PrintedLine → Type 0
LineLed c from to old new line = (next : SoftState → Plan) (t : Table) → Holds from.table t
    → Onto to.table (λ u. Leads (at_plan (soft_act c (soft_state from) next) t) old [] (at_plan (say (said_by line) (next (soft_state to))) u) new)

-- a whole command, which has said some lines
pub record CommandLed (c : SoftCommand) (from to : SoftSession) (wrong : Bool) (old new : Tells) (was is : Option (List ℕ)) : Type 0 where
  pub said : List Line
  pub put : is ≡ grown (text_of_all said) was
  pub wrong_is : any_error said ≡ wrong
  pub led : (next : SoftState → Plan) (t : Table) → Holds from.table t
      → Onto to.table (λ u. Leads (at_plan (soft_act c (soft_state from) next) t) old said (at_plan (next (soft_state to)) u) new)

-- behind its lines, by whether one of them says an error
abbrev pub acted_by : Bool → Acted
acted_by true = acted.Error
acted_by false = acted.Done

abbrev pub acted_failing : Failure → Acted
acted_failing (failure.Wire why) = acted.Wire why
acted_failing (failure.Lost why) = acted.Lost why
acted_failing failure.Sink = acted.Sink
