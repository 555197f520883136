-- What a command's Look of its hart answers: the hart, which is halted, or the line that says why there is none to work on.
-- It is this project's own.
use Rattle.std.specs.Prelude.{◌≡◌, ℕ, true, false, []}
use Rattle.debug_model.specs.Kept.{DmiSeen}
use Rattle.abstract_debugger.specs.Debugger.{at_halted}
use Rattle.abstract_debugger.specs.Lines.{is_error}
use Rattle.abstract_debugger.specs.Plan.{Plan}
use Rattle.printed_lines.specs.Line.{line_of}
use Rattle.probe_run.specs.Acts.{Tells}
use Rattle.probe_session.specs.declared.met.Met.{Met}
use Rattle.probe_session.specs.declared.met.Met.TheVariants as met
use Rattle.probe_session.specs.Goes.{Went}
use Rattle.probe_session.specs.Known.{says_step}
use Rattle.probe_session.specs.Links.{Attached, AttachedHalted}
use Rattle.probe_session.specs.Places.{Place, at_say, idle, still}
use Rattle.probe_session.specs.Said.{said_by}

-- what follows in the plan: the command that a halted hart does, and what is behind the command
pub record Rest : Type 0 where
  pub body : Plan
  pub next : Plan

abbrev pub before_look : ℕ → Rest → Place
before_look h r = idle (at_halted h r.next r.body)

abbrev pub MetAs : (h : ℕ) → (old new : Tells) → Met → Type 0
MetAs h old new (met.At x) = (x.number ≡ h) × Went (before_look h) (λ r. still h r.body) [] old new
MetAs h old new (met.Says line) = Went (before_look h) (λ r. at_say (said_by line) r.next) [] old new

abbrev pub AttachedMet : Met → DmiSeen → Type 0
AttachedMet (met.At x) s = AttachedHalted x.number s
AttachedMet (met.Says line) s = Attached s

-- the line says nothing of a step
abbrev pub SaysNoStep : Met → Type 0
SaysNoStep (met.At x) = Unit {0}
SaysNoStep (met.Says line) = says_step line ≡ false

-- and is that of an error
abbrev pub SaysError : Met → Type 0
SaysError (met.At x) = Unit {0}
SaysError (met.Says line) = is_error (line_of line) ≡ true
