-- What a session leaves of a told chip where the first Look of a command failed: nothing is lost but the register that the command writes.
-- It is this project's own (docs/HEADLINE.md).
use Rattle.std.specs.Prelude.{◌≡◌, ℕ, Bool, zero, suc, List, Option, Some, None}
use Rattle.rv_model.specs.Board.{Machine}
use Rattle.debug_model.specs.declared.command.Command.{Command}
use Rattle.debug_model.specs.declared.command.Command.TheVariants as command
use Rattle.debug_model.specs.declared.command.Path.TheVariants.{Progbuf}
use Rattle.abstract_debugger.specs.Debugger.{State, stepping, stop_line}
use Rattle.abstract_debugger.specs.Laws.{Quiet, WritesOnly}
use Rattle.abstract_debugger.specs.Lines.{Line}
use Rattle.abstract_debugger.specs.Plan.{Plan}
use Rattle.abstract_debugger.specs.Stands.{Origin}
use Rattle.abstract_debugger.specs.Trace.{What}
use Rattle.probe_run.specs.Acts.{Tells}
use Rattle.probe_session.specs.declared.fault.Failure.{Failure}
use Rattle.probe_session.specs.Calls.{LookFell}
use Rattle.probe_session.specs.Commands.{armed, before, ebreak_set, freed, let_go, shown, written_and_shown}
use Rattle.probe_session.specs.Goes.{CalmNext}
use Rattle.probe_session.specs.Led.{DealsAt}
use Rattle.cut_laws.specs.Cut.{LeftLosing}

-- the register that a command writes
abbrev pub register_of : Command → Option ℕ
register_of (command.SetReg r v) = Some r.0
register_of _ = None

-- the hart that it deals with
abbrev pub hart_of : Command → State → ℕ
hart_of (command.Hart n) s = n
hart_of _ s = s.hart

abbrev pub IsPositive : ℕ → Type 0
IsPositive zero = ⊥
IsPositive (suc n) = Unit {0}

-- it begins with a Look of that hart
abbrev pub Looks : Command → State → Type 0
Looks command.Idcode s = ⊥
Looks (command.Via path) s = ⊥
Looks command.End s = ⊥
Looks (command.Wait k) s = IsPositive k
Looks (command.Read size address count) s = s.path ≡ Progbuf
Looks (command.Write size address value count) s = s.path ≡ Progbuf
Looks (command.Dump address count) s = s.path ≡ Progbuf
Looks _ s = Unit {0}

abbrev pub FirstLookCut : Type 0
FirstLookCut = (c : Command) (s : State) (next : State → Plan) (old_count new_count : ℕ) (old new : Tells) (f : Failure) → Looks c s → CalmNext next
    → LookFell (hart_of c s) old_count new_count old new f
    → (m : Machine) (o : Origin) (lines : List Line) → DealsAt m o (before c s next) lines old.far → LeftLosing (hart_of c s) (register_of c) o new.far

-- ---- behind that Look

-- at the places of a halted hart that commands come to there, by their names, where what follows is quiet
pub record PlacesWriteOne (h : ℕ) (next : Plan) : Type 0 where
  pub stop_line : WritesOnly h None (stop_line h next)
  pub shown : (number : ℕ) → WritesOnly h None (shown number h next)
  pub written : (number value : ℕ) → WritesOnly h (Some number) (written_and_shown number value h next)
  pub ebreak : (on : Bool) → WritesOnly h None (ebreak_set on h next)
  pub armed : (what : What) → WritesOnly h None (armed what h next)
  pub freed : (slot : ℕ) → WritesOnly h None (freed slot h next)
  pub let_go : WritesOnly h None (let_go h next)
  pub stepping : (count : ℕ) → WritesOnly h None (stepping count h next)

abbrev pub PlacesWrite : Type 0
PlacesWrite = (h : ℕ) (next : Plan) → Quiet next → PlacesWriteOne h next
