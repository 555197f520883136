-- What a session leaves of a told chip where a Look or a call of run control failed. Each law takes what a constructor of `Goes.Fault` says, at its place.
-- RISC-V Debug Specification 1.0, "Halt Control" and "Run Control".
use Rattle.std.specs.Prelude.{◌≡◌, ℕ, List, Option, true, false}
use Rattle.rv_model.specs.Board.{Machine}
use Rattle.abstract_debugger.specs.Debugger.{Seen, going, halting, look, sees_halted}
use Rattle.abstract_debugger.specs.Laws.{Quiet, WritesOnly}
use Rattle.abstract_debugger.specs.Lines.{Line}
use Rattle.abstract_debugger.specs.Plan.{Plan}
use Rattle.abstract_debugger.specs.Stands.{Origin}
use Rattle.probe_run.specs.Acts.{Tells}
use Rattle.probe_session.specs.declared.fault.Failure.{Failure}
use Rattle.probe_session.specs.Calls.{HaltFell, LookFell, ResumeFell}
use Rattle.probe_session.specs.Led.{DealsAt}
use Rattle.probe_session.specs.Places.{idle, ready}
use Rattle.cut_laws.specs.Cut.{LeftLosing, LeftWhole}

-- behind a Look a plan changes nothing of a hart that was not seen halted, and writes at most register n of one that was
pub record WritesSeen (h : ℕ) (n : Option ℕ) (next : Seen → Plan) : Type 0 where
  pub halted : (s : Seen) → sees_halted s ≡ true → WritesOnly h n (next s)
  pub others : (s : Seen) → sees_halted s ≡ false → Quiet (next s)

-- the answer of the Look may be lost, so that the plan goes on where the session did not
abbrev pub LookingCut : Type 0
LookingCut = (h : ℕ) (n : Option ℕ) (next : Seen → Plan) (old_count new_count : ℕ) (old new : Tells) (f : Failure)
    → LookFell h old_count new_count old new f
    → (m : Machine) (o : Origin) (lines : List Line) → WritesSeen h n next → DealsAt m o (idle (look h next)) lines old.far → LeftLosing h n o new.far

abbrev pub HaltingCut : Type 0
HaltingCut = (h : ℕ) (n : Option ℕ) (next : Plan) (old_count new_count : ℕ) (old new : Tells) (f : Failure)
    → HaltFell h old_count new_count old new f
    → (m : Machine) (o : Origin) (lines : List Line) → WritesOnly h n next → DealsAt m o (idle (halting h next)) lines old.far → LeftLosing h n o new.far

-- behind a resume nothing is to be changed
abbrev pub ResumingCut : Type 0
ResumingCut = (h : ℕ) (next : Plan) (old_count new_count : ℕ) (old new : Tells) (f : Failure)
    → ResumeFell h old_count new_count old new f
    → (m : Machine) (o : Origin) (lines : List Line) → Quiet next → DealsAt m o (ready h (going h next)) lines old.far → LeftWhole o new.far
