-- What a session of a script leaves of a chip as it was loaded, where the command under way fell. It is this project's own (docs/HEADLINE.md).
use Rattle.std.specs.Prelude.{◌≡◌, ℕ, List, Option, Some}
use Rattle.rv_model.specs.Board.{machine_of}
use Rattle.rv_model.specs.Undebugged.{undebugged}
use Rattle.debug_model.specs.declared.command.Command.{Command}
use Rattle.debug_model.specs.Loaded.{AsLoaded}
use Rattle.debug_model.specs.Told.{Far, site_of}
use Rattle.abstract_debugger.specs.Debugger.{State, commands, first_state}
use Rattle.abstract_debugger.specs.Own.{own}
use Rattle.abstract_debugger.specs.Plan.{Plan}
use Rattle.abstract_debugger.specs.Stands.{Origin}
use Rattle.abstract_debugger.specs.Transcript.{trace}
use Rattle.probe_run.specs.Acts.{Tells}
use Rattle.probe_run.specs.Happens.{target_of}
use Rattle.probe_session.specs.declared.fault.Failure.{Failure}
use Rattle.probe_session.specs.Goes.{CalmNext, Fell}
use Rattle.probe_session.specs.Places.{Place}
use Rattle.probe_session.specs.Transcribed.{origin_of, shown_by}
use Rattle.probe_session.specs.UnderWay.{RanUpTo}
use Rattle.left_laws.specs.Left.{Spared, wiped}
use Rattle.cut_laws.specs.Cut.{EndsBut, LeftWhole}
use Rattle.cut_laws.specs.FaultLaws.{LeftAt, WritesAt}

-- in a call; or at a line that could not be written, where no change is left to be made
abbrev pub FellWrites : Option ℕ → (next : State → Plan) → {a : (State → Plan) → Place} {old_count new_count : ℕ} {old new : Tells} {sink_old sink_new : ℕ}
    {was is : Option (List ℕ)} {f : Failure} → Fell CalmNext a old_count new_count old new sink_old sink_new was is f → Type 0
FellWrites n next (Fell.in_call said falls put) = WritesAt n (falls.fault next)
FellWrites n next (Fell.at_line said line heard way h then may quiet went front rises) = Unit {0}
FellWrites n next (Fell.among_lines said ahead way h then quiet went front rises) = Unit {0}

abbrev pub FellLeaves : Option ℕ → Origin → (next : State → Plan) → (new : Tells) → {a : (State → Plan) → Place} {old_count new_count : ℕ} {old : Tells}
    {sink_old sink_new : ℕ} {was is : Option (List ℕ)} {f : Failure} → Fell CalmNext a old_count new_count old new sink_old sink_new was is f → Type 0
FellLeaves n o next new (Fell.in_call said falls put) = LeftAt n o (falls.fault next)
FellLeaves n o next new (Fell.at_line said line heard way h then may quiet went front rises) = LeftWhole o new.far
FellLeaves n o next new (Fell.among_lines said ahead way h then quiet went front rises) = LeftWhole o new.far

-- against the replay of the whole script: what follows the command under way is quiet
abbrev pub ScriptsLeave : Type 0
ScriptsLeave = (n : Option ℕ) (script : List Command) (old_count new_count : ℕ) (old new : Tells) (sink_old sink_new : ℕ) (was is : Option (List ℕ))
    (f : Failure) (ran : RanUpTo script old_count new_count old new sink_old sink_new was is f) (first : Far) → old.far ≡ Some first → AsLoaded first.live
    → FellWrites n (commands ran.under_way.rest) ran.under_way.fell
    → FellLeaves n (origin_of (commands script first_state) first) (commands ran.under_way.rest) new ran.under_way.fell

-- and what is left so of such a chip is the undebugged run of the session's own entries, but for what is named
abbrev pub LoadedAreUndebugged : Type 0
LoadedAreUndebugged = (s : Spared) (p : Plan) (first last : Far) → AsLoaded first.live → EndsBut s (origin_of p first) (target_of (site_of last))
    → wiped s (machine_of (site_of last).board) ≡ wiped s (undebugged (machine_of (site_of first).board) (own (trace (shown_by p first last))))
