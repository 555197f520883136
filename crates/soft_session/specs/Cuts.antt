-- Where a call of a session with software breakpoints failed, over a told chip: its journal leads along the lowered plan, and these lines have been said of it.
-- It is this project's own.
use Rattle.std.specs.Prelude.{◌≡◌, ◌++◌, ℕ, Bool, true, List, Option}
use Rattle.jt_base.specs.Sink.{GrewByPrefix, grown}
use Rattle.rv_model.specs.Board.{Machine}
use Rattle.debug_model.specs.declared.soft_command.SoftCommand.{SoftCommand}
use Rattle.debug_model.specs.Told.{Far, site_of}
use Rattle.abstract_debugger.specs.Debugger.{going, stop_line}
use Rattle.abstract_debugger.specs.Laws.{Quiet}
use Rattle.abstract_debugger.specs.Lines.{Line, text_of_all}
use Rattle.abstract_debugger.specs.Plan.{Plan}
use Rattle.abstract_debugger.specs.Plan.Plan.{say, see}
use Rattle.abstract_debugger.specs.Stands.{IsTranscribed, Origin, Stands}
use Rattle.abstract_debugger.specs.Transcript.{End}
use Rattle.probe_run.specs.Acts.{Tells}
use Rattle.probe_run.specs.Happens.{target_of}
use Rattle.probe_session.specs.declared.fault.Failure.{Failure}
use Rattle.probe_session.specs.declared.fault.Failure.TheVariants as failure
use Rattle.probe_session.specs.declared.fault.LostCause.TheVariants as lost
use Rattle.probe_session.specs.declared.odd.Odd.TheVariants as odd
use Rattle.probe_session.specs.Going.{Branches}
use Rattle.probe_session.specs.Led.{DealsAt}
use Rattle.probe_session.specs.Places.{Place, still}
use Rattle.probe_session.specs.Transcribed.{OnTheWay, Still}
use Rattle.soft_laws.specs.Lowered.{Table, lower}
use Rattle.soft_laws.specs.SoftDebugger.{SoftState, closing, one_by, planting, prepared, soft_act, soft_commands, soft_one, soft_resuming, soft_stepping}
use Rattle.soft_break.specs.Patches.{Patches}
use Rattle.soft_session.specs.Led.{at_plan}
use Rattle.soft_session.specs.Stepping.{behind_whole}
use Rattle.soft_session.specs.Tables.{Holds}

-- By the failure. No register of a chip as loaded is refused, and none of its answers is odd; a word at which a breakpoint is set may have been refused.
abbrev pub LeftSoft : Origin → List Line → Failure → Far → Type 0
LeftSoft o lines (failure.Wire why) last = OnTheWay o lines (site_of last).journal
LeftSoft o lines (failure.Lost lost.DmiFailed) last = OnTheWay o lines (site_of last).journal
LeftSoft o lines (failure.Lost lost.StillBusy) last = OnTheWay o lines (site_of last).journal
LeftSoft o lines (failure.Lost (lost.NoHalt looks)) last = IsTranscribed o (End.NoHalt looks) lines (target_of (site_of last))
LeftSoft o lines (failure.Lost (lost.NoAck looks)) last = IsTranscribed o (End.NoAck looks) lines (target_of (site_of last))
LeftSoft o lines (failure.Lost (lost.Odd (odd.Status shown))) last = ⊥
LeftSoft o lines (failure.Lost (lost.Odd (odd.Register number))) last = ⊥
LeftSoft o lines (failure.Lost (lost.Odd odd.Refusal)) last = OnTheWay o lines (site_of last).journal
LeftSoft o lines failure.Sink last = ⊥

-- whoever has followed the plan to this place has gone on so, with these lines said, when the call failed
abbrev pub CutsSaying : Place → (old : Tells) → List Line → Failure → (new : Tells) → Type 0
CutsSaying from old said f new = (m : Machine) (o : Origin) (lines : List Line) → DealsAt m o from lines old.far → Still (LeftSoft o (lines ++ said) f) new.far

abbrev pub Cuts : Place → (old : Tells) → Failure → (new : Tells) → Type 0
Cuts from old f new = (m : Machine) (o : Origin) (lines : List Line) → DealsAt m o from lines old.far → Still (LeftSoft o lines f) new.far

-- at every place of this kind, whatever follows
abbrev pub CutsOf : {K : Type 0} → Patches → (K → Table → Place) → (old new : Tells) → Failure → Type 0
CutsOf {K} p from old new f = (k : K) (t : Table) → Holds p t → Cuts (from k t) old f new

-- ---- the places

abbrev pub at_prepared : List ℕ → Branches → Table → Place
at_prepared planted b t = at_plan (prepared planted b.other b.whole) t

abbrev pub at_planting : ℕ → Branches → Table → Place
at_planting a b t = at_plan (planting a b.other b.whole) t

abbrev pub at_closing : List ℕ → Plan → Table → Place
at_closing planted next t = at_plan (closing planted next) t

abbrev pub at_over : (at h : ℕ) → Branches → Table → Place
at_over at h b t = still h (lower (one_by true at h b.whole b.other) t)

abbrev pub at_one_of : List ℕ → ℕ → Branches → Table → Place
at_one_of planted h b t = still h (lower (soft_one planted h b.whole b.other) t)

abbrev pub at_steps : ℕ → List ℕ → ℕ → Plan → Table → Place
at_steps count planted h next t = still h (lower (soft_stepping count planted h (stop_line h next)) t)

abbrev pub at_resuming : List ℕ → ℕ → Plan → Table → Place
at_resuming planted h next t = still h (lower (see (soft_resuming planted h next)) t)

-- behind a step, by whether it was a whole one
abbrev pub at_gone : ℕ → (is_whole : Bool) → Plan → Place
at_gone h is_whole next = behind_whole is_whole h (going h (say Line.Resumed next)) (stop_line h next)

abbrev pub at_command : SoftCommand → SoftState → (SoftState → Plan) → Table → Place
at_command c s next t = at_plan (soft_act c s next) t

-- ---- a command that did not come to its end

-- behind a line that could not be written nothing is changed up to the next point
pub record QuietAt (o : Origin) (lines : List Line) (last : Far) : Type 0 where
  pub plan : Plan
  pub quiet : Quiet plan
  pub stands : Stands o plan lines (target_of (site_of last))

-- These lines were said and written, and there a call failed; or of those behind them a front alone was written.
pub data CutShort (from : Table → Place) (p : Patches) (old new : Tells) (was is : Option (List ℕ)) : Failure → Type 0 where
  in_call : {f : Failure} (said : List Line) → is ≡ grown (text_of_all said) was
      → ((t : Table) → Holds p t → CutsSaying (from t) old said f new) → CutShort from p old new was is f
  at_line : (said ahead : List Line) → GrewByPrefix (text_of_all ahead) (grown (text_of_all said) was) is
      → ((t : Table) → Holds p t → (m : Machine) (o : Origin) (lines : List Line) → DealsAt m o (from t) lines old.far
      → Still (QuietAt o (lines ++ (said ++ ahead))) new.far) → CutShort from p old new was is failure.Sink

-- what follows a command changes nothing up to its first point
abbrev pub AreQuiet : (SoftState → Plan) → Type 0
AreQuiet next = (s : SoftState) → Quiet (next s)

abbrev pub CommandCut : SoftCommand → SoftState → Patches → (old new : Tells) → (was is : Option (List ℕ)) → Failure → Type 0
CommandCut c s p old new was is f = (next : SoftState → Plan) → AreQuiet next → CutShort (at_command c s next) p old new was is f

abbrev pub ScriptCut : List SoftCommand → SoftState → Patches → (old new : Tells) → (was is : Option (List ℕ)) → Failure → Type 0
ScriptCut script s p old new was is f = CutShort (λ t. at_plan (soft_commands script s) t) p old new was is f
