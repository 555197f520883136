-- What a session over a chip as it was loaded has written and left, by its end: the transcript of the chip's journal, or a front of its lines.
-- It is this project's own (docs/HEADLINE.md).
use Rattle.std.specs.Prelude.{◌≡◌, ◌≢◌, ℕ, List, Option, Some, IfSome}
use Rattle.jt_base.specs.Sink.{GrewByPrefix, grown}
use Rattle.debug_model.specs.declared.command.Command.{Command}
use Rattle.debug_model.specs.declared.point.Point.{Point}
use Rattle.debug_model.specs.Told.{Far, site_of}
use Rattle.abstract_debugger.specs.Debugger.{commands, first_state, look}
use Rattle.abstract_debugger.specs.Laws.{IsFront}
use Rattle.abstract_debugger.specs.Lines.{Line, text_of_all}
use Rattle.abstract_debugger.specs.Plan.{Plan}
use Rattle.abstract_debugger.specs.Stands.{Origin}
use Rattle.abstract_debugger.specs.Transcript.{End, Outcome, replay, start}
use Rattle.abstract_debugger.specs.Transcript.End.{Astray}
use Rattle.probe_session.specs.declared.ended.Ended.{Ended}
use Rattle.probe_session.specs.declared.ended.Ended.TheVariants as ended
use Rattle.probe_session.specs.declared.fault.LostCause.TheVariants as lost

-- the plan of a whole session: the opening takes one Look, of hart 0, and then comes what is behind it
abbrev pub behind_opening : Plan → Plan
behind_opening p = look 0 (λ seen. p)

-- of the chip's board before the session and its journal behind it
abbrev pub shown_by : Plan → (first last : Far) → Outcome
shown_by p first last = replay (behind_opening p) (start (site_of first).board) (site_of last).journal

-- it ends so, its lines were written, and the chip's board is its board
pub record IsTranscript (p : Plan) (end : End) (was is : Option (List ℕ)) (first last : Far) : Type 0 where
  pub end_is : (shown_by p first last).end ≡ end
  pub written : is ≡ grown (text_of_all (shown_by p first last).world.lines) was
  pub board_is : (shown_by p first last).world.board ≡ (site_of last).board

-- no point stands in the journal that the abstract debugger does not take there, and a front of its text was written
pub record IsFrontOf (p : Plan) (was is : Option (List ℕ)) (first last : Far) : Type 0 where
  pub on_the_way : (shown_by p first last).end ≢ Astray
  pub written : GrewByPrefix (text_of_all (shown_by p first last).world.lines) was is

-- the same, and the chip's board is the transcript's: no command was left half done
pub record IsCutTranscript (p : Plan) (was is : Option (List ℕ)) (first last : Far) : Type 0 where
  pub front : IsFrontOf p was is first last
  pub board_is : (shown_by p first last).world.board ≡ (site_of last).board

-- the link tells of a chip still
pub record Still (P : Far → Type 0) (new : Option Far) : Type 0 where
  pub far : Far
  pub is : new ≡ Some far
  pub holds : P far

-- no register of a chip as loaded is refused, and none of its answers is odd
abbrev pub WrittenBy : Plan → (was is : Option (List ℕ)) → (first last : Far) → Ended → Type 0
WrittenBy p was is first last ended.Clean = IsTranscript p End.Clean was is first last
WrittenBy p was is first last ended.WithErrors = IsTranscript p End.WithErrors was is first last
WrittenBy p was is first last (ended.Target fault) = ⊥
WrittenBy p was is first last (ended.Wire why) = IsFrontOf p was is first last
WrittenBy p was is first last (ended.Lost lost.DmiFailed) = IsFrontOf p was is first last
WrittenBy p was is first last (ended.Lost lost.StillBusy) = IsFrontOf p was is first last
WrittenBy p was is first last (ended.Lost (lost.NoHalt looks)) = IsTranscript p (End.NoHalt looks) was is first last
WrittenBy p was is first last (ended.Lost (lost.NoAck looks)) = IsTranscript p (End.NoAck looks) was is first last
WrittenBy p was is first last (ended.Lost (lost.Odd odd)) = ⊥
WrittenBy p was is first last ended.Sink = IsCutTranscript p was is first last

abbrev pub TranscribedBy : Plan → (was is : Option (List ℕ)) → (old new : Option Far) → Ended → Type 0
TranscribedBy p was is old new e = IfSome old (λ first. Still (λ last. WrittenBy p was is first last e) new)

-- ---- of a session that runs a script

abbrev pub shown : List Command → (first last : Far) → Outcome
shown script = shown_by (commands script first_state)

abbrev pub WrittenAs : List Command → (was is : Option (List ℕ)) → (first last : Far) → Ended → Type 0
WrittenAs script was is first last e = WrittenBy (commands script first_state) was is first last e

abbrev pub TranscribedAs : List Command → (was is : Option (List ℕ)) → (old new : Option Far) → Ended → Type 0
TranscribedAs script was is old new e = TranscribedBy (commands script first_state) was is old new e

-- ---- on the way

-- where a session begins, with this behind its opening
abbrev pub origin_of : Plan → Far → Origin
origin_of p first = record { plan = behind_opening p; world = start (site_of first).board }

-- the journal leads along the plan, and these lines have been said
pub record OnTheWay (o : Origin) (lines : List Line) (journal : List Point) : Type 0 where
  pub not_astray : (replay o.plan o.world journal).end ≢ Astray
  pub front : IsFront lines (replay o.plan o.world journal).world.lines
