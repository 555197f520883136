-- What a session has printed and left of a chip that was as loaded, whatever its plan, its schedule and its pieces: the sentences of docs/HEADLINE.md.
-- It is this project's own.
use Rattle.std.specs.Prelude.{◌≡◌, ℕ, List, Option}
use Rattle.rv_model.specs.Board.{Board, machine_of}
use Rattle.rv_model.specs.Undebugged.{undebugged}
use Rattle.debug_model.specs.declared.command.Command.{Command}
use Rattle.debug_model.specs.declared.point.Point.{Point}
use Rattle.debug_model.specs.Chip.{Live}
use Rattle.debug_model.specs.Offered.{TurnsOffered}
use Rattle.debug_model.specs.Told.{Far, chip_of}
use Rattle.abstract_debugger.specs.Debugger.{commands, first_state}
use Rattle.abstract_debugger.specs.FirstMatch.{FirstMatch}
use Rattle.abstract_debugger.specs.Own as entries
use Rattle.abstract_debugger.specs.Plan.{Plan}
use Rattle.abstract_debugger.specs.Transcript.{Outcome, replay, start, trace}
use Rattle.probe_session.specs.declared.ended.Ended.{Ended as End}
use Rattle.probe_session.specs.declared.ended.Ended.TheVariants as ends
use Rattle.probe_session.specs.declared.fault.LostCause.TheVariants as lost
use Rattle.probe_session.specs.Transcribed.{WrittenBy, behind_opening}

abbrev pub board_of : Live → Board
board_of l = l.chip.inside.works.site.board

abbrev pub journal_of : Live → List Point
journal_of l = l.chip.inside.works.site.journal

-- what a session with this plan behind its opening makes of the chip's board along the chip's own journal
abbrev pub outcome_of : Plan → (first last : Live) → Outcome
outcome_of p first last = replay (behind_opening p) (start (board_of first)) (journal_of last)

-- memory, its reservations, and all that a program sees of each hart, are those of a run that nobody debugs: of the same executed turns and the session's
-- own writes
abbrev pub IsUndebugged : Plan → (first last : Live) → Type 0
IsUndebugged p first last = machine_of (board_of last) ≡ undebugged (machine_of (board_of first)) (entries.own (trace (outcome_of p first last)))

-- so it is behind every session that went as far as the transcript's end, or to a line that could not be written
abbrev pub UndebuggedBehind : End → Plan → (first last : Live) → Type 0
UndebuggedBehind ends.Clean p first last = IsUndebugged p first last
UndebuggedBehind ends.WithErrors p first last = IsUndebugged p first last
UndebuggedBehind (ends.Target fault) p first last = Unit {0}
UndebuggedBehind (ends.Wire why) p first last = Unit {0}
UndebuggedBehind (ends.Lost lost.DmiFailed) p first last = Unit {0}
UndebuggedBehind (ends.Lost lost.StillBusy) p first last = Unit {0}
UndebuggedBehind (ends.Lost (lost.NoHalt looks)) p first last = IsUndebugged p first last
UndebuggedBehind (ends.Lost (lost.NoAck looks)) p first last = IsUndebugged p first last
UndebuggedBehind (ends.Lost (lost.Odd odd)) p first last = Unit {0}
UndebuggedBehind ends.Sink p first last = IsUndebugged p first last

-- of a session with this plan behind its opening, by the chip before and behind it, and what was printed before it and behind it
pub record HeadlineBy (p : Plan) (was is : Option (List ℕ)) (first last : Far) (end : End) : Type 0 where
  -- the transcript: of the chip's own journal, exactly, or a front of its lines
  pub written : WrittenBy p was is first last end
  -- the undebugged run
  pub undebugged : UndebuggedBehind end p first.live last.live
  -- first match, however the session ended
  pub first_match : FirstMatch (machine_of (board_of first.live)) (outcome_of p first.live last.live).world.past
  -- the executed turns are exactly those that the schedule offered
  pub turns : TurnsOffered first.live.chip.inside.plan (chip_of last)

-- of one that runs a script
abbrev pub Headline : List Command → (was is : Option (List ℕ)) → (first last : Far) → End → Type 0
Headline script was is first last end = HeadlineBy (commands script first_state) was is first last end
