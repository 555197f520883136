-- What a session with software breakpoints has written and left over a chip as it was loaded, by its end.
-- It is this project's own. A user sees the words themselves, and not the ebreaks that stand in their place.
use Rattle.std.specs.Prelude.{◌≡◌, ◌≢◌, ℕ, List, [], Option, IfSome}
use Rattle.rv_model.specs.Board.{machine_of}
use Rattle.rv_model.specs.Undebugged.{undebugged}
use Rattle.abstract_debugger.specs.Lines.{text_of_all}
use Rattle.abstract_debugger.specs.Own as entries
use Rattle.abstract_debugger.specs.Transcript.{End, Outcome, trace}
use Rattle.abstract_debugger.specs.Transcript.End.{Astray}
use Rattle.debug_model.specs.declared.soft_command.SoftCommand.{SoftCommand}
use Rattle.debug_model.specs.Told.{Far, site_of}
use Rattle.jt_base.specs.Sink.{GrewByPrefix, grown}
use Rattle.probe_session.specs.declared.ended.Ended.{Ended}
use Rattle.probe_session.specs.declared.ended.Ended.TheVariants as ended
use Rattle.probe_session.specs.declared.fault.LostCause.TheVariants as lost
use Rattle.probe_session.specs.declared.odd.Odd.TheVariants as odd
use Rattle.probe_session.specs.Transcribed.{Still}
use Rattle.soft_laws.specs.Laws.{HasRun, IsUndisturbed}
use Rattle.soft_laws.specs.SoftBreaks.{covered, patched_board, patched_machine}
use Rattle.soft_laws.specs.SoftDebugger.{soft_transcript}
use Rattle.soft_laws.specs.SoftFirstMatch.{SoftFirstMatch}

-- what a user sees of the chip's board before the session and its journal behind it
abbrev pub user_outcome : List SoftCommand → (first last : Far) → Outcome
user_outcome script first last = soft_transcript (site_of first).board script (site_of last).journal

-- the words that are covered then
abbrev pub covered_at : List SoftCommand → (first last : Far) → List ℕ
covered_at script first last = covered (user_outcome script first last).world.past

-- the program leaves covered words alone
abbrev pub LeavesAlone : List SoftCommand → (first last : Far) → Type 0
LeavesAlone script first last = IsUndisturbed (site_of first).board script (site_of last).journal

-- The user's transcript ends so, and its lines were written. The chip's board is the transcript's, with an ebreak in the place of each covered word, of which
-- there is none where the session ran to its end. So memory and every hart's core are those of a machine that nobody debugs; no hart ran past an armed slot,
-- nor executed at a covered word.
pub record IsSoftTranscript (script : List SoftCommand) (end : End) (was is : Option (List ℕ)) (first last : Far) : Type 0 where
  pub end_is : (user_outcome script first last).end ≡ end
  pub written : is ≡ grown (text_of_all (user_outcome script first last).world.lines) was
  pub board_is : (site_of last).board ≡ patched_board (covered_at script first last) (user_outcome script first last).world.board
  pub cleared : HasRun end → covered_at script first last ≡ []
  pub untouched : machine_of (site_of last).board ≡ patched_machine (covered_at script first last)
      (undebugged (machine_of (site_of first).board) (entries.own (trace (user_outcome script first last))))
  pub matched : SoftFirstMatch (machine_of (site_of first).board) (user_outcome script first last).world.past

-- No point stands in the journal that the abstract debugger does not take there, and a front of the user's text was written.
pub record IsSoftFront (script : List SoftCommand) (was is : Option (List ℕ)) (first last : Far) : Type 0 where
  pub on_the_way : (user_outcome script first last).end ≢ Astray
  pub written : GrewByPrefix (text_of_all (user_outcome script first last).world.lines) was is
  pub matched : SoftFirstMatch (machine_of (site_of first).board) (user_outcome script first last).world.past

-- the same, and the chip's board is the transcript's, with an ebreak in the place of each covered word: no command was left half done
pub record IsSoftCut (script : List SoftCommand) (was is : Option (List ℕ)) (first last : Far) : Type 0 where
  pub front : IsSoftFront script was is first last
  pub board_is : (site_of last).board ≡ patched_board (covered_at script first last) (user_outcome script first last).world.board
  pub untouched : machine_of (site_of last).board ≡ patched_machine (covered_at script first last)
      (undebugged (machine_of (site_of first).board) (entries.own (trace (user_outcome script first last))))

-- No register of a chip as loaded is refused, and none of its answers is odd. That it refuses a word at which a breakpoint is set is not ruled out here.
abbrev pub WrittenAs : List SoftCommand → (was is : Option (List ℕ)) → (first last : Far) → Ended → Type 0
WrittenAs script was is first last ended.Clean = IsSoftTranscript script End.Clean was is first last
WrittenAs script was is first last ended.WithErrors = IsSoftTranscript script End.WithErrors was is first last
WrittenAs script was is first last (ended.Target fault) = ⊥
WrittenAs script was is first last (ended.Wire why) = IsSoftFront script was is first last
WrittenAs script was is first last (ended.Lost lost.DmiFailed) = IsSoftFront script was is first last
WrittenAs script was is first last (ended.Lost lost.StillBusy) = IsSoftFront script was is first last
WrittenAs script was is first last (ended.Lost (lost.NoHalt looks)) = IsSoftTranscript script (End.NoHalt looks) was is first last
WrittenAs script was is first last (ended.Lost (lost.NoAck looks)) = IsSoftTranscript script (End.NoAck looks) was is first last
WrittenAs script was is first last (ended.Lost (lost.Odd (odd.Status shown))) = ⊥
WrittenAs script was is first last (ended.Lost (lost.Odd (odd.Register number))) = ⊥
WrittenAs script was is first last (ended.Lost (lost.Odd odd.Refusal)) = IsSoftFront script was is first last
WrittenAs script was is first last ended.Sink = IsSoftCut script was is first last

-- over every program that leaves covered words alone
abbrev pub SoftTranscribedAs : List SoftCommand → (was is : Option (List ℕ)) → (old new : Option Far) → Ended → Type 0
SoftTranscribedAs script was is old new e =
    IfSome old (λ first. Still (λ last. LeavesAlone script first last → WrittenAs script was is first last e) new)
