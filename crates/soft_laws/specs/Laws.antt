-- Laws of software breakpoints: what a chip with patches in its memory does is what a user sees over memory without them.
-- They are this project's own. A session is a plan, seen by `soft_replay`; the chip's journal is replayed along the same plan, lowered.
use Rattle.std.specs.Prelude.{◌≡◌, ◌<◌, ℕ, All, List, [], Some, true, slice_get}
use Rattle.rv_model.specs.Board.{Board, Hart, machine_of}
use Rattle.rv_model.specs.Turn.{turn}
use Rattle.rv_model.specs.TurnLaws.{StepsUnmasked}
use Rattle.rv_model.specs.Undebugged.{undebugged}
use Rattle.debug_model.specs.Command.{IsWithinRanges}
use Rattle.debug_model.specs.declared.point.Point.{Point}
use Rattle.abstract_debugger.specs.Known.{IsFresh}
use Rattle.abstract_debugger.specs.Laws.{SaysQuietly}
use Rattle.abstract_debugger.specs.Own as entries
use Rattle.abstract_debugger.specs.Plan.{Plan}
use Rattle.abstract_debugger.specs.Transcript.{End, Outcome, replay, start, trace}
use Rattle.abstract_debugger.specs.Transcript.End.{Clean, WithErrors, NoHalt, NoAck, Open, Astray}
use Rattle.soft_laws.specs.Lowered.{lower, no_table}
use Rattle.soft_laws.specs.SoftBreaks.{AreSoftAddresses, AreInside, IsSoftAddress, covered, is_listed, patched_board, patched_machine}
use Rattle.debug_model.specs.declared.soft_command.SoftCommand.{SoftCommand}
use Rattle.soft_laws.specs.SoftDebugger.{most_harts, soft_session, soft_transcript}
use Rattle.debug_model.specs.declared.soft_command.SoftCommand.TheVariants.{Plain, Soft, Unsoft}
use Rattle.soft_laws.specs.SoftFirstMatch.{SoftFirstMatch}
use Rattle.soft_laws.specs.SoftReplay.{soft_replay}
use Rattle.soft_laws.specs.SoftTurns.{soft_executes, soft_turn}
use Rattle.soft_laws.specs.Undisturbed.{LeavesWords, Undisturbed, accessed_of}

-- ---- one turn

-- the covered words are words of memory, one that hart h is at halts it, and what it executes leaves them alone
pub record MayHide (cs : List ℕ) (h : ℕ) (b : Board) : Type 0 where
  pub aligned : AreSoftAddresses cs
  pub inside : AreInside cs b.memory.bytes
  pub halts : (x : Hart) → slice_get b.harts h ≡ Some x → is_listed cs x.core.pc ≡ true → x.debug.ebreakm ≡ true
  pub leaves : (x : Hart) → slice_get b.harts h ≡ Some x → soft_executes cs x b.memory ≡ true → LeavesWords cs (accessed_of x.core b.memory)

-- one turn of the chip, whose memory has the ebreaks in it, is the turn that a user sees over memory without them
abbrev pub PatchesHide : Type 0
PatchesHide = (cs : List ℕ) (h : ℕ) (b : Board) → MayHide cs h b → turn h (patched_board cs b) ≡ patched_board cs (soft_turn cs h b)

-- ---- sessions

abbrev pub IsSoftWithinRanges : SoftCommand → Type 0
IsSoftWithinRanges (Plain c) = IsWithinRanges c
IsSoftWithinRanges (Soft a) = IsSoftAddress a
IsSoftWithinRanges (Unsoft a) = IsSoftAddress a

-- no more harts than are looked for before the first breakpoint; every chip has one to four
abbrev pub HasFewHarts : Board → Type 0
HasFewHarts b = (h : ℕ) (x : Hart) → slice_get b.harts h ≡ Some x → h < most_harts

-- what the chip makes of a session
abbrev pub chip_outcome : Board → List SoftCommand → List Point → Outcome
chip_outcome board script journal = replay (lower (soft_session script) no_table) (start board) journal

-- the program leaves covered words alone, in what a user sees of the session
abbrev pub IsUndisturbed : Board → List SoftCommand → List Point → Type 0
IsUndisturbed board script journal = Undisturbed (machine_of board) (soft_transcript board script journal).world.past

-- a session ran to its end
abbrev pub HasRun : End → Type 0
HasRun Clean = Unit {0}
HasRun WithErrors = Unit {0}
HasRun (NoHalt looks) = ⊥
HasRun (NoAck looks) = ⊥
HasRun Open = ⊥
HasRun Astray = ⊥

-- the chip says what the user sees and ends so, its board is the user's under patches, and behind a session that ran to its end no patch is left
pub record IsHidden (seen chip : Outcome) : Type 0 where
  pub end : chip.end ≡ seen.end
  pub lines : chip.world.lines ≡ seen.world.lines
  pub board : chip.world.board ≡ patched_board (covered seen.world.past) seen.world.board
  pub cleared : HasRun seen.end → covered seen.world.past ≡ []

abbrev pub SessionsHide : Type 0
SessionsHide = (board : Board) (script : List SoftCommand) (journal : List Point) → All IsSoftWithinRanges script → HasFewHarts board
    → StepsUnmasked board → IsUndisturbed board script journal → IsHidden (soft_transcript board script journal) (chip_outcome board script journal)

-- ---- transparency

-- Memory and every hart's core that a user sees are those of a machine that nobody debugs, whatever the plan. The board begins with no hart that steps with
-- its interrupts masked.
abbrev pub SoftTransparent : Type 0
SoftTransparent = (plan : Plan) (board : Board) (journal : List Point) → StepsUnmasked board
    → machine_of (soft_replay plan (start board) journal).world.board ≡ undebugged (machine_of board)
    (entries.own (trace (soft_replay plan (start board) journal)))

-- So the chip's machine is that of the session's own entries, where a covered word counts as its original.
abbrev pub ChipsAreUndebugged : Type 0
ChipsAreUndebugged = (board : Board) (script : List SoftCommand) (journal : List Point) → All IsSoftWithinRanges script → HasFewHarts board
    → StepsUnmasked board → IsUndisturbed board script journal
    → machine_of (chip_outcome board script journal).world.board
    ≡ patched_machine (covered (soft_transcript board script journal).world.past)
    (undebugged (machine_of board) (entries.own (trace (soft_transcript board script journal))))

-- ---- first match

abbrev pub SoftFirstMatchHolds : Type 0
SoftFirstMatchHolds = (board : Board) (script : List SoftCommand) (journal : List Point) → All IsSoftWithinRanges script → HasFewHarts board
    → IsFresh board → IsUndisturbed board script journal → SoftFirstMatch (machine_of board) (soft_transcript board script journal).world.past

-- ---- behind a line that could not be written

-- the chip's board is left to the turns up to the next point
abbrev pub LoweredSessionsSayQuietly : Type 0
LoweredSessionsSayQuietly = (script : List SoftCommand) → SaysQuietly (lower (soft_session script) no_table)
