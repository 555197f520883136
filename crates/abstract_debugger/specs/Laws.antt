-- Laws of replays and transcripts: for every plan, or every script, whatever the journal and however it ends.
-- They are this project's own; docs/HEADLINE.md reads them aloud.
use Rattle.std.specs.Prelude.{◌≡◌, ◌≢◌, ◌⊎◌, ℕ, All, List, ◌∷◌, ◌++◌, Option, Some, None, false, slice_get}
use Rattle.rv_model.specs.declared.cause.Cause.{Cause}
use Rattle.rv_model.specs.declared.version.Version.{Version}
use Rattle.rv_model.specs.Board.{Board, DebugPart, Hart, Machine, machine_of, reset_debug}
use Rattle.rv_model.specs.Core.{Core}
use Rattle.rv_model.specs.Registers.{reg_written}
use Rattle.rv_model.specs.TurnLaws.{StepsUnmasked}
use Rattle.rv_model.specs.Undebugged.{undebugged}
use Rattle.debug_model.specs.declared.command.Command.{Command}
use Rattle.debug_model.specs.Command.{IsWithinRanges}
use Rattle.debug_model.specs.declared.point.Point.{Point}
use Rattle.abstract_debugger.specs.Debugger.{State, commands, session}
use Rattle.abstract_debugger.specs.FirstMatch.{FirstMatch, RightNote}
use Rattle.abstract_debugger.specs.Known.{IsFresh, IsFreshPart}
use Rattle.abstract_debugger.specs.Lines.{Line}
use Rattle.abstract_debugger.specs.Own as entries
use Rattle.abstract_debugger.specs.Own.{lived}
use Rattle.abstract_debugger.specs.Plan.{Change, Plan, hart_over, changed_board}
use Rattle.abstract_debugger.specs.Plan.Change.{WriteReg, WriteMem, ArmSlot, FreeSlot, StepOver, StepDone, EbreakHalts, Patch}
use Rattle.abstract_debugger.specs.Plan.Plan.{take, on_path, see, change, say, stop}
use Rattle.abstract_debugger.specs.Trace.{Note, Past, trace_of}
use Rattle.abstract_debugger.specs.Transcript.{World, replay, start, trace, transcript}
use Rattle.abstract_debugger.specs.Transcript.End.{Open, Astray}
use Rattle.abstract_debugger.specs.Turns.{after_turns, turns}

-- ---- transparency

-- Memory with its reservations, and every hart's core, end as those of a machine that nobody debugs: of the same executed turns
-- and the run's own writes. The board begins with no hart that steps with its interrupts masked, as a reset leaves it.
abbrev pub Transparent : Type 0
Transparent = (plan : Plan) (board : Board) (journal : List Point) → StepsUnmasked board
    → machine_of (replay plan (start board) journal).world.board ≡ undebugged (machine_of board) (entries.own (trace (replay plan (start board) journal)))

-- no plan lets a hart step with its interrupts masked: it sets and clears stepie with the step flag
abbrev pub ReplaysKeepUnmasked : Type 0
ReplaysKeepUnmasked = (plan : Plan) (board : Board) (journal : List Point) → StepsUnmasked board
    → StepsUnmasked (replay plan (start board) journal).world.board

-- a board whose harts no debugger has touched is such a board
abbrev pub FreshBoardsAreUnmasked : Type 0
FreshBoardsAreUnmasked = (board : Board) → IsFresh board → StepsUnmasked board

-- the machine that lives through a past is the undebugged run of its entries
abbrev pub PastsAreUndebugged : Type 0
PastsAreUndebugged = (m : Machine) (past : Past) → undebugged m (entries.own (trace_of past)) ≡ lived m past

-- ---- first match

-- it holds of the trace of every script within its ranges, over a board whose harts no debugger has touched
abbrev pub FirstMatchHolds : Type 0
FirstMatchHolds = (board : Board) (script : List Command) (journal : List Point) → All IsWithinRanges script → IsFresh board
    → FirstMatch (machine_of board) (transcript board script journal).world.past

-- so at any place of a past the note is right over what stands before it
abbrev pub EachNoteIsRight : Type 0
EachNoteIsRight = (m : Machine) (later : Past) (note : Note) (earlier : Past) → FirstMatch m (later ++ note ∷ earlier) → RightNote m note earlier

-- a reset leaves harts that no debugger has touched
abbrev pub ResetIsFresh : Type 0
ResetIsFresh = (version : Version) (halted : Option Cause) → IsFreshPart (reset_debug version halted)

-- ---- a journal that is cut

-- these lines are the front of those
pub record IsFront (front whole : List Line) : Type 0 where
  pub rest : List Line
  pub is : whole ≡ front ++ rest

-- a replay only adds lines
abbrev pub LinesGrow : Type 0
LinesGrow = (plan : Plan) (w : World) (journal : List Point) → IsFront w.lines (replay plan w journal).world.lines

-- what is printed along a journal that was cut is the front of what is printed along any longer one
abbrev pub CutLinesAreAFront : Type 0
CutLinesAreAFront = (plan : Plan) (w : World) (journal more : List Point)
    → IsFront (replay plan w journal).world.lines (replay plan w (journal ++ more)).world.lines

-- unless the plan is still open, and then a longer journal adds no line
abbrev pub OnlyOpenOnesGrow : Type 0
OnlyOpenOnesGrow = (plan : Plan) (w : World) (journal more : List Point)
    → (replay plan w journal).end ≢ Open → (replay plan w (journal ++ more)).world.lines ≡ (replay plan w journal).world.lines

-- the lines of a script's first commands are the front of its lines, along the same journal
abbrev pub CommandsSpeakInOrder : Type 0
CommandsSpeakInOrder = (board : Board) (before after : List Command) (journal : List Point)
    → IsFront (transcript board before journal).world.lines (transcript board (before ++ after) journal).world.lines

-- turns alone lead no plan astray
abbrev pub TurnsKeepOn : Type 0
TurnsKeepOn = (plan : Plan) (w : World) (harts : List ℕ) → (replay plan w (turns harts)).end ≢ Astray

-- ---- behind a line that could not be written

-- no change, up to the next point or the end
abbrev pub Quiet : Plan → Type 0
Quiet (take point next) = Unit {0}
Quiet (on_path path next) = Quiet next
Quiet (see next) = (b : Board) → Quiet (next b)
Quiet (change what next) = ⊥
Quiet (say line next) = Quiet next
Quiet (stop end) = Unit {0}

-- the board is left to the turns
abbrev pub QuietBoards : Type 0
QuietBoards = (plan : Plan) (w : World) (harts : List ℕ) → Quiet plan → (replay plan w (turns harts)).world.board ≡ after_turns harts w.board

-- what follows any line is quiet
abbrev pub SaysQuietly : Plan → Type 0
SaysQuietly (take point next) = SaysQuietly next
SaysQuietly (on_path path next) = SaysQuietly next
SaysQuietly (see next) = (b : Board) → SaysQuietly (next b)
SaysQuietly (change what next) = SaysQuietly next
SaysQuietly (say line next) = Quiet next × SaysQuietly next
SaysQuietly (stop end) = Unit {0}

abbrev pub SessionsSayQuietly : Type 0
SessionsSayQuietly = (script : List Command) → SaysQuietly (session script)

abbrev pub CommandsAreQuiet : Type 0
CommandsAreQuiet = (script : List Command) (s : State) → Quiet (commands script s)

-- ---- a halted hart that nobody asks to resume

pub record IsFrozen (d : DebugPart) : Type 0 where
  pub why : Cause
  pub halted : d.halted ≡ Some why
  pub not_asked : d.resume_request ≡ false

-- turns pass it by
abbrev pub FrozenStays : Type 0
FrozenStays = (h : ℕ) (hart : Hart) (b : Board) (harts : List ℕ) → slice_get b.harts h ≡ Some hart → IsFrozen hart.debug
    → slice_get (after_turns harts b).harts h ≡ Some hart

-- and a change of it that leaves it frozen may be made before some turns or behind them
abbrev pub FrozenMayWait : Type 0
FrozenMayWait =
    (f : Hart → Hart) (h : ℕ) (hart : Hart) (b : Board) (harts : List ℕ) → slice_get b.harts h ≡ Some hart → IsFrozen hart.debug → IsFrozen (f hart).debug
    → after_turns harts (hart_over f h b) ≡ hart_over f h (after_turns harts b)

-- the same, of a hart that may be absent
abbrev pub IsFrozenAt : ℕ → Board → Type 0
IsFrozenAt h b = (x : Hart) → slice_get b.harts h ≡ Some x → IsFrozen x.debug

-- a change that a debugger makes of hart h
abbrev pub IsChangeOf : ℕ → Change → Type 0
IsChangeOf h (WriteReg j number value) = j ≡ h
IsChangeOf h (WriteMem address count value) = ⊥
IsChangeOf h (ArmSlot j slot what) = j ≡ h
IsChangeOf h (FreeSlot j slot) = j ≡ h
IsChangeOf h (StepOver j) = j ≡ h
IsChangeOf h (StepDone j) = j ≡ h
IsChangeOf h (EbreakHalts j on) = j ≡ h
IsChangeOf h (Patch address original covers) = ⊥

abbrev pub ChangesMayWait : Type 0
ChangesMayWait = (c : Change) (h : ℕ) (hart : Hart) (b : Board) (harts : List ℕ) → IsChangeOf h c → slice_get b.harts h ≡ Some hart → IsFrozen hart.debug
    → after_turns harts (changed_board c b) ≡ changed_board c (after_turns harts b)

-- ---- a call that failed in the middle of a command

-- up to the next point a plan changes hart h alone, and of what a program sees at most one register: that of this number, where there is one
abbrev pub WritesOnly : ℕ → Option ℕ → Plan → Type 0
WritesOnly h n (take point next) = Unit {0}
WritesOnly h n (on_path path next) = WritesOnly h n next
WritesOnly h n (see next) = (b : Board) → WritesOnly h n (next b)
WritesOnly h n (change (WriteReg j number value) next) = (j ≡ h) × (n ≡ Some number) × WritesOnly h None next
WritesOnly h n (change (WriteMem address count value) next) = ⊥
WritesOnly h n (change (ArmSlot j slot what) next) = (j ≡ h) × WritesOnly h n next
WritesOnly h n (change (FreeSlot j slot) next) = (j ≡ h) × WritesOnly h n next
WritesOnly h n (change (StepOver j) next) = (j ≡ h) × WritesOnly h n next
WritesOnly h n (change (StepDone j) next) = (j ≡ h) × WritesOnly h n next
WritesOnly h n (change (EbreakHalts j on) next) = (j ≡ h) × WritesOnly h n next
WritesOnly h n (change (Patch address original covers) next) = ⊥
WritesOnly h n (say line next) = WritesOnly h n next
WritesOnly h n (stop end) = Unit {0}

-- a core that is the same, or has this register written
abbrev pub IsWritten : Option ℕ → (old new : Core) → Type 0
IsWritten None old new = new ≡ old
IsWritten (Some r) old new = (new ≡ old) ⊎ ((v : ℕ) × (new ≡ reg_written old r v))

-- So where no point follows, the replay's board is that of the turns, but for the debug part of hart h and that one register of it.
abbrev pub CutBoards : Type 0
CutBoards = (plan : Plan) (w : World) (h : ℕ) (n : Option ℕ) (harts : List ℕ) → WritesOnly h n plan → IsFrozenAt h w.board
    → (f : Hart → Hart) × ((x : Hart) → IsWritten n x.core (f x).core) × ((replay plan w (turns harts)).world.board ≡ hart_over f h (after_turns harts w.board))
