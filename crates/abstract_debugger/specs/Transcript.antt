-- The transcript of a session: its plan replayed along the chip's journal, over the board that the session begins with.
-- It is this project's own: what a session prints, and where the harts end, is a function of the board, the script and what happened at the chip.
use Rattle.std.specs.Prelude.{ℕ, List, [], ◌∷◌, ◌++◌, Bool, ◌&&◌, ◌==◌, if◌then◌else◌}
use Rattle.rv_model.specs.Board.{Board}
use Rattle.rv_model.specs.Undebugged.{Entry}
use Rattle.debug_model.specs.declared.command.Command.{Command}
use Rattle.debug_model.specs.declared.point.Point.{Point}
use Rattle.debug_model.specs.declared.point.Point.TheVariants.{Turn, Look, HaltReq, HaltClear, ResumeReq, Access}
use Rattle.debug_model.specs.Journal.{after_point}
use Rattle.abstract_debugger.specs.Debugger.{session}
use Rattle.abstract_debugger.specs.Lines.{Line, any_error}
use Rattle.abstract_debugger.specs.Own as entries
use Rattle.abstract_debugger.specs.Plan.{Change, Plan, PlanEnd, changed_board, changed_past}
use Rattle.abstract_debugger.specs.Plan.Plan.{take, on_path, see, change, say, stop}
use Rattle.abstract_debugger.specs.Plan.PlanEnd.{Done}
use Rattle.abstract_debugger.specs.Trace.{Note, Past, noted, trace_of}

-- all that a replay changes
pub record World : Type 0 where
  pub board : Board
  pub past : Past
  pub lines : List Line  -- the first one first

-- how a replay ends
pub data End : Type 0 where
  Clean : End
  WithErrors : End  -- some line is an error line
  NoHalt : (looks : ℕ) → End
  NoAck : (looks : ℕ) → End
  Open : End  -- the journal ends in the middle of the plan
  Astray : End  -- the journal has a point that no plan takes there

pub record Outcome : Type 0 where
  pub world : World
  pub end : End

-- ---- one step of a replay

abbrev pub passed : Point → World → World
passed p w = record w { board = after_point p w.board; past = noted p w.board w.past }

abbrev pub changed : Change → World → World
changed c w = record w { board = changed_board c w.board; past = changed_past c w.past }

abbrev pub said : Line → World → World
said line w = record w { lines = w.lines ++ line ∷ [] }

-- ---- points compared

abbrev pub kind : Point → ℕ
kind (Turn h) = 0
kind (Look n) = 1
kind (HaltReq h) = 2
kind (HaltClear h) = 3
kind (ResumeReq h) = 4
kind Access = 5

abbrev pub number_of : Point → ℕ
number_of (Turn h) = h
number_of (Look n) = n
number_of (HaltReq h) = h
number_of (HaltClear h) = h
number_of (ResumeReq h) = h
number_of Access = 0

abbrev pub same_point : Point → Point → Bool
same_point p q = kind p == kind q && number_of p == number_of q

-- ---- a replay

-- the turns that stand in front, then the point that the plan takes
abbrev pub taking : Point → (World → List Point → Outcome) → World → List Point → Outcome
taking p next w [] = record { world = w; end = Open }
taking p next w (Turn h ∷ journal) = taking p next (passed (Turn h) w) journal
taking p next w (q ∷ journal) = if same_point p q then next (passed q w) journal else record { world = w; end = Astray }

abbrev pub graded : PlanEnd → List Line → End
graded Done lines = if any_error lines then WithErrors else Clean
graded (PlanEnd.NoHalt looks) lines = End.NoHalt looks
graded (PlanEnd.NoAck looks) lines = End.NoAck looks

-- what is left of the journal must be turns
abbrev pub finish : PlanEnd → World → List Point → Outcome
finish end w [] = record { world = w; end = graded end w.lines }
finish end w (Turn h ∷ journal) = finish end (passed (Turn h) w) journal
finish end w (q ∷ journal) = record { world = w; end = Astray }

unfoldable pub replay : Plan → World → List Point → Outcome
replay (take p next) w journal = taking p (replay next) w journal
replay (on_path path next) w journal = replay next w journal
replay (see next) w journal = replay (next w.board) w journal
replay (change what next) w journal = replay next (changed what w) journal
replay (say line next) w journal = replay next (said line w) journal
replay (stop end) w journal = finish end w journal

abbrev pub start : Board → World
start board = record { board = board; past = []; lines = [] }

-- what a session with this script makes of a board along a journal, what it prints, and how it ends
abbrev pub transcript : Board → List Command → List Point → Outcome
transcript board script journal = replay (session script) (start board) journal

-- what happened at the harts, in order
abbrev pub trace : Outcome → List Note
trace o = trace_of o.world.past

-- the run's own entries: those that an undebugged machine has too
abbrev pub own : Board → List Command → List Point → List Entry
own board script journal = entries.own (trace (transcript board script journal))
