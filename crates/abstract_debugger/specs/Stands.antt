-- How far a session is: what is left of its plan, and how the chip stands to it. It is what the code of a session keeps from call to call.
-- It is this project's own.
use Rattle.std.specs.Prelude.{◌≡◌, ℕ, List, ◌∷◌, ◌++◌, ◌+◌, Bool, true, false, IfSome, Option, Some}
use Rattle.rv_model.specs.Board.{Board, Hart, Machine}
use Rattle.debug_model.specs.declared.point.Point.{Point}
use Rattle.debug_model.specs.declared.point.Point.TheVariants.{Look}
use Rattle.debug_model.specs.Journal.{after_point}
use Rattle.abstract_debugger.specs.Debugger.{Seen, one, seen_at, stepping, until}
use Rattle.abstract_debugger.specs.Known.{IsKnown}
use Rattle.abstract_debugger.specs.Lines.{Line}
use Rattle.abstract_debugger.specs.Plan.{Change, Plan, changed_board, hart_over}
use Rattle.abstract_debugger.specs.Transcript.{End, World, replay}
use Rattle.abstract_debugger.specs.Turns.{after_turns, turns}
use Rattle.abstract_debugger.specs.Ways.{Way}
use Rattle.abstract_debugger.specs.Ways.Way.{Still, Ready}

-- what a session knows of the chip at the far end
pub record Target : Type 0 where
  pub board : Board
  pub journal : List Point

-- where a session began
pub record Origin : Type 0 where
  pub plan : Plan
  pub world : World

-- The journal so far leads from the origin to this plan, whatever comes behind it; these lines have been said.
-- The world is that behind the last point taken, and `rest` are the harts of the turns since then.
pub record Stands (o : Origin) (p : Plan) (lines : List Line) (t : Target) : Type 0 where
  pub world : World
  pub rest : List ℕ
  pub replayed : (more : List Point) → replay o.plan o.world (t.journal ++ more) ≡ replay p world (turns rest ++ more)
  pub board : t.board ≡ after_turns rest world.board
  pub spoken : world.lines ≡ lines

-- and this is known there of the harts
pub record Deals (m : Machine) (selected : ℕ) (way : Way) (o : Origin) (p : Plan) (lines : List Line) (t : Target) : Type 0 where
  pub stands : Stands o p lines t
  pub knows : IsKnown m selected way stands.world

-- ---- what a call on the link makes of the chip

-- some turns, and nothing else
pub record WentOn (old new : Target) : Type 0 where
  pub harts : List ℕ
  pub board : new.board ≡ after_turns harts old.board
  pub journal : new.journal ≡ old.journal ++ turns harts

-- some turns, this point, and some turns more
pub record Pointed (p : Point) (old new : Target) : Type 0 where
  pub before : List ℕ
  pub behind : List ℕ
  pub board : new.board ≡ after_turns behind (after_point p (after_turns before old.board))
  pub journal : new.journal ≡ (old.journal ++ turns before) ++ p ∷ turns behind

-- a Look, and what it showed there
pub record Looked (h : ℕ) (s : Seen) (old new : Target) : Type 0 where
  pub pointed : Pointed (Look h) old new
  pub shows : s ≡ seen_at h (after_turns pointed.before old.board)

-- the same as a point, and with it this change, as the store of an access
pub record PointedWith (p : Point) (c : Change) (old new : Target) : Type 0 where
  pub before : List ℕ
  pub behind : List ℕ
  pub board : new.board ≡ after_turns behind (changed_board c (after_point p (after_turns before old.board)))
  pub journal : new.journal ≡ (old.journal ++ turns before) ++ p ∷ turns behind

-- some turns, and f done to hart h, without a point
pub record Rewrote (f : Hart → Hart) (h : ℕ) (old new : Target) : Type 0 where
  pub harts : List ℕ
  pub board : new.board ≡ hart_over f h (after_turns harts old.board)
  pub journal : new.journal ≡ old.journal ++ turns harts

-- a fault in the course of a call: turns alone, or the call's point too, whose answer was lost
pub data Cut (p : Point) (old new : Target) : Type 0 where
  before : (went : WentOn old new) → Cut p old new
  behind : (pointed : Pointed p old new) → Cut p old new

-- the same of a point with its change
pub data CutWith (p : Point) (c : Change) (old new : Target) : Type 0 where
  before : (went : WentOn old new) → CutWith p c old new
  behind : (pointed : PointedWith p c old new) → CutWith p c old new

-- what is left of a session behind a fault: some plan, and where it stands
pub record Left (o : Origin) (lines : List Line) (t : Target) : Type 0 where
  pub plan : Plan
  pub stands : Stands o plan lines t

-- ---- an object that tells of its chip

pub record IsTold (P : Target → Type 0) (told : Option Target) : Type 0 where
  pub target : Target
  pub is : told ≡ Some target
  pub holds : P target

-- where it told of a chip, it tells of one that stands so to that
abbrev pub Reaches : (Target → Target → Type 0) → (old new : Option Target) → Type 0
Reaches R old new = IfSome old (λ t. IsTold (R t) new)

-- a session deals so with the chip that an object tells of
abbrev pub At : Machine → (selected : ℕ) → Way → Origin → Plan → List Line → (told : Option Target) → Type 0
At m selected way o p lines told = IsTold (Deals m selected way o p lines) told

-- ---- run control, by what it makes of the plan

-- after so many Looks of a wait that did not see what was wanted
abbrev pub Since : Machine → (selected : ℕ) → Way → Origin → (limit : ℕ) → (test : Seen → Bool) → (failed : Seen → Plan) → (found : Plan) → List Line
    → (tries : ℕ) → (now : Option Target) → Type 0
Since m selected way o limit test failed found lines tries now =
    (n : ℕ) → tries + n ≡ limit → (last : Seen) × At m selected way o (until n selected test failed found last) lines now

-- after so many single steps
abbrev pub SoFar : Machine → (selected : ℕ) → Origin → (count : ℕ) → (next : Plan) → List Line → (done : ℕ) → (now : Option Target) → Type 0
SoFar m selected o count next lines done now = (n : ℕ) → done + n ≡ count → At m selected Still o (stepping n selected next) lines now

-- one single step with spent slots off; was it a whole one?
abbrev pub SteppedOver : ℕ → Bool → (old new : Option Target) → Type 0
SteppedOver h true old new =
    (m : Machine) (o : Origin) (lines : List Line) (stepped other : Plan) → At m h Still o (one h stepped other) lines old → At m h Ready o stepped lines new
SteppedOver h false old new =
    (m : Machine) (o : Origin) (lines : List Line) (stepped other : Plan) → At m h Still o (one h stepped other) lines old → At m h Still o other lines new

-- up to so many single steps
abbrev pub Steps : ℕ → ℕ → (old new : Option Target) → Type 0
Steps h count old new =
    (m : Machine) (o : Origin) (lines : List Line) (next : Plan) → At m h Still o (stepping count h next) lines old → At m h Still o next lines new

-- ---- what a session that has stopped shows

pub record IsTranscribed (o : Origin) (end : End) (lines : List Line) (t : Target) : Type 0 where
  pub end_is : (replay o.plan o.world t.journal).end ≡ end
  pub lines_are : (replay o.plan o.world t.journal).world.lines ≡ lines
  pub board_is : (replay o.plan o.world t.journal).world.board ≡ t.board
