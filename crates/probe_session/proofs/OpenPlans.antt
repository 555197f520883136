-- A journal that ends in the middle of a script's first commands: whatever commands follow them, nothing more happens along it.
use Rattle.std.proofs.Common.{◌≡◌, List, [], ◌∷◌, ◌++◌, Bool, true, false, refl, if◌then◌else◌}
use Rattle.std.specs.Prelude.{◌≢◌}
use Rattle.rv_model.specs.Board.{Board}
use Rattle.debug_model.specs.declared.command.Command.{Command}
use Rattle.debug_model.specs.declared.command.Path.{Path}
use Rattle.debug_model.specs.declared.point.Point.{Point}
use Rattle.debug_model.specs.declared.point.Point.TheVariants.{Turn, Look, HaltReq, HaltClear, ResumeReq, Access}
use Rattle.abstract_debugger.specs.Debugger.{State, commands, first_state}
use Rattle.abstract_debugger.specs.Lines.{Line, any_error}
use Rattle.abstract_debugger.specs.Plan.{Change, Plan, PlanEnd}
use Rattle.abstract_debugger.specs.Plan.Change.{EbreakHalts}
use Rattle.abstract_debugger.specs.Plan.Plan.{take, on_path, see, change, say, stop}
use Rattle.abstract_debugger.specs.Plan.PlanEnd.{Done}
use Rattle.abstract_debugger.specs.Transcript.{End, Outcome, World, changed, finish, graded, passed, replay, said, same_point, start, taking, transcript}
use Rattle.abstract_debugger.proofs.WalkLemmas.{Walks, act-walks, walk-look}

-- where a journal ends in the middle of the first plan, the second one does the same along it
record Opens (p q : Plan) : Type 0 where
  goes : (w : World) (j : List Point) → (replay p w j).end ≡ End.Open → replay q w j ≡ replay p w j

either-open : (b : Bool) (x y x' : Outcome) → (x.end ≡ End.Open → x' ≡ x) → (if b then x else y).end ≡ End.Open
    → (if b then x' else y) ≡ (if b then x else y)
either-open true x y x' f is_open = f is_open
either-open false x y x' f is_open = refl

taking-opens : (q : Point) (next more : Plan) → Opens next more → (w : World) (j : List Point) → (taking q (replay next) w j).end ≡ End.Open
    → taking q (replay more) w j ≡ taking q (replay next) w j
taking-opens q next more f w [] is_open = refl
taking-opens q next more f w (Turn h ∷ j) is_open = taking-opens q next more f (passed (Turn h) w) j is_open
taking-opens q next more f w (Look n ∷ j) is_open = either-open (same_point q (Look n)) _ _ _ (f.goes (passed (Look n) w) j) is_open
taking-opens q next more f w (HaltReq h ∷ j) is_open = either-open (same_point q (HaltReq h)) _ _ _ (f.goes (passed (HaltReq h) w) j) is_open
taking-opens q next more f w (HaltClear h ∷ j) is_open = either-open (same_point q (HaltClear h)) _ _ _ (f.goes (passed (HaltClear h) w) j) is_open
taking-opens q next more f w (ResumeReq h ∷ j) is_open = either-open (same_point q (ResumeReq h)) _ _ _ (f.goes (passed (ResumeReq h) w) j) is_open
taking-opens q next more f w (Access ∷ j) is_open = either-open (same_point q Access) _ _ _ (f.goes (passed Access w) j) is_open

o-take : (q : Point) (next more : Plan) → Opens next more → Opens (take q next) (take q more)
unfolding replay
o-take q next more f = record { goes = taking-opens q next more f }

o-on_path : (path : Path) (next more : Plan) → Opens next more → Opens (on_path path next) (on_path path more)
unfolding replay
o-on_path path next more f = record { goes = λ w j. f.goes w j }

o-see : (next more : Board → Plan) → ((b : Board) → Opens (next b) (more b)) → Opens (see next) (see more)
unfolding replay
o-see next more f = record { goes = λ w j. (f w.board).goes w j }

o-change : (c : Change) (next more : Plan) → Opens next more → Opens (change c next) (change c more)
unfolding replay
o-change c next more f = record { goes = λ w j. f.goes (changed c w) j }

o-say : (line : Line) (next more : Plan) → Opens next more → Opens (say line next) (say line more)
unfolding replay
o-say line next more f = record { goes = λ w j. f.goes (said line w) j }

o-stop : (e : PlanEnd) → Opens (stop e) (stop e)
o-stop e = record { goes = λ w j is_open. refl }

-- a plan that has stopped is not open
graded-ends : (lines : List Line) → graded Done lines ≢ End.Open
graded-ends lines = by (any_error lines)
  where
    by : (b : Bool) → (if b then End.WithErrors else End.Clean) ≢ End.Open
    by true = λ e. cc
    by false = λ e. cc

finish-ends : (w : World) (j : List Point) → (finish Done w j).end ≢ End.Open
finish-ends w [] = graded-ends w.lines
finish-ends w (Turn h ∷ j) = finish-ends (passed (Turn h) w) j
finish-ends w (Look n ∷ j) = λ e. cc
finish-ends w (HaltReq h ∷ j) = λ e. cc
finish-ends w (HaltClear h ∷ j) = λ e. cc
finish-ends w (ResumeReq h ∷ j) = λ e. cc
finish-ends w (Access ∷ j) = λ e. cc

o-done : (p : Plan) → Opens (stop Done) p
unfolding replay
o-done p = record { goes = λ w j is_open. absurd (finish-ends w j is_open) }

opens-walk : Walks (λ c. Unit {0}) Opens
opens-walk = record {
  takes = o-take;
  paths = o-on_path;
  sees = o-see;
  says = o-say;
  changes = λ c usual. o-change c;
  ebreaks = λ h on allowed. o-change (EbreakHalts h on);
  loses = λ e lost. o-stop e;
  ends = λ allowed. o-stop Done;
}

commands-open : (front rest : List Command) (s : State) → Opens (commands front s) (commands (front ++ rest) s)
commands-open [] rest s = o-done (commands rest s)
commands-open (c ∷ cs) rest s = act-walks opens-walk c s (commands cs) (commands (cs ++ rest)) tt (commands-open cs rest)

pub open_front : (board : Board) (front rest : List Command) (journal : List Point) → (transcript board front journal).end ≡ End.Open
    → transcript board (front ++ rest) journal ≡ transcript board front journal
open_front board front rest journal is_open =
    (walk-look opens-walk 0 (λ seen. commands front first_state) (λ seen. commands (front ++ rest) first_state)
    (λ seen. commands-open front rest first_state)).goes (start board) journal is_open
