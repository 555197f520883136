-- What points, changes and lines keep, a whole replay keeps: one induction on plans, with no case for a command.
use Rattle.std.proofs.Common.{List, [], ◌∷◌, Bool, true, false, if◌then◌else◌}
use Rattle.debug_model.specs.declared.point.Point.{Point}
use Rattle.debug_model.specs.declared.point.Point.TheVariants.{Turn, Look, HaltReq, HaltClear, ResumeReq, Access}
use Rattle.abstract_debugger.specs.Lines.{Line}
use Rattle.abstract_debugger.specs.Plan.{Change, Plan, PlanEnd}
use Rattle.abstract_debugger.specs.Plan.Plan.{take, on_path, see, change, say, stop}
use Rattle.abstract_debugger.specs.Transcript.{World, Outcome, changed, finish, passed, replay, said, same_point, taking}

pub record Keeps (P : World → Type 0) : Type 0 where
  pub passes : (q : Point) (w : World) → P w → P (passed q w)
  pub changes : (c : Change) (w : World) → P w → P (changed c w)
  pub says : (line : Line) (w : World) → P w → P (said line w)

either : (P : World → Type 0) (b : Bool) (x y : Outcome) → P x.world → P y.world → P (if b then x else y).world
either P true x y px py = px
either P false x y px py = py

pub taking-keeps : (P : World → Type 0) (k : Keeps P) (p : Point) (next : World → List Point → Outcome)
    → ((w : World) (j : List Point) → P w → P (next w j).world)
    → (w : World) (j : List Point) → P w → P (taking p next w j).world
taking-keeps P k p next goes w [] is = is
taking-keeps P k p next goes w (Turn h ∷ j) is = taking-keeps P k p next goes (passed (Turn h) w) j (k.passes (Turn h) w is)
taking-keeps P k p next goes w (Look h ∷ j) is = either P (same_point p (Look h)) _ _ (goes _ j (k.passes (Look h) w is)) is
taking-keeps P k p next goes w (HaltReq h ∷ j) is = either P (same_point p (HaltReq h)) _ _ (goes _ j (k.passes (HaltReq h) w is)) is
taking-keeps P k p next goes w (HaltClear h ∷ j) is = either P (same_point p (HaltClear h)) _ _ (goes _ j (k.passes (HaltClear h) w is)) is
taking-keeps P k p next goes w (ResumeReq h ∷ j) is = either P (same_point p (ResumeReq h)) _ _ (goes _ j (k.passes (ResumeReq h) w is)) is
taking-keeps P k p next goes w (Access ∷ j) is = either P (same_point p Access) _ _ (goes _ j (k.passes Access w is)) is

pub finish-keeps : (P : World → Type 0) (k : Keeps P) (end : PlanEnd) (w : World) (j : List Point) → P w → P (finish end w j).world
finish-keeps P k end w [] is = is
finish-keeps P k end w (Turn h ∷ j) is = finish-keeps P k end (passed (Turn h) w) j (k.passes (Turn h) w is)
finish-keeps P k end w (Look h ∷ j) is = is
finish-keeps P k end w (HaltReq h ∷ j) is = is
finish-keeps P k end w (HaltClear h ∷ j) is = is
finish-keeps P k end w (ResumeReq h ∷ j) is = is
finish-keeps P k end w (Access ∷ j) is = is

pub replay-keeps : (P : World → Type 0) (k : Keeps P) (p : Plan) (w : World) (j : List Point) → P w → P (replay p w j).world
unfolding replay
replay-keeps P k (take p next) w j is = taking-keeps P k p (replay next) (replay-keeps P k next) w j is
replay-keeps P k (on_path path next) w j is = replay-keeps P k next w j is
replay-keeps P k (see next) w j is = replay-keeps P k (next w.board) w j is
replay-keeps P k (change c next) w j is = replay-keeps P k next (changed c w) j (k.changes c w is)
replay-keeps P k (say line next) w j is = replay-keeps P k next (said line w) j (k.says line w is)
replay-keeps P k (stop end) w j is = finish-keeps P k end w j is
