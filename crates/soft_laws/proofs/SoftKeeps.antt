-- What points, changes and lines keep, a whole replay keeps that a user of software breakpoints sees: one induction on plans.
use Rattle.std.proofs.Common.{List, [], ◌∷◌, Bool, true, false, if◌then◌else◌}
use Rattle.debug_model.specs.declared.point.Point.{Point}
use Rattle.debug_model.specs.declared.point.Point.TheVariants.{Turn, Look, HaltReq, HaltClear, ResumeReq, Access}
use Rattle.abstract_debugger.specs.Lines.{Line}
use Rattle.abstract_debugger.specs.Plan.{Change, Plan, PlanEnd}
use Rattle.abstract_debugger.specs.Plan.Plan.{take, on_path, see, change, say, stop}
use Rattle.abstract_debugger.specs.Transcript.{World, Outcome, changed, said, same_point}
use Rattle.soft_laws.specs.SoftReplay.{soft_finish, soft_passed, soft_replay, soft_taking}
use Rattle.soft_laws.specs.SoftTurns.{soft_turned}

pub record SoftKeeps (P : World → Type 0) : Type 0 where
  pub passes : (q : Point) (w : World) → P w → P (soft_passed q w)
  pub changes : (c : Change) (w : World) → P w → P (changed c w)
  pub says : (line : Line) (w : World) → P w → P (said line w)

either : (P : World → Type 0) (b : Bool) (x y : Outcome) → P x.world → P y.world → P (if b then x else y).world
either P true x y px py = px
either P false x y px py = py

pub soft-taking-keeps : (P : World → Type 0) (k : SoftKeeps P) (p : Point) (next : World → List Point → Outcome)
    → ((w : World) (j : List Point) → P w → P (next w j).world)
    → (w : World) (j : List Point) → P w → P (soft_taking p next w j).world
soft-taking-keeps P k p next goes w [] is = is
soft-taking-keeps P k p next goes w (Turn h ∷ j) is = soft-taking-keeps P k p next goes (soft_turned h w) j (k.passes (Turn h) w is)
soft-taking-keeps P k p next goes w (Look h ∷ j) is = either P (same_point p (Look h)) _ _ (goes _ j (k.passes (Look h) w is)) is
soft-taking-keeps P k p next goes w (HaltReq h ∷ j) is = either P (same_point p (HaltReq h)) _ _ (goes _ j (k.passes (HaltReq h) w is)) is
soft-taking-keeps P k p next goes w (HaltClear h ∷ j) is = either P (same_point p (HaltClear h)) _ _ (goes _ j (k.passes (HaltClear h) w is)) is
soft-taking-keeps P k p next goes w (ResumeReq h ∷ j) is = either P (same_point p (ResumeReq h)) _ _ (goes _ j (k.passes (ResumeReq h) w is)) is
soft-taking-keeps P k p next goes w (Access ∷ j) is = either P (same_point p Access) _ _ (goes _ j (k.passes Access w is)) is

pub soft-finish-keeps : (P : World → Type 0) (k : SoftKeeps P) (end : PlanEnd) (w : World) (j : List Point) → P w → P (soft_finish end w j).world
soft-finish-keeps P k end w [] is = is
soft-finish-keeps P k end w (Turn h ∷ j) is = soft-finish-keeps P k end (soft_turned h w) j (k.passes (Turn h) w is)
soft-finish-keeps P k end w (Look h ∷ j) is = is
soft-finish-keeps P k end w (HaltReq h ∷ j) is = is
soft-finish-keeps P k end w (HaltClear h ∷ j) is = is
soft-finish-keeps P k end w (ResumeReq h ∷ j) is = is
soft-finish-keeps P k end w (Access ∷ j) is = is

pub soft-replay-keeps : (P : World → Type 0) (k : SoftKeeps P) (p : Plan) (w : World) (j : List Point) → P w → P (soft_replay p w j).world
unfolding soft_replay
soft-replay-keeps P k (take p next) w j is = soft-taking-keeps P k p (soft_replay next) (soft-replay-keeps P k next) w j is
soft-replay-keeps P k (on_path path next) w j is = soft-replay-keeps P k next w j is
soft-replay-keeps P k (see next) w j is = soft-replay-keeps P k (next w.board) w j is
soft-replay-keeps P k (change c next) w j is = soft-replay-keeps P k next (changed c w) j (k.changes c w is)
soft-replay-keeps P k (say line next) w j is = soft-replay-keeps P k next (said line w) j (k.says line w is)
soft-replay-keeps P k (stop end) w j is = soft-finish-keeps P k end w j is
