-- What a user of software breakpoints sees of a session: its plan replayed over a board without patches, where covered words stop harts.
-- It is this project's own. A plan's changes, lines and ends are those of any session; only a turn is another.
use Rattle.std.specs.Prelude.{List, [], ◌∷◌, if◌then◌else◌}
use Rattle.debug_model.specs.declared.point.Point.{Point}
use Rattle.debug_model.specs.declared.point.Point.TheVariants.{Turn, Look, HaltReq, HaltClear, ResumeReq, Access}
use Rattle.abstract_debugger.specs.Plan.{Plan, PlanEnd}
use Rattle.abstract_debugger.specs.Plan.Plan.{take, on_path, see, change, say, stop}
use Rattle.abstract_debugger.specs.Transcript.{End, Outcome, World, changed, graded, passed, said, same_point}
use Rattle.soft_laws.specs.SoftTurns.{soft_turned}

abbrev pub soft_passed : Point → World → World
soft_passed (Turn h) w = soft_turned h w
soft_passed (Look n) w = passed (Look n) w
soft_passed (HaltReq h) w = passed (HaltReq h) w
soft_passed (HaltClear h) w = passed (HaltClear h) w
soft_passed (ResumeReq h) w = passed (ResumeReq h) w
soft_passed Access w = passed Access w

-- the turns that stand in front, then the point that the plan takes
abbrev pub soft_taking : Point → (World → List Point → Outcome) → World → List Point → Outcome
soft_taking p next w [] = record { world = w; end = End.Open }
soft_taking p next w (Turn h ∷ journal) = soft_taking p next (soft_turned h w) journal
soft_taking p next w (q ∷ journal) = if same_point p q then next (passed q w) journal else record { world = w; end = End.Astray }

-- what is left of the journal must be turns
abbrev pub soft_finish : PlanEnd → World → List Point → Outcome
soft_finish end w [] = record { world = w; end = graded end w.lines }
soft_finish end w (Turn h ∷ journal) = soft_finish end (soft_turned h w) journal
soft_finish end w (q ∷ journal) = record { world = w; end = End.Astray }

unfoldable pub soft_replay : Plan → World → List Point → Outcome
soft_replay (take p next) w journal = soft_taking p (soft_replay next) w journal
soft_replay (on_path path next) w journal = soft_replay next w journal
soft_replay (see next) w journal = soft_replay (next w.board) w journal
soft_replay (change what next) w journal = soft_replay next (changed what w) journal
soft_replay (say line next) w journal = soft_replay next (said line w) journal
soft_replay (stop end) w journal = soft_finish end w journal
