-- The lines of a script's first commands stand in front, along the same journal: a plan says no less where more follows it.
use Rattle.std.proofs.Common.{List, [], ◌∷◌, ◌++◌}
use Rattle.std.proofs.Common.{sym, subst}
use Rattle.rv_model.specs.Board.{Board}
use Rattle.debug_model.specs.declared.command.Command.{Command}
use Rattle.debug_model.specs.declared.command.Path.{Path}
use Rattle.debug_model.specs.declared.point.Point.{Point}
use Rattle.debug_model.specs.declared.point.Point.TheVariants.{Turn, Look, HaltReq, HaltClear, ResumeReq, Access}
use Rattle.abstract_debugger.specs.Debugger.{State}
use Rattle.abstract_debugger.specs.Debugger.{commands, first_state}
use Rattle.abstract_debugger.specs.Laws.{CommandsSpeakInOrder, IsFront}
use Rattle.abstract_debugger.specs.Lines.{Line}
use Rattle.abstract_debugger.specs.Plan.{Change, Plan, PlanEnd}
use Rattle.abstract_debugger.specs.Plan.Change.{EbreakHalts}
use Rattle.abstract_debugger.specs.Plan.Plan.{take, on_path, see, change, say, stop}
use Rattle.abstract_debugger.specs.Plan.PlanEnd.{Done}
use Rattle.abstract_debugger.specs.Transcript.{World, changed, passed, replay, said, same_point, start, taking}
use Rattle.abstract_debugger.proofs.FrontLemmas.{either-fronts, finish-lines, front_same, lines_grow}
use Rattle.abstract_debugger.proofs.WalkLemmas.{Walks, act-walks, walk-look}

-- along every journal, the first plan's lines are the front of the second's
record Fronts (p q : Plan) : Type 0 where
  goes : (w : World) (j : List Point) → IsFront (replay p w j).world.lines (replay q w j).world.lines

-- ---- the six constructors

taking-fronts : (q : Point) (next more : Plan) → Fronts next more → (w : World) (j : List Point)
    → IsFront (taking q (replay next) w j).world.lines (taking q (replay more) w j).world.lines
taking-fronts q next more f w [] = front_same w.lines
taking-fronts q next more f w (Turn h ∷ j) = taking-fronts q next more f (passed (Turn h) w) j
taking-fronts q next more f w (Look n ∷ j) = either-fronts (same_point q (Look n)) _ _ _ _ (f.goes (passed (Look n) w) j) (front_same w.lines)
taking-fronts q next more f w (HaltReq h ∷ j) = either-fronts (same_point q (HaltReq h)) _ _ _ _ (f.goes (passed (HaltReq h) w) j) (front_same w.lines)
taking-fronts q next more f w (HaltClear h ∷ j) = either-fronts (same_point q (HaltClear h)) _ _ _ _ (f.goes (passed (HaltClear h) w) j) (front_same w.lines)
taking-fronts q next more f w (ResumeReq h ∷ j) = either-fronts (same_point q (ResumeReq h)) _ _ _ _ (f.goes (passed (ResumeReq h) w) j) (front_same w.lines)
taking-fronts q next more f w (Access ∷ j) = either-fronts (same_point q Access) _ _ _ _ (f.goes (passed Access w) j) (front_same w.lines)

f-take : (q : Point) (next more : Plan) → Fronts next more → Fronts (take q next) (take q more)
unfolding replay
f-take q next more f = record { goes = taking-fronts q next more f }

f-on_path : (path : Path) (next more : Plan) → Fronts next more → Fronts (on_path path next) (on_path path more)
unfolding replay
f-on_path path next more f = record { goes = λ w j. f.goes w j }

f-see : (next more : Board → Plan) → ((b : Board) → Fronts (next b) (more b)) → Fronts (see next) (see more)
unfolding replay
f-see next more f = record { goes = λ w j. (f w.board).goes w j }

f-change : (c : Change) (next more : Plan) → Fronts next more → Fronts (change c next) (change c more)
unfolding replay
f-change c next more f = record { goes = λ w j. f.goes (changed c w) j }

f-say : (line : Line) (next more : Plan) → Fronts next more → Fronts (say line next) (say line more)
unfolding replay
f-say line next more f = record { goes = λ w j. f.goes (said line w) j }

-- a plan that stops is the front of any
f-stop : (e : PlanEnd) (p : Plan) → Fronts (stop e) p
unfolding replay
f-stop e p = record { goes = λ w j. subst (λ lines. IsFront lines (replay p w j).world.lines) (sym (finish-lines e w j)) (lines_grow p w j) }

-- what stands in front stays in front, however plans are put together
fronts-walk : Walks (λ c. Unit {0}) Fronts
fronts-walk = record {
  takes = f-take;
  paths = f-on_path;
  sees = f-see;
  says = f-say;
  changes = λ c usual. f-change c;
  ebreaks = λ h on allowed. f-change (EbreakHalts h on);
  loses = λ e lost. f-stop e (stop e);
  ends = λ allowed. f-stop Done (stop Done);
}

-- ---- the commands

commands-fronts : (before after : List Command) (s : State) → Fronts (commands before s) (commands (before ++ after) s)
commands-fronts [] after s = f-stop Done (commands after s)
commands-fronts (c ∷ cs) after s = act-walks fronts-walk c s (commands cs) (commands (cs ++ after)) tt (commands-fronts cs after)

pub commands_speak_in_order : CommandsSpeakInOrder
commands_speak_in_order board before after journal =
    (walk-look fronts-walk 0 (λ seen. commands before first_state) (λ seen. commands (before ++ after) first_state)
    (λ seen. commands-fronts before after first_state)).goes
    (start board) journal
