-- Turns alone, by the numbers of their harts: what a schedule offers while a debugger takes no point.
-- It is this project's own.
use Rattle.std.specs.Prelude.{ℕ, List, [], ◌∷◌}
use Rattle.rv_model.specs.Board.{Board}
use Rattle.rv_model.specs.Turn.{turn}
use Rattle.debug_model.specs.declared.point.Point.{Point}
use Rattle.debug_model.specs.declared.point.Point.TheVariants.{Turn}

abbrev pub turns : List ℕ → List Point
turns [] = []
turns (h ∷ harts) = Turn h ∷ turns harts

abbrev pub after_turns : List ℕ → Board → Board
after_turns [] b = b
after_turns (h ∷ harts) b = after_turns harts (turn h b)
