-- The three lines that a run prints whose session was made from a number.
-- They are this project's own (docs/FORMATS.md, "A session from a number").
use Rattle.std.specs.Prelude.{ℕ, ◌-◌, ◌^◌, List, [], ◌∷◌, ◌++◌, codes, decimal, length, min}
use Rattle.debug_model.specs.ScriptText.{line_feed}
use Rattle.debug_model.specs.declared.command.Command.{Command}
use Rattle.line_counts.specs.Counts.{errors_in, lines_in}

abbrev pub counted_line : List ℕ → ℕ → List ℕ
counted_line what count = what ++ decimal count ++ line_feed ∷ []

abbrev pub summary : ℕ → ℕ → ℕ → List ℕ
summary commands errors lines = counted_line (codes "commands ") commands ++ (counted_line (codes "errors ") errors ++ counted_line (codes "lines ") lines)

-- a count stands still at its type's end
abbrev pub shown_count : ℕ → ℕ
shown_count count = min count (2 ^ 64 - 1)

-- of a script, and of the bytes that its session has put
abbrev pub summary_of : List Command → List ℕ → List ℕ
summary_of script taken = summary (length script) (shown_count (errors_in taken)) (shown_count (lines_in taken))
