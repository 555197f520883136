-- The whole lines of a text, and how many of them tell an error.
-- A line is whole once a line feed ends it. The lines are this project's own (docs/FORMATS.md, "Printed lines").
use Rattle.std.specs.Prelude.{ℕ, Bool, nat_eq, List, [], ◌∷◌, length, codes, count_by}
use Rattle.std.specs.List.{starts_with}
use Rattle.debug_model.specs.ScriptText.{lines_of}

abbrev pub all_but_last : {A : Type 0} → List A → List A
all_but_last [] = []
all_but_last (x ∷ []) = []
all_but_last (x ∷ y ∷ ys) = x ∷ all_but_last (y ∷ ys)

-- the lines that a line feed ends, each without it; what stands behind the last line feed is no whole line
unfoldable pub whole_lines : List ℕ → List (List ℕ)
whole_lines text = all_but_last (lines_of text)

abbrev pub lines_in : List ℕ → ℕ
lines_in text = length (whole_lines text)

-- what a line begins with that tells an error
abbrev pub error_mark : List ℕ
error_mark = codes "error: "

abbrev pub tells_error : List ℕ → Bool
tells_error line = starts_with nat_eq line error_mark

abbrev pub errors_in : List ℕ → ℕ
errors_in text = count_by tells_error (whole_lines text)
