-- What the counts are at the text of printed lines.
use Rattle.std.specs.Prelude.{◌≡◌, List, length, map, count_by}
use Rattle.abstract_debugger.specs.Lines.{Line, is_error, words_of_line, text_of_all}
use Rattle.line_counts.specs.Counts.{whole_lines, lines_in, errors_in}

-- the whole lines of a session's text are its lines
abbrev pub LinesAreWhole : Type 0
LinesAreWhole = (lines : List Line) → whole_lines (text_of_all lines) ≡ map words_of_line lines

abbrev pub LinesAreCounted : Type 0
LinesAreCounted = (lines : List Line) → lines_in (text_of_all lines) ≡ length lines

abbrev pub ErrorsAreCounted : Type 0
ErrorsAreCounted = (lines : List Line) → errors_in (text_of_all lines) ≡ count_by is_error lines
