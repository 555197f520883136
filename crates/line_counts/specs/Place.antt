-- Where in its line a text ends: how far the line is along the words that begin an error line.
-- No public standard defines this.
use Rattle.std.specs.Prelude.{◌≡◌, ℕ, suc, ◌-◌, ◌^◌, min, if◌then◌else◌, ◌==◌, List, [], ◌∷◌}
use Rattle.debug_model.specs.ScriptText.{lines_of}
use Rattle.line_counts.specs.Counts.{error_mark, lines_in, errors_in}
use Rattle.line_counts.specs.declared.place.Place.{Place}
use Rattle.line_counts.specs.declared.place.Place.TheVariants.{Matching, Error, Other}

-- the place in a line, where `count` bytes matched before and `mark` is what has to follow
abbrev pub place_along : List ℕ → List ℕ → ℕ → Place
place_along [] line count = Error
place_along (m ∷ mark) [] count = Matching count
place_along (m ∷ mark) (byte ∷ line) count = if m == byte then place_along mark line (suc count) else Other

abbrev pub place_of : List ℕ → Place
place_of line = place_along error_mark line 0

abbrev pub last_of : List (List ℕ) → List ℕ
last_of [] = []
last_of (line ∷ []) = line
last_of (line ∷ next ∷ lines) = last_of (next ∷ lines)

-- what stands behind the last line feed
unfoldable pub unfinished_line : List ℕ → List ℕ
unfinished_line text = last_of (lines_of text)

-- two counts and a place are those of a text; a count stands still at its type's end
pub record AreCountsOf (lines errors : ℕ) (place : Place) (text : List ℕ) : Type 0 where
  pub lines_are : lines ≡ min (lines_in text) (2 ^ 64 - 1)
  pub errors_are : errors ≡ min (errors_in text) (2 ^ 64 - 1)
  pub place_is : place ≡ place_of (unfinished_line text)
