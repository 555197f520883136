-- What one more byte does to the whole lines of a text and to the line behind them.
use Rattle.std.proofs.Common.{◌≡◌, ℕ, ◌<◌, Bool, false, ◌==◌, List, [], ◌∷◌, ◌++◌, length, refl, sym, ◌∙◌}
use Rattle.debug_model.specs.ScriptText.{line_feed, lines_of}
use Rattle.line_counts.specs.Counts.{whole_lines}
use Rattle.line_counts.specs.Place.{unfinished_line}
use Rattle.line_counts.proofs.SplitLemmas.{some_part, slice_split-append_yes, slice_split-append_no, all_but_last-append, all_but_last-whole}
use Rattle.line_counts.proofs.SplitLemmas.{all_but_last-onto_last, last_of-append, last_of-onto_last}

abbrev is_feed : ℕ → Bool
is_feed byte = byte == line_feed

some_line : (text : List ℕ) → 0 < length (lines_of text)
some_line text = some_part is_feed text

pub whole_lines-nil : whole_lines [] ≡ []
unfolding whole_lines
whole_lines-nil = refl

pub unfinished_line-nil : unfinished_line [] ≡ []
unfolding unfinished_line
unfinished_line-nil = refl

pub whole_lines-feed : (text : List ℕ) → whole_lines (text ++ line_feed ∷ []) ≡ whole_lines text ++ unfinished_line text ∷ []
unfolding whole_lines unfinished_line
whole_lines-feed text =
    let split = slice_split-append_yes is_feed text line_feed refl in
    rw split (all_but_last-append (lines_of text) [] ∙ sym (all_but_last-whole (lines_of text) (some_line text)))

pub unfinished_line-feed : (text : List ℕ) → unfinished_line (text ++ line_feed ∷ []) ≡ []
unfolding unfinished_line
unfinished_line-feed text =
    let split = slice_split-append_yes is_feed text line_feed refl in rw split (last_of-append (lines_of text) [])

pub whole_lines-more : (text : List ℕ) (byte : ℕ) → (byte == line_feed) ≡ false → whole_lines (text ++ byte ∷ []) ≡ whole_lines text
unfolding whole_lines
whole_lines-more text byte other =
    let split = slice_split-append_no is_feed text byte other in rw split (all_but_last-onto_last byte (lines_of text))

pub unfinished_line-more : (text : List ℕ) (byte : ℕ) → (byte == line_feed) ≡ false → unfinished_line (text ++ byte ∷ []) ≡ unfinished_line text ++ byte ∷ []
unfolding unfinished_line
unfinished_line-more text byte other =
    let split = slice_split-append_no is_feed text byte other in rw split (last_of-onto_last byte (lines_of text) (some_line text))
