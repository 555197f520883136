-- How the text of a script parts into lines, a line into its content and a comment, and the content into words.
-- The format is this project's own (docs/SCRIPT.md, "Lines").
use Rattle.std.specs.Prelude.{ℕ, Bool, true, false, ◌||◌, ◌&&◌, ◌==◌, nat_le, List, [], ◌∷◌, filter}
use Rattle.std.specs.List.{slice_split, before_first, list_all}

abbrev pub tab : ℕ
tab = 9

abbrev pub line_feed : ℕ
line_feed = 10

abbrev pub carriage_return : ℕ
carriage_return = 13

abbrev pub space : ℕ
space = 32

abbrev pub number_sign : ℕ
number_sign = 35

abbrev pub tilde : ℕ
tilde = 126

-- The text cut at each line feed. What follows the last line feed is a line too, with no word where nothing follows.
abbrev pub lines_of : List ℕ → List (List ℕ)
lines_of text = slice_split (λ byte. byte == line_feed) text

-- a line without its comment, which the first number sign starts
unfoldable pub content_of : List ℕ → List ℕ
content_of line = before_first (λ byte. byte == number_sign) line

-- what parts words
abbrev pub is_blank : ℕ → Bool
is_blank byte = byte == space || byte == tab || byte == carriage_return

-- what may stand outside comments
abbrev pub is_allowed : ℕ → Bool
is_allowed byte = is_blank byte || (nat_le space byte && nat_le byte tilde)

abbrev pub is_plain : List ℕ → Bool
is_plain content = list_all is_allowed content

abbrev pub is_not_empty : {A : Type 0} → List A → Bool
is_not_empty [] = false
is_not_empty (x ∷ xs) = true

-- the words: the longest runs of bytes that are no blanks
unfoldable pub words_of : List ℕ → List (List ℕ)
words_of content = filter is_not_empty (slice_split is_blank content)
