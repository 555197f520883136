-- How the lines of a text are read in a language of commands: a line is no command, one command or a fault, and a text is a script or has a first faulty
-- line. A language is what a line's first word, with the words after it, is as a command. The format is this project's own (docs/SCRIPT.md, "Lines").
use Rattle.std.specs.Prelude.{◌≡◌, ◌⊎◌, ℕ, ◌+◌, ◌-◌, ◌^◌, ◌<◌, ◌≤◌, Bool, ◌&&◌, min, nat_le, List, [], ◌∷◌, ◌++◌, length, map, filter_map, Option, Some, None}
use Rattle.std.specs.Prelude.{Result, Ok, Err, if◌then◌else◌}
use Rattle.debug_model.specs.declared.script_error.ScriptError.{ScriptError}
use Rattle.debug_model.specs.declared.script_error.ScriptFault.{ScriptFault}
use Rattle.debug_model.specs.declared.script_error.ScriptFault.TheVariants.{NotAscii, Extra, TooManyLines}
use Rattle.debug_model.specs.Command.{most_commands}
use Rattle.debug_model.specs.ScriptText.{lines_of, content_of, is_plain, is_not_empty, words_of}
use Rattle.debug_model.specs.ScriptArguments.{Words, Taken, ◌>>=◌}

-- the command that a word names, with its arguments from the words after it
abbrev pub Language : Type 0 → Type 0
Language C = List ℕ → Words → Taken C

-- what a line can be, beside a fault: a command, or none
abbrev pub ReadingOf : Type 0 → Type 0
ReadingOf C = Result (Option C) ScriptFault

-- a command takes every word of its line
unfoldable pub finished : {C : Type 0} → C × Words → Result C ScriptFault
finished (command, []) = Ok command
finished (command, word ∷ rest) = Err Extra

-- the words of a line
unfoldable pub words_read_in : {C : Type 0} → Language C → Words → ReadingOf C
words_read_in language [] = Ok None
words_read_in language (name ∷ words) = do
  taken ← language name words
  command ← finished taken
  Ok (Some command)

-- a line by itself
unfoldable pub line_read_in : {C : Type 0} → Language C → List ℕ → ReadingOf C
line_read_in language line = if is_plain (content_of line) then words_read_in language (words_of (content_of line)) else Err NotAscii

abbrev pub has_words : List ℕ → Bool
has_words line = is_not_empty (words_of (content_of line))

-- a line after lines with so many commands
unfoldable pub line_read_after_in : {C : Type 0} → Language C → ℕ → List ℕ → ReadingOf C
line_read_after_in language count line =
    if is_plain (content_of line) && has_words line && nat_le most_commands count then Err TooManyLines else line_read_in language line

-- no line has a fault, and these are the lines' commands
pub record AreReadIn {C : Type 0} (language : Language C) (lines : List (List ℕ)) (commands : List C) : Type 0 where
  pub readings : List (Option C)
  pub each : map (line_read_in language) lines ≡ map Ok readings
  pub commands_of : commands ≡ filter_map (λ reading. reading) readings

-- the most bytes of a text
abbrev pub most_text : ℕ
most_text = 1048576

-- the text is a script with these commands
pub record IsReadIn {C : Type 0} (language : Language C) (text : List ℕ) (commands : List C) : Type 0 where
  pub short : length text ≤ most_text
  pub few : length commands ≤ most_commands
  pub lines : AreReadIn language (lines_of text) commands

-- a line's number as a refusal carries it: the greatest u32 for those past it
abbrev pub line_number : ℕ → ℕ
line_number n = min n (2 ^ 32 - 1)

-- the first faulty line of a text that isn't too long, counted from 1, and its fault
pub record HasFirstFaultIn {C : Type 0} (language : Language C) (text : List ℕ) (line : ℕ) (fault : ScriptFault) : Type 0 where
  pub short : length text ≤ most_text
  pub before : List (List ℕ)
  pub commands : List C
  pub faulty : List ℕ
  pub after : List (List ℕ)
  pub cut : lines_of text ≡ before ++ (faulty ∷ after)
  pub few : length commands ≤ most_commands
  pub read : AreReadIn language before commands
  pub fault_is : line_read_after_in language (length commands) faulty ≡ Err fault
  pub place : line ≡ line_number (length before + 1)

-- a text over the limit is refused as a whole, before a line is read
abbrev pub too_long : ScriptError
too_long = record { line = 0; fault = TooManyLines }

-- the text is refused so: for its length, or else by its first faulty line
abbrev pub IsRefusedIn : {C : Type 0} → Language C → List ℕ → ScriptError → Type 0
IsRefusedIn language text error = ((most_text < length text) × (error ≡ too_long)) ⊎ HasFirstFaultIn language text error.line error.fault
