-- What a function that reads an argument returned, and the words that it left, in the grammar's words.
-- The grammar is that of debug_model; this file states it of the code's cursor over the words.
use Rattle.std.specs.Prelude.{◌≡◌, ◌<◌, ◌≤◌, ℕ, List, [], ◌∷◌, Result, Ok, Err, Option, Some, None, is_some, true, false, ⊤}
use denote.Ref.{Bor}
use Rattle.debug_model.specs.declared.script_error.ScriptFault.{ScriptFault}
use Rattle.debug_model.specs.declared.script_error.ScriptFault.TheVariants.{NotAscii, UnknownWord, Missing, Extra, TooManyLines}
use Rattle.debug_model.specs.Command.{most_commands}
use Rattle.debug_model.specs.ScriptArguments.{Words, Taken}
use Rattle.debug_model.specs.ScriptForms.{Form}
use Rattle.debug_model.specs.ScriptText.{content_of, is_not_empty, is_plain, words_of}
use Rattle.debug_model.specs.declared.command.Command.{Command}

-- the value and the words that are left, or the fault
abbrev pub Takes : {A : Type 0} → Result A ScriptFault → Words → Taken A → Type 0
Takes (Ok x) left taken = taken ≡ Ok (x, left)
Takes (Err fault) left taken = taken ≡ Err fault

-- the next word, or that it is missing
abbrev pub TakesWord : Result (Bor (List ℕ)) ScriptFault → Words → Words → Type 0
TakesWord (Ok word) left words = words ≡ word.now ∷ left
TakesWord (Err fault) left words = (words ≡ []) × (fault ≡ Missing)

-- what the form of a word takes, where a table has the word
abbrev pub taken_by : Option Form → Form
taken_by (Some form) words = form words
taken_by None words = Err UnknownWord

-- a table has the word, and its form takes these words; or it hasn't, and none is taken
abbrev pub TakesBy : Option (Result Command ScriptFault) → Words → Words → Option Form → Type 0
TakesBy (Some taken) old left form = (is_some form ≡ true) × Takes taken left (taken_by form old)
TakesBy None old left form = (form ≡ None) × (left ≡ old)

-- ---- a line

-- these are its words, and there may be a command more
pub record Shows (count : ℕ) (line : List ℕ) (words : Words) : Type 0 where
  pub plain : is_plain (content_of line) ≡ true
  pub are : words ≡ words_of (content_of line)
  pub room : is_not_empty words ≡ true → count < most_commands

-- it can't be read, whatever its words are
pub data IsFaulty (count : ℕ) (line : List ℕ) (fault : ScriptFault) : Type 0 where
  has_foreign_byte : is_plain (content_of line) ≡ false → fault ≡ NotAscii → IsFaulty count line fault
  has_no_room : is_plain (content_of line) ≡ true → is_not_empty (words_of (content_of line)) ≡ true → most_commands ≤ count → fault ≡ TooManyLines
      → IsFaulty count line fault

-- the words of a line after so many commands, or its fault
abbrev pub HasWords : ℕ → List ℕ → Result Words ScriptFault → Type 0
HasWords count line (Ok words) = Shows count line words
HasWords count line (Err fault) = IsFaulty count line fault

-- no word is left, or one is
abbrev pub TakesLast : Result ⊤ ScriptFault → Words → Type 0
TakesLast (Ok done) words = words ≡ []
TakesLast (Err fault) words = (is_not_empty words ≡ true) × (fault ≡ Extra)
