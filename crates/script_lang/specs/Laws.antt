-- What holds of the language of scripts as a whole.
-- The grammar and the spelling are those of debug_model.
use Rattle.std.specs.Prelude.{◌≡◌, ℕ, List, Some, Ok}
use Rattle.debug_model.specs.declared.command.Command.{Command}
use Rattle.debug_model.specs.declared.script_error.ScriptError.{ScriptError}
use Rattle.debug_model.specs.Command.{IsWithinRanges}
use Rattle.debug_model.specs.Grammar.{Reading, Reads, IsReadAs, IsRefusedAs}
use Rattle.debug_model.specs.Spelling.{spelling}

-- a line has at most one reading
abbrev pub HasOneReading : Type 0
HasOneReading = (line : List ℕ) (one other : Reading) → Reads line one → Reads line other → one ≡ other

-- a command's spelling is read as this command
abbrev pub ReadsItsSpelling : Type 0
ReadsItsSpelling = (command : Command) → IsWithinRanges command → Reads (spelling command) (Ok (Some command))

-- different commands have different spellings
abbrev pub HasOwnSpelling : Type 0
HasOwnSpelling = (one other : Command) → IsWithinRanges one → IsWithinRanges other → spelling one ≡ spelling other → one ≡ other

-- a text is at most one script
abbrev pub IsOneScript : Type 0
IsOneScript = (text : List ℕ) (one other : List Command) → IsReadAs text one → IsReadAs text other → one ≡ other

-- a text that is a script is not refused
abbrev pub HasNoRefusal : Type 0
HasNoRefusal = (text : List ℕ) (commands : List Command) (error : ScriptError) → IsReadAs text commands → IsRefusedAs text error → ⊥

-- a text has at most one refusal: that it is too long, or its first faulty line with one fault
abbrev pub HasOneRefusal : Type 0
HasOneRefusal = (text : List ℕ) (one other : ScriptError) → IsRefusedAs text one → IsRefusedAs text other → one ≡ other
