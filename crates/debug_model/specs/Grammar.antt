-- The grammar of a script: its lines in the language of its commands.
-- The language is this project's own (docs/SCRIPT.md).
use Rattle.std.specs.Prelude.{◌≡◌, ℕ, List}
use Rattle.debug_model.specs.declared.command.Command.{Command}
use Rattle.debug_model.specs.declared.script_error.ScriptError.{ScriptError}
use Rattle.debug_model.specs.declared.script_error.ScriptFault.{ScriptFault}
use Rattle.debug_model.specs.ScriptArguments.{Words}
use Rattle.debug_model.specs.ScriptForms.{command_read}
use Rattle.debug_model.specs.ScriptLines.{AreReadIn, HasFirstFaultIn, IsReadIn, IsRefusedIn, ReadingOf, line_read_after_in, line_read_in, words_read_in}

abbrev pub Reading : Type 0
Reading = ReadingOf Command

abbrev pub words_read : Words → Reading
words_read words = words_read_in command_read words

abbrev pub line_read : List ℕ → Reading
line_read line = line_read_in command_read line

-- a line is read so
abbrev pub Reads : List ℕ → Reading → Type 0
Reads line reading = line_read line ≡ reading

abbrev pub line_read_after : ℕ → List ℕ → Reading
line_read_after count line = line_read_after_in command_read count line

abbrev pub AreReadAs : List (List ℕ) → List Command → Type 0
AreReadAs lines commands = AreReadIn command_read lines commands

abbrev pub IsReadAs : List ℕ → List Command → Type 0
IsReadAs text commands = IsReadIn command_read text commands

abbrev pub HasFirstFault : List ℕ → ℕ → ScriptFault → Type 0
HasFirstFault text line fault = HasFirstFaultIn command_read text line fault

abbrev pub IsRefusedAs : List ℕ → ScriptError → Type 0
IsRefusedAs text error = IsRefusedIn command_read text error
