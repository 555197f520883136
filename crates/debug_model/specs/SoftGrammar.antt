-- The grammar and the spelling of a script with software breakpoints: those of a script, with two commands more.
-- The language is this project's own (docs/SCRIPT.md, "Software breakpoints").
use Rattle.std.specs.Prelude.{ℕ, ◌-◌, ◌%◌, ◌==◌, bytes_eq, List, [], ◌∷◌, ◌++◌, flat_map, codes, Result, Ok, Err, if◌then◌else◌}
use Rattle.std.specs.List.{join_with_byte}
use Rattle.rv_model.specs.Memory.{ram_base}
use Rattle.debug_model.specs.declared.command.Command.{Command}
use Rattle.debug_model.specs.declared.script_error.ScriptError.{ScriptError}
use Rattle.debug_model.specs.declared.script_error.ScriptFault.{ScriptFault}
use Rattle.debug_model.specs.declared.script_error.ScriptFault.TheVariants.{OutOfRange}
use Rattle.debug_model.specs.declared.soft_command.SoftCommand.{SoftCommand}
use Rattle.debug_model.specs.declared.soft_command.SoftCommand.TheVariants.{Plain, Soft, Unsoft}
use Rattle.debug_model.specs.Command.{all_addresses}
use Rattle.debug_model.specs.ScriptArguments.{Words, Taken, ◌>>=◌, ranged}
use Rattle.debug_model.specs.ScriptForms.{command_read}
use Rattle.debug_model.specs.ScriptLines.{IsReadIn, IsRefusedIn, Language}
use Rattle.debug_model.specs.ScriptText.{line_feed, space}
use Rattle.debug_model.specs.SoftCommand.{word_bytes}
use Rattle.debug_model.specs.Spelling.{spelled_address, spelled_words}

-- ---- the grammar

-- the address, where it is that of a word
unfoldable pub of_word : ℕ → Result ℕ ScriptFault
of_word address = if address % word_bytes == 0 then Ok address else Err OutOfRange

-- the address of a word, from the base of RAM on
unfoldable pub soft_address : Words → Taken ℕ
soft_address words = do
  address ← ranged ram_base (all_addresses - 1) words
  word ← of_word address.0
  Ok (word, address.1)

unfoldable pub soft_form : (ℕ → SoftCommand) → Words → Taken SoftCommand
soft_form command words = do
  address ← soft_address words
  Ok (command address.0, address.1)

-- a command of every script
unfoldable pub plain_form : Taken Command → Taken SoftCommand
plain_form taken = do
  command ← taken
  Ok (Plain command.0, command.1)

-- the two commands more, and else those of every script
unfoldable pub soft_command_read : Language SoftCommand
soft_command_read name words =
    if bytes_eq (codes "soft") name then soft_form Soft words
    else (if bytes_eq (codes "unsoft") name then soft_form Unsoft words else plain_form (command_read name words))

-- the text is a script with these commands
abbrev pub IsSoftReadAs : List ℕ → List SoftCommand → Type 0
IsSoftReadAs text commands = IsReadIn soft_command_read text commands

-- the text is refused so
abbrev pub IsSoftRefusedAs : List ℕ → ScriptError → Type 0
IsSoftRefusedAs text error = IsRefusedIn soft_command_read text error

-- ---- the spelling

-- the words of a command
abbrev pub soft_spelled_words : SoftCommand → List (List ℕ)
soft_spelled_words (Plain command) = spelled_words command
soft_spelled_words (Soft address) = codes "soft" ∷ spelled_address address ∷ []
soft_spelled_words (Unsoft address) = codes "unsoft" ∷ spelled_address address ∷ []

-- one space between words
unfoldable pub soft_spelling : SoftCommand → List ℕ
soft_spelling command = join_with_byte space (soft_spelled_words command)

-- each command's spelling with a line feed at its end
abbrev pub soft_spelled_line : SoftCommand → List ℕ
soft_spelled_line command = soft_spelling command ++ (line_feed ∷ [])

unfoldable pub soft_spelled_script : List SoftCommand → List ℕ
soft_spelled_script commands = flat_map soft_spelled_line commands
