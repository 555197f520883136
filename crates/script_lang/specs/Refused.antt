-- What the refusal of a text says: what the grammar says of it, or want of memory for the commands of a text that isn't too long.
-- The grammar is that of debug_model.
use Rattle.std.specs.Prelude.{◌≡◌, ◌⊎◌, ◌≤◌, ℕ, List, length}
use Rattle.debug_model.specs.declared.script_error.ScriptError.{ScriptError}
use Rattle.debug_model.specs.declared.script_error.ScriptFault.TheVariants.{NoMemory}
use Rattle.debug_model.specs.Grammar.{IsRefusedAs}
use Rattle.debug_model.specs.ScriptLines.{most_text}
use Rattle.debug_model.specs.SoftGrammar.{IsSoftRefusedAs}

-- want of memory is no line's fault, and has line 0
abbrev pub out_of_memory : ScriptError
out_of_memory = record { line = 0; fault = NoMemory }

abbrev pub IsRefusal : List ℕ → ScriptError → Type 0
IsRefusal text error = IsRefusedAs text error ⊎ ((length text ≤ most_text) × (error ≡ out_of_memory))

-- the same of a text with software breakpoints
abbrev pub IsSoftRefusal : List ℕ → ScriptError → Type 0
IsSoftRefusal text error = IsSoftRefusedAs text error ⊎ ((length text ≤ most_text) × (error ≡ out_of_memory))
