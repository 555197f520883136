-- The number that a word writes, and one within bounds.
-- The words are this project's own (docs/FORMATS.md, "Words").
use Rattle.std.specs.Prelude.{ℕ, ◌&&◌, nat_le, Option, Some, None, Result, Ok, Err, if◌then◌else◌}
use Rattle.debug_model.specs.ScriptNumber.{number_read}
use Rattle.debug_model.specs.declared.script_error.ScriptFault.{ScriptFault}
use Rattle.command_line.specs.Job.{Text}

infixl 10 ◌>>=◌
abbrev pub ◌>>=◌ : {A B : Type 0} → Option A → (A → Option B) → Option B
(Some x) >>= f = f x
None >>= f = None

abbrev pub value_of : Result ℕ ScriptFault → Option ℕ
value_of (Ok number) = Some number
value_of (Err fault) = None

-- a number has the form of the numbers of a script, and is below 2^64
unfoldable pub number_of : Text → Option ℕ
number_of word = value_of (number_read word)

abbrev pub within : ℕ → ℕ → ℕ → Option ℕ
within least most number = if nat_le least number && nat_le number most then Some number else None
