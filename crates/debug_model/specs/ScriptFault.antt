-- The numbers of a script's faults, as the refusal of a script prints them.
-- They are this project's own (docs/SCRIPT.md, "Faults").
use Rattle.std.specs.Prelude.{ℕ}
use Rattle.debug_model.specs.declared.script_error.ScriptFault.{ScriptFault}
use Rattle.debug_model.specs.declared.script_error.ScriptFault.TheVariants.{NotAscii, UnknownWord, Missing, Extra, BadNumber, OutOfRange, TooManyLines}
use Rattle.debug_model.specs.declared.script_error.ScriptFault.TheVariants.{NoMemory}

abbrev pub fault_number : ScriptFault → ℕ
fault_number NotAscii = 1
fault_number UnknownWord = 2
fault_number Missing = 3
fault_number Extra = 4
fault_number BadNumber = 5
fault_number OutOfRange = 6
fault_number TooManyLines = 7
fault_number NoMemory = 8
