-- How the words after a command's name are spelled.
-- The spelling is that of debug_model.
use Rattle.std.specs.Prelude.{ℕ, List, decimal}
use Rattle.debug_model.specs.Spelling.{spelled_address}
use Rattle.script_lang.specs.declared.spelled.Argument.{Argument}
use Rattle.script_lang.specs.declared.spelled.Argument.TheVariants.{Number, Address, Word}

abbrev pub spelled_argument : Argument → List ℕ
spelled_argument (Number number) = decimal number
spelled_argument (Address address) = spelled_address address
spelled_argument (Word word) = word.now
