-- The numbers of a script: one to twenty decimal digits, or `0x` and one to sixteen hexadecimal digits of either case.
-- The format is this project's own (docs/SCRIPT.md, "Numbers").
use Rattle.std.specs.Prelude.{ℕ, ◌^◌, Bool, ◌&&◌, nat_le, nat_lt, bytes_eq, List, length, take, drop, codes, Result, Ok, Err, if◌then◌else◌}
use Rattle.std.specs.List.{list_all}
use Rattle.std.specs.Char.{is_digit}
use Rattle.std.specs.Str.Parse.{digits_value}
use Rattle.debug_model.specs.declared.script_error.ScriptFault.{ScriptFault}
use Rattle.debug_model.specs.declared.script_error.ScriptFault.TheVariants.{BadNumber, OutOfRange}

abbrev pub hexadecimal_prefix : List ℕ
hexadecimal_prefix = codes "0x"

abbrev pub most_decimal_digits : ℕ
most_decimal_digits = 20

abbrev pub most_hexadecimal_digits : ℕ
most_hexadecimal_digits = 16

-- whether these are from one to `most` digits of the base
unfoldable pub are_digits : ℕ → ℕ → List ℕ → Bool
are_digits base most digits =
    nat_le 1 (length digits) && nat_le (length digits) most && list_all (λ digit. is_digit digit base) digits

-- the number that digits of a base write
unfoldable pub numeral_read : ℕ → ℕ → List ℕ → Result ℕ ScriptFault
numeral_read base most digits =
    if are_digits base most digits
    then (if nat_lt (digits_value base digits) (2 ^ 64) then Ok (digits_value base digits) else Err OutOfRange)
    else Err BadNumber

-- the number that a word writes
unfoldable pub number_read : List ℕ → Result ℕ ScriptFault
number_read word =
    if bytes_eq (take 2 word) hexadecimal_prefix
    then numeral_read 16 most_hexadecimal_digits (drop 2 word)
    else numeral_read 10 most_decimal_digits word
