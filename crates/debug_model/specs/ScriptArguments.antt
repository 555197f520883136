-- What each kind of argument of a command takes from the front of the words that are left, or the fault of the first word that it can't take.
-- The kinds are this project's own (docs/SCRIPT.md, "Commands").
use Rattle.std.specs.Prelude.{ℕ, ◌+◌, ◌*◌, ◌-◌, ◌^◌, ◌&&◌, Bool, true, false, nat_le, ◌==◌, bytes_eq, List, [], ◌∷◌, codes, Result, Ok, Err, Option, Some}
use Rattle.std.specs.Prelude.{None, ok_or, if◌then◌else◌}
use Rattle.rv_model.specs.declared.size.Size.{Size}
use Rattle.rv_model.specs.declared.size.Size.TheVariants.{B1, B2, B4, B8}
use Rattle.debug_model.specs.declared.command.Path.{Path}
use Rattle.debug_model.specs.declared.command.Path.TheVariants.{Progbuf, Bus}
use Rattle.debug_model.specs.declared.command.WatchKind.{WatchKind}
use Rattle.debug_model.specs.declared.command.WatchKind.TheVariants.{Load, Store, Access}
use Rattle.debug_model.specs.declared.register_name.RegName.{RegName}
use Rattle.debug_model.specs.declared.script_error.ScriptFault.{ScriptFault}
use Rattle.debug_model.specs.declared.script_error.ScriptFault.TheVariants.{UnknownWord, Missing, OutOfRange}
use Rattle.debug_model.specs.Command.{most_elements, all_addresses}
use Rattle.debug_model.specs.Registers.{number_of_register}
use Rattle.debug_model.specs.ScriptNumber.{number_read}

abbrev pub Words : Type 0
Words = List (List ℕ)

-- a value and the words after it, or a fault
abbrev pub Taken : Type 0 → Type 0
Taken A = Result (A × Words) ScriptFault

infixl 10 ◌>>=◌
abbrev pub ◌>>=◌ : {A B : Type 0} → Result A ScriptFault → (A → Result B ScriptFault) → Result B ScriptFault
(Ok x) >>= f = f x
(Err e) >>= f = Err e

-- the next word, as what `meaning` says of it
abbrev pub one_word : {A : Type 0} → (List ℕ → Result A ScriptFault) → Words → Taken A
one_word meaning [] = Err Missing
one_word meaning (word ∷ rest) = do
  value ← meaning word
  Ok (value, rest)

-- a number from `least` to `most`
unfoldable pub number_within : ℕ → ℕ → List ℕ → Result ℕ ScriptFault
number_within least most word = do
  number ← number_read word
  if nat_le least number && nat_le number most then Ok number else Err OutOfRange

unfoldable pub ranged : ℕ → ℕ → Words → Taken ℕ
ranged least most words = one_word (number_within least most) words

-- such a number, or `absent` where the line ends before it
unfoldable pub ranged_or : ℕ → ℕ → ℕ → Words → Taken ℕ
ranged_or absent least most [] = Ok (absent, [])
ranged_or absent least most (word ∷ rest) = ranged least most (word ∷ rest)

-- an address at which an element of that size ends at or below the last address
abbrev pub address_of : ℕ → Words → Taken ℕ
address_of size words = ranged 0 (all_addresses - size) words

-- a value of that many bytes
abbrev pub value_of : ℕ → Words → Taken ℕ
value_of size words = ranged 0 (256 ^ size - 1) words

-- a count of elements of that size, where they end at or below the last address
unfoldable pub ending : ℕ → ℕ → ℕ → Result ℕ ScriptFault
ending size address count = if nat_le (address + size * count) all_addresses then Ok count else Err OutOfRange

-- a count of elements from an address on, 1 where the line ends before it
unfoldable pub count_from : ℕ → ℕ → Words → Taken ℕ
count_from size address words = do
  count ← ranged_or 1 1 most_elements words
  ended ← ending size address count.0
  Ok (ended, count.1)

-- a length in bytes
unfoldable pub length_from : ℕ → Words → Taken ℕ
length_from address words = do
  count ← ranged 1 most_elements words
  ended ← ending 1 address count.0
  Ok (ended, count.1)

abbrev pub size_with : ℕ → Option Size
size_with count =
    if count == 1 then Some B1 else (if count == 2 then Some B2 else (if count == 4 then Some B4 else (if count == 8 then Some B8 else None)))

-- a size in bytes: 1, 2, 4 or 8
unfoldable pub size_named : List ℕ → Result Size ScriptFault
size_named word = do
  number ← number_read word
  ok_or (size_with number) OutOfRange

-- fixed words
unfoldable pub path_named : List ℕ → Result Path ScriptFault
path_named word = if bytes_eq word (codes "progbuf") then Ok Progbuf else (if bytes_eq word (codes "bus") then Ok Bus else Err UnknownWord)

unfoldable pub watch_kind_named : List ℕ → Result WatchKind ScriptFault
watch_kind_named word =
    if bytes_eq word (codes "load") then Ok Load
    else (if bytes_eq word (codes "store") then Ok Store else (if bytes_eq word (codes "access") then Ok Access else Err UnknownWord))

unfoldable pub switch_named : List ℕ → Result Bool ScriptFault
switch_named word = if bytes_eq word (codes "on") then Ok true else (if bytes_eq word (codes "off") then Ok false else Err UnknownWord)

unfoldable pub register_named : List ℕ → Result RegName ScriptFault
register_named word = do
  number ← ok_or (number_of_register word) UnknownWord
  Ok (record { 0 = number })
