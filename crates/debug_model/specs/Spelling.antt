-- The one spelling of each command: defaults written out, addresses and values as `0x` and sixteen digits, other numbers decimal.
-- The format is this project's own (docs/SCRIPT.md, "Spelling").
use Rattle.std.specs.Prelude.{ℕ, zero, suc, ◌/◌, ◌%◌, Bool, true, false, List, [], ◌∷◌, ◌++◌, flat_map, codes, decimal}
use Rattle.std.specs.List.{join_with_byte}
use Rattle.std.specs.Char.{digit_char}
use Rattle.rv_model.specs.Size.{count_of}
use Rattle.debug_model.specs.declared.command.Path.{Path}
use Rattle.debug_model.specs.declared.command.Path.TheVariants.{Progbuf, Bus}
use Rattle.debug_model.specs.declared.command.WatchKind.{WatchKind}
use Rattle.debug_model.specs.declared.command.WatchKind.TheVariants.{Load, Store, Access}
use Rattle.debug_model.specs.declared.command.Command.{Command}
use Rattle.debug_model.specs.declared.command.Command.TheVariants.{Idcode, Hart, State, Halt, Resume, Step, Wait, Regs, Reg, SetReg, Read, Write, Dump, Via}
use Rattle.debug_model.specs.declared.command.Command.TheVariants.{Break, Watch, Count, Clear, Slots, Ebreak, End}
use Rattle.debug_model.specs.Registers.{name_of_register}
use Rattle.debug_model.specs.ScriptText.{line_feed, space}
use Rattle.debug_model.specs.ScriptNumber.{hexadecimal_prefix, most_hexadecimal_digits}

-- the lowest `count` hexadecimal digits of a number, in lower case, the highest first
unfoldable pub hexadecimal : ℕ → ℕ → List ℕ
hexadecimal zero n = []
hexadecimal (suc count) n = hexadecimal count (n / 16) ++ (digit_char (n % 16) ∷ [])

abbrev pub spelled_address : ℕ → List ℕ
spelled_address n = hexadecimal_prefix ++ hexadecimal most_hexadecimal_digits n

abbrev pub spelled_path : Path → List ℕ
spelled_path Progbuf = codes "progbuf"
spelled_path Bus = codes "bus"

abbrev pub spelled_watch_kind : WatchKind → List ℕ
spelled_watch_kind Load = codes "load"
spelled_watch_kind Store = codes "store"
spelled_watch_kind Access = codes "access"

abbrev pub spelled_switch : Bool → List ℕ
spelled_switch true = codes "on"
spelled_switch false = codes "off"

-- the words of a command
abbrev pub spelled_words : Command → List (List ℕ)
spelled_words Idcode = codes "idcode" ∷ []
spelled_words (Hart hart) = codes "hart" ∷ decimal hart ∷ []
spelled_words State = codes "state" ∷ []
spelled_words Halt = codes "halt" ∷ []
spelled_words Resume = codes "resume" ∷ []
spelled_words (Step repeats) = codes "step" ∷ decimal repeats ∷ []
spelled_words (Wait repeats) = codes "wait" ∷ decimal repeats ∷ []
spelled_words Regs = codes "regs" ∷ []
spelled_words (Reg register) = codes "reg" ∷ name_of_register register.0 ∷ []
spelled_words (SetReg register value) = codes "reg" ∷ name_of_register register.0 ∷ spelled_address value ∷ []
spelled_words (Read size address count) =
    codes "read" ∷ decimal (count_of size) ∷ spelled_address address ∷ decimal count ∷ []
spelled_words (Write size address value count) =
    codes "write" ∷ decimal (count_of size) ∷ spelled_address address ∷ spelled_address value ∷ decimal count ∷ []
spelled_words (Dump address count) = codes "dump" ∷ spelled_address address ∷ decimal count ∷ []
spelled_words (Via path) = codes "via" ∷ spelled_path path ∷ []
spelled_words (Break address) = codes "break" ∷ spelled_address address ∷ []
spelled_words (Watch kind address) = codes "watch" ∷ spelled_watch_kind kind ∷ spelled_address address ∷ []
spelled_words (Count turns) = codes "count" ∷ decimal turns ∷ []
spelled_words (Clear slot) = codes "clear" ∷ decimal slot ∷ []
spelled_words Slots = codes "slots" ∷ []
spelled_words (Ebreak is_on) = codes "ebreak" ∷ spelled_switch is_on ∷ []
spelled_words End = codes "end" ∷ []

-- one space between words
unfoldable pub spelling : Command → List ℕ
spelling command = join_with_byte space (spelled_words command)

-- each command's spelling with a line feed at its end
abbrev pub spelled_line : Command → List ℕ
spelled_line command = spelling command ++ (line_feed ∷ [])

unfoldable pub spelled_script : List Command → List ℕ
spelled_script commands = flat_map spelled_line commands
