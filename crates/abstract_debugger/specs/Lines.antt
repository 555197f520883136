-- The lines that a session prints, and their text.
-- The lines are this project's own (docs/FORMATS.md, "Printed lines").
use Rattle.std.specs.Prelude.{ℕ, suc, ◌*◌, Bool, true, false, List, [], ◌∷◌, ◌++◌, map, flat_map, codes, decimal, if◌then◌else◌, ◌==◌}
use Rattle.std.specs.List.{join_with_byte, list_any}
use Rattle.rv_model.specs.declared.size.Size.{Size}
use Rattle.rv_model.specs.Size.{count_of}
use Rattle.debug_model.specs.declared.command.Path.{Path}
use Rattle.debug_model.specs.Registers.{name_of_register}
use Rattle.debug_model.specs.ScriptNumber.{hexadecimal_prefix}
use Rattle.debug_model.specs.ScriptText.{line_feed, space}
use Rattle.debug_model.specs.Spelling.{hexadecimal, spelled_address, spelled_path, spelled_switch, spelled_watch_kind}
use Rattle.abstract_debugger.specs.Slots.{Use}
use Rattle.abstract_debugger.specs.Slots.Use.{Armed, Unused, Other}
use Rattle.abstract_debugger.specs.Trace.{What}
use Rattle.abstract_debugger.specs.Trace.What.{Break, Watch, Count}

pub data Line : Type 0 where
  Idcode : (number : ℕ) → Line
  Selected : (hart : ℕ) → Line
  Halted : (pc cause : ℕ) → (hits : List Bool) → Line  -- cause by its number in dcsr; by place, the slots with a hit
  Running : Line
  Resumed : Line
  Register : (number value : ℕ) → Line
  Element : (address : ℕ) → (size : Size) → (value : ℕ) → Line
  Wrote : (count : ℕ) → Line
  Row : (address : ℕ) → (bytes : List ℕ) → Line
  Via : (path : Path) → Line
  Ebreak : (is_on : Bool) → Line
  Slot : (slot : ℕ) → (used : Use) → (hit : Bool) → Line
  Loaded : (count : ℕ) → Line
  SoftSet : (address : ℕ) → Line
  SoftClear : (address : ℕ) → Line
  NoHart : (hart : ℕ) → Line
  IsRunning : (hart : ℕ) → Line
  MemoryFault : (address : ℕ) → Line
  RegisterRefused : (number : ℕ) → Line
  NoFreeSlot : Line
  SlotNotInUse : (slot : ℕ) → Line
  SoftIsSet : (address : ℕ) → Line
  SoftNotSet : (address : ℕ) → Line
  NoFreeSoftBreak : Line
  SoftBreaksAreSet : Line

abbrev pub is_error : Line → Bool
is_error (NoHart hart) = true
is_error (IsRunning hart) = true
is_error (MemoryFault address) = true
is_error (RegisterRefused number) = true
is_error NoFreeSlot = true
is_error (SlotNotInUse slot) = true
is_error (SoftIsSet address) = true
is_error (SoftNotSet address) = true
is_error NoFreeSoftBreak = true
is_error SoftBreaksAreSet = true
is_error _ = false

abbrev pub any_error : List Line → Bool
any_error lines = list_any is_error lines

-- ---- parts of the text

-- an IDCODE has 32 bits
abbrev pub idcode_digits : ℕ
idcode_digits = 8

-- `0x` and so many digits
abbrev pub spelled_digits : ℕ → ℕ → List ℕ
spelled_digits count n = hexadecimal_prefix ++ hexadecimal count n

-- the places that are true, from a first one on
abbrev pub places_from : ℕ → List Bool → List ℕ
places_from first [] = []
places_from first (b ∷ bs) = if b then first ∷ places_from (suc first) bs else places_from (suc first) bs

abbrev pub comma : ℕ
comma = 44

-- the slots with a hit, behind a space; nothing where there are none
abbrev pub spelled_places : List ℕ → List ℕ
spelled_places [] = []
spelled_places (place ∷ places) = space ∷ join_with_byte comma (map decimal (place ∷ places))

-- a cause of a halt by its number in dcsr
abbrev pub spelled_cause : ℕ → List Bool → List ℕ
spelled_cause cause hits =
    if cause == 1 then codes "ebreak"
    else (if cause == 2 then codes "trigger" ++ spelled_places (places_from 0 hits)
    else (if cause == 3 then codes "haltreq"
    else (if cause == 4 then codes "step"
    else (if cause == 5 then codes "reset" else codes "cause " ++ decimal cause))))

abbrev pub spelled_what : What → List ℕ
spelled_what (Break address) = codes "break " ++ spelled_address address
spelled_what (Watch kind address) = codes "watch " ++ spelled_watch_kind kind ++ codes " " ++ spelled_address address
spelled_what (Count turns) = codes "count " ++ decimal turns

abbrev pub spelled_use : Use → List ℕ
spelled_use (Armed what) = spelled_what what
spelled_use Unused = codes "free"
spelled_use (Other tdata1) = codes "other " ++ spelled_address tdata1

abbrev pub spelled_hit : Bool → List ℕ
spelled_hit true = codes " hit"
spelled_hit false = []

-- ---- a line without its line feed

abbrev pub words_of_line : Line → List ℕ
words_of_line (Idcode number) = codes "idcode " ++ spelled_digits idcode_digits number
words_of_line (Selected hart) = codes "hart " ++ decimal hart
words_of_line (Halted pc cause hits) = codes "halted at " ++ spelled_address pc ++ codes " by " ++ spelled_cause cause hits
words_of_line Running = codes "running"
words_of_line Resumed = codes "resumed"
words_of_line (Register number value) = name_of_register number ++ codes " " ++ spelled_address value
words_of_line (Element address size value) = spelled_address address ++ codes " " ++ spelled_digits (2 * count_of size) value
words_of_line (Wrote count) = codes "wrote " ++ decimal count
words_of_line (Row address bytes) = spelled_address address ++ codes " " ++ flat_map (hexadecimal 2) bytes
words_of_line (Via path) = codes "via " ++ spelled_path path
words_of_line (Ebreak is_on) = codes "ebreak " ++ spelled_switch is_on
words_of_line (Slot slot used hit) = codes "slot " ++ decimal slot ++ codes " " ++ spelled_use used ++ spelled_hit hit
words_of_line (Loaded count) = codes "loaded " ++ decimal count
words_of_line (SoftSet address) = codes "soft " ++ spelled_address address ++ codes " set"
words_of_line (SoftClear address) = codes "soft " ++ spelled_address address ++ codes " clear"
words_of_line (NoHart hart) = codes "error: no hart " ++ decimal hart
words_of_line (IsRunning hart) = codes "error: hart " ++ decimal hart ++ codes " is running"
words_of_line (MemoryFault address) = codes "error: memory fault at " ++ spelled_address address
words_of_line (RegisterRefused number) = codes "error: register " ++ name_of_register number ++ codes " refused"
words_of_line NoFreeSlot = codes "error: no free slot"
words_of_line (SlotNotInUse slot) = codes "error: slot " ++ decimal slot ++ codes " not in use"
words_of_line (SoftIsSet address) = codes "error: soft " ++ spelled_address address ++ codes " is set"
words_of_line (SoftNotSet address) = codes "error: soft " ++ spelled_address address ++ codes " not set"
words_of_line NoFreeSoftBreak = codes "error: no free soft break"
words_of_line SoftBreaksAreSet = codes "error: soft breaks are set"

abbrev pub text_of : Line → List ℕ
text_of line = words_of_line line ++ line_feed ∷ []

-- the text of some lines, one after another
abbrev pub text_of_all : List Line → List ℕ
text_of_all [] = []
text_of_all (line ∷ lines) = text_of line ++ text_of_all lines
