-- The commands of several lines: what is left of them and what follows them, and the lines of elements and of bytes.
-- It is this project's own.
use Rattle.std.specs.Prelude.{◌≡◌, ◌+◌, ◌++◌, ◌==◌, ℕ, List, [], ◌∷◌, length, Option, if◌then◌else◌}
use Rattle.jt_base.specs.Sink.{GrewByPrefix, grown}
use Rattle.rv_model.specs.declared.size.Size.{Size}
use Rattle.rv_model.specs.Size.{count_of}
use Rattle.abstract_debugger.specs.Laws.{Quiet}
use Rattle.abstract_debugger.specs.Debugger.{row_bytes}
use Rattle.abstract_debugger.specs.Lines.{Line, text_of, text_of_all}
use Rattle.abstract_debugger.specs.Plan.{Plan}
use Rattle.probe_session.specs.declared.reach.Reach.{Reach}
use Rattle.probe_session.specs.Places.{Place, still}
use Rattle.probe_session.specs.Reach.{all_shown, dumped, path_by, place_by, read, slots_shown, some_shown}

-- ---- of a halted hart

abbrev pub at_slots : ℕ → Plan → Place
at_slots h next = still h (slots_shown h next)

abbrev pub at_all_registers : ℕ → Plan → Place
at_all_registers h next = still h (all_shown h next)

pub record Registers : Type 0 where
  pub numbers : List ℕ
  pub next : Plan

abbrev pub at_registers : ℕ → Registers → Place
at_registers h r = still h (some_shown h r.numbers r.next)

abbrev pub at_next_register : (h number : ℕ) → Registers → Place
at_next_register h number r = still h (some_shown h (number ∷ r.numbers) r.next)

-- what follows them is calm
abbrev pub CalmRegisters : Registers → Type 0
CalmRegisters r = Quiet r.next

-- ---- of memory

abbrev pub at_read : Reach → Size → (address count : ℕ) → Plan → Place
at_read r size address count next = place_by r (read size address count (path_by r) next)

abbrev pub at_dump : Reach → (address count : ℕ) → Plan → Place
at_dump r address count next = place_by r (dumped address count (path_by r) next)

-- ---- the lines of elements, and of bytes

-- a line for each element, upwards from an address
abbrev pub element_lines : Size → (address : ℕ) → (values : List ℕ) → List Line
element_lines size address [] = []
element_lines size address (value ∷ values) = Line.Element address size value ∷ element_lines size (address + count_of size) values

-- the line of a row, where it has bytes
abbrev pub row_lines : (first : ℕ) → (row : List ℕ) → List Line
row_lines first [] = []
row_lines first (byte ∷ bytes) = Line.Row first (byte ∷ bytes) ∷ []

-- sixteen bytes to a line, where some wait in a row that begins at `first`: the lines of the rows that are then whole
abbrev pub whole_rows : (first : ℕ) → (row bytes : List ℕ) → List Line
whole_rows first row [] = []
whole_rows first row (byte ∷ bytes) =
    if length row + 1 == row_bytes
    then Line.Row first (row ++ byte ∷ []) ∷ whole_rows (first + row_bytes) [] bytes
    else whole_rows first (row ++ byte ∷ []) bytes

-- and the line of the bytes behind them
abbrev pub byte_rows : (first : ℕ) → (row bytes : List ℕ) → List Line
byte_rows first row [] = row_lines first row
byte_rows first row (byte ∷ bytes) =
    if length row + 1 == row_bytes
    then Line.Row first (row ++ byte ∷ []) ∷ byte_rows (first + row_bytes) [] bytes
    else byte_rows first (row ++ byte ∷ []) bytes

-- a byte was added to a row, and the row was put where it was then whole
pub record BytePut (first : ℕ) (row : List ℕ) (byte : ℕ) (left_row : List ℕ) (was is : Option (List ℕ)) : Type 0 where
  pub begins : ℕ
  pub lines : List Line
  pub along : begins + length left_row ≡ first + length row + 1
  pub shows : (bytes : List ℕ) → byte_rows first row (byte ∷ bytes) ≡ lines ++ byte_rows begins left_row bytes
  pub put : is ≡ grown (text_of_all lines) was

-- the row is whole with it, and was cut off in the middle
pub record RowCut (first : ℕ) (row : List ℕ) (byte : ℕ) (was is : Option (List ℕ)) : Type 0 where
  pub whole : length row + 1 ≡ row_bytes
  pub front : GrewByPrefix (text_of (Line.Row first (row ++ byte ∷ []))) was is
