-- Laws of a hart's turn: it leaves the other harts alone, a board stays a board, and to a program it is one execution or nothing where no step masks
-- interrupts.
-- They are this project's own: the last is what lets a debugger be forgotten.
use Rattle.std.specs.Prelude.{◌≡◌, ◌≢◌, ℕ, ◌<◌, ◌≤◌, List, false, Option, Some, length, slice_get, if◌then◌else◌}
use Rattle.rv_model.specs.declared.cause.Cause.{Cause}
use Rattle.rv_model.specs.declared.version.Version.{Version}
use Rattle.rv_model.specs.Board.{Board, Hart, IsBoard, execute, machine_of, reset_board}
use Rattle.rv_model.specs.Memory.{Memory, hart_places}
use Rattle.rv_model.specs.Turn.{executes_at, masks_interrupts, turn}

-- registers and debug parts of every other hart stay as they are, and no hart comes or goes
pub record LeavesHarts (h : ℕ) (old new : Board) : Type 0 where
  pub count : length new.harts ≡ length old.harts
  pub others : (j : ℕ) → j ≢ h → slice_get new.harts j ≡ slice_get old.harts j

abbrev pub TurnLeavesOthers : Type 0
TurnLeavesOthers = (h : ℕ) (b : Board) → LeavesHarts h b (turn h b)

-- what reset leaves is a board, of one to four harts
abbrev pub ResetBoardsAreBoards : Type 0
ResetBoardsAreBoards = (version : Version) (halted : List (Option Cause)) (m : Memory) → 0 < length halted → length halted ≤ hart_places
    → length m.reserved ≡ hart_places → IsBoard (reset_board version halted m)

-- and a turn leaves a board
abbrev pub TurnKeepsBoard : Type 0
TurnKeepsBoard = (h : ℕ) (b : Board) → IsBoard b → IsBoard (turn h b)

-- ---- interrupts

-- no hart that steps masks its interrupts: it has stepie set beside step
abbrev pub StepsUnmasked : Board → Type 0
StepsUnmasked b = (h : ℕ) (hart : Hart) → slice_get b.harts h ≡ Some hart → masks_interrupts hart.debug ≡ false

-- a reset leaves no hart that steps, and a turn changes neither flag
abbrev pub ResetBoardsAreUnmasked : Type 0
ResetBoardsAreUnmasked = (version : Version) (halted : List (Option Cause)) (m : Memory) → StepsUnmasked (reset_board version halted m)

abbrev pub TurnKeepsUnmasked : Type 0
TurnKeepsUnmasked = (h : ℕ) (b : Board) → StepsUnmasked b → StepsUnmasked (turn h b)

-- Forgetting the debug parts, an executed turn is one execution, and any other nothing. A step that masked its interrupts would not be one.
abbrev pub TurnForgetsDebugging : Type 0
TurnForgetsDebugging = (h : ℕ) (b : Board) → StepsUnmasked b → machine_of (turn h b) ≡ (if executes_at h b then execute h (machine_of b) else machine_of b)
