-- A hart's turn as a debugger's user sees it, over memory without patches: where the word at pc is covered, it is as if an ebreak stood there.
-- RISC-V Debug Specification 1.0, "Sdext (ISA Extension)" and "Sdtrig (ISA Extension)". The cases of a turn are those of a chip's hart.
use Rattle.std.specs.Prelude.{ℕ, Bool, true, false, ◌&&◌, Option, Some, None, slice_get, slice_set, if◌then◌else◌}
use Rattle.rv_model.specs.declared.touch.Touch.{Touch}
use Rattle.rv_model.specs.Board.{Board, Hart}
use Rattle.rv_model.specs.Core.{Core}
use Rattle.rv_model.specs.Memory.{Memory}
use Rattle.rv_model.specs.Touch.{touch_of, touches_nothing}
use Rattle.rv_model.specs.Triggers.{fires}
use Rattle.rv_model.specs.Turn.{Place, executes_by, is_ebreak_at, place_by, some_fires, turn_outcome}
use Rattle.std.specs.Prelude.{List}
use Rattle.abstract_debugger.specs.Trace.{Past, noted_by}
use Rattle.abstract_debugger.specs.Transcript.{World}
use Rattle.soft_laws.specs.SoftBreaks.{covered, is_listed}

-- an ebreak reads and writes nothing
abbrev pub touch_by : (covered : Bool) → Core → Memory → Touch
touch_by true c m = touches_nothing c
touch_by false c m = touch_of c m

abbrev pub ebreak_by : (covered : Bool) → Core → Memory → Bool
ebreak_by true c m = true
ebreak_by false c m = is_ebreak_at c m

-- what the instruction at pc would read and write, where these words are covered
unfoldable pub soft_touch : List ℕ → Core → Memory → Touch
soft_touch cs c m = touch_by (is_listed cs c.pc) c m

-- does an ebreak at pc halt the hart?
unfoldable pub soft_stops : List ℕ → Hart → Memory → Bool
soft_stops cs x m = x.debug.ebreakm && ebreak_by (is_listed cs x.core.pc) x.core m

abbrev pub soft_fires : List ℕ → Hart → Memory → Bool
soft_fires cs x m = some_fires (soft_touch cs x.core m) x

-- ---- the turn

abbrev pub soft_executes : List ℕ → Hart → Memory → Bool
soft_executes cs x m = executes_by x.debug.halted x.debug.resume_request x.debug.halt_request (soft_fires cs x m) (soft_stops cs x m)

unfoldable pub soft_place : List ℕ → Hart → Memory → Place
soft_place cs x m =
    place_by x.debug.halted x.debug.resume_request x.debug.halt_request (soft_fires cs x m) (soft_stops cs x m) (soft_touch cs x.core m) (turn_outcome x m) x

unfoldable pub soft_memory_after : List ℕ → Hart → Memory → Memory
soft_memory_after cs x m = if soft_executes cs x m then (turn_outcome x m).memory else m

abbrev pub soft_turn_by : List ℕ → Option Hart → ℕ → Board → Board
soft_turn_by cs None h b = b
soft_turn_by cs (Some x) h b = record { harts = slice_set b.harts h (soft_place cs x b.memory).hart; memory = soft_memory_after cs x b.memory }

-- a board after the turn of hart h, where these words are covered
abbrev pub soft_turn : List ℕ → ℕ → Board → Board
soft_turn cs h b = soft_turn_by cs (slice_get b.harts h) h b

-- ---- its notes

abbrev pub soft_noted_here : List ℕ → Option Hart → ℕ → Memory → Past → Past
soft_noted_here cs None h m past = past
soft_noted_here cs (Some x) h m past =
    noted_by x.debug.halted x.debug.halt_request (soft_fires cs x m) (soft_stops cs x m) x.debug.step h (fires (soft_touch cs x.core m) x.debug.slots) past

-- a world behind the turn of hart h: which words are covered is told by its past
abbrev pub soft_turned : ℕ → World → World
soft_turned h w = record w {
  board = soft_turn (covered w.past) h w.board;
  past = soft_noted_here (covered w.past) (slice_get w.board.harts h) h w.board.memory w.past;
}
