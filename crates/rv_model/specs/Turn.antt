-- A hart's turn, the atomic step of a chip's harts: one resume, one stop, or one instruction, trap or interrupt.
-- RISC-V Debug Specification 1.0, "Sdext (ISA Extension)": Debug Mode, single stepping and the halt causes of dcsr; "Debug Control and
-- Status", the field stepie. That a halt request comes
-- before triggers, and those before ebreak, is this project's own choice.
use Rattle.std.specs.Prelude.{ℕ, Bool, true, false, not, ◌&&◌, Option, Some, None, Result, Ok, Err, slice_get, slice_set, if◌then◌else◌}
use Rattle.std.specs.List.{list_any}
use Rattle.rv_model.specs.declared.cause.Cause.{Cause}
use Rattle.rv_model.specs.declared.cause.Cause.TheVariants as cause
use Rattle.rv_model.specs.declared.insn.Insn.{Insn}
use Rattle.rv_model.specs.declared.insn.Insn.TheVariants.{Ebreak}
use Rattle.rv_model.specs.declared.mem_fault.MemFault.{MemFault}
use Rattle.rv_model.specs.declared.touch.Touch.{Touch}
use Rattle.rv_model.specs.declared.turned.Turned.{Turned}
use Rattle.rv_model.specs.declared.turned.Turned.TheVariants.{Idle, Resumed, Halted, Ran}
use Rattle.rv_model.specs.Board.{Board, DebugPart, Hart}
use Rattle.rv_model.specs.Core.{Core}
use Rattle.rv_model.specs.Effects.{Outcome}
use Rattle.rv_model.specs.Execute.{exec_masked_of, exec_of}
use Rattle.rv_model.specs.Memory.{Memory, fetch_of}
use Rattle.rv_model.specs.Rows.{meaning}
use Rattle.rv_model.specs.Touch.{touch_of}
use Rattle.rv_model.specs.Triggers.{counted_down, fires, marked}

-- a hart behind its turn, and what it did
pub record Place : Type 0 where
  pub hart : Hart
  pub turned : Turned

-- ---- debug parts

abbrev pub resumed : DebugPart → DebugPart
resumed d = record d { halted = None; resume_request = false; resume_ack = true }

abbrev pub halted_for : Cause → DebugPart → DebugPart
halted_for why d = record d { halted = Some why }

-- ---- the word at pc

abbrev pub is_ebreak : Option Insn → Bool
is_ebreak (Some Ebreak) = true
is_ebreak (Some _) = false
is_ebreak None = false

abbrev pub is_ebreak_word : Result ℕ MemFault → Bool
is_ebreak_word (Ok w) = is_ebreak (meaning w)
is_ebreak_word (Err fault) = false

-- no ebreak stands where there is no word
unfoldable pub is_ebreak_at : Core → Memory → Bool
is_ebreak_at c m = is_ebreak_word (fetch_of m c.pc)

-- ---- the cases of a turn, in order

-- what a hart does in its turn
pub data TurnCase : Type 0 where
  resumes : TurnCase
  rests : TurnCase
  stops : (why : Cause) → TurnCase
  goes_on : TurnCase

-- by: halted, a resume request, a halt request, some slot fires, an ebreak that halts
abbrev pub case_by : Option Cause → Bool → Bool → Bool → Bool → TurnCase
case_by (Some why) true request fired at_ebreak = resumes
case_by (Some why) false request fired at_ebreak = rests
case_by None resume true fired at_ebreak = stops cause.HaltReq
case_by None resume false true at_ebreak = stops cause.Trigger
case_by None resume false false true = stops cause.Ebreak
case_by None resume false false false = goes_on

abbrev pub some_fires : Touch → Hart → Bool
some_fires touch h = list_any (λ fired. fired) (fires touch h.debug.slots)

abbrev pub stops_at_ebreak : Hart → Memory → Bool
stops_at_ebreak h m = h.debug.ebreakm && is_ebreak_at h.core m

-- does the hart execute in its turn?
abbrev pub executes_in : TurnCase → Bool
executes_in goes_on = true
executes_in _ = false

abbrev pub executes_by : Option Cause → Bool → Bool → Bool → Bool → Bool
executes_by halted resume request fired at_ebreak = executes_in (case_by halted resume request fired at_ebreak)

unfoldable pub executes : Hart → Memory → Bool
executes h m = executes_by h.debug.halted h.debug.resume_request h.debug.halt_request (some_fires (touch_of h.core m) h) (stops_at_ebreak h m)

-- ---- what is executed

-- a single step takes no interrupt unless stepie is set
abbrev pub masks_interrupts : DebugPart → Bool
masks_interrupts d = d.step && not d.stepie

unfoldable pub turn_outcome : Hart → Memory → Outcome
turn_outcome h m = if masks_interrupts h.debug then exec_masked_of h.core m else exec_of h.core m

-- the debug part behind an executed turn: counts fall, and a single step halts
abbrev pub stepped : DebugPart → DebugPart
stepped d = if d.step then halted_for cause.Step (record d { slots = counted_down d.slots }) else record d { slots = counted_down d.slots }

abbrev pub ran : Outcome → Hart → Place
ran o h = record {
  hart = record { core = o.step.core; debug = stepped h.debug };
  turned = if h.debug.step then Halted cause.Step else Ran o.step.did;
}

-- the debug part behind a stop: only a trigger's marks the slots
abbrev pub stopped_for : Cause → Touch → DebugPart → DebugPart
stopped_for cause.Trigger touch d = halted_for cause.Trigger (record d { slots = marked touch d.slots })
stopped_for why touch d = halted_for why d

abbrev pub place_in : TurnCase → Touch → Outcome → Hart → Place
place_in resumes touch o h = record { hart = record h { debug = resumed h.debug }; turned = Resumed }
place_in rests touch o h = record { hart = h; turned = Idle }
place_in (stops why) touch o h = record { hart = record h { debug = stopped_for why touch h.debug }; turned = Halted why }
place_in goes_on touch o h = ran o h

abbrev pub place_by : Option Cause → Bool → Bool → Bool → Bool → Touch → Outcome → Hart → Place
place_by halted resume request fired at_ebreak touch o h = place_in (case_by halted resume request fired at_ebreak) touch o h

-- a hart's turn over a memory
unfoldable pub place_of : Hart → Memory → Place
place_of h m =
    place_by h.debug.halted h.debug.resume_request h.debug.halt_request (some_fires (touch_of h.core m) h) (stops_at_ebreak h m)
    (touch_of h.core m) (turn_outcome h m) h

-- the memory behind it: only an executed turn changes it
unfoldable pub memory_after : Hart → Memory → Memory
memory_after h m = if executes h m then (turn_outcome h m).memory else m

-- ---- on a board

abbrev pub turn_by : Option Hart → ℕ → Board → Board
turn_by None h b = b
turn_by (Some hart) h b = record { harts = slice_set b.harts h (place_of hart b.memory).hart; memory = memory_after hart b.memory }

-- a board after the turn of hart h; nothing where there is no such hart
abbrev pub turn : ℕ → Board → Board
turn h b = turn_by (slice_get b.harts h) h b

abbrev pub executes_here : Option Hart → Memory → Bool
executes_here None m = false
executes_here (Some hart) m = executes hart m

-- is the turn of hart h an executed one?
abbrev pub executes_at : ℕ → Board → Bool
executes_at h b = executes_here (slice_get b.harts h) b.memory
