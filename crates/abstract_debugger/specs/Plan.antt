-- A debugger's plan: what is still to be done, as points to be taken, looks at the board, changes made at once, and lines to be said.
-- It is this project's own. It knows no scan, no register of the debug module, no busy answer and no program buffer.
use Rattle.std.specs.Prelude.{ℕ, Bool, true, false, Option, Some, None, if◌then◌else◌, ◌==◌, ◌∷◌}
use Rattle.rv_model.specs.declared.cause.Cause.{Cause}
use Rattle.rv_model.specs.declared.cause.Cause.TheVariants as cause
use Rattle.rv_model.specs.Board.{Board, DebugPart, Hart}
use Rattle.rv_model.specs.Registers.{pc_number, reg_written}
use Rattle.rv_model.specs.Undebugged.{SetMem, SetReg, with_bytes}
use Rattle.debug_model.specs.declared.command.Path.{Path}
use Rattle.debug_model.specs.declared.point.Point.{Point}
use Rattle.abstract_debugger.specs.Lines.{Line}
use Rattle.abstract_debugger.specs.Slots.{armed_for, freed, hits_forgotten, over, slots_back, slots_held, with_slots}
use Rattle.abstract_debugger.specs.Trace.{Past, What}
use Rattle.abstract_debugger.specs.Trace.Note.{Did, Arm, Free, Patched}

-- what a debugger does at once, however many registers it writes for it
pub data Change : Type 0 where
  WriteReg : (hart number value : ℕ) → Change  -- a written pc forgets all hits
  WriteMem : (address count value : ℕ) → Change  -- so many bytes, the least significant first
  ArmSlot : (hart slot : ℕ) → (what : What) → Change
  FreeSlot : (hart slot : ℕ) → Change
  StepOver : (hart : ℕ) → Change  -- before a single step: slots with a hit are off
  StepDone : (hart : ℕ) → Change  -- behind it: they are on again, and hits are forgotten where the step was a whole one
  EbreakHalts : (hart : ℕ) → (on : Bool) → Change
  Patch : (address original : ℕ) → (covers : Bool) → Change  -- over the word there, which a user sees as this, an ebreak stands, or stands no more

-- how a plan stops: done, or after so many Looks that did not see what was wanted
pub data PlanEnd : Type 0 where
  Done : PlanEnd
  NoHalt : (looks : ℕ) → PlanEnd
  NoAck : (looks : ℕ) → PlanEnd

pub data Plan : Type 0 where
  take : (point : Point) → (next : Plan) → Plan  -- the turns that stand in front, then this point
  on_path : (path : Path) → (next : Plan) → Plan  -- the access that comes next is made on this path; a journal doesn't tell the two apart
  see : (next : Board → Plan) → Plan  -- goes on by the board as it is behind the last point taken
  change : (what : Change) → (next : Plan) → Plan
  say : (line : Line) → (next : Plan) → Plan
  stop : (end : PlanEnd) → Plan

-- ---- changes of one hart

-- hart h changed by f; nothing where there is no such hart
abbrev pub hart_over : (Hart → Hart) → ℕ → Board → Board
hart_over f h b = record b { harts = over h f b.harts }

abbrev pub with_debug_part : (DebugPart → DebugPart) → Hart → Hart
with_debug_part f x = record x { debug = f x.debug }

-- a register by the debugger's number; the slots' hits belong to the pc that was
abbrev pub register_set : ℕ → ℕ → Hart → Hart
register_set r v x = record {
  core = reg_written x.core r v;
  debug = if r == pc_number then with_slots hits_forgotten x.debug else x.debug;
}

abbrev pub slot_changed : ℕ → (what : What) → DebugPart → DebugPart
slot_changed slot what d = with_slots (over slot (armed_for what)) d

abbrev pub slot_freed : ℕ → DebugPart → DebugPart
slot_freed slot d = with_slots (over slot freed) d

-- stepping over: the slots with a hit are off, and one instruction is to be done, with interrupts as without a debugger
abbrev pub step_begun : DebugPart → DebugPart
step_begun d = record d { step = true; stepie = true; slots = slots_held d.slots }

-- did the hart halt because a step was done?
abbrev pub is_step : Option Cause → Bool
is_step (Some cause.Step) = true
is_step (Some cause.Ebreak) = false
is_step (Some cause.Trigger) = false
is_step (Some cause.HaltReq) = false
is_step (Some cause.Reset) = false
is_step None = false

-- behind the step: both flags are clear, the slots are on again, and where the step was a whole one the hits have been stepped over
abbrev pub step_ended : DebugPart → DebugPart
step_ended d = record d {
  step = false;
  stepie = false;
  slots = if is_step d.halted then hits_forgotten (slots_back d.slots) else slots_back d.slots;
}

abbrev pub ebreak_halts : Bool → DebugPart → DebugPart
ebreak_halts on d = record d { ebreakm = on }

-- ---- patches

-- an ebreak has four bytes
abbrev pub patch_bytes : ℕ
patch_bytes = 4

-- ---- a change of the board, and of the trace; a patch is hidden from the board, where the word that it covers or uncovers is written once more

abbrev pub changed_board : Change → Board → Board
changed_board (WriteReg h r v) b = hart_over (register_set r v) h b
changed_board (WriteMem a count v) b = record b { memory = with_bytes b.memory a count v }
changed_board (ArmSlot h slot what) b = hart_over (with_debug_part (slot_changed slot what)) h b
changed_board (FreeSlot h slot) b = hart_over (with_debug_part (slot_freed slot)) h b
changed_board (StepOver h) b = hart_over (with_debug_part step_begun) h b
changed_board (StepDone h) b = hart_over (with_debug_part step_ended) h b
changed_board (EbreakHalts h on) b = hart_over (with_debug_part (ebreak_halts on)) h b
changed_board (Patch a original covers) b = record b { memory = with_bytes b.memory a patch_bytes original }

abbrev pub changed_past : Change → Past → Past
changed_past (WriteReg h r v) past = Did (SetReg h r v) ∷ past
changed_past (WriteMem a count v) past = Did (SetMem a count v) ∷ past
changed_past (ArmSlot h slot what) past = Arm h slot what ∷ past
changed_past (FreeSlot h slot) past = Free h slot ∷ past
changed_past (StepOver h) past = past
changed_past (StepDone h) past = past
changed_past (EbreakHalts h on) past = past
changed_past (Patch a original covers) past = Did (SetMem a patch_bytes original) ∷ Patched a covers ∷ past
