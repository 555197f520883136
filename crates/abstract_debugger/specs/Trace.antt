-- The trace of a session: what happened at the harts that a debugger's user can tell, one note after the other.
-- It is this project's own. A trace is kept as a past, the newest note first, so that each note is read over what stands before it.
use Rattle.std.specs.Prelude.{ℕ, Bool, true, false, List, [], ◌∷◌, ◌++◌, Option, Some, None, slice_get}
use Rattle.rv_model.specs.declared.cause.Cause.{Cause}
use Rattle.rv_model.specs.declared.cause.Cause.TheVariants as cause
use Rattle.rv_model.specs.Board.{Board, Hart}
use Rattle.rv_model.specs.Memory.{Memory}
use Rattle.rv_model.specs.Touch.{touch_of}
use Rattle.rv_model.specs.Triggers.{fires}
use Rattle.rv_model.specs.Turn.{TurnCase, case_by, some_fires, stops_at_ebreak}
use Rattle.rv_model.specs.Turn.{resumes, rests, stops, goes_on}
use Rattle.rv_model.specs.Undebugged.{Entry, Exec}
use Rattle.debug_model.specs.declared.command.WatchKind.{WatchKind}
use Rattle.debug_model.specs.declared.point.Point.{Point}
use Rattle.debug_model.specs.declared.point.Point.TheVariants.{Turn, Look, HaltReq, HaltClear, ResumeReq, Access}

-- what a trigger slot is armed for
pub data What : Type 0 where
  Break : (address : ℕ) → What  -- stops before the instruction at an address
  Watch : (kind : WatchKind) → (address : ℕ) → What  -- stops before an access to the byte at an address
  Count : (turns : ℕ) → What  -- stops after so many executed turns

pub data Note : Type 0 where
  Did : (entry : Entry) → Note  -- an instruction executed, or a register or memory written by the debugger
  Stop : (hart : ℕ) → (cause : Cause) → (slots : List Bool) → Note  -- a hart halted in its turn; by place, the slots that fired
  Arm : (hart slot : ℕ) → (what : What) → Note
  Free : (hart slot : ℕ) → Note
  Patched : (address : ℕ) → (covers : Bool) → Note  -- an ebreak stands over the word there, or it stands there no more

-- the newest note first
abbrev pub Past : Type 0
Past = List Note

-- in the order in which it happened
abbrev pub trace_of : Past → List Note
trace_of [] = []
trace_of (note ∷ past) = trace_of past ++ note ∷ []

-- ---- the notes of a turn

abbrev pub no_slots : List Bool
no_slots = []

-- a past after what hart h did in its turn; in a single step or not, with the slots that fired
abbrev pub noted_in : TurnCase → Bool → ℕ → List Bool → Past → Past
noted_in resumes step h slots past = past
noted_in rests step h slots past = past
noted_in (stops cause.Trigger) step h slots past = Stop h cause.Trigger slots ∷ past
noted_in (stops why) step h slots past = Stop h why no_slots ∷ past
noted_in goes_on true h slots past = Stop h cause.Step no_slots ∷ Did (Exec h) ∷ past
noted_in goes_on false h slots past = Did (Exec h) ∷ past

-- by: halted, a halt request, some slot fires, an ebreak that halts; whether a resume is asked is no matter
abbrev pub noted_by : Option Cause → Bool → Bool → Bool → Bool → ℕ → List Bool → Past → Past
noted_by halted request fired at_ebreak step h slots past = noted_in (case_by halted false request fired at_ebreak) step h slots past

abbrev pub noted_turn : ℕ → Hart → Memory → Past → Past
noted_turn h hart m past =
    noted_by hart.debug.halted hart.debug.halt_request (some_fires (touch_of hart.core m) hart) (stops_at_ebreak hart m) hart.debug.step
    h (fires (touch_of hart.core m) hart.debug.slots) past

abbrev pub noted_here : Option Hart → ℕ → Memory → Past → Past
noted_here (Some hart) h m past = noted_turn h hart m past
noted_here None h m past = past

-- a past behind a point that is taken at a board: a turn alone leaves notes
abbrev pub noted : Point → Board → Past → Past
noted (Turn h) b past = noted_here (slice_get b.harts h) h b.memory past
noted (Look n) b past = past
noted (HaltReq h) b past = past
noted (HaltClear h) b past = past
noted (ResumeReq h) b past = past
noted Access b past = past
