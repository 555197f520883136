-- First match with software breakpoints: no hart runs past an instruction that an armed slot is for, nor executes where a word is covered; and each stop by
-- triggers has just the slots whose instruction it is, which at a covered word reads and writes nothing.
-- It is this project's own. It speaks of the trace and of the undebugged machine alone.
use Rattle.std.specs.Prelude.{◌≡◌, ℕ, Bool, true, false, not, ◌&&◌, ◌==◌, List, [], ◌∷◌, Option, Some, None, slice_get}
use Rattle.std.specs.List.{list_any}
use Rattle.rv_model.specs.declared.cause.Cause.{Cause}
use Rattle.rv_model.specs.declared.cause.Cause.TheVariants as cause
use Rattle.rv_model.specs.declared.touch.Touch.{Touch}
use Rattle.rv_model.specs.Board.{Machine}
use Rattle.rv_model.specs.Core.{Core}
use Rattle.rv_model.specs.Memory.{Memory}
use Rattle.rv_model.specs.Undebugged.{Entry, Exec, SetReg, SetMem}
use Rattle.abstract_debugger.specs.FirstMatch.{Story, has, spent, story, watch_matches}
use Rattle.abstract_debugger.specs.Own.{lived}
use Rattle.abstract_debugger.specs.Trace.{Note, Past, What}
use Rattle.abstract_debugger.specs.Trace.Note.{Did, Stop, Arm, Free, Patched}
use Rattle.abstract_debugger.specs.Trace.What.{Break, Watch, Count}
use Rattle.soft_laws.specs.SoftBreaks.{covered, is_listed}
use Rattle.soft_laws.specs.SoftTurns.{soft_touch}

-- ---- matches

-- is the instruction at a core's pc what a slot is armed for? By: the accesses that it would make, executions and a stop since it was armed
abbrev pub matches_at_touch : What → Core → Touch → (execs : ℕ) → (stopped : Bool) → Bool
matches_at_touch (Break address) c t execs stopped = c.pc == address
matches_at_touch (Watch kind address) c t execs stopped = watch_matches kind address t
matches_at_touch (Count turns) c t execs stopped = execs == turns && not stopped

abbrev pub armed_at_touch : Option What → Core → Touch → (execs : ℕ) → (stopped : Bool) → Bool
armed_at_touch (Some what) c t execs stopped = matches_at_touch what c t execs stopped
armed_at_touch None c t execs stopped = false

abbrev pub soft_matches_at : List ℕ → Option Core → Memory → Story → Bool
soft_matches_at cs (Some c) m s = armed_at_touch s.armed c (soft_touch cs c m) s.execs s.stopped
soft_matches_at cs None m s = false

-- behind a past, does slot k of hart h match?
abbrev pub soft_matching : Machine → ℕ → ℕ → Past → Bool
soft_matching m h k past = soft_matches_at (covered past) (slice_get (lived m past).cores h) (lived m past).memory (story h k past)

-- ---- the law, note by note

abbrev pub covers_pc : List ℕ → Option Core → Bool
covers_pc cs (Some c) = is_listed cs c.pc
covers_pc cs None = false

-- where an instruction is executed, its word isn't covered, and each slot that matches has stopped the hart there before
pub record SoftNothingRunPast (m : Machine) (h : ℕ) (past : Past) : Type 0 where
  pub uncovered : covers_pc (covered past) (slice_get (lived m past).cores h) ≡ false
  pub each : (k : ℕ) → soft_matching m h k past ≡ true → spent h k past ≡ true

-- a stop by triggers has just the slots that match and have not stopped the hart there before, and there is one
pub record SoftStopsAtMatch (m : Machine) (h : ℕ) (slots : List Bool) (past : Past) : Type 0 where
  pub each : (k : ℕ) → has slots k ≡ (soft_matching m h k past && not (spent h k past))
  pub some : list_any (λ b. b) slots ≡ true

abbrev pub SoftRightEntry : Machine → Entry → Past → Type 0
SoftRightEntry m (Exec h) past = SoftNothingRunPast m h past
SoftRightEntry m (SetReg h r v) past = Unit {0}
SoftRightEntry m (SetMem a count v) past = Unit {0}

abbrev pub SoftRightStop : Machine → ℕ → Cause → List Bool → Past → Type 0
SoftRightStop m h cause.Trigger slots past = SoftStopsAtMatch m h slots past
SoftRightStop m h cause.Ebreak slots past = Unit {0}
SoftRightStop m h cause.HaltReq slots past = Unit {0}
SoftRightStop m h cause.Step slots past = Unit {0}
SoftRightStop m h cause.Reset slots past = Unit {0}

abbrev pub SoftRightNote : Machine → Note → Past → Type 0
SoftRightNote m (Did entry) past = SoftRightEntry m entry past
SoftRightNote m (Stop h why slots) past = SoftRightStop m h why slots past
SoftRightNote m (Arm h slot what) past = Unit {0}
SoftRightNote m (Free h slot) past = Unit {0}
SoftRightNote m (Patched a covers) past = Unit {0}

-- each note of a past is right over what stands before it
abbrev pub SoftFirstMatch : Machine → Past → Type 0
SoftFirstMatch m [] = Unit {0}
SoftFirstMatch m (n ∷ past) = SoftRightNote m n past × SoftFirstMatch m past
