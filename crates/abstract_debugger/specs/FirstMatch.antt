-- First match: no hart runs past an instruction that an armed slot is for, and each stop by triggers has just the slots whose instruction it is.
-- It is this project's own. It speaks of the trace and of the undebugged machine alone, and never of what stands in the chip's slots.
use Rattle.std.specs.Prelude.{◌≡◌, ℕ, ◌+◌, Bool, true, false, not, ◌&&◌, ◌||◌, ◌==◌, List, [], ◌∷◌, Option, Some, None, slice_get, if◌then◌else◌}
use Rattle.std.specs.List.{list_any}
use Rattle.rv_model.specs.declared.cause.Cause.{Cause}
use Rattle.rv_model.specs.declared.cause.Cause.TheVariants as cause
use Rattle.rv_model.specs.declared.slot.Comparison.TheVariants.{Equal}
use Rattle.rv_model.specs.declared.touch.Touch.{Touch}
use Rattle.rv_model.specs.Board.{Machine}
use Rattle.rv_model.specs.Core.{Core}
use Rattle.rv_model.specs.Memory.{Memory}
use Rattle.rv_model.specs.Registers.{pc_number}
use Rattle.rv_model.specs.Touch.{touch_of}
use Rattle.rv_model.specs.Triggers.{access_compares}
use Rattle.rv_model.specs.Undebugged.{Entry, Exec, SetReg, SetMem}
use Rattle.debug_model.specs.declared.command.WatchKind.{WatchKind}
use Rattle.debug_model.specs.declared.command.WatchKind.TheVariants.{Load, Store, Access}
use Rattle.abstract_debugger.specs.Own.{lived}
use Rattle.abstract_debugger.specs.Trace.{Note, Past, What}
use Rattle.abstract_debugger.specs.Trace.Note.{Did, Stop, Arm, Free, Patched}
use Rattle.abstract_debugger.specs.Trace.What.{Break, Watch, Count}

-- is a slot in a set that is given by place?
abbrev pub has_here : Option Bool → Bool
has_here (Some b) = b
has_here None = false

abbrev pub has : List Bool → ℕ → Bool
has slots slot = has_here (slice_get slots slot)

-- is a note one of hart h?
abbrev pub concerns : ℕ → Note → Bool
concerns h (Did (Exec i)) = h == i
concerns h (Did (SetReg i r v)) = h == i
concerns h (Did (SetMem a count v)) = false
concerns h (Stop i why slots) = h == i
concerns h (Arm i slot what) = h == i
concerns h (Free i slot) = h == i
concerns h (Patched address covers) = false

-- ---- what a past says of one slot of a hart

-- what it is armed for, and since then how often its hart has executed and whether it has stopped it;
-- it is spent where it has stopped the hart at the instruction at which the hart still is
pub record Story : Type 0 where
  pub armed : Option What
  pub execs : ℕ
  pub stopped : Bool
  pub spent : Bool

abbrev pub unarmed : Story
unarmed = record { armed = None; execs = 0; stopped = false; spent = false }

abbrev pub newly_armed : What → Story
newly_armed what = record { armed = Some what; execs = 0; stopped = false; spent = false }

-- only stops by triggers spend a slot
abbrev pub spent_by : Cause → (fired before : Bool) → Bool
spent_by cause.Trigger fired before = fired || before
spent_by cause.Ebreak fired before = before
spent_by cause.HaltReq fired before = before
spent_by cause.Step fired before = before
spent_by cause.Reset fired before = before

-- slot k's story behind a note of its hart
abbrev pub told : ℕ → Note → Story → Story
told k (Did (Exec h)) s = record s { execs = s.execs + 1; spent = false }
told k (Did (SetReg h r v)) s = record s { spent = if r == pc_number then false else s.spent }
told k (Did (SetMem a count v)) s = s
told k (Stop h why slots) s = record s { stopped = has slots k || s.stopped; spent = spent_by why (has slots k) s.spent }
told k (Arm h slot what) s = if k == slot then newly_armed what else s
told k (Free h slot) s = if k == slot then unarmed else s
told k (Patched address covers) s = s

-- slot k of hart h
abbrev pub story : ℕ → ℕ → Past → Story
story h k [] = unarmed
story h k (n ∷ past) = if concerns h n then told k n (story h k past) else story h k past

abbrev pub armed : ℕ → ℕ → Past → Option What
armed h k past = (story h k past).armed

abbrev pub spent : ℕ → ℕ → Past → Bool
spent h k past = (story h k past).spent

-- ---- matches

-- the bytes that an instruction would read or write, by the kind of a watch
abbrev pub watch_matches : WatchKind → ℕ → Touch → Bool
watch_matches Load address touch = access_compares Equal address touch.load
watch_matches Store address touch = access_compares Equal address touch.store
watch_matches Access address touch = access_compares Equal address touch.load || access_compares Equal address touch.store

-- is the instruction at a core's pc what a slot is armed for? By: executions and a stop since it was armed
abbrev pub matches : What → Core → Memory → (execs : ℕ) → (stopped : Bool) → Bool
matches (Break address) c m execs stopped = c.pc == address
matches (Watch kind address) c m execs stopped = watch_matches kind address (touch_of c m)
matches (Count turns) c m execs stopped = execs == turns && not stopped

abbrev pub armed_matches : Option What → Core → Memory → (execs : ℕ) → (stopped : Bool) → Bool
armed_matches (Some what) c m execs stopped = matches what c m execs stopped
armed_matches None c m execs stopped = false

abbrev pub matches_at : Option Core → Memory → Story → Bool
matches_at (Some c) m s = armed_matches s.armed c m s.execs s.stopped
matches_at None m s = false

-- behind a past that began with a machine that nobody debugs, does slot k of hart h match?
abbrev pub matching : Machine → ℕ → ℕ → Past → Bool
matching m h k past = matches_at (slice_get (lived m past).cores h) (lived m past).memory (story h k past)

-- ---- the law, note by note

-- where an instruction is executed, each slot that matches has stopped the hart there before
abbrev pub NothingRunPast : Machine → ℕ → Past → Type 0
NothingRunPast m h past = (k : ℕ) → matching m h k past ≡ true → spent h k past ≡ true

-- a stop by triggers has just the slots that match and have not stopped the hart there before, and there is one
pub record StopsAtMatch (m : Machine) (h : ℕ) (slots : List Bool) (past : Past) : Type 0 where
  pub each : (k : ℕ) → has slots k ≡ (matching m h k past && not (spent h k past))
  pub some : list_any (λ b. b) slots ≡ true

abbrev pub RightEntry : Machine → Entry → Past → Type 0
RightEntry m (Exec h) past = NothingRunPast m h past
RightEntry m (SetReg h r v) past = Unit {0}
RightEntry m (SetMem a count v) past = Unit {0}

abbrev pub RightStop : Machine → ℕ → Cause → List Bool → Past → Type 0
RightStop m h cause.Trigger slots past = StopsAtMatch m h slots past
RightStop m h cause.Ebreak slots past = Unit {0}
RightStop m h cause.HaltReq slots past = Unit {0}
RightStop m h cause.Step slots past = Unit {0}
RightStop m h cause.Reset slots past = Unit {0}

abbrev pub RightNote : Machine → Note → Past → Type 0
RightNote m (Did entry) past = RightEntry m entry past
RightNote m (Stop h why slots) past = RightStop m h why slots past
RightNote m (Arm h slot what) past = Unit {0}
RightNote m (Free h slot) past = Unit {0}
RightNote m (Patched address covers) past = Unit {0}

-- each note of a past is right over what stands before it
abbrev pub FirstMatch : Machine → Past → Type 0
FirstMatch m [] = Unit {0}
FirstMatch m (n ∷ past) = RightNote m n past × FirstMatch m past
