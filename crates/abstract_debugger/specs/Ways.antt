-- The way in which a debugger stands to one hart: what its debug part is known to be, over the story that the past tells of each of its slots.
-- It is this project's own. First match is kept by these ways, and so is what the code of a session knows of the harts.
use Rattle.std.specs.Prelude.{◌≡◌, ◌≤◌, ◌⊎◌, ℕ, ◌-◌, Bool, true, false, not, ◌&&◌, ◌==◌, List, Option, Some, None, slice_get}
use Rattle.rv_model.specs.declared.cause.Cause.{Cause}
use Rattle.rv_model.specs.declared.slot.Comparison.TheVariants.{Equal}
use Rattle.rv_model.specs.declared.slot.Slot.{Slot}
use Rattle.rv_model.specs.declared.slot.Trigger.{Trigger}
use Rattle.rv_model.specs.declared.slot.Trigger.TheVariants as kind
use Rattle.rv_model.specs.Board.{DebugPart}
use Rattle.debug_model.specs.declared.command.WatchKind.{WatchKind}
use Rattle.debug_model.specs.declared.command.WatchKind.TheVariants.{Load, Store, Access}
use Rattle.abstract_debugger.specs.FirstMatch.{Story, story}
use Rattle.abstract_debugger.specs.Plan.{is_step}
use Rattle.abstract_debugger.specs.Trace.{Past, What}
use Rattle.abstract_debugger.specs.Trace.What.{Break, Watch, Count}

-- ---- one slot

abbrev pub address_like : (m hit execute load store : Bool) → Trigger
address_like m hit execute load store = kind.Mcontrol6 (record { hit = hit; comparison = Equal; m = m; execute = execute; store = store; load = load })

abbrev pub watch_like : (m hit : Bool) → WatchKind → Trigger
watch_like m hit Load = address_like m hit false true false
watch_like m hit Store = address_like m hit false false true
watch_like m hit Access = address_like m hit false true true

-- the trigger of a slot that is on or off, with or without a hit, and was armed for this, so many executions and maybe a stop ago
abbrev pub trigger_like : (m hit : Bool) → What → (execs : ℕ) → (stopped : Bool) → Trigger
trigger_like m hit (Break address) execs stopped = address_like m hit true false false
trigger_like m hit (Watch watched address) execs stopped = watch_like m hit watched
trigger_like m hit (Count turns) execs stopped = kind.Icount (record { hit = hit; count = turns - execs; m = m; pending = execs == turns && not stopped })

abbrev pub IsAt : What → ℕ → Type 0
IsAt (Break address) tdata2 = tdata2 ≡ address
IsAt (Watch watched address) tdata2 = tdata2 ≡ address
IsAt (Count turns) tdata2 = Unit {0}

abbrev pub HasRunDown : What → ℕ → Type 0
HasRunDown (Break address) execs = Unit {0}
HasRunDown (Watch watched address) execs = Unit {0}
HasRunDown (Count turns) execs = turns ≤ execs

pub record Like (m hit : Bool) (what : What) (execs : ℕ) (stopped : Bool) (s : Slot) : Type 0 where
  pub trigger : s.trigger ≡ trigger_like m hit what execs stopped
  pub at : IsAt what s.tdata2
  pub run_down : stopped ≡ true → HasRunDown what execs
  pub hit_stopped : hit ≡ true → stopped ≡ true

-- by: the slot, where the hart has it, and what it is armed for
abbrev pub IsSlotFor : Option Slot → Option What → (m hit : Bool) → (execs : ℕ) → (stopped : Bool) → Type 0
IsSlotFor None None m hit execs stopped = hit ≡ false
IsSlotFor None (Some what) m hit execs stopped = ⊥
IsSlotFor (Some s) None m hit execs stopped = (s.trigger ≡ kind.Disabled) × (hit ≡ false)
IsSlotFor (Some s) (Some what) m hit execs stopped = Like m hit what execs stopped s

-- a slot is as its story says, but for being on and having a hit
abbrev pub IsSlot : Option Slot → (m hit : Bool) → Story → Type 0
IsSlot o m hit s = IsSlotFor o s.armed m hit s.execs s.stopped

-- behind a step: a slot is off only with a hit, and it is spent just where it has one and the step was no whole one
pub record IsSteppedSlot (o : Option Slot) (whole : Bool) (s : Story) : Type 0 where
  pub m : Bool
  pub hit : Bool
  pub is : IsSlot o m hit s
  pub off : m ≡ false → hit ≡ true
  pub spent_is : s.spent ≡ (not whole && hit)

-- ---- where a hart stands, by the fields of its debug part

-- all slots are on, and those that are spent have a hit
abbrev pub SlotsOn : ℕ → Past → List Slot → Type 0
SlotsOn h past slots = (k : ℕ) → IsSlot (slice_get slots k) true (story h k past).spent (story h k past)

-- slots that are spent are off, and have a hit
abbrev pub SlotsHeld : ℕ → Past → List Slot → Type 0
SlotsHeld h past slots = (k : ℕ) → IsSlot (slice_get slots k) (not (story h k past).spent) (story h k past).spent (story h k past)

abbrev pub NothingSpent : ℕ → Past → Type 0
NothingSpent h past = (k : ℕ) → (story h k past).spent ≡ false

-- halted, and nobody asks it to resume
pub record Rests (h : ℕ) (past : Past) (halted : Option Cause) (asked step : Bool) (slots : List Slot) : Type 0 where
  pub why : Cause
  pub is_halted : halted ≡ Some why
  pub not_asked : asked ≡ false
  pub no_step : step ≡ false
  pub slots_are : SlotsOn h past slots
  pub whole : is_step halted ≡ true → NothingSpent h past

-- it runs, or will run at its next turn
pub data Starts (halted : Option Cause) (asked ack : Bool) : Type 0 where
  runs : (is_running : halted ≡ None) → (not_asked : asked ≡ false) → Starts halted asked ack
  waits : (why : Cause) → (is_halted : halted ≡ Some why) → (is_asked : asked ≡ true) → (no_ack : ack ≡ false) → Starts halted asked ack

-- about to execute, one instruction or more
pub record Moves (once : Bool) (h : ℕ) (past : Past) (halted : Option Cause) (asked ack step : Bool) (slots : List Slot) : Type 0 where
  pub starts : Starts halted asked ack
  pub step_is : step ≡ once
  pub slots_are : SlotsHeld h past slots
  pub unspent : once ≡ false → NothingSpent h past

pub record Runs (h : ℕ) (past : Past) (halted : Option Cause) (asked ack step : Bool) (slots : List Slot) : Type 0 where
  pub is_running : halted ≡ None
  pub moves : Moves false h past halted asked ack step slots

pub record Unspent (h : ℕ) (past : Past) (halted : Option Cause) (asked step : Bool) (slots : List Slot) : Type 0 where
  pub rests : Rests h past halted asked step slots
  pub none : NothingSpent h past

-- halted, with the slots that are to be stepped over off
pub record Held (h : ℕ) (past : Past) (halted : Option Cause) (asked step : Bool) (slots : List Slot) : Type 0 where
  pub why : Cause
  pub is_halted : halted ≡ Some why
  pub not_asked : asked ≡ false
  pub step_is : step ≡ true
  pub slots_are : SlotsHeld h past slots

-- halted behind a step
pub record Stepped (h : ℕ) (past : Past) (halted : Option Cause) (asked : Bool) (slots : List Slot) : Type 0 where
  pub why : Cause
  pub is_halted : halted ≡ Some why
  pub not_asked : asked ≡ false
  pub slots_are : (k : ℕ) → IsSteppedSlot (slice_get slots k) (is_step halted) (story h k past)

-- ---- what the debugger does with it

pub data Way : Type 0 where
  Idle : Way  -- nothing: it runs or it rests
  Still : Way  -- it rests
  Ready : Way  -- it rests, and no slot is spent
  Going : Way  -- it was asked to resume, and the ack has not been seen
  Holding : Way  -- a step is begun
  Asked : Way  -- it was asked to resume for the step
  Over : Way  -- the step was made

abbrev pub FitsBy : Way → ℕ → Past → Option Cause → (asked ack step : Bool) → List Slot → Type 0
FitsBy Idle h past halted asked ack step slots = Rests h past halted asked step slots ⊎ Runs h past halted asked ack step slots
FitsBy Still h past halted asked ack step slots = Rests h past halted asked step slots
FitsBy Ready h past halted asked ack step slots = Unspent h past halted asked step slots
FitsBy Going h past halted asked ack step slots = Rests h past halted asked step slots ⊎ Moves false h past halted asked ack step slots
FitsBy Holding h past halted asked ack step slots = Held h past halted asked step slots
FitsBy Asked h past halted asked ack step slots = Stepped h past halted asked slots ⊎ Moves true h past halted asked ack step slots
FitsBy Over h past halted asked ack step slots = Stepped h past halted asked slots

abbrev pub Fits : Way → ℕ → Past → DebugPart → Type 0
Fits way h past d = FitsBy way h past d.halted d.resume_request d.resume_ack d.step d.slots
