-- What each call of run control did at the link: the operations that it made, in order, with what the Looks showed, and where a fault came.
-- RISC-V Debug Specification 1.0, "Halt Control" and "Run Control".
use Rattle.std.specs.Prelude.{◌≡◌, ℕ, List, [], ◌∷◌, Bool, true, false, Option, Some, None}
use Rattle.rv_model.specs.declared.version.Version.{Version}
use Rattle.debug_model.specs.Addresses.{dmcontrol_address, dmstatus_address}
use Rattle.debug_model.specs.declared.dmi.DmiFault.{DmiFault}
use Rattle.debug_model.specs.declared.dmi_op.DmiOp.TheVariants.{Read, Write}
use Rattle.debug_model.specs.Told.{Far}
use Rattle.abstract_debugger.specs.Debugger.{Seen as Sight, most_looks, sees_ack, sees_both, sees_halted}
use Rattle.probe_run.specs.declared.control.Request.{Request}
use Rattle.probe_run.specs.declared.control.Request.TheVariants.{Nothing, Halt, Resume}
use Rattle.probe_run.specs.declared.fault.RunFault.{RunFault}
use Rattle.probe_run.specs.declared.fault.RunFault.TheVariants.{Dmi, NoHalt, NoAck}
use Rattle.probe_run.specs.declared.hart.Seen.{Seen}
use Rattle.probe_run.specs.declared.hart.Seen.TheVariants as seen
use Rattle.probe_run.specs.declared.wait.Wanted.{Wanted}
use Rattle.probe_run.specs.declared.wait.Waited.{Waited}
use Rattle.probe_run.specs.declared.wait.Waited.TheVariants as waited
use Rattle.probe_run.specs.Acts.{Act, Broke, Did, Tells}
use Rattle.probe_run.specs.Acts.Act.{Put}
use Rattle.probe_run.specs.Acts.Attempt.{Operation, Several}
use Rattle.probe_run.specs.Looks.{Met, Missed, look_act, seen_in, test_of}
use Rattle.probe_run.specs.Requests.{control_word}
use Rattle.probe_run.specs.Waits.{LookBroke, WaitBroke}

-- ---- faults

-- which of them is the link's
abbrev pub run_why : RunFault → Option DmiFault
run_why (Dmi fault) = Some fault
run_why (NoHalt looks) = None
run_why (NoAck looks) = None

-- ---- a hart is asked, and waited for

-- one write that asks this of the hart
abbrev pub asks : Request → ℕ → List Act
asks request h = Put dmcontrol_address (control_word request h) ∷ []

abbrev pub AskBroke : Request → ℕ → ℕ → ℕ → Tells → Option Far → DmiFault → Type 0
AskBroke request h old_count new_count old told fault =
    Broke [] (Operation (Write dmcontrol_address (control_word request h))) old_count new_count old told fault

-- by what a wait behind a request answers
abbrev pub AskedAs : Request → ℕ → Wanted → Tells → Tells → Waited → Type 0
AskedAs request h what old new waited.Shown = Met (test_of what) (asks request h) old new
AskedAs request h what old new (waited.Unshown acknowledged) = (last : ℕ) × Missed (test_of what) last (asks request h) old new
    × (acknowledged ≡ sees_ack (seen_in last))

-- the call failed that asks this of the hart and makes the first Look of it
abbrev pub FirstBroke : Request → ℕ → ℕ → ℕ → Tells → Option Far → DmiFault → Type 0
FirstBroke request h old_count new_count old told fault =
    Broke [] (Several (Write dmcontrol_address (control_word request h)) (Read dmstatus_address ∷ [])) old_count new_count old told fault

-- that call failed, or a Look behind it
pub data RunBroke (request : Request) (test : Sight → Bool) (h old_count new_count : ℕ) (old : Tells) (told : Option Far) (fault : DmiFault) : Type 0 where
  at_first : FirstBroke request h old_count new_count old told fault → RunBroke request test h old_count new_count old told fault
  at_look : WaitBroke test (asks request h) old_count new_count old told fault → RunBroke request test h old_count new_count old told fault

-- ---- a Look

-- what was seen is what the word shows, and it is of this hart
abbrev pub IsSeen : ℕ → Sight → Seen → Type 0
IsSeen h Sight.Absent seen.Absent = Unit {0}
IsSeen h Sight.Absent (seen.Running r) = ⊥
IsSeen h Sight.Absent (seen.Halted x) = ⊥
IsSeen h (Sight.Running ack) seen.Absent = ⊥
IsSeen h (Sight.Running ack) (seen.Running r) = r.number ≡ h
IsSeen h (Sight.Running ack) (seen.Halted x) = ⊥
IsSeen h (Sight.Halted ack) seen.Absent = ⊥
IsSeen h (Sight.Halted ack) (seen.Running r) = ⊥
IsSeen h (Sight.Halted ack) (seen.Halted x) = x.number ≡ h

-- what was seen is of a chip of this release
abbrev pub SeenAs : Version → Seen → Type 0
SeenAs v seen.Absent = Unit {0}
SeenAs v (seen.Running r) = r.version ≡ v
SeenAs v (seen.Halted x) = x.version ≡ v

-- the hart was selected, and one Look made of it
pub record LookedAt (h : ℕ) (old new : Tells) (s : Seen) : Type 0 where
  pub word : ℕ
  pub did : Did old (Put dmcontrol_address (control_word Nothing h) ∷ look_act word ∷ []) new
  pub shows : IsSeen h (seen_in word) s

abbrev pub LookFails : ℕ → ℕ → ℕ → Tells → Tells → RunFault → Type 0
LookFails h old_count new_count old new (Dmi fault) = FirstBroke Nothing h old_count new_count old new.far fault
LookFails h old_count new_count old new (NoHalt looks) = ⊥
LookFails h old_count new_count old new (NoAck looks) = ⊥

-- the hart that is selected was looked at, and nothing was written
pub record LookedAgain (h : ℕ) (old new : Tells) (s : Seen) : Type 0 where
  pub word : ℕ
  pub did : Did old (look_act word ∷ []) new
  pub shows : IsSeen h (seen_in word) s

abbrev pub LookAgainFails : ℕ → ℕ → Tells → Tells → RunFault → Type 0
LookAgainFails old_count new_count old new (Dmi fault) = LookBroke [] old_count new_count old new.far fault
LookAgainFails old_count new_count old new (NoHalt looks) = ⊥
LookAgainFails old_count new_count old new (NoAck looks) = ⊥

-- ---- a halt: asked, seen, and the request cleared

pub record HaltedBy (h : ℕ) (old new : Tells) : Type 0 where
  pub mid : Tells
  pub met : Met sees_halted (asks Halt h) old mid
  pub cleared : Did mid (asks Nothing h) new

pub record ClearBroke (h old_count new_count : ℕ) (old : Tells) (told : Option Far) (fault : DmiFault) : Type 0 where
  pub mid : Tells
  pub met : Met sees_halted (asks Halt h) old mid
  pub broke : AskBroke Nothing h old_count new_count mid told fault

pub data HaltBroke (h old_count new_count : ℕ) (old : Tells) (told : Option Far) (fault : DmiFault) : Type 0 where
  before_halt : RunBroke Halt sees_halted h old_count new_count old told fault → HaltBroke h old_count new_count old told fault
  at_clear : ClearBroke h old_count new_count old told fault → HaltBroke h old_count new_count old told fault

abbrev pub HaltFails : ℕ → ℕ → ℕ → Tells → Tells → RunFault → Type 0
HaltFails h old_count new_count old new (Dmi fault) = HaltBroke h old_count new_count old new.far fault
HaltFails h old_count new_count old new (NoHalt looks) = (looks ≡ most_looks) × ((last : ℕ) × Missed sees_halted last (asks Halt h) old new)
HaltFails h old_count new_count old new (NoAck looks) = ⊥

-- ---- a resume

abbrev pub ResumedBy : ℕ → Tells → Tells → Type 0
ResumedBy h old new = Met sees_ack (asks Resume h) old new

abbrev pub ResumeFails : ℕ → ℕ → ℕ → Tells → Tells → RunFault → Type 0
ResumeFails h old_count new_count old new (Dmi fault) = RunBroke Resume sees_ack h old_count new_count old new.far fault
ResumeFails h old_count new_count old new (NoHalt looks) = ⊥
ResumeFails h old_count new_count old new (NoAck looks) = (looks ≡ most_looks) × ((last : ℕ) × Missed sees_ack last (asks Resume h) old new)

-- ---- a single step: the hart has gone, and has halted again

abbrev pub SteppedBy : ℕ → Tells → Tells → Type 0
SteppedBy h old new = Met sees_both (asks Resume h) old new

-- 64 Looks were in vain, and the last showed the ack or did not
abbrev pub StepMissed : Bool → ℕ → Tells → Tells → Type 0
StepMissed acknowledged h old new = (last : ℕ) × Missed sees_both last (asks Resume h) old new × (sees_ack (seen_in last) ≡ acknowledged)

abbrev pub StepFails : ℕ → ℕ → ℕ → Tells → Tells → RunFault → Type 0
StepFails h old_count new_count old new (Dmi fault) = RunBroke Resume sees_both h old_count new_count old new.far fault
StepFails h old_count new_count old new (NoHalt looks) = (looks ≡ most_looks) × StepMissed true h old new
StepFails h old_count new_count old new (NoAck looks) = (looks ≡ most_looks) × StepMissed false h old new
