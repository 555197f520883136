-- One call of the layers below that a session made: what was heard of the link, and what happened at a chip that is told.
-- It is this project's own.
use Rattle.std.specs.Prelude.{◌≡◌, ◌≤◌, ℕ, true, false, IfSome, List, [], Some, None, is_some}
use Rattle.rv_model.specs.Core.{Core}
use Rattle.rv_model.specs.Registers.{mip_number, reg_value}
use Rattle.debug_model.specs.declared.dmi.DmiFault.{DmiFault}
use Rattle.debug_model.specs.Dmi.{NoneOperated, ScannedCause, Shows}
use Rattle.debug_model.specs.Scan.{WhereTold}
use Rattle.debug_model.specs.Tap.{idcode}
use Rattle.debug_model.specs.Told.{IsReady, Selects}
use Rattle.probe_access.specs.declared.fault.AccessFault.{AccessFault}
use Rattle.probe_access.specs.declared.fault.AccessFault.TheVariants as fault
use Rattle.probe_access.specs.Cuts.{AccessLeftOff, IfCut, Leaves as LeavesChip, LeftAside, LoadLeaves, MaybeWritten, Unchanged}
use Rattle.probe_access.specs.Pending.{PendingReadAt}
use Rattle.probe_access.specs.RegisterRuns.{ReadApart, ReadApartFailed, ReadFailed, RefusedAs, RegisterRead, RegisterWritten, WriteFailed, double_written}
use Rattle.probe_access.specs.RegisterRuns.{ReadTooEarly}
use Rattle.probe_access.specs.Registers.{RegisterRefusedAt, RegisterReadAt, RegisterLeft, RegisterWrittenAt}
use Rattle.probe_access.specs.Scratches.{ScratchLeft}
use Rattle.probe_access.specs.Stops.{StopFailed, StopRead, StoppedAt}
use Rattle.probe_access.specs.BlockCuts.{StepCut}
use Rattle.probe_access.specs.SingleSteps.{StepLeft, SteppedAt}
use Rattle.probe_access.specs.StepRuns.{StepFailed, StepFromFailed, SteppedFrom, SteppedOnce}
use Rattle.probe_access.specs.RegisterAccess.{transfer_word}
use Rattle.probe_run.specs.declared.fault.RunFault.{RunFault}
use Rattle.probe_run.specs.declared.hart.Seen.{Seen}
use Rattle.probe_run.specs.Acts.{Tells}
use Rattle.probe_run.specs.Happens.{HaltLeft, HaltsAt, Leaves, LookLeft, ResumeLeft, ResumesAt, LooksAt}
use Rattle.probe_run.specs.Told.{Serving}
use Rattle.probe_run.specs.Outcomes.{HaltFails, HaltedBy, LookAgainFails, LookFails, LookedAgain, LookedAt, ResumeFails, ResumedBy}
use Rattle.probe_trig.specs.declared.change.Change.TheVariants.{Forget}
use Rattle.debug_model.specs.declared.slot_use.SlotUse.{SlotUse}
use Rattle.probe_trig.specs.declared.slot_view.SlotView.{SlotView}
use Rattle.probe_trig.specs.Runs.{Arms, ChangesAny, Frees}
use Rattle.probe_trig.specs.Slots.{ArmedAt, AtHarts, DebugAlone, ForgotAt, FreedAt, FullAt, SlotsRead, UnusedAt, ViewedAt}
use Rattle.probe_trig.specs.StepCuts.{LeavesAt, OverCut}
use Rattle.probe_trig.specs.Stepping.{OverAt, OverFailed, OverLeft, SteppedOverAny}
use Rattle.probe_trig.specs.Transfers.{Did, FailedIn, Transfer}
use Rattle.rv_model.specs.Board.{Hart}
use Rattle.rv_model.specs.DebugRegisters.{debug_value}
use Rattle.probe_session.specs.declared.fault.Failure.{Failure}
use Rattle.probe_session.specs.Failures.{Became, failure_of_dmi, failure_of_run}

-- ---- calls that were Ok

pub record Identified (number : ℕ) (old new : Tells) : Type 0 where
  pub heard : Shows number old.coming new.coming
  pub number_is : IfSome old.far (λ _. number ≡ idcode)
  pub told : WhereTold NoneOperated old.far new.far
  pub ready : IsReady old.far

-- a hart was looked at: it was selected first, or was selected already
pub data LookHeard (h : ℕ) (old new : Tells) (seen : Seen) : Type 0 where
  selecting : LookedAt h old new seen → LookHeard h old new seen
  again : Selects h old.far → LookedAgain h old new seen → LookHeard h old new seen

pub record LookMade (h : ℕ) (old new : Tells) (seen : Seen) : Type 0 where
  pub heard : LookHeard h old new seen
  pub told : WhereTold (Leaves (LooksAt h seen) h) old.far new.far

pub record HaltMade (h : ℕ) (old new : Tells) : Type 0 where
  pub heard : HaltedBy h old new
  pub told : WhereTold (Leaves (HaltsAt h) h) old.far new.far

pub record Got (h number value : ℕ) (old new : Tells) : Type 0 where
  pub heard : RegisterRead number value old new
  pub told : WhereTold (RegisterReadAt h number value) old.far new.far

-- the chip refused to read it: where it was asked for in one call, and behind that by a command alone
pub record GotNone (h number : ℕ) (old new : Tells) : Type 0 where
  pub mid : Tells
  pub early : ReadTooEarly number old mid
  pub heard : RefusedAs number number [] (transfer_word false number) mid new
  pub told : WhereTold (RegisterRefusedAt false h number) old.far new.far

-- mip was read of memory, which is one access
pub record GotPending (h value : ℕ) (old new : Tells) : Type 0 where
  pub heard : ReadApart mip_number value old new
  pub told : WhereTold (PendingReadAt h value) old.far new.far

-- the chip refused to read it
pub record PendingNone (h : ℕ) (old new : Tells) : Type 0 where
  pub heard : RefusedAs mip_number mip_number [] (transfer_word false mip_number) old new
  pub told : WhereTold (RegisterRefusedAt false h mip_number) old.far new.far

pub record Gave (h number value : ℕ) (old new : Tells) : Type 0 where
  pub heard : RegisterWritten number value old new
  pub told : WhereTold (RegisterWrittenAt h number value) old.far new.far

-- the chip refused to write it
pub record GaveNone (h number value : ℕ) (old new : Tells) : Type 0 where
  pub heard : RefusedAs number number (double_written value) (transfer_word true number) old new
  pub told : WhereTold (RegisterRefusedAt true h number) old.far new.far

pub record FoundStop (h pc cause : ℕ) (old new : Tells) : Type 0 where
  pub heard : StopRead pc cause old new
  pub told : WhereTold (StoppedAt h pc cause) old.far new.far

-- the hart was let go
pub record ResumeMade (h : ℕ) (old new : Tells) : Type 0 where
  pub heard : ResumedBy h old new
  pub told : WhereTold (Leaves (ResumesAt h) h) old.far new.far

-- it did one instruction with its slots off that have a hit
pub record StepOverMade (h : ℕ) (old new : Tells) : Type 0 where
  pub heard : SteppedOverAny h old new
  pub told : WhereTold (AtHarts (OverAt h)) old.far new.far

-- it did one instruction, and its slots were left alone
pub record StepMade (h : ℕ) (old new : Tells) : Type 0 where
  pub heard : SteppedOnce h old new
  pub told : WhereTold (SteppedAt h) old.far new.far

-- the same, from this word of dcsr on
pub record StepFromMade (h word : ℕ) (old new : Tells) : Type 0 where
  pub heard : SteppedFrom h word old new
  pub told : WhereTold (SteppedAt h) old.far new.far

-- the slots were seen
pub record Viewed (h : ℕ) (view : SlotView) (old new : Tells) : Type 0 where
  pub heard : SlotsRead view h old new
  pub told : WhereTold (AtHarts (ViewedAt view h)) old.far new.far

-- the lowest free slot was armed, and was this one
pub record SlotTaken (h : ℕ) (meant : SlotUse) (slot : ℕ) (old new : Tells) : Type 0 where
  pub heard : Did (Arms meant (Some slot)) h old new
  pub told : WhereTold (AtHarts (ArmedAt meant slot h)) old.far new.far

-- no slot is free
pub record NoneFree (h : ℕ) (meant : SlotUse) (old new : Tells) : Type 0 where
  pub heard : Did (Arms meant None) h old new
  pub told : WhereTold (AtHarts (FullAt h)) old.far new.far

pub record SlotFreed (h slot : ℕ) (old new : Tells) : Type 0 where
  pub heard : Did (Frees slot false) h old new
  pub told : WhereTold (AtHarts (FreedAt slot h)) old.far new.far

-- the slot is free
pub record NotUsed (h slot : ℕ) (old new : Tells) : Type 0 where
  pub heard : Did (Frees slot true) h old new
  pub told : WhereTold (AtHarts (UnusedAt slot h)) old.far new.far

pub record HitsForgotten (h : ℕ) (old new : Tells) : Type 0 where
  pub heard : Did (ChangesAny Forget) h old new
  pub told : WhereTold (AtHarts (ForgotAt h)) old.far new.far

-- a register that each hart has
abbrev pub IsOfHarts : ℕ → Type 0
IsOfHarts number = (x : Hart) → is_some (debug_value x number) ≡ true

-- a register that each core has
abbrev pub IsOfCores : ℕ → Type 0
IsOfCores number = (c : Core) → is_some (reg_value c number) ≡ true

-- ---- calls that failed, by the counts of faults before and behind, which did not fall, and the failure that it made

pub record IdcodeFell (old_count new_count : ℕ) (old new : Tells) (f : Failure) : Type 0 where
  pub why : DmiFault
  pub later : old_count ≤ new_count
  pub cause : ScannedCause old_count new_count new.far old.coming why
  pub told : WhereTold NoneOperated old.far new.far
  pub ready : IsReady old.far
  pub is : f ≡ failure_of_dmi why

pub data LookUnheard (h old_count new_count : ℕ) (old new : Tells) (why : RunFault) : Type 0 where
  selecting : LookFails h old_count new_count old new why → LookUnheard h old_count new_count old new why
  again : Selects h old.far → LookAgainFails old_count new_count old new why → LookUnheard h old_count new_count old new why

pub record LookFell (h old_count new_count : ℕ) (old new : Tells) (f : Failure) : Type 0 where
  pub why : RunFault
  pub later : old_count ≤ new_count
  pub heard : LookUnheard h old_count new_count old new why
  pub told : LookLeft h old.far new.far why
  pub is : f ≡ failure_of_run why

pub record HaltFell (h old_count new_count : ℕ) (old new : Tells) (f : Failure) : Type 0 where
  pub why : RunFault
  pub later : old_count ≤ new_count
  pub heard : HaltFails h old_count new_count old new why
  pub told : HaltLeft h old.far new.far why
  pub is : f ≡ failure_of_run why

pub record ReadFell (h number old_count new_count : ℕ) (old new : Tells) (f : Failure) : Type 0 where
  pub why : AccessFault
  pub later : old_count ≤ new_count
  pub at : Serving h old.far
  pub heard : ReadFailed number old_count new_count old new why
  pub told : RegisterLeft false h number old.far new.far why
  pub cut : IfCut (LeavesChip (LeftAside Unchanged h) old.far new.far) why
  pub is : Became why f

pub record WriteFell (h number value old_count new_count : ℕ) (old new : Tells) (f : Failure) : Type 0 where
  pub why : AccessFault
  pub later : old_count ≤ new_count
  pub at : Serving h old.far
  pub heard : WriteFailed number value old_count new_count old new why
  pub told : RegisterLeft true h number old.far new.far why
  pub cut : IfCut (LeavesChip (LeftAside (MaybeWritten number value) h) old.far new.far) why
  pub is : Became why f

-- one that could have been refused, and failed otherwise
abbrev pub IsNotRegister : AccessFault → Type 0
IsNotRegister (fault.Dmi why) = Unit {0}
IsNotRegister (fault.Memory address) = Unit {0}
IsNotRegister (fault.Register number) = ⊥
IsNotRegister fault.StillBusy = Unit {0}
IsNotRegister (fault.Run why) = Unit {0}
IsNotRegister (fault.Odd shown) = Unit {0}

pub record AskFell (h number old_count new_count : ℕ) (old new : Tells) (f : Failure) : Type 0 where
  pub fell : ReadFell h number old_count new_count old new f
  pub other : IsNotRegister fell.why

-- the same of mip, of which one access may have been made
pub record PendingFell (h old_count new_count : ℕ) (old new : Tells) (f : Failure) : Type 0 where
  pub why : AccessFault
  pub later : old_count ≤ new_count
  pub at : Serving h old.far
  pub heard : ReadApartFailed mip_number old_count new_count old new why
  pub told : RegisterLeft false h mip_number old.far new.far why
  pub cut : IfCut (LeavesChip (AccessLeftOff Unchanged LoadLeaves h) old.far new.far) why
  pub is : Became why f
  pub other : IsNotRegister why

pub record GiveFell (h number value old_count new_count : ℕ) (old new : Tells) (f : Failure) : Type 0 where
  pub fell : WriteFell h number value old_count new_count old new f
  pub other : IsNotRegister fell.why

-- in the course of a call on a hart's slots
pub record SlotsFell (Whole : List Transfer → Type 0) (h old_count new_count : ℕ) (old new : Tells) (f : Failure) : Type 0 where
  pub why : AccessFault
  pub later : old_count ≤ new_count
  pub at : Serving h old.far
  pub heard : FailedIn Whole h old_count new_count old new why
  pub told : ScratchLeft old.far why
  pub cut : IfCut (LeavesChip (LeftAside DebugAlone h) old.far new.far) why
  pub is : Became why f

pub record StopFell (h old_count new_count : ℕ) (old new : Tells) (f : Failure) : Type 0 where
  pub why : AccessFault
  pub later : old_count ≤ new_count
  pub at : Serving h old.far
  pub heard : StopFailed old_count new_count old new why
  pub told : ScratchLeft old.far why
  pub cut : IfCut (LeavesChip (LeftAside Unchanged h) old.far new.far) why
  pub is : Became why f

pub record ResumeFell (h old_count new_count : ℕ) (old new : Tells) (f : Failure) : Type 0 where
  pub why : RunFault
  pub later : old_count ≤ new_count
  pub heard : ResumeFails h old_count new_count old new why
  pub told : ResumeLeft h old.far new.far why
  pub is : f ≡ failure_of_run why

pub record StepOverFell (h old_count new_count : ℕ) (old new : Tells) (f : Failure) : Type 0 where
  pub why : AccessFault
  pub later : old_count ≤ new_count
  pub at : Serving h old.far
  pub heard : OverFailed h old_count new_count old new why
  pub told : OverLeft h old.far new.far why
  pub cut : IfCut (LeavesAt (OverCut h) old.far new.far) why
  pub is : Became why f

pub record StepFell (h old_count new_count : ℕ) (old new : Tells) (f : Failure) : Type 0 where
  pub why : AccessFault
  pub later : old_count ≤ new_count
  pub at : Serving h old.far
  pub heard : StepFailed h old_count new_count old new why
  pub told : StepLeft h old.far new.far why
  pub cut : IfCut (LeavesChip (StepCut h) old.far new.far) why
  pub is : Became why f

pub record StepFromFell (h word old_count new_count : ℕ) (old new : Tells) (f : Failure) : Type 0 where
  pub why : AccessFault
  pub later : old_count ≤ new_count
  pub at : Serving h old.far
  pub heard : StepFromFailed h word old_count new_count old new why
  pub told : StepLeft h old.far new.far why
  pub cut : IfCut (LeavesChip (StepCut h) old.far new.far) why
  pub is : Became why f
