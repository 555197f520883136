-- Stepping over the slots that stopped a hart, and letting it go: what is done along the link, and at the hart of a told chip.
-- RISC-V Debug Specification 1.0, "Single Step" and "Run Control". That slots with a hit are off for one instruction is this project's own.
use Rattle.std.specs.Prelude.{◌≡◌, ◌∷◌, ℕ, List, Bool, true, false, Option, None, slice_get, ◌==◌}
use Rattle.rv_model.specs.Dcsr.{dcsr_of_word}
use Rattle.debug_model.specs.declared.point.Point.TheVariants.{ResumeReq}
use Rattle.debug_model.specs.Scan.{WhereTold}
use Rattle.debug_model.specs.Told.{Far}
use Rattle.abstract_debugger.specs.Debugger.{Seen as Sight, halted_of, most_looks, sees_ack, sees_both}
use Rattle.abstract_debugger.specs.Plan.{is_step, step_begun, step_ended, with_debug_part}
use Rattle.abstract_debugger.specs.Stands.{Rewrote, Target}
use Rattle.probe_access.specs.declared.fault.AccessFault.{AccessFault}
use Rattle.probe_access.specs.declared.fault.AccessFault.TheVariants as fault
use Rattle.probe_access.specs.BlockCuts.{StepCut}
use Rattle.probe_access.specs.Cuts.{IfCut, Leaves}
use Rattle.probe_access.specs.SingleSteps.{with_step}
use Rattle.probe_access.specs.StepRuns.{StepFailed, SteppedOnce}
use Rattle.probe_run.specs.declared.fault.RunFault.{RunFault}
use Rattle.probe_run.specs.declared.fault.RunFault.TheVariants as run_fault
use Rattle.probe_run.specs.Acts.{Tells}
use Rattle.probe_run.specs.Happens.{MissedAt, StepsAt}
use Rattle.probe_trig.specs.declared.change.Change.{Change}
use Rattle.probe_trig.specs.declared.change.Change.TheVariants.{Hold, PutBack, PutBackAndForget}
use Rattle.probe_trig.specs.declared.register.TriggerRegister.TheVariants.{Dcsr}
use Rattle.probe_trig.specs.Runs.{ChangesAny}
use Rattle.probe_trig.specs.Single.{ChangedAll}
use Rattle.probe_trig.specs.Slots.{AtHarts}
use Rattle.probe_trig.specs.Transfers.{Did, FailedIn, Transfer}
use Rattle.probe_trig.specs.Transfers.Transfer.{Got}

-- ---- behind a step

-- the cause in dcsr is that of a step: an instruction was executed, or trapped
abbrev pub shows_step : ℕ → Bool
shows_step word = (dcsr_of_word word).cause == 4

abbrev pub ending : Bool → Change
ending true = PutBackAndForget
ending false = PutBack

-- dcsr is read, and the slots with a hit are on again
pub record Ends (executed : Bool) (ts : List Transfer) : Type 0 where
  pub word : ℕ
  pub executed_is : executed ≡ shows_step word
  pub rest : List Transfer
  pub changes : ChangesAny (ending executed) rest
  pub is : ts ≡ Got Dcsr word ∷ rest

abbrev pub EndsAny : List Transfer → Type 0
EndsAny ts = (executed : Bool) × Ends executed ts

-- ---- along the link

-- one step is made, and the slots are on again
pub record SteppedBack (executed : Bool) (h : ℕ) (old new : Tells) : Type 0 where
  pub ran : Tells
  pub steps : SteppedOnce h old ran
  pub ends : Did (Ends executed) h ran new

pub data BackFailed (h old_count new_count : ℕ) (old new : Tells) (e : AccessFault) : Type 0 where
  in_step : StepFailed h old_count new_count old new e → IfCut (Leaves (StepCut h) old.far new.far) e → BackFailed h old_count new_count old new e
  in_end : (ran : Tells) → SteppedOnce h old ran → FailedIn EndsAny h old_count new_count ran new e → BackFailed h old_count new_count old new e

-- the same with the slots that have a hit off
pub record SteppedOver (some executed : Bool) (h : ℕ) (old new : Tells) : Type 0 where
  pub held : Tells
  pub holds : ChangedAll Hold some h old held
  pub back : SteppedBack executed h held new

abbrev pub SteppedOverAny : ℕ → Tells → Tells → Type 0
SteppedOverAny h old new = (some : Bool) × (executed : Bool) × SteppedOver some executed h old new

pub data OverFailed (h old_count new_count : ℕ) (old new : Tells) (e : AccessFault) : Type 0 where
  in_hold : FailedIn (ChangesAny Hold) h old_count new_count old new e → OverFailed h old_count new_count old new e
  in_back : (some : Bool) (held : Tells) → ChangedAll Hold some h old held → BackFailed h old_count new_count held new e
      → OverFailed h old_count new_count old new e

-- ---- at the harts

pub record OverAt (h : ℕ) (old new : Target) : Type 0 where
  pub held : Target
  pub ran : Target
  pub holds : Rewrote (with_debug_part step_begun) h old held
  pub steps : StepsAt h held ran
  pub ends : Rewrote (with_debug_part step_ended) h ran new

-- did the step of hart h end as a whole one?
abbrev pub executed_at : ℕ → Target → Bool
executed_at h t = is_step (halted_of (slice_get t.board.harts h))

-- of a hart whose slots with a hit are off
pub record BackAt (executed : Bool) (h : ℕ) (old new : Target) : Type 0 where
  pub begun : Target
  pub ran : Target
  pub sets : Rewrote (with_step true) h old begun
  pub steps : StepsAt h begun ran
  pub ends : Rewrote (with_debug_part step_ended) h ran new
  pub executed_is : executed ≡ executed_at h new

-- the slots are held and the flag is set, and 64 Looks do not see the hart halted again; `last` is what the last of them showed
pub record OverMissed (h : ℕ) (last : Sight) (old new : Target) : Type 0 where
  pub held : Target
  pub holds : Rewrote (with_debug_part step_begun) h old held
  pub missed : MissedAt (ResumeReq h) sees_both h last held new

abbrev pub MissedOver : ℕ → Bool → ℕ → Option Far → Option Far → Type 0
MissedOver h acknowledged looks old new = (looks ≡ most_looks)
    × ((last : Sight) × (sees_ack last ≡ acknowledged) × WhereTold (AtHarts (OverMissed h last)) old new)

abbrev pub OverRunLeft : ℕ → Option Far → Option Far → RunFault → Type 0
OverRunLeft h old new (run_fault.Dmi why) = ⊥
OverRunLeft h old new (run_fault.NoHalt looks) = MissedOver h true looks old new
OverRunLeft h old new (run_fault.NoAck looks) = MissedOver h false looks old new

abbrev pub OverLeft : ℕ → Option Far → Option Far → AccessFault → Type 0
OverLeft h old new (fault.Dmi why) = Unit {0}
OverLeft h old new (fault.Memory at) = ⊥
OverLeft h old new (fault.Register number) = old ≡ None
OverLeft h old new fault.StillBusy = Unit {0}
OverLeft h old new (fault.Run why) = OverRunLeft h old new why
OverLeft h old new (fault.Odd word) = old ≡ None
