-- What a single step does at a told chip, in the words of the abstract debugger: the hart's step flag is set, its one run is asked for and looked
-- at, and the flag is cleared; turns of harts are all else that happens.
-- RISC-V Debug Specification 1.0, "Single Step" and "Run Control".
use Rattle.std.specs.Prelude.{◌≡◌, ℕ, Bool, true, false, Option, Some, None, IfSome}
use Rattle.rv_model.specs.Board.{Board, DebugPart, Hart}
use Rattle.rv_model.specs.Dcsr.{dcsr_of_word}
use Rattle.rv_model.specs.DebugRegisters.{dcsr_number, debug_value}
use Rattle.debug_model.specs.declared.point.Point.TheVariants.{ResumeReq}
use Rattle.debug_model.specs.Chip.{Chip}
use Rattle.debug_model.specs.Scan.{WhereTold}
use Rattle.debug_model.specs.Told.{Far, site_of}
use Rattle.abstract_debugger.specs.Debugger.{Seen as Sight, most_looks, sees_ack, sees_both}
use Rattle.abstract_debugger.specs.Plan.{with_debug_part}
use Rattle.abstract_debugger.specs.Stands.{Rewrote, Target}
use Rattle.probe_access.specs.declared.fault.AccessFault.{AccessFault}
use Rattle.probe_access.specs.declared.fault.AccessFault.TheVariants as fault
use Rattle.probe_run.specs.declared.fault.RunFault.{RunFault}
use Rattle.probe_run.specs.declared.fault.RunFault.TheVariants as run_fault
use Rattle.probe_run.specs.Happens.{MissedAt, StepsAt, target_of}
use Rattle.probe_access.specs.Registers.{IsHartAt, site_before}

-- a hart with its step flag so, and with it stepie, so that a step takes the interrupt that an undebugged turn takes; nothing else is changed
abbrev pub flagged : Bool → DebugPart → DebugPart
flagged on d = record d { step = on; stepie = on }

abbrev pub with_step : Bool → Hart → Hart
with_step on = with_debug_part (flagged on)

-- ---- dcsr, as it was read

-- where the chip is told, dcsr of hart h reads this word
abbrev pub ReadsDcsr : ℕ → ℕ → Option Far → Type 0
ReadsDcsr h word told = IfSome told (λ f. (hart : Hart) → IsHartAt h (site_of f).board hart → debug_value hart dcsr_number ≡ Some word)

-- the one field of dcsr besides step and stepie that a write reaches
abbrev pub HasEbreakm : Bool → ℕ → Board → Type 0
HasEbreakm on h b = (hart : Hart) → IsHartAt h b hart → hart.debug.ebreakm ≡ on

-- where the chip is told, ebreakm of hart h is as this word of dcsr says, so that a write of the word leaves it
abbrev pub KeepsEbreakm : ℕ → ℕ → Option Far → Type 0
KeepsEbreakm h word told = IfSome told (λ f. HasEbreakm (dcsr_of_word word).ebreakm h (site_of f).board)

-- ---- at the harts

-- turns, and the flag of hart h set so, and the bus is as it was
pub record FlaggedAt (on : Bool) (h : ℕ) (c : Chip) (new : Option Far) : Type 0 where
  pub far : Far
  pub is : new ≡ Some far
  pub rewrote : Rewrote (with_step on) h (target_of (site_before c)) (target_of (site_of far))
  pub bus : (site_of far).unit.bus ≡ (site_before c).unit.bus

-- the flag is set, the hart runs once, and the flag is cleared
pub record StepsOnce (h : ℕ) (old new : Target) : Type 0 where
  pub begun : Target
  pub ran : Target
  pub sets : Rewrote (with_step true) h old begun
  pub runs : StepsAt h begun ran
  pub clears : Rewrote (with_step false) h ran new

-- the flag is set, and 64 Looks do not see the hart halted again; `last` is what the last of them showed
pub record StepMissed (h : ℕ) (last : Sight) (old new : Target) : Type 0 where
  pub begun : Target
  pub sets : Rewrote (with_step true) h old begun
  pub missed : MissedAt (ResumeReq h) sees_both h last begun new

-- ---- at the chip

pub record SteppedAt (h : ℕ) (c : Chip) (new : Option Far) : Type 0 where
  pub far : Far
  pub is : new ≡ Some far
  pub happened : StepsOnce h (target_of (site_before c)) (target_of (site_of far))
  pub bus : (site_of far).unit.bus ≡ (site_before c).unit.bus

pub record StepMissedAt (h : ℕ) (last : Sight) (c : Chip) (new : Option Far) : Type 0 where
  pub far : Far
  pub is : new ≡ Some far
  pub happened : StepMissed h last (target_of (site_before c)) (target_of (site_of far))
  pub bus : (site_of far).unit.bus ≡ (site_before c).unit.bus

-- ---- by the fault: no register is refused, and no other error shown, of a told chip

-- the last Look showed the ack, or it did not
abbrev pub MissedStep : ℕ → Bool → ℕ → Option Far → Option Far → Type 0
MissedStep h acknowledged looks old new = (looks ≡ most_looks) × ((last : Sight) × (sees_ack last ≡ acknowledged) × WhereTold (StepMissedAt h last) old new)

abbrev pub RunLeft : ℕ → Option Far → Option Far → RunFault → Type 0
RunLeft h old new (run_fault.Dmi why) = ⊥
RunLeft h old new (run_fault.NoHalt looks) = MissedStep h true looks old new
RunLeft h old new (run_fault.NoAck looks) = MissedStep h false looks old new

abbrev pub StepLeft : ℕ → Option Far → Option Far → AccessFault → Type 0
StepLeft h old new (fault.Dmi why) = Unit {0}
StepLeft h old new (fault.Memory at) = ⊥
StepLeft h old new (fault.Register number) = old ≡ None
StepLeft h old new fault.StillBusy = Unit {0}
StepLeft h old new (fault.Run why) = RunLeft h old new why
StepLeft h old new (fault.Odd shown) = old ≡ None
