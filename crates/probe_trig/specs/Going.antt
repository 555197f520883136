-- A hart is let go: at once where no slot has a hit, and else behind a step over those that have one.
-- RISC-V Debug Specification 1.0, "Run Control". That a hart is stepped over its hits first is this project's own.
use Rattle.std.specs.Prelude.{◌≡◌, ℕ, true, false, Option, None}
use Rattle.rv_model.specs.declared.version.Version.{Version}
use Rattle.debug_model.specs.declared.point.Point.TheVariants.{ResumeReq}
use Rattle.debug_model.specs.Scan.{WhereTold}
use Rattle.debug_model.specs.Told.{Far}
use Rattle.abstract_debugger.specs.Debugger.{Seen as Sight, most_looks, sees_ack}
use Rattle.abstract_debugger.specs.Slots.{any_hit, slots_at}
use Rattle.abstract_debugger.specs.Stands.{Target, WentOn}
use Rattle.probe_access.specs.declared.fault.AccessFault.{AccessFault}
use Rattle.probe_access.specs.declared.fault.AccessFault.TheVariants as fault
use Rattle.probe_access.specs.StepRuns.{of_run}
use Rattle.probe_run.specs.declared.fault.RunFault.{RunFault}
use Rattle.probe_run.specs.declared.fault.RunFault.TheVariants as run_fault
use Rattle.probe_run.specs.Acts.{Tells}
use Rattle.probe_run.specs.Happens.{MissedAt, ResumeLeft, ResumesAt}
use Rattle.probe_run.specs.Outcomes.{ResumeFails, ResumedBy}
use Rattle.probe_trig.specs.declared.change.Change.TheVariants.{Hold}
use Rattle.probe_trig.specs.declared.gone.Gone.{Gone}
use Rattle.probe_trig.specs.declared.gone.Gone.TheVariants as gone
use Rattle.probe_trig.specs.Runs.{ChangesAny}
use Rattle.probe_trig.specs.Single.{ChangedAll}
use Rattle.probe_trig.specs.Slots.{AtHarts}
use Rattle.probe_trig.specs.Stepping.{BackFailed, MissedOver, OverAt, SteppedOver, executed_at}
use Rattle.probe_trig.specs.Transfers.{FailedIn}

-- ---- what is handed out

abbrev pub IsOfHart : ℕ → Gone → Type 0
IsOfHart h (gone.Free r) = r.number ≡ h
IsOfHart h (gone.Stopped x) = x.number ≡ h

-- and of a chip of this release
abbrev pub GoneAs : Version → Gone → Type 0
GoneAs v (gone.Free r) = r.version ≡ v
GoneAs v (gone.Stopped x) = x.version ≡ v

abbrev pub IfStopped : Type 0 → Gone → Type 0
IfStopped P (gone.Free r) = Unit {0}
IfStopped P (gone.Stopped x) = P

-- ---- along the link, up to the resume

-- no slot has a hit, or the step over them was a whole one
pub data IsThrough (h : ℕ) (old mid : Tells) : Type 0 where
  none : ChangedAll Hold false h old mid → IsThrough h old mid
  over : SteppedOver true true h old mid → IsThrough h old mid

pub record FreeBy (h : ℕ) (old new : Tells) : Type 0 where
  pub mid : Tells
  pub through : IsThrough h old mid
  pub resumed : ResumedBy h mid new

abbrev pub WentBy : ℕ → Gone → Tells → Tells → Type 0
WentBy h (gone.Free r) old new = FreeBy h old new
WentBy h (gone.Stopped x) old new = SteppedOver true false h old new

pub data GoFailed (h old_count new_count : ℕ) (old new : Tells) (e : AccessFault) : Type 0 where
  in_hold : FailedIn (ChangesAny Hold) h old_count new_count old new e → GoFailed h old_count new_count old new e
  in_back : (held : Tells) → ChangedAll Hold true h old held → BackFailed h old_count new_count held new e → GoFailed h old_count new_count old new e
  in_resume : (mid : Tells) → IsThrough h old mid → (why : RunFault) → ResumeFails h old_count new_count mid new why → ResumeLeft h mid.far new.far why
      → e ≡ of_run why → GoFailed h old_count new_count old new e

-- ---- at the harts

pub data IsThroughAt (h : ℕ) (old mid : Target) : Type 0 where
  none : any_hit (slots_at h old.board) ≡ false → WentOn old mid → IsThroughAt h old mid
  over : any_hit (slots_at h old.board) ≡ true → OverAt h old mid → executed_at h mid ≡ true → IsThroughAt h old mid

pub record FreeAt (h : ℕ) (old new : Target) : Type 0 where
  pub mid : Target
  pub through : IsThroughAt h old mid
  pub resumes : ResumesAt h mid new

pub record StoppedAt (h : ℕ) (old new : Target) : Type 0 where
  pub some : any_hit (slots_at h old.board) ≡ true
  pub over : OverAt h old new
  pub other : executed_at h new ≡ false

abbrev pub GoesAt : ℕ → Gone → Target → Target → Type 0
GoesAt h (gone.Free r) old new = FreeAt h old new
GoesAt h (gone.Stopped x) old new = StoppedAt h old new

-- 64 Looks behind the last request did not see it acknowledged
pub record GoMissed (h : ℕ) (last : Sight) (old new : Target) : Type 0 where
  pub mid : Target
  pub through : IsThroughAt h old mid
  pub missed : MissedAt (ResumeReq h) sees_ack h last mid new

abbrev pub MissedGo : ℕ → ℕ → Option Far → Option Far → Type 0
MissedGo h looks old new = (looks ≡ most_looks) × ((last : Sight) × WhereTold (AtHarts (GoMissed h last)) old new)

pub data NoAckLeft (h looks : ℕ) (old new : Option Far) : Type 0 where
  in_step : MissedOver h false looks old new → NoAckLeft h looks old new
  in_resume : MissedGo h looks old new → NoAckLeft h looks old new

abbrev pub GoRunLeft : ℕ → Option Far → Option Far → RunFault → Type 0
GoRunLeft h old new (run_fault.Dmi why) = ⊥
GoRunLeft h old new (run_fault.NoHalt looks) = MissedOver h true looks old new
GoRunLeft h old new (run_fault.NoAck looks) = NoAckLeft h looks old new

abbrev pub GoLeft : ℕ → Option Far → Option Far → AccessFault → Type 0
GoLeft h old new (fault.Dmi why) = Unit {0}
GoLeft h old new (fault.Memory at) = ⊥
GoLeft h old new (fault.Register number) = old ≡ None
GoLeft h old new fault.StillBusy = Unit {0}
GoLeft h old new (fault.Run why) = GoRunLeft h old new why
GoLeft h old new (fault.Odd word) = old ≡ None
