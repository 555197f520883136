-- Why a call of a session with software breakpoints failed: the wire by its count of faults, the chip by what it did, and the sink by its own count.
-- It is this project's own.
use Rattle.std.specs.Prelude.{ℕ, Result, Ok, Err}
use Rattle.jt_base.specs.Faults.{Rises}
use Rattle.debug_model.specs.Kept.{DmiSeen}
use Rattle.probe_session.specs.declared.acted.Acted.{Acted}
use Rattle.probe_session.specs.declared.acted.Acted.TheVariants as acted
use Rattle.probe_session.specs.declared.fault.Failure.{Failure}
use Rattle.probe_session.specs.declared.fault.Failure.TheVariants as failure
use Rattle.probe_session.specs.Causes.{LostCaused, WireCause}

-- by what a failure of the sink says
abbrev pub FailureCaused : Type 0 → (old new : DmiSeen) → Failure → Type 0
FailureCaused S old new (failure.Wire why) = WireCause old.fault_count new.fault_count new.far why
FailureCaused S old new (failure.Lost why) = LostCaused new.far why
FailureCaused S old new failure.Sink = S

-- a call that puts no line fails by no sink
abbrev pub LinkCaused : (old new : DmiSeen) → Failure → Type 0
LinkCaused old new f = FailureCaused ⊥ old new f

-- and one that puts some, only where the sink's count shows it
abbrev pub LineCaused : (old new : DmiSeen) → (sink_old sink_new : ℕ) → Failure → Type 0
LineCaused old new sink_old sink_new f = FailureCaused (Rises sink_old sink_new) old new f

-- what became of a command: no other end needs a cause
abbrev pub ActedCaused : (old new : DmiSeen) → (sink_old sink_new : ℕ) → Acted → Type 0
ActedCaused old new sink_old sink_new acted.Done = Unit {0}
ActedCaused old new sink_old sink_new acted.Error = Unit {0}
ActedCaused old new sink_old sink_new acted.End = Unit {0}
ActedCaused old new sink_old sink_new (acted.Wire why) = LineCaused old new sink_old sink_new (failure.Wire why)
ActedCaused old new sink_old sink_new (acted.Lost why) = LineCaused old new sink_old sink_new (failure.Lost why)
ActedCaused old new sink_old sink_new acted.Sink = LineCaused old new sink_old sink_new failure.Sink

abbrev pub PerformedCaused : (old new : DmiSeen) → (sink_old sink_new : ℕ) → Result Acted Failure → Type 0
PerformedCaused old new sink_old sink_new (Ok a) = ActedCaused old new sink_old sink_new a
PerformedCaused old new sink_old sink_new (Err f) = LineCaused old new sink_old sink_new f
