-- What each call of run control leaves of a told chip, whatever it answers: nothing is lost. Each law takes the call's own clauses.
-- RISC-V Debug Specification 1.0, "Run Control".
use Rattle.std.specs.Prelude.{ℕ, IfErr, IfOk, OnOk, Result}
use Rattle.debug_model.specs.Kept.{DmiSeen}
use Rattle.debug_model.specs.Told.{IsAsLoaded}
use Rattle.probe_run.specs.declared.fault.ConnectFault.{ConnectFault}
use Rattle.probe_run.specs.declared.fault.RunFault.{RunFault}
use Rattle.probe_run.specs.declared.hart.Halted.{Halted}
use Rattle.probe_run.specs.declared.hart.Running.{Running}
use Rattle.probe_run.specs.declared.hart.Seen.{Seen}
use Rattle.probe_run.specs.declared.target.Target.{Target}
use Rattle.probe_run.specs.Happens.{HaltLeft, HaltsAt, Leaves, LookLeft, LooksAt, ResumeLeft, ResumesAt, StepLeft, StepsAt}
use Rattle.probe_run.specs.Opening.{LosesLoaded, OpensLoaded}
use Rattle.probe_run.specs.Told.{OnChip}
use Rattle.left_laws.specs.Left.{LeavesBut}
use Rattle.left_laws.specs.Left.Spared.{Nothing}
use Rattle.left_laws.specs.Scopes.{asking}

-- of `look`, and of `look_again`
abbrev pub LookLeaves : Type 0
LookLeaves = (h : ℕ) (old new : DmiSeen) (result : Result Seen RunFault)
    → IfOk result (λ seen. OnChip (Leaves (LooksAt h seen) h) old new) → IfErr result (LookLeft h old.far new.far)
    → LeavesBut (asking h) Nothing old new

abbrev pub HaltLeaves : Type 0
HaltLeaves = (h : ℕ) (old new : DmiSeen) (result : Result Halted RunFault)
    → OnOk result (OnChip (Leaves (HaltsAt h) h) old new) → IfErr result (HaltLeft h old.far new.far)
    → LeavesBut (asking h) Nothing old new

abbrev pub ResumeLeaves : Type 0
ResumeLeaves = (h : ℕ) (old new : DmiSeen) (result : Result Running RunFault)
    → OnOk result (OnChip (Leaves (ResumesAt h) h) old new) → IfErr result (ResumeLeft h old.far new.far)
    → LeavesBut (asking h) Nothing old new

abbrev pub RunOneLeaves : Type 0
RunOneLeaves = (h : ℕ) (old new : DmiSeen) (result : Result Halted RunFault)
    → OnOk result (OnChip (Leaves (StepsAt h) h) old new) → IfErr result (StepLeft h old.far new.far)
    → LeavesBut (asking h) Nothing old new

-- of a chip as it was loaded
abbrev pub ConnectLeaves : Type 0
ConnectLeaves = (old new : DmiSeen) (result : Result Target ConnectFault) → IsAsLoaded old.far
    → OnOk result (OpensLoaded old.far new.far) → IfErr result (LosesLoaded old.far new.far)
    → LeavesBut (asking 0) Nothing old new
