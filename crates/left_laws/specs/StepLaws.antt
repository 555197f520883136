-- What a single step leaves of a told chip, whatever it answers: no register is lost. Each law takes the call's own clauses.
-- RISC-V Debug Specification 1.0, "Single Step".
use Rattle.std.specs.Prelude.{ℕ, IfErr, OnOk, Result}
use Rattle.debug_model.specs.Kept.{DmiSeen}
use Rattle.probe_run.specs.declared.hart.Halted.{Halted}
use Rattle.probe_run.specs.Told.{OnChip, Serving}
use Rattle.probe_access.specs.declared.fault.AccessFault.{AccessFault}
use Rattle.probe_access.specs.BlockCuts.{StepCut}
use Rattle.probe_access.specs.Cuts.{IfCut, Leaves}
use Rattle.probe_access.specs.SingleSteps.{StepLeft, SteppedAt}
use Rattle.left_laws.specs.Left.{LeavesBut}
use Rattle.left_laws.specs.Left.Spared.{Nothing}
use Rattle.left_laws.specs.Scopes.{driving}

-- of `step`, and of `step_from`
abbrev pub StepLeaves : Type 0
StepLeaves = (h : ℕ) (old new : DmiSeen) (result : Result Halted AccessFault) → Serving h old.far
    → OnOk result (OnChip (SteppedAt h) old new)
    → IfErr result (StepLeft h old.far new.far)
    → IfErr result (IfCut (Leaves (StepCut h) old.far new.far))
    → LeavesBut (driving h) Nothing old new
