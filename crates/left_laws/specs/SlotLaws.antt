-- What each call on the trigger slots of a halted hart leaves of a told chip, and each that steps over them, whatever it answers: no register is lost that a
-- program sees. Each law takes the call's own clauses.
-- RISC-V Debug Specification 1.0, "Sdtrig (ISA Extension)" and "Single Step".
use Rattle.std.specs.Prelude.{ℕ, IfErr, IfOk, OnOk, Result, ⊤}
use Rattle.debug_model.specs.Kept.{DmiSeen}
use Rattle.debug_model.specs.declared.slot_use.SlotUse.{SlotUse}
use Rattle.probe_run.specs.declared.hart.Halted.{Halted}
use Rattle.probe_run.specs.Told.{OnChip, Serving}
use Rattle.probe_access.specs.Cuts.{IfCut, LeftAside, Leaves}
use Rattle.probe_access.specs.Scratches.{ScratchLeft}
use Rattle.probe_trig.specs.declared.fault.TrigFault.{TrigFault}
use Rattle.probe_trig.specs.declared.gone.Gone.{Gone}
use Rattle.probe_trig.specs.declared.slot_view.SlotView.{SlotView}
use Rattle.probe_trig.specs.Faults.{ByFault, IfAccess}
use Rattle.probe_trig.specs.Going.{GoLeft, GoesAt}
use Rattle.probe_trig.specs.Slots.{ArmedAt, AtHarts, DebugAlone, ForgotAt, FreedAt, FullAt, UnusedAt, ViewedAt}
use Rattle.probe_trig.specs.StepCuts.{GoCut, LeavesAt, OverCut}
use Rattle.probe_trig.specs.Stepping.{OverAt, OverLeft}
use Rattle.left_laws.specs.Left.{LeavesBut}
use Rattle.left_laws.specs.Left.Spared.{Nothing}
use Rattle.left_laws.specs.Scopes.{changing, driving}

-- where it broke off, tselect may name another slot
abbrev pub SlotsLeaves : Type 0
SlotsLeaves = (h : ℕ) (old new : DmiSeen) (result : Result SlotView TrigFault) → Serving h old.far
    → IfOk result (λ view. OnChip (AtHarts (ViewedAt view h)) old new)
    → IfErr result (ByFault (ScratchLeft old.far) ⊥ ⊥)
    → IfErr result (IfAccess (IfCut (Leaves (LeftAside DebugAlone h) old.far new.far)))
    → LeavesBut (changing h) Nothing old new

abbrev pub ArmLeaves : Type 0
ArmLeaves = (h : ℕ) (what : SlotUse) (old new : DmiSeen) (result : Result ℕ TrigFault) → Serving h old.far
    → IfOk result (λ slot. OnChip (AtHarts (ArmedAt what slot h)) old new)
    → IfErr result (ByFault (ScratchLeft old.far) (OnChip (AtHarts (FullAt h)) old new) ⊥)
    → IfErr result (IfAccess (IfCut (Leaves (LeftAside DebugAlone h) old.far new.far)))
    → LeavesBut (changing h) Nothing old new

abbrev pub DisarmLeaves : Type 0
DisarmLeaves = (h slot : ℕ) (old new : DmiSeen) (result : Result ⊤ TrigFault) → Serving h old.far
    → OnOk result (OnChip (AtHarts (FreedAt slot h)) old new)
    → IfErr result (ByFault (ScratchLeft old.far) ⊥ (OnChip (AtHarts (UnusedAt slot h)) old new))
    → IfErr result (IfAccess (IfCut (Leaves (LeftAside DebugAlone h) old.far new.far)))
    → LeavesBut (changing h) Nothing old new

abbrev pub ForgetHitsLeaves : Type 0
ForgetHitsLeaves = (h : ℕ) (old new : DmiSeen) (result : Result ⊤ TrigFault) → Serving h old.far
    → OnOk result (OnChip (AtHarts (ForgotAt h)) old new)
    → IfErr result (ByFault (ScratchLeft old.far) ⊥ ⊥)
    → IfErr result (IfAccess (IfCut (Leaves (LeftAside DebugAlone h) old.far new.far)))
    → LeavesBut (changing h) Nothing old new

abbrev pub StepOverLeaves : Type 0
StepOverLeaves = (h : ℕ) (old new : DmiSeen) (result : Result Halted TrigFault) → Serving h old.far
    → OnOk result (OnChip (AtHarts (OverAt h)) old new)
    → IfErr result (ByFault (OverLeft h old.far new.far) ⊥ ⊥)
    → IfErr result (IfAccess (IfCut (LeavesAt (OverCut h) old.far new.far)))
    → LeavesBut (driving h) Nothing old new

abbrev pub LetGoLeaves : Type 0
LetGoLeaves = (h : ℕ) (old new : DmiSeen) (result : Result Gone TrigFault) → Serving h old.far
    → IfOk result (λ gone. OnChip (AtHarts (GoesAt h gone)) old new)
    → IfErr result (ByFault (GoLeft h old.far new.far) ⊥ ⊥)
    → IfErr result (IfAccess (IfCut (LeavesAt (GoCut h) old.far new.far)))
    → LeavesBut (driving h) Nothing old new
