-- What each call that prepares harts for software breakpoints, sets one, takes it out, lifts it or covers it again leaves of a told chip, whatever it
-- answers. Each law takes the call's own clauses.
-- It is this project's own. RISC-V Debug Specification 1.0, "System Bus Access" and "Program Buffer".
use Rattle.std.specs.Prelude.{ℕ, IfErr, IfOk, OnOk, Result, ⊤}
use Rattle.rv_model.specs.declared.size.Size.TheVariants.{B4}
use Rattle.debug_model.specs.Kept.{DmiSeen}
use Rattle.debug_model.specs.Told.{IsReady}
use Rattle.probe_run.specs.Told.{Fails, OnChip, Serving, told}
use Rattle.probe_access.specs.declared.fault.AccessFault.{AccessFault}
use Rattle.probe_access.specs.Accesses.{AccessLeft, BusStoreRefused, BusStoredAt, StoreRefused, StoredAt}
use Rattle.probe_access.specs.Cuts.{AccessLeftOff, BusLeftOff, IfCut, Leaves, Scratched, StoreLeaves}
use Rattle.soft_laws.specs.SoftBreaks.{ebreak_word}
use Rattle.soft_break.specs.declared.fault.SoftFault.{SoftFault}
use Rattle.soft_break.specs.declared.lifting.Uncovered.{Uncovered}
use Rattle.soft_break.specs.declared.preparing.Prepared.{Prepared}
use Rattle.soft_break.specs.Preparing.{PrepareFailed, PreparedAs}
use Rattle.soft_break.specs.Calls.{IfAccess, PlantCut, PlantRefused, PlantedAt, SoftKeeps}
use Rattle.soft_break.specs.Patches.{Patches, original_of}
use Rattle.left_laws.specs.Left.{LeavesBut, scratch}
use Rattle.left_laws.specs.Left.Spared.{Nothing, Registers}
use Rattle.left_laws.specs.MemoryLaws.{loses_if_cut}
use Rattle.left_laws.specs.Scopes.{preparing, storing}

-- by what the table is behind the call
abbrev pub PlantLeaves : Type 0
PlantLeaves = (at : ℕ) (after : Patches) (old new : DmiSeen) (result : Result ⊤ SoftFault)
    → OnOk result (OnChip (PlantedAt at (original_of at after)) old new)
    → IfErr result (IfAccess (AccessLeft (PlantRefused at) at old.far new.far))
    → IfErr result (IfAccess (IfCut (Leaves (PlantCut at) old.far new.far)))
    → SoftKeeps old new result
    → LeavesBut (storing B4 at ebreak_word 1) Nothing old new

-- by what the table was
abbrev pub UnplantLeaves : Type 0
UnplantLeaves = (at : ℕ) (before : Patches) (old new : DmiSeen) (result : Result ⊤ SoftFault)
    → OnOk result (OnChip (BusStoredAt B4 at (original_of at before)) old new)
    → IfErr result (IfAccess (AccessLeft (BusStoreRefused B4 at) at old.far new.far))
    → IfErr result (IfAccess (IfCut (Leaves (BusLeftOff (StoreLeaves B4 at (original_of at before))) old.far new.far)))
    → SoftKeeps old new result
    → LeavesBut (storing B4 at (original_of at before) 1) Nothing old new

abbrev pub UncoverLeaves : Type 0
UncoverLeaves = (h at : ℕ) (now : Patches) (old new : DmiSeen) (result : Result Uncovered AccessFault) → Serving h old.far
    → OnOk result (OnChip (StoredAt B4 at (original_of at now)) old new)
    → IfErr result (AccessLeft (StoreRefused B4 at) at old.far new.far)
    → IfErr result (IfCut (Leaves (AccessLeftOff Scratched (StoreLeaves B4 at (original_of at now)) h) old.far new.far))
    → LeavesBut (storing B4 at (original_of at now) 1) (loses_if_cut (Registers h scratch) result) old new

abbrev pub CoverLeaves : Type 0
CoverLeaves = (h at : ℕ) (old new : DmiSeen) (result : Result ⊤ AccessFault) → Serving h old.far
    → OnOk result (OnChip (StoredAt B4 at ebreak_word) old new)
    → IfErr result (AccessLeft (StoreRefused B4 at) at old.far new.far)
    → IfErr result (IfCut (Leaves (AccessLeftOff Scratched (StoreLeaves B4 at ebreak_word) h) old.far new.far))
    → LeavesBut (storing B4 at ebreak_word 1) (loses_if_cut (Registers h scratch) result) old new

-- of a ready chip
abbrev pub PrepareLeaves : Type 0
PrepareLeaves = (old new : DmiSeen) (result : Result Prepared AccessFault) → IsReady old.far
    → IfOk result (PreparedAs (told old) (told new))
    → IfErr result (Fails PrepareFailed old new)
    → LeavesBut preparing Nothing old new
