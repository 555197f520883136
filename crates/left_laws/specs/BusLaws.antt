-- What each access to memory by the system bus leaves of a told chip, whatever it answers: nothing is lost. Each law takes the call's own clauses.
-- RISC-V Debug Specification 1.0, "System Bus Access".
use Rattle.std.specs.Prelude.{ℕ, true, List, IfErr, IfOk, OnOk, Result, ⊤}
use Rattle.rv_model.specs.declared.size.Size.{Size}
use Rattle.debug_model.specs.Kept.{DmiSeen}
use Rattle.probe_run.specs.Told.{OnChip}
use Rattle.probe_access.specs.declared.fault.AccessFault.{AccessFault}
use Rattle.probe_access.specs.Accesses.{AccessLeft, BusLoadRefused, BusLoadedAt, BusStoreRefused, BusStoredAt}
use Rattle.probe_access.specs.BusBlocks.{BusBlockLoadCut, BusBlockLoadLeft, BusBlockLoadedAt, BusBlockStoreCut, BusBlockStoreLeft, BusBlockStoredAt}
use Rattle.probe_access.specs.Cuts as cuts
use Rattle.probe_access.specs.Cuts.{BusLeftOff, IfCut, Leaves}
use Rattle.left_laws.specs.Left.{LeavesBut}
use Rattle.left_laws.specs.Left.Spared.{Nothing}
use Rattle.left_laws.specs.Scopes.{reading, storing}

abbrev pub BusLoadLeaves : Type 0
BusLoadLeaves = (size : Size) (address : ℕ) (old new : DmiSeen) (result : Result ℕ AccessFault)
    → IfOk result (λ value. OnChip (BusLoadedAt size address value) old new)
    → IfErr result (AccessLeft (BusLoadRefused size address) address old.far new.far)
    → IfErr result (IfCut (Leaves (BusLeftOff cuts.LoadLeaves) old.far new.far))
    → LeavesBut (reading true) Nothing old new

abbrev pub BusStoreLeaves : Type 0
BusStoreLeaves = (size : Size) (address value : ℕ) (old new : DmiSeen) (result : Result ⊤ AccessFault)
    → OnOk result (OnChip (BusStoredAt size address value) old new)
    → IfErr result (AccessLeft (BusStoreRefused size address) address old.far new.far)
    → IfErr result (IfCut (Leaves (BusLeftOff (cuts.StoreLeaves size address value)) old.far new.far))
    → LeavesBut (storing size address value 1) Nothing old new

-- `into` is what the call hands out beside its answer
abbrev pub BusLoadBlockLeaves : Type 0
BusLoadBlockLeaves = (size : Size) (address count : ℕ) (into : List ℕ) (old new : DmiSeen) (result : Result ⊤ AccessFault)
    → OnOk result (OnChip (BusBlockLoadedAt size address into) old new)
    → IfErr result (BusBlockLoadLeft size address count into old.far new.far)
    → IfErr result (IfCut (Leaves (BusBlockLoadCut size address count into) old.far new.far))
    → LeavesBut (reading true) Nothing old new

abbrev pub BusStoreBlockLeaves : Type 0
BusStoreBlockLeaves = (size : Size) (address count value : ℕ) (old new : DmiSeen) (result : Result ⊤ AccessFault)
    → OnOk result (OnChip (BusBlockStoredAt size address value count) old new)
    → IfErr result (BusBlockStoreLeft size address count value old.far new.far)
    → IfErr result (IfCut (Leaves (BusBlockStoreCut size address value count) old.far new.far))
    → LeavesBut (storing size address value count) Nothing old new
