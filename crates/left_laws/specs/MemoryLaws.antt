-- What each access to memory by a halted hart leaves of a told chip, whatever it answers: x8 and x9 are lost where the call broke off, and nowhere else.
-- Each law takes the call's own clauses.
-- RISC-V Debug Specification 1.0, "Program Buffer".
use Rattle.std.specs.Prelude.{ℕ, true, List, IfErr, IfOk, OnOk, Result, Ok, Err, ⊤}
use Rattle.rv_model.specs.declared.size.Size.{Size}
use Rattle.debug_model.specs.Kept.{DmiSeen}
use Rattle.probe_run.specs.Told.{OnChip, Serving}
use Rattle.probe_access.specs.declared.fault.AccessFault.{AccessFault}
use Rattle.probe_access.specs.declared.fault.AccessFault.TheVariants as fault
use Rattle.probe_access.specs.Accesses.{AccessLeft, LoadRefused, LoadedAt, StoreRefused, StoredAt}
use Rattle.probe_access.specs.BlockCuts.{BlockLoadCut, BlockStoreCut}
use Rattle.probe_access.specs.Blocks.{BlockLoadLeft, BlockLoadedAt, BlockStoreLeft, BlockStoredAt}
use Rattle.probe_access.specs.Cuts as cuts
use Rattle.probe_access.specs.Cuts.{AccessLeftOff, IfCut, Leaves, Scratched}
use Rattle.left_laws.specs.Left.{LeavesBut, Spared, scratch}
use Rattle.left_laws.specs.Left.Spared.{Nothing, Registers}
use Rattle.left_laws.specs.Scopes.{reading, storing}

-- these are lost behind a fault of the link, and behind 64 polls in vain
abbrev pub cut_loses : Spared → AccessFault → Spared
cut_loses lost (fault.Dmi why) = lost
cut_loses lost (fault.Memory at) = Nothing
cut_loses lost (fault.Register number) = Nothing
cut_loses lost fault.StillBusy = lost
cut_loses lost (fault.Run why) = Nothing
cut_loses lost (fault.Odd shown) = Nothing

abbrev pub loses_if_cut : {A : Type 0} → Spared → Result A AccessFault → Spared
loses_if_cut lost (Ok value) = Nothing
loses_if_cut lost (Err e) = cut_loses lost e

abbrev pub LoadLeaves : Type 0
LoadLeaves = (h : ℕ) (size : Size) (address : ℕ) (old new : DmiSeen) (result : Result ℕ AccessFault) → Serving h old.far
    → IfOk result (λ value. OnChip (LoadedAt size address value) old new)
    → IfErr result (AccessLeft (LoadRefused size address) address old.far new.far)
    → IfErr result (IfCut (Leaves (AccessLeftOff Scratched cuts.LoadLeaves h) old.far new.far))
    → LeavesBut (reading true) (loses_if_cut (Registers h scratch) result) old new

abbrev pub StoreLeaves : Type 0
StoreLeaves = (h : ℕ) (size : Size) (address value : ℕ) (old new : DmiSeen) (result : Result ⊤ AccessFault) → Serving h old.far
    → OnOk result (OnChip (StoredAt size address value) old new)
    → IfErr result (AccessLeft (StoreRefused size address) address old.far new.far)
    → IfErr result (IfCut (Leaves (AccessLeftOff Scratched (cuts.StoreLeaves size address value) h) old.far new.far))
    → LeavesBut (storing size address value 1) (loses_if_cut (Registers h scratch) result) old new

-- `into` is what the call hands out beside its answer
abbrev pub LoadBlockLeaves : Type 0
LoadBlockLeaves = (h : ℕ) (size : Size) (address count : ℕ) (into : List ℕ) (old new : DmiSeen) (result : Result ⊤ AccessFault) → Serving h old.far
    → OnOk result (OnChip (BlockLoadedAt size address into) old new)
    → IfErr result (BlockLoadLeft size address count into old.far new.far)
    → IfErr result (IfCut (Leaves (BlockLoadCut size address count into h) old.far new.far))
    → LeavesBut (reading true) (loses_if_cut (Registers h scratch) result) old new

abbrev pub StoreBlockLeaves : Type 0
StoreBlockLeaves = (h : ℕ) (size : Size) (address count value : ℕ) (old new : DmiSeen) (result : Result ⊤ AccessFault) → Serving h old.far
    → OnOk result (OnChip (BlockStoredAt size address value count) old new)
    → IfErr result (BlockStoreLeft size address count value old.far new.far)
    → IfErr result (IfCut (Leaves (BlockStoreCut size address value count h) old.far new.far))
    → LeavesBut (storing size address value count) (loses_if_cut (Registers h scratch) result) old new
