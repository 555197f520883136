-- What loading an ELF file leaves of a told chip, whatever it answers: nothing is lost. The law takes the call's own clauses.
-- System V ABI, "Program Header"; RISC-V Debug Specification 1.0, "System Bus Access".
use Rattle.std.specs.Prelude.{ℕ, List, map, true, IfErr, OnOk, Result}
use Rattle.debug_model.specs.Kept.{DmiSeen}
use Rattle.probe_run.specs.Told.{OnChip}
use Rattle.probe_access.specs.declared.fault.AccessFault.{AccessFault}
use Rattle.probe_access.specs.Cuts.{IfCut, Leaves}
use Rattle.elf_load.specs.declared.element.Element.{Element}
use Rattle.elf_load.specs.Elf.{elements}
use Rattle.elf_load.specs.Stores.{StoredAt, StoresCut, StoresLeft}
use Rattle.left_laws.specs.Left.{Block, LeavesBut, Scope}
use Rattle.left_laws.specs.Left.Harts.{NoHart}
use Rattle.left_laws.specs.Left.Spared.{Nothing}

-- an element is a block of one
abbrev pub block_of : Element → Block
block_of e = record { size = e.size; address = e.address; value = e.value; count = 1 }

-- these elements are stored, or accessed in vain
abbrev pub storing_each : List Element → Scope
storing_each es = record { asks = NoHart; changes = NoHart; accesses = true; stores = map block_of es }

abbrev pub LoadElfLeaves : Type 0
LoadElfLeaves = (file : List ℕ) (old new : DmiSeen) (result : Result ℕ AccessFault)
    → OnOk result (OnChip (StoredAt (elements file)) old new)
    → IfErr result (StoresLeft (elements file) old.far new.far)
    → IfErr result (IfCut (Leaves (StoresCut (elements file)) old.far new.far))
    → LeavesBut (storing_each (elements file)) Nothing old new
