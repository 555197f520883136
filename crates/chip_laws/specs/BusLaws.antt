-- Laws of the system bus in the standard's words: what a read brings, how the address grows, and what a fault leaves.
-- RISC-V Debug Specification 1.0, "System Bus Access Control and Status", "System Bus Address 31:0" and "System Bus Data 31:0".
use Rattle.std.specs.Prelude.{◌≡◌, ℕ, ◌+◌, ◌^◌, ◌%◌, Bool, true, false, Some, None, ⊤, Ok, Err}
use Rattle.rv_model.specs.declared.mem_fault.MemFault.{MemFault}
use Rattle.rv_model.specs.declared.size.Size.{Size}
use Rattle.rv_model.specs.Memory.{Memory, after_store, loaded, store_answer}
use Rattle.rv_model.specs.Size.{count_of}
use Rattle.debug_model.specs.declared.bus_access.BusAccess.TheVariants.{Read, Write}
use Rattle.debug_model.specs.declared.sberror.Sberror.TheVariants as sberror
use Rattle.debug_model.specs.SystemBus.{BusDone, BusUnit, access_size, bus_done}

-- ---- an access that was made

-- with sbautoincrement the address is the next one of this size behind it, from 2^64 on at 0 again; else it stays
abbrev pub GrewBy : Bool → ℕ → ℕ → ℕ → Type 0
GrewBy true size before after = after ≡ (before + size) % 2 ^ 64
GrewBy false size before after = after ≡ before

-- behind an access that memory served: nothing is under way, no error has come, and the address has grown
pub record BusServed (size : ℕ) (before after : BusUnit) : Type 0 where
  pub idle : after.pending ≡ None
  pub error : after.error ≡ before.error
  pub busyerror : after.busyerror ≡ before.busyerror
  pub grew : GrewBy before.autoincrement size before.address after.address

-- behind one that memory refused: address and data stay, and sberror says a bad address
pub record BusRefused (before after : BusUnit) : Type 0 where
  pub idle : after.pending ≡ None
  pub error : after.error ≡ sberror.Address
  pub address : after.address ≡ before.address
  pub value : after.value ≡ before.value

-- a read brings what memory holds there, and changes no memory
pub record BusReads (u : BusUnit) (size : Size) (m : Memory) (done : BusDone) : Type 0 where
  pub accessed : done.accessed ≡ true
  pub memory : done.memory ≡ m
  pub brings : (v : ℕ) → loaded m u.address size ≡ Ok v → done.unit.value ≡ v
  pub served : (v : ℕ) → loaded m u.address size ≡ Ok v → BusServed (count_of size) u done.unit
  pub refused : (fault : MemFault) → loaded m u.address size ≡ Err fault → BusRefused u done.unit

abbrev pub BusReadsMemory : Type 0
BusReadsMemory = (u : BusUnit) (size : Size) (m : Memory) → u.pending ≡ Some Read → access_size u.access ≡ Some size
    → BusReads u size m (bus_done m u)

-- a write leaves memory as a store of the value does, also where memory refuses it
pub record BusWrites (u : BusUnit) (size : Size) (m : Memory) (done : BusDone) : Type 0 where
  pub accessed : done.accessed ≡ true
  pub memory : done.memory ≡ after_store m u.address size u.value
  pub value : done.unit.value ≡ u.value
  pub served : (answer : ⊤) → store_answer m u.address size ≡ Ok answer → BusServed (count_of size) u done.unit
  pub refused : (fault : MemFault) → store_answer m u.address size ≡ Err fault → BusRefused u done.unit

abbrev pub BusWritesMemory : Type 0
BusWritesMemory = (u : BusUnit) (size : Size) (m : Memory) → u.pending ≡ Some Write → access_size u.access ≡ Some size
    → BusWrites u size m (bus_done m u)
