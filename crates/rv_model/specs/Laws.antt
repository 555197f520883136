-- Laws of the definitions, over all instructions at once, in the words of a program's author.
-- Unprivileged manual: "Programmers' Model for Base Integer ISA" (x0 is zero), "Load-Reserved/Store-Conditional Instructions" (stores by other harts).
use Rattle.std.specs.Prelude.{◌≡◌, ◌≢◌, ℕ, ◌⊎◌, true, false, length, ⊤, Option, Some, None, Result, Ok, Err, bit_and, slice_get, slice_index}
use Rattle.rv_model.specs.declared.did.Did.TheVariants.{Trapped, Interrupted}
use Rattle.rv_model.specs.declared.mem_fault.MemFault.{MemFault}
use Rattle.rv_model.specs.declared.size.Size.{Size}
use Rattle.rv_model.specs.Rows.{Row, rows}
use Rattle.rv_model.specs.Memory.{Memory, loaded, store_answer, after_store}
use Rattle.rv_model.specs.Core.{Core, IsCore}
use Rattle.rv_model.specs.Effects.{Outcome}
use Rattle.rv_model.specs.Execute.{exec_masked_of, exec_of, takes_interrupt}
use Rattle.rv_model.specs.Traps.{interrupt_entered, trap_entered}
use Rattle.rv_model.specs.Board.{Machine, execute}

-- ---- the instruction table

-- no word matches two rows
abbrev pub RowsAreApart : Type 0
RowsAreApart = (w i j : ℕ) (r s : Row) → slice_get rows i ≡ Some r → slice_get rows j ≡ Some s
    → bit_and w r.mask ≡ r.code → bit_and w s.mask ≡ s.code → i ≡ j

-- ---- memory

abbrev pub answered : Result ℕ MemFault → Result ⊤ MemFault
answered (Ok v) = Ok tt
answered (Err fault) = Err fault

-- a store is refused exactly where a load of its bytes is, for the same reason, and then changes no memory
pub record RefusedStoreKeeps (m : Memory) (a : ℕ) (size : Size) (v : ℕ) : Type 0 where
  pub as_load : store_answer m a size ≡ answered (loaded m a size)
  pub same : (fault : MemFault) → store_answer m a size ≡ Err fault → after_store m a size v ≡ m

abbrev pub RefusedStoresKeepMemory : Type 0
RefusedStoresKeepMemory = (m : Memory) (a : ℕ) (size : Size) (v : ℕ) → RefusedStoreKeeps m a size v

-- ---- one instruction

-- a reservation is as it was, or it is gone
abbrev pub KeptOrCleared : Option (Option ℕ) → Option (Option ℕ) → Type 0
KeptOrCleared old new = (new ≡ old) ⊎ (new ≡ Some None)

-- what every instruction leaves of its own core
pub record KeepsCore (c after : Core) : Type 0 where
  pub same_id : after.id ≡ c.id
  pub x0 : slice_index after.x 0 ≡ slice_index c.x 0
  pub is_core : IsCore c → IsCore after

-- a trap by this cause, and nothing else: the core is the trap's for some value of mtval, and memory is as it was
pub record IsTrap (cause : ℕ) (c : Core) (m : Memory) (o : Outcome) : Type 0 where
  pub value : ℕ
  pub core : o.step.core ≡ trap_entered cause value c
  pub memory : o.memory ≡ m

-- the interrupt, and nothing else
pub record IsInterrupt (c : Core) (m : Memory) (o : Outcome) : Type 0 where
  pub core : o.step.core ≡ interrupt_entered c
  pub memory : o.memory ≡ m

-- what every instruction leaves of its own core and of memory
pub record Keeps (c : Core) (m : Memory) (o : Outcome) : Type 0 where
  pub core : KeepsCore c o.step.core
  pub others : (j : ℕ) → (j ≡ c.id → ⊥) → KeptOrCleared (slice_get m.reserved j) (slice_get o.memory.reserved j)
  pub places : length o.memory.reserved ≡ length m.reserved
  pub trapped : (cause : ℕ) → o.step.did ≡ Trapped cause → IsTrap cause c m o

-- x0 never changes, pc stays a multiple of 4, other harts' reservations are kept or cleared, and an instruction that traps does what a trap does alone
abbrev pub ExecutionKeeps : Type 0
ExecutionKeeps = (c : Core) (m : Memory) → Keeps c m (exec_of c m)

-- and so without interrupts, of which there is none then
pub record MaskedKeeps (c : Core) (m : Memory) : Type 0 where
  pub keeps : Keeps c m (exec_masked_of c m)
  pub none : (exec_masked_of c m).step.did ≢ Interrupted

abbrev pub MaskedExecutionKeeps : Type 0
MaskedExecutionKeeps = (c : Core) (m : Memory) → MaskedKeeps c m

-- the interrupt is taken exactly where it is enabled and pends, and all else is as without interrupts
pub record InterruptsWhere (c : Core) (m : Memory) : Type 0 where
  pub taken : takes_interrupt c m ≡ true → IsInterrupt c m (exec_of c m)
  pub other : takes_interrupt c m ≡ false → exec_of c m ≡ exec_masked_of c m

abbrev pub InterruptsAreTaken : Type 0
InterruptsAreTaken = (c : Core) (m : Memory) → InterruptsWhere c m

-- ---- one hart of a board

-- execution by hart h leaves every other hart's core alone
pub record LeavesOthers (h : ℕ) (b after : Machine) : Type 0 where
  pub count : length after.cores ≡ length b.cores
  pub others : (j : ℕ) → (j ≡ h → ⊥) → slice_get after.cores j ≡ slice_get b.cores j

abbrev pub ExecutionLeavesOthers : Type 0
ExecutionLeavesOthers = (h : ℕ) (b : Machine) → LeavesOthers h b (execute h b)
