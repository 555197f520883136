-- What an access to memory does at a told chip: one access, at one moment among turns of harts, and no register is changed.
-- RISC-V Debug Specification 1.0, "Program Buffer" and "Debugger Implementation".
use Rattle.std.specs.Prelude.{◌≡◌, ◌++◌, ◌∷◌, ℕ, List, Option, Some, None, Ok, Err, ⊤}
use Rattle.rv_model.specs.declared.mem_fault.MemFault.{MemFault}
use Rattle.rv_model.specs.declared.size.Size.{Size}
use Rattle.rv_model.specs.Board.{Board}
use Rattle.rv_model.specs.Memory.{Memory, after_store, loaded, store_answer}
use Rattle.debug_model.specs.declared.point.Point.TheVariants.{Access}
use Rattle.debug_model.specs.Chip.{Chip}
use Rattle.debug_model.specs.Module.{Site}
use Rattle.debug_model.specs.Scan.{WhereTold}
use Rattle.debug_model.specs.Told.{Far, site_of}
use Rattle.abstract_debugger.specs.Turns.{after_turns, turns}
use Rattle.probe_access.specs.declared.fault.AccessFault.{AccessFault}
use Rattle.probe_access.specs.declared.fault.AccessFault.TheVariants as fault
use Rattle.probe_access.specs.Registers.{site_before}

abbrev pub with_memory : Memory → Board → Board
with_memory m b = record { harts = b.harts; memory = m }

-- turns, one access that left this memory, and turns: every register of every hart is as turns leave it, and the bus is as it was
pub record OneAccess (m : Memory → Memory) (before behind : List ℕ) (s t : Site) : Type 0 where
  pub board : t.board ≡ after_turns behind (with_memory (m (after_turns before s.board).memory) (after_turns before s.board))
  pub journal : t.journal ≡ (s.journal ++ turns before) ++ Access ∷ turns behind
  pub bus : t.unit.bus ≡ s.unit.bus

abbrev pub unchanged : Memory → Memory
unchanged m = m

-- the same by the system bus: all but the bus is as it was
pub record OneBusAccess (m : Memory → Memory) (before behind : List ℕ) (s t : Site) : Type 0 where
  pub board : t.board ≡ after_turns behind (with_memory (m (after_turns before s.board).memory) (after_turns before s.board))
  pub journal : t.journal ≡ (s.journal ++ turns before) ++ Access ∷ turns behind
  pub unit : t.unit ≡ record s.unit { bus = t.unit.bus }

-- what was loaded is what memory held at the access, made in this way
pub record LoadedBy (A : (Memory → Memory) → List ℕ → List ℕ → Site → Site → Type 0) (size : Size) (address value : ℕ) (c : Chip)
    (new : Option Far) : Type 0 where
  pub far : Far
  pub is : new ≡ Some far
  pub before : List ℕ
  pub behind : List ℕ
  pub value_is : loaded (after_turns before (site_before c).board).memory address size ≡ Ok value
  pub access : A unchanged before behind (site_before c) (site_of far)

-- memory took the value
pub record StoredBy (A : (Memory → Memory) → List ℕ → List ℕ → Site → Site → Type 0) (size : Size) (address value : ℕ) (c : Chip)
    (new : Option Far) : Type 0 where
  pub far : Far
  pub is : new ≡ Some far
  pub before : List ℕ
  pub behind : List ℕ
  pub done : ⊤
  pub taken : store_answer (after_turns before (site_before c).board).memory address size ≡ Ok done
  pub access : A (λ m. after_store m address size value) before behind (site_before c) (site_of far)

-- it refused the access
pub record LoadRefusedBy (A : (Memory → Memory) → List ℕ → List ℕ → Site → Site → Type 0) (size : Size) (address : ℕ) (c : Chip)
    (new : Option Far) : Type 0 where
  pub far : Far
  pub is : new ≡ Some far
  pub before : List ℕ
  pub behind : List ℕ
  pub why : MemFault
  pub refused : loaded (after_turns before (site_before c).board).memory address size ≡ Err why
  pub access : A unchanged before behind (site_before c) (site_of far)

pub record StoreRefusedBy (A : (Memory → Memory) → List ℕ → List ℕ → Site → Site → Type 0) (size : Size) (address : ℕ) (c : Chip)
    (new : Option Far) : Type 0 where
  pub far : Far
  pub is : new ≡ Some far
  pub before : List ℕ
  pub behind : List ℕ
  pub why : MemFault
  pub refused : store_answer (after_turns before (site_before c).board).memory address size ≡ Err why
  pub access : A unchanged before behind (site_before c) (site_of far)

-- ---- by the program buffer

abbrev pub LoadedAt : Size → ℕ → ℕ → Chip → Option Far → Type 0
LoadedAt size address value c new = LoadedBy OneAccess size address value c new

abbrev pub StoredAt : Size → ℕ → ℕ → Chip → Option Far → Type 0
StoredAt size address value c new = StoredBy OneAccess size address value c new

abbrev pub LoadRefused : Size → ℕ → Chip → Option Far → Type 0
LoadRefused size address c new = LoadRefusedBy OneAccess size address c new

abbrev pub StoreRefused : Size → ℕ → Chip → Option Far → Type 0
StoreRefused size address c new = StoreRefusedBy OneAccess size address c new

-- ---- by the system bus

abbrev pub BusLoadedAt : Size → ℕ → ℕ → Chip → Option Far → Type 0
BusLoadedAt size address value c new = LoadedBy OneBusAccess size address value c new

abbrev pub BusStoredAt : Size → ℕ → ℕ → Chip → Option Far → Type 0
BusStoredAt size address value c new = StoredBy OneBusAccess size address value c new

abbrev pub BusLoadRefused : Size → ℕ → Chip → Option Far → Type 0
BusLoadRefused size address c new = LoadRefusedBy OneBusAccess size address c new

abbrev pub BusStoreRefused : Size → ℕ → Chip → Option Far → Type 0
BusStoreRefused size address c new = StoreRefusedBy OneBusAccess size address c new

-- by the fault: no register is refused, and no other error shown, of a told chip
abbrev pub AccessLeft : (Chip → Option Far → Type 0) → ℕ → Option Far → Option Far → AccessFault → Type 0
AccessLeft R address old new (fault.Dmi why) = Unit {0}
AccessLeft R address old new (fault.Memory at) = (at ≡ address) × WhereTold R old new
AccessLeft R address old new (fault.Register number) = old ≡ None
AccessLeft R address old new fault.StillBusy = Unit {0}
AccessLeft R address old new (fault.Run why) = ⊥
AccessLeft R address old new (fault.Odd shown) = old ≡ None

-- a fact that holds behind a fault of memory
abbrev pub IfMemory : Type 0 → AccessFault → Type 0
IfMemory P (fault.Dmi why) = Unit {0}
IfMemory P (fault.Memory at) = P
IfMemory P (fault.Register number) = Unit {0}
IfMemory P fault.StillBusy = Unit {0}
IfMemory P (fault.Run why) = Unit {0}
IfMemory P (fault.Odd shown) = Unit {0}
