-- What a block of accesses by the system bus does at a told chip: one access for each element, upwards, up to and with the first that memory refuses.
-- It is this project's own. It doesn't depend on how the accesses are started: turns of harts are all else that happens, and all but the bus is as it was.
use Rattle.std.specs.Prelude.{◌≡◌, ◌<◌, ◌+◌, ◌++◌, ◌∷◌, ℕ, List, [], length, Option, Some, None, Ok, Err, ⊤}
use Rattle.rv_model.specs.declared.mem_fault.MemFault.{MemFault}
use Rattle.rv_model.specs.declared.size.Size.{Size}
use Rattle.rv_model.specs.Memory.{after_store, loaded, store_answer}
use Rattle.debug_model.specs.Chip.{Chip}
use Rattle.debug_model.specs.Module.{Site}
use Rattle.debug_model.specs.Scan.{WhereTold}
use Rattle.debug_model.specs.Told.{Far, site_of}
use Rattle.abstract_debugger.specs.Turns.{after_turns}
use Rattle.probe_access.specs.declared.fault.AccessFault.{AccessFault}
use Rattle.probe_access.specs.declared.fault.AccessFault.TheVariants as fault
use Rattle.probe_access.specs.Accesses.{OneBusAccess, unchanged}
use Rattle.probe_access.specs.Blocks.{element_at, value_at}
use Rattle.probe_access.specs.Cuts.{BusLeftOff, LoadLeaves, StoreLeaves}
use Rattle.probe_access.specs.Registers.{site_before}

-- ---- one element

-- it was loaded, and this is what memory held at that access
pub record BusLoadedOne (size : Size) (address value : ℕ) (s t : Site) : Type 0 where
  pub before : List ℕ
  pub behind : List ℕ
  pub value_is : loaded (after_turns before s.board).memory address size ≡ Ok value
  pub access : OneBusAccess unchanged before behind s t

pub record BusNotLoadedOne (size : Size) (address : ℕ) (s t : Site) : Type 0 where
  pub before : List ℕ
  pub behind : List ℕ
  pub why : MemFault
  pub refused : loaded (after_turns before s.board).memory address size ≡ Err why
  pub access : OneBusAccess unchanged before behind s t

-- it was stored
pub record BusStoredOne (size : Size) (address value : ℕ) (s t : Site) : Type 0 where
  pub before : List ℕ
  pub behind : List ℕ
  pub done : ⊤
  pub taken : store_answer (after_turns before s.board).memory address size ≡ Ok done
  pub access : OneBusAccess (λ m. after_store m address size value) before behind s t

pub record BusNotStoredOne (size : Size) (address : ℕ) (s t : Site) : Type 0 where
  pub before : List ℕ
  pub behind : List ℕ
  pub why : MemFault
  pub refused : store_answer (after_turns before s.board).memory address size ≡ Err why
  pub access : OneBusAccess unchanged before behind s t

-- ---- one after the other

-- elements from an address on held these values, each at its own access
pub data BusLoadedEach (size : Size) (address : ℕ) (s : Site) : List ℕ → Site → Type 0 where
  nothing : BusLoadedEach size address s [] s
  further : (values : List ℕ) (value : ℕ) (m t : Site) → BusLoadedEach size address s values m
      → BusLoadedOne size (element_at size address (length values)) value m t → BusLoadedEach size address s (values ++ value ∷ []) t

-- the value was stored so many times from an address on
pub data BusStoredEach (size : Size) (address value : ℕ) (s : Site) : ℕ → Site → Type 0 where
  nothing : BusStoredEach size address value s 0 s
  further : (n : ℕ) (m t : Site) → BusStoredEach size address value s n m → BusStoredOne size (element_at size address n) value m t
      → BusStoredEach size address value s (n + 1) t

-- the first so many of these values were stored from an address on, each at its own access
pub data BusStoredValues (size : Size) (address : ℕ) (values : List ℕ) (s : Site) : ℕ → Site → Type 0 where
  nothing : BusStoredValues size address values s 0 s
  further : (n : ℕ) (m t : Site) → BusStoredValues size address values s n m → BusStoredOne size (element_at size address n) (value_at values n) m t
      → BusStoredValues size address values s (n + 1) t

-- ---- at the chip

pub record BusBlockLoadedAt (size : Size) (address : ℕ) (values : List ℕ) (c : Chip) (new : Option Far) : Type 0 where
  pub far : Far
  pub is : new ≡ Some far
  pub each : BusLoadedEach size address (site_before c) values (site_of far)

-- the elements in front were loaded, and memory refused the next
pub record BusBlockLoadRefused (size : Size) (address : ℕ) (values : List ℕ) (c : Chip) (new : Option Far) : Type 0 where
  pub far : Far
  pub is : new ≡ Some far
  pub mid : Site
  pub each : BusLoadedEach size address (site_before c) values mid
  pub refused : BusNotLoadedOne size (element_at size address (length values)) mid (site_of far)

pub record BusBlockStoredAt (size : Size) (address value count : ℕ) (c : Chip) (new : Option Far) : Type 0 where
  pub far : Far
  pub is : new ≡ Some far
  pub each : BusStoredEach size address value (site_before c) count (site_of far)

pub record BusBlockStoreRefused (size : Size) (address value done : ℕ) (c : Chip) (new : Option Far) : Type 0 where
  pub far : Far
  pub is : new ≡ Some far
  pub mid : Site
  pub each : BusStoredEach size address value (site_before c) done mid
  pub refused : BusNotStoredOne size (element_at size address done) mid (site_of far)

pub record BusValuesStoredAt (size : Size) (address : ℕ) (values : List ℕ) (count : ℕ) (c : Chip) (new : Option Far) : Type 0 where
  pub far : Far
  pub is : new ≡ Some far
  pub each : BusStoredValues size address values (site_before c) count (site_of far)

pub record BusValueStoreRefused (size : Size) (address : ℕ) (values : List ℕ) (done : ℕ) (c : Chip) (new : Option Far) : Type 0 where
  pub far : Far
  pub is : new ≡ Some far
  pub mid : Site
  pub each : BusStoredValues size address values (site_before c) done mid
  pub refused : BusNotStoredOne size (element_at size address done) mid (site_of far)

-- ---- by the fault: no register is refused, and no other error shown, of a told chip; a fault of memory is of the element behind those that were done

abbrev pub BusBlockLoadLeft : Size → ℕ → ℕ → List ℕ → Option Far → Option Far → AccessFault → Type 0
BusBlockLoadLeft size address count values old new (fault.Dmi why) = Unit {0}
BusBlockLoadLeft size address count values old new (fault.Memory at) = (length values < count) × (at ≡ element_at size address (length values))
    × WhereTold (BusBlockLoadRefused size address values) old new
BusBlockLoadLeft size address count values old new (fault.Register number) = old ≡ None
BusBlockLoadLeft size address count values old new fault.StillBusy = Unit {0}
BusBlockLoadLeft size address count values old new (fault.Run why) = ⊥
BusBlockLoadLeft size address count values old new (fault.Odd shown) = old ≡ None

abbrev pub BusBlockStoreLeft : Size → ℕ → ℕ → ℕ → Option Far → Option Far → AccessFault → Type 0
BusBlockStoreLeft size address count value old new (fault.Dmi why) = Unit {0}
BusBlockStoreLeft size address count value old new (fault.Memory at) = (done : ℕ) × (done < count) × (at ≡ element_at size address done)
    × WhereTold (BusBlockStoreRefused size address value done) old new
BusBlockStoreLeft size address count value old new (fault.Register number) = old ≡ None
BusBlockStoreLeft size address count value old new fault.StillBusy = Unit {0}
BusBlockStoreLeft size address count value old new (fault.Run why) = ⊥
BusBlockStoreLeft size address count value old new (fault.Odd shown) = old ≡ None

abbrev pub BusValuesStoreLeft : Size → ℕ → List ℕ → ℕ → Option Far → Option Far → AccessFault → Type 0
BusValuesStoreLeft size address values count old new (fault.Dmi why) = Unit {0}
BusValuesStoreLeft size address values count old new (fault.Memory at) = (done : ℕ) × (done < count) × (at ≡ element_at size address done)
    × WhereTold (BusValueStoreRefused size address values done) old new
BusValuesStoreLeft size address values count old new (fault.Register number) = old ≡ None
BusValuesStoreLeft size address values count old new fault.StillBusy = Unit {0}
BusValuesStoreLeft size address values count old new (fault.Run why) = ⊥
BusValuesStoreLeft size address values count old new (fault.Odd shown) = old ≡ None

-- ---- where it broke off: a front of the elements is done, and of the next one at most the access

-- those that were handed out are the first of the ones that were loaded
pub record BusBlockLoadCut (size : Size) (address count : ℕ) (values : List ℕ) (s t : Site) : Type 0 where
  pub more : List ℕ
  pub below : length (values ++ more) < count
  pub mid : Site
  pub each : BusLoadedEach size address s (values ++ more) mid
  pub left : BusLeftOff LoadLeaves mid t

pub record BusBlockStoreCut (size : Size) (address value count : ℕ) (s t : Site) : Type 0 where
  pub done : ℕ
  pub below : done < count
  pub mid : Site
  pub each : BusStoredEach size address value s done mid
  pub left : BusLeftOff (StoreLeaves size (element_at size address done) value) mid t

pub record BusValuesStoreCut (size : Size) (address : ℕ) (values : List ℕ) (count : ℕ) (s t : Site) : Type 0 where
  pub done : ℕ
  pub below : done < count
  pub mid : Site
  pub each : BusStoredValues size address values s done mid
  pub left : BusLeftOff (StoreLeaves size (element_at size address done) (value_at values done)) mid t
