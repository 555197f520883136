-- What a block of accesses does at a told chip: one access for each element, upwards, up to and with the first that memory refuses.
-- It is this project's own. It doesn't depend on how the accesses are made: turns of harts are all else that happens, and no register is changed.
use Rattle.std.specs.Prelude.{◌≡◌, ◌<◌, ◌+◌, ◌*◌, ◌++◌, ◌∷◌, ℕ, List, [], length, slice_index_or, Option, Some, None, Ok, Err, ⊤}
use Rattle.rv_model.specs.declared.mem_fault.MemFault.{MemFault}
use Rattle.rv_model.specs.declared.size.Size.{Size}
use Rattle.rv_model.specs.Memory.{after_store, loaded, store_answer}
use Rattle.rv_model.specs.Size.{count_of}
use Rattle.debug_model.specs.Chip.{Chip}
use Rattle.debug_model.specs.Module.{Site}
use Rattle.debug_model.specs.Scan.{WhereTold}
use Rattle.debug_model.specs.Told.{Far, site_of}
use Rattle.abstract_debugger.specs.Turns.{after_turns}
use Rattle.probe_access.specs.declared.fault.AccessFault.{AccessFault}
use Rattle.probe_access.specs.declared.fault.AccessFault.TheVariants as fault
use Rattle.probe_access.specs.Accesses.{OneAccess, unchanged}
use Rattle.probe_access.specs.Registers.{site_before}

-- the address of an element
abbrev pub element_at : Size → ℕ → ℕ → ℕ
element_at size address i = address + i * count_of size

-- and its value, of a list of them
abbrev pub value_at : List ℕ → ℕ → ℕ
value_at values i = slice_index_or values i 0

-- ---- one element

-- it was loaded, and this is what memory held at that access
pub record LoadedOne (size : Size) (address value : ℕ) (s t : Site) : Type 0 where
  pub before : List ℕ
  pub behind : List ℕ
  pub value_is : loaded (after_turns before s.board).memory address size ≡ Ok value
  pub access : OneAccess unchanged before behind s t

pub record NotLoadedOne (size : Size) (address : ℕ) (s t : Site) : Type 0 where
  pub before : List ℕ
  pub behind : List ℕ
  pub why : MemFault
  pub refused : loaded (after_turns before s.board).memory address size ≡ Err why
  pub access : OneAccess unchanged before behind s t

-- it was stored
pub record StoredOne (size : Size) (address value : ℕ) (s t : Site) : Type 0 where
  pub before : List ℕ
  pub behind : List ℕ
  pub done : ⊤
  pub taken : store_answer (after_turns before s.board).memory address size ≡ Ok done
  pub access : OneAccess (λ m. after_store m address size value) before behind s t

pub record NotStoredOne (size : Size) (address : ℕ) (s t : Site) : Type 0 where
  pub before : List ℕ
  pub behind : List ℕ
  pub why : MemFault
  pub refused : store_answer (after_turns before s.board).memory address size ≡ Err why
  pub access : OneAccess unchanged before behind s t

-- ---- one after the other

-- elements from an address on held these values, each at its own access
pub data LoadedEach (size : Size) (address : ℕ) (s : Site) : List ℕ → Site → Type 0 where
  nothing : LoadedEach size address s [] s
  further : (values : List ℕ) (value : ℕ) (m t : Site) → LoadedEach size address s values m
      → LoadedOne size (element_at size address (length values)) value m t → LoadedEach size address s (values ++ value ∷ []) t

-- the value was stored so many times from an address on
pub data StoredEach (size : Size) (address value : ℕ) (s : Site) : ℕ → Site → Type 0 where
  nothing : StoredEach size address value s 0 s
  further : (n : ℕ) (m t : Site) → StoredEach size address value s n m → StoredOne size (element_at size address n) value m t
      → StoredEach size address value s (n + 1) t

-- ---- at the chip

pub record BlockLoadedAt (size : Size) (address : ℕ) (values : List ℕ) (c : Chip) (new : Option Far) : Type 0 where
  pub far : Far
  pub is : new ≡ Some far
  pub each : LoadedEach size address (site_before c) values (site_of far)

-- the elements in front were loaded, and memory refused the next
pub record BlockLoadRefused (size : Size) (address : ℕ) (values : List ℕ) (c : Chip) (new : Option Far) : Type 0 where
  pub far : Far
  pub is : new ≡ Some far
  pub mid : Site
  pub each : LoadedEach size address (site_before c) values mid
  pub refused : NotLoadedOne size (element_at size address (length values)) mid (site_of far)

pub record BlockStoredAt (size : Size) (address value count : ℕ) (c : Chip) (new : Option Far) : Type 0 where
  pub far : Far
  pub is : new ≡ Some far
  pub each : StoredEach size address value (site_before c) count (site_of far)

pub record BlockStoreRefused (size : Size) (address value done : ℕ) (c : Chip) (new : Option Far) : Type 0 where
  pub far : Far
  pub is : new ≡ Some far
  pub mid : Site
  pub each : StoredEach size address value (site_before c) done mid
  pub refused : NotStoredOne size (element_at size address done) mid (site_of far)

-- ---- by the fault: no register is refused, and no other error shown, of a told chip; a fault of memory is of the element behind those that were done

abbrev pub BlockLoadLeft : Size → ℕ → ℕ → List ℕ → Option Far → Option Far → AccessFault → Type 0
BlockLoadLeft size address count values old new (fault.Dmi why) = Unit {0}
BlockLoadLeft size address count values old new (fault.Memory at) = (length values < count) × (at ≡ element_at size address (length values))
    × WhereTold (BlockLoadRefused size address values) old new
BlockLoadLeft size address count values old new (fault.Register number) = old ≡ None
BlockLoadLeft size address count values old new fault.StillBusy = Unit {0}
BlockLoadLeft size address count values old new (fault.Run why) = ⊥
BlockLoadLeft size address count values old new (fault.Odd shown) = old ≡ None

abbrev pub BlockStoreLeft : Size → ℕ → ℕ → ℕ → Option Far → Option Far → AccessFault → Type 0
BlockStoreLeft size address count value old new (fault.Dmi why) = Unit {0}
BlockStoreLeft size address count value old new (fault.Memory at) = (done : ℕ) × (done < count) × (at ≡ element_at size address done)
    × WhereTold (BlockStoreRefused size address value done) old new
BlockStoreLeft size address count value old new (fault.Register number) = old ≡ None
BlockStoreLeft size address count value old new fault.StillBusy = Unit {0}
BlockStoreLeft size address count value old new (fault.Run why) = ⊥
BlockStoreLeft size address count value old new (fault.Odd shown) = old ≡ None
