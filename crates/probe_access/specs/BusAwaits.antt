-- The calls of accesses by the system bus in a row, each of which is awaited before the next is asked for. The address rises behind each.
-- RISC-V Debug Specification 1.0, "System Bus Access Control and Status" (sbbusy, sbautoincrement, sbreadondata).
use Rattle.std.specs.Prelude.{◌≡◌, ◌<◌, ◌+◌, ℕ, List, [], ◌∷◌, length, false}
use Rattle.rv_model.specs.declared.size.Size.{Size}
use Rattle.debug_model.specs.Addresses.{sbcs_address}
use Rattle.debug_model.specs.declared.dmi.DmiFault.{DmiFault}
use Rattle.probe_access.specs.declared.fault.AccessFault.{AccessFault}
use Rattle.probe_access.specs.declared.fault.AccessFault.TheVariants as fault
use Rattle.probe_run.specs.Acts.{Did, Tells}
use Rattle.probe_run.specs.Acts.Act.{Put}
use Rattle.probe_access.specs.Blocks.{element_at, value_at}
use Rattle.probe_access.specs.BusRuns.{BusEndFailed, BusEnded, Starting}
use Rattle.probe_access.specs.BusStoreStreams.{element_puts, stores_started, upper_at}
use Rattle.probe_access.specs.BusStreams.{MoreRead, ReadingData, run_started, running}
use Rattle.probe_access.specs.Faults.{Among, BrokeIn}

-- ---- stores

-- an element's words of the data were written, and the store that they started ended without an error
pub record StoredNext (upper value : ℕ) (old new : Tells) : Type 0 where
  pub asked : Tells
  pub put : Did old (element_puts upper value) asked
  pub ends : BusEnded asked new

-- by which call failed, where it was of this address
pub data StoreNextFailed (upper value at old_count new_count : ℕ) (old new : Tells) (e : AccessFault) : Type 0 where
  in_put : (why : DmiFault) → e ≡ fault.Dmi why → BrokeIn (Among (Starting (element_puts upper value))) old_count new_count old new.far why
      → StoreNextFailed upper value at old_count new_count old new e
  in_end : (asked : Tells) → Did old (element_puts upper value) asked → BusEndFailed at old_count new_count asked new e
      → StoreNextFailed upper value at old_count new_count old new e

-- with so many in front, the elements up to a number were stored, each awaited before the next
pub data StoresAwaited (size : Size) (address : ℕ) (values : List ℕ) (from : ℕ) (old : Tells) : ℕ → Tells → Type 0 where
  begun : (new : Tells) → Did old (stores_started size (element_at size address from) (upper_at values from)) new
      → StoresAwaited size address values from old from new
  next : (n : ℕ) (mid new : Tells) → StoresAwaited size address values from old n mid → StoredNext (upper_at values n) (value_at values n) mid new
      → StoresAwaited size address values from old (n + 1) new

-- the elements in front were stored, and then it failed
pub data AwaitedStoresFailed (size : Size) (address : ℕ) (values : List ℕ) (from count old_count new_count : ℕ) (old new : Tells) (e : AccessFault)
    : Type 0 where
  in_start : (why : DmiFault) → e ≡ fault.Dmi why
      → BrokeIn (Starting (stores_started size (element_at size address from) (upper_at values from))) old_count new_count old new.far why
      → AwaitedStoresFailed size address values from count old_count new_count old new e
  in_next : (n : ℕ) (mid : Tells) → n < count → StoresAwaited size address values from old n mid
      → StoreNextFailed (upper_at values n) (value_at values n) (element_at size address n) old_count new_count mid new e
      → AwaitedStoresFailed size address values from count old_count new_count old new e

-- ---- loads

-- an access ended without an error, and its words were read, which started the next
pub record LoadedNext (size : Size) (was is : List ℕ) (old new : Tells) : Type 0 where
  pub ended : Tells
  pub ends : BusEnded old ended
  pub read : MoreRead size 1 was is ended new

pub data LoadNextFailed (at old_count new_count : ℕ) (old new : Tells) (e : AccessFault) : Type 0 where
  in_end : BusEndFailed at old_count new_count old new e → LoadNextFailed at old_count new_count old new e
  in_words : (ended : Tells) → BusEnded old ended → (why : DmiFault) → e ≡ fault.Dmi why
      → BrokeIn (Among (ReadingData 1)) old_count new_count ended new.far why → LoadNextFailed at old_count new_count old new e

-- the last one's were read behind the end of sbreadondata, and started none
pub record LoadedLast (size : Size) (was is : List ℕ) (old new : Tells) : Type 0 where
  pub ended : Tells
  pub ends : BusEnded old ended
  pub stopped : Tells
  pub stops : Did ended (Put sbcs_address (running false size) ∷ []) stopped
  pub read : MoreRead size 1 was is stopped new

pub data LoadLastFailed (size : Size) (at old_count new_count : ℕ) (old new : Tells) (e : AccessFault) : Type 0 where
  in_end : BusEndFailed at old_count new_count old new e → LoadLastFailed size at old_count new_count old new e
  in_stop : (ended : Tells) → BusEnded old ended → (why : DmiFault) → e ≡ fault.Dmi why
      → BrokeIn (Starting (Put sbcs_address (running false size) ∷ [])) old_count new_count ended new.far why
      → LoadLastFailed size at old_count new_count old new e
  in_words : (ended stopped : Tells) → BusEnded old ended → Did ended (Put sbcs_address (running false size) ∷ []) stopped → (why : DmiFault)
      → e ≡ fault.Dmi why → BrokeIn (Among (ReadingData 1)) old_count new_count stopped new.far why
      → LoadLastFailed size at old_count new_count old new e

-- with these in front, all these were read, each awaited before its words were read, and the access of the next was started
pub data LoadsAwaited (size : Size) (address : ℕ) (was : List ℕ) (old : Tells) : List ℕ → Tells → Type 0 where
  begun : (new : Tells) → Did old (run_started size (element_at size address (length was))) new → LoadsAwaited size address was old was new
  next : (values more : List ℕ) (mid new : Tells) → LoadsAwaited size address was old values mid → LoadedNext size values more mid new
      → LoadsAwaited size address was old more new

-- up to the last of the block
pub record AllAwaited (size : Size) (address count : ℕ) (was is : List ℕ) (old new : Tells) : Type 0 where
  pub front : List ℕ
  pub mid : Tells
  pub all : length front + 1 ≡ count
  pub awaited : LoadsAwaited size address was old front mid
  pub last : LoadedLast size front is mid new

-- it failed when these had been read
pub data AwaitedLoadsFailed (size : Size) (address count : ℕ) (was is : List ℕ) (old_count new_count : ℕ) (old new : Tells) (e : AccessFault) : Type 0 where
  in_start : (why : DmiFault) → e ≡ fault.Dmi why → is ≡ was
      → BrokeIn (Starting (run_started size (element_at size address (length was)))) old_count new_count old new.far why
      → AwaitedLoadsFailed size address count was is old_count new_count old new e
  in_next : (mid : Tells) → length is + 1 < count → LoadsAwaited size address was old is mid
      → LoadNextFailed (element_at size address (length is)) old_count new_count mid new e
      → AwaitedLoadsFailed size address count was is old_count new_count old new e
  in_last : (mid : Tells) → length is + 1 ≡ count → LoadsAwaited size address was old is mid
      → LoadLastFailed size (element_at size address (length is)) old_count new_count mid new e
      → AwaitedLoadsFailed size address count was is old_count new_count old new e
