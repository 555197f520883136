-- The calls of accesses by the system bus that are awaited, one behind another.
use Rattle.std.proofs.Common.{◌≡◌, ◌∙◌, ◌≤◌, ◌+◌, ◌++◌, ℕ, List, [], ◌∷◌, length, Option, true, false, sym, ap, subst, length-append, arith}
use Rattle.rv_model.specs.declared.size.Size.{Size}
use Rattle.debug_model.specs.Addresses.{sbcs_address}
use Rattle.debug_model.specs.declared.dmi.DmiFault.{DmiFault}
use Rattle.debug_model.specs.Told.{Far}
use Rattle.probe_access.specs.declared.fault.AccessFault.{AccessFault}
use Rattle.probe_run.specs.Acts.{Did, Tells}
use Rattle.probe_run.specs.Acts.Act.{Put}
use Rattle.probe_access.specs.Blocks.{element_at, value_at}
use Rattle.probe_access.specs.BusAwaits.{LoadLastFailed, LoadNextFailed, LoadsAwaited, StoreNextFailed, StoredNext, StoresAwaited}
use Rattle.probe_access.specs.BusRuns.{Starting, addressed}
use Rattle.probe_access.specs.BusStoreStreams.{element_puts, stores_started, upper_at}
use Rattle.probe_access.specs.BusStreams.{MoreRead, ReadingData, run_started, running}
use Rattle.probe_access.specs.Faults.{Among, BrokeIn}
use Rattle.probe_access.proofs.BusPolls.{end_counted}
use Rattle.probe_access.proofs.RegisterCalls.{broke_counted}

-- ---- stores

store_counted : (upper value at count mid_count new_count : ℕ) (old new : Tells) (e : AccessFault) → count ≤ mid_count → mid_count ≤ new_count
    → StoreNextFailed upper value at mid_count new_count old new e → StoreNextFailed upper value at count new_count old new e
store_counted upper value at count mid_count new_count old new e le later (StoreNextFailed.in_put why is b) =
    StoreNextFailed.in_put why is
    (broke_counted (Among (Starting (element_puts upper value))) count mid_count new_count old new.far why le later b)
store_counted upper value at count mid_count new_count old new e le later (StoreNextFailed.in_end asked did f) =
    StoreNextFailed.in_end asked did (end_counted at count mid_count new_count asked new e le later f)

pub stores_begun : (size : Size) (address : ℕ) (values : List ℕ) (from at upper : ℕ) (old new : Tells) → at ≡ element_at size address from
    → upper ≡ upper_at values from → Did old (stores_started size at upper) new → StoresAwaited size address values from old from new
stores_begun size address values from at upper old new is own did =
    StoresAwaited.begun new
    (subst (λ u. Did old (stores_started size (element_at size address from) u) new) own (subst (λ a. Did old (stores_started size a upper) new) is did))

pub start_failed : (size : Size) (address : ℕ) (values : List ℕ) (from at upper old_count new_count : ℕ) (old : Tells) (told : Option Far) (why : DmiFault)
    → at ≡ element_at size address from → upper ≡ upper_at values from
    → BrokeIn (Starting (stores_started size at upper)) old_count new_count old told why
    → BrokeIn (Starting (stores_started size (element_at size address from) (upper_at values from))) old_count new_count old told why
start_failed size address values from at upper old_count new_count old told why is own b =
    subst (λ u. BrokeIn (Starting (stores_started size (element_at size address from) u)) old_count new_count old told why) own
    (subst (λ a. BrokeIn (Starting (stores_started size a upper)) old_count new_count old told why) is b)

pub stores_next : (size : Size) (address : ℕ) (values : List ℕ) (from n upper value : ℕ) (old mid new : Tells) → upper ≡ upper_at values n
    → value ≡ value_at values n → StoresAwaited size address values from old n mid → StoredNext upper value mid new
    → StoresAwaited size address values from old (n + 1) new
stores_next size address values from n upper value old mid new own is s one =
    StoresAwaited.next n mid new s (subst (λ v. StoredNext (upper_at values n) v mid new) is (subst (λ u. StoredNext u value mid new) own one))

pub store_failed_as : (upper upper' value value' at at' count mid_count new_count : ℕ) (old new : Tells) (e : AccessFault) → upper ≡ upper'
    → value ≡ value' → at ≡ at' → count ≤ mid_count → mid_count ≤ new_count → StoreNextFailed upper value at mid_count new_count old new e
    → StoreNextFailed upper' value' at' count new_count old new e
store_failed_as upper upper' value value' at at' count mid_count new_count old new e own is there le later f =
    subst (λ u. StoreNextFailed u value' at' count new_count old new e) own
    (subst (λ v. StoreNextFailed upper v at' count new_count old new e) is
    (subst (λ a. StoreNextFailed upper value a count new_count old new e) there
    (store_counted upper value at count mid_count new_count old new e le later f)))

-- ---- loads

pub next_counted : (at at' count mid_count new_count : ℕ) (old new : Tells) (e : AccessFault) → at ≡ at' → count ≤ mid_count → mid_count ≤ new_count
    → LoadNextFailed at mid_count new_count old new e → LoadNextFailed at' count new_count old new e
next_counted at at' count mid_count new_count old new e is le later (LoadNextFailed.in_end f) =
    subst (λ a. LoadNextFailed a count new_count old new e) is
    (LoadNextFailed.in_end (end_counted at count mid_count new_count old new e le later f))
next_counted at at' count mid_count new_count old new e is le later (LoadNextFailed.in_words ended ends why dmi b) =
    LoadNextFailed.in_words ended ends why dmi (broke_counted (Among (ReadingData 1)) count mid_count new_count ended new.far why le later b)

pub last_counted : (size : Size) (at at' count mid_count new_count : ℕ) (old new : Tells) (e : AccessFault) → at ≡ at' → count ≤ mid_count
    → mid_count ≤ new_count → LoadLastFailed size at mid_count new_count old new e → LoadLastFailed size at' count new_count old new e
last_counted size at at' count mid_count new_count old new e is le later (LoadLastFailed.in_end f) =
    subst (λ a. LoadLastFailed size a count new_count old new e) is
    (LoadLastFailed.in_end (end_counted at count mid_count new_count old new e le later f))
last_counted size at at' count mid_count new_count old new e is le later (LoadLastFailed.in_stop ended ends why dmi b) =
    LoadLastFailed.in_stop ended ends why dmi
    (broke_counted (Starting (Put sbcs_address (running false size) ∷ [])) count mid_count new_count ended new.far why le later b)
last_counted size at at' count mid_count new_count old new e is le later (LoadLastFailed.in_words ended stopped ends did why dmi b) =
    LoadLastFailed.in_words ended stopped ends did why dmi
    (broke_counted (Among (ReadingData 1)) count mid_count new_count stopped new.far why le later b)

pub loads_begun : (size : Size) (address at word : ℕ) (was : List ℕ) (old new : Tells) → word ≡ running true size
    → at ≡ element_at size address (length was) → Did old (addressed word at) new → LoadsAwaited size address was old was new
loads_begun size address at word was old new is there did =
    LoadsAwaited.begun new (subst (λ a. Did old (run_started size a) new) there (subst (λ w. Did old (addressed w at) new) is did))

pub start_as : (size : Size) (at at' word old_count new_count : ℕ) (old new : Tells) (why : DmiFault) → word ≡ running true size → at ≡ at'
    → BrokeIn (Starting (addressed word at)) old_count new_count old new.far why
    → BrokeIn (Starting (run_started size at')) old_count new_count old new.far why
start_as size at at' word old_count new_count old new why is there b =
    subst (λ a. BrokeIn (Starting (run_started size a)) old_count new_count old new.far why) there
    (subst (λ w. BrokeIn (Starting (addressed w at)) old_count new_count old new.far why) is b)

-- one more was read
pub read_longer : (size : Size) (was is : List ℕ) (old new : Tells) → MoreRead size 1 was is old new → length is ≡ length was + 1
read_longer size was is old new m =
    let j : length is ≡ length (was ++ m.values) = ap length m.joins in
    let e : length (was ++ m.values) ≡ length was + length m.values = length-append was m.values in
    let one : length m.values ≡ 1 = m.count in
    omega (arith, j, e, one)

pub place_of : (size : Size) (address number : ℕ) (values : List ℕ) (at : ℕ) → at ≡ element_at size address number → length values ≡ number
    → at ≡ element_at size address (length values)
place_of size address number values at is all = is ∙ ap (element_at size address) (sym all)
