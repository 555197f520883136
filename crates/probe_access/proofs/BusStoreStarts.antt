-- The start of a run of stores by the system bus at a told chip, and all that it asks for.
use Rattle.std.proofs.Common.{◌≡◌, ◌≤◌, ◌<◌, ◌+◌, ◌-◌, ◌*◌, ◌^◌, ◌%◌, ℕ, List, [], ◌∷◌, true, false, refl, sym, subst, arith}
use Rattle.rv_model.specs.declared.size.Size.{Size}
use Rattle.rv_model.specs.Memory.{is_aligned}
use Rattle.rv_model.specs.Size.{count_of}
use Rattle.debug_model.specs.Addresses.{sbaddress0_address, sbaddress1_address, sbcs_address, sbdata1_address}
use Rattle.debug_model.specs.Commands.{high_half, low_half}
use Rattle.debug_model.specs.Module.{Site}
use Rattle.debug_model.specs.SystemBus.{BusUnit}
use Rattle.debug_model.specs.Told.{SiteReady}
use Rattle.probe_run.specs.Acts.{Act}
use Rattle.probe_run.specs.Acts.Act.{Put}
use Rattle.probe_access.specs.Blocks.{element_at}
use Rattle.probe_access.specs.BusBlocks.{BusStoredValues}
use Rattle.probe_access.specs.BusBlocks.BusStoredValues.{nothing as none_stored}
use Rattle.probe_access.specs.BusStoreStreams.{data_puts, stores_asked, stores_started, storing, upper_at}
use Rattle.probe_access.proofs.Along.{SiteActs, Split, site_acts-split}
use Rattle.probe_access.proofs.BusSites.{AtBus, put_bus}
use Rattle.probe_access.proofs.BusSites.Writes.{to_sbaddress0, to_sbaddress1, to_sbcs, to_sbdata1}
use Rattle.probe_access.proofs.BusStoreSites.{Still}
use Rattle.probe_access.proofs.BusStoreUnits.{still_bus, store_high, store_low, store_set, store_upper, upper_is_set, upper_set}
use Rattle.probe_access.proofs.BusStreamEnds.{element_small}
use Rattle.probe_access.proofs.BusStreamOutcomes.{element_whole}
use Rattle.probe_access.proofs.BusStreamTold.{first_at}
use Rattle.probe_access.proofs.BusTold.{at_start, works_ready}
use Rattle.probe_access.proofs.BusUnits.{upper_put}
use Rattle.probe_access.proofs.BusStoreSteps.{Asked, puts_asked}

-- ---- the start

pub set_at : (size : Size) (s t : Site) → SiteReady s → SiteActs (Put sbcs_address (storing size) ∷ []) s t
    → AtBus (still_bus size s.unit.bus.address s.unit.bus.value false) s t
set_at size s t ready p =
    let u : BusUnit = s.unit.bus in
    put_bus sbcs_address (storing size) _ u (still_bus size u.address u.value false) s s t (to_sbcs (storing size)) (works_ready s ready) ready.unit.bus.idle
    (store_set size u ready.unit.bus) refl (at_start s) p

pub high_at : (size : Size) (address : ℕ) (s t : Site) → SiteReady s
    → SiteActs (Put sbcs_address (storing size) ∷ Put sbaddress1_address (high_half address) ∷ []) s t
    → AtBus (still_bus size (upper_put s.unit.bus.address address) s.unit.bus.value false) s t
high_at size address s t ready p =
    let u : BusUnit = s.unit.bus in
    put_bus sbaddress1_address (high_half address) _ (still_bus size u.address u.value false) (still_bus size (upper_put u.address address) u.value false) s
    p.0 t (to_sbaddress1 (high_half address)) (works_ready s ready) refl (store_high size u.address u.value address) refl
    (set_at size s p.0 ready (p.0, p.1, refl)) p.2

pub low_at : (size : Size) (address : ℕ) (s t : Site) → SiteReady s
    → SiteActs (Put sbcs_address (storing size) ∷ Put sbaddress1_address (high_half address) ∷ Put sbaddress0_address (low_half address) ∷ []) s t
    → AtBus (still_bus size address s.unit.bus.value false) s t
low_at size address s t ready p =
    let u : BusUnit = s.unit.bus in
    put_bus sbaddress0_address (low_half address) _ (still_bus size (upper_put u.address address) u.value false) (still_bus size address u.value false) s
    p.2.0 t (to_sbaddress0 (low_half address)) (works_ready s ready) refl (store_low size u.address u.value address) refl
    (high_at size address s p.2.0 ready (p.0, p.1, (p.2.0, p.2.1, refl))) p.2.2

-- so many were stored before, and the next one's address and an upper half are there
pub still_from : (size : Size) (address : ℕ) (values : List ℕ) (count upper : ℕ) (s : Site) (n : ℕ) (mid t : Site)
    → BusStoredValues size address values s n mid → SiteReady mid → address + count * count_of size ≤ 2 ^ 64 → n < count
    → AtBus (still_bus size (element_at size address n) (upper_set mid.unit.bus.value upper) false) mid t → Still size address values s false n upper t
still_from size address values count upper s n mid t each ready ends below at =
    let there : element_at size address n ≡ element_at size address n % 2 ^ 64 =
    element_whole size address n (element_small size address count n ends below) in
    record {
      mid = mid;
      each = each;
      ready = ready;
      held = upper_set mid.unit.bus.value upper;
      upper_is = upper_is_set mid.unit.bus.value upper;
      at = subst (λ a. AtBus (still_bus size a (upper_set mid.unit.bus.value upper) false) mid t) there at;
    }

pub none_asked : (size : Size) (address : ℕ) (values : List ℕ) (count upper : ℕ) (s t : Site) → SiteReady s → address + count * count_of size ≤ 2 ^ 64
    → 0 < count → AtBus (still_bus size address (upper_set s.unit.bus.value upper) false) s t → Asked size address values count s 0 upper t
none_asked size address values count upper s t ready ends some at =
    Asked.still (still_from size address values count upper s 0 s t none_stored ready ends some
    (subst (λ a. AtBus (still_bus size a (upper_set s.unit.bus.value upper) false) s t) (sym (first_at size address)) at))

pub started_at : (size : Size) (address upper : ℕ) (s t : Site) → SiteReady s → SiteActs (stores_started size address upper) s t
    → AtBus (still_bus size address (upper_set s.unit.bus.value upper) false) s t
started_at size address upper s t ready p =
    let u : BusUnit = s.unit.bus in
    let q = p.2.2 in
    put_bus sbdata1_address upper _ (still_bus size address u.value false) (still_bus size address (upper_set u.value upper) false) s q.0 t
    (to_sbdata1 upper) (works_ready s ready) refl (store_upper size address u.value upper false) refl
    (low_at size address s q.0 ready (p.0, p.1, (p.2.0, p.2.1, (q.0, q.1, refl)))) q.2

pub asked_first : (size : Size) (address : ℕ) (values : List ℕ) (count upper : ℕ) (s t : Site) → SiteReady s → address + count * count_of size ≤ 2 ^ 64
    → 0 < count → SiteActs (stores_started size address upper) s t → Asked size address values count s 0 upper t
asked_first size address values count upper s t ready ends some p =
    none_asked size address values count upper s t ready ends some (started_at size address upper s t ready p)

pub all_asked : (size : Size) (address : ℕ) (values : List ℕ) (count : ℕ) (s t : Site) → SiteReady s → is_aligned address size ≡ true
    → address + count * count_of size ≤ 2 ^ 64 → 0 < count → SiteActs (stores_asked size address values count) s t
    → Asked size address values count s count (upper_at values count) t
all_asked size address values count s t ready aligned ends some p =
    let begun : List Act = stores_started size address (upper_at values 0) in
    let split : Split begun (data_puts values 0 count) s t = site_acts-split begun (data_puts values 0 count) s t p in
    subst (λ k. Asked size address values count s k (upper_at values k) t) (let e : 0 + count ≡ count = omega arith in e)
    (puts_asked size address values count s 0 count split.mid t aligned ends (omega arith)
    (asked_first size address values count (upper_at values 0) s split.mid ready ends some split.first) split.rest)
