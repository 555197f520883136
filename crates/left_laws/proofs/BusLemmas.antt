-- What accesses to memory by the system bus leave, by their own words.
use Rattle.std.proofs.Common.{[], ◌∷◌, ◌≡◌, ◌∙◌, ◌<◌, ◌≤◌, ◌++◌, ℕ, true, List, Option, Ok, Err, refl, ap, arith}
use Rattle.rv_model.specs.declared.size.Size.{Size}
use Rattle.rv_model.specs.Memory.{after_store}
use Rattle.rv_model.specs.Size.{count_of}
use Rattle.debug_model.specs.Module.{Site}
use Rattle.debug_model.specs.Scan.{WhereTold}
use Rattle.debug_model.specs.Told.{Far, site_of}
use Rattle.probe_run.specs.Happens.{target_of}
use Rattle.probe_access.specs.declared.fault.AccessFault.{AccessFault}
use Rattle.probe_access.specs.declared.fault.AccessFault.TheVariants as fault
use Rattle.probe_access.specs.Accesses.{BusLoadRefused, BusStoreRefused, LoadRefusedBy, LoadedBy, OneBusAccess, StoreRefusedBy, StoredBy, unchanged}
use Rattle.probe_access.specs.BusBlocks.{
  BusBlockLoadCut,
  BusBlockLoadLeft,
  BusBlockLoadRefused,
  BusBlockLoadedAt,
  BusBlockStoreCut,
  BusBlockStoreLeft,
  BusBlockStoreRefused,
  BusBlockStoredAt,
  BusLoadedEach,
  BusStoredEach,
}
use Rattle.probe_access.specs.Cuts as cuts
use Rattle.probe_access.specs.Cuts.{BusLeftOff, IfCut, Leaves}
use Rattle.left_laws.specs.Left.{Block, IsElement, Scope}
use Rattle.left_laws.specs.Left.Spared.{Nothing}
use Rattle.left_laws.specs.BusLaws.{BusLoadBlockLeaves, BusLoadLeaves, BusStoreBlockLeaves, BusStoreLeaves}
use Rattle.left_laws.specs.MemoryLaws.{cut_loses}
use Rattle.left_laws.specs.Scopes.{reading, storing}
use Rattle.left_laws.proofs.AccessLemmas.{access_kept, element, one_element}
use Rattle.left_laws.proofs.Leads.{Led, led_left, led_stays, led_then, led_turns}
use Rattle.left_laws.proofs.Puts.{led_accessed, led_store, stored_in}
use Rattle.left_laws.proofs.SiteLeads.{Left, behind_access, leaves_left, told_left, untold_left, whole}

-- ---- one access

pub read_led : (s : Scope) (before behind : List ℕ) (a b : Site) → s.accesses ≡ true → OneBusAccess unchanged before behind a b
    → Led s (target_of a) (target_of b)
read_led s before behind a b may o = led_accessed s before behind (target_of a) (target_of b) may o.board o.journal

pub store_led : (s : Scope) (size : Size) (address value : ℕ) (before behind : List ℕ) (a b : Site) (block : Block) → s.accesses ≡ true → s.stores ≡ block ∷ []
    → IsElement block address (count_of size) value → OneBusAccess (λ m. after_store m address size value) before behind a b → Led s (target_of a) (target_of b)
store_led s size address value before behind a b block may stores is o =
    led_store s size address value before behind (target_of a) (target_of b) may (stored_in s address (count_of size) value block stores is) o.board o.journal

pub load_off : (s : Scope) (a b : Site) → s.accesses ≡ true → BusLeftOff cuts.LoadLeaves a b → Led s (target_of a) (target_of b)
load_off s a b may (BusLeftOff.before_it l) = led_turns s l.harts (target_of a) (target_of b) l.board l.journal
load_off s a b may (BusLeftOff.behind_it l) =
    led_accessed s l.before l.behind (target_of a) (target_of b) may
    (l.board ∙ ap (λ n. (behind_access l.before l.behind n a).board) l.made) l.journal

pub store_off : (s : Scope) (size : Size) (address value : ℕ) (block : Block) (a b : Site) → s.accesses ≡ true → s.stores ≡ block ∷ []
    → IsElement block address (count_of size) value → BusLeftOff (cuts.StoreLeaves size address value) a b → Led s (target_of a) (target_of b)
store_off s size address value block a b may stores is (BusLeftOff.before_it l) = led_turns s l.harts (target_of a) (target_of b) l.board l.journal
store_off s size address value block a b may stores is (BusLeftOff.behind_it l) =
    led_store s size address value l.before l.behind (target_of a) (target_of b) may (stored_in s address (count_of size) value block stores is)
    (l.board ∙ ap (λ n. (behind_access l.before l.behind n a).board) l.made) l.journal

-- ---- elements, one after the other

loads_led : (size : Size) (address : ℕ) (a : Site) (values : List ℕ) (b : Site) → BusLoadedEach size address a values b
    → Led (reading true) (target_of a) (target_of b)
loads_led size address a values b BusLoadedEach.nothing = led_stays (reading true) (target_of a)
loads_led size address a values b (BusLoadedEach.further earlier value m t each one) =
    led_then (reading true) (target_of a) (target_of m) (target_of t) (loads_led size address a earlier m each)
    (read_led (reading true) one.before one.behind m t refl one.access)

abbrev block : Size → ℕ → ℕ → ℕ → Block
block size address value count = record { size = size; address = address; value = value; count = count }

stores_led : (size : Size) (address value count : ℕ) (a : Site) (n : ℕ) (b : Site) → BusStoredEach size address value a n b → n ≤ count
    → Led (storing size address value count) (target_of a) (target_of b)
stores_led size address value count a n b BusStoredEach.nothing few = led_stays (storing size address value count) (target_of a)
stores_led size address value count a n b (BusStoredEach.further k m t each one) few =
    let s : Scope = storing size address value count in
    led_then s (target_of a) (target_of m) (target_of t) (stores_led size address value count a k m each (omega arith))
    (store_led s size _ value one.before one.behind m t (block size address value count) refl refl
    (element (block size address value count) k (omega arith)) one.access)

-- ---- of a told chip

-- where nothing is lost whatever the fault
pub none_lost : (s : Scope) (x y : Option Far) (e : AccessFault) → Left s (cut_loses Nothing e) x y → Left s Nothing x y
none_lost s x y (fault.Dmi why) l = l
none_lost s x y (fault.Memory at) l = l
none_lost s x y (fault.Register number) l = l
none_lost s x y fault.StillBusy l = l
none_lost s x y (fault.Run why) l = l
none_lost s x y (fault.Odd shown) l = l

pub broke : (s : Scope) (R : Site → Site → Type 0) (x y : Option Far) → ((a b : Site) → R a b → Led s (target_of a) (target_of b))
    → Leaves R x y → Left s Nothing x y
broke s R x y to c =
    leaves_left s Nothing R x y (λ f g is l. led_left s Nothing (target_of (site_of f)) (target_of (site_of g)) (to (site_of f) (site_of g) l)) c

pub bus_load_leaves : BusLoadLeaves
bus_load_leaves size address old new (Ok value) loaded left cut =
    told_left (reading true) Nothing (LoadedBy OneBusAccess size address value) old.far new.far
    (λ f is r. whole (reading true) f r.far new.far r.is (read_led (reading true) r.before r.behind (site_of f) (site_of r.far) refl r.access)) loaded
bus_load_leaves size address old new (Err e) loaded left cut =
    let s : Scope = reading true in
    none_lost s old.far new.far e
    (access_kept s Nothing (BusLoadRefused size address) (BusLeftOff cuts.LoadLeaves) address old.far new.far e
    (λ w. told_left s Nothing (LoadRefusedBy OneBusAccess size address) old.far new.far
    (λ f is r. whole s f r.far new.far r.is (read_led s r.before r.behind (site_of f) (site_of r.far) refl r.access)) w)
    (λ c. broke s (BusLeftOff cuts.LoadLeaves) old.far new.far (λ a b l. load_off s a b refl l) c)
    left cut)

pub bus_store_leaves : BusStoreLeaves
bus_store_leaves size address value old new (Ok done) stored left cut =
    let s : Scope = storing size address value 1 in
    told_left s Nothing (StoredBy OneBusAccess size address value) old.far new.far
    (λ f is r. whole s f r.far new.far r.is
    (store_led s size address value r.before r.behind (site_of f) (site_of r.far) (block size address value 1) refl refl (one_element size address value)
    r.access)) stored
bus_store_leaves size address value old new (Err e) stored left cut =
    let s : Scope = storing size address value 1 in
    none_lost s old.far new.far e
    (access_kept s Nothing (BusStoreRefused size address) (BusLeftOff (cuts.StoreLeaves size address value)) address old.far new.far e
    (λ w. told_left s Nothing (StoreRefusedBy OneBusAccess size address) old.far new.far
    (λ f is r. whole s f r.far new.far r.is (read_led s r.before r.behind (site_of f) (site_of r.far) refl r.access)) w)
    (λ c. broke s (BusLeftOff (cuts.StoreLeaves size address value)) old.far new.far
    (λ a b l. store_off s size address value (block size address value 1) a b refl refl (one_element size address value) l) c)
    left cut)

load_block_off : (size : Size) (address count : ℕ) (values : List ℕ) (a b : Site) → BusBlockLoadCut size address count values a b
    → Led (reading true) (target_of a) (target_of b)
load_block_off size address count values a b c =
    led_then (reading true) (target_of a) (target_of c.mid) (target_of b) (loads_led size address a (values ++ c.more) c.mid c.each)
    (load_off (reading true) c.mid b refl c.left)

store_block_off : (size : Size) (address value count : ℕ) (a b : Site) → BusBlockStoreCut size address value count a b
    → Led (storing size address value count) (target_of a) (target_of b)
store_block_off size address value count a b c =
    let s : Scope = storing size address value count in
    let below : c.done < count = c.below in
    led_then s (target_of a) (target_of c.mid) (target_of b) (stores_led size address value count a c.done c.mid c.each (omega arith))
    (store_off s size _ value (block size address value count) c.mid b refl refl (element (block size address value count) c.done below) c.left)

load_block_kept : (size : Size) (address count : ℕ) (values : List ℕ) (x y : Option Far) (e : AccessFault)
    → BusBlockLoadLeft size address count values x y e → IfCut (Leaves (BusBlockLoadCut size address count values) x y) e → Left (reading true) Nothing x y
load_block_kept size address count values x y (fault.Dmi why) left cut =
    broke (reading true) (BusBlockLoadCut size address count values) x y (load_block_off size address count values) cut
load_block_kept size address count values x y (fault.Memory at) left cut =
    told_left (reading true) Nothing (BusBlockLoadRefused size address values) x y
    (λ f is r. whole (reading true) f r.far y r.is
    (led_then (reading true) (target_of (site_of f)) (target_of r.mid) (target_of (site_of r.far)) (loads_led size address (site_of f) values r.mid r.each)
    (read_led (reading true) r.refused.before r.refused.behind r.mid (site_of r.far) refl r.refused.access))) left.2
load_block_kept size address count values x y (fault.Register number) left cut = untold_left (reading true) Nothing x y left
load_block_kept size address count values x y fault.StillBusy left cut =
    broke (reading true) (BusBlockLoadCut size address count values) x y (load_block_off size address count values) cut
load_block_kept size address count values x y (fault.Run why) left cut = absurd left
load_block_kept size address count values x y (fault.Odd shown) left cut = untold_left (reading true) Nothing x y left

pub bus_load_block_leaves : BusLoadBlockLeaves
bus_load_block_leaves size address count into old new (Ok done) loaded left cut =
    told_left (reading true) Nothing (BusBlockLoadedAt size address into) old.far new.far
    (λ f is r. whole (reading true) f r.far new.far r.is (loads_led size address (site_of f) into (site_of r.far) r.each)) loaded
bus_load_block_leaves size address count into old new (Err e) loaded left cut = load_block_kept size address count into old.far new.far e left cut

store_refused : (size : Size) (address value count done : ℕ) (x y : Option Far) → done < count → WhereTold (BusBlockStoreRefused size address value done) x y
    → Left (storing size address value count) Nothing x y
store_refused size address value count done x y below w =
    told_left (storing size address value count) Nothing (BusBlockStoreRefused size address value done) x y
    (λ f is r. let s : Scope = storing size address value count in whole s f r.far y r.is
    (led_then s (target_of (site_of f)) (target_of r.mid) (target_of (site_of r.far))
    (stores_led size address value count (site_of f) done r.mid r.each (omega arith))
    (read_led s r.refused.before r.refused.behind r.mid (site_of r.far) refl r.refused.access))) w

store_block_kept : (size : Size) (address count value : ℕ) (x y : Option Far) (e : AccessFault)
    → BusBlockStoreLeft size address count value x y e → IfCut (Leaves (BusBlockStoreCut size address value count) x y) e
    → Left (storing size address value count) Nothing x y
store_block_kept size address count value x y (fault.Dmi why) left cut =
    broke (storing size address value count) (BusBlockStoreCut size address value count) x y (store_block_off size address value count) cut
store_block_kept size address count value x y (fault.Memory at) left cut = store_refused size address value count left.0 x y left.1 left.3
store_block_kept size address count value x y (fault.Register number) left cut = untold_left (storing size address value count) Nothing x y left
store_block_kept size address count value x y fault.StillBusy left cut =
    broke (storing size address value count) (BusBlockStoreCut size address value count) x y (store_block_off size address value count) cut
store_block_kept size address count value x y (fault.Run why) left cut = absurd left
store_block_kept size address count value x y (fault.Odd shown) left cut = untold_left (storing size address value count) Nothing x y left

pub bus_store_block_leaves : BusStoreBlockLeaves
bus_store_block_leaves size address count value old new (Ok done) stored left cut =
    told_left (storing size address value count) Nothing (BusBlockStoredAt size address value count) old.far new.far
    (λ f is r. whole (storing size address value count) f r.far new.far r.is
    (stores_led size address value count (site_of f) count (site_of r.far) r.each (omega arith))) stored
bus_store_block_leaves size address count value old new (Err e) stored left cut = store_block_kept size address count value old.far new.far e left cut
