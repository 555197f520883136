-- What single accesses to memory by a halted hart leave, by their own words.
use Rattle.std.proofs.Common.{[], ◌∷◌, ◌≡◌, ◌+◌, ◌*◌, ◌<◌, ℕ, true, List, Option, Ok, Err, refl, ap, arith}
use Rattle.rv_model.specs.declared.size.Size.{Size}
use Rattle.rv_model.specs.Board.{Hart}
use Rattle.rv_model.specs.Memory.{after_store}
use Rattle.rv_model.specs.Size.{count_of}
use Rattle.debug_model.specs.Chip.{Chip}
use Rattle.debug_model.specs.Module.{Site}
use Rattle.debug_model.specs.Scan.{WhereTold}
use Rattle.debug_model.specs.Told.{Far, site_of}
use Rattle.abstract_debugger.specs.Laws.{IsFrozenAt}
use Rattle.probe_run.specs.Happens.{target_of}
use Rattle.probe_access.specs.declared.fault.AccessFault.{AccessFault}
use Rattle.probe_access.specs.declared.fault.AccessFault.TheVariants as fault
use Rattle.probe_access.specs.Accesses.{AccessLeft, LoadRefused, LoadRefusedBy, LoadedBy, OneAccess, StoreRefused, StoreRefusedBy, StoredBy, unchanged}
use Rattle.probe_access.specs.Cuts as cuts
use Rattle.probe_access.specs.Cuts.{AccessLeftOff, IfCut, LeftAside, Leaves, Scratched}
use Rattle.probe_access.specs.Cuts.AccessLeftOff.{before_it, behind_it}
use Rattle.left_laws.specs.Left.{Block, IsElement, LeftBut, Scope, Spared, scratch, wiped_core}
use Rattle.left_laws.specs.Left.Spared.{Nothing, Registers}
use Rattle.left_laws.specs.MemoryLaws.{LoadLeaves, StoreLeaves, cut_loses}
use Rattle.left_laws.specs.Scopes.{reading, storing}
use Rattle.left_laws.proofs.Leads.{Led}
use Rattle.left_laws.proofs.Puts.{led_accessed, led_store, stored_in}
use Rattle.left_laws.proofs.RegisterLemmas.{ScratchAlone, alone_both}
use Rattle.left_laws.proofs.SiteLeads.{Left, behind_access, behind_lost, leaves_left, lost_put, served, told_left, untold_left, whole}

-- ---- an access that is whole

pub read_led : (s : Scope) (before behind : List ℕ) (a b : Site) → s.accesses ≡ true → OneAccess unchanged before behind a b
    → Led s (target_of a) (target_of b)
read_led s before behind a b may o = led_accessed s before behind (target_of a) (target_of b) may o.board o.journal

pub element : (b : Block) (place : ℕ) → place < b.count → IsElement b (b.address + place * count_of b.size) (count_of b.size) b.value
element b place within = record { place = place; within = within; address_is = refl; count_is = refl; value_is = refl }

pub one_element : (size : Size) (address value : ℕ)
    → IsElement (record { size = size; address = address; value = value; count = 1 }) address (count_of size) value
one_element size address value = record { place = 0; within = omega arith; address_is = omega arith; count_is = refl; value_is = refl }

pub store_led : (s : Scope) (size : Size) (address value : ℕ) (before behind : List ℕ) (a b : Site) → s.accesses ≡ true
    → (block : Block) → s.stores ≡ block ∷ [] → IsElement block address (count_of size) value
    → OneAccess (λ m. after_store m address size value) before behind a b → Led s (target_of a) (target_of b)
store_led s size address value before behind a b may block stores is o =
    led_store s size address value before behind (target_of a) (target_of b) may (stored_in s address (count_of size) value block stores is) o.board o.journal

-- ---- one that broke off

scratched_alone : (x y : Hart) → Scratched x y → ScratchAlone x y
scratched_alone x y k = alone_both x y k.x8 k.x9 k.is

loses : (x y : Hart) → Scratched x y → (y.debug ≡ x.debug) × (wiped_core scratch y.core ≡ wiped_core scratch x.core)
loses x y k = let a : ScratchAlone x y = scratched_alone x y k in (a.debug, a.core)

pub aside_lost : (s : Scope) (h : ℕ) (a b : Site) → IsFrozenAt h a.board → LeftAside Scratched h a b
    → LeftBut s (Registers h scratch) (target_of a) (target_of b)
aside_lost s h a b frozen l =
    let k : ScratchAlone l.hart l.left = scratched_alone l.hart l.left l.one in
    lost_put s h scratch l.harts l.hart l.left a (target_of b) frozen l.here k.debug k.core l.board l.journal

pub load_off : (h : ℕ) (a b : Site) → IsFrozenAt h a.board → AccessLeftOff Scratched cuts.LoadLeaves h a b
    → LeftBut (reading true) (Registers h scratch) (target_of a) (target_of b)
load_off h a b frozen (before_it l) = aside_lost (reading true) h a b frozen l
load_off h a b frozen (behind_it l) =
    behind_lost (reading true) Scratched cuts.LoadLeaves h scratch a b frozen loses
    (λ before behind m is. led_accessed (reading true) before behind (target_of a) (behind_access before behind m a) refl
    (ap (λ n. (behind_access before behind n a).board) is) refl) l

pub store_off : (s : Scope) (size : Size) (address value h : ℕ) (block : Block) (a b : Site) → s.accesses ≡ true → s.stores ≡ block ∷ []
    → IsElement block address (count_of size) value → IsFrozenAt h a.board → AccessLeftOff Scratched (cuts.StoreLeaves size address value) h a b
    → LeftBut s (Registers h scratch) (target_of a) (target_of b)
store_off s size address value h block a b may stores is frozen (before_it l) = aside_lost s h a b frozen l
store_off s size address value h block a b may stores is frozen (behind_it l) =
    behind_lost s Scratched (cuts.StoreLeaves size address value) h scratch a b frozen loses
    (λ before behind m made. led_store s size address value before behind (target_of a) (behind_access before behind m a) may
    (stored_in s address (count_of size) value block stores is) (ap (λ n. (behind_access before behind n a).board) made) refl) l

-- ---- of a told chip, by the fault

pub access_kept : (s : Scope) (lost : Spared) (R : Chip → Option Far → Type 0) (C : Site → Site → Type 0) (address : ℕ) (x y : Option Far) (e : AccessFault)
    → (WhereTold R x y → Left s Nothing x y) → (Leaves C x y → Left s lost x y) → AccessLeft R address x y e → IfCut (Leaves C x y) e
    → Left s (cut_loses lost e) x y
access_kept s lost R C address x y (fault.Dmi why) refused broke left cut = broke cut
access_kept s lost R C address x y (fault.Memory at) refused broke left cut = refused left.1
access_kept s lost R C address x y (fault.Register number) refused broke left cut = untold_left s Nothing x y left
access_kept s lost R C address x y fault.StillBusy refused broke left cut = broke cut
access_kept s lost R C address x y (fault.Run why) refused broke left cut = absurd left
access_kept s lost R C address x y (fault.Odd shown) refused broke left cut = untold_left s Nothing x y left

pub load_leaves : LoadLeaves
load_leaves h size address old new (Ok value) serving loaded left cut =
    told_left (reading true) Nothing (LoadedBy OneAccess size address value) old.far new.far
    (λ f is r. whole (reading true) f r.far new.far r.is (read_led (reading true) r.before r.behind (site_of f) (site_of r.far) refl r.access)) loaded
load_leaves h size address old new (Err e) serving loaded left cut =
    access_kept (reading true) (Registers h scratch) (LoadRefused size address) (AccessLeftOff Scratched cuts.LoadLeaves h) address old.far new.far e
    (λ w. told_left (reading true) Nothing (LoadRefusedBy OneAccess size address) old.far new.far
    (λ f is r. whole (reading true) f r.far new.far r.is (read_led (reading true) r.before r.behind (site_of f) (site_of r.far) refl r.access)) w)
    (λ c. leaves_left (reading true) (Registers h scratch) (AccessLeftOff Scratched cuts.LoadLeaves h) old.far new.far
    (λ f g is l. load_off h (site_of f) (site_of g) (served h old.far f serving is) l) c)
    left cut

abbrev pub one_block : Size → ℕ → ℕ → Block
one_block size address value = record { size = size; address = address; value = value; count = 1 }

pub store_leaves : StoreLeaves
store_leaves h size address value old new (Ok done) serving stored left cut =
    told_left (storing size address value 1) Nothing (StoredBy OneAccess size address value) old.far new.far
    (λ f is r. whole (storing size address value 1) f r.far new.far r.is
    (store_led (storing size address value 1) size address value r.before r.behind (site_of f) (site_of r.far) refl (one_block size address value) refl
    (one_element size address value) r.access)) stored
store_leaves h size address value old new (Err e) serving stored left cut =
    let s : Scope = storing size address value 1 in
    access_kept s (Registers h scratch) (StoreRefused size address) (AccessLeftOff Scratched (cuts.StoreLeaves size address value) h) address old.far new.far e
    (λ w. told_left s Nothing (StoreRefusedBy OneAccess size address) old.far new.far
    (λ f is r. whole s f r.far new.far r.is (read_led s r.before r.behind (site_of f) (site_of r.far) refl r.access)) w)
    (λ c. leaves_left s (Registers h scratch) (AccessLeftOff Scratched (cuts.StoreLeaves size address value) h) old.far new.far
    (λ f g is l. store_off s size address value h (one_block size address value) (site_of f) (site_of g) refl refl (one_element size address value)
    (served h old.far f serving is) l) c)
    left cut
