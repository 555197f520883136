-- What blocks of accesses to memory by a halted hart leave, by their own words.
use Rattle.std.proofs.Common.{◌∙◌, ◌<◌, ◌≤◌, ◌++◌, ℕ, true, List, Option, Ok, Err, slice_get, refl, ap}
use Rattle.std.proofs.Common.{arith}
use Rattle.rv_model.specs.declared.size.Size.{Size}
use Rattle.rv_model.specs.Board.{Board}
use Rattle.rv_model.specs.Memory.{Memory}
use Rattle.debug_model.specs.Module.{Site}
use Rattle.debug_model.specs.Scan.{WhereTold}
use Rattle.debug_model.specs.Told.{Far, site_of}
use Rattle.abstract_debugger.specs.Laws.{IsFrozenAt}
use Rattle.abstract_debugger.specs.Turns.{after_turns}
use Rattle.probe_run.specs.Happens.{target_of}
use Rattle.probe_run.specs.Told.{Serving}
use Rattle.probe_access.specs.declared.fault.AccessFault.{AccessFault}
use Rattle.probe_access.specs.declared.fault.AccessFault.TheVariants as fault
use Rattle.probe_access.specs.Accesses.{OneAccess}
use Rattle.probe_access.specs.BlockCuts.{BlockLoadCut, BlockStoreCut}
use Rattle.probe_access.specs.Blocks.{BlockLoadLeft, BlockLoadRefused, BlockLoadedAt, BlockStoreLeft, BlockStoreRefused, BlockStoredAt, LoadedEach, StoredEach}
use Rattle.probe_access.specs.Cuts.{IfCut, Leaves}
use Rattle.left_laws.specs.Left.{Block, LeftBut, Scope, scratch}
use Rattle.left_laws.specs.Left.Spared.{Nothing, Registers}
use Rattle.left_laws.specs.MemoryLaws.{LoadBlockLeaves, StoreBlockLeaves, cut_loses}
use Rattle.left_laws.specs.Scopes.{reading, storing}
use Rattle.left_laws.proofs.Leads.{Led, led_but, led_stays, led_then}
use Rattle.left_laws.proofs.PathLemmas.{frozen_along}
use Rattle.left_laws.proofs.Puts.{stays_between}
use Rattle.left_laws.proofs.AccessLemmas.{aside_lost, element, load_off, read_led, store_led, store_off}
use Rattle.left_laws.proofs.SiteLeads.{Left, leaves_left, served, told_left, untold_left, whole}

-- ---- elements, one after the other

access_frozen : (h : ℕ) (m : Memory → Memory) (before behind : List ℕ) (a b : Site) → OneAccess m before behind a b
    → IsFrozenAt h a.board → IsFrozenAt h b.board
access_frozen h m before behind a b o frozen =
    frozen_along h a.board b.board
    (ap (λ (c : Board). slice_get c.harts h) o.board ∙ stays_between h before behind (m (after_turns before a.board).memory) a.board frozen) frozen

loads_led : (size : Size) (address : ℕ) (a : Site) (values : List ℕ) (b : Site) → LoadedEach size address a values b
    → Led (reading true) (target_of a) (target_of b)
loads_led size address a values b LoadedEach.nothing = led_stays (reading true) (target_of a)
loads_led size address a values b (LoadedEach.further earlier value m t each one) =
    led_then (reading true) (target_of a) (target_of m) (target_of t) (loads_led size address a earlier m each)
    (read_led (reading true) one.before one.behind m t refl one.access)

loads_frozen : (h : ℕ) (size : Size) (address : ℕ) (a : Site) (values : List ℕ) (b : Site) → LoadedEach size address a values b → IsFrozenAt h a.board
    → IsFrozenAt h b.board
loads_frozen h size address a values b LoadedEach.nothing frozen = frozen
loads_frozen h size address a values b (LoadedEach.further earlier value m t each one) frozen =
    access_frozen h _ one.before one.behind m t one.access (loads_frozen h size address a earlier m each frozen)

abbrev block : Size → ℕ → ℕ → ℕ → Block
block size address value count = record { size = size; address = address; value = value; count = count }

stores_led : (size : Size) (address value count : ℕ) (a : Site) (n : ℕ) (b : Site) → StoredEach size address value a n b → n ≤ count
    → Led (storing size address value count) (target_of a) (target_of b)
stores_led size address value count a n b StoredEach.nothing few = led_stays (storing size address value count) (target_of a)
stores_led size address value count a n b (StoredEach.further k m t each one) few =
    let s : Scope = storing size address value count in
    led_then s (target_of a) (target_of m) (target_of t) (stores_led size address value count a k m each (omega arith))
    (store_led s size _ value one.before one.behind m t refl (block size address value count) refl (element (block size address value count) k (omega arith))
    one.access)

stores_frozen : (h : ℕ) (size : Size) (address value : ℕ) (a : Site) (n : ℕ) (b : Site) → StoredEach size address value a n b → IsFrozenAt h a.board
    → IsFrozenAt h b.board
stores_frozen h size address value a n b StoredEach.nothing frozen = frozen
stores_frozen h size address value a n b (StoredEach.further k m t each one) frozen =
    access_frozen h _ one.before one.behind m t one.access (stores_frozen h size address value a k m each frozen)

-- ---- where they broke off

load_block_off : (size : Size) (address count : ℕ) (values : List ℕ) (h : ℕ) (a b : Site) → IsFrozenAt h a.board
    → BlockLoadCut size address count values h a b → LeftBut (reading true) (Registers h scratch) (target_of a) (target_of b)
load_block_off size address count values h a b frozen (BlockLoadCut.within more mid below each left) =
    led_but (reading true) (Registers h scratch) (target_of a) (target_of mid) (target_of b) (loads_led size address a (values ++ more) mid each)
    (load_off h mid b (loads_frozen h size address a (values ++ more) mid each frozen) left)
load_block_off size address count values h a b frozen (BlockLoadCut.behind more mid all each left) =
    led_but (reading true) (Registers h scratch) (target_of a) (target_of mid) (target_of b) (loads_led size address a (values ++ more) mid each)
    (aside_lost (reading true) h mid b (loads_frozen h size address a (values ++ more) mid each frozen) left)

store_block_off : (size : Size) (address value count h : ℕ) (a b : Site) → IsFrozenAt h a.board → BlockStoreCut size address value count h a b
    → LeftBut (storing size address value count) (Registers h scratch) (target_of a) (target_of b)
store_block_off size address value count h a b frozen (BlockStoreCut.within done mid below each left) =
    let s : Scope = storing size address value count in
    led_but s (Registers h scratch) (target_of a) (target_of mid) (target_of b) (stores_led size address value count a done mid each (omega arith))
    (store_off s size _ value h (block size address value count) mid b refl refl (element (block size address value count) done below)
    (stores_frozen h size address value a done mid each frozen) left)
store_block_off size address value count h a b frozen (BlockStoreCut.behind mid each left) =
    let s : Scope = storing size address value count in
    led_but s (Registers h scratch) (target_of a) (target_of mid) (target_of b) (stores_led size address value count a count mid each (omega arith))
    (aside_lost s h mid b (stores_frozen h size address value a count mid each frozen) left)

-- ---- of a told chip

load_refused : (size : Size) (address : ℕ) (values : List ℕ) (x y : Option Far) → WhereTold (BlockLoadRefused size address values) x y
    → Left (reading true) Nothing x y
load_refused size address values x y w =
    told_left (reading true) Nothing (BlockLoadRefused size address values) x y
    (λ f is r. whole (reading true) f r.far y r.is
    (led_then (reading true) (target_of (site_of f)) (target_of r.mid) (target_of (site_of r.far)) (loads_led size address (site_of f) values r.mid r.each)
    (read_led (reading true) r.refused.before r.refused.behind r.mid (site_of r.far) refl r.refused.access))) w

store_refused : (size : Size) (address value count done : ℕ) (x y : Option Far) → done < count → WhereTold (BlockStoreRefused size address value done) x y
    → Left (storing size address value count) Nothing x y
store_refused size address value count done x y below w =
    told_left (storing size address value count) Nothing (BlockStoreRefused size address value done) x y
    (λ f is r. let s : Scope = storing size address value count in whole s f r.far y r.is
    (led_then s (target_of (site_of f)) (target_of r.mid) (target_of (site_of r.far))
    (stores_led size address value count (site_of f) done r.mid r.each (omega arith))
    (read_led s r.refused.before r.refused.behind r.mid (site_of r.far) refl r.refused.access))) w

load_block_kept : (h : ℕ) (size : Size) (address count : ℕ) (values : List ℕ) (x y : Option Far) (e : AccessFault) → Serving h x
    → BlockLoadLeft size address count values x y e → IfCut (Leaves (BlockLoadCut size address count values h) x y) e
    → Left (reading true) (cut_loses (Registers h scratch) e) x y
load_block_kept h size address count values x y e serving left cut = by_fault e left cut
  where
    broke : Leaves (BlockLoadCut size address count values h) x y → Left (reading true) (Registers h scratch) x y
    broke c =
        leaves_left (reading true) (Registers h scratch) (BlockLoadCut size address count values h) x y
        (λ f g is l. load_block_off size address count values h (site_of f) (site_of g) (served h x f serving is) l) c

    by_fault : (e : AccessFault) → BlockLoadLeft size address count values x y e → IfCut (Leaves (BlockLoadCut size address count values h) x y) e
        → Left (reading true) (cut_loses (Registers h scratch) e) x y
    by_fault (fault.Dmi why) left cut = broke cut
    by_fault (fault.Memory at) left cut = load_refused size address values x y left.2
    by_fault (fault.Register number) left cut = untold_left (reading true) Nothing x y left
    by_fault fault.StillBusy left cut = broke cut
    by_fault (fault.Run why) left cut = absurd left
    by_fault (fault.Odd shown) left cut = untold_left (reading true) Nothing x y left

pub load_block_leaves : LoadBlockLeaves
load_block_leaves h size address count into old new (Ok done) serving loaded left cut =
    told_left (reading true) Nothing (BlockLoadedAt size address into) old.far new.far
    (λ f is r. whole (reading true) f r.far new.far r.is (loads_led size address (site_of f) into (site_of r.far) r.each)) loaded
load_block_leaves h size address count into old new (Err e) serving loaded left cut =
    load_block_kept h size address count into old.far new.far e serving left cut

store_block_kept : (h : ℕ) (size : Size) (address count value : ℕ) (x y : Option Far) (e : AccessFault) → Serving h x
    → BlockStoreLeft size address count value x y e → IfCut (Leaves (BlockStoreCut size address value count h) x y) e
    → Left (storing size address value count) (cut_loses (Registers h scratch) e) x y
store_block_kept h size address count value x y e serving left cut = by_fault e left cut
  where
    broke : Leaves (BlockStoreCut size address value count h) x y → Left (storing size address value count) (Registers h scratch) x y
    broke c =
        leaves_left (storing size address value count) (Registers h scratch) (BlockStoreCut size address value count h) x y
        (λ f g is l. store_block_off size address value count h (site_of f) (site_of g) (served h x f serving is) l) c

    by_fault : (e : AccessFault) → BlockStoreLeft size address count value x y e → IfCut (Leaves (BlockStoreCut size address value count h) x y) e
        → Left (storing size address value count) (cut_loses (Registers h scratch) e) x y
    by_fault (fault.Dmi why) left cut = broke cut
    by_fault (fault.Memory at) left cut = store_refused size address value count left.0 x y left.1 left.3
    by_fault (fault.Register number) left cut = untold_left (storing size address value count) Nothing x y left
    by_fault fault.StillBusy left cut = broke cut
    by_fault (fault.Run why) left cut = absurd left
    by_fault (fault.Odd shown) left cut = untold_left (storing size address value count) Nothing x y left

pub store_block_leaves : StoreBlockLeaves
store_block_leaves h size address count value old new (Ok done) serving stored left cut =
    told_left (storing size address value count) Nothing (BlockStoredAt size address value count) old.far new.far
    (λ f is r. whole (storing size address value count) f r.far new.far r.is
    (stores_led size address value count (site_of f) count (site_of r.far) r.each (omega arith))) stored
store_block_leaves h size address count value old new (Err e) serving stored left cut =
    store_block_kept h size address count value old.far new.far e serving left cut
