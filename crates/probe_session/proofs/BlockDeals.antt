-- Blocks of memory over a told chip, as steps of the abstract debugger's plan: an access for each element, one behind another.
use Rattle.std.proofs.Common.{◌≡◌, ◌∙◌, ◌≤◌, ◌<◌, ◌+◌, ◌++◌, ℕ, zero, suc, List, [], ◌∷◌, length, Ok, sym, subst, append_assoc}
use Rattle.std.proofs.Common.{append-nil, arith, replicate, take as first_of}
use Rattle.std.proofs.Math.Seq.{take-length}
use Rattle.std.proofs.lemmas.List.{get_or-replicate, length-replicate, take-replicate}
use Rattle.rv_model.specs.declared.size.Size.{Size}
use Rattle.rv_model.specs.Board.{Board, Machine}
use Rattle.rv_model.specs.Memory.{after_store, loaded, store_answer}
use Rattle.rv_model.specs.Size.{count_of}
use Rattle.debug_model.specs.declared.command.Path.{Path}
use Rattle.debug_model.specs.declared.point.Point.TheVariants.{Access}
use Rattle.debug_model.specs.Module.{Site}
use Rattle.abstract_debugger.specs.Debugger.{access}
use Rattle.abstract_debugger.specs.Lines.{Line}
use Rattle.abstract_debugger.specs.Plan.{Plan}
use Rattle.abstract_debugger.specs.Plan.Plan.{see, take}
use Rattle.abstract_debugger.specs.Stands.{Deals, Origin, Target}
use Rattle.abstract_debugger.specs.Turns.{after_turns}
use Rattle.abstract_debugger.specs.Ways.{Way}
use Rattle.abstract_debugger.proofs.DealsLemmas.{deals_put, deals_unpathed}
use Rattle.probe_access.specs.Blocks.{LoadedEach, StoredEach, element_at, value_at}
use Rattle.probe_access.specs.BusBlocks.{BusLoadedEach, BusStoredValues}
use Rattle.probe_run.specs.Happens.{target_of}
use Rattle.probe_session.specs.Blocks.{Loads, MayLoad, Says, Stores, loading, storing}
use Rattle.probe_session.proofs.ToldWrites.{OneAccessed, load_deals, store_deals}

-- ---- elements, however they were accessed

pub record LoadedOnce (size : Size) (address value : ℕ) (s t : Site) : Type 0 where
  pub before : List ℕ
  pub behind : List ℕ
  pub value_is : loaded (after_turns before s.board).memory address size ≡ Ok value
  pub access : OneAccessed (λ m. m) before behind s t

pub data EachLoaded (size : Size) : ℕ → Site → List ℕ → Site → Type 0 where
  nothing : {address : ℕ} {s : Site} → EachLoaded size address s [] s
  further : {address value : ℕ} {values : List ℕ} {s t : Site} (m : Site) → LoadedOnce size address value s m
      → EachLoaded size (address + count_of size) m values t → EachLoaded size address s (value ∷ values) t

pub record StoredOnce (size : Size) (address value : ℕ) (s t : Site) : Type 0 where
  pub before : List ℕ
  pub behind : List ℕ
  pub taken : store_answer (after_turns before s.board).memory address size ≡ Ok tt
  pub access : OneAccessed (λ m. after_store m address size value) before behind s t

pub data EachStored (size : Size) : ℕ → Site → List ℕ → Site → Type 0 where
  nothing : {address : ℕ} {s : Site} → EachStored size address s [] s
  further : {address value : ℕ} {values : List ℕ} {s t : Site} (m : Site) → StoredOnce size address value s m
      → EachStored size (address + count_of size) m values t → EachStored size address s (value ∷ values) t

-- the address of an element, by that of the first and by that of the second
first_is : (size : Size) (address : ℕ) → element_at size address 0 ≡ address
first_is size address = omega arith

pub later_is : (size : Size) (address i : ℕ) → element_at size address (suc i) ≡ element_at size (address + count_of size) i
later_is size address i = omega arith

loaded_more : (size : Size) (address value : ℕ) (values : List ℕ) {s m t : Site} → EachLoaded size address s values m
    → LoadedOnce size (element_at size address (length values)) value m t → EachLoaded size address s (values ++ value ∷ []) t
loaded_more size address value [] {m = m} {t = t} EachLoaded.nothing one =
    EachLoaded.further t (subst (λ a. LoadedOnce size a value m t) (first_is size address) one) EachLoaded.nothing
loaded_more size address value (v ∷ values) {m = m} {t = t} (EachLoaded.further k first rest) one =
    EachLoaded.further k first (loaded_more size (address + count_of size) value values rest
    (subst (λ a. LoadedOnce size a value m t) (later_is size address (length values)) one))

pub each_loaded : (size : Size) (address : ℕ) (s t : Site) (values : List ℕ) → LoadedEach size address s values t → EachLoaded size address s values t
each_loaded size address s t values LoadedEach.nothing = EachLoaded.nothing
each_loaded size address s t values (LoadedEach.further vs value m u each one) = loaded_more size address value vs (each_loaded size address s m vs each)
    (record { before = one.before; behind = one.behind; value_is = one.value_is; access = record { board = one.access.board; journal = one.access.journal } })

pub each_bus_loaded : (size : Size) (address : ℕ) (s t : Site) (values : List ℕ) → BusLoadedEach size address s values t → EachLoaded size address s values t
each_bus_loaded size address s t values BusLoadedEach.nothing = EachLoaded.nothing
each_bus_loaded size address s t values (BusLoadedEach.further vs value m u each one) = loaded_more size address value vs
    (each_bus_loaded size address s m vs each)
    (record { before = one.before; behind = one.behind; value_is = one.value_is; access = record { board = one.access.board; journal = one.access.journal } })

-- one more of these values
stored_more : (size : Size) (address : ℕ) (values : List ℕ) (n : ℕ) {s m t : Site} → n < length values → EachStored size address s (first_of n values) m
    → StoredOnce size (element_at size address n) (value_at values n) m t → EachStored size address s (first_of (suc n) values) t
stored_more size address [] n below each one = absurd (omega (arith, below))
stored_more size address (v ∷ values) zero {m = m} {t = t} below EachStored.nothing one =
    EachStored.further t (subst (λ a. StoredOnce size a v m t) (first_is size address) one) EachStored.nothing
stored_more size address (v ∷ values) (suc n) {m = m} {t = t} below (EachStored.further k first rest) one =
    EachStored.further k first (stored_more size (address + count_of size) values n (omega (arith, below)) rest
    (subst (λ a. StoredOnce size a (value_at values n) m t) (later_is size address n) one))

next_is : (n : ℕ) → suc n ≡ n + 1
next_is n = omega arith

-- by the bus the first so many
pub each_bus_stored : (size : Size) (address : ℕ) (values : List ℕ) (s t : Site) (n : ℕ) → n ≤ length values → BusStoredValues size address values s n t
    → EachStored size address s (first_of n values) t
each_bus_stored size address values s t n few BusStoredValues.nothing = EachStored.nothing
each_bus_stored size address values s t n few (BusStoredValues.further k m u each one) =
    subst (λ x. EachStored size address s (first_of x values) u) (next_is k)
    (stored_more size address values k (omega (arith, few)) (each_bus_stored size address values s m k (omega (arith, few)) each)
    (record { before = one.before; behind = one.behind; taken = one.taken; access = record { board = one.access.board; journal = one.access.journal } }))

copy_at : (count value n : ℕ) → n < count → value ≡ value_at (replicate count value) n
copy_at count value n below = sym (get_or-replicate count n value 0 below)

-- and by the hart, where they are one value
each_stored : (size : Size) (address value count : ℕ) (s t : Site) (n : ℕ) → n ≤ count → StoredEach size address value s n t
    → EachStored size address s (first_of n (replicate count value)) t
each_stored size address value count s t n few StoredEach.nothing = EachStored.nothing
each_stored size address value count s t n few (StoredEach.further k m u each one) =
    subst (λ x. EachStored size address s (first_of x (replicate count value)) u) (next_is k)
    (stored_more size address (replicate count value) k
    (subst (λ l. k < l) (sym (length-replicate {A = ℕ} count value)) (omega (arith, few)))
    (each_stored size address value count s m k (omega (arith, few)) each)
    (subst (λ v. StoredOnce size (element_at size address k) v m u) (copy_at count value k (omega (arith, few)))
    (record { before = one.before; behind = one.behind; taken = one.taken; access = record { board = one.access.board; journal = one.access.journal } })))

-- all of them
pub all_bus_stored : (size : Size) (address : ℕ) (values : List ℕ) (s t : Site) → BusStoredValues size address values s (length values) t
    → EachStored size address s values t
all_bus_stored size address values s t each =
    subst (λ vs. EachStored size address s vs t) (take-length values) (each_bus_stored size address values s t (length values) (omega arith) each)

pub copies_stored : (size : Size) (address value count : ℕ) (values : List ℕ) (s t : Site) (n : ℕ) → values ≡ replicate count value → n ≤ count
    → StoredEach size address value s n t → EachStored size address s (first_of n values) t
copies_stored size address value count values s t n is few each =
    subst (λ vs. EachStored size address s (first_of n vs) t) (sym is) (each_stored size address value count s t n few each)

pub all_copies_stored : (size : Size) (address value count : ℕ) (values : List ℕ) (s t : Site) → values ≡ replicate count value
    → StoredEach size address value s count t → EachStored size address s values t
all_copies_stored size address value count values s t is each =
    subst (λ vs. EachStored size address s vs t) (take-replicate count count value (omega arith) ∙ sym is)
    (each_stored size address value count s t count (omega arith) each)

-- ---- along the plan

-- lines that the plan says next
says_deals : (m : Machine) (h : ℕ) (way : Way) (o : Origin) {p q : Plan} (lines : List Line) {said : List Line} (t : Target) → Says p said q
    → Deals m h way o p lines t → Deals m h way o q (lines ++ said) t
says_deals m h way o {p} {q} lines t Says.nothing d = subst (λ l. Deals m h way o q l t) (sym (append-nil lines)) d
says_deals m h way o {p} {q} lines t (Says.further {line} {lines = more} {next} plain s) d =
    subst (λ l. Deals m h way o q l t) (append_assoc lines (line ∷ []) more)
    (says_deals m h way o (lines ++ line ∷ []) t s (deals_put m h way o line next lines t d))

-- one element
load_once : (path : Path) (size : Size) (address value : ℕ) (m : Machine) (h : ℕ) (way : Way) (o : Origin) (faulted : Plan) (read : ℕ → Plan)
    (lines : List Line) (s t : Site) → LoadedOnce size address value s t
    → Deals m h way o (loading path size address faulted read) lines (target_of s) → Deals m h way o (read value) lines (target_of t)
load_once path size address value m h way o faulted read lines s t one d =
    load_deals m h way size address value o faulted read lines one.before one.behind s t one.value_is one.access
    (deals_unpathed m h way o path _ lines (target_of s) d)

pub store_once : (path : Path) (size : Size) (address value : ℕ) (m : Machine) (h : ℕ) (way : Way) (o : Origin) (faulted next : Plan) (lines : List Line)
    (s t : Site) → StoredOnce size address value s t
    → Deals m h way o (storing path size address value faulted next) lines (target_of s) → Deals m h way o next lines (target_of t)
store_once path size address value m h way o faulted next lines s t one d =
    store_deals m h way size address value o faulted next lines one.before one.behind s t one.taken one.access
    (deals_unpathed m h way o path _ lines (target_of s) d)

-- all of them
pub loads_deals : (path : Path) (size : Size) (m : Machine) (h : ℕ) (way : Way) (o : Origin) {address : ℕ} {p q : Plan} (values : List ℕ)
    {said : List Line} (lines : List Line) (s t : Site) → Loads path size address p values said q → EachLoaded size address s values t
    → Deals m h way o p lines (target_of s) → Deals m h way o q (lines ++ said) (target_of t)
loads_deals path size m h way o {q = q} [] lines s t Loads.nothing EachLoaded.nothing d =
    subst (λ l. Deals m h way o q l (target_of t)) (sym (append-nil lines)) d
loads_deals path size m h way o {address} {q = q} (value ∷ values) lines s t
    (Loads.further {said = said} {lines = more} faulted read says rest) (EachLoaded.further k one each) d =
    subst (λ l. Deals m h way o q l (target_of t)) (append_assoc lines said more)
    (loads_deals path size m h way o {address = address + count_of size} values (lines ++ said) k t rest each
    (says_deals m h way o lines (target_of k) says (load_once path size address value m h way o faulted read lines s k one d)))

pub stores_deals : (path : Path) (size : Size) (m : Machine) (h : ℕ) (way : Way) (o : Origin) {address : ℕ} {p q : Plan} (values : List ℕ)
    (lines : List Line) (s t : Site) → Stores path size address values p q → EachStored size address s values t
    → Deals m h way o p lines (target_of s) → Deals m h way o q lines (target_of t)
stores_deals path size m h way o [] lines s t Stores.nothing EachStored.nothing d = d
stores_deals path size m h way o {address} (value ∷ values) lines s t (Stores.further faulted next rest)
    (EachStored.further k one each) d =
    stores_deals path size m h way o {address = address + count_of size} values lines k t rest each
    (store_once path size address value m h way o faulted next lines s k one d)

-- ---- some of them

-- a plan to which some of the elements lead, behind which these lines were said
pub record Partway (m : Machine) (h : ℕ) (way : Way) (o : Origin) (lines : List Line) (t : Target) : Type 0 where
  pub plan : Plan
  pub more : List Line
  pub deals : Deals m h way o plan (lines ++ more) t

-- and where an access is the next
pub record AtAccess (m : Machine) (h : ℕ) (way : Way) (o : Origin) (lines : List Line) (t : Target) : Type 0 where
  pub next : Board → Plan
  pub more : List Line
  pub deals : Deals m h way o (take Access (see next)) (lines ++ more) t

partly_behind : (m : Machine) (h : ℕ) (way : Way) (o : Origin) (lines said : List Line) (t : Target) → Partway m h way o (lines ++ said) t
    → Partway m h way o lines t
partly_behind m h way o lines said t p =
    record { plan = p.plan; more = said ++ p.more; deals = subst (λ l. Deals m h way o p.plan l t) (append_assoc lines said p.more) p.deals }

access_behind : (m : Machine) (h : ℕ) (way : Way) (o : Origin) (lines said : List Line) (t : Target) → AtAccess m h way o (lines ++ said) t
    → AtAccess m h way o lines t
access_behind m h way o lines said t p = record {
  next = p.next;
  more = said ++ p.more;
  deals = subst (λ l. Deals m h way o (take Access (see p.next)) l t) (append_assoc lines said p.more) p.deals;
}

partly_here : (m : Machine) (h : ℕ) (way : Way) (o : Origin) (p : Plan) (lines : List Line) (t : Target) → Deals m h way o p lines t
    → Partway m h way o lines t
partly_here m h way o p lines t d = record { plan = p; more = []; deals = subst (λ l. Deals m h way o p l t) (sym (append-nil lines)) d }

access_here : (m : Machine) (h : ℕ) (way : Way) (o : Origin) (path : Path) (next : Board → Plan) (lines : List Line) (t : Target)
    → Deals m h way o (access path next) lines t → AtAccess m h way o lines t
access_here m h way o path next lines t d = record {
  next = next;
  more = [];
  deals = subst (λ l. Deals m h way o (take Access (see next)) l t) (sym (append-nil lines)) (deals_unpathed m h way o path _ lines t d);
}

pub loads_partly : (path : Path) (size : Size) (m : Machine) (h : ℕ) (way : Way) (o : Origin) {address : ℕ} {p : Plan} (count : ℕ) (values : List ℕ)
    (lines : List Line) (s t : Site) → MayLoad path size address count p → EachLoaded size address s values t → length values ≤ count
    → Deals m h way o p lines (target_of s) → Partway m h way o lines (target_of t)
loads_partly path size m h way o {p = p} count [] lines s t may EachLoaded.nothing few d = partly_here m h way o p lines (target_of t) d
loads_partly path size m h way o zero (value ∷ values) lines s t may each few d = absurd (omega (arith, few))
loads_partly path size m h way o {address} (suc count) (value ∷ values) lines s t (MayLoad.further faulted read said next says may)
    (EachLoaded.further k one each) few d =
    partly_behind m h way o lines (said value) (target_of t)
    (loads_partly path size m h way o {address = address + count_of size} count values (lines ++ said value) k t (may value) each (omega (arith, few))
    (says_deals m h way o lines (target_of k) (says value) (load_once path size address value m h way o faulted read lines s k one d)))

pub loads_to_access : (path : Path) (size : Size) (m : Machine) (h : ℕ) (way : Way) (o : Origin) {address : ℕ} {p : Plan} (count : ℕ) (values : List ℕ)
    (lines : List Line) (s t : Site) → MayLoad path size address count p → EachLoaded size address s values t → length values < count
    → Deals m h way o p lines (target_of s) → AtAccess m h way o lines (target_of t)
loads_to_access path size m h way o zero values lines s t may each few d = absurd (omega (arith, few))
loads_to_access path size m h way o {address} (suc count) [] lines s t (MayLoad.further faulted read said next says may)
    EachLoaded.nothing few d = access_here m h way o path _ lines (target_of t) d
loads_to_access path size m h way o {address} (suc count) (value ∷ values) lines s t
    (MayLoad.further faulted read said next says may) (EachLoaded.further k one each) few d =
    access_behind m h way o lines (said value) (target_of t)
    (loads_to_access path size m h way o {address = address + count_of size} count values (lines ++ said value) k t (may value) each (omega (arith, few))
    (says_deals m h way o lines (target_of k) (says value) (load_once path size address value m h way o faulted read lines s k one d)))

pub stores_partly : (path : Path) (size : Size) (m : Machine) (h : ℕ) (way : Way) (o : Origin) {address : ℕ} (values : List ℕ) (done : ℕ) {p q : Plan}
    (lines : List Line) (s t : Site) → Stores path size address values p q → EachStored size address s (first_of done values) t → done ≤ length values
    → Deals m h way o p lines (target_of s) → Partway m h way o lines (target_of t)
stores_partly path size m h way o values zero lines s t stores EachStored.nothing few d = partly_here m h way o _ lines (target_of t) d
stores_partly path size m h way o [] (suc done) lines s t stores each few d = absurd (omega (arith, few))
stores_partly path size m h way o {address} (value ∷ values) (suc done) lines s t (Stores.further faulted next rest)
    (EachStored.further k one each) few d =
    stores_partly path size m h way o {address = address + count_of size} values done lines k t rest each (omega (arith, few))
    (store_once path size address value m h way o faulted next lines s k one d)

pub stores_to_access : (path : Path) (size : Size) (m : Machine) (h : ℕ) (way : Way) (o : Origin) {address : ℕ} {p q : Plan} (values : List ℕ)
    (done : ℕ) (lines : List Line) (s t : Site) → Stores path size address values p q → EachStored size address s (first_of done values) t
    → done < length values → Deals m h way o p lines (target_of s) → AtAccess m h way o lines (target_of t)
stores_to_access path size m h way o [] done lines s t stores each few d = absurd (omega (arith, few))
stores_to_access path size m h way o (value ∷ values) zero lines s t (Stores.further faulted next rest) EachStored.nothing few d =
    access_here m h way o path _ lines (target_of t) d
stores_to_access path size m h way o {address} (value ∷ values) (suc done) lines s t (Stores.further faulted next rest)
    (EachStored.further k one each) few d =
    stores_to_access path size m h way o {address = address + count_of size} values done lines k t rest each (omega (arith, few))
    (store_once path size address value m h way o faulted next lines s k one d)
