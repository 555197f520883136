-- Calls on blocks of memory that fail, over a told chip: the elements so far lead along the plan, and the lines that it says of them were not written.
use Rattle.std.proofs.Common.{◌≡◌, ◌∙◌, ◌≤◌, ◌++◌, ℕ, List, ◌∷◌, Option, None, length, replicate, take, append_assoc, refl, ap, arith}
use Rattle.std.proofs.lemmas.List.{length-replicate}
use Rattle.rv_model.specs.declared.size.Size.{Size}
use Rattle.rv_model.specs.Board.{Machine}
use Rattle.debug_model.specs.declared.command.Path.{Path}
use Rattle.debug_model.specs.declared.point.Point.{Point}
use Rattle.debug_model.specs.declared.point.Point.TheVariants.{Access}
use Rattle.debug_model.specs.Module.{Site}
use Rattle.debug_model.specs.Told.{Far, site_of}
use Rattle.abstract_debugger.specs.Lines.{Line}
use Rattle.abstract_debugger.specs.Plan.{Plan}
use Rattle.abstract_debugger.specs.Plan.Plan.{see}
use Rattle.abstract_debugger.specs.Stands.{At, Deals, Origin}
use Rattle.abstract_debugger.specs.Turns.{turns}
use Rattle.abstract_debugger.specs.Ways.{Way}
use Rattle.probe_access.specs.declared.fault.AccessFault.{AccessFault}
use Rattle.probe_access.specs.declared.fault.AccessFault.TheVariants as fault
use Rattle.probe_access.specs.Blocks.{BlockLoadLeft, BlockStoreLeft, LoadedEach, StoredEach, element_at, value_at}
use Rattle.probe_access.specs.BusBlocks.{BusBlockLoadLeft, BusLoadedEach, BusStoredValues, BusValuesStoreLeft}
use Rattle.probe_access.specs.Cuts.{BusBefore, BusBehind, LeftAside, LeftBehind, Leaves, LoadLeaves, Scratched, StoreLeaves}
use Rattle.probe_run.specs.Acts.{Tells}
use Rattle.probe_run.specs.Happens.{target_of}
use Rattle.probe_session.specs.declared.fault.Failure.{Failure}
use Rattle.probe_session.specs.BlockCalls.{BlockLoadFell, BlockStoreFell, BusLoadsCut, BusStoresCut, LoadsCut, SomeLoaded, SomeStored, StoresCut}
use Rattle.probe_session.specs.Blocks.{MayLoad, Stores}
use Rattle.probe_session.specs.Led.{target_at}
use Rattle.probe_session.specs.Transcribed.{OnTheWay, Still}
use Rattle.probe_session.proofs.BlockDeals.{AtAccess, EachLoaded, EachStored, Partway, copies_stored, each_bus_loaded, each_bus_stored, each_loaded}
use Rattle.probe_session.proofs.BlockDeals.{loads_partly, loads_to_access, stores_partly, stores_to_access}
use Rattle.probe_session.proofs.BrokeOff.{LeftAs, OfTheLink, OnWay, by_access, is_told, left_still}
use Rattle.probe_session.proofs.OnTheWay.{point_way, turns_way}

-- ---- behind some of the elements

-- fewer lines are a front as well
fewer_lines : (o : Origin) (lines more : List Line) (j : List Point) → OnTheWay o (lines ++ more) j → OnTheWay o lines j
fewer_lines o lines more j w = record {
  not_astray = w.not_astray;
  front = record { rest = more ++ w.front.rest; is = w.front.is ∙ append_assoc lines more w.front.rest };
}

record TurnsTo (s t : Site) : Type 0 where
  pub harts : List ℕ
  pub journal : t.journal ≡ s.journal ++ turns harts

record AccessTo (s t : Site) : Type 0 where
  pub before : List ℕ
  pub behind : List ℕ
  pub journal : t.journal ≡ (s.journal ++ turns before) ++ Access ∷ turns behind

between_way : (m : Machine) (h : ℕ) (way : Way) (o : Origin) (lines : List Line) (s t : Site) → Partway m h way o lines (target_of s) → TurnsTo s t
    → OnTheWay o lines t.journal
between_way m h way o lines s t p c = fewer_lines o lines p.more t.journal
    (turns_way o p.plan (lines ++ p.more) (target_of s) c.harts t.journal p.deals.stands c.journal)

within_way : (m : Machine) (h : ℕ) (way : Way) (o : Origin) (lines : List Line) (s t : Site) → AtAccess m h way o lines (target_of s) → AccessTo s t
    → OnTheWay o lines t.journal
within_way m h way o lines s t p c = fewer_lines o lines p.more t.journal
    (point_way o Access (see p.next) (lines ++ p.more) (target_of s) c.before c.behind t.journal tt p.deals.stands c.journal)

some_loaded : (Each : Site → List ℕ → Site → Type 0) (Aside Behind : Site → Site → Type 0) (path : Path) (size : Size) (address count : ℕ) (p : Plan)
    (m : Machine) (h : ℕ) (way : Way) (o : Origin) (lines : List Line) (s t : Site)
    → ((values : List ℕ) (u : Site) → Each s values u → EachLoaded size address s values u)
    → ((u : Site) → Aside u t → TurnsTo u t) → ((u : Site) → Behind u t → AccessTo u t)
    → MayLoad path size address count p → Deals m h way o p lines (target_of s) → SomeLoaded Each Aside Behind count s t → OnTheWay o lines t.journal
some_loaded Each Aside Behind path size address count p m h way o lines s t each aside behind may d (SomeLoaded.between values mid loaded few rest) =
    between_way m h way o lines mid t (loads_partly path size m h way o count values lines s mid may (each values mid loaded) few d) (aside mid rest)
some_loaded Each Aside Behind path size address count p m h way o lines s t each aside behind may d (SomeLoaded.within values mid loaded few rest) =
    within_way m h way o lines mid t (loads_to_access path size m h way o count values lines s mid may (each values mid loaded) few d) (behind mid rest)

some_stored : (Each : Site → ℕ → Site → Type 0) (Aside : Site → Site → Type 0) (Behind : ℕ → Site → Site → Type 0) (path : Path) (size : Size)
    (address count : ℕ) (values : List ℕ) (p to : Plan) (m : Machine) (h : ℕ) (way : Way) (o : Origin) (lines : List Line) (s t : Site)
    → length values ≡ count → ((done : ℕ) (u : Site) → done ≤ count → Each s done u → EachStored size address s (take done values) u)
    → ((u : Site) → Aside u t → TurnsTo u t) → ((done : ℕ) (u : Site) → Behind done u t → AccessTo u t)
    → Stores path size address values p to → Deals m h way o p lines (target_of s) → SomeStored Each Aside Behind count s t
    → OnTheWay o lines t.journal
some_stored Each Aside Behind path size address count values p to m h way o lines s t all each aside behind stores d
    (SomeStored.between done mid stored few rest) =
    between_way m h way o lines mid t
    (stores_partly path size m h way o values done lines s mid stores (each done mid few stored) (omega (arith, all, few)) d) (aside mid rest)
some_stored Each Aside Behind path size address count values p to m h way o lines s t all each aside behind stores d
    (SomeStored.within done mid stored few rest) =
    within_way m h way o lines mid t
    (stores_to_access path size m h way o values done lines s mid stores (each done mid (omega (arith, few)) stored) (omega (arith, all, few)) d)
    (behind done mid rest)

-- ---- by the fault: it is one of the link

load_of_link : (size : Size) (address count : ℕ) (values : List ℕ) (old new : Option Far) (why : AccessFault) → (old ≡ None → ⊥)
    → BlockLoadLeft size address count values old new why → OfTheLink why
load_of_link size address count values old new (fault.Dmi why) told left = tt
load_of_link size address count values old new (fault.Memory at) told left = tt
load_of_link size address count values old new (fault.Register number) told left = told left
load_of_link size address count values old new fault.StillBusy told left = tt
load_of_link size address count values old new (fault.Run why) told left = left
load_of_link size address count values old new (fault.Odd shown) told left = told left

store_of_link : (size : Size) (address count value : ℕ) (old new : Option Far) (why : AccessFault) → (old ≡ None → ⊥)
    → BlockStoreLeft size address count value old new why → OfTheLink why
store_of_link size address count value old new (fault.Dmi why) told left = tt
store_of_link size address count value old new (fault.Memory at) told left = tt
store_of_link size address count value old new (fault.Register number) told left = told left
store_of_link size address count value old new fault.StillBusy told left = tt
store_of_link size address count value old new (fault.Run why) told left = left
store_of_link size address count value old new (fault.Odd shown) told left = told left

bus_load_of_link : (size : Size) (address count : ℕ) (values : List ℕ) (old new : Option Far) (why : AccessFault) → (old ≡ None → ⊥)
    → BusBlockLoadLeft size address count values old new why → OfTheLink why
bus_load_of_link size address count values old new (fault.Dmi why) told left = tt
bus_load_of_link size address count values old new (fault.Memory at) told left = tt
bus_load_of_link size address count values old new (fault.Register number) told left = told left
bus_load_of_link size address count values old new fault.StillBusy told left = tt
bus_load_of_link size address count values old new (fault.Run why) told left = left
bus_load_of_link size address count values old new (fault.Odd shown) told left = told left

bus_store_of_link : (size : Size) (address : ℕ) (values : List ℕ) (count : ℕ) (old new : Option Far) (why : AccessFault) → (old ≡ None → ⊥)
    → BusValuesStoreLeft size address values count old new why → OfTheLink why
bus_store_of_link size address values count old new (fault.Dmi why) told left = tt
bus_store_of_link size address values count old new (fault.Memory at) told left = tt
bus_store_of_link size address values count old new (fault.Register number) told left = told left
bus_store_of_link size address values count old new fault.StillBusy told left = tt
bus_store_of_link size address values count old new (fault.Run why) told left = left
bus_store_of_link size address values count old new (fault.Odd shown) told left = told left

-- ---- the calls

pub block_load_fell : {path : Path} (size : Size) (address count : ℕ) (m : Machine) (h : ℕ) (way : Way) (o : Origin) (p : Plan) (lines : List Line)
    (old_count new_count : ℕ) (old new : Tells) (f : Failure) → MayLoad path size address count p
    → BlockLoadFell path way h size address count old_count new_count old new f
    → At m h way o p lines (target_at old.far) → Still (LeftAs o lines f) new.far
block_load_fell {path} size address count m h way o p lines old_count new_count old new f may
    (BlockLoadFell.by_hart why held known at later heard causes told cut is) a =
    by_access why f o lines new.far (Leaves (LoadsCut size address count h) old.far new.far) is
    (load_of_link size address count held old.far new.far why (is_told m h way o p lines old.far a) told) cut
    (λ l. left_still (LoadsCut size address count h) m h way o p lines (OnWay o lines) old.far new.far
    (λ x y d c. some_loaded (LoadedEach size address) (LeftAside Scratched h) (LeftBehind Scratched LoadLeaves h) path size address count p m h way o lines
    (site_of x) (site_of y) (λ values u e. each_loaded size address (site_of x) u values e) (λ u e. record { harts = e.harts; journal = e.journal })
    (λ u e. record { before = e.before; behind = e.behind; journal = e.journal }) may d c) l a)
block_load_fell {path} size address count m h way o p lines old_count new_count old new f may
    (BlockLoadFell.by_bus why held at later causes told cut is) a =
    by_access why f o lines new.far (Leaves (BusLoadsCut size address count) old.far new.far) is
    (bus_load_of_link size address count held old.far new.far why (is_told m h way o p lines old.far a) told) cut
    (λ l. left_still (BusLoadsCut size address count) m h way o p lines (OnWay o lines) old.far new.far
    (λ x y d c. some_loaded (BusLoadedEach size address) BusBefore (BusBehind LoadLeaves) path size address count p m h way o lines
    (site_of x) (site_of y) (λ values u e. each_bus_loaded size address (site_of x) u values e) (λ u e. record { harts = e.harts; journal = e.journal })
    (λ u e. record { before = e.before; behind = e.behind; journal = e.journal }) may d c) l a)

as_many : (values : List ℕ) (value count : ℕ) → values ≡ replicate count value → length values ≡ count
as_many values value count are = ap length are ∙ length-replicate {A = ℕ} count value

pub block_store_fell : {path : Path} (size : Size) (address : ℕ) (values : List ℕ) (m : Machine) (h : ℕ) (way : Way) (o : Origin) (p to : Plan)
    (lines : List Line) (old_count new_count : ℕ) (old new : Tells) (f : Failure) → Stores path size address values p to
    → BlockStoreFell path way h size address values old_count new_count old new f
    → At m h way o p lines (target_at old.far) → Still (LeftAs o lines f) new.far
block_store_fell {path} size address values m h way o p to lines old_count new_count old new f stores
    (BlockStoreFell.by_hart why value count are known at later heard causes told cut is) a =
    by_access why f o lines new.far (Leaves (StoresCut size address value count h) old.far new.far) is
    (store_of_link size address count value old.far new.far why (is_told m h way o p lines old.far a) told) cut
    (λ l. left_still (StoresCut size address value count h) m h way o p lines (OnWay o lines) old.far new.far
    (λ x y d c. some_stored (StoredEach size address value) (LeftAside Scratched h)
    (λ done. LeftBehind Scratched (StoreLeaves size (element_at size address done) value) h) path size address count values p to m h way o lines
    (site_of x) (site_of y) (as_many values value count are)
    (λ done u few e. copies_stored size address value count values (site_of x) u done are few e) (λ u e. record { harts = e.harts; journal = e.journal })
    (λ done u e. record { before = e.before; behind = e.behind; journal = e.journal }) stores d c) l a)
block_store_fell {path} size address values m h way o p to lines old_count new_count old new f stores
    (BlockStoreFell.by_bus why at later causes told cut is) a =
    by_access why f o lines new.far (Leaves (BusStoresCut size address values) old.far new.far) is
    (bus_store_of_link size address values (length values) old.far new.far why (is_told m h way o p lines old.far a) told) cut
    (λ l. left_still (BusStoresCut size address values) m h way o p lines (OnWay o lines) old.far new.far
    (λ x y d c. some_stored (BusStoredValues size address values) BusBefore
    (λ done. BusBehind (StoreLeaves size (element_at size address done) (value_at values done))) path size address (length values) values p to m h way o
    lines (site_of x) (site_of y) refl (λ done u few e. each_bus_stored size address values (site_of x) u done few e)
    (λ u e. record { harts = e.harts; journal = e.journal })
    (λ done u e. record { before = e.before; behind = e.behind; journal = e.journal }) stores d c) l a)
