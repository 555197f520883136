-- A call on a block of memory that failed, over a told chip.
use Rattle.std.proofs.Common.{◌≡◌, ◌∙◌, ◌<◌, ℕ, List, length, replicate, take, Option, Some, None, refl, sym, ap, subst, arith}
use Rattle.std.proofs.lemmas.List.{get_or-replicate, length-replicate}
use Rattle.std.proofs.lemmas.Option.{none-some, same_Some}
use Rattle.rv_model.specs.declared.size.Size.{Size}
use Rattle.rv_model.specs.Board.{Machine, machine_of}
use Rattle.debug_model.specs.declared.command.Path.{Path}
use Rattle.debug_model.specs.declared.command.Path.TheVariants.{Progbuf, Bus}
use Rattle.debug_model.specs.Module.{Site}
use Rattle.debug_model.specs.Told.{Far, site_of}
use Rattle.abstract_debugger.specs.Laws.{IsFrozenAt}
use Rattle.abstract_debugger.specs.Lines.{Line}
use Rattle.abstract_debugger.specs.Plan.{Plan}
use Rattle.abstract_debugger.specs.Stands.{At, Deals, Origin}
use Rattle.abstract_debugger.specs.Ways.{Way}
use Rattle.abstract_debugger.proofs.StandsLemmas.{went_on}
use Rattle.probe_access.specs.declared.fault.AccessFault.{AccessFault}
use Rattle.probe_access.specs.declared.fault.AccessFault.TheVariants as fault
use Rattle.probe_access.specs.Blocks.{BlockLoadLeft, BlockStoreLeft, element_at, value_at}
use Rattle.probe_access.specs.BusBlocks.{BusBlockLoadLeft, BusValuesStoreLeft}
use Rattle.probe_access.specs.Cuts.{BusBefore, BusBehind, LeftAside, LeftBehind, Leaves, LoadLeaves, Scratched, StoreLeaves}
use Rattle.probe_run.specs.declared.fault.RunFault.{RunFault}
use Rattle.probe_run.specs.Happens.{target_of}
use Rattle.probe_run.specs.Told.{Serving}
use Rattle.probe_session.specs.BlockCalls.{BlockLoadFell, BlockStoreFell, BusLoadsCut, BusStoresCut, LoadsCut, SomeLoaded, SomeStored, StoresCut}
use Rattle.probe_session.specs.Blocks.{MayLoad, Stores}
use Rattle.probe_session.specs.Led.{target_at}
use Rattle.probe_session.specs.Transcribed.{Still}
use Rattle.probe_session.proofs.BlockDeals.{EachLoaded, EachStored, copies_stored, each_bus_loaded, each_bus_stored, each_loaded}
use Rattle.probe_session.proofs.BrokeOff.{OfTheLink, is_told, left_still}
use Rattle.left_laws.specs.Left.Spared.{Nothing}
use Rattle.left_laws.proofs.Stopped.{serving_frozen}
use Rattle.cut_laws.specs.Cut.{EndsBut, lost}
use Rattle.cut_laws.specs.MemoryCutLaws.{LoadingBlockCut, QuietLoads, QuietStores, StoringBlockCut}
use Rattle.cut_laws.proofs.Accesses.{aside_alike, behind_alike, load_ends, scratched_loses, store_ends}
use Rattle.cut_laws.proofs.BesideLemmas.{cut_of}
use Rattle.cut_laws.proofs.BlockWalks.{LoadAt, QuietAt, StoreAt, loads_at, loads_frozen, loads_quiet, stores_at, stores_frozen, stores_quiet}
use Rattle.cut_laws.proofs.Ends.{behind_turns, quiet_ends}

-- ---- behind some of the elements, where the place's hart makes them

hart_between : (m : Machine) (h : ℕ) (way : Way) (o : Origin) (s t : Site) → IsFrozenAt h s.board → QuietAt m h way o (target_of s)
    → LeftAside Scratched h s t → EndsBut (lost h None) o (target_of t)
hart_between m h way o s t frozen q c =
    quiet_ends (lost h None) o q.plan q.lines (behind_turns c.harts t.journal (target_of s)) q.quiet
    (went_on o q.plan q.lines (target_of s) (behind_turns c.harts t.journal (target_of s)) q.deals.stands
    (record { harts = c.harts; board = refl; journal = c.journal }))
    ∙ aside_alike Scratched h None s t frozen (scratched_loses None) c

hart_load : (m : Machine) (h : ℕ) (way : Way) (o : Origin) (s t : Site) → IsFrozenAt h s.board → LoadAt m h way o (target_of s)
    → LeftBehind Scratched LoadLeaves h s t → EndsBut (lost h None) o (target_of t)
hart_load m h way o s t frozen a c =
    load_ends (lost h None) m h way a.size a.address o a.faulted a.read a.lines c.before c.behind c.memory s t a.fault a.reads c.made c.journal a.deals
    ∙ behind_alike Scratched LoadLeaves h None s t frozen (scratched_loses None) c

hart_store : (m : Machine) (h : ℕ) (way : Way) (o : Origin) (size : Size) (value address : ℕ) (s t : Site) → IsFrozenAt h s.board
    → StoreAt m h way o size value address (target_of s) → LeftBehind Scratched (StoreLeaves size address value) h s t → EndsBut (lost h None) o (target_of t)
hart_store m h way o size value address s t frozen a c =
    store_ends (lost h None) m h way size address value o a.faulted a.stored a.lines c.before c.behind c.memory s t a.fault a.stores c.made c.journal a.deals
    ∙ behind_alike Scratched (StoreLeaves size address value) h None s t frozen (scratched_loses None) c

-- ---- and where the system bus does

bus_between : (m : Machine) (h : ℕ) (way : Way) (o : Origin) (s t : Site) → QuietAt m h way o (target_of s) → BusBefore s t → EndsBut Nothing o (target_of t)
bus_between m h way o s t q c =
    quiet_ends Nothing o q.plan q.lines (target_of t) q.quiet
    (went_on o q.plan q.lines (target_of s) (target_of t) q.deals.stands (record { harts = c.harts; board = c.board; journal = c.journal }))

bus_load : (m : Machine) (h : ℕ) (way : Way) (o : Origin) (s t : Site) → LoadAt m h way o (target_of s) → BusBehind LoadLeaves s t
    → EndsBut Nothing o (target_of t)
bus_load m h way o s t a c =
    load_ends Nothing m h way a.size a.address o a.faulted a.read a.lines c.before c.behind c.memory s t a.fault a.reads c.made c.journal a.deals
    ∙ sym (ap machine_of c.board)

bus_store : (m : Machine) (h : ℕ) (way : Way) (o : Origin) (size : Size) (value address : ℕ) (s t : Site)
    → StoreAt m h way o size value address (target_of s) → BusBehind (StoreLeaves size address value) s t → EndsBut Nothing o (target_of t)
bus_store m h way o size value address s t a c =
    store_ends Nothing m h way size address value o a.faulted a.stored a.lines c.before c.behind c.memory s t a.fault a.stores c.made c.journal a.deals
    ∙ sym (ap machine_of c.board)

-- ---- by the fault

of_link : (Left : AccessFault → Type 0) (why : AccessFault) → ((number : ℕ) → Left (fault.Register number) → ⊥)
    → ((w : RunFault) → Left (fault.Run w) → ⊥) → ((shown : _) → Left (fault.Odd shown) → ⊥) → Left why → OfTheLink why
of_link Left (fault.Dmi why) register run odd left = tt
of_link Left (fault.Memory at) register run odd left = tt
of_link Left (fault.Register number) register run odd left = register number left
of_link Left fault.StillBusy register run odd left = tt
of_link Left (fault.Run why) register run odd left = run why left
of_link Left (fault.Odd shown) register run odd left = odd shown left

-- where the hart serves it stands still
served_still : (R : Site → Site → Type 0) (m : Machine) (h : ℕ) (way : Way) (o : Origin) (p : Plan) (lines : List Line) (Q : Far → Type 0)
    (old new : Option Far)
    → ((f g : Far) → IsFrozenAt h (site_of f).board → Deals m h way o p lines (target_of (site_of f)) → R (site_of f) (site_of g) → Q g)
    → Serving h old → Leaves R old new → At m h way o p lines (target_at old) → Still Q new
served_still R m h way o p lines Q None new step serving w a = absurd (none-some a.target a.is)
served_still R m h way o p lines Q (Some f) new step serving w a = record {
  far = w.far;
  is = w.is;
  holds = step f w.far (serving_frozen h f serving)
      (subst (λ t. Deals m h way o p lines t) (sym (same_Some (target_of (site_of f)) a.target a.is)) a.holds) w.left;
}

-- ---- loads

loads_by_hart : (path : Path) (m : Machine) (h : ℕ) (way : Way) (o : Origin) (size : Size) (address count : ℕ) (p : Plan) (lines : List Line)
    (s t : Site) (may : MayLoad path size address count p) → QuietLoads may → IsFrozenAt h s.board → Deals m h way o p lines (target_of s)
    → LoadsCut size address count h s t → EndsBut (lost h None) o (target_of t)
loads_by_hart path m h way o size address count p lines s t may quiet frozen d (SomeLoaded.between values mid each few rest) =
    let e : EachLoaded size address s values mid = each_loaded size address s mid values each in
    hart_between m h way o mid t (loads_frozen h size e frozen) (loads_quiet path size m h way o count values lines s mid may quiet e few d) rest
loads_by_hart path m h way o size address count p lines s t may quiet frozen d (SomeLoaded.within values mid each few rest) =
    let e : EachLoaded size address s values mid = each_loaded size address s mid values each in
    hart_load m h way o mid t (loads_frozen h size e frozen) (loads_at path size m h way o count values lines s mid may quiet e few d) rest

loads_by_bus : (path : Path) (m : Machine) (h : ℕ) (way : Way) (o : Origin) (size : Size) (address count : ℕ) (p : Plan) (lines : List Line)
    (s t : Site) (may : MayLoad path size address count p) → QuietLoads may → Deals m h way o p lines (target_of s)
    → BusLoadsCut size address count s t → EndsBut Nothing o (target_of t)
loads_by_bus path m h way o size address count p lines s t may quiet d (SomeLoaded.between values mid each few rest) =
    bus_between m h way o mid t
    (loads_quiet path size m h way o count values lines s mid may quiet (each_bus_loaded size address s mid values each) few d) rest
loads_by_bus path m h way o size address count p lines s t may quiet d (SomeLoaded.within values mid each few rest) =
    bus_load m h way o mid t (loads_at path size m h way o count values lines s mid may quiet (each_bus_loaded size address s mid values each) few d) rest

pub loading_block_cut : LoadingBlockCut
loading_block_cut Progbuf way h size address count p old_count new_count old new f may quiet
    (BlockLoadFell.by_hart why held known serving later heard causes told cut is) m o lines a =
    served_still (LoadsCut size address count h) m h way o p lines (λ g. EndsBut (lost h None) o (target_of (site_of g))) old.far new.far
    (λ x y frozen d c. loads_by_hart Progbuf m h way o size address count p lines (site_of x) (site_of y) may quiet frozen d c) serving
    (cut_of why f (Leaves (LoadsCut size address count h) old.far new.far) is
    (of_link (BlockLoadLeft size address count held old.far new.far) why (λ number l. is_told m h way o p lines old.far a l) (λ w l. l)
    (λ shown l. is_told m h way o p lines old.far a l) told) cut) a
loading_block_cut Bus way h size address count p old_count new_count old new f may quiet
    (BlockLoadFell.by_bus why held ready later causes told cut is) m o lines a =
    left_still (BusLoadsCut size address count) m h way o p lines (λ g. EndsBut Nothing o (target_of (site_of g))) old.far new.far
    (λ x y d c. loads_by_bus Bus m h way o size address count p lines (site_of x) (site_of y) may quiet d c)
    (cut_of why f (Leaves (BusLoadsCut size address count) old.far new.far) is
    (of_link (BusBlockLoadLeft size address count held old.far new.far) why (λ number l. is_told m h way o p lines old.far a l) (λ w l. l)
    (λ shown l. is_told m h way o p lines old.far a l) told) cut) a

-- ---- stores

as_many : (values : List ℕ) (value count : ℕ) → values ≡ replicate count value → length values ≡ count
as_many values value count are = ap length are ∙ length-replicate {A = ℕ} count value

-- a copy is the value
copy_is : (values : List ℕ) (value count n : ℕ) → values ≡ replicate count value → n < count → value_at values n ≡ value
copy_is values value count n are below = ap (λ vs. value_at vs n) are ∙ get_or-replicate count n value 0 below

stores_by_hart : (path : Path) (m : Machine) (h : ℕ) (way : Way) (o : Origin) (size : Size) (address : ℕ) (values : List ℕ) (value count : ℕ) (p to : Plan)
    (lines : List Line) (s t : Site) (stores : Stores path size address values p to) → QuietStores stores → values ≡ replicate count value
    → IsFrozenAt h s.board → Deals m h way o p lines (target_of s) → StoresCut size address value count h s t → EndsBut (lost h None) o (target_of t)
stores_by_hart path m h way o size address values value count p to lines s t stores quiet are frozen d (SomeStored.between done mid each few rest) =
    let all : length values ≡ count = as_many values value count are in
    let e : EachStored size address s (take done values) mid = copies_stored size address value count values s mid done are few each in
    hart_between m h way o mid t (stores_frozen h size e frozen)
    (stores_quiet path size m h way o values done lines s mid stores quiet e (omega (arith, all, few)) d) rest
stores_by_hart path m h way o size address values value count p to lines s t stores quiet are frozen d (SomeStored.within done mid each few rest) =
    let all : length values ≡ count = as_many values value count are in
    let e : EachStored size address s (take done values) mid = copies_stored size address value count values s mid done are (omega (arith, few)) each in
    hart_store m h way o size value (element_at size address done) mid t (stores_frozen h size e frozen)
    (subst (λ v. StoreAt m h way o size v (element_at size address done) (target_of mid)) (copy_is values value count done are few)
    (stores_at path size m h way o values done lines s mid stores quiet e (omega (arith, all, few)) d)) rest

stores_by_bus : (path : Path) (m : Machine) (h : ℕ) (way : Way) (o : Origin) (size : Size) (address : ℕ) (values : List ℕ) (p to : Plan)
    (lines : List Line) (s t : Site) (stores : Stores path size address values p to) → QuietStores stores
    → Deals m h way o p lines (target_of s) → BusStoresCut size address values s t → EndsBut Nothing o (target_of t)
stores_by_bus path m h way o size address values p to lines s t stores quiet d (SomeStored.between done mid each few rest) =
    bus_between m h way o mid t
    (stores_quiet path size m h way o values done lines s mid stores quiet (each_bus_stored size address values s mid done few each) few d) rest
stores_by_bus path m h way o size address values p to lines s t stores quiet d (SomeStored.within done mid each few rest) =
    bus_store m h way o size (value_at values done) (element_at size address done) mid t
    (stores_at path size m h way o values done lines s mid stores quiet (each_bus_stored size address values s mid done (omega (arith, few)) each) few d)
    rest

pub storing_block_cut : StoringBlockCut
storing_block_cut Progbuf way h size address values p to old_count new_count old new f stores quiet
    (BlockStoreFell.by_hart why value count are known serving later heard causes told cut is) m o lines a =
    served_still (StoresCut size address value count h) m h way o p lines (λ g. EndsBut (lost h None) o (target_of (site_of g))) old.far new.far
    (λ x y frozen d c. stores_by_hart Progbuf m h way o size address values value count p to lines (site_of x) (site_of y) stores quiet are frozen d c) serving
    (cut_of why f (Leaves (StoresCut size address value count h) old.far new.far) is
    (of_link (BlockStoreLeft size address count value old.far new.far) why (λ number l. is_told m h way o p lines old.far a l) (λ w l. l)
    (λ shown l. is_told m h way o p lines old.far a l) told) cut) a
storing_block_cut Bus way h size address values p to old_count new_count old new f stores quiet
    (BlockStoreFell.by_bus why ready later causes told cut is) m o lines a =
    left_still (BusStoresCut size address values) m h way o p lines (λ g. EndsBut Nothing o (target_of (site_of g))) old.far new.far
    (λ x y d c. stores_by_bus Bus m h way o size address values p to lines (site_of x) (site_of y) stores quiet d c)
    (cut_of why f (Leaves (BusStoresCut size address values) old.far new.far) is
    (of_link (BusValuesStoreLeft size address values (length values) old.far new.far) why (λ number l. is_told m h way o p lines old.far a l) (λ w l. l)
    (λ shown l. is_told m h way o p lines old.far a l) told) cut) a
