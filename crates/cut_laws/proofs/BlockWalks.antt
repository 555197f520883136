-- Elements of a block that were accessed, one behind another, over a told chip: where the plan stands behind them, and that it changes nothing there.
use Rattle.std.proofs.Common.{◌≡◌, ◌∙◌, ◌≤◌, ◌<◌, ◌+◌, ◌++◌, ℕ, zero, suc, List, [], ◌∷◌, length, slice_get, take as first_of, sym, ap, subst, arith}
use Rattle.rv_model.specs.declared.size.Size.{Size}
use Rattle.rv_model.specs.Board.{Board, Machine}
use Rattle.rv_model.specs.Memory.{after_store, loaded, store_answer}
use Rattle.rv_model.specs.Size.{count_of}
use Rattle.debug_model.specs.declared.command.Path.{Path}
use Rattle.debug_model.specs.Module.{Site}
use Rattle.abstract_debugger.specs.Debugger.{by_load, by_store}
use Rattle.abstract_debugger.specs.Laws.{IsFrozenAt, Quiet}
use Rattle.abstract_debugger.specs.Lines.{Line}
use Rattle.abstract_debugger.specs.Plan.{Plan}
use Rattle.abstract_debugger.specs.Plan.Change.{WriteMem}
use Rattle.abstract_debugger.specs.Plan.Plan.{change, see, take}
use Rattle.debug_model.specs.declared.point.Point.TheVariants.{Access}
use Rattle.abstract_debugger.specs.Stands.{Deals, Origin, Target}
use Rattle.abstract_debugger.specs.Turns.{after_turns}
use Rattle.abstract_debugger.specs.Ways.{Way}
use Rattle.abstract_debugger.proofs.DealsLemmas.{deals_put, deals_unpathed}
use Rattle.probe_access.specs.Blocks.{element_at, value_at}
use Rattle.probe_run.specs.Happens.{target_of}
use Rattle.probe_session.specs.Blocks.{MayLoad, Says, Stores, loading}
use Rattle.probe_session.proofs.BlockDeals.{EachLoaded, EachStored, LoadedOnce, later_is, store_once}
use Rattle.probe_session.proofs.ToldWrites.{load_deals}
use Rattle.left_laws.proofs.PathLemmas.{frozen_along}
use Rattle.left_laws.proofs.Puts.{stays_between}
use Rattle.cut_laws.specs.MemoryCutLaws.{QuietLoads, QuietStores}

-- ---- a halted hart stands still meanwhile

pub loads_frozen : (k : ℕ) (size : Size) {address : ℕ} {s t : Site} {values : List ℕ} → EachLoaded size address s values t → IsFrozenAt k s.board
    → IsFrozenAt k t.board
loads_frozen k size EachLoaded.nothing frozen = frozen
loads_frozen k size {s = s} (EachLoaded.further m one each) frozen =
    loads_frozen k size each
    (frozen_along k s.board m.board
    (ap (λ (b : Board). slice_get b.harts k) one.access.board
    ∙ stays_between k one.before one.behind (after_turns one.before s.board).memory s.board frozen) frozen)

pub stores_frozen : (k : ℕ) (size : Size) {address : ℕ} {s t : Site} {values : List ℕ} → EachStored size address s values t → IsFrozenAt k s.board
    → IsFrozenAt k t.board
stores_frozen k size EachStored.nothing frozen = frozen
stores_frozen k size {address} {s = s} (EachStored.further {value = value} m one each) frozen =
    stores_frozen k size each
    (frozen_along k s.board m.board
    (ap (λ (b : Board). slice_get b.harts k) one.access.board
    ∙ stays_between k one.before one.behind (after_store (after_turns one.before s.board).memory address size value) s.board frozen) frozen)

-- ---- the plan

-- it changes nothing here
pub record QuietAt (m : Machine) (h : ℕ) (way : Way) (o : Origin) (t : Target) : Type 0 where
  pub plan : Plan
  pub lines : List Line
  pub deals : Deals m h way o plan lines t
  pub quiet : Quiet plan

-- a load comes next
pub record LoadAt (m : Machine) (h : ℕ) (way : Way) (o : Origin) (t : Target) : Type 0 where
  pub size : Size
  pub address : ℕ
  pub faulted : Plan
  pub read : ℕ → Plan
  pub lines : List Line
  pub deals : Deals m h way o (take Access (see (λ b. by_load (loaded b.memory address size) faulted read))) lines t
  pub fault : Quiet faulted
  pub reads : (v : ℕ) → Quiet (read v)

-- a store of this value at this address comes next
pub record StoreAt (m : Machine) (h : ℕ) (way : Way) (o : Origin) (size : Size) (value address : ℕ) (t : Target) : Type 0 where
  pub faulted : Plan
  pub stored : Plan
  pub lines : List Line
  pub deals : Deals m h way o
      (take Access (see (λ b. by_store (store_answer b.memory address size) faulted (change (WriteMem address (count_of size) value) stored)))) lines t
  pub fault : Quiet faulted
  pub stores : Quiet stored

-- ---- loads

says_quiet : {p q : Plan} {lines : List Line} → Says p lines q → Quiet q → Quiet p
says_quiet Says.nothing quiet = quiet
says_quiet (Says.further plain s) quiet = says_quiet s quiet

-- where some lines have been said
record Along (m : Machine) (h : ℕ) (way : Way) (o : Origin) (p : Plan) (t : Target) : Type 0 where
  lines : List Line
  deals : Deals m h way o p lines t

says_along : (m : Machine) (h : ℕ) (way : Way) (o : Origin) {p q : Plan} {said : List Line} (lines : List Line) (t : Target) → Says p said q
    → Deals m h way o p lines t → Along m h way o q t
says_along m h way o lines t Says.nothing d = record { lines = lines; deals = d }
says_along m h way o lines t (Says.further {line} {next = next} plain s) d =
    says_along m h way o (lines ++ line ∷ []) t s (deals_put m h way o line next lines t d)

first_load : {path : Path} {size : Size} {address count : ℕ} {p : Plan} (may : MayLoad path size address count p) → QuietLoads may → Quiet p
first_load MayLoad.nothing quiet = quiet
first_load (MayLoad.further faulted read said next says may) quiet = tt

load_once : (path : Path) (size : Size) (address value : ℕ) (m : Machine) (h : ℕ) (way : Way) (o : Origin) (faulted : Plan) (read : ℕ → Plan)
    (lines : List Line) (s t : Site) → LoadedOnce size address value s t
    → Deals m h way o (loading path size address faulted read) lines (target_of s) → Deals m h way o (read value) lines (target_of t)
load_once path size address value m h way o faulted read lines s t one d =
    load_deals m h way size address value o faulted read lines one.before one.behind s t one.value_is one.access
    (deals_unpathed m h way o path _ lines (target_of s) d)

pub loads_quiet : (path : Path) (size : Size) (m : Machine) (h : ℕ) (way : Way) (o : Origin) {address : ℕ} {p : Plan} (count : ℕ) (values : List ℕ)
    (lines : List Line) (s t : Site) (may : MayLoad path size address count p) → QuietLoads may → EachLoaded size address s values t → length values ≤ count
    → Deals m h way o p lines (target_of s) → QuietAt m h way o (target_of t)
loads_quiet path size m h way o {p = p} count [] lines s t may quiet EachLoaded.nothing few d =
    record { plan = p; lines = lines; deals = d; quiet = first_load may quiet }
loads_quiet path size m h way o zero (value ∷ values) lines s t may quiet each few d = absurd (omega (arith, few))
loads_quiet path size m h way o {address} (suc count) (value ∷ values) lines s t (MayLoad.further faulted read said next says may) quiet
    (EachLoaded.further k one each) few d =
    let a : Along m h way o (next value) (target_of k) =
    says_along m h way o lines (target_of k) (says value) (load_once path size address value m h way o faulted read lines s k one d) in
    loads_quiet path size m h way o {address = address + count_of size} count values a.lines k t (may value) (quiet.1 value) each (omega (arith, few)) a.deals

pub loads_at : (path : Path) (size : Size) (m : Machine) (h : ℕ) (way : Way) (o : Origin) {address : ℕ} {p : Plan} (count : ℕ) (values : List ℕ)
    (lines : List Line) (s t : Site) (may : MayLoad path size address count p) → QuietLoads may → EachLoaded size address s values t → length values < count
    → Deals m h way o p lines (target_of s) → LoadAt m h way o (target_of t)
loads_at path size m h way o zero values lines s t may quiet each few d = absurd (omega (arith, few))
loads_at path size m h way o {address} (suc count) [] lines s t (MayLoad.further faulted read said next says may) quiet EachLoaded.nothing few d = record {
  size = size;
  address = address;
  faulted = faulted;
  read = read;
  lines = lines;
  deals = deals_unpathed m h way o path _ lines (target_of t) d;
  fault = quiet.0;
  reads = λ v. says_quiet (says v) (first_load (may v) (quiet.1 v));
}
loads_at path size m h way o {address} (suc count) (value ∷ values) lines s t (MayLoad.further faulted read said next says may) quiet
    (EachLoaded.further k one each) few d =
    let a : Along m h way o (next value) (target_of k) =
    says_along m h way o lines (target_of k) (says value) (load_once path size address value m h way o faulted read lines s k one d) in
    loads_at path size m h way o {address = address + count_of size} count values a.lines k t (may value) (quiet.1 value) each (omega (arith, few)) a.deals

-- ---- stores

first_is : (size : Size) (address : ℕ) → element_at size address 0 ≡ address
first_is size address = omega arith

first_store : {path : Path} {size : Size} {address : ℕ} {values : List ℕ} {p to : Plan} (stores : Stores path size address values p to)
    → QuietStores stores → Quiet p
first_store Stores.nothing quiet = quiet
first_store (Stores.further faulted next rest) quiet = tt

pub stores_quiet : (path : Path) (size : Size) (m : Machine) (h : ℕ) (way : Way) (o : Origin) {address : ℕ} (values : List ℕ) (done : ℕ) {p to : Plan}
    (lines : List Line) (s t : Site) (stores : Stores path size address values p to) → QuietStores stores → EachStored size address s (first_of done values) t
    → done ≤ length values → Deals m h way o p lines (target_of s) → QuietAt m h way o (target_of t)
stores_quiet path size m h way o values zero lines s t stores quiet EachStored.nothing few d =
    record { plan = _; lines = lines; deals = d; quiet = first_store stores quiet }
stores_quiet path size m h way o [] (suc done) lines s t stores quiet each few d = absurd (omega (arith, few))
stores_quiet path size m h way o {address} (value ∷ values) (suc done) lines s t (Stores.further faulted next rest) quiet
    (EachStored.further k one each) few d =
    stores_quiet path size m h way o {address = address + count_of size} values done lines k t rest quiet.1 each (omega (arith, few))
    (store_once path size address value m h way o faulted next lines s k one d)

pub stores_at : (path : Path) (size : Size) (m : Machine) (h : ℕ) (way : Way) (o : Origin) {address : ℕ} {p to : Plan} (values : List ℕ) (done : ℕ)
    (lines : List Line) (s t : Site) (stores : Stores path size address values p to) → QuietStores stores → EachStored size address s (first_of done values) t
    → done < length values → Deals m h way o p lines (target_of s)
    → StoreAt m h way o size (value_at values done) (element_at size address done) (target_of t)
stores_at path size m h way o [] done lines s t stores quiet each few d = absurd (omega (arith, few))
stores_at path size m h way o {address} (value ∷ values) zero lines s t (Stores.further faulted next rest) quiet EachStored.nothing few d =
    subst (λ a. StoreAt m h way o size value a (target_of t)) (sym (first_is size address)) (record {
      faulted = faulted;
      stored = next;
      lines = lines;
      deals = deals_unpathed m h way o path _ lines (target_of t) d;
      fault = quiet.0;
      stores = first_store rest quiet.1;
    })
stores_at path size m h way o {address} (value ∷ values) (suc done) lines s t (Stores.further faulted next rest) quiet
    (EachStored.further k one each) few d =
    subst (λ a. StoreAt m h way o size (value_at values done) a (target_of t)) (sym (later_is size address done))
    (stores_at path size m h way o {address = address + count_of size} values done lines k t rest quiet.1 each (omega (arith, few))
    (store_once path size address value m h way o faulted next lines s k one d))
