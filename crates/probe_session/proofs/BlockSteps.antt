-- Each call on a block of memory over a told chip.
use Rattle.std.proofs.Common.{◌≡◌, ◌∙◌, ◌≤◌, ◌<◌, ℕ, List, ◌++◌, length, replicate, take, ap, arith}
use Rattle.std.proofs.lemmas.List.{length-replicate}
use Rattle.rv_model.specs.declared.size.Size.{Size}
use Rattle.rv_model.specs.Board.{Machine}
use Rattle.debug_model.specs.declared.command.Path.{Path}
use Rattle.debug_model.specs.Told.{site_of}
use Rattle.abstract_debugger.specs.Lines.{Line}
use Rattle.abstract_debugger.specs.Plan.{Plan}
use Rattle.abstract_debugger.specs.Stands.{At, Origin}
use Rattle.abstract_debugger.specs.Ways.{Way}
use Rattle.abstract_debugger.proofs.DealsLemmas.{deals_unpathed}
use Rattle.probe_access.specs.Blocks.{BlockLoadRefused, BlockLoadedAt, BlockStoreRefused, BlockStoredAt, element_at, value_at}
use Rattle.probe_access.specs.BusBlocks.{BusBlockLoadRefused, BusBlockLoadedAt, BusValueStoreRefused, BusValuesStoredAt}
use Rattle.probe_run.specs.Acts.{Tells}
use Rattle.probe_run.specs.Happens.{target_of}
use Rattle.probe_session.specs.BlockCalls.{BlockLoaded, BlockLoadedNone, BlockStored, BlockStoredNone}
use Rattle.probe_session.specs.Blocks.{Loads, Stores, loading, storing}
use Rattle.probe_session.specs.Led.{target_at}
use Rattle.probe_session.proofs.BlockDeals.{all_bus_stored, all_copies_stored, copies_stored, each_bus_loaded, each_bus_stored, each_loaded, loads_deals}
use Rattle.probe_session.proofs.BlockDeals.{stores_deals}
use Rattle.probe_session.proofs.Tolds.{at_far, told_case}
use Rattle.probe_session.proofs.ToldWrites.{load_none_deals, store_none_deals}

pub block_loaded_at : {path : Path} (m : Machine) (h : ℕ) (way : Way) (size : Size) (address : ℕ) (o : Origin) (from to : Plan) (values : List ℕ)
    (said lines : List Line) (old new : Tells) → Loads path size address from values said to → BlockLoaded path way h size address values old new
    → At m h way o from lines (target_at old.far) → At m h way o to (lines ++ said) (target_at new.far)
block_loaded_at {path} m h way size address o from to values said lines old new loads (BlockLoaded.by_hart held cut known serving runs fetched told) a =
    told_case (BlockLoadedAt size address values) m h way o from lines (λ n. At m h way o to (lines ++ said) (target_at n)) old.far new.far
    (λ c d l. at_far m h way o to (lines ++ said) l.far _ l.is (loads_deals path size m h way o values lines (site_of c) (site_of l.far) loads
    (each_loaded size address (site_of c) (site_of l.far) values l.each) d)) told a
block_loaded_at {path} m h way size address o from to values said lines old new loads (BlockLoaded.by_bus held cut runs told) a =
    told_case (BusBlockLoadedAt size address values) m h way o from lines (λ n. At m h way o to (lines ++ said) (target_at n)) old.far new.far
    (λ c d l. at_far m h way o to (lines ++ said) l.far _ l.is (loads_deals path size m h way o values lines (site_of c) (site_of l.far) loads
    (each_bus_loaded size address (site_of c) (site_of l.far) values l.each) d)) told a

pub block_loaded_none_at : {path : Path} (m : Machine) (h : ℕ) (way : Way) (size : Size) (address : ℕ) (o : Origin) (from faulted : Plan) (read : ℕ → Plan)
    (values : List ℕ) (said lines : List Line) (old new : Tells)
    → Loads path size address from values said (loading path size (element_at size address (length values)) faulted read)
    → BlockLoadedNone path way h size address values old new
    → At m h way o from lines (target_at old.far) → At m h way o faulted (lines ++ said) (target_at new.far)
block_loaded_none_at {path} m h way size address o from faulted read values said lines old new loads
    (BlockLoadedNone.by_hart held count x y cut known serving heard fetched told) a =
    told_case (BlockLoadRefused size address values) m h way o from lines (λ n. At m h way o faulted (lines ++ said) (target_at n)) old.far new.far
    (λ c d l. at_far m h way o faulted (lines ++ said) l.far _ l.is (load_none_deals m h way size (element_at size address (length values)) l.refused.why o
    faulted read (lines ++ said) l.refused.before l.refused.behind l.mid (site_of l.far) l.refused.refused
    (record { board = l.refused.access.board; journal = l.refused.access.journal }) (deals_unpathed m h way o path _ (lines ++ said) (target_of l.mid)
    (loads_deals path size m h way o values lines (site_of c) l.mid loads (each_loaded size address (site_of c) l.mid values l.each) d)))) told a
block_loaded_none_at {path} m h way size address o from faulted read values said lines old new loads (BlockLoadedNone.by_bus held cut heard told) a =
    told_case (BusBlockLoadRefused size address values) m h way o from lines (λ n. At m h way o faulted (lines ++ said) (target_at n)) old.far new.far
    (λ c d l. at_far m h way o faulted (lines ++ said) l.far _ l.is (load_none_deals m h way size (element_at size address (length values)) l.refused.why o
    faulted read (lines ++ said) l.refused.before l.refused.behind l.mid (site_of l.far) l.refused.refused
    (record { board = l.refused.access.board; journal = l.refused.access.journal }) (deals_unpathed m h way o path _ (lines ++ said) (target_of l.mid)
    (loads_deals path size m h way o values lines (site_of c) l.mid loads (each_bus_loaded size address (site_of c) l.mid values l.each) d)))) told a

pub block_stored_at : {path : Path} (m : Machine) (h : ℕ) (way : Way) (size : Size) (address : ℕ) (values : List ℕ) (o : Origin) (from to : Plan)
    (lines : List Line) (old new : Tells) → Stores path size address values from to → BlockStored path way h size address values old new
    → At m h way o from lines (target_at old.far) → At m h way o to lines (target_at new.far)
block_stored_at {path} m h way size address values o from to lines old new stores (BlockStored.by_hart value count are known serving runs told) a =
    told_case (BlockStoredAt size address value count) m h way o from lines (λ n. At m h way o to lines (target_at n)) old.far new.far
    (λ c d l. at_far m h way o to lines l.far _ l.is (stores_deals path size m h way o values lines (site_of c) (site_of l.far) stores
    (all_copies_stored size address value count values (site_of c) (site_of l.far) are l.each) d)) told a
block_stored_at {path} m h way size address values o from to lines old new stores (BlockStored.by_bus runs told) a =
    told_case (BusValuesStoredAt size address values (length values)) m h way o from lines (λ n. At m h way o to lines (target_at n)) old.far new.far
    (λ c d l. at_far m h way o to lines l.far _ l.is (stores_deals path size m h way o values lines (site_of c) (site_of l.far) stores
    (all_bus_stored size address values (site_of c) (site_of l.far) l.each) d)) told a

-- copies are as many as were asked for
copies_below : (values : List ℕ) (value count done : ℕ) → values ≡ replicate count value → done < length values → done ≤ count
copies_below values value count done are below =
    let e : length values ≡ count = ap length are ∙ length-replicate {A = ℕ} count value in omega (arith, e, below)

pub block_stored_none_at : {path : Path} (m : Machine) (h : ℕ) (way : Way) (size : Size) (address : ℕ) (values : List ℕ) (done : ℕ) (o : Origin)
    (from faulted stored : Plan) (lines : List Line) (old new : Tells) → done < length values
    → Stores path size address (take done values) from (storing path size (element_at size address done) (value_at values done) faulted stored)
    → BlockStoredNone path way h size address values done old new
    → At m h way o from lines (target_at old.far) → At m h way o faulted lines (target_at new.far)
block_stored_none_at {path} m h way size address values done o from faulted stored lines old new below stores
    (BlockStoredNone.by_hart value count x y are known serving heard told) a =
    told_case (BlockStoreRefused size address value done) m h way o from lines (λ n. At m h way o faulted lines (target_at n)) old.far new.far
    (λ c d l. at_far m h way o faulted lines l.far _ l.is (store_none_deals m h way size (element_at size address done) l.refused.why o faulted _ lines
    l.refused.before l.refused.behind l.mid (site_of l.far) l.refused.refused
    (record { board = l.refused.access.board; journal = l.refused.access.journal }) (deals_unpathed m h way o path _ lines (target_of l.mid)
    (stores_deals path size m h way o (take done values) lines (site_of c) l.mid stores
    (copies_stored size address value count values (site_of c) l.mid done are (copies_below values value count done are below) l.each) d)))) told a
block_stored_none_at {path} m h way size address values done o from faulted stored lines old new below stores (BlockStoredNone.by_bus heard told) a =
    told_case (BusValueStoreRefused size address values done) m h way o from lines (λ n. At m h way o faulted lines (target_at n)) old.far new.far
    (λ c d l. at_far m h way o faulted lines l.far _ l.is (store_none_deals m h way size (element_at size address done) l.refused.why o faulted _ lines
    l.refused.before l.refused.behind l.mid (site_of l.far) l.refused.refused
    (record { board = l.refused.access.board; journal = l.refused.access.journal }) (deals_unpathed m h way o path _ lines (target_of l.mid)
    (stores_deals path size m h way o (take done values) lines (site_of c) l.mid stores
    (each_bus_stored size address values (site_of c) l.mid done (omega (arith, below)) l.each) d)))) told a
