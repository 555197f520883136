-- Calls on blocks of memory, as a session tells of them: whole ones, refused ones, and those that broke off.
use Rattle.std.proofs.Common.{◌≡◌, ◌<◌, ◌∙◌, ◌++◌, ℕ, true, false, List, length, map, replicate, Option, Some, None, refl, subst, arith, sym}
use Rattle.std.proofs.lemmas.List.{length-map, length-replicate}
use Rattle.rv_model.specs.declared.size.Size.{Size}
use Rattle.debug_model.specs.declared.command.Path.TheVariants.{Progbuf, Bus}
use Rattle.debug_model.specs.Module.{Site}
use Rattle.debug_model.specs.Scan.{WhereTold}
use Rattle.debug_model.specs.Told.{Far, IsReady}
use Rattle.abstract_debugger.specs.Ways.Way.{Idle, Still}
use Rattle.probe_access.specs.declared.fault.AccessFault.{AccessFault}
use Rattle.probe_access.specs.declared.fault.AccessFault.TheVariants as fault
use Rattle.probe_access.specs.Accesses.{IfMemory}
use Rattle.probe_access.specs.BlockCuts.{BlockLoadCut, BlockStoreCut}
use Rattle.probe_access.specs.BlockRuns.{Fetched}
use Rattle.probe_access.specs.Blocks.{BlockLoadLeft, BlockLoadedAt, BlockStoreLeft}
use Rattle.probe_access.specs.BusBlockRuns.{BusLoads, BusLoadsRefused}
use Rattle.probe_access.specs.BusBlocks.{BusBlockLoadCut, BusBlockLoadLeft, BusBlockLoadedAt}
use Rattle.probe_access.specs.BusRuns.{cut_to}
use Rattle.probe_access.specs.Cuts.{AccessLeftOff, BusLeftOff, IfCut, Leaves, LoadLeaves}
use Rattle.probe_access.specs.ReadRuns.{is_wide}
use Rattle.probe_access.specs.ElementRuns.{LoadRuns, LoadRunsFailed, StoreRunsFailed}
use Rattle.probe_access.proofs.CutSites.{if_cut}
use Rattle.probe_run.specs.Acts.{Tells}
use Rattle.probe_run.specs.Told.{Serving}
use Rattle.probe_session.specs.Answers.{BlockLoadedAs, RefusedStore}
use Rattle.probe_session.specs.BlockCalls.{BlockLoaded, BlockLoadedNone, BlockStoredNone, BusLoadsCut, LoadsCut, SomeLoaded, SomeStored, StoresCut}
use Rattle.probe_session.proofs.CutLemmas.{bus_loaded_cut, bus_refused_cut, loaded_cut, refused_cut}

as_many : (size : Size) (held : List ℕ) → length (map (cut_to size) held) ≡ length held
as_many size held = length-map held (cut_to size)

-- ---- whole ones

pub block_loaded : (h : ℕ) (size : Size) (address count : ℕ) (held : List ℕ) (old new : Tells) → Serving h old.far → length held ≡ count
    → LoadRuns size address count old held new → Fetched (is_wide size) held old new → WhereTold (BlockLoadedAt size address held) old.far new.far
    → BlockLoadedAs Progbuf Still h size address count (map (cut_to size) held) old new true
block_loaded h size address count held old new serving all runs fetched told = (
  as_many size held ∙ all,
  BlockLoaded.by_hart held refl tt serving (subst (λ n. LoadRuns size address n old held new) (sym all) runs) fetched
      (loaded_cut size address held old.far new.far serving.ready told),
)

pub bus_block_loaded : (size : Size) (address count : ℕ) (held : List ℕ) (old new : Tells) → IsReady old.far → length held ≡ count
    → BusLoads size address old held new → WhereTold (BusBlockLoadedAt size address held) old.far new.far
    → BlockLoadedAs Bus Idle 0 size address count (map (cut_to size) held) old new true
bus_block_loaded size address count held old new ready all loads told =
    (as_many size held ∙ all, BlockLoaded.by_bus held refl loads (bus_loaded_cut size address held old.far new.far ready told))

-- ---- refused ones

fewer : (size : Size) (held : List ℕ) (count : ℕ) → length held < count → length (map (cut_to size) held) < count
fewer size held count below = let e : length (map (cut_to size) held) ≡ length held = as_many size held in omega (arith, e, below)

pub block_loaded_none : (h : ℕ) (size : Size) (address count at old_count new_count : ℕ) (held : List ℕ) (old new : Tells) (e : AccessFault)
    → Serving h old.far → e ≡ fault.Memory at → BlockLoadLeft size address count held old.far new.far e
    → LoadRunsFailed size address count held old_count new_count old new e → IfMemory (Fetched (is_wide size) held old new) e
    → BlockLoadedAs Progbuf Still h size address count (map (cut_to size) held) old new false
block_loaded_none h size address count at old_count new_count held old new e serving is left failed fetched =
    let l = subst (BlockLoadLeft size address count held old.far new.far) is left in
    let h = subst (λ x. LoadRunsFailed size address count held old_count new_count old new x) is failed in (
      fewer size held count l.0,
      BlockLoadedNone.by_hart held count old_count new_count refl tt serving
          (subst (λ a. LoadRunsFailed size address count held old_count new_count old new (fault.Memory a)) l.1 h)
          (subst (IfMemory (Fetched (is_wide size) held old new)) is fetched) (refused_cut size address held old.far new.far serving.ready l.2),
    )

pub bus_block_loaded_none : (size : Size) (address count at : ℕ) (held : List ℕ) (old new : Tells) (e : AccessFault)
    → IsReady old.far → e ≡ fault.Memory at → BusBlockLoadLeft size address count held old.far new.far e
    → IfMemory (BusLoadsRefused size address held old new) e
    → BlockLoadedAs Bus Idle 0 size address count (map (cut_to size) held) old new false
bus_block_loaded_none size address count at held old new e ready is left refused =
    let l = subst (BusBlockLoadLeft size address count held old.far new.far) is left in (
      fewer size held count l.0,
      BlockLoadedNone.by_bus held refl
          (subst (IfMemory (BusLoadsRefused size address held old new)) is refused) (bus_refused_cut size address held old.far new.far ready l.2),
    )

pub block_stored_none : (h : ℕ) (size : Size) (address value count at old_count new_count : ℕ) (old new : Tells) (e : AccessFault) → Serving h old.far
    → e ≡ fault.Memory at → BlockStoreLeft size address count value old.far new.far e
    → StoreRunsFailed size address value count old_count new_count old new e → RefusedStore Progbuf Still h size address (replicate count value) at old new
block_stored_none h size address value count at old_count new_count old new e serving is left failed =
    let l = subst (BlockStoreLeft size address count value old.far new.far) is left in
    let f = subst (λ x. StoreRunsFailed size address value count old_count new_count old new x) is failed in
    record {
      done = l.0;
      below = subst (λ n. l.0 < n) (sym (length-replicate {A = ℕ} count value)) l.1;
      at_is = l.2;
      none = BlockStoredNone.by_hart value count old_count new_count refl tt serving
          (subst (λ a. StoreRunsFailed size address value count old_count new_count old new (fault.Memory a)) l.2 f) l.3;
    }

-- ---- those that broke off

pub leaves_as : (R S : Site → Site → Type 0) (old new : Option Far) → ((s t : Site) → R s t → S s t) → Leaves R old new → Leaves S old new
leaves_as R S None new step l = tt
leaves_as R S (Some f) new step l = record { far = l.far; is = l.is; left = step _ _ l.left }

loads_left : (size : Size) (address count h : ℕ) (held : List ℕ) (s t : Site) → BlockLoadCut size address count held h s t
    → LoadsCut size address count h s t
loads_left size address count h held s t (BlockLoadCut.within more mid below each (AccessLeftOff.before_it a)) =
    SomeLoaded.between (held ++ more) mid each (omega (arith, below)) a
loads_left size address count h held s t (BlockLoadCut.within more mid below each (AccessLeftOff.behind_it a)) =
    SomeLoaded.within (held ++ more) mid each below a
loads_left size address count h held s t (BlockLoadCut.behind more mid all each a) = SomeLoaded.between (held ++ more) mid each (omega (arith, all)) a

pub loads_cut : (size : Size) (address count h : ℕ) (held : List ℕ) (old new : Option Far) (e : AccessFault)
    → IfCut (Leaves (BlockLoadCut size address count held h) old new) e → IfCut (Leaves (LoadsCut size address count h) old new) e
loads_cut size address count h held old new e cut =
    if_cut (Leaves (BlockLoadCut size address count held h) old new) (Leaves (LoadsCut size address count h) old new) e
    (leaves_as (BlockLoadCut size address count held h) (LoadsCut size address count h) old new
    (λ s t c. loads_left size address count h held s t c)) cut

stores_left : (size : Size) (address value count h : ℕ) (s t : Site) → BlockStoreCut size address value count h s t
    → StoresCut size address value count h s t
stores_left size address value count h s t (BlockStoreCut.within done mid below each (AccessLeftOff.before_it a)) =
    SomeStored.between done mid each (omega (arith, below)) a
stores_left size address value count h s t (BlockStoreCut.within done mid below each (AccessLeftOff.behind_it a)) = SomeStored.within done mid each below a
stores_left size address value count h s t (BlockStoreCut.behind mid each a) = SomeStored.between count mid each (omega arith) a

pub stores_cut : (size : Size) (address value count h : ℕ) (old new : Option Far) (e : AccessFault)
    → IfCut (Leaves (BlockStoreCut size address value count h) old new) e
    → IfCut (Leaves (StoresCut size address value count h) old new) e
stores_cut size address value count h old new e cut =
    if_cut (Leaves (BlockStoreCut size address value count h) old new) (Leaves (StoresCut size address value count h) old new) e
    (leaves_as (BlockStoreCut size address value count h) (StoresCut size address value count h) old new
    (λ s t c. stores_left size address value count h s t c)) cut

bus_loads_left : (size : Size) (address count : ℕ) (held : List ℕ) (s t : Site) → BusBlockLoadCut size address count held s t
    → BusLoadsCut size address count s t
bus_loads_left size address count held s t c = by_access c.left
  where
    by_access : BusLeftOff LoadLeaves c.mid t → BusLoadsCut size address count s t
    by_access (BusLeftOff.before_it a) = SomeLoaded.between (held ++ c.more) c.mid c.each (omega (arith, c.below)) a
    by_access (BusLeftOff.behind_it a) = SomeLoaded.within (held ++ c.more) c.mid c.each c.below a

pub bus_loads_cut : (size : Size) (address count : ℕ) (held : List ℕ) (old new : Option Far) (e : AccessFault)
    → IfCut (Leaves (BusBlockLoadCut size address count held) old new) e
    → IfCut (Leaves (BusLoadsCut size address count) old new) e
bus_loads_cut size address count held old new e cut =
    if_cut (Leaves (BusBlockLoadCut size address count held) old new) (Leaves (BusLoadsCut size address count) old new) e
    (leaves_as (BusBlockLoadCut size address count held) (BusLoadsCut size address count) old new
    (λ s t c. bus_loads_left size address count held s t c)) cut
