-- The clauses on what an access by the system bus leaves of a told chip where it broke off.
use Rattle.std.proofs.Common.{◌≡◌, ◌∙◌, ◌++◌, ℕ, List, [], ◌∷◌, map, Bool, true, false, Option, Some, None, refl, sym, ap, subst, append_assoc, inl, inr, ◌⊎◌}
use Rattle.rv_model.specs.declared.size.Size.{Size}
use Rattle.rv_model.specs.declared.size.Size.TheVariants.{B1}
use Rattle.rv_model.specs.Board.{Board}
use Rattle.rv_model.specs.Memory.{Memory, after_store, is_aligned}
use Rattle.debug_model.specs.Addresses.{sbcs_address, sbdata0_address, sbdata1_address}
use Rattle.debug_model.specs.declared.bus_access.BusAccess.TheVariants as access
use Rattle.debug_model.specs.declared.dmi.DmiFault.{DmiFault}
use Rattle.debug_model.specs.declared.dmi_op.DmiOp.TheVariants.{Read, Write}
use Rattle.debug_model.specs.declared.point.Point.{Point}
use Rattle.debug_model.specs.declared.point.Point.TheVariants.{Access}
use Rattle.debug_model.specs.declared.sberror.Sberror.TheVariants.{Fine, Address}
use Rattle.debug_model.specs.Dmi.{DmiComing, SiteCut}
use Rattle.debug_model.specs.Dmi.SiteCut.{was_performed}
use Rattle.debug_model.specs.Module.{DebugModule, Site}
use Rattle.debug_model.specs.SystemBus.{BusUnit}
use Rattle.debug_model.specs.Told.{Far, IsReady, SiteReady, site_of}
use Rattle.abstract_debugger.specs.Turns.{after_turns, turns}
use Rattle.probe_access.specs.declared.fault.AccessFault.{AccessFault}
use Rattle.probe_access.specs.declared.fault.AccessFault.TheVariants as access_fault
use Rattle.probe_run.specs.Acts.{Act, Attempt, Broke, Did, Tells, tells}
use Rattle.probe_run.specs.Acts.Act.{Got, Put}
use Rattle.probe_run.specs.Acts.Attempt.{Operation}
use Rattle.probe_run.specs.Opening.{clears_sberror}
use Rattle.probe_access.specs.Accesses.{with_memory}
use Rattle.probe_access.specs.BusRuns.{
  BusEndFailed,
  BusEnding,
  BusFetching,
  BusLoadFailed,
  BusPollBegun,
  BusStoreFailed,
  Starting,
  bus_error,
  bus_poll,
  read_started,
  write_started,
}
use Rattle.probe_access.specs.BusRuns.BusEnding.{at_poll, at_clear}
use Rattle.probe_access.specs.BusRuns.BusFetching.{lower, upper}
use Rattle.probe_access.specs.BusRuns.BusLoadFailed.{in_start as load_start, in_end as load_end, in_fetch as load_fetch}
use Rattle.probe_access.specs.BusRuns.BusPollBegun.{polls}
use Rattle.probe_access.specs.BusRuns.BusStoreFailed.{in_start as store_start, in_end as store_end}
use Rattle.probe_access.specs.BusRuns.Starting.{next}
use Rattle.probe_access.specs.Faults.{BrokeIn}
use Rattle.probe_access.specs.Cuts.{BusLeftOff, IfCut, Leaves, LoadLeaves, StoreLeaves}
use Rattle.probe_access.specs.Cuts.BusLeftOff.{before_it, behind_it}
use Rattle.probe_access.proofs.Along.{AtSites, SiteActs, did_sites}
use Rattle.probe_access.proofs.Aside.{accessed, passed}
use Rattle.probe_access.proofs.BusClauses.{Finished, load_finished, memory_at, reading, store_finished, two_not_zero, writing}
use Rattle.probe_access.proofs.BusCuts.{BusLeft, Leaves as LeavesMemory, Nth, nth_of, read_left, stage_cut, stage_left, stage_polls, write_cut}
use Rattle.probe_access.proofs.BusCuts.BusLeft.{none, made}
use Rattle.probe_access.proofs.BusCuts.Nth.{here, there}
use Rattle.probe_access.proofs.BusSites.{AtBus, Works, at_bus}
use Rattle.probe_access.proofs.BusSites.Writes.{to_sbcs}
use Rattle.probe_access.proofs.BusStages.{BusStage, Pends}
use Rattle.probe_access.proofs.BusTold.{MadeAs, got0_at, got1_at, made_as, read_begun, unit_like, works_accessed, works_ready, write_begun}
use Rattle.probe_access.proofs.BusUnits.{ReadEnd, WriteEnd, bus_at, cleared_bus, pends, read_end, shown_by, write_end}
use Rattle.probe_access.proofs.BusUnits.ReadEnd.{was_read, not_read}
use Rattle.probe_access.proofs.BusUnits.WriteEnd.{was_written, not_written}
use Rattle.probe_access.proofs.CutSites.{CutAt, cut_always, cut_at, if_cut}
use Rattle.probe_access.proofs.ReadyTurns.{Passed, passed_turns}
use Rattle.probe_access.proofs.Turns.{unit_passed}
use Rattle.probe_access.proofs.BusStartCuts.{BusCut, no_more, read_leaves, read_start_cut, write_leaves, write_start_cut}

-- ---- cut among the polls

poll_cut : (N : Memory → Memory → Type 0) (p : BusUnit) (base : Site) (old_count new_count : ℕ) (started : Tells) (told : Option Far) (why : DmiFault)
    (acts : List Act) (failed : Attempt) (f : Far) → started.far ≡ Some f → Works base → Pends p → LeavesMemory N p
    → BusStage p base (site_of f) → BusPollBegun acts failed → Broke acts failed old_count new_count started told why → BusCut N base told
poll_cut N p base old_count new_count started told why _ _ f is w pending l st (polls words vain) b =
    let c : CutAt (map bus_poll words) (Read sbcs_address) f told =
    cut_at (map bus_poll words) (Read sbcs_address) old_count new_count started told why f is b in
    record {
      far = c.far;
      is = c.is;
      left = stage_left N p base (site_of c.far) l
          (stage_cut p base c.mid (site_of c.far) w pending (stage_polls p words base (site_of f) c.mid w pending st c.acts_are) c.cut);
    }

-- ---- cut at the clearing

either_made : (N : Memory → Memory → Type 0) (u x : BusUnit) (before : List ℕ) (n : Memory) (base t : Site) → N (passed before base).board.memory n
    → AtBus u (accessed n (passed before base)) t ⊎ AtBus x (accessed n (passed before base)) t → BusLeft N base t
either_made N u x before n base t left (inl a) = made u before n left a
either_made N u x before n base t left (inr a) = made x before n left a

clear_by : (N : Memory → Memory → Type 0) (on_address : Bool) (size : Size) (address value : ℕ) (before : List ℕ) (n : Memory) (base mid t : Site) → Works base
    → N (passed before base).board.memory n
    → AtBus (bus_at on_address size address value Address None) (accessed n (passed before base)) mid → SiteCut (Write sbcs_address clears_sberror) mid t
    → BusLeft N base t
clear_by N on_address size address value before n base mid t w left at cut =
    either_made N (bus_at on_address size address value Address None) (bus_at false B1 address value Fine None) before n base t left
    (write_cut N sbcs_address clears_sberror _ (bus_at on_address size address value Address None) (bus_at false B1 address value Fine None)
    (accessed n (passed before base)) mid t (to_sbcs clears_sberror) (works_accessed n before base w) refl
    (cleared_bus on_address size address value) refl at cut)

clear_nth : (N : Memory → Memory → Type 0) (on_address : Bool) (size : Size) (address value : ℕ) (before : List ℕ) (n : Memory) (base : Site)
    (old_count new_count : ℕ) (old : Tells) (f : Far) (told : Option Far) (why : DmiFault) (front : List Act) (a v : ℕ) → Works base
    → N (passed before base).board.memory n → old.far ≡ Some f
    → AtBus (bus_at on_address size address value Address None) (accessed n (passed before base)) (site_of f)
    → Nth (Put sbcs_address clears_sberror ∷ []) front (Put a v)
    → Broke front (Operation (Write a v)) old_count new_count old told why → BusCut N base told
clear_nth N on_address size address value before n base old_count new_count old f told why _ _ _ w left is at (here _ _) b =
    let c : CutAt [] (Write sbcs_address clears_sberror) f told = cut_at [] (Write sbcs_address clears_sberror) old_count new_count old told why f is b in
    record {
      far = c.far;
      is = c.is;
      left = clear_by N on_address size address value before n base c.mid (site_of c.far) w left
          (subst (λ (x : Site). AtBus (bus_at on_address size address value Address None) (accessed n (passed before base)) x) (sym c.acts_are) at) c.cut;
    }
clear_nth N on_address size address value before n base old_count new_count old f told why _ a v w left is at (there _ _ front _ e) b =
    absurd (no_more front (Put a v) e)

clear_cut : (N : Memory → Memory → Type 0) (on_address : Bool) (size : Size) (address value : ℕ) (before : List ℕ) (n : Memory) (base : Site)
    (old_count new_count : ℕ) (old : Tells) (f : Far) (told : Option Far) (why : DmiFault) (acts : List Act) (failed : Attempt)
    → Works base → N (passed before base).board.memory n → old.far ≡ Some f
    → AtBus (bus_at on_address size address value Address None) (accessed n (passed before base)) (site_of f)
    → Starting (Put sbcs_address clears_sberror ∷ []) acts failed
    → Broke acts failed old_count new_count old told why → BusCut N base told
clear_cut N on_address size address value before n base old_count new_count old f told why _ _ w left is at (next front rest a v e) b =
    clear_nth N on_address size address value before n base old_count new_count old f told why front a v w left is at
    (nth_of (Put sbcs_address clears_sberror ∷ []) front rest (Put a v) e) b

-- ---- cut at the fetching

got_one : (size : Size) (address v low : ℕ) (base s t : Site) → Works base → AtBus (bus_at true size address v Fine None) base s
    → SiteActs (Got sbdata0_address low ∷ []) s t → AtBus (bus_at true size address v Fine None) base t
got_one size address v low base s t w at p =
    let u : BusUnit = bus_at true size address v Fine None in
    subst (λ (x : Site). AtBus u base x) (sym p.2)
    (read_left LoadLeaves sbdata0_address u base s p.0 w refl (λ z active. got0_at u z true size address v active) at (was_performed p.1.result p.1.one))

fetch_cut : (size : Size) (address v : ℕ) (before : List ℕ) (base : Site) (old_count new_count : ℕ) (old : Tells) (f : Far) (told : Option Far)
    (why : DmiFault) (acts : List Act) (failed : Attempt) → Works base → old.far ≡ Some f
    → AtBus (bus_at true size address v Fine None) (accessed (passed before base).board.memory (passed before base)) (site_of f) → BusFetching acts failed
    → Broke acts failed old_count new_count old told why → BusCut LoadLeaves base told
fetch_cut size address v before base old_count new_count old f told why _ _ w is at lower b =
    let u : BusUnit = bus_at true size address v Fine None in
    let m : Memory = (passed before base).board.memory in
    let z : Site = accessed m (passed before base) in
    let c : CutAt [] (Read sbdata0_address) f told = cut_at [] (Read sbdata0_address) old_count new_count old told why f is b in
    record {
      far = c.far;
      is = c.is;
      left = made u before m refl
          (read_left LoadLeaves sbdata0_address u z c.mid (site_of c.far) (works_accessed m before base w) refl
          (λ y active. got0_at u y true size address v active) (subst (λ (x : Site). AtBus u z x) (sym c.acts_are) at) c.cut);
    }
fetch_cut size address v before base old_count new_count old f told why _ _ w is at (upper low) b =
    let u : BusUnit = bus_at true size address v Fine None in
    let m : Memory = (passed before base).board.memory in
    let z : Site = accessed m (passed before base) in
    let c : CutAt (Got sbdata0_address low ∷ []) (Read sbdata1_address) f told =
    cut_at (Got sbdata0_address low ∷ []) (Read sbdata1_address) old_count new_count old told why f is b in
    let mid : AtBus u z c.mid = got_one size address v low z (site_of f) c.mid (works_accessed m before base w) at c.acts_are in
    record {
      far = c.far;
      is = c.is;
      left = made u before m refl (read_left LoadLeaves sbdata1_address u z c.mid (site_of c.far) (works_accessed m before base w) refl
          (λ y active. got1_at y true size address v active) mid c.cut);
    }

-- ---- the end of a load

load_clear : (size : Size) (address last : ℕ) (f : Far) (mid : Tells) (told : Option Far) (old_count new_count : ℕ) (why : DmiFault) → SiteReady (site_of f)
    → (w : Finished (reading size address (site_of f)) last f mid.far) → bus_error last ≡ 2
    → BrokeIn (Starting (Put sbcs_address clears_sberror ∷ [])) old_count new_count mid told why
    → ReadEnd size address (site_of f).unit.bus.value (memory_at w.made.before (site_of f)) → BusCut LoadLeaves (site_of f) told
load_clear size address last f mid told old_count new_count why ready w outside b (was_read v is done) =
    let s : Site = site_of f in
    let a : MadeAs (bus_at true size address v Fine None) (memory_at w.made.before s) w.made.before last s (site_of w.far) =
    made_as (reading size address s) _ _ last s (site_of w.far) w.made done in
    absurd (two_not_zero (bus_error last) outside (ap bus_error a.shows ∙ (shown_by true size false false).error_is))
load_clear size address last f mid told old_count new_count why ready w outside b (not_read wrong is done) =
    let s : Site = site_of f in
    let m : Memory = memory_at w.made.before s in
    let a : MadeAs (bus_at true size address s.unit.bus.value Address None) m w.made.before last s (site_of w.far) =
    made_as (reading size address s) _ _ last s (site_of w.far) w.made done in
    clear_cut LoadLeaves true size address s.unit.bus.value w.made.before m s old_count new_count mid w.far told why b.acts b.failed (works_ready s ready) refl
    w.is a.after b.begun b.broke

load_ending : (size : Size) (address : ℕ) (f : Far) (coming : Option DmiComing) (started new : Tells) (old_count new_count : ℕ) (why : DmiFault)
    → SiteReady (site_of f) → is_aligned address size ≡ true → Did (tells (Some f) coming) (read_started size address) started
    → BusEnding old_count new_count started new why → BusCut LoadLeaves (site_of f) new.far
load_ending size address f coming started new old_count new_count why ready aligned did (at_poll b) =
    let s : Site = site_of f in
    let one : AtSites (read_started size address) f started.far = did_sites (tells (Some f) coming) (read_started size address) started f did refl in
    poll_cut LoadLeaves (reading size address s) s old_count new_count started new.far why b.acts b.failed one.far one.is (works_ready s ready)
    (pends true size address s.unit.bus.value access.Read) (read_leaves size address s.unit.bus.value)
    (read_begun size address s (site_of one.far) ready aligned one.acts_are) b.begun b.broke
load_ending size address f coming started new old_count new_count why ready aligned did (at_clear last mid polled outside b) =
    let w : Finished (reading size address (site_of f)) last f mid.far = load_finished size address last f coming started mid ready aligned did polled in
    load_clear size address last f mid new.far old_count new_count why ready w outside b
    (read_end size address (site_of f).unit.bus.value (memory_at w.made.before (site_of f)))

load_end_cut : (size : Size) (address : ℕ) (f : Far) (coming : Option DmiComing) (started new : Tells) (old_count new_count : ℕ) (e : AccessFault)
    → SiteReady (site_of f) → is_aligned address size ≡ true → Did (tells (Some f) coming) (read_started size address) started
    → BusEndFailed address old_count new_count started new e → IfCut (BusCut LoadLeaves (site_of f) new.far) e
load_end_cut size address f coming started new old_count new_count (access_fault.Dmi why) ready aligned did g =
    load_ending size address f coming started new old_count new_count why ready aligned did g
load_end_cut size address f coming started new old_count new_count (access_fault.Memory at) ready aligned did g = tt
load_end_cut size address f coming started new old_count new_count (access_fault.Register number) ready aligned did g = tt
load_end_cut size address f coming started new old_count new_count access_fault.StillBusy ready aligned did g =
    let s : Site = site_of f in
    let one : AtSites (read_started size address) f started.far = did_sites (tells (Some f) coming) (read_started size address) started f did refl in
    let two : AtSites (map bus_poll g.words) one.far new.far = did_sites started (map bus_poll g.words) new one.far g.did one.is in
    record {
      far = two.far;
      is = two.is;
      left = stage_left LoadLeaves (reading size address s) s (site_of two.far) (read_leaves size address s.unit.bus.value)
          (stage_polls (reading size address s) g.words s (site_of one.far) (site_of two.far) (works_ready s ready)
          (pends true size address s.unit.bus.value access.Read) (read_begun size address s (site_of one.far) ready aligned one.acts_are) two.acts_are);
    }
load_end_cut size address f coming started new old_count new_count (access_fault.Run why) ready aligned did g = tt
load_end_cut size address f coming started new old_count new_count (access_fault.Odd shown) ready aligned did g = tt

load_fetch_by : (size : Size) (address last : ℕ) (f : Far) (ended new : Tells) (old_count new_count : ℕ) (why : DmiFault) → SiteReady (site_of f)
    → (w : Finished (reading size address (site_of f)) last f ended.far) → bus_error last ≡ 0
    → BrokeIn BusFetching old_count new_count ended new.far why → ReadEnd size address (site_of f).unit.bus.value (memory_at w.made.before (site_of f))
    → BusCut LoadLeaves (site_of f) new.far
load_fetch_by size address last f ended new old_count new_count why ready w fine b (was_read v is done) =
    let s : Site = site_of f in
    let a : MadeAs (bus_at true size address v Fine None) (memory_at w.made.before s) w.made.before last s (site_of w.far) =
    made_as (reading size address s) _ _ last s (site_of w.far) w.made done in
    fetch_cut size address v w.made.before s old_count new_count ended w.far new.far why b.acts b.failed (works_ready s ready) w.is a.after b.begun b.broke
load_fetch_by size address last f ended new old_count new_count why ready w fine b (not_read wrong is done) =
    let s : Site = site_of f in
    let a : MadeAs (bus_at true size address s.unit.bus.value Address None) (memory_at w.made.before s) w.made.before last s (site_of w.far) =
    made_as (reading size address s) _ _ last s (site_of w.far) w.made done in
    absurd (two_not_zero (bus_error last) (ap bus_error a.shows ∙ (shown_by true size false true).error_is) fine)

by_fault : (P : Type 0) (e : AccessFault) (why : DmiFault) → e ≡ access_fault.Dmi why → P → IfCut P e
by_fault P e why is p = cut_always P e p

load_cut : (size : Size) (address : ℕ) (f : Far) (coming : Option DmiComing) (new : Tells) (old_count new_count : ℕ) (e : AccessFault) → SiteReady (site_of f)
    → is_aligned address size ≡ true → BusLoadFailed size address old_count new_count (tells (Some f) coming) new e
    → IfCut (BusCut LoadLeaves (site_of f) new.far) e
load_cut size address f coming new old_count new_count e ready aligned (load_start why is b) =
    by_fault (BusCut LoadLeaves (site_of f) new.far) e why is
    (read_start_cut size address old_count new_count f coming new.far why b.acts b.failed ready aligned b.begun b.broke)
load_cut size address f coming new old_count new_count e ready aligned (load_end started did g) =
    load_end_cut size address f coming started new old_count new_count e ready aligned did g
load_cut size address f coming new old_count new_count e ready aligned (load_fetch started ended did ends why is b) =
    let w : Finished (reading size address (site_of f)) ends.last f ended.far =
    load_finished size address ends.last f coming started ended ready aligned did ends.polled in
    by_fault (BusCut LoadLeaves (site_of f) new.far) e why is
    (load_fetch_by size address ends.last f ended new old_count new_count why ready w ends.fine b
    (read_end size address (site_of f).unit.bus.value (memory_at w.made.before (site_of f))))

-- ---- the end of a store

store_clear : (size : Size) (address value last : ℕ) (f : Far) (mid : Tells) (told : Option Far) (old_count new_count : ℕ) (why : DmiFault)
    → SiteReady (site_of f) → (w : Finished (writing size address value) last f mid.far) → bus_error last ≡ 2
    → BrokeIn (Starting (Put sbcs_address clears_sberror ∷ [])) old_count new_count mid told why
    → WriteEnd size address value (memory_at w.made.before (site_of f)) → BusCut (StoreLeaves size address value) (site_of f) told
store_clear size address value last f mid told old_count new_count why ready w outside b (was_written done is makes) =
    let s : Site = site_of f in
    let a : MadeAs (bus_at false size address value Fine None) (after_store (memory_at w.made.before s) address size value) w.made.before last s
    (site_of w.far) = made_as (writing size address value) _ _ last s (site_of w.far) w.made makes in
    absurd (two_not_zero (bus_error last) outside (ap bus_error a.shows ∙ (shown_by false size false false).error_is))
store_clear size address value last f mid told old_count new_count why ready w outside b (not_written wrong is makes) =
    let s : Site = site_of f in
    let n : Memory = after_store (memory_at w.made.before s) address size value in
    let a : MadeAs (bus_at false size address value Address None) n w.made.before last s (site_of w.far) =
    made_as (writing size address value) _ _ last s (site_of w.far) w.made makes in
    clear_cut (StoreLeaves size address value) false size address value w.made.before n s old_count new_count mid w.far told why b.acts b.failed
    (works_ready s ready) refl w.is a.after b.begun b.broke

store_ending : (size : Size) (address value : ℕ) (f : Far) (coming : Option DmiComing) (started new : Tells) (old_count new_count : ℕ) (why : DmiFault)
    → SiteReady (site_of f) → is_aligned address size ≡ true
    → Did (tells (Some f) coming) (write_started size address value) started → BusEnding old_count new_count started new why
    → BusCut (StoreLeaves size address value) (site_of f) new.far
store_ending size address value f coming started new old_count new_count why ready aligned did (at_poll b) =
    let s : Site = site_of f in
    let one : AtSites (write_started size address value) f started.far =
    did_sites (tells (Some f) coming) (write_started size address value) started f did refl in
    poll_cut (StoreLeaves size address value) (writing size address value) s old_count new_count started new.far why b.acts b.failed one.far one.is
    (works_ready s ready) (pends false size address value access.Write) (write_leaves size address value)
    (write_begun size address value s (site_of one.far) ready aligned one.acts_are) b.begun b.broke
store_ending size address value f coming started new old_count new_count why ready aligned did (at_clear last mid polled outside b) =
    let w : Finished (writing size address value) last f mid.far = store_finished size address value last f coming started mid ready aligned did polled in
    store_clear size address value last f mid new.far old_count new_count why ready w outside b
    (write_end size address value (memory_at w.made.before (site_of f)))

store_end_cut : (size : Size) (address value : ℕ) (f : Far) (coming : Option DmiComing) (started new : Tells) (old_count new_count : ℕ) (e : AccessFault)
    → SiteReady (site_of f) → is_aligned address size ≡ true
    → Did (tells (Some f) coming) (write_started size address value) started → BusEndFailed address old_count new_count started new e
    → IfCut (BusCut (StoreLeaves size address value) (site_of f) new.far) e
store_end_cut size address value f coming started new old_count new_count (access_fault.Dmi why) ready aligned did g =
    store_ending size address value f coming started new old_count new_count why ready aligned did g
store_end_cut size address value f coming started new old_count new_count (access_fault.Memory at) ready aligned did g = tt
store_end_cut size address value f coming started new old_count new_count (access_fault.Register number) ready aligned did g = tt
store_end_cut size address value f coming started new old_count new_count access_fault.StillBusy ready aligned did g =
    let s : Site = site_of f in
    let one : AtSites (write_started size address value) f started.far =
    did_sites (tells (Some f) coming) (write_started size address value) started f did refl in
    let two : AtSites (map bus_poll g.words) one.far new.far = did_sites started (map bus_poll g.words) new one.far g.did one.is in
    record {
      far = two.far;
      is = two.is;
      left = stage_left (StoreLeaves size address value) (writing size address value) s (site_of two.far) (write_leaves size address value)
          (stage_polls (writing size address value) g.words s (site_of one.far) (site_of two.far) (works_ready s ready)
          (pends false size address value access.Write) (write_begun size address value s (site_of one.far) ready aligned one.acts_are) two.acts_are);
    }
store_end_cut size address value f coming started new old_count new_count (access_fault.Run why) ready aligned did g = tt
store_end_cut size address value f coming started new old_count new_count (access_fault.Odd shown) ready aligned did g = tt

store_cut : (size : Size) (address value : ℕ) (f : Far) (coming : Option DmiComing) (new : Tells) (old_count new_count : ℕ) (e : AccessFault)
    → SiteReady (site_of f) → is_aligned address size ≡ true
    → BusStoreFailed size address value old_count new_count (tells (Some f) coming) new e
    → IfCut (BusCut (StoreLeaves size address value) (site_of f) new.far) e
store_cut size address value f coming new old_count new_count e ready aligned (store_start why is b) =
    by_fault (BusCut (StoreLeaves size address value) (site_of f) new.far) e why is
    (write_start_cut size address value old_count new_count f coming new.far why b.acts b.failed ready aligned b.begun b.broke)
store_cut size address value f coming new old_count new_count e ready aligned (store_end started did g) =
    store_end_cut size address value f coming started new old_count new_count e ready aligned did g

-- ---- by the board and the journal

unit_left : (u : BusUnit) (harts : List ℕ) (base t : Site) → t ≡ at_bus u (passed harts base) → t.unit ≡ record base.unit { bus = t.unit.bus }
unit_left u harts base t is = ap (λ (x : Site). x.unit) is ∙ ap (λ (k : DebugModule). unit_like k u) (unit_passed harts base)
    ∙ ap (unit_like base.unit) (sym (ap (λ (x : Site). x.unit.bus) is))

unit_behind : (u : BusUnit) (n : Memory) (before harts : List ℕ) (base t : Site) → t ≡ at_bus u (passed harts (accessed n (passed before base)))
    → t.unit ≡ record base.unit { bus = t.unit.bus }
unit_behind u n before harts base t is =
    ap (λ (x : Site). x.unit) is ∙ ap (λ (k : DebugModule). unit_like k u) (unit_passed harts (accessed n (passed before base)) ∙ unit_passed before base)
    ∙ ap (unit_like base.unit) (sym (ap (λ (x : Site). x.unit.bus) is))

bus_left : (N : Memory → Memory → Type 0) (base t : Site) → BusLeft N base t → BusLeftOff N base t
bus_left N base t (none u a) =
    let p : Passed base (passed a.harts base) = passed_turns a.harts base in
    before_it (record {
      harts = p.harts;
      board = ap (λ (x : Site). x.board) a.is ∙ p.board;
      journal = ap (λ (x : Site). x.journal) a.is ∙ p.journal;
      unit =
          unit_left u a.harts base t a.is;
    })
bus_left N base t (made u before n left a) =
    let z : Site = accessed n (passed before base) in
    let p : Passed base (passed before base) = passed_turns before base in
    let q : Passed z (passed a.harts z) = passed_turns a.harts z in
    behind_it (record {
      before = p.harts;
      behind = q.harts;
      memory = n;
      made = subst (λ (b : Board). N b.memory n) p.board left;
      board = ap (λ (x : Site). x.board) a.is ∙ q.board ∙ ap (λ (b : Board). after_turns q.harts (with_memory n b)) p.board;
      journal =
          ap (λ (x : Site). x.journal) a.is ∙ q.journal ∙ ap (λ (j : List Point). (j ++ Access ∷ []) ++ turns q.harts) p.journal
          ∙ append_assoc (base.journal ++ turns p.harts) (Access ∷ []) (turns q.harts);
      unit = unit_behind u n before a.harts base t a.is;
    })

cut_left : (N : Memory → Memory → Type 0) (f : Far) (new : Option Far) (e : AccessFault) → IfCut (BusCut N (site_of f) new) e
    → IfCut (Leaves (BusLeftOff N) (Some f) new) e
cut_left N f new e c = if_cut (BusCut N (site_of f) new) (Leaves (BusLeftOff N) (Some f) new) e
    (λ p. record { far = p.far; is = p.is; left = bus_left N (site_of f) (site_of p.far) p.left }) c

pub bus_load_cut : (size : Size) (address : ℕ) (far : Option Far) (coming : Option DmiComing) (new : Tells) (old_count new_count : ℕ) (e : AccessFault)
    → IsReady far → is_aligned address size ≡ true
    → BusLoadFailed size address old_count new_count (tells far coming) new e → IfCut (Leaves (BusLeftOff LoadLeaves) far new.far) e
bus_load_cut size address None coming new old_count new_count e ready aligned f = cut_always (Leaves (BusLeftOff LoadLeaves) None new.far) e tt
bus_load_cut size address (Some c) coming new old_count new_count e ready aligned f =
    cut_left LoadLeaves c new.far e (load_cut size address c coming new old_count new_count e ready aligned f)

pub bus_store_cut : (size : Size) (address value : ℕ) (far : Option Far) (coming : Option DmiComing) (new : Tells) (old_count new_count : ℕ) (e : AccessFault)
    → IsReady far → is_aligned address size ≡ true
    → BusStoreFailed size address value old_count new_count (tells far coming) new e
    → IfCut (Leaves (BusLeftOff (StoreLeaves size address value)) far new.far) e
bus_store_cut size address value None coming new old_count new_count e ready aligned f =
    cut_always (Leaves (BusLeftOff (StoreLeaves size address value)) None new.far) e tt
bus_store_cut size address value (Some c) coming new old_count new_count e ready aligned f =
    cut_left (StoreLeaves size address value) c new.far e (store_cut size address value c coming new old_count new_count e ready aligned f)
