-- What a fault among loads by the system bus that are each awaited follows and leaves, behind others.
use Rattle.std.proofs.Common.{◌≡◌, ◌≤◌, ◌<◌, ◌+◌, ◌*◌, ◌^◌, ℕ, List, length, true, Option, Some, None, sym, subst, arith}
use Rattle.rv_model.specs.declared.size.Size.{Size}
use Rattle.rv_model.specs.Memory.{is_aligned}
use Rattle.rv_model.specs.Size.{count_of}
use Rattle.debug_model.specs.declared.dmi.DmiFault.{DmiFault}
use Rattle.debug_model.specs.Scan.{WhereTold}
use Rattle.debug_model.specs.Told.{Far, IsReady, site_of}
use Rattle.probe_access.specs.declared.fault.AccessFault.{AccessFault}
use Rattle.probe_access.specs.declared.fault.AccessFault.TheVariants as access_fault
use Rattle.probe_run.specs.Acts.{Tells}
use Rattle.probe_access.specs.Accesses.{IfMemory}
use Rattle.probe_access.specs.Blocks.{element_at}
use Rattle.probe_access.specs.BusAwaits.{AwaitedLoadsFailed, LoadLastFailed, LoadNextFailed, LoadsAwaited}
use Rattle.probe_access.specs.BusAwaits.AwaitedLoadsFailed.{in_start, in_next, in_last}
use Rattle.probe_access.specs.BusBlockRuns.{BusCauses, BusLoads, BusLoadsRefused}
use Rattle.probe_access.specs.BusBlocks.{BusBlockLoadCut, BusBlockLoadLeft, BusBlockLoadedAt}
use Rattle.probe_access.specs.BusRuns.{BusEndFailed}
use Rattle.probe_access.specs.Cuts.{IfCut, Leaves}
use Rattle.probe_access.proofs.BlockCauses.{Calls, calls, calls_then}
use Rattle.probe_access.proofs.BusBlockCauses.{awaited_load_calls, bus_causes_behind, bus_loads_calls, end_causes, ended_calls, no_memory}
use Rattle.probe_access.proofs.BusLoadAwaitCuts.{LoadsCut, ending_cut, last_cut, start_cut, stop_cut, words_cut}
use Rattle.probe_access.proofs.BusLoadAwaitTold.{RefusedAt, load_oddly, load_refused, rests_at, stands_told, stops_at}
use Rattle.probe_access.proofs.CutSites.{cut_always, if_cut}

-- ---- its cause

dmi_causes : (old_count new_count : ℕ) (a mid c : Tells) (e : AccessFault) (why : DmiFault) → Calls a mid → old_count ≤ new_count → e ≡ access_fault.Dmi why
    → BusCauses old_count new_count mid c (access_fault.Dmi why) → BusCauses old_count new_count a c e
dmi_causes old_count new_count a mid c e why p later is f =
    subst (λ (x : AccessFault). BusCauses old_count new_count a c x) (sym is)
    (bus_causes_behind a mid c p old_count old_count new_count (access_fault.Dmi why) (omega arith) later f)

next_causes : (at old_count new_count : ℕ) (a c : Tells) (e : AccessFault) → old_count ≤ new_count → LoadNextFailed at old_count new_count a c e
    → BusCauses old_count new_count a c e
next_causes at old_count new_count a c e later (LoadNextFailed.in_end f) = end_causes at old_count new_count a c e later f
next_causes at old_count new_count a c e later (LoadNextFailed.in_words ended ends why is b) =
    dmi_causes old_count new_count a ended c e why (ended_calls a ended ends) later is (b.acts, b.failed, b.broke)

last_causes : (size : Size) (at old_count new_count : ℕ) (a c : Tells) (e : AccessFault) → old_count ≤ new_count
    → LoadLastFailed size at old_count new_count a c e → BusCauses old_count new_count a c e
last_causes size at old_count new_count a c e later (LoadLastFailed.in_end f) = end_causes at old_count new_count a c e later f
last_causes size at old_count new_count a c e later (LoadLastFailed.in_stop ended ends why is b) =
    dmi_causes old_count new_count a ended c e why (ended_calls a ended ends) later is (b.acts, b.failed, b.broke)
last_causes size at old_count new_count a c e later (LoadLastFailed.in_words ended stopped ends did why is b) =
    dmi_causes old_count new_count a stopped c e why (calls_then a ended stopped (ended_calls a ended ends) (calls _ ended stopped did)) later is
    (b.acts, b.failed, b.broke)

failed_causes : (size : Size) (address count old_count new_count : ℕ) (was is : List ℕ) (a c : Tells) (e : AccessFault) → old_count ≤ new_count
    → AwaitedLoadsFailed size address count was is old_count new_count a c e → BusCauses old_count new_count a c e
failed_causes size address count old_count new_count was is a c e later (in_start why dmi same b) =
    subst (λ (x : AccessFault). BusCauses old_count new_count a c x) (sym dmi) (b.acts, b.failed, b.broke)
failed_causes size address count old_count new_count was is a c e later (in_next mid below s f) =
    bus_causes_behind a mid c (awaited_load_calls size address was a is mid s) old_count old_count new_count e (omega arith) later
    (next_causes (element_at size address (length is)) old_count new_count mid c e later f)
failed_causes size address count old_count new_count was is a c e later (in_last mid all s f) =
    bus_causes_behind a mid c (awaited_load_calls size address was a is mid s) old_count old_count new_count e (omega arith) later
    (last_causes size (element_at size address (length is)) old_count new_count mid c e later f)

pub await_causes : (size : Size) (address count old_count mid_count new_count : ℕ) (was is : List ℕ) (old first new : Tells) (e : AccessFault)
    → old_count ≤ mid_count → mid_count ≤ new_count → BusLoads size address old was first
    → AwaitedLoadsFailed size address count was is mid_count new_count first new e → BusCauses old_count new_count old new e
await_causes size address count old_count mid_count new_count was is old first new e le later s f =
    bus_causes_behind old first new (bus_loads_calls size address old was first s) old_count mid_count new_count e le later
    (failed_causes size address count mid_count new_count was is first new e later f)

-- ---- by whether memory refused one, at such a place

-- its end came while so many were read
pub data AtEnd (size : Size) (address count : ℕ) (was is : List ℕ) (old_count new_count : ℕ) (old new : Tells) (e : AccessFault) : Type 0 where
  broke : (why : DmiFault) → e ≡ access_fault.Dmi why → AtEnd size address count was is old_count new_count old new e
  ending : (mid : Tells) → length is < count → LoadsAwaited size address was old is mid
      → BusEndFailed (element_at size address (length is)) old_count new_count mid new e → AtEnd size address count was is old_count new_count old new e

pub at_end : (size : Size) (address count old_count new_count : ℕ) (was is : List ℕ) (old new : Tells) (e : AccessFault)
    → AwaitedLoadsFailed size address count was is old_count new_count old new e → AtEnd size address count was is old_count new_count old new e
at_end size address count old_count new_count was is old new e (in_start why dmi same b) = AtEnd.broke why dmi
at_end size address count old_count new_count was is old new e (in_next mid below s (LoadNextFailed.in_end f)) =
    AtEnd.ending mid (omega (arith, below)) s f
at_end size address count old_count new_count was is old new e (in_next mid below s (LoadNextFailed.in_words ended ends why dmi b)) = AtEnd.broke why dmi
at_end size address count old_count new_count was is old new e (in_last mid all s (LoadLastFailed.in_end f)) = AtEnd.ending mid (omega (arith, all)) s f
at_end size address count old_count new_count was is old new e (in_last mid all s (LoadLastFailed.in_stop ended ends why dmi b)) = AtEnd.broke why dmi
at_end size address count old_count new_count was is old new e (in_last mid all s (LoadLastFailed.in_words ended stopped ends did why dmi b)) =
    AtEnd.broke why dmi

ending_refused : (size : Size) (address at old_count new_count : ℕ) (was is : List ℕ) (old first mid new : Tells) (e : AccessFault)
    → BusLoads size address old was first → LoadsAwaited size address was first is mid → BusEndFailed at old_count new_count mid new e
    → IfMemory (BusLoadsRefused size address is old new) e
ending_refused size address at old_count new_count was is old first mid new (access_fault.Dmi why) s a f = tt
ending_refused size address at old_count new_count was is old first mid new (access_fault.Memory place) s a f = BusLoadsRefused.awaited was first mid s a f.1
ending_refused size address at old_count new_count was is old first mid new (access_fault.Register number) s a f = tt
ending_refused size address at old_count new_count was is old first mid new access_fault.StillBusy s a f = tt
ending_refused size address at old_count new_count was is old first mid new (access_fault.Run why) s a f = tt
ending_refused size address at old_count new_count was is old first mid new (access_fault.Odd shown) s a f = tt

refused_by : (size : Size) (address count old_count new_count : ℕ) (was is : List ℕ) (old first new : Tells) (e : AccessFault)
    → BusLoads size address old was first → AtEnd size address count was is old_count new_count first new e
    → IfMemory (BusLoadsRefused size address is old new) e
refused_by size address count old_count new_count was is old first new e s (AtEnd.broke why dmi) =
    no_memory (BusLoadsRefused size address is old new) e why dmi
refused_by size address count old_count new_count was is old first new e s (AtEnd.ending mid below a f) =
    ending_refused size address (element_at size address (length is)) old_count new_count was is old first mid new e s a f

pub await_refused : (size : Size) (address count old_count new_count : ℕ) (was is : List ℕ) (old first new : Tells) (e : AccessFault)
    → BusLoads size address old was first → AwaitedLoadsFailed size address count was is old_count new_count first new e
    → IfMemory (BusLoadsRefused size address is old new) e
await_refused size address count old_count new_count was is old first new e s f =
    refused_by size address count old_count new_count was is old first new e s (at_end size address count old_count new_count was is first new e f)

-- ---- what it leaves of a told chip

record Left (size : Size) (address count : ℕ) (values : List ℕ) (far : Option Far) (new : Tells) (e : AccessFault) : Type 0 where
  left : BusBlockLoadLeft size address count values far new.far e
  ready : IfMemory (IsReady new.far) e

ending_left : (size : Size) (address count old_count new_count : ℕ) (was is : List ℕ) (far : Option Far) (first mid new : Tells) (e : AccessFault)
    → WhereTold (BusBlockLoadedAt size address was) far first.far → IsReady first.far → is_aligned address size ≡ true
    → address + count * count_of size ≤ 2 ^ 64 → length is < count → LoadsAwaited size address was first is mid
    → BusEndFailed (element_at size address (length is)) old_count new_count mid new e → Left size address count is far new e
ending_left size address count old_count new_count was is far first mid new (access_fault.Dmi why) before ready aligned ends below a f =
    record { left = tt; ready = tt }
ending_left size address count old_count new_count was is far first mid new (access_fault.Memory at) before ready aligned ends below a f =
    let r : RefusedAt size address is far new.far = load_refused size address count was is far first mid new before ready aligned ends below a f.1 in
    record { left = (below, f.0, r.refused); ready = r.ready }
ending_left size address count old_count new_count was is far first mid new (access_fault.Register number) before ready aligned ends below a f = absurd f
ending_left size address count old_count new_count was is far first mid new access_fault.StillBusy before ready aligned ends below a f =
    record { left = tt; ready = tt }
ending_left size address count old_count new_count was is far first mid new (access_fault.Run why) before ready aligned ends below a f = absurd f
ending_left size address count old_count new_count was is far first mid new (access_fault.Odd shown) before ready aligned ends below a f =
    record { left = load_oddly size address count f.last was is far first mid new before ready aligned ends below a f.polled f.other f.some; ready = tt }

left_by : (size : Size) (address count old_count new_count : ℕ) (was is : List ℕ) (far : Option Far) (first new : Tells) (e : AccessFault)
    → WhereTold (BusBlockLoadedAt size address was) far first.far → IsReady first.far → is_aligned address size ≡ true
    → address + count * count_of size ≤ 2 ^ 64 → AtEnd size address count was is old_count new_count first new e → Left size address count is far new e
left_by size address count old_count new_count was is far first new e before ready aligned ends (AtEnd.broke why dmi) =
    subst (λ (x : AccessFault). Left size address count is far new x) (sym dmi) (record { left = tt; ready = tt })
left_by size address count old_count new_count was is far first new e before ready aligned ends (AtEnd.ending mid below a f) =
    ending_left size address count old_count new_count was is far first mid new e before ready aligned ends below a f

pub await_left : (size : Size) (address count old_count new_count : ℕ) (was is : List ℕ) (far : Option Far) (first new : Tells) (e : AccessFault)
    → WhereTold (BusBlockLoadedAt size address was) far first.far → IsReady first.far → is_aligned address size ≡ true
    → address + count * count_of size ≤ 2 ^ 64 → AwaitedLoadsFailed size address count was is old_count new_count first new e
    → BusBlockLoadLeft size address count is far new.far e
await_left size address count old_count new_count was is far first new e before ready aligned ends f =
    (left_by size address count old_count new_count was is far first new e before ready aligned ends
    (at_end size address count old_count new_count was is first new e f)).left

pub await_ready : (size : Size) (address count old_count new_count : ℕ) (was is : List ℕ) (far : Option Far) (first new : Tells) (e : AccessFault)
    → WhereTold (BusBlockLoadedAt size address was) far first.far → IsReady first.far → is_aligned address size ≡ true
    → address + count * count_of size ≤ 2 ^ 64 → AwaitedLoadsFailed size address count was is old_count new_count first new e
    → IfMemory (IsReady new.far) e
await_ready size address count old_count new_count was is far first new e before ready aligned ends f =
    (left_by size address count old_count new_count was is far first new e before ready aligned ends
    (at_end size address count old_count new_count was is first new e f)).ready

-- ---- where it broke off

cut_by : (size : Size) (address count old_count new_count : ℕ) (was is : List ℕ) (f : Far) (first new : Tells) (e : AccessFault)
    → (before : WhereTold (BusBlockLoadedAt size address was) (Some f) first.far) → IsReady first.far → is_aligned address size ≡ true
    → address + count * count_of size ≤ 2 ^ 64 → length was < count → AwaitedLoadsFailed size address count was is old_count new_count first new e
    → IfCut (LoadsCut size address count is (site_of f) new.far) e
cut_by size address count old_count new_count was is f first new e before ready aligned ends some (in_start why dmi same b) =
    cut_always (LoadsCut size address count is (site_of f) new.far) e
    (subst (λ xs. LoadsCut size address count xs (site_of f) new.far) (sym same)
    (start_cut size address count old_count new_count was (site_of f) before.far first new.far why before.is before.each
    (subst (λ (o : Option Far). IsReady o) before.is ready) aligned some b))
cut_by size address count old_count new_count was is f first new e before ready aligned ends some (in_next mid below s (LoadNextFailed.in_end g)) =
    ending_cut size address count (element_at size address (length is)) old_count new_count (site_of f) is mid new e
    (stands_told size address count was is f first mid before ready aligned ends (omega (arith, below)) s) g
cut_by size address count old_count new_count was is f first new e before ready aligned ends some
    (in_next mid below s (LoadNextFailed.in_words ended done why dmi b)) =
    cut_always (LoadsCut size address count is (site_of f) new.far) e
    (words_cut size address count old_count new_count (site_of f) is ended new.far why aligned ends below
    (rests_at size address count (site_of f) is mid ended
    (stands_told size address count was is f first mid before ready aligned ends (omega (arith, below)) s) done) b)
cut_by size address count old_count new_count was is f first new e before ready aligned ends some (in_last mid all s (LoadLastFailed.in_end g)) =
    ending_cut size address count (element_at size address (length is)) old_count new_count (site_of f) is mid new e
    (stands_told size address count was is f first mid before ready aligned ends (omega (arith, all)) s) g
cut_by size address count old_count new_count was is f first new e before ready aligned ends some
    (in_last mid all s (LoadLastFailed.in_stop ended done why dmi b)) =
    cut_always (LoadsCut size address count is (site_of f) new.far) e
    (stop_cut size address count old_count new_count (site_of f) is ended new.far why
    (rests_at size address count (site_of f) is mid ended
    (stands_told size address count was is f first mid before ready aligned ends (omega (arith, all)) s) done) b)
cut_by size address count old_count new_count was is f first new e before ready aligned ends some
    (in_last mid all s (LoadLastFailed.in_words ended stopped done did why dmi b)) =
    cut_always (LoadsCut size address count is (site_of f) new.far) e
    (last_cut size address count old_count new_count (site_of f) is stopped new.far why
    (stops_at size address count (site_of f) is ended stopped
    (rests_at size address count (site_of f) is mid ended
    (stands_told size address count was is f first mid before ready aligned ends (omega (arith, all)) s) done) did) b)

loads_cut_left : (size : Size) (address count : ℕ) (values : List ℕ) (f : Far) (told : Option Far) → LoadsCut size address count values (site_of f) told
    → Leaves (BusBlockLoadCut size address count values) (Some f) told
loads_cut_left size address count values f told c = record { far = c.far; is = c.is; left = c.left }

pub await_cut : (size : Size) (address count old_count new_count : ℕ) (was is : List ℕ) (far : Option Far) (first new : Tells) (e : AccessFault)
    → WhereTold (BusBlockLoadedAt size address was) far first.far → IsReady first.far → is_aligned address size ≡ true
    → address + count * count_of size ≤ 2 ^ 64 → length was < count → AwaitedLoadsFailed size address count was is old_count new_count first new e
    → IfCut (Leaves (BusBlockLoadCut size address count is) far new.far) e
await_cut size address count old_count new_count was is None first new e before ready aligned ends some f =
    cut_always (Leaves (BusBlockLoadCut size address count is) None new.far) e tt
await_cut size address count old_count new_count was is (Some f) first new e before ready aligned ends some g =
    if_cut (LoadsCut size address count is (site_of f) new.far) (Leaves (BusBlockLoadCut size address count is) (Some f) new.far) e
    (loads_cut_left size address count is f new.far)
    (cut_by size address count old_count new_count was is f first new e before ready aligned ends some g)
