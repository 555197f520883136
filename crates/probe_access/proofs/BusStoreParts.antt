-- The calls of a run of stores by the system bus, one part behind another.
use Rattle.std.proofs.Common.{◌≡◌, ◌≢◌, ◌⊎◌, ◌≤◌, ℕ, List, true, false, refl, sym, subst, inl, inr}
use Rattle.rv_model.specs.declared.size.Size.{Size}
use Rattle.debug_model.specs.declared.dmi.DmiFault.{DmiFault}
use Rattle.probe_access.specs.declared.fault.AccessFault.{AccessFault}
use Rattle.probe_access.specs.declared.fault.AccessFault.TheVariants as access_fault
use Rattle.probe_run.specs.Acts.{Did, Tells}
use Rattle.probe_run.proofs.ActLemmas.{did_then}
use Rattle.probe_access.specs.BusRuns.{BusPollFailed, BusPolled, Starting, bus_collided, bus_error, outside_error}
use Rattle.probe_access.specs.BusStoreStreams.{
  CountFell,
  RunStores,
  StoredBefore,
  StoresFailed,
  StoresFell,
  StoresOddly,
  StoresPolled,
  StoresStopped,
  data_puts,
  stores_asked,
  stores_started,
  upper_at,
}
use Rattle.probe_access.specs.BusStoreStreams.StoresFailed.{in_run, in_polls, in_finding}
use Rattle.probe_access.specs.BusStreams.{Finding, FoundAt, Misplaced}
use Rattle.probe_access.specs.Faults.{Among, BrokeIn}
use Rattle.probe_access.proofs.BusStoreCalls.{alone_broke, behind_broke}
use Rattle.probe_access.proofs.BusStreamOutcomes.{poll_counted}
use Rattle.probe_access.proofs.RegisterCalls.{broke_counted}

-- ---- the writes, and the polls

pub begin_failed : (size : Size) (address : ℕ) (values : List ℕ) (count old_count new_count : ℕ) (old new : Tells) (why : DmiFault)
    → BrokeIn (Starting (stores_started size address (upper_at values 0))) old_count new_count old new.far why
    → StoresFailed size address values count old_count new_count old new (access_fault.Dmi why)
begin_failed size address values count old_count new_count old new why b =
    in_run why refl (alone_broke (stores_started size address (upper_at values 0)) (data_puts values 0 count) old_count new_count old new.far why b)

pub puts_failed : (size : Size) (address : ℕ) (values : List ℕ) (count count_then mid_count new_count : ℕ) (old begun new : Tells) (why : DmiFault)
    → Did old (stores_started size address (upper_at values 0)) begun → count_then ≤ mid_count → mid_count ≤ new_count
    → BrokeIn (Among (Starting (data_puts values 0 count))) mid_count new_count begun new.far why
    → StoresFailed size address values count count_then new_count old new (access_fault.Dmi why)
puts_failed size address values count count_then mid_count new_count old begun new why did le later b =
    in_run why refl
    (behind_broke (stores_started size address (upper_at values 0)) (data_puts values 0 count) count_then mid_count new_count old begun new.far why did le
    later b)

pub asked_did : (size : Size) (address : ℕ) (values : List ℕ) (count : ℕ) (old begun new : Tells)
    → Did old (stores_started size address (upper_at values 0)) begun → Did begun (data_puts values 0 count) new
    → Did old (stores_asked size address values count) new
asked_did size address values count old begun new did puts =
    did_then (stores_started size address (upper_at values 0)) old begun did (data_puts values 0 count) new puts

pub polls_failed : (size : Size) (address : ℕ) (values : List ℕ) (count count_then mid_count new_count : ℕ) (old mid new : Tells) (e : AccessFault)
    → Did old (stores_asked size address values count) mid → count_then ≤ mid_count → mid_count ≤ new_count → BusPollFailed mid_count new_count mid new e
    → StoresFailed size address values count count_then new_count old new e
polls_failed size address values count count_then mid_count new_count old mid new e did le later b =
    in_polls mid did (poll_counted count_then mid_count new_count mid new e le later b)

pub polled_of : (size : Size) (address : ℕ) (values : List ℕ) (count last : ℕ) (old mid new : Tells) → Did old (stores_asked size address values count) mid
    → BusPolled last mid new → StoresPolled size address values count last old new
polled_of size address values count last old mid new did polled = record { mid = mid; asked = did; polled = polled }

-- ---- of the run

pub all_stored : (size : Size) (address : ℕ) (values : List ℕ) (count last : ℕ) (old new : Tells) → StoresPolled size address values count last old new
    → bus_error last ≡ 0 → bus_collided last ≡ false → RunStores size address values count count old new
all_stored size address values count last old new r fine alone =
    RunStores.all refl (record { mid = r.mid; asked = r.asked; ends = record { last = last; polled = r.polled; fine = fine; alone = alone } })

pub stopped_of : (size : Size) (address : ℕ) (values : List ℕ) (count last place held done : ℕ) (old mid new : Tells)
    → StoresPolled size address values count last old mid
    → FoundAt place held mid new → StoredBefore size address place count done → StoresStopped size address values count last done old new
stopped_of size address values count last place held done old mid new r f b =
    record { polled = mid; shows = r; place = place; held = held; found = f; before = b }

polls_fell : (size : Size) (address : ℕ) (values : List ℕ) (count old_count new_count : ℕ) (old mid new : Tells) (e : AccessFault)
    → Did old (stores_asked size address values count) mid → BusPollFailed old_count new_count mid new e
    → StoresFell size address values count old_count new_count old new e
polls_fell size address values count old_count new_count old mid new (access_fault.Dmi why) did b = in_polls mid did b
polls_fell size address values count old_count new_count old mid new (access_fault.Memory at) did b = absurd b
polls_fell size address values count old_count new_count old mid new (access_fault.Register number) did b = b
polls_fell size address values count old_count new_count old mid new access_fault.StillBusy did b = in_polls mid did b
polls_fell size address values count old_count new_count old mid new (access_fault.Run why) did b = b
polls_fell size address values count old_count new_count old mid new (access_fault.Odd shown) did b = absurd b

link_fell : (size : Size) (address : ℕ) (values : List ℕ) (count old_count new_count : ℕ) (old new : Tells) (e : AccessFault) (why : DmiFault)
    → e ≡ access_fault.Dmi why
    → StoresFailed size address values count old_count new_count old new e → StoresFell size address values count old_count new_count old new e
link_fell size address values count old_count new_count old new e why is r =
    subst (λ (x : AccessFault). StoresFell size address values count old_count new_count old new x) (sym is)
    (subst (λ (x : AccessFault). StoresFailed size address values count old_count new_count old new x) is r)

pub run_fell : (size : Size) (address : ℕ) (values : List ℕ) (count old_count new_count : ℕ) (old new : Tells) (e : AccessFault)
    → StoresFailed size address values count old_count new_count old new e → StoresFell size address values count old_count new_count old new e
run_fell size address values count old_count new_count old new e (in_run why is b) =
    link_fell size address values count old_count new_count old new e why is (in_run why is b)
run_fell size address values count old_count new_count old new e
    (in_polls mid did b) = polls_fell size address values count old_count new_count old mid new e did b
run_fell size address values count old_count new_count old new e (in_finding last polled r why is b) =
    link_fell size address values count old_count new_count old new e why is (in_finding last polled r why is b)

pub find_fell : (size : Size) (address : ℕ) (values : List ℕ) (count last old_count mid_count new_count : ℕ) (old mid new : Tells) (why : DmiFault)
    → StoresPolled size address values count last old mid → old_count ≤ mid_count → mid_count ≤ new_count
    → BrokeIn (Among Finding) mid_count new_count mid new.far why
    → StoresFell size address values count old_count new_count old new (access_fault.Dmi why)
find_fell size address values count last old_count mid_count new_count old mid new why r le later b =
    in_finding last mid r why refl (broke_counted (Among Finding) old_count mid_count new_count mid new.far why le later b)

pub count_fell : (size : Size) (address : ℕ) (values : List ℕ) (count last place held old_count new_count : ℕ) (old mid new : Tells) (e : AccessFault)
    → StoresPolled size address values count last old mid → ((bus_error last ≢ 0) ⊎ (bus_collided last ≡ true)) → FoundAt place held mid new
    → CountFell size address count last place e → StoresFell size address values count old_count new_count old new e
count_fell size address values count last place held old_count new_count old mid new (access_fault.Dmi why) r some f h = absurd h
count_fell size address values count last place held old_count new_count old mid new (access_fault.Memory at) r some f h =
    (last, h.0, h.1, h.2, h.3, stopped_of size address values count last place held h.0 old mid new r f h.4)
count_fell size address values count last place held old_count new_count old mid new (access_fault.Register number) r some f h = h
count_fell size address values count last place held old_count new_count old mid new access_fault.StillBusy r some f h = absurd h
count_fell size address values count last place held old_count new_count old mid new (access_fault.Run why) r some f h = h
count_fell size address values count last place held old_count new_count old mid new (access_fault.Odd shown) r some f h = by h.1
  where
    by : Misplaced size address place count ⊎ ((bus_error last ≡ outside_error) × StoredBefore size address place count count)
        → StoresOddly size address values count shown old new
    by (inl lost) = StoresOddly.misplaced last place held mid h.0 r some f lost
    by (inr there) = StoresOddly.all_there last h.0 (stopped_of size address values count last place held count old mid new r f there.1) there.0
