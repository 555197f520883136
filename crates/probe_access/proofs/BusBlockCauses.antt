-- What a fault of an access by the system bus follows, and the calls of a block with one element's more.
use Rattle.std.proofs.Common.{◌≡◌, ◌≤◌, ◌++◌, ℕ, List, [], ◌∷◌, length, map, sym, subst, append_assoc, arith}
use Rattle.rv_model.specs.declared.size.Size.{Size}
use Rattle.debug_model.specs.Addresses.{sbcs_address}
use Rattle.debug_model.specs.declared.dmi.DmiFault.{DmiFault}
use Rattle.probe_access.specs.declared.fault.AccessFault.{AccessFault}
use Rattle.probe_access.specs.declared.fault.AccessFault.TheVariants as access_fault
use Rattle.probe_run.specs.Acts.{Act, Did, Tells}
use Rattle.probe_run.specs.Acts.Act.{Put}
use Rattle.probe_run.specs.Acts.Did.{nothing}
use Rattle.probe_run.specs.Opening.{clears_sberror}
use Rattle.probe_run.proofs.ActLemmas.{broke_then, did_list, did_then}
use Rattle.probe_access.specs.Accesses.{IfMemory}
use Rattle.probe_access.specs.Blocks.{element_at}
use Rattle.probe_access.specs.BusAwaits.{AllAwaited, LoadsAwaited, StoresAwaited}
use Rattle.probe_access.specs.BusBlockRuns.{BusCauses, BusLoads, BusReported, BusValueStores}
use Rattle.probe_access.specs.BusRuns.{BusEndFailed, BusEnded, BusPolled, BusRefused, bus_poll}
use Rattle.probe_access.specs.BusRuns.BusEnding.{at_poll, at_clear}
use Rattle.probe_access.specs.BusStreams.{Ran, RunLoads, Stopped}
use Rattle.probe_access.proofs.BlockCauses.{Calls, calls, calls_then}

-- ---- a fault behind more calls

behind_list : (xs front rest : List Act) (y : Act) (a c : Tells) → Did a (xs ++ (front ++ y ∷ rest)) c → Did a ((xs ++ front) ++ y ∷ rest) c
behind_list xs front rest y a c did = did_list (xs ++ (front ++ y ∷ rest)) ((xs ++ front) ++ y ∷ rest) a c (sym (append_assoc xs front (y ∷ rest))) did

pub bus_causes_behind : (a b c : Tells) → Calls a b → (count mid_count new_count : ℕ) (e : AccessFault) → count ≤ mid_count → mid_count ≤ new_count
    → BusCauses mid_count new_count b c e → BusCauses count new_count a c e
bus_causes_behind a b c p count mid_count new_count (access_fault.Dmi why) le later f =
    (p.acts ++ f.0, f.1, broke_then p.acts a b p.did f.0 f.1 count mid_count new_count c.far why le later f.2)
bus_causes_behind a b c p count mid_count new_count (access_fault.Memory address) le later f = record {
  front = p.acts ++ f.front;
  last = f.last;
  rest = f.rest;
  idle = f.idle;
  outside = f.outside;
  did = behind_list p.acts f.front f.rest (bus_poll f.last) a c (did_then p.acts a b p.did (f.front ++ bus_poll f.last ∷ f.rest) c f.did);
}
bus_causes_behind a b c p count mid_count new_count (access_fault.Register number) le later f = absurd f
bus_causes_behind a b c p count mid_count new_count access_fault.StillBusy le later f =
    record { front = p.acts ++ f.front; mid = f.mid; did = did_then p.acts a b p.did f.front f.mid f.did; busy = f.busy }
bus_causes_behind a b c p count mid_count new_count (access_fault.Run why) le later f = absurd f
bus_causes_behind a b c p count mid_count new_count (access_fault.Odd shown) le later f = record {
  word = f.word;
  is = f.is;
  front = p.acts ++ f.front;
  rest = f.rest;
  idle = f.idle;
  some = f.some;
  did = behind_list p.acts f.front f.rest (bus_poll f.word) a c (did_then p.acts a b p.did (f.front ++ bus_poll f.word ∷ f.rest) c f.did);
}

-- ---- of each part

pub polled_calls : (last : ℕ) (a b : Tells) → BusPolled last a b → Calls a b
polled_calls last a b p = calls _ a b p.did

pub ended_calls : (a b : Tells) → BusEnded a b → Calls a b
ended_calls a b e = polled_calls e.last a b e.polled

refused_reported : (a c : Tells) → BusRefused a c → BusReported a c
refused_reported a c r = record {
  front = map bus_poll r.polled.words;
  last = r.last;
  rest = Put sbcs_address clears_sberror ∷ [];
  idle = r.polled.idle;
  outside = r.outside;
  did = did_list ((map bus_poll r.polled.words ++ bus_poll r.last ∷ []) ++ Put sbcs_address clears_sberror ∷ [])
      (map bus_poll r.polled.words ++ bus_poll r.last ∷ Put sbcs_address clears_sberror ∷ []) a c
      (append_assoc (map bus_poll r.polled.words) (bus_poll r.last ∷ []) (Put sbcs_address clears_sberror ∷ []))
      (did_then (map bus_poll r.polled.words ++ bus_poll r.last ∷ []) a r.mid r.polled.did (Put sbcs_address clears_sberror ∷ []) c r.cleared);
}

pub end_causes : (address old_count new_count : ℕ) (a c : Tells) (e : AccessFault) → old_count ≤ new_count → BusEndFailed address old_count new_count a c e
    → BusCauses old_count new_count a c e
end_causes address old_count new_count a c (access_fault.Dmi why) later (at_poll b) = (b.acts, b.failed, b.broke)
end_causes address old_count new_count a c (access_fault.Dmi why) later (at_clear last mid polled outside b) =
    bus_causes_behind a mid c (polled_calls last a mid polled) old_count old_count new_count (access_fault.Dmi why) (omega arith) later
    (b.acts, b.failed, b.broke)
end_causes address old_count new_count a c (access_fault.Memory at) later f = refused_reported a c f.1
end_causes address old_count new_count a c (access_fault.Register number) later f = absurd f
end_causes address old_count new_count a c access_fault.StillBusy later f = record { front = []; mid = a; did = nothing; busy = f }
end_causes address old_count new_count a c (access_fault.Run why) later f = absurd f
end_causes address old_count new_count a c (access_fault.Odd shown) later f = record {
  word = f.last;
  is = f.is;
  front = map bus_poll f.polled.words;
  rest = [];
  idle = f.polled.idle;
  some = f.some;
  did = f.polled.did;
}

-- ---- the calls of loads

pub ran_calls : (size : Size) (address last : ℕ) (read : List ℕ) (old new : Tells) → Ran size address read last old new → Calls old new
ran_calls size address last read old new r =
    calls_then old r.read new (calls_then old r.begun r.read (calls _ old r.begun r.starts) (calls _ r.begun r.read r.first.did))
    (calls _ r.read new r.ends.did)

stopped_calls : (size : Size) (address count last : ℕ) (values : List ℕ) (old new : Tells) → Stopped size address count last values old new → Calls old new
stopped_calls size address count last values old new s =
    calls_then old s.polled new (ran_calls size address last s.read old s.polled s.runs) (calls _ s.polled new s.found)

run_loads_calls : (size : Size) (address count : ℕ) (values : List ℕ) (a b : Tells) → RunLoads size address count values a b → Calls a b
run_loads_calls size address count values a b (RunLoads.all all r) = ran_calls size address r.last values a b r.ran
run_loads_calls size address count values a b (RunLoads.some last s fine early) = stopped_calls size address count last values a b s

pub awaited_load_calls : (size : Size) (address : ℕ) (was : List ℕ) (a : Tells) (values : List ℕ) (b : Tells) → LoadsAwaited size address was a values b
    → Calls a b
awaited_load_calls size address was a _ b (LoadsAwaited.begun _ did) = calls _ a b did
awaited_load_calls size address was a _ b (LoadsAwaited.next values more mid _ s one) =
    calls_then a mid b (awaited_load_calls size address was a values mid s)
    (calls_then mid one.ended b (ended_calls mid one.ended one.ends) (calls _ one.ended b one.read.did))

all_awaited_calls : (size : Size) (address count : ℕ) (was is : List ℕ) (a b : Tells) → AllAwaited size address count was is a b → Calls a b
all_awaited_calls size address count was is a b w =
    calls_then a w.mid b (awaited_load_calls size address was a w.front w.mid w.awaited)
    (calls_then w.mid w.last.stopped b
    (calls_then w.mid w.last.ended w.last.stopped (ended_calls w.mid w.last.ended w.last.ends) (calls _ w.last.ended w.last.stopped w.last.stops))
    (calls _ w.last.stopped b w.last.read.did))

pub bus_loads_calls : (size : Size) (address : ℕ) (a : Tells) (values : List ℕ) (b : Tells) → BusLoads size address a values b → Calls a b
bus_loads_calls size address a _ b (BusLoads.ran count values _ r) = run_loads_calls size address count values a b r
bus_loads_calls size address a _ b (BusLoads.ran_behind count first more mid _ s r) =
    calls_then a mid b (bus_loads_calls size address a first mid s) (run_loads_calls size (element_at size address (length first)) count more mid b r)
bus_loads_calls size address a _ b (BusLoads.awaited count first values mid _ s w) =
    calls_then a mid b (bus_loads_calls size address a first mid s) (all_awaited_calls size address count first values mid b w)

pub no_memory : (P : Type 0) (e : AccessFault) (why : DmiFault) → e ≡ access_fault.Dmi why → IfMemory P e
no_memory P e why is = subst (λ (x : AccessFault). IfMemory P x) (sym is) tt

-- ---- and of stores

pub awaited_store_calls : (size : Size) (address : ℕ) (values : List ℕ) (from : ℕ) (a : Tells) (n : ℕ) (b : Tells)
    → StoresAwaited size address values from a n b → Calls a b
awaited_store_calls size address values from a _ b (StoresAwaited.begun _ did) = calls _ a b did
awaited_store_calls size address values from a _ b (StoresAwaited.next n mid _ s one) =
    calls_then a mid b (awaited_store_calls size address values from a n mid s)
    (calls_then mid one.asked b (calls _ mid one.asked one.put) (ended_calls one.asked b one.ends))

pub bus_stores_calls : (size : Size) (address : ℕ) (values : List ℕ) (a : Tells) (n : ℕ) (b : Tells) → BusValueStores size address values a n b → Calls a b
bus_stores_calls size address values a _ b (BusValueStores.ran count _ r) = calls_then a r.mid b (calls _ a r.mid r.asked) (ended_calls r.mid b r.ends)
bus_stores_calls size address values a _ b (BusValueStores.ran_on count last done _ s fine early) =
    calls_then a s.polled b
    (calls_then a s.shows.mid s.polled (calls _ a s.shows.mid s.shows.asked) (polled_calls last s.shows.mid s.polled s.shows.polled))
    (calls _ s.polled b s.found.did)
bus_stores_calls size address values a _ b (BusValueStores.awaited from n mid _ s w) =
    calls_then a mid b (bus_stores_calls size address values a from mid s) (awaited_store_calls size address values from mid n b w)
