-- How many operations the calls of blocks by the system bus are, besides polls of sbcs.
use Rattle.std.proofs.Common.{◌≡◌, ◌≤◌, ◌+◌, ◌-◌, ◌*◌, ◌++◌, ℕ, suc, List, [], ◌∷◌, length, map, false, sym, subst, arith}
use Rattle.rv_model.specs.declared.size.Size.{Size}
use Rattle.rv_model.specs.declared.size.Size.TheVariants.{B1, B2, B4, B8}
use Rattle.debug_model.specs.Addresses.{sbcs_address}
use Rattle.debug_model.specs.declared.dmi.DmiFault.{DmiFault}
use Rattle.probe_access.specs.declared.fault.AccessFault.{AccessFault}
use Rattle.probe_access.specs.declared.fault.AccessFault.TheVariants as access_fault
use Rattle.probe_access.specs.declared.odd.OddStatus.{OddStatus}
use Rattle.probe_run.specs.Acts.{Act, Did, Tells}
use Rattle.probe_run.specs.Acts.Act.{Put}
use Rattle.probe_access.specs.Blocks.{value_at}
use Rattle.probe_access.specs.BusAwaits.{AllAwaited, AwaitedLoadsFailed, AwaitedStoresFailed, LoadsAwaited, StoresAwaited}
use Rattle.probe_access.specs.BusAwaits.AwaitedStoresFailed.{in_start as stores_start, in_next as stores_next}
use Rattle.probe_access.specs.BusAwaits.StoreNextFailed.{in_put, in_end}
use Rattle.probe_access.specs.BusRuns.{BusAlwaysBusy, BusEndFailed, BusEnded, BusPollFailed, BusPolled, BusRefused, bus_poll}
use Rattle.probe_access.specs.BusStoreStreams.{
  RunStores,
  StoresFailed,
  StoresFell,
  StoresOddly,
  StoresPolled,
  StoresStopped,
  element_puts,
  stores_asked,
  upper_at,
  words_from,
}
use Rattle.probe_access.specs.BusStreams.{
  ElementsRead,
  EndPolled,
  EndRead,
  FoundAt,
  FrontRead,
  MoreRead,
  Ran,
  RunFailed,
  RunFell,
  RunLoads,
  RunOddly,
  RunRead,
  Stopped,
}
use Rattle.probe_access.specs.BusStreams.{IsNarrow, element_words, running}
use Rattle.probe_access.specs.BusStreams.ElementsRead.{none as none_read, narrow, double}
use Rattle.probe_access.specs.Spent.{DidAtMost, IfUnbroken, Spends}
use Rattle.probe_access.proofs.BusAwaitCalls.{read_longer}
use Rattle.probe_access.proofs.BusLoadAwaitFaults.{AtEnd, at_end}
use Rattle.probe_access.proofs.BusStoreCalls.{words_next, words_none, words_parts}
use Rattle.probe_access.proofs.BusStreamClauses.{run_front}
use Rattle.probe_run.proofs.ActLemmas.{did_then}

-- ---- lists of acts

spends_all : (polled : ℕ) (acts : List Act) → Spends polled (length acts) acts
spends_all polled [] = Spends.nothing
spends_all polled (act ∷ acts) = Spends.further (length acts) act acts (spends_all polled acts)

spends_append : (polled m n : ℕ) (xs ys : List Act) → Spends polled m xs → Spends polled n ys → Spends polled (m + n) (xs ++ ys)
spends_append polled _ n _ ys Spends.nothing q = subst (λ k. Spends polled k ys) (let e : n ≡ 0 + n = omega arith in e) q
spends_append polled m n _ ys (Spends.poll _ value xs p) q = Spends.poll (m + n) value (xs ++ ys) (spends_append polled m n xs ys p q)
spends_append polled _ n _ ys (Spends.further m act xs p) q =
    subst (λ k. Spends polled k (act ∷ (xs ++ ys))) (let e : suc (m + n) ≡ suc m + n = omega arith in e)
    (Spends.further (m + n) act (xs ++ ys) (spends_append polled m n xs ys p q))

spends_polls : (words : List ℕ) → Spends sbcs_address 0 (map bus_poll words)
spends_polls [] = Spends.nothing
spends_polls (word ∷ words) = Spends.poll 0 word (map bus_poll words) (spends_polls words)

-- ---- calls

abbrev pub Within : ℕ → Tells → Tells → Type 0
Within most old new = DidAtMost sbcs_address most old new

did_all : (most : ℕ) (acts : List Act) (old new : Tells) → length acts ≤ most → Did old acts new → Within most old new
did_all most acts old new few did =
    record { acts = acts; did = did; count = length acts; spends = spends_all sbcs_address acts; within = few }

pub within_then : (m n most : ℕ) (a b c : Tells) → m + n ≤ most → Within m a b → Within n b c → Within most a c
within_then m n most a b c few p q = record {
  acts = p.acts ++ q.acts;
  did = did_then p.acts a b p.did q.acts c q.did;
  count = p.count + q.count;
  spends = spends_append sbcs_address p.count q.count p.acts q.acts p.spends q.spends;
  within = let x : p.count ≤ m = p.within in let y : q.count ≤ n = q.within in omega (arith, x, y, few);
}

pub within_more : (m n : ℕ) (a b : Tells) → m ≤ n → Within m a b → Within n a b
within_more m n a b few p = record {
  acts = p.acts;
  did = p.did;
  count = p.count;
  spends = p.spends;
  within = let x : p.count ≤ m = p.within in omega (arith, x, few);
}

polled_free : (last : ℕ) (a b : Tells) → BusPolled last a b → Within 0 a b
polled_free last a b p = record {
  acts = map bus_poll p.words ++ bus_poll last ∷ [];
  did = p.did;
  count = 0;
  spends = spends_append sbcs_address 0 0 (map bus_poll p.words) (bus_poll last ∷ []) (spends_polls p.words) (Spends.poll 0 last [] Spends.nothing);
  within = omega arith;
}

busy_free : (a b : Tells) → BusAlwaysBusy a b → Within 0 a b
busy_free a b p = record { acts = map bus_poll p.words; did = p.did; count = 0; spends = spends_polls p.words; within = omega arith }

ended_free : (a b : Tells) → BusEnded a b → Within 0 a b
ended_free a b e = polled_free e.last a b e.polled

refused_one : (a b : Tells) → BusRefused a b → Within 1 a b
refused_one a b r = within_then 0 1 1 a r.mid b (omega arith) (polled_free r.last a r.mid r.polled) (did_all 1 _ r.mid b (omega arith) r.cleared)

found_five : (place value : ℕ) (a b : Tells) → FoundAt place value a b → Within 5 a b
found_five place value a b f = did_all 5 _ a b (omega arith) f.did

-- the end of an access
pub end_spent : (at old_count new_count : ℕ) (a b : Tells) (e : AccessFault) → BusEndFailed at old_count new_count a b e → IfUnbroken (Within 1 a b) e
end_spent at old_count new_count a b (access_fault.Dmi why) f = tt
end_spent at old_count new_count a b (access_fault.Memory place) f = refused_one a b f.1
end_spent at old_count new_count a b (access_fault.Register number) f = absurd f
end_spent at old_count new_count a b access_fault.StillBusy f = within_more 0 1 a b (omega arith) (busy_free a b f)
end_spent at old_count new_count a b (access_fault.Run why) f = absurd f
end_spent at old_count new_count a b (access_fault.Odd shown) f = within_more 0 1 a b (omega arith) (polled_free f.last a b f.polled)

poll_spent : (old_count new_count : ℕ) (a b : Tells) (e : AccessFault) → BusPollFailed old_count new_count a b e → IfUnbroken (Within 0 a b) e
poll_spent old_count new_count a b (access_fault.Dmi why) f = tt
poll_spent old_count new_count a b (access_fault.Memory place) f = absurd f
poll_spent old_count new_count a b (access_fault.Register number) f = absurd f
poll_spent old_count new_count a b access_fault.StillBusy f = busy_free a b f
poll_spent old_count new_count a b (access_fault.Run why) f = absurd f
poll_spent old_count new_count a b (access_fault.Odd shown) f = absurd f

pub unbroken_behind : (m n most : ℕ) (a b c : Tells) (e : AccessFault) → m + n ≤ most → Within m a b → IfUnbroken (Within n b c) e
    → IfUnbroken (Within most a c) e
unbroken_behind m n most a b c (access_fault.Dmi why) few p q = tt
unbroken_behind m n most a b c (access_fault.Memory at) few p q = within_then m n most a b c few p q
unbroken_behind m n most a b c (access_fault.Register number) few p q = within_then m n most a b c few p q
unbroken_behind m n most a b c access_fault.StillBusy few p q = within_then m n most a b c few p q
unbroken_behind m n most a b c (access_fault.Run why) few p q = within_then m n most a b c few p q
unbroken_behind m n most a b c (access_fault.Odd shown) few p q = within_then m n most a b c few p q

pub unbroken_more : (m n : ℕ) (a b : Tells) (e : AccessFault) → m ≤ n → IfUnbroken (Within m a b) e → IfUnbroken (Within n a b) e
unbroken_more m n a b (access_fault.Dmi why) few q = tt
unbroken_more m n a b (access_fault.Memory at) few q = within_more m n a b few q
unbroken_more m n a b (access_fault.Register number) few q = within_more m n a b few q
unbroken_more m n a b access_fault.StillBusy few q = within_more m n a b few q
unbroken_more m n a b (access_fault.Run why) few q = within_more m n a b few q
unbroken_more m n a b (access_fault.Odd shown) few q = within_more m n a b few q

broken : (P : Type 0) (e : AccessFault) (why : DmiFault) → e ≡ access_fault.Dmi why → IfUnbroken P e
broken P e why is = subst (λ (x : AccessFault). IfUnbroken P x) (sym is) tt

-- ---- stores

asked_spent : (size : Size) (address : ℕ) (values : List ℕ) (count : ℕ) (a b : Tells) → Did a (stores_asked size address values count) b
    → Within (words_from values 0 count + 4) a b
asked_spent size address values count a b did =
    did_all (words_from values 0 count + 4) (stores_asked size address values count) a b (omega arith) did

stores_polled : (size : Size) (address : ℕ) (values : List ℕ) (count last : ℕ) (a b : Tells) → StoresPolled size address values count last a b
    → Within (words_from values 0 count + 4) a b
stores_polled size address values count last a b p =
    within_then (words_from values 0 count + 4) 0 (words_from values 0 count + 4) a p.mid b (omega arith)
    (asked_spent size address values count a p.mid p.asked) (polled_free last p.mid b p.polled)

stores_stopped : (size : Size) (address : ℕ) (values : List ℕ) (count last done : ℕ) (a b : Tells) → StoresStopped size address values count last done a b
    → Within (words_from values 0 count + 9) a b
stores_stopped size address values count last done a b s =
    within_then (words_from values 0 count + 4) 5 (words_from values 0 count + 9) a s.polled b (omega arith)
    (stores_polled size address values count last a s.polled s.shows)
    (found_five s.place s.held s.polled b s.found)

pub run_stores_spent : (size : Size) (address : ℕ) (values : List ℕ) (count done : ℕ) (a b : Tells) → RunStores size address values count done a b
    → Within (words_from values 0 count + 9) a b
run_stores_spent size address values count done a b (RunStores.all is r) =
    within_then (words_from values 0 count + 4) 0 (words_from values 0 count + 9) a r.mid b (omega arith)
    (asked_spent size address values count a r.mid r.asked) (ended_free r.mid b r.ends)
run_stores_spent size address values count done a b (RunStores.some last s fine early) = stores_stopped size address values count last done a b s

stores_oddly : (size : Size) (address : ℕ) (values : List ℕ) (count : ℕ) (a b : Tells) (shown : OddStatus)
    → StoresOddly size address values count shown a b → Within (words_from values 0 count + 9) a b
stores_oddly size address values count a b shown (StoresOddly.other last is p none other) =
    within_more (words_from values 0 count + 4) (words_from values 0 count + 9) a b (omega arith) (stores_polled size address values count last a b p)
stores_oddly size address values count a b shown (StoresOddly.misplaced last place held mid is p some found lost) =
    within_then (words_from values 0 count + 4) 5 (words_from values 0 count + 9) a mid b (omega arith)
    (stores_polled size address values count last a mid p) (found_five place held mid b found)
stores_oddly size address values count a b shown (StoresOddly.all_there last is s outside) = stores_stopped size address values count last count a b s

stores_failed : (size : Size) (address : ℕ) (values : List ℕ) (count old_count new_count : ℕ) (a b : Tells) (e : AccessFault)
    → StoresFailed size address values count old_count new_count a b e → IfUnbroken (Within (words_from values 0 count + 9) a b) e
stores_failed size address values count old_count new_count a b e (StoresFailed.in_run why is f) = broken (Within (words_from values 0 count + 9) a b) e why is
stores_failed size address values count old_count new_count a b e (StoresFailed.in_polls mid did f) =
    unbroken_behind (words_from values 0 count + 4) 0 (words_from values 0 count + 9) a mid b e (omega arith) (asked_spent size address values count a mid did)
    (poll_spent old_count new_count mid b e f)
stores_failed size address values count old_count new_count a b e (StoresFailed.in_finding last polled p why is f) = broken
    (Within (words_from values 0 count + 9) a b) e why is

pub stores_fell_spent : (size : Size) (address : ℕ) (values : List ℕ) (count old_count new_count : ℕ) (a b : Tells) (e : AccessFault)
    → StoresFell size address values count old_count new_count a b e → IfUnbroken (Within (words_from values 0 count + 9) a b) e
stores_fell_spent size address values count old_count new_count a b (access_fault.Dmi why) f = tt
stores_fell_spent size address values count old_count new_count a b (access_fault.Memory at) f = stores_stopped size address values count f.0 f.1 a b f.5
stores_fell_spent size address values count old_count new_count a b (access_fault.Register number) f = absurd f
stores_fell_spent size address values count old_count new_count a b access_fault.StillBusy f =
    stores_failed size address values count old_count new_count a b access_fault.StillBusy f
stores_fell_spent size address values count old_count new_count a b (access_fault.Run why) f = absurd f
stores_fell_spent size address values count old_count new_count a b (access_fault.Odd shown) f = stores_oddly size address values count a b shown f

record StoresSpent (values : List ℕ) (from n : ℕ) (a b : Tells) : Type 0 where
  within : from ≤ n
  spent : Within (words_from values from (n - from) + 4) a b

stores_spent : (size : Size) (address : ℕ) (values : List ℕ) (from : ℕ) (a : Tells) (n : ℕ) (b : Tells) → StoresAwaited size address values from a n b
    → StoresSpent values from n a b
stores_spent size address values from a _ b (StoresAwaited.begun _ did) = record {
  within = omega arith;
  spent = did_all (words_from values from (from - from) + 4) _ a b (omega (arith, words_none values from)) did;
}
stores_spent size address values from a _ b (StoresAwaited.next n mid _ s one) =
    let p : StoresSpent values from n a mid = stores_spent size address values from a n mid s in
    let w : from ≤ n = p.within in
    let acts : List Act = element_puts (upper_at values n) (value_at values n) in
    let e : words_from values from ((n + 1) - from) ≡ words_from values from (n - from) + length acts = words_next values from n w in
    record {
      within = omega (arith, w);
      spent = within_then (words_from values from (n - from) + 4) (length acts) (words_from values from ((n + 1) - from) + 4) a mid b (omega (arith, e))
          p.spent (within_then (length acts) 0 (length acts) mid one.asked b (omega arith) (did_all (length acts) acts mid one.asked (omega arith) one.put)
          (ended_free one.asked b one.ends));
    }

pub awaited_stores_spent : (size : Size) (address : ℕ) (values : List ℕ) (from n : ℕ) (a b : Tells) → StoresAwaited size address values from a n b
    → Within (words_from values from (n - from) + 4) a b
awaited_stores_spent size address values from n a b s = (stores_spent size address values from a n b s).spent

pub awaited_stores_failed : (size : Size) (address : ℕ) (values : List ℕ) (from count old_count new_count : ℕ) (a b : Tells) (e : AccessFault)
    → AwaitedStoresFailed size address values from count old_count new_count a b e
    → IfUnbroken (Within (words_from values from (count - from) + 5) a b) e
awaited_stores_failed size address values from count old_count new_count a b e (stores_start why is f) =
    broken (Within (words_from values from (count - from) + 5) a b) e why is
awaited_stores_failed size address values from count old_count new_count a b e (stores_next n mid below s (in_put why is f)) =
    broken (Within (words_from values from (count - from) + 5) a b) e why is
awaited_stores_failed size address values from count old_count new_count a b e (stores_next n mid below s (in_end asked did f)) =
    let p : StoresSpent values from n a mid = stores_spent size address values from a n mid s in
    let w : from ≤ n = p.within in
    let acts : List Act = element_puts (upper_at values n) (value_at values n) in
    let here : words_from values from ((n + 1) - from) ≡ words_from values from (n - from) + length acts = words_next values from n w in
    let all : words_from values from (count - from) ≡ words_from values from ((n + 1) - from) + words_from values (n + 1) (count - (n + 1)) =
    words_parts values from (n + 1) count (omega (arith, w)) (omega (arith, below)) in
    unbroken_behind ((words_from values from (n - from) + length acts) + 4) 1 (words_from values from (count - from) + 5) a asked b e (omega (arith, here, all))
    (within_then (words_from values from (n - from) + 4) (length acts) ((words_from values from (n - from) + length acts) + 4) a mid asked (omega arith)
    p.spent (did_all (length acts) acts mid asked (omega arith) did))
    (end_spent _ old_count new_count asked b e f)

-- ---- loads

-- elements of at most 4 bytes take one word each
narrow_long : (size : Size) (values : List ℕ) (acts : List Act) → IsNarrow size → ElementsRead size values acts → length acts ≤ length values
narrow_long size _ _ thin none_read = omega arith
narrow_long size _ _ thin (narrow low values acts n e) = let k : length acts ≤ length values = narrow_long size values acts thin e in omega (arith, k)
narrow_long size _ _ thin (double low high values acts eight e) = let no : IsNarrow B8 = subst (λ (z : Size). IsNarrow z) eight thin in absurd no

pairs_long : (size : Size) (values : List ℕ) (acts : List Act) → ElementsRead size values acts → length acts ≤ 2 * length values
pairs_long size _ _ none_read = omega arith
pairs_long size _ _ (narrow low values acts n e) = let k : length acts ≤ 2 * length values = pairs_long size values acts e in omega (arith, k)
pairs_long size _ _ (double low high values acts n e) = let k : length acts ≤ 2 * length values = pairs_long size values acts e in omega (arith, k)

elements_long : (size : Size) (values : List ℕ) (acts : List Act) → ElementsRead size values acts → length acts ≤ element_words size * length values
elements_long B1 values acts e = let k : length acts ≤ length values = narrow_long B1 values acts tt e in omega (arith, k)
elements_long B2 values acts e = let k : length acts ≤ length values = narrow_long B2 values acts tt e in omega (arith, k)
elements_long B4 values acts e = let k : length acts ≤ length values = narrow_long B4 values acts tt e in omega (arith, k)
elements_long B8 values acts e = pairs_long B8 values acts e

words_more : (size : Size) (n : ℕ) → element_words size * (n + 1) ≡ element_words size * n + element_words size
words_more B1 n = omega arith
words_more B2 n = omega arith
words_more B4 n = omega arith
words_more B8 n = omega arith

pub words_most : (size : Size) (n : ℕ) → element_words size * n ≤ 2 * n
words_most B1 n = omega arith
words_most B2 n = omega arith
words_most B4 n = omega arith
words_most B8 n = omega arith

read_spent : (size : Size) (number : ℕ) (was is : List ℕ) (a b : Tells) → MoreRead size number was is a b → Within (element_words size * number) a b
read_spent size number was is a b m =
    let k : length m.acts ≤ element_words size * length m.values = elements_long size m.values m.acts m.read in
    did_all (element_words size * number) m.acts a b (subst (λ n. length m.acts ≤ element_words size * n) m.count k) m.did

one_read_spent : (size : Size) (was is : List ℕ) (a b : Tells) → MoreRead size 1 was is a b → Within 2 a b
one_read_spent size was is a b m =
    let k : element_words size * 1 ≤ 2 * 1 = words_most size 1 in
    within_more (element_words size * 1) 2 a b (omega (arith, k)) (read_spent size 1 was is a b m)

-- the end of a run, with the polls in it
end_spent_by : (size : Size) (values : List ℕ) (acts looks : List Act) (a b : Tells) → length values ≡ 1 → ElementsRead size values acts
    → Spends sbcs_address 0 looks → Did a (Put sbcs_address (running false size) ∷ (acts ++ looks)) b
    → Within (element_words size + 1) a b
end_spent_by size values acts looks a b one read free did =
    let k : length acts ≤ element_words size * length values = elements_long size values acts read in
    let w : length acts ≤ element_words size * 1 = subst (λ n. length acts ≤ element_words size * n) one k in
    record {
      acts = Put sbcs_address (running false size) ∷ (acts ++ looks);
      did = did;
      count = suc (length acts + 0);
      spends = Spends.further (length acts + 0) _ (acts ++ looks)
          (spends_append sbcs_address (length acts) 0 acts looks (spends_all sbcs_address acts) free);
      within = omega (arith, w);
    }

end_polled_spent : (size : Size) (was is : List ℕ) (last : ℕ) (a b : Tells) → EndPolled size was is last a b → Within (element_words size + 1) a b
end_polled_spent size was is last a b e =
    end_spent_by size e.values e.acts (map bus_poll e.words ++ bus_poll last ∷ []) a b e.count e.read
    (spends_append sbcs_address 0 0 (map bus_poll e.words) (bus_poll last ∷ []) (spends_polls e.words) (Spends.poll 0 last [] Spends.nothing)) e.did

end_read_spent : (size : Size) (was is : List ℕ) (shown : ℕ) (a b : Tells) → EndRead size was is shown a b → Within (element_words size + 1) a b
end_read_spent size was is shown a b e =
    end_spent_by size e.values e.acts (bus_poll shown ∷ []) a b e.count e.read (Spends.poll 0 shown [] Spends.nothing) e.did

front_spent : (size : Size) (address count : ℕ) (front : List ℕ) (a b : Tells) → FrontRead size address count front a b
    → Within (element_words size * length front + 3) a b
front_spent size address count front a b r =
    within_then 3 (element_words size * length front) (element_words size * length front + 3) a r.begun b (omega arith)
    (did_all 3 _ a r.begun (omega arith) r.starts) (read_spent size (length front) [] front r.begun b r.first)

-- a run's words are its front's and the last one's
all_words : (size : Size) (count : ℕ) (front : List ℕ) → length front + 1 ≡ count
    → (element_words size * length front + 3) + (element_words size + 1) ≤ element_words size * count + 4
all_words size count front one_less =
    let e : element_words size * (length front + 1) ≡ element_words size * length front + element_words size = words_more size (length front) in
    subst (λ n. (element_words size * length front + 3) + (element_words size + 1) ≤ element_words size * n + 4) one_less (omega (arith, e))

ran_spent : (size : Size) (address count last : ℕ) (read : List ℕ) (a b : Tells) → length read ≡ count → Ran size address read last a b
    → Within (element_words size * count + 4) a b
ran_spent size address count last read a b all r =
    let f : FrontRead size address count r.front a r.read = run_front size address count last read a b all r in
    within_then (element_words size * length r.front + 3) (element_words size + 1) (element_words size * count + 4) a r.read b
    (all_words size count r.front f.one_less) (front_spent size address count r.front a r.read f)
    (end_polled_spent size r.front read last r.read b r.ends)

stopped_spent : (size : Size) (address count last : ℕ) (values : List ℕ) (a b : Tells) → Stopped size address count last values a b
    → Within (element_words size * count + 9) a b
stopped_spent size address count last values a b s =
    within_then (element_words size * count + 4) 5 (element_words size * count + 9) a s.polled b (omega arith)
    (ran_spent size address count last s.read a s.polled s.all s.runs)
    (did_all 5 _ s.polled b (omega arith) s.found)

run_read_spent : (size : Size) (address count last : ℕ) (read : List ℕ) (a b : Tells) → RunRead size address count last read a b
    → Within (element_words size * count + 4) a b
run_read_spent size address count last read a b r = ran_spent size address count last read a b r.all r.ran

pub run_loads_spent : (size : Size) (address count : ℕ) (values : List ℕ) (a b : Tells) → RunLoads size address count values a b
    → Within (element_words size * count + 9) a b
run_loads_spent size address count values a b (RunLoads.all all r) =
    within_more (element_words size * count + 4) (element_words size * count + 9) a b (omega arith) (ran_spent size address count r.last values a b all r.ran)
run_loads_spent size address count values a b (RunLoads.some last s fine early) = stopped_spent size address count last values a b s

run_oddly : (size : Size) (address count : ℕ) (a b : Tells) (shown : OddStatus) → RunOddly size address count shown a b
    → Within (element_words size * count + 9) a b
run_oddly size address count a b shown (RunOddly.other last read is r none other) =
    within_more (element_words size * count + 4) (element_words size * count + 9) a b (omega arith) (run_read_spent size address count last read a b r)
run_oddly size address count a b shown (RunOddly.misplaced last place value read mid is r some found lost) =
    within_then (element_words size * count + 4) 5 (element_words size * count + 9) a mid b (omega arith) (run_read_spent size address count last read a mid r)
    (found_five place value mid b found)
run_oddly size address count a b shown (RunOddly.all_there last values is s outside all) = stopped_spent size address count last values a b s

run_failed : (size : Size) (address count old_count new_count : ℕ) (a b : Tells) (e : AccessFault) → RunFailed size address count old_count new_count a b e
    → IfUnbroken (Within (element_words size * count + 9) a b) e
run_failed size address count old_count new_count a b e (RunFailed.in_start why is f) = broken (Within (element_words size * count + 9) a b) e why is
run_failed size address count old_count new_count a b e (RunFailed.in_front number below begun did why is f) = broken
    (Within (element_words size * count + 9) a b) e why is
run_failed size address count old_count new_count a b e (RunFailed.in_end front read r why is f) = broken (Within (element_words size * count + 9) a b) e why is
run_failed size address count old_count new_count a b e (RunFailed.in_polls front values shown read mid r p f) =
    unbroken_behind (element_words size * count + 4) 0 (element_words size * count + 9) a mid b e (omega arith)
    (within_then (element_words size * length front + 3) (element_words size + 1) (element_words size * count + 4) a read mid
    (all_words size count front r.one_less)
    (front_spent size address count front a read r)
    (end_read_spent size front values shown read mid p)) (poll_spent old_count new_count mid b e f)
run_failed size address count old_count new_count a b e (RunFailed.in_finding read polled last all r why is f) =
    broken (Within (element_words size * count + 9) a b) e why is

pub run_fell_spent : (size : Size) (address count old_count new_count : ℕ) (values : List ℕ) (a b : Tells) (e : AccessFault)
    → RunFell size address count values old_count new_count a b e → IfUnbroken (Within (element_words size * count + 9) a b) e
run_fell_spent size address count old_count new_count values a b (access_fault.Dmi why) f = tt
run_fell_spent size address count old_count new_count values a b (access_fault.Memory at) f = stopped_spent size address count f.0 values a b f.4
run_fell_spent size address count old_count new_count values a b (access_fault.Register number) f = absurd f
run_fell_spent size address count old_count new_count values a b access_fault.StillBusy f =
    run_failed size address count old_count new_count a b access_fault.StillBusy f
run_fell_spent size address count old_count new_count values a b (access_fault.Run why) f = absurd f
run_fell_spent size address count old_count new_count values a b (access_fault.Odd shown) f = run_oddly size address count a b shown f

record LoadsSpent (was values : List ℕ) (a b : Tells) : Type 0 where
  within : length was ≤ length values
  spent : Within (2 * (length values - length was) + 3) a b

loads_spent : (size : Size) (address : ℕ) (was : List ℕ) (a : Tells) (values : List ℕ) (b : Tells) → LoadsAwaited size address was a values b
    → LoadsSpent was values a b
loads_spent size address was a _ b (LoadsAwaited.begun _ did) =
    record { within = omega arith; spent = did_all (2 * (length was - length was) + 3) _ a b (omega arith) did }
loads_spent size address was a _ b (LoadsAwaited.next values more mid _ s one) =
    let p : LoadsSpent was values a mid = loads_spent size address was a values mid s in
    let w : length was ≤ length values = p.within in
    let e : length more ≡ length values + 1 = read_longer size values more one.ended b one.read in
    record {
      within = omega (arith, w, e);
      spent = within_then (2 * (length values - length was) + 3) 2 (2 * (length more - length was) + 3) a mid b (omega (arith, w, e)) p.spent
          (within_then 0 2 2 mid one.ended b (omega arith) (ended_free mid one.ended one.ends) (one_read_spent size values more one.ended b one.read));
    }

pub all_awaited_spent : (size : Size) (address count : ℕ) (was is : List ℕ) (a b : Tells) → AllAwaited size address count was is a b
    → Within (2 * (count - length was) + 5) a b
all_awaited_spent size address count was is a b w =
    let p : LoadsSpent was w.front a w.mid = loads_spent size address was a w.front w.mid w.awaited in
    let k : length was ≤ length w.front = p.within in
    let all : length w.front + 1 ≡ count = w.all in
    within_then (2 * (length w.front - length was) + 3) 3 (2 * (count - length was) + 5) a w.mid b (omega (arith, k, all)) p.spent
    (within_then 1 2 3 w.mid w.last.stopped b (omega arith)
    (within_then 0 1 1 w.mid w.last.ended w.last.stopped (omega arith) (ended_free w.mid w.last.ended w.last.ends)
    (did_all 1 _ w.last.ended w.last.stopped (omega arith) w.last.stops)) (one_read_spent size w.front is w.last.stopped b w.last.read))

at_end_spent : (size : Size) (address count old_count new_count : ℕ) (was is : List ℕ) (a b : Tells) (e : AccessFault)
    → AtEnd size address count was is old_count new_count a b e → IfUnbroken (Within (2 * (count - length was) + 5) a b) e
at_end_spent size address count old_count new_count was is a b e (AtEnd.broke why dmi) = broken (Within (2 * (count - length was) + 5) a b) e why dmi
at_end_spent size address count old_count new_count was is a b e (AtEnd.ending mid below s f) =
    let p : LoadsSpent was is a mid = loads_spent size address was a is mid s in
    let k : length was ≤ length is = p.within in
    unbroken_behind (2 * (length is - length was) + 3) 1 (2 * (count - length was) + 5) a mid b e (omega (arith, k, below)) p.spent
    (end_spent _ old_count new_count mid b e f)

pub awaited_loads_failed : (size : Size) (address count old_count new_count : ℕ) (was is : List ℕ) (a b : Tells) (e : AccessFault)
    → AwaitedLoadsFailed size address count was is old_count new_count a b e → IfUnbroken (Within (2 * (count - length was) + 5) a b) e
awaited_loads_failed size address count old_count new_count was is a b e f =
    at_end_spent size address count old_count new_count was is a b e (at_end size address count old_count new_count was is a b e f)
