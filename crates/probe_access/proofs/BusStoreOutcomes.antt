-- What a run of stores by the system bus comes to at a told chip.
use Rattle.std.proofs.Common.{
  ◌≡◌,
  ◌≢◌,
  ◌⊎◌,
  ◌∙◌,
  ◌≤◌,
  ◌<◌,
  ◌+◌,
  ◌*◌,
  ◌++◌,
  ◌^◌,
  ◌%◌,
  ℕ,
  List,
  [],
  ◌∷◌,
  map,
  true,
  false,
  Option,
  Some,
  None,
  refl,
  sym,
  subst,
  arith,
}
use Rattle.std.proofs.lemmas.Bool.{false≢true}
use Rattle.rv_model.specs.declared.size.Size.{Size}
use Rattle.rv_model.specs.Memory.{is_aligned}
use Rattle.rv_model.specs.Size.{count_of}
use Rattle.debug_model.specs.Dmi.{DmiComing}
use Rattle.debug_model.specs.Module.{Site}
use Rattle.debug_model.specs.Scan.{WhereTold}
use Rattle.debug_model.specs.Told.{Far, IsReady, SiteReady, site_of}
use Rattle.probe_access.specs.declared.odd.OddStatus.{OddStatus}
use Rattle.probe_run.specs.Acts.{Did, Tells, tells}
use Rattle.probe_access.specs.Blocks.{element_at}
use Rattle.probe_access.specs.BusBlocks.{BusValueStoreRefused, BusValuesStoredAt}
use Rattle.probe_access.specs.BusRuns.{BusPolled, bus_collided, bus_error, bus_poll}
use Rattle.probe_access.specs.BusStoreStreams.{RunStores, StoresOddly, StoresPolled, StoresStopped, stores_asked, upper_at}
use Rattle.probe_access.specs.BusStreams.{FoundAt, Misplaced, found_acts}
use Rattle.probe_access.proofs.Along.{AtSites, did_sites, did_untold}
use Rattle.probe_access.proofs.BusStoreEnds.{
  AllStored,
  NextRefused,
  StoresEnd,
  early_stored,
  polls_end,
  refused_next,
  still_found,
  still_stored,
  unstored_found,
}
use Rattle.probe_access.proofs.BusStoreStarts.{all_asked}
use Rattle.probe_access.proofs.BusStoreSteps.{Asked}
use Rattle.probe_access.proofs.BusStreamEnds.{Found, element_small}
use Rattle.probe_access.proofs.BusStreamOutcomes.{element_whole, odd_fine, two_not_zero}

-- ---- where a run stands

pub record AskedAt (size : Size) (address : ℕ) (values : List ℕ) (count : ℕ) (f : Far) (told : Option Far) : Type 0 where
  pub far : Far
  pub is : told ≡ Some far
  pub asked : Asked size address values count (site_of f) count (upper_at values count) (site_of far)

pub record EndAt (size : Size) (address : ℕ) (values : List ℕ) (count last : ℕ) (f : Far) (told : Option Far) : Type 0 where
  pub far : Far
  pub is : told ≡ Some far
  pub end : StoresEnd size address values count (site_of f) last (site_of far)

pub asked_at : (size : Size) (address : ℕ) (values : List ℕ) (count : ℕ) (f : Far) (coming : Option DmiComing) (new : Tells) → SiteReady (site_of f)
    → is_aligned address size ≡ true → address + count * count_of size ≤ 2 ^ 64 → 0 < count
    → Did (tells (Some f) coming) (stores_asked size address values count) new → AskedAt size address values count f new.far
asked_at size address values count f coming new ready aligned ends some did =
    let q : AtSites (stores_asked size address values count) f new.far = did_sites (tells (Some f) coming) _ new f did refl in
    record { far = q.far; is = q.is; asked = all_asked size address values count (site_of f) (site_of q.far) ready aligned ends some q.acts_are }

pub end_at : (size : Size) (address : ℕ) (values : List ℕ) (count last : ℕ) (f : Far) (mid new : Tells) → AskedAt size address values count f mid.far
    → BusPolled last mid new → EndAt size address values count last f new.far
end_at size address values count last f mid new g p =
    let q : AtSites (map bus_poll p.words ++ bus_poll last ∷ []) g.far new.far = did_sites mid _ new g.far p.did g.is in
    record {
      far = q.far;
      is = q.is;
      end = polls_end size address values count (upper_at values count) (site_of f) p.words last (site_of g.far) (site_of q.far) p.idle g.asked q.acts_are;
    }

pub polled_at : (size : Size) (address : ℕ) (values : List ℕ) (count last : ℕ) (f : Far) (coming : Option DmiComing) (new : Tells) → SiteReady (site_of f)
    → is_aligned address size ≡ true → address + count * count_of size ≤ 2 ^ 64 → 0 < count
    → StoresPolled size address values count last (tells (Some f) coming) new → EndAt size address values count last f new.far
polled_at size address values count last f coming new ready aligned ends some r =
    end_at size address values count last f r.mid new (asked_at size address values count f coming r.mid ready aligned ends some r.asked) r.polled

-- ---- what is stored

pub record StoresTold (size : Size) (address : ℕ) (values : List ℕ) (done : ℕ) (old new : Option Far) : Type 0 where
  pub stored : WhereTold (BusValuesStoredAt size address values done) old new
  pub ready : IsReady new

pub told_stored : (size : Size) (address : ℕ) (values : List ℕ) (done : ℕ) (f g : Far) (new : Option Far) → new ≡ Some g
    → AllStored size address values done (site_of f) (site_of g) → StoresTold size address values done (Some f) new
told_stored size address values done f g new is a =
    record { stored = record { far = g; is = is; each = a.each }; ready = subst (λ (o : Option Far). IsReady o) (sym is) a.ready }

pub untold_stored : (size : Size) (address : ℕ) (values : List ℕ) (done : ℕ) (new : Option Far) → new ≡ None → StoresTold size address values done None new
untold_stored size address values done new is = record { stored = is; ready = subst (λ (o : Option Far). IsReady o) (sym is) tt }

polled_untold : (size : Size) (address : ℕ) (values : List ℕ) (count last : ℕ) (coming : Option DmiComing) (new : Tells)
    → StoresPolled size address values count last (tells None coming) new → new.far ≡ None
polled_untold size address values count last coming new r =
    did_untold r.mid _ new r.polled.did (did_untold (tells None coming) _ r.mid r.asked refl)

stopped_untold : (size : Size) (address : ℕ) (values : List ℕ) (count last done : ℕ) (coming : Option DmiComing) (new : Tells)
    → StoresStopped size address values count last done (tells None coming) new → new.far ≡ None
stopped_untold size address values count last done coming new s =
    did_untold s.polled _ new s.found.did (polled_untold size address values count last coming s.polled s.shows)

through_by : (size : Size) (address : ℕ) (values : List ℕ) (count last : ℕ) (f : Far) (told : Option Far) → 0 < count → bus_error last ≡ 0
    → bus_collided last ≡ false
    → (e : EndAt size address values count last f told) → StoresEnd size address values count (site_of f) last (site_of e.far)
    → StoresTold size address values count (Some f) told
through_by size address values count last f told some fine alone e (StoresEnd.fine own r error collided) =
    told_stored size address values count f e.far told e.is (still_stored size address values (site_of f) count own (site_of e.far) some r)
through_by size address values count last f told some fine alone e (StoresEnd.early n own below r error collided) = absurd (false≢true (sym alone ∙ collided))
through_by size address values count last f told some fine alone e (StoresEnd.refused c n below r error) = absurd (two_not_zero (bus_error last) error fine)

early_by : (size : Size) (address : ℕ) (values : List ℕ) (count last done : ℕ) (f : Far) (polled new : Tells) (place held : ℕ) → count ≤ 512
    → bus_error last ≡ 0
    → bus_collided last ≡ true → (e : EndAt size address values count last f polled.far) → FoundAt place held polled new
    → place ≡ element_at size address done % 2 ^ 64 → done ≤ count → StoresEnd size address values count (site_of f) last (site_of e.far)
    → StoresTold size address values done (Some f) new.far
early_by size address values count last done f polled new place held few fine early e found there within (StoresEnd.fine own r error collided) =
    absurd (false≢true (sym collided ∙ early))
early_by size address values count last done f polled new place held few fine early e found there within (StoresEnd.early n own below r error collided) =
    let q : AtSites (found_acts found.low found.high found.data0 found.data1) e.far new.far = did_sites polled _ new e.far found.did e.is in
    told_stored size address values done f q.far new.far q.is
    (early_stored size address values count (site_of f) n own done found.low found.high found.data0 found.data1 (site_of e.far) (site_of q.far) few below r
    q.acts_are (sym found.place ∙ there) within)
early_by size address values count last done f polled new place held few fine early e found there within (StoresEnd.refused c n below r error) =
    absurd (two_not_zero (bus_error last) error fine)

pub stores_told : (size : Size) (address : ℕ) (values : List ℕ) (count done : ℕ) (far : Option Far) (coming : Option DmiComing) (new : Tells) → IsReady far
    → is_aligned address size ≡ true → address + count * count_of size ≤ 2 ^ 64 → count ≤ 512 → 0 < count
    → RunStores size address values count done (tells far coming) new → StoresTold size address values done far new.far
stores_told size address values count done None coming new ready aligned ends few some (RunStores.all is r) =
    untold_stored size address values done new.far
    (did_untold r.mid _ new r.ends.polled.did (did_untold (tells None coming) _ r.mid r.asked refl))
stores_told size address values count done None coming new ready aligned ends few some (RunStores.some last s fine early) =
    untold_stored size address values done new.far (stopped_untold size address values count last done coming new s)
stores_told size address values count done (Some f) coming new ready aligned ends few some (RunStores.all is r) =
    let e : EndAt size address values count r.ends.last f new.far =
    end_at size address values count r.ends.last f r.mid new
    (asked_at size address values count f coming r.mid ready aligned ends some r.asked) r.ends.polled in
    subst (λ k. StoresTold size address values k (Some f) new.far) (sym is)
    (through_by size address values count r.ends.last f new.far some r.ends.fine r.ends.alone e e.end)
stores_told size address values count done (Some f) coming new ready aligned ends few some (RunStores.some last s fine early) =
    let e : EndAt size address values count last f s.polled.far =
    polled_at size address values count last f coming s.polled ready aligned ends some s.shows in
    early_by size address values count last done f s.polled new s.place s.held few fine early e s.found s.before.there s.before.within e.end

pub stores_few : (size : Size) (address : ℕ) (values : List ℕ) (count done : ℕ) (old new : Tells) → RunStores size address values count done old new
    → done ≤ count
stores_few size address values count done old new (RunStores.all is r) = omega (arith, is)
stores_few size address values count done old new (RunStores.some last s fine early) = s.before.within

-- ---- what is refused

pub record StoresRefusal (size : Size) (address : ℕ) (values : List ℕ) (count done : ℕ) (old new : Option Far) : Type 0 where
  pub refused : WhereTold (BusValueStoreRefused size address values done) old new
  pub ready : IsReady new
  pub below : WhereTold (λ c told. done < count) old new

refused_by : (size : Size) (address : ℕ) (values : List ℕ) (count last done : ℕ) (f : Far) (polled new : Tells) (place held : ℕ) → count ≤ 512
    → address + count * count_of size ≤ 2 ^ 64 → bus_error last ≡ 2 → (e : EndAt size address values count last f polled.far) → FoundAt place held polled new
    → place ≡ element_at size address done % 2 ^ 64 → done ≤ count → StoresEnd size address values count (site_of f) last (site_of e.far)
    → StoresRefusal size address values count done (Some f) new.far
refused_by size address values count last done f polled new place held few ends outside e found there within (StoresEnd.fine own r error collided) =
    absurd (two_not_zero (bus_error last) outside error)
refused_by size address values count last done f polled new place held few ends outside e found there within (StoresEnd.early n own below r error collided) =
    absurd (two_not_zero (bus_error last) outside error)
refused_by size address values count last done f polled new place held few ends outside e found there within (StoresEnd.refused c n below r error) =
    let q : AtSites (found_acts found.low found.high found.data0 found.data1) e.far new.far = did_sites polled _ new e.far found.did e.is in
    let a : (n ≡ done) × NextRefused size address values done (site_of f) (site_of q.far) =
    refused_next size address values count (site_of f) c n done found.low found.high found.data0 found.data1 (site_of e.far) (site_of q.far) few ends below r
    q.acts_are (sym found.place ∙ there) within in
    record {
      refused = record { far = q.far; is = q.is; mid = a.1.mid; each = a.1.each; refused = a.1.refused };
      ready = subst (λ (o : Option Far). IsReady o) (sym q.is) a.1.ready;
      below = let same : n ≡ done = a.0 in omega (arith, below, same);
    }

pub stores_refused : (size : Size) (address : ℕ) (values : List ℕ) (count last done : ℕ) (far : Option Far) (coming : Option DmiComing) (new : Tells)
    → IsReady far
    → is_aligned address size ≡ true → address + count * count_of size ≤ 2 ^ 64 → count ≤ 512 → 0 < count
    → StoresStopped size address values count last done (tells far coming) new → bus_error last ≡ 2
    → StoresRefusal size address values count done far new.far
stores_refused size address values count last done None coming new ready aligned ends few some s outside =
    let end : new.far ≡ None = stopped_untold size address values count last done coming new s in
    record { refused = end; ready = subst (λ (o : Option Far). IsReady o) (sym end) tt; below = end }
stores_refused size address values count last done (Some f) coming new ready aligned ends few some s outside =
    let e : EndAt size address values count last f s.polled.far =
    polled_at size address values count last f coming s.polled ready aligned ends some s.shows in
    refused_by size address values count last done f s.polled new s.place s.held few ends outside e s.found s.before.there s.before.within e.end

-- ---- another error is shown of no told chip

odd_other : (size : Size) (address : ℕ) (values : List ℕ) (count last : ℕ) (s t : Site) → bus_error last ≢ 0 → bus_error last ≢ 2
    → StoresEnd size address values count s last t → ⊥
odd_other size address values count last s t none other (StoresEnd.fine own r error collided) = none error
odd_other size address values count last s t none other (StoresEnd.early n own below r error collided) = none error
odd_other size address values count last s t none other (StoresEnd.refused c n below r error) = other error

odd_place : (size : Size) (address : ℕ) (values : List ℕ) (count last place held : ℕ) (f : Far) (polled new : Tells) → address + count * count_of size ≤ 2 ^ 64
    → (bus_error last ≢ 0) ⊎ (bus_collided last ≡ true) → FoundAt place held polled new → Misplaced size address place count
    → (e : EndAt size address values count last f polled.far) → StoresEnd size address values count (site_of f) last (site_of e.far) → ⊥
odd_place size address values count last place held f polled new ends some found lost e
    (StoresEnd.fine own r error collided) = odd_fine last some error collided
odd_place size address values count last place held f polled new ends some found lost e (StoresEnd.early n own below r error collided) =
    let q : AtSites (found_acts found.low found.high found.data0 found.data1) e.far new.far = did_sites polled _ new e.far found.did e.is in
    let at : Found (element_at size address (n + 1) % 2 ^ 64) r.held found.low found.high found.data0 found.data1 r.mid (site_of q.far) =
    still_found size address values (site_of f) (n + 1) own found.low found.high found.data0 found.data1 (site_of e.far) (site_of q.far) r q.acts_are in
    lost (n + 1) (omega (arith, below)) (found.place ∙ at.place)
odd_place size address values count last place held f polled new ends some found lost e (StoresEnd.refused c n below r error) =
    let q : AtSites (found_acts found.low found.high found.data0 found.data1) e.far new.far = did_sites polled _ new e.far found.did e.is in
    let at : Found (element_at size address n) r.held found.low found.high found.data0 found.data1 r.mid (site_of q.far) =
    unstored_found size address values count (site_of f) c n found.low found.high found.data0 found.data1 (site_of e.far) (site_of q.far) ends below r
    q.acts_are in
    lost n (omega (arith, below)) (found.place ∙ at.place ∙ element_whole size address n (element_small size address count n ends below))

pub oddly_none : (size : Size) (address : ℕ) (values : List ℕ) (count : ℕ) (shown : OddStatus) (far : Option Far) (coming : Option DmiComing) (new : Tells)
    → IsReady far
    → is_aligned address size ≡ true → address + count * count_of size ≤ 2 ^ 64 → count ≤ 512 → 0 < count
    → StoresOddly size address values count shown (tells far coming) new → far ≡ None
oddly_none size address values count shown None coming new ready aligned ends few some o = refl
oddly_none size address values count shown (Some f) coming new ready aligned ends few some (StoresOddly.other last is r none other) =
    let e : EndAt size address values count last f new.far = polled_at size address values count last f coming new ready aligned ends some r in
    absurd (odd_other size address values count last (site_of f) (site_of e.far) none other e.end)
oddly_none size address values count shown (Some f) coming new ready aligned ends few some (StoresOddly.misplaced last place held mid is r wrong found lost) =
    let e : EndAt size address values count last f mid.far = polled_at size address values count last f coming mid ready aligned ends some r in
    absurd (odd_place size address values count last place held f mid new ends wrong found lost e e.end)
oddly_none size address values count shown (Some f) coming new ready aligned ends few some (StoresOddly.all_there last is s outside) =
    let r : StoresRefusal size address values count count (Some f) new.far =
    stores_refused size address values count last count (Some f) coming new ready aligned ends few some s outside in
    let below : count < count = r.below in
    absurd (let no : ⊥ = omega (arith, below) in no)
