-- The end of a run of stores by the system bus at a told chip: what the last poll shows, and how many elements were stored then.
use Rattle.std.proofs.Common.{
  ◌≡◌,
  ◌∙◌,
  ◌≤◌,
  ◌<◌,
  ◌+◌,
  ◌*◌,
  ◌++◌,
  ◌^◌,
  ◌%◌,
  ℕ,
  List,
  [],
  ◌∷◌,
  map,
  Bool,
  true,
  false,
  None,
  refl,
  sym,
  ap,
  subst,
  arith,
}
use Rattle.std.proofs.lemmas.Bool.{false≢true}
use Rattle.rv_model.specs.declared.size.Size.{Size}
use Rattle.rv_model.specs.declared.size.Size.TheVariants.{B1, B2, B4, B8}
use Rattle.rv_model.specs.Size.{count_of}
use Rattle.debug_model.specs.Addresses.{sbcs_address}
use Rattle.debug_model.specs.declared.dmi_op.DmiOp.TheVariants.{Read}
use Rattle.debug_model.specs.declared.sberror.Sberror.TheVariants.{Fine}
use Rattle.debug_model.specs.Deeds.{Deed, ran}
use Rattle.debug_model.specs.Dmi.{value_of}
use Rattle.debug_model.specs.Module.{Site, operated, operation_result}
use Rattle.debug_model.specs.SystemBus.{BusUnit}
use Rattle.debug_model.specs.Told.{SiteReady}
use Rattle.probe_access.specs.Blocks.{element_at, value_at}
use Rattle.probe_access.specs.BusBlocks.{BusNotStoredOne, BusStoredValues, BusStoredOne}
use Rattle.probe_access.specs.BusBlocks.BusStoredValues.{nothing as none_stored, further as stored_further}
use Rattle.probe_access.specs.BusRuns.{bus_busy, bus_collided, bus_error, bus_poll}
use Rattle.probe_access.specs.BusStreams.{found_acts}
use Rattle.probe_access.specs.RegisterAccess.{joined}
use Rattle.probe_access.specs.Accesses.{unchanged}
use Rattle.rv_model.specs.Memory.{after_store}
use Rattle.probe_access.proofs.Along.{SiteActs}
use Rattle.probe_access.proofs.BusSites.{AtBus}
use Rattle.probe_access.proofs.BusStoreSites.{Still, Storing, Unstored, still_ran, unstored_ran}
use Rattle.probe_access.proofs.BusStoreSteps.{Asked, Wrong, asked_ran}
use Rattle.probe_access.proofs.BusStoreUnits.{still_bus, still_cleared, still_shown, unstored_bus, unstored_cleared, unstored_shown, writing, writing_shown}
use Rattle.probe_access.proofs.BusStreamEnds.{Found, element_small, found_at, shows_of}
use Rattle.probe_access.proofs.BusStreamShown.{RunShown, sbcs_seen}
use Rattle.probe_access.proofs.BusStreamSites.{access_passed, at_read, ready_at}
use Rattle.probe_access.proofs.BusStreamSites.Reads.{of_sbcs}
use Rattle.probe_access.proofs.BusUnits.{bus_at}
use Rattle.probe_access.proofs.ReadyTurns.{passed_turns}

-- ---- polls

pub storing_poll : (size : Size) (address : ℕ) (values : List ℕ) (s : Site) (collided : Bool) (n : ℕ) (x : Site)
    → Storing size address values s collided n x → Storing size address values s collided n (operated (Read sbcs_address) x)
storing_poll size address values s collided n x w =
    let u : BusUnit = writing size (element_at size address n) (value_at values n) collided in
    record { mid = w.mid; each = w.each; ready = w.ready; at = at_read sbcs_address _ _ u u w.mid x of_sbcs w.ready refl w.at }

pub still_poll : (size : Size) (address : ℕ) (values : List ℕ) (s : Site) (collided : Bool) (n upper : ℕ) (x : Site)
    → Still size address values s collided n upper x → Still size address values s collided n upper (operated (Read sbcs_address) x)
still_poll size address values s collided n upper x r =
    let u : BusUnit = still_bus size (element_at size address n % 2 ^ 64) r.held collided in
    record {
      mid = r.mid;
      each = r.each;
      ready = r.ready;
      held = r.held;
      upper_is = r.upper_is;
      at = at_read sbcs_address _ _ u u r.mid x of_sbcs r.ready refl r.at;
    }

pub unstored_poll : (size : Size) (address : ℕ) (values : List ℕ) (s : Site) (collided : Bool) (n : ℕ) (x : Site)
    → Unstored size address values s collided n x → Unstored size address values s collided n (operated (Read sbcs_address) x)
unstored_poll size address values s collided n x r =
    let u : BusUnit = unstored_bus size (element_at size address n) r.held collided in
    record {
      first = r.first;
      each = r.each;
      mid = r.mid;
      refused = r.refused;
      ready = r.ready;
      held = r.held;
      at = at_read sbcs_address _ _ u u r.mid x of_sbcs r.ready refl r.at;
    }

pub asked_poll : (size : Size) (address : ℕ) (values : List ℕ) (count : ℕ) (s : Site) (k upper : ℕ) (x : Site)
    → Asked size address values count s k upper x → Asked size address values count s k upper (operated (Read sbcs_address) x)
asked_poll size address values count s k upper x (Asked.writes n is own w) =
    Asked.writes n is own (storing_poll size address values s false n x w)
asked_poll size address values count s k upper x (Asked.still r) = Asked.still (still_poll size address values s false k upper x r)
asked_poll size address values count s k upper x (Asked.wrong (Wrong.writes n below w)) =
    Asked.wrong (Wrong.writes n below (storing_poll size address values s true n x w))
asked_poll size address values count s k upper x (Asked.wrong (Wrong.still n other below r)) =
    Asked.wrong (Wrong.still n other below (still_poll size address values s true (n + 1) other x r))
asked_poll size address values count s k upper x (Asked.wrong (Wrong.unstored collided n below r)) =
    Asked.wrong (Wrong.unstored collided n below (unstored_poll size address values s collided n x r))

-- ---- at the end of the last access

pub data StoresEnd (size : Size) (address : ℕ) (values : List ℕ) (count : ℕ) (s : Site) (last : ℕ) (t : Site) : Type 0 where
  fine : (upper : ℕ) → Still size address values s false count upper t → bus_error last ≡ 0 → bus_collided last ≡ false
      → StoresEnd size address values count s last t
  early : (n upper : ℕ) → n < count → Still size address values s true (n + 1) upper t → bus_error last ≡ 0 → bus_collided last ≡ true
      → StoresEnd size address values count s last t
  refused : (collided : Bool) (n : ℕ) → n < count → Unstored size address values s collided n t → bus_error last ≡ 2
      → StoresEnd size address values count s last t

poll_ended : (size : Size) (address : ℕ) (values : List ℕ) (count upper : ℕ) (s : Site) (last : ℕ) (x : Site)
    → last ≡ value_of (operation_result (Read sbcs_address) x) → bus_busy last ≡ false → Asked size address values count s count upper x
    → StoresEnd size address values count s last x
poll_ended size address values count upper s last x shows idle (Asked.writes n is own w) =
    let v : ℕ = value_at values n in
    let u : BusUnit = writing size (element_at size address n) v false in
    let e : last ≡ sbcs_seen u = shows_of last u w.mid x w.ready w.at shows in
    let k : RunShown true 0 false (sbcs_seen u) = writing_shown size (element_at size address n) v false in
    absurd (false≢true (sym idle ∙ ap bus_busy e ∙ k.busy_is))
poll_ended size address values count upper s last x shows idle (Asked.still r) =
    let a : ℕ = element_at size address count % 2 ^ 64 in
    let e : last ≡ sbcs_seen (still_bus size a r.held false) = shows_of last (still_bus size a r.held false) r.mid x r.ready r.at shows in
    let k : RunShown false 0 false (sbcs_seen (still_bus size a r.held false)) = still_shown size a r.held false in
    StoresEnd.fine upper r (ap bus_error e ∙ k.error_is) (ap bus_collided e ∙ k.collided_is)
poll_ended size address values count upper s last x shows idle (Asked.wrong (Wrong.writes n below w)) =
    let v : ℕ = value_at values n in
    let u : BusUnit = writing size (element_at size address n) v true in
    let e : last ≡ sbcs_seen u = shows_of last u w.mid x w.ready w.at shows in
    let k : RunShown true 0 true (sbcs_seen u) = writing_shown size (element_at size address n) v true in
    absurd (false≢true (sym idle ∙ ap bus_busy e ∙ k.busy_is))
poll_ended size address values count upper s last x shows idle (Asked.wrong (Wrong.still n other below r)) =
    let a : ℕ = element_at size address (n + 1) % 2 ^ 64 in
    let e : last ≡ sbcs_seen (still_bus size a r.held true) = shows_of last (still_bus size a r.held true) r.mid x r.ready r.at shows in
    let k : RunShown false 0 true (sbcs_seen (still_bus size a r.held true)) = still_shown size a r.held true in
    StoresEnd.early n other below r (ap bus_error e ∙ k.error_is) (ap bus_collided e ∙ k.collided_is)
poll_ended size address values count upper s last x shows idle (Asked.wrong (Wrong.unstored collided n below r)) =
    let u : BusUnit = unstored_bus size (element_at size address n) r.held collided in
    let e : last ≡ sbcs_seen u = shows_of last u r.mid x r.ready r.at shows in
    let k : RunShown false 2 collided (sbcs_seen u) = unstored_shown size (element_at size address n) r.held collided in
    StoresEnd.refused collided n below r (ap bus_error e ∙ k.error_is)

-- behind it nothing changes
end_read : (size : Size) (address : ℕ) (values : List ℕ) (count : ℕ) (s : Site) (last : ℕ) (x : Site) → StoresEnd size address values count s last x
    → StoresEnd size address values count s last (operated (Read sbcs_address) x)
end_read size address values count s last x (StoresEnd.fine upper r error collided) =
    StoresEnd.fine upper (still_poll size address values s false count upper x r) error collided
end_read size address values count s last x (StoresEnd.early n upper below r error collided) =
    StoresEnd.early n upper below (still_poll size address values s true (n + 1) upper x r) error collided
end_read size address values count s last x (StoresEnd.refused c n below r error) =
    StoresEnd.refused c n below (unstored_poll size address values s c n x r) error

end_ran : (size : Size) (address : ℕ) (values : List ℕ) (count : ℕ) (s : Site) (last : ℕ) (x : Site) (ds : List Deed)
    → StoresEnd size address values count s last x → StoresEnd size address values count s last (ran ds x)
end_ran size address values count s last x ds (StoresEnd.fine upper r error collided) =
    StoresEnd.fine upper (still_ran size address values s false count upper x ds r) error collided
end_ran size address values count s last x ds (StoresEnd.early n upper below r error collided) =
    StoresEnd.early n upper below (still_ran size address values s true (n + 1) upper x ds r) error collided
end_ran size address values count s last x ds (StoresEnd.refused c n below r error) =
    StoresEnd.refused c n below (unstored_ran size address values s c n x ds r) error

pub polls_asked : (size : Size) (address : ℕ) (values : List ℕ) (count upper : ℕ) (s : Site) (words : List ℕ) (x t : Site)
    → Asked size address values count s count upper x → SiteActs (map bus_poll words) x t → Asked size address values count s count upper t
polls_asked size address values count upper s [] x t g acts = subst (λ (y : Site). Asked size address values count s count upper y) (sym acts) g
polls_asked size address values count upper s (word ∷ words) x t g acts =
    let o = acts.1.one in
    let z : Site = ran o.before x in
    polls_asked size address values count upper s words acts.0 t
    (subst (λ (y : Site). Asked size address values count s count upper y) (sym o.is)
    (asked_ran size address values count s count upper (operated (Read sbcs_address) z) o.behind (omega arith)
    (asked_poll size address values count s count upper z (asked_ran size address values count s count upper x o.before (omega arith) g)))) acts.2

pub polls_end : (size : Size) (address : ℕ) (values : List ℕ) (count upper : ℕ) (s : Site) (words : List ℕ) (last : ℕ) (x t : Site)
    → bus_busy last ≡ false → Asked size address values count s count upper x → SiteActs (map bus_poll words ++ bus_poll last ∷ []) x t
    → StoresEnd size address values count s last t
polls_end size address values count upper s [] last x t idle g acts =
    let o = acts.1.one in
    let z : Site = ran o.before x in
    subst (λ (y : Site). StoresEnd size address values count s last y) (sym (acts.2 ∙ o.is))
    (end_ran size address values count s last (operated (Read sbcs_address) z) o.behind
    (end_read size address values count s last z
    (poll_ended size address values count upper s last z (acts.1.value_is ∙ ap value_of o.result_is) idle
    (asked_ran size address values count s count upper x o.before (omega arith) g))))
polls_end size address values count upper s (word ∷ words) last x t idle g acts =
    let o = acts.1.one in
    let z : Site = ran o.before x in
    polls_end size address values count upper s words last acts.0 t idle
    (subst (λ (y : Site). Asked size address values count s count upper y) (sym o.is)
    (asked_ran size address values count s count upper (operated (Read sbcs_address) z) o.behind (omega arith)
    (asked_poll size address values count s count upper z (asked_ran size address values count s count upper x o.before (omega arith) g)))) acts.2

-- ---- turns behind the last access

pub stored_passed : (size : Size) (address value : ℕ) (s mid : Site) (u : BusUnit) (t : Site) → BusStoredOne size address value s mid → AtBus u mid t
    → BusStoredOne size address value s t
stored_passed size address value s mid u t one a = record {
  before = one.before;
  behind = one.behind ++ (passed_turns a.harts mid).harts;
  done = one.done;
  taken = one.taken;
  access = access_passed (λ m. after_store m address size value) one.before one.behind s mid u t one.access a;
}

pub unstored_passed : (size : Size) (address : ℕ) (s mid : Site) (u : BusUnit) (t : Site) → BusNotStoredOne size address s mid → AtBus u mid t
    → BusNotStoredOne size address s t
unstored_passed size address s mid u t one a = record {
  before = one.before;
  behind = one.behind ++ (passed_turns a.harts mid).harts;
  why = one.why;
  refused = one.refused;
  access = access_passed unchanged one.before one.behind s mid u t one.access a;
}

-- of one at least: the one in front of the last
pub record StoredLast (size : Size) (address : ℕ) (values : List ℕ) (n : ℕ) (s t : Site) : Type 0 where
  pub front : ℕ
  pub is : n ≡ front + 1
  pub mid : Site
  pub each : BusStoredValues size address values s front mid
  pub one : BusStoredOne size (element_at size address front) (value_at values front) mid t

pub stored_last : (size : Size) (address : ℕ) (values : List ℕ) (n : ℕ) (s mid : Site) (u : BusUnit) (t : Site) → 0 < n
    → BusStoredValues size address values s n mid
    → AtBus u mid t → StoredLast size address values n s t
stored_last size address values _ s mid u t some none_stored at = absurd (omega (arith, some))
stored_last size address values _ s mid u t some (stored_further n m _ each one) at =
    record { front = n; is = refl; mid = m; each = each; one = stored_passed size (element_at size address n) (value_at values n) m mid u t one at }

pub stored_each : (size : Size) (address : ℕ) (values : List ℕ) (n : ℕ) (s t : Site) → StoredLast size address values n s t
    → BusStoredValues size address values s n t
stored_each size address values n s t l =
    subst (λ k. BusStoredValues size address values s k t) (sym l.is) (stored_further l.front l.mid t l.each l.one)

-- ---- so many were stored

pub record AllStored (size : Size) (address : ℕ) (values : List ℕ) (n : ℕ) (s t : Site) : Type 0 where
  pub each : BusStoredValues size address values s n t
  pub ready : SiteReady t

pub still_stored : (size : Size) (address : ℕ) (values : List ℕ) (s : Site) (n own : ℕ) (t : Site) → 0 < n → Still size address values s false n own t
    → AllStored size address values n s t
still_stored size address values s n own t some r =
    let u : BusUnit = still_bus size (element_at size address n % 2 ^ 64) r.held false in
    record {
      each = stored_each size address values n s t (stored_last size address values n s r.mid u t some r.each r.at);
      ready = ready_at u r.mid t r.ready (record { idle = refl; fine = refl; no_busyerror = refl }) r.at;
    }

-- ---- how many, by the address

pub element_whole_small : (size : Size) (address n : ℕ) → element_at size address n % 2 ^ 64 < 2 ^ 64
element_whole_small size address n = omega arith

same_count : (size : Size) (address count n i : ℕ) → count ≤ 512 → n ≤ count → i ≤ count
    → element_at size address n % 2 ^ 64 ≡ element_at size address i % 2 ^ 64 → n ≡ i
same_count B1 a count n i few below within is = omega (arith, few, below, within, is)
same_count B2 a count n i few below within is = omega (arith, few, below, within, is)
same_count B4 a count n i few below within is = omega (arith, few, below, within, is)
same_count B8 a count n i few below within is = omega (arith, few, below, within, is)

pub still_found : (size : Size) (address : ℕ) (values : List ℕ) (s : Site) (n own : ℕ) (low high lower upper : ℕ) (x t : Site)
    → (r : Still size address values s true n own x) → SiteActs (found_acts low high lower upper) x t
    → Found (element_at size address n % 2 ^ 64) r.held low high lower upper r.mid t
still_found size address values s n own low high lower upper x t r acts =
    let a : ℕ = element_at size address n % 2 ^ 64 in
    found_at (still_bus size a r.held true) a r.held low high lower upper r.mid x t r.ready refl (element_whole_small size address n)
    (still_cleared size a r.held true) r.at acts

pub early_stored : (size : Size) (address : ℕ) (values : List ℕ) (count : ℕ) (s : Site) (n own done low high lower upper : ℕ) (x t : Site)
    → count ≤ 512 → n < count → Still size address values s true (n + 1) own x → SiteActs (found_acts low high lower upper) x t
    → joined low high ≡ element_at size address done % 2 ^ 64 → done ≤ count → AllStored size address values done s t
early_stored size address values count s n own done low high lower upper x t few below r acts place within =
    let a : ℕ = element_at size address (n + 1) % 2 ^ 64 in
    let f : Found a r.held low high lower upper r.mid t = still_found size address values s (n + 1) own low high lower upper x t r acts in
    let same : n + 1 ≡ done = same_count size address count (n + 1) done few (omega (arith, below)) within (sym f.place ∙ place) in
    let u : BusUnit = bus_at false B1 a r.held Fine None in
    record {
      each = subst (λ k. BusStoredValues size address values s k t) same
          (stored_each size address values (n + 1) s t (stored_last size address values (n + 1) s r.mid u t (omega arith) r.each f.now));
      ready = ready_at u r.mid t r.ready (record { idle = refl; fine = refl; no_busyerror = refl }) f.now;
    }

-- ---- memory refused the next

pub record NextRefused (size : Size) (address : ℕ) (values : List ℕ) (n : ℕ) (s t : Site) : Type 0 where
  pub mid : Site
  pub each : BusStoredValues size address values s n mid
  pub refused : BusNotStoredOne size (element_at size address n) mid t
  pub ready : SiteReady t

pub unstored_found : (size : Size) (address : ℕ) (values : List ℕ) (count : ℕ) (s : Site) (collided : Bool) (n : ℕ) (low high lower upper : ℕ) (x t : Site)
    → address + count * count_of size ≤ 2 ^ 64 → n < count → (r : Unstored size address values s collided n x)
    → SiteActs (found_acts low high lower upper) x t → Found (element_at size address n) r.held low high lower upper r.mid t
unstored_found size address values count s collided n low high lower upper x t ends below r acts =
    let a : ℕ = element_at size address n in
    found_at (unstored_bus size a r.held collided) a r.held low high lower upper r.mid x t r.ready refl (element_small size address count n ends below)
    (unstored_cleared size a r.held collided) r.at acts

pub refused_next : (size : Size) (address : ℕ) (values : List ℕ) (count : ℕ) (s : Site) (collided : Bool) (n done low high lower upper : ℕ) (x t : Site)
    → count ≤ 512
    → address + count * count_of size ≤ 2 ^ 64 → n < count → Unstored size address values s collided n x → SiteActs (found_acts low high lower upper) x t
    → joined low high ≡ element_at size address done % 2 ^ 64 → done ≤ count → (n ≡ done) × NextRefused size address values done s t
refused_next size address values count s collided n done low high lower upper x t few ends below r acts place within =
    let a : ℕ = element_at size address n in
    let f : Found a r.held low high lower upper r.mid t = unstored_found size address values count s collided n low high lower upper x t ends below r acts in
    let small : a < 2 ^ 64 = element_small size address count n ends below in
    let whole : a % 2 ^ 64 ≡ a = omega (arith, small) in
    let same : n ≡ done = same_count size address count n done few (omega (arith, below)) within (whole ∙ sym f.place ∙ place) in
    let u : BusUnit = bus_at false B1 a r.held Fine None in (
      same,
      subst (λ k. NextRefused size address values k s t) same (record {
        mid = r.first;
        each = r.each;
        refused = unstored_passed size a r.first r.mid u t r.refused f.now;
        ready = ready_at u r.mid t r.ready (record { idle = refl; fine = refl; no_busyerror = refl }) f.now;
      }),
    )
