-- A run of stores by the system bus at a told chip, write by write: as long as no error is set, each starts the store of one more element.
use Rattle.std.proofs.Common.{◌≡◌, ◌==◌, ◌∙◌, ◌≤◌, ◌<◌, ◌+◌, ◌-◌, ap, ◌*◌, ◌^◌, ◌%◌, ℕ, zero, suc, List, Bool, true, false, refl, sym, subst, arith}
use Rattle.std.proofs.lemmas.Bool.{eqb-true}
use Rattle.rv_model.specs.declared.size.Size.{Size}
use Rattle.rv_model.specs.Memory.{is_aligned}
use Rattle.rv_model.specs.Size.{count_of}
use Rattle.debug_model.specs.Addresses.{sbdata0_address, sbdata1_address}
use Rattle.debug_model.specs.declared.dmi_op.DmiOp.TheVariants.{Write}
use Rattle.debug_model.specs.Commands.{high_half, low_half}
use Rattle.debug_model.specs.Course.{OneOperation}
use Rattle.debug_model.specs.Deeds.{Deed, ran}
use Rattle.debug_model.specs.Module.{Site, operated}
use Rattle.debug_model.specs.SystemBus.{BusUnit}
use Rattle.probe_run.specs.Acts.{Act}
use Rattle.probe_access.specs.Blocks.{element_at, value_at}
use Rattle.probe_access.specs.BusStoreStreams.{data_puts, element_puts, puts_where, upper_at}
use Rattle.probe_access.proofs.Along.{SiteActs, Split, site_acts-split}
use Rattle.probe_access.proofs.BusSites.{AtBus}
use Rattle.probe_access.proofs.BusSites.Writes.{to_sbdata0, to_sbdata1}
use Rattle.probe_access.proofs.BusStoreSites.{Still, Storing, Unstored, Went, own_upper, still_ran, storing_ran, unstored_ran}
use Rattle.probe_access.proofs.BusStoreUnits.{
  still_bus,
  store_starts,
  store_upper,
  unstored_bus,
  unstored_keeps,
  unstored_upper,
  upper_is_set,
  upper_set,
  value_with,
  writing,
  writing_upper,
}
use Rattle.probe_access.proofs.BusStreamEnds.{element_small}
use Rattle.probe_access.proofs.BusStreamOutcomes.{element_whole}
use Rattle.probe_access.proofs.BusStreamSites.{at_write}
use Rattle.probe_access.proofs.BusStreamTold.{element_aligned}

-- ---- behind so many writes of the data

-- an error is set, and no more are stored
pub data Wrong (size : Size) (address : ℕ) (values : List ℕ) (count : ℕ) (s t : Site) : Type 0 where
  writes : (n : ℕ) → n < count → Storing size address values s true n t → Wrong size address values count s t
  still : (n upper : ℕ) → n < count → Still size address values s true (n + 1) upper t → Wrong size address values count s t
  unstored : (collided : Bool) (n : ℕ) → n < count → Unstored size address values s collided n t → Wrong size address values count s t

-- the data holds this upper half
pub data Asked (size : Size) (address : ℕ) (values : List ℕ) (count : ℕ) (s : Site) (k upper : ℕ) (t : Site) : Type 0 where
  writes : (n : ℕ) → n + 1 ≡ k → own_upper values n ≡ upper → Storing size address values s false n t → Asked size address values count s k upper t
  still : Still size address values s false k upper t → Asked size address values count s k upper t
  wrong : Wrong size address values count s t → Asked size address values count s k upper t

wrong_went : (size : Size) (address : ℕ) (values : List ℕ) (count : ℕ) (s : Site) (n : ℕ) (t : Site) → n < count → Went size address values s true n t
    → Wrong size address values count s t
wrong_went size address values count s n t below (Went.writes w) = Wrong.writes n below w
wrong_went size address values count s n t below (Went.still r) = Wrong.still n (own_upper values n) below r
wrong_went size address values count s n t below (Went.unstored r) = Wrong.unstored true n below r

pub wrong_ran : (size : Size) (address : ℕ) (values : List ℕ) (count : ℕ) (s x : Site) (ds : List Deed) → Wrong size address values count s x
    → Wrong size address values count s (ran ds x)
wrong_ran size address values count s x ds (Wrong.writes n below w) =
    wrong_went size address values count s n (ran ds x) below (storing_ran size address values s true n x ds w)
wrong_ran size address values count s x ds (Wrong.still n upper below r) =
    Wrong.still n upper below (still_ran size address values s true (n + 1) upper x ds r)
wrong_ran size address values count s x ds (Wrong.unstored collided n below r) =
    Wrong.unstored collided n below (unstored_ran size address values s collided n x ds r)

pub asked_went : (size : Size) (address : ℕ) (values : List ℕ) (count : ℕ) (s : Site) (k upper n : ℕ) (t : Site) → k ≤ count → n + 1 ≡ k
    → own_upper values n ≡ upper → Went size address values s false n t → Asked size address values count s k upper t
asked_went size address values count s k upper n t within is own (Went.writes w) = Asked.writes n is own w
asked_went size address values count s k upper n t within is own (Went.still r) =
    Asked.still (subst (λ u. Still size address values s false k u t) own (subst (λ i. Still size address values s false i (own_upper values n) t) is r))
asked_went size address values count s k upper n t within is own (Went.unstored r) = Asked.wrong (Wrong.unstored false n (omega (arith, within, is)) r)

pub asked_ran : (size : Size) (address : ℕ) (values : List ℕ) (count : ℕ) (s : Site) (k upper : ℕ) (x : Site) (ds : List Deed) → k ≤ count
    → Asked size address values count s k upper x → Asked size address values count s k upper (ran ds x)
asked_ran size address values count s k upper x ds within (Asked.writes n is own w) =
    asked_went size address values count s k upper n (ran ds x) within is own (storing_ran size address values s false n x ds w)
asked_ran size address values count s k upper x ds within (Asked.still r) = Asked.still (still_ran size address values s false k upper x ds r)
asked_ran size address values count s k upper x ds within (Asked.wrong w) = Asked.wrong (wrong_ran size address values count s x ds w)

-- ---- one more lower half

-- too early
storing_put : (size : Size) (address : ℕ) (values : List ℕ) (s : Site) (collided : Bool) (n low : ℕ) (x : Site)
    → Storing size address values s collided n x → Storing size address values s true n (operated (Write sbdata0_address low) x)
storing_put size address values s collided n low x w =
    let a : ℕ = element_at size address n in
    let v : ℕ = value_at values n in
    record {
      mid = w.mid;
      each = w.each;
      ready = w.ready;
      at = at_write sbdata0_address low _ (writing size a v collided) (writing size a v true) w.mid x (to_sbdata0 low) w.ready refl w.at;
    }

wrong_put : (size : Size) (address : ℕ) (values : List ℕ) (count : ℕ) (s : Site) (low : ℕ) (x : Site) → Wrong size address values count s x
    → Wrong size address values count s (operated (Write sbdata0_address low) x)
wrong_put size address values count s low x (Wrong.writes n below w) = Wrong.writes n below (storing_put size address values s true n low x w)
wrong_put size address values count s low x (Wrong.still n upper below r) =
    let u : BusUnit = still_bus size (element_at size address (n + 1) % 2 ^ 64) r.held true in
    Wrong.still n upper below (record {
      mid = r.mid;
      each = r.each;
      ready = r.ready;
      held = r.held;
      upper_is = r.upper_is;
      at = at_write sbdata0_address low _ u u r.mid x (to_sbdata0 low) r.ready refl r.at;
    })
wrong_put size address values count s low x (Wrong.unstored collided n below r) =
    let u : BusUnit = unstored_bus size (element_at size address n) r.held collided in
    Wrong.unstored collided n below (record {
      first = r.first;
      each = r.each;
      mid = r.mid;
      refused = r.refused;
      ready = r.ready;
      held = r.held;
      at = at_write sbdata0_address low _ u u r.mid x (to_sbdata0 low) r.ready (unstored_keeps size (element_at size address n) r.held low collided) r.at;
    })

-- where its upper half is there
pub still_put : (size : Size) (address : ℕ) (values : List ℕ) (count : ℕ) (s : Site) (k upper : ℕ) (x : Site) → is_aligned address size ≡ true
    → address + count * count_of size ≤ 2 ^ 64 → k < count → upper ≡ own_upper values k → Still size address values s false k upper x
    → Storing size address values s false k (operated (Write sbdata0_address (low_half (value_at values k))) x)
still_put size address values count s k upper x aligned ends below own r =
    let a : ℕ = element_at size address k in
    let v : ℕ = value_at values k in
    let there : a ≡ a % 2 ^ 64 = element_whole size address k (element_small size address count k ends below) in
    record {
      mid = r.mid;
      each = r.each;
      ready = r.ready;
      at = at_write sbdata0_address (low_half v) _ (still_bus size a r.held false) (writing size a v false) r.mid x (to_sbdata0 (low_half v)) r.ready
          (store_starts size a r.held v (element_aligned size address k aligned) (value_with r.held v (r.upper_is ∙ own)))
          (subst (λ b. AtBus (still_bus size b r.held false) r.mid x) (sym there) r.at);
    }

asked_next : (size : Size) (address : ℕ) (values : List ℕ) (count : ℕ) (s : Site) (k upper : ℕ) (x : Site) → is_aligned address size ≡ true
    → address + count * count_of size ≤ 2 ^ 64 → k < count → upper ≡ own_upper values k → Asked size address values count s k upper x
    → Asked size address values count s (k + 1) (own_upper values k) (operated (Write sbdata0_address (low_half (value_at values k))) x)
asked_next size address values count s k upper x aligned ends below own (Asked.writes n is was w) =
    Asked.wrong (Wrong.writes n (omega (arith, is, below)) (storing_put size address values s false n (low_half (value_at values k)) x w))
asked_next size address values count s k upper x aligned ends below own (Asked.still r) =
    Asked.writes k refl refl (still_put size address values count s k upper x aligned ends below own r)
asked_next size address values count s k upper x aligned ends below own (Asked.wrong w) =
    Asked.wrong (wrong_put size address values count s (low_half (value_at values k)) x w)

pub asked_put : (size : Size) (address : ℕ) (values : List ℕ) (count : ℕ) (s : Site) (k upper result : ℕ) (x t : Site) → is_aligned address size ≡ true
    → address + count * count_of size ≤ 2 ^ 64 → k < count → upper ≡ own_upper values k → Asked size address values count s k upper x
    → OneOperation (Write sbdata0_address (low_half (value_at values k))) result x t → Asked size address values count s (k + 1) (own_upper values k) t
asked_put size address values count s k upper result x t aligned ends below own g o =
    let z : Site = ran o.before x in
    let v : ℕ = own_upper values k in
    subst (λ (y : Site). Asked size address values count s (k + 1) v y) (sym o.is)
    (asked_ran size address values count s (k + 1) v (operated (Write sbdata0_address (low_half (value_at values k))) z) o.behind (omega (arith, below))
    (asked_next size address values count s k upper z aligned ends below own
    (asked_ran size address values count s k upper x o.before (omega (arith, below)) g)))

-- ---- one more upper half

storing_upper : (size : Size) (address : ℕ) (values : List ℕ) (s : Site) (collided : Bool) (n upper : ℕ) (x : Site)
    → Storing size address values s collided n x → Storing size address values s true n (operated (Write sbdata1_address upper) x)
storing_upper size address values s collided n upper x w =
    let a : ℕ = element_at size address n in
    let v : ℕ = value_at values n in
    record {
      mid = w.mid;
      each = w.each;
      ready = w.ready;
      at = at_write sbdata1_address upper _ (writing size a v collided) (writing size a v true) w.mid x (to_sbdata1 upper) w.ready
          (writing_upper size a v upper collided) w.at;
    }

pub still_upper : (size : Size) (address : ℕ) (values : List ℕ) (s : Site) (collided : Bool) (n old upper : ℕ) (x : Site)
    → Still size address values s collided n old x → Still size address values s collided n upper (operated (Write sbdata1_address upper) x)
still_upper size address values s collided n old upper x r =
    let a : ℕ = element_at size address n % 2 ^ 64 in
    record {
      mid = r.mid;
      each = r.each;
      ready = r.ready;
      held = upper_set r.held upper;
      upper_is = upper_is_set r.held upper;
      at = at_write sbdata1_address upper _ (still_bus size a r.held collided) (still_bus size a (upper_set r.held upper) collided) r.mid x (to_sbdata1 upper)
          r.ready (store_upper size a r.held upper collided) r.at;
    }

wrong_upper : (size : Size) (address : ℕ) (values : List ℕ) (count : ℕ) (s : Site) (upper : ℕ) (x : Site) → Wrong size address values count s x
    → Wrong size address values count s (operated (Write sbdata1_address upper) x)
wrong_upper size address values count s upper x (Wrong.writes n below w) = Wrong.writes n below (storing_upper size address values s true n upper x w)
wrong_upper size address values count s upper x (Wrong.still n old below r) =
    Wrong.still n upper below (still_upper size address values s true (n + 1) old upper x r)
wrong_upper size address values count s upper x (Wrong.unstored collided n below r) =
    let a : ℕ = element_at size address n in
    Wrong.unstored collided n below (record {
      first = r.first;
      each = r.each;
      mid = r.mid;
      refused = r.refused;
      ready = r.ready;
      held = upper_set r.held upper;
      at = at_write sbdata1_address upper _ (unstored_bus size a r.held collided) (unstored_bus size a (upper_set r.held upper) collided) r.mid x
          (to_sbdata1 upper) r.ready (unstored_upper size a r.held upper collided) r.at;
    })

asked_other : (size : Size) (address : ℕ) (values : List ℕ) (count : ℕ) (s : Site) (k old upper : ℕ) (x : Site) → k ≤ count
    → Asked size address values count s k old x → Asked size address values count s k upper (operated (Write sbdata1_address upper) x)
asked_other size address values count s k old upper x within (Asked.writes n is own w) =
    Asked.wrong (Wrong.writes n (omega (arith, within, is)) (storing_upper size address values s false n upper x w))
asked_other size address values count s k old upper x within (Asked.still r) = Asked.still (still_upper size address values s false k old upper x r)
asked_other size address values count s k old upper x within (Asked.wrong w) = Asked.wrong (wrong_upper size address values count s upper x w)

pub asked_upper : (size : Size) (address : ℕ) (values : List ℕ) (count : ℕ) (s : Site) (k old upper result : ℕ) (x t : Site) → k ≤ count
    → Asked size address values count s k old x → OneOperation (Write sbdata1_address upper) result x t → Asked size address values count s k upper t
asked_upper size address values count s k old upper result x t within g o =
    let z : Site = ran o.before x in
    subst (λ (y : Site). Asked size address values count s k upper y) (sym o.is)
    (asked_ran size address values count s k upper (operated (Write sbdata1_address upper) z) o.behind within
    (asked_other size address values count s k old upper z within (asked_ran size address values count s k old x o.before within g)))

-- ---- the words of elements

pub next_upper : (values : List ℕ) (k : ℕ) → own_upper values k ≡ upper_at values (k + 1)
next_upper values k = ap (λ i. high_half (value_at values i)) (let e : k ≡ (k + 1) - 1 = omega arith in e)

puts_by : (held : Bool) (size : Size) (address : ℕ) (values : List ℕ) (count : ℕ) (s : Site) (k : ℕ) (x t : Site)
    → (own_upper values k == upper_at values k) ≡ held → is_aligned address size ≡ true → address + count * count_of size ≤ 2 ^ 64 → k < count
    → Asked size address values count s k (upper_at values k) x → SiteActs (puts_where held (value_at values k)) x t
    → Asked size address values count s (k + 1) (own_upper values k) t
puts_by true size address values count s k x t same aligned ends below g acts =
    subst (λ (y : Site). Asked size address values count s (k + 1) (own_upper values k) y) (sym acts.2)
    (asked_put size address values count s k (upper_at values k) (low_half (value_at values k)) x acts.0 aligned ends below
    (sym (eqb-true (own_upper values k) (upper_at values k) same)) g acts.1)
puts_by false size address values count s k x t other aligned ends below g acts =
    let own : ℕ = own_upper values k in
    let mid : Asked size address values count s k own acts.0 =
    asked_upper size address values count s k (upper_at values k) own own x acts.0 (omega (arith, below)) g acts.1 in
    subst (λ (y : Site). Asked size address values count s (k + 1) own y) (sym acts.2.2)
    (asked_put size address values count s k own (low_half (value_at values k)) acts.0 acts.2.0 aligned ends below refl mid acts.2.1)

pub element_asked : (size : Size) (address : ℕ) (values : List ℕ) (count : ℕ) (s : Site) (k : ℕ) (x t : Site) → is_aligned address size ≡ true
    → address + count * count_of size ≤ 2 ^ 64 → k < count → Asked size address values count s k (upper_at values k) x
    → SiteActs (element_puts (upper_at values k) (value_at values k)) x t → Asked size address values count s (k + 1) (upper_at values (k + 1)) t
element_asked size address values count s k x t aligned ends below g acts =
    subst (λ u. Asked size address values count s (k + 1) u t) (next_upper values k)
    (puts_by (own_upper values k == upper_at values k) size address values count s k x t refl aligned ends below g acts)

pub puts_asked : (size : Size) (address : ℕ) (values : List ℕ) (count : ℕ) (s : Site) (k m : ℕ) (x t : Site) → is_aligned address size ≡ true
    → address + count * count_of size ≤ 2 ^ 64 → k + m ≤ count → Asked size address values count s k (upper_at values k) x
    → SiteActs (data_puts values k m) x t → Asked size address values count s (k + m) (upper_at values (k + m)) t
puts_asked size address values count s k zero x t aligned ends within g acts =
    subst (λ i. Asked size address values count s i (upper_at values i) t) (let e : k ≡ k + zero = omega arith in e)
    (subst (λ (y : Site). Asked size address values count s k (upper_at values k) y) (sym acts) g)
puts_asked size address values count s k (suc m) x t aligned ends within g acts =
    let one : List Act = element_puts (upper_at values k) (value_at values k) in
    let split : Split one (data_puts values (k + 1) m) x t = site_acts-split one (data_puts values (k + 1) m) x t acts in
    subst (λ i. Asked size address values count s i (upper_at values i) t) (let e : (k + 1) + m ≡ k + suc m = omega arith in e)
    (puts_asked size address values count s (k + 1) m split.mid t aligned ends (omega (arith, within))
    (element_asked size address values count s k x split.mid aligned ends (omega (arith, within)) g split.first) split.rest)
