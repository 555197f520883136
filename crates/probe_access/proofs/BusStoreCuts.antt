-- Where a run of stores by the system bus broke off at a told chip: a front of the elements was stored, and of the next at most the access was made.
use Rattle.std.proofs.Common.{
  ◌≡◌,
  ◌==◌,
  ◌⊎◌,
  ◌≤◌,
  ◌<◌,
  ◌+◌,
  ◌*◌,
  ◌^◌,
  ◌%◌,
  ℕ,
  zero,
  suc,
  List,
  map,
  Bool,
  true,
  false,
  Option,
  Some,
  None,
  refl,
  sym,
  subst,
  inl,
  inr,
  arith,
}
use Rattle.std.proofs.lemmas.Bool.{eqb-true}
use Rattle.rv_model.specs.declared.size.Size.{Size}
use Rattle.rv_model.specs.Memory.{after_store, is_aligned}
use Rattle.rv_model.specs.Size.{count_of}
use Rattle.rv_model.proofs.MemoryLemmas.{after_store_refused}
use Rattle.abstract_debugger.specs.Turns.{after_turns}
use Rattle.debug_model.specs.Addresses.{sbaddress0_address, sbaddress1_address, sbcs_address, sbdata0_address, sbdata1_address}
use Rattle.debug_model.specs.declared.dmi.DmiFault.{DmiFault}
use Rattle.debug_model.specs.declared.dmi_op.DmiOp.{DmiOp}
use Rattle.debug_model.specs.declared.dmi_op.DmiOp.TheVariants.{Read, Write}
use Rattle.debug_model.specs.Commands.{high_half, low_half}
use Rattle.debug_model.specs.Deeds.{ran}
use Rattle.debug_model.specs.Dmi.{DmiComing, SiteCut}
use Rattle.debug_model.specs.Dmi.SiteCut.{unperformed, was_performed}
use Rattle.debug_model.specs.Module.{Site, operated}
use Rattle.debug_model.specs.SystemBus.{BusUnit}
use Rattle.debug_model.specs.Told.{Far, IsReady, SiteReady, site_of}
use Rattle.probe_access.specs.declared.fault.AccessFault.{AccessFault}
use Rattle.probe_access.specs.declared.fault.AccessFault.TheVariants as access_fault
use Rattle.probe_run.specs.Acts.{Act, Attempt, Broke, Tells, tells}
use Rattle.probe_run.specs.Acts.Act.{Put}
use Rattle.probe_run.specs.Acts.Attempt.{Operation}
use Rattle.probe_access.specs.Blocks.{element_at, value_at}
use Rattle.probe_access.specs.BusBlocks.{BusValuesStoreCut, BusNotStoredOne, BusStoredValues, BusStoredOne}
use Rattle.probe_access.specs.BusBlocks.BusStoredValues.{nothing as none_stored, further as stored_further}
use Rattle.probe_access.specs.BusRuns.{BusPollBegun, BusPollFailed, Starting, bus_poll}
use Rattle.probe_access.specs.BusRuns.BusPollBegun.{polls}
use Rattle.probe_access.specs.BusRuns.Starting.{next}
use Rattle.probe_access.specs.BusStoreStreams.{StoresFailed, data_puts, element_puts, puts_where, stores_asked, storing, upper_at}
use Rattle.probe_access.specs.BusStoreStreams.StoresFailed.{in_run, in_polls, in_finding}
use Rattle.probe_access.specs.BusStreams.{Finding}
use Rattle.probe_access.specs.Cuts.{BusLeftOff, IfCut, Leaves, LoadLeaves, StoreLeaves}
use Rattle.probe_access.specs.Cuts.BusLeftOff.{before_it, behind_it}
use Rattle.probe_access.specs.Faults.{Among, BrokeIn}
use Rattle.probe_access.proofs.Along.{AtSites, SiteActs, Split, did_sites, site_acts-split}
use Rattle.probe_access.proofs.BusCuts.{Nth, NthSplit, nth_of, nth_split, write_cut}
use Rattle.probe_access.proofs.BusCuts.Nth.{here, there}
use Rattle.probe_access.proofs.BusSites.{AtBus}
use Rattle.probe_access.proofs.BusSites.Writes.{to_sbaddress0, to_sbaddress1, to_sbcs, to_sbdata1}
use Rattle.probe_access.proofs.BusStartCuts.{no_more}
use Rattle.probe_access.proofs.BusStoreEnds.{StoresEnd, asked_poll, polls_asked, stored_passed, unstored_passed}
use Rattle.probe_access.proofs.BusStoreOutcomes.{AskedAt, EndAt, asked_at, polled_at}
use Rattle.probe_access.proofs.BusStoreSites.{own_upper}
use Rattle.probe_access.proofs.BusStoreStarts.{asked_first, high_at, low_at, set_at}
use Rattle.probe_access.proofs.BusStoreSteps.{Asked, Wrong, asked_put, asked_ran, asked_upper, element_asked}
use Rattle.probe_access.proofs.BusStoreUnits.{
  still_bus,
  still_cleared,
  store_high,
  store_low,
  store_set,
  store_upper,
  unstored_bus,
  unstored_cleared,
  upper_set,
  writing,
}
use Rattle.probe_access.proofs.BusStreamCuts.{AtSome, finding_along, turns_alone}
use Rattle.probe_access.proofs.BusTold.{at_start, works_ready}
use Rattle.probe_access.proofs.BusUnits.{upper_put}
use Rattle.probe_access.proofs.CutSites.{CutAt, CutWithin, cut_always, cut_at, cut_within, if_cut}

-- ---- what each place leaves

stored_behind : (size : Size) (address value : ℕ) (s t : Site) → BusStoredOne size address value s t → BusLeftOff (StoreLeaves size address value) s t
stored_behind size address value s t one = behind_it (record {
  before = one.before;
  behind = one.behind;
  memory = after_store (after_turns one.before s.board).memory address size value;
  made = refl;
  board = one.access.board;
  journal = one.access.journal;
  unit = one.access.unit;
})

refused_behind : (size : Size) (address value : ℕ) (s t : Site) → BusNotStoredOne size address s t → BusLeftOff (StoreLeaves size address value) s t
refused_behind size address value s t one = behind_it (record {
  before = one.before;
  behind = one.behind;
  memory = (after_turns one.before s.board).memory;
  made = sym (after_store_refused (after_turns one.before s.board).memory address size value one.why one.refused);
  board = one.access.board;
  journal = one.access.journal;
  unit = one.access.unit;
})

-- turns alone passed since so many were stored
pub alone_cut : (size : Size) (address : ℕ) (values : List ℕ) (count n : ℕ) (u : BusUnit) (s mid t : Site) → n < count
    → BusStoredValues size address values s n mid → AtBus u mid t
    → BusValuesStoreCut size address values count s t
alone_cut size address values count n u s mid t below each at =
    record { done = n; below = below; mid = mid; each = each; left = before_it (turns_alone u mid t at) }

-- these may be all
pub stored_cut : (size : Size) (address : ℕ) (values : List ℕ) (count n : ℕ) (u : BusUnit) (s mid t : Site) → n ≤ count → 0 < count
    → BusStoredValues size address values s n mid
    → AtBus u mid t → BusValuesStoreCut size address values count s t
stored_cut size address values count _ u s _ t within some none_stored at = alone_cut size address values count 0 u s s t some none_stored at
stored_cut size address values count _ u s mid t within some (stored_further n m _ each one) at = record {
  done = n;
  below = omega (arith, within);
  mid = m;
  each = each;
  left = stored_behind size (element_at size address n) (value_at values n) m t (stored_passed size (element_at size address n)
      (value_at values n) m mid u t one at);
}

pub unstored_cut : (size : Size) (address : ℕ) (values : List ℕ) (count n : ℕ) (u : BusUnit) (s first mid t : Site) → n < count
    → BusStoredValues size address values s n first
    → BusNotStoredOne size (element_at size address n) first mid → AtBus u mid t → BusValuesStoreCut size address values count s t
unstored_cut size address values count n u s first mid t below each refused at = record {
  done = n;
  below = below;
  mid = first;
  each = each;
  left = refused_behind size (element_at size address n) (value_at values n) first t (unstored_passed size
      (element_at size address n) first mid u t refused at);
}

pub asked_cut : (size : Size) (address : ℕ) (values : List ℕ) (count : ℕ) (s : Site) (k upper : ℕ) (t : Site) → k ≤ count → 0 < count
    → Asked size address values count s k upper t → BusValuesStoreCut size address values count s t
asked_cut size address values count s k upper t within some (Asked.writes n is own w) =
    alone_cut size address values count n (writing size (element_at size address n) (value_at values n) false) s w.mid t (omega (arith, within, is)) w.each
    w.at
asked_cut size address values count s k upper t within some (Asked.still r) =
    stored_cut size address values count k (still_bus size (element_at size address k % 2 ^ 64) r.held false) s r.mid t within some r.each r.at
asked_cut size address values count s k upper t within some (Asked.wrong (Wrong.writes n below w)) =
    alone_cut size address values count n (writing size (element_at size address n) (value_at values n) true) s w.mid t below w.each w.at
asked_cut size address values count s k upper t within some (Asked.wrong (Wrong.still n own below r)) =
    stored_cut size address values count (n + 1) (still_bus size (element_at size address (n + 1) % 2 ^ 64) r.held true) s r.mid t (omega (arith, below)) some
    r.each r.at
asked_cut size address values count s k upper t within some (Asked.wrong (Wrong.unstored collided n below r)) =
    unstored_cut size address values count n (unstored_bus size (element_at size address n) r.held collided) s r.first r.mid t below r.each r.refused r.at

-- ---- among the writes

either_cut : (size : Size) (address : ℕ) (values : List ℕ) (count : ℕ) (u x : BusUnit) (s t : Site) → 0 < count → AtBus u s t ⊎ AtBus x s t
    → BusValuesStoreCut size address values count s t
either_cut size address values count u x s t some (inl a) = alone_cut size address values count 0 u s s t some none_stored a
either_cut size address values count u x s t some (inr a) = alone_cut size address values count 0 x s s t some none_stored a

put_cut : (size : Size) (address : ℕ) (values : List ℕ) (count : ℕ) (s : Site) (k upper : ℕ) (x t : Site) → is_aligned address size ≡ true
    → address + count * count_of size ≤ 2 ^ 64 → k < count → upper ≡ own_upper values k → Asked size address values count s k upper x
    → SiteCut (Write sbdata0_address (low_half (value_at values k))) x t → BusValuesStoreCut size address values count s t
put_cut size address values count s k upper x t aligned ends below own g (unperformed d) =
    asked_cut size address values count s k upper t (omega (arith, below)) (omega (arith, below))
    (subst (λ (y : Site). Asked size address values count s k upper y) (sym d.is)
    (asked_ran size address values count s k upper x d.deeds (omega (arith, below)) g))
put_cut size address values count s k upper x t aligned ends below own g (was_performed result o) =
    asked_cut size address values count s (k + 1) (own_upper values k) t (omega (arith, below)) (omega (arith, below))
    (asked_put size address values count s k upper result x t aligned ends below own g o)

upper_cut : (size : Size) (address : ℕ) (values : List ℕ) (count : ℕ) (s : Site) (k old upper : ℕ) (x t : Site) → k < count
    → Asked size address values count s k old x → SiteCut (Write sbdata1_address upper) x t → BusValuesStoreCut size address values count s t
upper_cut size address values count s k old upper x t below g (unperformed d) =
    asked_cut size address values count s k old t (omega (arith, below)) (omega (arith, below))
    (subst (λ (y : Site). Asked size address values count s k old y) (sym d.is)
    (asked_ran size address values count s k old x d.deeds (omega (arith, below)) g))
upper_cut size address values count s k old upper x t below g (was_performed result o) =
    asked_cut size address values count s k upper t (omega (arith, below)) (omega (arith, below))
    (asked_upper size address values count s k old upper result x t (omega (arith, below)) g o)

words_cut : (held : Bool) (size : Size) (address : ℕ) (values : List ℕ) (count : ℕ) (s : Site) (k : ℕ) (front : List Act) (a v : ℕ) (x mid t : Site)
    → (own_upper values k == upper_at values k) ≡ held → is_aligned address size ≡ true → address + count * count_of size ≤ 2 ^ 64 → k < count
    → Nth (puts_where held (value_at values k)) front (Put a v) → Asked size address values count s k (upper_at values k) x
    → SiteActs front x mid → SiteCut (Write a v) mid t → BusValuesStoreCut size address values count s t
words_cut true size address values count s k _ _ _ x mid t same aligned ends below (here _ _) g p cut =
    put_cut size address values count s k (upper_at values k) mid t aligned ends below (sym (eqb-true (own_upper values k) (upper_at values k) same))
    (subst (λ (y : Site). Asked size address values count s k (upper_at values k) y) (sym p) g) cut
words_cut true size address values count s k _ a v x mid t same aligned ends below (there _ _ front _ n) g p cut = absurd (no_more front (Put a v) n)
words_cut false size address values count s k _ _ _ x mid t other aligned ends below (here _ _) g p cut =
    upper_cut size address values count s k (upper_at values k) (own_upper values k) mid t below
    (subst (λ (y : Site). Asked size address values count s k (upper_at values k) y) (sym p) g) cut
words_cut false size address values count s k _ _ _ x mid t other aligned ends below (there _ _ _ _ (here _ _)) g p cut =
    let own : ℕ = own_upper values k in
    put_cut size address values count s k own mid t aligned ends below refl
    (subst (λ (y : Site). Asked size address values count s k own y) (sym p.2)
    (asked_upper size address values count s k (upper_at values k) own own x p.0 (omega (arith, below)) g p.1)) cut
words_cut false size address values count s k _ a v x mid t other aligned ends below (there _ _ _ _ (there _ _ front _ n)) g p cut =
    absurd (no_more front (Put a v) n)

pub element_cut : (size : Size) (address : ℕ) (values : List ℕ) (count : ℕ) (s : Site) (k : ℕ) (front : List Act) (a v : ℕ) (x mid t : Site)
    → is_aligned address size ≡ true → address + count * count_of size ≤ 2 ^ 64 → k < count
    → Nth (element_puts (upper_at values k) (value_at values k)) front (Put a v) → Asked size address values count s k (upper_at values k) x
    → SiteActs front x mid → SiteCut (Write a v) mid t → BusValuesStoreCut size address values count s t
element_cut size address values count s k front a v x mid t aligned ends below n g p cut =
    words_cut (own_upper values k == upper_at values k) size address values count s k front a v x mid t refl aligned ends below n g p cut

puts_behind : (size : Size) (address : ℕ) (values : List ℕ) (count : ℕ) (s : Site) (k m : ℕ) (front : List Act) (a v : ℕ) (x mid t : Site)
    → is_aligned address size ≡ true → address + count * count_of size ≤ 2 ^ 64 → k < count
    → NthSplit (element_puts (upper_at values k) (value_at values k)) (data_puts values (k + 1) m) front (Put a v)
    → Asked size address values count s k (upper_at values k) x → SiteActs front x mid → SiteCut (Write a v) mid t
    → ((y : Site) (more : List Act) → Nth (data_puts values (k + 1) m) more (Put a v)
    → Asked size address values count s (k + 1) (upper_at values (k + 1)) y → SiteActs more y mid → BusValuesStoreCut size address values count s t)
    → BusValuesStoreCut size address values count s t
puts_behind size address values count s k m front a v x mid t aligned ends below (NthSplit.in_first n) g p cut others =
    element_cut size address values count s k front a v x mid t aligned ends below n g p cut
puts_behind size address values count s k m front a v x mid t aligned ends below (NthSplit.in_rest more parts n) g p cut others =
    let one : List Act = element_puts (upper_at values k) (value_at values k) in
    let split : Split one more x mid = site_acts-split one more x mid (subst (λ xs. SiteActs xs x mid) parts p) in
    others split.mid more n (element_asked size address values count s k x split.mid aligned ends below g split.first) split.rest

puts_cut : (size : Size) (address : ℕ) (values : List ℕ) (count : ℕ) (s : Site) (k m : ℕ) (front : List Act) (a v : ℕ) (x mid t : Site)
    → is_aligned address size ≡ true → address + count * count_of size ≤ 2 ^ 64 → k + m ≤ count → Nth (data_puts values k m) front (Put a v)
    → Asked size address values count s k (upper_at values k) x → SiteActs front x mid → SiteCut (Write a v) mid t
    → BusValuesStoreCut size address values count s t
puts_cut size address values count s k zero front a v x mid t aligned ends within n g p cut = absurd (no_more front (Put a v) n)
puts_cut size address values count s k (suc m) front a v x mid t aligned ends within n g p cut =
    puts_behind size address values count s k m front a v x mid t aligned ends (omega (arith, within))
    (nth_split (element_puts (upper_at values k) (value_at values k)) (data_puts values (k + 1) m) front (Put a v) n) g p cut
    (λ y more there_is behind acts. puts_cut size address values count s (k + 1) m more a v y mid t aligned ends (omega (arith, within)) there_is behind acts
    cut)

asking_at : (size : Size) (address : ℕ) (values : List ℕ) (count : ℕ) (front : List Act) (a v : ℕ) (s mid t : Site) → SiteReady s
    → is_aligned address size ≡ true
    → address + count * count_of size ≤ 2 ^ 64 → 0 < count → Nth (stores_asked size address values count) front (Put a v) → SiteActs front s mid
    → SiteCut (Write a v) mid t → BusValuesStoreCut size address values count s t
asking_at size address values count _ _ _ s mid t ready aligned ends some (here _ _) p cut =
    let u : BusUnit = s.unit.bus in
    let x : BusUnit = still_bus size u.address u.value false in
    either_cut size address values count u x s t some
    (write_cut LoadLeaves sbcs_address (storing size) _ u x s mid t (to_sbcs (storing size)) (works_ready s ready) ready.unit.bus.idle
    (store_set size u ready.unit.bus) refl (subst (λ (y : Site). AtBus u s y) (sym p) (at_start s)) cut)
asking_at size address values count _ _ _ s mid t ready aligned ends some (there _ _ _ _ (here _ _)) p cut =
    let u : BusUnit = s.unit.bus in
    let x : BusUnit = still_bus size u.address u.value false in
    let y : BusUnit = still_bus size (upper_put u.address address) u.value false in
    either_cut size address values count x y s t some
    (write_cut LoadLeaves sbaddress1_address (high_half address) _ x y s mid t (to_sbaddress1 (high_half address)) (works_ready s ready) refl
    (store_high size u.address u.value address) refl (set_at size s mid ready p) cut)
asking_at size address values count _ _ _ s mid t ready aligned ends some (there _ _ _ _ (there _ _ _ _ (here _ _))) p cut =
    let u : BusUnit = s.unit.bus in
    let x : BusUnit = still_bus size (upper_put u.address address) u.value false in
    let y : BusUnit = still_bus size address u.value false in
    either_cut size address values count x y s t some
    (write_cut LoadLeaves sbaddress0_address (low_half address) _ x y s mid t (to_sbaddress0 (low_half address)) (works_ready s ready) refl
    (store_low size u.address u.value address) refl (high_at size address s mid ready p) cut)
asking_at size address values count _ _ _ s mid t ready aligned ends some (there _ _ _ _ (there _ _ _ _ (there _ _ _ _ (here _ _)))) p cut =
    let u : BusUnit = s.unit.bus in
    let x : BusUnit = still_bus size address u.value false in
    let y : BusUnit = still_bus size address (upper_set u.value (upper_at values 0)) false in
    either_cut size address values count x y s t some
    (write_cut LoadLeaves sbdata1_address (upper_at values 0) _ x y s mid t (to_sbdata1 (upper_at values 0)) (works_ready s ready) refl
    (store_upper size address u.value (upper_at values 0) false) refl (low_at size address s mid ready p) cut)
asking_at size address values count _ a v s mid t ready aligned ends some (there _ _ _ _ (there _ _ _ _ (there _ _ _ _ (there _ _ front _ n)))) p cut =
    let q = p.2.2 in
    let r = q.2 in
    puts_cut size address values count s 0 count front a v r.0 mid t aligned ends (omega arith) n
    (asked_first size address values count (upper_at values 0) s r.0 ready ends some (p.0, p.1, (p.2.0, p.2.1, (q.0, q.1, (r.0, r.1, refl))))) r.2 cut

pub starting_cut : (size : Size) (address : ℕ) (values : List ℕ) (count : ℕ) (acts : List Act) (op : DmiOp) (s mid t : Site) → SiteReady s
    → is_aligned address size ≡ true
    → address + count * count_of size ≤ 2 ^ 64 → 0 < count → Starting (stores_asked size address values count) acts (Operation op) → SiteActs acts s mid
    → SiteCut op mid t → BusValuesStoreCut size address values count s t
starting_cut size address values count _ _ s mid t ready aligned ends some (next front rest a v is) p cut =
    asking_at size address values count front a v s mid t ready aligned ends some (nth_of (stores_asked size address values count) front rest
    (Put a v) is) p cut

-- ---- while the errors are cleared

finding_cut : (size : Size) (address : ℕ) (values : List ℕ) (count last : ℕ) (acts : List Act) (op : DmiOp) (s x mid t : Site) → 0 < count
    → Finding acts (Operation op)
    → StoresEnd size address values count s last x → SiteActs acts x mid → SiteCut op mid t → BusValuesStoreCut size address values count s t
finding_cut size address values count last acts op s x mid t some f (StoresEnd.fine own r error collided) p cut =
    let a : ℕ = element_at size address count % 2 ^ 64 in
    let g : AtSome r.mid t = finding_along (still_bus size a r.held false) a r.held acts op r.mid x mid t r.ready refl (still_cleared size a r.held false) f
    r.at p cut in
    stored_cut size address values count count g.unit s r.mid t (omega arith) some r.each g.at
finding_cut size address values count last acts op s x mid t some f (StoresEnd.early n own below r error collided) p cut =
    let a : ℕ = element_at size address (n + 1) % 2 ^ 64 in
    let g : AtSome r.mid t = finding_along (still_bus size a r.held true) a r.held acts op r.mid x mid t r.ready refl (still_cleared size a r.held true) f
    r.at p cut in
    stored_cut size address values count (n + 1) g.unit s r.mid t (omega (arith, below)) some r.each g.at
finding_cut size address values count last acts op s x mid t some f (StoresEnd.refused c n below r error) p cut =
    let a : ℕ = element_at size address n in
    let g : AtSome r.mid t = finding_along (unstored_bus size a r.held c) a r.held acts op r.mid x mid t r.ready refl
    (unstored_cleared size a r.held c) f
    r.at p cut in
    unstored_cut size address values count n g.unit s r.first r.mid t below r.each r.refused g.at

-- ---- of a told chip

pub record StoresCut (size : Size) (address : ℕ) (values : List ℕ) (count : ℕ) (s : Site) (told : Option Far) : Type 0 where
  pub far : Far
  pub is : told ≡ Some far
  pub left : BusValuesStoreCut size address values count s (site_of far)

asking_cut : (size : Size) (address : ℕ) (values : List ℕ) (count old_count new_count : ℕ) (f : Far) (coming : Option DmiComing) (told : Option Far)
    (why : DmiFault)
    → SiteReady (site_of f) → is_aligned address size ≡ true → address + count * count_of size ≤ 2 ^ 64 → 0 < count
    → BrokeIn (Among (Starting (stores_asked size address values count))) old_count new_count (tells (Some f) coming) told why
    → StoresCut size address values count (site_of f) told
asking_cut size address values count old_count new_count f coming told why ready aligned ends some b =
    let c : CutWithin (Starting (stores_asked size address values count)) f told =
    cut_within (Starting (stores_asked size address values count)) old_count new_count (tells (Some f) coming) told why f refl b in
    record {
      far = c.cut.far;
      is = c.cut.is;
      left = starting_cut size address values count c.acts c.op (site_of f) c.cut.mid (site_of c.cut.far) ready aligned ends some c.begun c.cut.acts_are
          c.cut.cut;
    }

poll_site : (size : Size) (address : ℕ) (values : List ℕ) (count : ℕ) (s x t : Site) → 0 < count
    → Asked size address values count s count (upper_at values count) x
    → SiteCut (Read sbcs_address) x t → BusValuesStoreCut size address values count s t
poll_site size address values count s x t some g (unperformed d) =
    let upper : ℕ = upper_at values count in
    asked_cut size address values count s count upper t (omega arith) some
    (subst (λ (y : Site). Asked size address values count s count upper y) (sym d.is)
    (asked_ran size address values count s count upper x d.deeds (omega arith) g))
poll_site size address values count s x t some g (was_performed result o) =
    let z : Site = ran o.before x in
    let upper : ℕ = upper_at values count in
    asked_cut size address values count s count upper t (omega arith) some
    (subst (λ (y : Site). Asked size address values count s count upper y) (sym o.is)
    (asked_ran size address values count s count upper (operated (Read sbcs_address) z) o.behind (omega arith)
    (asked_poll size address values count s count upper z (asked_ran size address values count s count upper x o.before (omega arith) g))))

poll_cut : (size : Size) (address : ℕ) (values : List ℕ) (count old_count new_count : ℕ) (f : Far) (mid : Tells) (told : Option Far) (why : DmiFault)
    (acts : List Act) (failed : Attempt) → 0 < count → AskedAt size address values count f mid.far → BusPollBegun acts failed
    → Broke acts failed old_count new_count mid told why → StoresCut size address values count (site_of f) told
poll_cut size address values count old_count new_count f mid told why _ _ some g (polls words vain) b =
    let c : CutAt (map bus_poll words) (Read sbcs_address) g.far told =
    cut_at (map bus_poll words) (Read sbcs_address) old_count new_count mid told why g.far g.is b in
    record {
      far = c.far;
      is = c.is;
      left = poll_site size address values count (site_of f) c.mid (site_of c.far) some
          (polls_asked size address values count (upper_at values count) (site_of f) words (site_of g.far) c.mid g.asked c.acts_are) c.cut;
    }

polls_cut : (size : Size) (address : ℕ) (values : List ℕ) (count old_count new_count : ℕ) (f : Far) (mid new : Tells) (e : AccessFault) → 0 < count
    → AskedAt size address values count f mid.far → BusPollFailed old_count new_count mid new e
    → IfCut (StoresCut size address values count (site_of f) new.far) e
polls_cut size address values count old_count new_count f mid new (access_fault.Dmi why) some g b =
    poll_cut size address values count old_count new_count f mid new.far why b.acts b.failed some g b.begun b.broke
polls_cut size address values count old_count new_count f mid new (access_fault.Memory at) some g b = tt
polls_cut size address values count old_count new_count f mid new (access_fault.Register number) some g b = tt
polls_cut size address values count old_count new_count f mid new access_fault.StillBusy some g b =
    let q : AtSites (map bus_poll b.words) g.far new.far = did_sites mid _ new g.far b.did g.is in
    record {
      far = q.far;
      is = q.is;
      left = asked_cut size address values count (site_of f) count (upper_at values count) (site_of q.far) (omega arith) some
          (polls_asked size address values count (upper_at values count) (site_of f) b.words (site_of g.far) (site_of q.far) g.asked q.acts_are);
    }
polls_cut size address values count old_count new_count f mid new (access_fault.Run why) some g b = tt
polls_cut size address values count old_count new_count f mid new (access_fault.Odd shown) some g b = tt

clearing_cut : (size : Size) (address : ℕ) (values : List ℕ) (count last old_count new_count : ℕ) (f : Far) (polled : Tells) (told : Option Far)
    (why : DmiFault) → 0 < count
    → EndAt size address values count last f polled.far → BrokeIn (Among Finding) old_count new_count polled told why
    → StoresCut size address values count (site_of f) told
clearing_cut size address values count last old_count new_count f polled told why some g b =
    let c : CutWithin Finding g.far told = cut_within Finding old_count new_count polled told why g.far g.is b in
    record {
      far = c.cut.far;
      is = c.cut.is;
      left = finding_cut size address values count last c.acts c.op (site_of f) (site_of g.far) c.cut.mid (site_of c.cut.far) some c.begun g.end c.cut.acts_are
          c.cut.cut;
    }

run_cut : (size : Size) (address : ℕ) (values : List ℕ) (count : ℕ) (f : Far) (coming : Option DmiComing) (new : Tells) (old_count new_count : ℕ)
    (e : AccessFault)
    → SiteReady (site_of f) → is_aligned address size ≡ true → address + count * count_of size ≤ 2 ^ 64 → 0 < count
    → StoresFailed size address values count old_count new_count (tells (Some f) coming) new e
    → IfCut (StoresCut size address values count (site_of f) new.far) e
run_cut size address values count f coming new old_count new_count e ready aligned ends some (in_run why is b) =
    cut_always (StoresCut size address values count (site_of f) new.far) e
    (asking_cut size address values count old_count new_count f coming new.far why ready aligned ends some b)
run_cut size address values count f coming new old_count new_count e ready aligned ends some (in_polls mid did b) =
    polls_cut size address values count old_count new_count f mid new e some (asked_at size address values count f coming mid ready aligned ends some did) b
run_cut size address values count f coming new old_count new_count e ready aligned ends some (in_finding last polled r why is b) =
    cut_always (StoresCut size address values count (site_of f) new.far) e
    (clearing_cut size address values count last old_count new_count f polled new.far why some
    (polled_at size address values count last f coming polled ready aligned ends some r) b)

pub cut_left : (size : Size) (address : ℕ) (values : List ℕ) (count : ℕ) (f : Far) (told : Option Far) → StoresCut size address values count (site_of f) told
    → Leaves (BusValuesStoreCut size address values count) (Some f) told
cut_left size address values count f told c = record { far = c.far; is = c.is; left = c.left }

pub stores_failed_cut : (size : Size) (address : ℕ) (values : List ℕ) (count : ℕ) (far : Option Far) (coming : Option DmiComing) (new : Tells)
    (old_count new_count : ℕ)
    (e : AccessFault) → IsReady far → is_aligned address size ≡ true → address + count * count_of size ≤ 2 ^ 64 → 0 < count
    → StoresFailed size address values count old_count new_count (tells far coming) new e
    → IfCut (Leaves (BusValuesStoreCut size address values count) far new.far) e
stores_failed_cut size address values count None coming new old_count new_count e ready aligned ends some r =
    cut_always (Leaves (BusValuesStoreCut size address values count) None new.far) e tt
stores_failed_cut size address values count (Some f) coming new old_count new_count e ready aligned ends some r =
    if_cut (StoresCut size address values count (site_of f) new.far) (Leaves (BusValuesStoreCut size address values count) (Some f) new.far) e
    (cut_left size address values count f new.far)
    (run_cut size address values count f coming new old_count new_count e ready aligned ends some r)
