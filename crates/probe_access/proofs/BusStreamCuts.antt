-- Where a run of loads by the system bus broke off at a told chip: a front of the elements was loaded, and of the next at most the access was made.
use Rattle.std.proofs.Common.{◌≡◌, ◌∙◌, ◌≤◌, ◌<◌, ◌+◌, ◌*◌, ◌++◌, ◌^◌, ℕ, List, [], ◌∷◌, length, Bool, true, false, None, refl, sym, ap, subst, append-nil, length-append, arith}
use Rattle.rv_model.specs.declared.size.Size.{Size}
use Rattle.rv_model.specs.declared.size.Size.TheVariants.{B1}
use Rattle.rv_model.specs.Memory.{is_aligned}
use Rattle.rv_model.specs.Size.{count_of}
use Rattle.abstract_debugger.specs.Turns.{after_turns}
use Rattle.debug_model.specs.Addresses.{sbaddress0_address, sbaddress1_address, sbcs_address, sbdata0_address, sbdata1_address}
use Rattle.debug_model.specs.declared.dmi_op.DmiOp.{DmiOp}
use Rattle.debug_model.specs.declared.dmi_op.DmiOp.TheVariants.{Read, Write}
use Rattle.debug_model.specs.declared.sberror.Sberror.TheVariants.{Fine}
use Rattle.debug_model.specs.Course.{DeedsAlone, OneOperation}
use Rattle.debug_model.specs.Deeds.{ran}
use Rattle.debug_model.specs.Dmi.{SiteCut}
use Rattle.debug_model.specs.Dmi.SiteCut.{unperformed, was_performed}
use Rattle.debug_model.specs.Module.{DebugModule, Site, operated}
use Rattle.debug_model.specs.SystemBus.{BusUnit, bus_looked, sbcs_written, sbdata0_read}
use Rattle.debug_model.specs.Told.{SiteReady}
use Rattle.probe_run.specs.Acts.{Act}
use Rattle.probe_run.specs.Acts.Attempt.{Operation}
use Rattle.probe_run.specs.Opening.{clears_sberror}
use Rattle.probe_access.specs.Blocks.{element_at}
use Rattle.probe_access.specs.BusBlocks.{BusBlockLoadCut, BusLoadedEach, BusLoadedOne, BusNotLoadedOne}
use Rattle.probe_access.specs.BusStreams.{BusReads, DataReads, Finding, IsBusRead, ReadingData, running}
use Rattle.probe_access.specs.Cuts.{BusBefore, BusLeftOff, LoadLeaves}
use Rattle.probe_access.specs.Cuts.BusLeftOff.{before_it, behind_it}
use Rattle.probe_access.proofs.Along.{SiteActs}
use Rattle.probe_access.proofs.Aside.{passed}
use Rattle.probe_access.proofs.BusSites.{AtBus, put_bus}
use Rattle.probe_access.proofs.BusSites.Writes.{to_sbcs}
use Rattle.probe_access.proofs.BusStreamEnds.{Ended}
use Rattle.probe_access.proofs.BusStreamSites.{Reads, Refusing, Resting, Waiting, at_ran, at_read, loaded_passed, refused_passed}
use Rattle.probe_access.proofs.BusStreamSites.Reads.{of_sbaddress0, of_sbaddress1, of_sbdata0, of_sbdata1}
use Rattle.probe_access.proofs.BusStreamSteps.{Half, next_started, stop_by, upper_read}
use Rattle.probe_access.proofs.BusStreamTold.{Bad, Done, Going, Last, bad_lower, bad_more, going_ran, resting_read, waiting_read}
use Rattle.probe_access.proofs.BusStreamTold.Going.{waits, rests, bad}
use Rattle.probe_access.proofs.BusStreamUnits.{next_of, read_bus, reading, refused_bus, refused_cleared, run_cleared}
use Rattle.probe_access.proofs.BusTold.{unit_like, works_ready}
use Rattle.probe_access.proofs.BusUnits.{bus_at}
use Rattle.probe_access.proofs.ReadyTurns.{Passed, passed_turns}
use Rattle.probe_access.proofs.Turns.{unit_passed}

-- ---- what each place leaves

-- turns alone passed since the last access
pub turns_alone : (u : BusUnit) (mid t : Site) → AtBus u mid t → BusBefore mid t
turns_alone u mid t a =
    let q : Passed mid (passed a.harts mid) = passed_turns a.harts mid in
    record {
      harts = q.harts;
      board = ap (λ (x : Site). x.board) a.is ∙ q.board;
      journal = ap (λ (x : Site). x.journal) a.is ∙ q.journal;
      unit =
          ap (λ (x : Site). x.unit) a.is
          ∙ ap (λ (k : DebugModule). unit_like k u) (unit_passed a.harts mid)
          ∙ ap (unit_like mid.unit) (sym (ap (λ (x : Site). x.unit.bus) a.is));
    }

pub bus_before : (u : BusUnit) (mid t : Site) → AtBus u mid t → BusLeftOff LoadLeaves mid t
bus_before u mid t a = before_it (turns_alone u mid t a)

pub loaded_behind : (size : Size) (address v : ℕ) (s t : Site) → BusLoadedOne size address v s t → BusLeftOff LoadLeaves s t
loaded_behind size address v s t one = behind_it (record {
  before = one.before;
  behind = one.behind;
  memory = (after_turns one.before s.board).memory;
  made = refl;
  board = one.access.board;
  journal = one.access.journal;
  unit = one.access.unit;
})

pub refused_behind : (size : Size) (address : ℕ) (s t : Site) → BusNotLoadedOne size address s t → BusLeftOff LoadLeaves s t
refused_behind size address s t one = behind_it (record {
  before = one.before;
  behind = one.behind;
  memory = (after_turns one.before s.board).memory;
  made = refl;
  board = one.access.board;
  journal = one.access.journal;
  unit = one.access.unit;
})

none_handed : (size : Size) (address count : ℕ) (values : List ℕ) (s mid t : Site) → length values < count → BusLoadedEach size address s values mid
    → BusLeftOff LoadLeaves mid t → BusBlockLoadCut size address count [] s t
none_handed size address count values s mid t below each left = record { more = values; below = below; mid = mid; each = each; left = left }

waiting_cut : (size : Size) (address count : ℕ) (s : Site) (on_data collided : Bool) (values : List ℕ) (value : ℕ) (t : Site)
    → Waiting size address count s on_data collided values value t → BusBlockLoadCut size address count [] s t
waiting_cut size address count s on_data collided values value t w =
    none_handed size address count values s w.mid t w.below w.each
    (bus_before (reading on_data size (element_at size address (length values)) value collided) w.mid t w.at)

-- the bus has nothing under way, and the last element was loaded or refused
pub data Settled (size : Size) (address count : ℕ) (s : Site) (u : BusUnit) (t : Site) : Type 0 where
  loaded : (values : List ℕ) (v : ℕ) (first mid : Site) → length values < count → BusLoadedEach size address s values first
      → BusLoadedOne size (element_at size address (length values)) v first mid → SiteReady mid → AtBus u mid t → Settled size address count s u t
  refused : (values : List ℕ) (first mid : Site) → length values < count → BusLoadedEach size address s values first
      → BusNotLoadedOne size (element_at size address (length values)) first mid → SiteReady mid → AtBus u mid t → Settled size address count s u t

pub settled_cut : (size : Size) (address count : ℕ) (s : Site) (u : BusUnit) (t : Site) → Settled size address count s u t
    → BusBlockLoadCut size address count [] s t
settled_cut size address count s u t (Settled.loaded values v first mid below each one ready at) =
    none_handed size address count values s first t below each
    (loaded_behind size (element_at size address (length values)) v first t
    (loaded_passed size (element_at size address (length values)) v first mid u t one at))
settled_cut size address count s u t (Settled.refused values first mid below each one ready at) =
    none_handed size address count values s first t below each
    (refused_behind size (element_at size address (length values)) first t
    (refused_passed size (element_at size address (length values)) first mid u t one at))

rest_settled : (size : Size) (address count : ℕ) (s : Site) (on_data collided : Bool) (values : List ℕ) (v : ℕ) (t : Site)
    → Resting size address count s on_data collided values v t
    → Settled size address count s (read_bus on_data size (element_at size address (length values)) v collided) t
rest_settled size address count s on_data collided values v t r = Settled.loaded values v r.first r.mid r.below r.each r.one r.ready r.at

refuse_settled : (size : Size) (address count : ℕ) (s : Site) (on_data collided : Bool) (values : List ℕ) (v : ℕ) (t : Site)
    → Refusing size address count s on_data collided values v t
    → Settled size address count s (refused_bus on_data size (element_at size address (length values)) v collided) t
refuse_settled size address count s on_data collided values v t r = Settled.refused values r.first r.mid r.below r.each r.refused r.ready r.at

resting_cut : (size : Size) (address count : ℕ) (s : Site) (on_data collided : Bool) (values : List ℕ) (v : ℕ) (t : Site)
    → Resting size address count s on_data collided values v t → BusBlockLoadCut size address count [] s t
resting_cut size address count s on_data collided values v t r =
    settled_cut size address count s (read_bus on_data size (element_at size address (length values)) v collided) t
    (rest_settled size address count s on_data collided values v t r)

bad_cut : (size : Size) (address count : ℕ) (s : Site) (read : List ℕ) (t : Site) → Bad size address count s read t
    → BusBlockLoadCut size address count [] s t
bad_cut size address count s read t (Bad.waiting on_data values rest v w last is) = waiting_cut size address count s on_data true values v t w
bad_cut size address count s read t (Bad.resting on_data values rest v r is) = resting_cut size address count s on_data true values v t r
bad_cut size address count s read t (Bad.refusing on_data collided values rest v r last is) =
    settled_cut size address count s (refused_bus on_data size (element_at size address (length values)) v collided) t
    (refuse_settled size address count s on_data collided values v t r)

pub going_cut : (size : Size) (address count : ℕ) (s : Site) (on_data : Bool) (read : List ℕ) (t : Site) → Going size address count s on_data read t
    → BusBlockLoadCut size address count [] s t
going_cut size address count s on_data read t (waits v w last) = waiting_cut size address count s on_data false read v t w
going_cut size address count s on_data read t (rests v r) = resting_cut size address count s on_data false read v t r
going_cut size address count s on_data read t (bad b) = bad_cut size address count s read t b

pub done_cut : (size : Size) (address count : ℕ) (s : Site) (read : List ℕ) (t : Site) → Done size address count s read t
    → BusBlockLoadCut size address count [] s t
done_cut size address count s read t (Done.right values v r is) = resting_cut size address count s false false values v t r
done_cut size address count s read t (Done.wrong b) = bad_cut size address count s read t b

-- ---- the data that were read, as far as they are right

pub record SomeRead (size : Size) (address count : ℕ) (s : Site) (on_data : Bool) (n : ℕ) (t : Site) : Type 0 where
  pub read : List ℕ
  pub many : length read ≡ n
  pub going : Going size address count s on_data read t

some_ran : (size : Size) (address count : ℕ) (s : Site) (on_data : Bool) (n : ℕ) (op : DmiOp) (result : ℕ) (x t : Site) → (o : OneOperation op result x t)
    → SomeRead size address count s on_data n (operated op (ran o.before x)) → SomeRead size address count s on_data n t
some_ran size address count s on_data n op result x t o g = record {
  read = g.read;
  many = g.many;
  going = subst (λ (y : Site). Going size address count s on_data g.read y) (sym o.is)
      (going_ran size address count s on_data g.read (operated op (ran o.before x)) o.behind g.going);
}

upper_by : (size : Size) (address count : ℕ) (s : Site) (on_data : Bool) (read : List ℕ) (high : ℕ) (t : Site)
    → Half size address count s on_data read high t → Going size address count s on_data read t
upper_by size address count s on_data read high t (Half.right v r is) = rests v r
upper_by size address count s on_data read high t (Half.wrong b) = bad b

some_upper : (size : Size) (address count : ℕ) (s : Site) (on_data : Bool) (n result : ℕ) (x t : Site) → SomeRead size address count s on_data n x
    → OneOperation (Read sbdata1_address) result x t → SomeRead size address count s on_data n t
some_upper size address count s on_data n result x t g o =
    some_ran size address count s on_data n (Read sbdata1_address) result x t o (record {
      read = g.read;
      many = g.many;
      going = upper_by size address count s on_data g.read _ (operated (Read sbdata1_address) (ran o.before x))
          (upper_read size address count s on_data g.read (ran o.before x) (going_ran size address count s on_data g.read x o.before g.going));
    })

lower_by : (size : Size) (address count : ℕ) (s : Site) (read : List ℕ) (x : Site) → is_aligned address size ≡ true
    → address + count * count_of size ≤ 2 ^ 64 → length read + 1 < count → Going size address count s true read x
    → SomeRead size address count s true (length read + 1) (operated (Read sbdata0_address) x)
lower_by size address count s read x aligned ends below (waits v w last) = record {
  read = read ++ 0 ∷ [];
  many = length-append read (0 ∷ []);
  going = bad (Bad.waiting true read (0 ∷ []) v
      (waiting_read size address count s true false read v x sbdata0_address sbdata0_read _ of_sbdata0 refl w) last refl);
}
lower_by size address count s read x aligned ends below (rests v r) = record {
  read = read ++ v ∷ [];
  many = length-append read (v ∷ []);
  going = waits v (next_started size address count s read v x aligned ends below r) (Last.some read v r.small);
}
lower_by size address count s read x aligned ends below (bad b) = record {
  read = read ++ 0 ∷ [];
  many = length-append read (0 ∷ []);
  going = bad (bad_more size address count s read (0 ∷ []) (operated (Read sbdata0_address) x) (bad_lower size address count s read x b));
}

some_lower : (size : Size) (address count : ℕ) (s : Site) (n result : ℕ) (x t : Site) → is_aligned address size ≡ true
    → address + count * count_of size ≤ 2 ^ 64 → n + 1 < count → SomeRead size address count s true n x
    → OneOperation (Read sbdata0_address) result x t → SomeRead size address count s true (n + 1) t
some_lower size address count s n result x t aligned ends below g o =
    let m : length g.read ≡ n = g.many in
    some_ran size address count s true (n + 1) (Read sbdata0_address) result x t o
    (subst (λ k. SomeRead size address count s true (k + 1) (operated (Read sbdata0_address) (ran o.before x))) m
    (lower_by size address count s g.read (ran o.before x) aligned ends (omega (arith, m, below))
    (going_ran size address count s true g.read x o.before g.going)))

some_reads : (size : Size) (address count : ℕ) (s : Site) (was n : ℕ) (acts : List Act) (x t : Site) → is_aligned address size ≡ true
    → address + count * count_of size ≤ 2 ^ 64 → was + n < count → DataReads n acts → SomeRead size address count s true was x → SiteActs acts x t
    → SomeRead size address count s true (was + n) t
some_reads size address count s was _ _ x t aligned ends below DataReads.none g p =
    subst (λ k. SomeRead size address count s true k t) (let e : was ≡ was + 0 = omega arith in e)
    (subst (λ (y : Site). SomeRead size address count s true was y) (sym p) g)
some_reads size address count s was _ _ x t aligned ends below (DataReads.lower n value acts r) g p =
    subst (λ k. SomeRead size address count s true k t) (let e : (was + 1) + n ≡ was + (n + 1) = omega arith in e)
    (some_reads size address count s (was + 1) n acts p.0 t aligned ends (omega (arith, below)) r
    (some_lower size address count s was p.1.result x p.0 aligned ends (omega (arith, below)) g p.1.one) p.2)
some_reads size address count s was _ _ x t aligned ends below (DataReads.upper n value acts r) g p =
    some_reads size address count s was n acts p.0 t aligned ends below r
    (some_upper size address count s true was p.1.result x p.0 g p.1.one) p.2

some_deeds : (size : Size) (address count : ℕ) (s : Site) (on_data : Bool) (n : ℕ) (x t : Site) → SomeRead size address count s on_data n x → DeedsAlone x t
    → BusBlockLoadCut size address count [] s t
some_deeds size address count s on_data n x t g d =
    going_cut size address count s on_data g.read t
    (subst (λ (y : Site). Going size address count s on_data g.read y) (sym d.is) (going_ran size address count s on_data g.read x d.deeds g.going))

some_cut : (size : Size) (address count : ℕ) (s : Site) (on_data : Bool) (n : ℕ) (t : Site) → SomeRead size address count s on_data n t
    → BusBlockLoadCut size address count [] s t
some_cut size address count s on_data n t g = going_cut size address count s on_data g.read t g.going

-- while the elements in front were read
pub reading_cut : (size : Size) (address count : ℕ) (s : Site) (number : ℕ) (acts : List Act) (op : DmiOp) (x mid t : Site) → is_aligned address size ≡ true
    → address + count * count_of size ≤ 2 ^ 64 → number < count → ReadingData number acts (Operation op) → Going size address count s true [] x
    → SiteActs acts x mid → SiteCut op mid t → BusBlockLoadCut size address count [] s t
reading_cut size address count s number acts op x mid t aligned ends below (ReadingData.lower n _ r few) g p (unperformed d) =
    some_deeds size address count s true (0 + n) mid t
    (some_reads size address count s 0 n acts x mid aligned ends (omega (arith, few, below)) r (record { read = []; many = refl; going = g }) p) d
reading_cut size address count s number acts op x mid t aligned ends below (ReadingData.lower n _ r few) g p (was_performed result o) =
    some_cut size address count s true ((0 + n) + 1) t
    (some_lower size address count s (0 + n) result mid t aligned ends (omega (arith, few, below))
    (some_reads size address count s 0 n acts x mid aligned ends (omega (arith, few, below)) r (record { read = []; many = refl; going = g }) p) o)
reading_cut size address count s number acts op x mid t aligned ends below (ReadingData.upper n _ r few) g p (unperformed d) =
    some_deeds size address count s true (0 + n) mid t
    (some_reads size address count s 0 n acts x mid aligned ends (omega (arith, few, below)) r (record { read = []; many = refl; going = g }) p) d
reading_cut size address count s number acts op x mid t aligned ends below (ReadingData.upper n _ r few) g p (was_performed result o) =
    some_cut size address count s true (0 + n) t
    (some_upper size address count s true (0 + n) result mid t
    (some_reads size address count s 0 n acts x mid aligned ends (omega (arith, few, below)) r (record { read = []; many = refl; going = g }) p) o)

-- ---- at the end of sbreadondata

pub stop_cut : (size : Size) (address count : ℕ) (s : Site) (read : List ℕ) (x t : Site) → Going size address count s true read x
    → SiteCut (Write sbcs_address (running false size)) x t → BusBlockLoadCut size address count [] s t
stop_cut size address count s read x t g (unperformed d) =
    going_cut size address count s true read t
    (subst (λ (y : Site). Going size address count s true read y) (sym d.is) (going_ran size address count s true read x d.deeds g))
stop_cut size address count s read x t g (was_performed result o) =
    let z : Site = ran o.before x in
    going_cut size address count s false read t
    (subst (λ (y : Site). Going size address count s false read y) (sym o.is)
    (going_ran size address count s false read (operated (Write sbcs_address (running false size)) z) o.behind
    (stop_by size address count s read z (going_ran size address count s true read x o.before g))))

-- ---- at the last element

-- what was read may be anything
record BusReadOff (size : Size) (address count : ℕ) (s t : Site) : Type 0 where
  read : List ℕ
  going : Going size address count s false read t

lower_off : (size : Size) (address count : ℕ) (s : Site) (read : List ℕ) (x : Site) → Going size address count s false read x
    → BusReadOff size address count s (operated (Read sbdata0_address) x)
lower_off size address count s read x (waits v w last) =
    record {
      read = read;
      going = bad (Bad.waiting false read [] v
          (waiting_read size address count s false false read v x sbdata0_address sbdata0_read _ of_sbdata0 refl w) last (sym (append-nil read)));
    }
lower_off size address count s read x (rests v r) =
    record { read = read; going = rests v (resting_read size address count s false false read v x sbdata0_address sbdata0_read _ of_sbdata0 refl r) }
lower_off size address count s read x (bad b) = record { read = read; going = bad (bad_lower size address count s read x b) }

upper_reads : (size : Size) (address count : ℕ) (s : Site) (m n : ℕ) (acts : List Act) (x t : Site) → n ≡ 0 → DataReads n acts
    → SomeRead size address count s false m x → SiteActs acts x t → SomeRead size address count s false m t
upper_reads size address count s m _ _ x t is DataReads.none g p = subst (λ (y : Site). SomeRead size address count s false m y) (sym p) g
upper_reads size address count s m _ _ x t is (DataReads.lower n value acts r) g p = absurd (omega (arith, is))
upper_reads size address count s m _ _ x t is (DataReads.upper n value acts r) g p =
    upper_reads size address count s m n acts p.0 t is r (some_upper size address count s false m p.1.result x p.0 g p.1.one) p.2

lower_cut : (size : Size) (address count : ℕ) (s : Site) (m result : ℕ) (x t : Site) → SomeRead size address count s false m x
    → OneOperation (Read sbdata0_address) result x t → BusBlockLoadCut size address count [] s t
lower_cut size address count s m result x t g o =
    let z : Site = ran o.before x in
    let off : BusReadOff size address count s (operated (Read sbdata0_address) z) =
    lower_off size address count s g.read z (going_ran size address count s false g.read x o.before g.going) in
    going_cut size address count s false off.read t
    (subst (λ (y : Site). Going size address count s false off.read y) (sym o.is)
    (going_ran size address count s false off.read (operated (Read sbdata0_address) z) o.behind off.going))

pub last_cut : (size : Size) (address count : ℕ) (s : Site) (read : List ℕ) (acts : List Act) (op : DmiOp) (x mid t : Site)
    → ReadingData 1 acts (Operation op) → Going size address count s false read x → SiteActs acts x mid → SiteCut op mid t
    → BusBlockLoadCut size address count [] s t
last_cut size address count s read acts op x mid t (ReadingData.lower n _ r few) g p (unperformed d) =
    some_deeds size address count s false (length read) mid t
    (upper_reads size address count s (length read) n acts x mid (omega (arith, few)) r (record { read = read; many = refl; going = g }) p) d
last_cut size address count s read acts op x mid t (ReadingData.lower n _ r few) g p (was_performed result o) =
    lower_cut size address count s (length read) result mid t
    (upper_reads size address count s (length read) n acts x mid (omega (arith, few)) r (record { read = read; many = refl; going = g }) p) o
last_cut size address count s read acts op x mid t (ReadingData.upper n _ r few) g p (unperformed d) =
    some_deeds size address count s false (length read) mid t
    (upper_reads size address count s (length read) n acts x mid (omega (arith, few)) r (record { read = read; many = refl; going = g }) p) d
last_cut size address count s read acts op x mid t (ReadingData.upper n _ r few) g p (was_performed result o) =
    some_cut size address count s false (length read) t
    (some_upper size address count s false (length read) result mid t
    (upper_reads size address count s (length read) n acts x mid (omega (arith, few)) r (record { read = read; many = refl; going = g }) p) o)

-- ---- while the errors are cleared

kept_by : (a : ℕ) (f : BusUnit → BusUnit) (g : BusUnit → ℕ) (result at v : ℕ) (mid x t : Site) → Reads a f g
    → f (bus_at false B1 at v Fine None) ≡ bus_at false B1 at v Fine None → SiteReady mid → AtBus (bus_at false B1 at v Fine None) mid x
    → OneOperation (Read a) result x t → AtBus (bus_at false B1 at v Fine None) mid t
kept_by a f g result at v mid x t reads same ready p o =
    let u : BusUnit = bus_at false B1 at v Fine None in
    subst (λ (y : Site). AtBus u mid y) (sym o.is)
    (at_ran u mid (operated (Read a) (ran o.before x)) o.behind ready refl
    (at_read a f g u u mid (ran o.before x) reads ready same (at_ran u mid x o.before ready refl p)))

bus_read_at : (a result at v : ℕ) (mid x t : Site) → IsBusRead a → SiteReady mid → AtBus (bus_at false B1 at v Fine None) mid x
    → OneOperation (Read a) result x t → AtBus (bus_at false B1 at v Fine None) mid t
bus_read_at _ result at v mid x t IsBusRead.upper_address ready p o = kept_by sbaddress1_address bus_looked _ result at v mid x t of_sbaddress1 refl ready p o
bus_read_at _ result at v mid x t IsBusRead.lower_address ready p o = kept_by sbaddress0_address bus_looked _ result at v mid x t of_sbaddress0 refl ready p o
bus_read_at _ result at v mid x t IsBusRead.upper_data ready p o = kept_by sbdata1_address bus_looked _ result at v mid x t of_sbdata1 refl ready p o
bus_read_at _ result at v mid x t IsBusRead.lower_data ready p o = kept_by sbdata0_address sbdata0_read _ result at v mid x t of_sbdata0 refl ready p o

reads_along : (at v : ℕ) (acts : List Act) (mid x t : Site) → SiteReady mid → BusReads acts → AtBus (bus_at false B1 at v Fine None) mid x → SiteActs acts x t
    → AtBus (bus_at false B1 at v Fine None) mid t
reads_along at v _ mid x t ready BusReads.none a p = subst (λ (y : Site). AtBus (bus_at false B1 at v Fine None) mid y) (sym p) a
reads_along at v _ mid x t ready (BusReads.more r value acts is others) a p =
    reads_along at v acts mid p.0 t ready others (bus_read_at r p.1.result at v mid x p.0 is ready a p.1.one) p.2

-- turns alone passed, and the bus holds something
pub record AtSome (mid t : Site) : Type 0 where
  pub unit : BusUnit
  pub at : AtBus unit mid t

pub finding_along : (u : BusUnit) (at v : ℕ) (acts : List Act) (op : DmiOp) (mid x m t : Site) → SiteReady mid → u.pending ≡ None
    → sbcs_written clears_sberror u ≡ bus_at false B1 at v Fine None → Finding acts (Operation op) → AtBus u mid x → SiteActs acts x m → SiteCut op m t
    → AtSome mid t
finding_along u at v _ _ mid x m t ready idle clears Finding.clears a p (unperformed d) = record {
  unit = u;
  at = subst (λ (y : Site). AtBus u mid y) (sym d.is) (at_ran u mid m d.deeds ready idle (subst (λ (y : Site). AtBus u mid y) (sym p) a));
}
finding_along u at v _ _ mid x m t ready idle clears Finding.clears a p (was_performed result o) = record {
  unit = bus_at false B1 at v Fine None;
  at = put_bus sbcs_address clears_sberror _ u (bus_at false B1 at v Fine None) mid m t (to_sbcs clears_sberror) (works_ready mid ready) idle clears refl
      (subst (λ (y : Site). AtBus u mid y) (sym p) a) (t, record { before = o.before; behind = o.behind; is = o.is; result_is = refl }, refl);
}
finding_along u at v _ _ mid x m t ready idle clears (Finding.reads r acts others is) a p cut =
    let w : BusUnit = bus_at false B1 at v Fine None in
    let put : AtBus w mid p.0 =
    put_bus sbcs_address clears_sberror _ u w mid x p.0 (to_sbcs clears_sberror) (works_ready mid ready) idle clears refl a (p.0, p.1, refl) in
    record { unit = w; at = by (reads_along at v acts mid p.0 m ready others put p.2) cut }
  where
    by : AtBus (bus_at false B1 at v Fine None) mid m → SiteCut (Read r) m t → AtBus (bus_at false B1 at v Fine None) mid t
    by b (unperformed d) =
        subst (λ (y : Site). AtBus (bus_at false B1 at v Fine None) mid y) (sym d.is)
        (at_ran (bus_at false B1 at v Fine None) mid m d.deeds ready refl b)
    by b (was_performed result o) = bus_read_at r result at v mid m t is ready b o

finding_by : (size : Size) (address count : ℕ) (s : Site) (u : BusUnit) (at v : ℕ) (acts : List Act) (op : DmiOp) (x mid t : Site) → u.pending ≡ None
    → sbcs_written clears_sberror u ≡ bus_at false B1 at v Fine None → Finding acts (Operation op) → Settled size address count s u x
    → SiteActs acts x mid → SiteCut op mid t → BusBlockLoadCut size address count [] s t
finding_by size address count s u at v acts op x mid t idle clears f (Settled.loaded values w first base below each one ready a) p cut =
    let g : AtSome base t = finding_along u at v acts op base x mid t ready idle clears f a p cut in
    settled_cut size address count s g.unit t (Settled.loaded values w first base below each one ready g.at)
finding_by size address count s u at v acts op x mid t idle clears f (Settled.refused values first base below each one ready a) p cut =
    let g : AtSome base t = finding_along u at v acts op base x mid t ready idle clears f a p cut in
    settled_cut size address count s g.unit t (Settled.refused values first base below each one ready g.at)

pub finding_cut : (size : Size) (address count : ℕ) (s : Site) (read : List ℕ) (last : ℕ) (acts : List Act) (op : DmiOp) (x mid t : Site)
    → Finding acts (Operation op) → Ended size address count s read last x → SiteActs acts x mid → SiteCut op mid t
    → BusBlockLoadCut size address count [] s t
finding_cut size address count s read last acts op x mid t f (Ended.fine values v r is error collided) p cut =
    let a : ℕ = element_at size address (length values) in
    finding_by size address count s (read_bus false size a v false) (next_of size a) v acts op x mid t refl (run_cleared false size (next_of size a) v false) f
    (rest_settled size address count s false false values v x r) p cut
finding_cut size address count s read last acts op x mid t f (Ended.early on_data values rest v r is error collided) p cut =
    let a : ℕ = element_at size address (length values) in
    finding_by size address count s (read_bus on_data size a v true) (next_of size a) v acts op x mid t refl
    (run_cleared on_data size (next_of size a) v true) f
    (rest_settled size address count s on_data true values v x r) p cut
finding_cut size address count s read last acts op x mid t f (Ended.refused on_data collided values rest v r last_is is error) p cut =
    let a : ℕ = element_at size address (length values) in
    finding_by size address count s (refused_bus on_data size a v collided) a v acts op x mid t refl (refused_cleared on_data size a v collided) f
    (refuse_settled size address count s on_data collided values v x r) p cut
