-- Where a block of stores broke off at a told chip.
use Rattle.std.proofs.Common.{◌≡◌, ◌∙◌, ◌≤◌, ◌<◌, ◌+◌, ◌*◌, ◌^◌, ℕ, [], length, Option, Some, None, refl, sym, ap, subst, arith, inl, inr}
use Rattle.rv_model.specs.declared.size.Size.{Size}
use Rattle.rv_model.specs.Board.{Hart}
use Rattle.rv_model.specs.DebugRegisters.{debug_written}
use Rattle.rv_model.specs.Memory.{Memory}
use Rattle.rv_model.specs.Size.{count_of}
use Rattle.rv_model.proofs.MemoryLemmas.{after_store_refused}
use Rattle.debug_model.specs.Dmi.{DmiComing}
use Rattle.debug_model.specs.Module.{Site}
use Rattle.debug_model.specs.SystemBus.{BusUnit}
use Rattle.debug_model.specs.Told.{Far, HartHalted, IsHalted, IsReady, Selects, site_of}
use Rattle.probe_access.specs.declared.fault.AccessFault.{AccessFault}
use Rattle.probe_run.specs.Acts.{Tells, tells}
use Rattle.probe_access.specs.BlockCuts.{BlockStoreCut}
use Rattle.probe_access.specs.Blocks.{StoredEach, element_at}
use Rattle.probe_access.specs.Blocks.StoredEach.{nothing as none_stored}
use Rattle.probe_access.specs.Cuts.{IfCut, Leaves, StoreLeaves}
use Rattle.probe_access.specs.ElementRuns.{StartFailed, StoreRunsFailed, StoresFailed, StoresOn, block_program}
use Rattle.probe_access.specs.RegisterAccess.{store_word, x8_number, x9_number}
use Rattle.probe_access.proofs.Aside.{HartAt, passed}
use Rattle.probe_access.proofs.BlockAround.{BlockCutInside, around_cut}
use Rattle.probe_access.proofs.CutAccess.{AnyScratch, HungInside, InsideAt, any_back, any_same, any_written8, itself, valued_scratch, value_y}
use Rattle.probe_access.proofs.CutAccess.InsideAt.{made, not_yet}
use Rattle.probe_access.proofs.CutHarts.{PutBack as PutBackHart, Written, write_hung}
use Rattle.probe_access.proofs.CutHung.{Hung, HungAt, hung_map}
use Rattle.probe_access.proofs.CutSites.{cut_always, if_cut}
use Rattle.probe_access.proofs.ElementWords.{scratched_advanced}
use Rattle.probe_access.proofs.NextCuts.{NextFits, hung_aside, inside_left, run_hung}
use Rattle.probe_access.proofs.NextSteps.{advanced}
use Rattle.probe_access.proofs.RegAnswers.{StoodTold}
use Rattle.probe_access.proofs.RegClauses.{first_told}
use Rattle.probe_access.proofs.RegisterTold.WordPuts.{no_more}
use Rattle.probe_access.proofs.ScratchLemmas.{scratched}
use Rattle.probe_access.proofs.StoreBlockClauses.{StoresDone, block_at, stores_inside}
use Rattle.probe_access.proofs.StoreClauses.{valued}
use Rattle.probe_access.proofs.StorePlaces.{
  BlockAt,
  Prepared,
  StoreFault,
  StorePlace,
  block_puts,
  block_there,
  element_decides,
  on_it,
  place_aimed,
  store_aimed,
  store_valued,
  with_block,
}
use Rattle.probe_access.proofs.StoreEnds.{cut_aimed, stores_place}
use Rattle.probe_access.proofs.StoreRuns.{
  StoreCut,
  StoreDoes,
  StoreDone,
  StoreRefuses,
  StoreRun,
  place_asked,
  place_done,
  store_rests,
  some_place,
}
use Rattle.probe_access.proofs.RunCuts.{HalfTold, Halves, asked_half, find_half}
use Rattle.probe_access.specs.AskedRuns.{RunFell}
use Rattle.probe_access.proofs.WordAccess.{StoreFaults, Stores}

-- ---- where it stands

-- elements were stored, and the next maybe; or all were
pub data StoreHungAt (size : Size) (address value count h : ℕ) (bus : BusUnit) (x : Hart) (s t : Site) : Type 0 where
  within : (done : ℕ) (base : Site) → done < count → StoredEach size address value s done base → HartAt h base x → base.unit.bus ≡ bus
      → InsideAt (AnyScratch x) (StoreLeaves size (element_at size address done) value) h bus base t → StoreHungAt size address value count h bus x s t
  behind : (base : Site) → StoredEach size address value s count base → HartAt h base x → base.unit.bus ≡ bus → HungAt (AnyScratch x) h bus base t
      → StoreHungAt size address value count h bus x s t

pub record StoreHung (size : Size) (address value count h : ℕ) (bus : BusUnit) (x : Hart) (s : Site) (told : Option Far) : Type 0 where
  pub far : Far
  pub is : told ≡ Some far
  pub hung : StoreHungAt size address value count h bus x s (site_of far)

hung_within : (size : Size) (address value count done h : ℕ) (bus : BusUnit) (x : Hart) (s base : Site) (told : Option Far) → done < count
    → StoredEach size address value s done base → HartAt h base x → base.unit.bus ≡ bus
    → HungInside (AnyScratch x) (StoreLeaves size (element_at size address done) value) h bus base told → StoreHung size address value count h bus x s told
hung_within size address value count done h bus x s base told below each here bus_is p =
    record { far = p.far; is = p.is; hung = within done base below each here bus_is p.inside }

hung_before : (size : Size) (address value count h : ℕ) (bus : BusUnit) (x : Hart) (s : Site) (told : Option Far) → 0 < count → HartAt h s x
    → s.unit.bus ≡ bus → Hung (AnyScratch x) h bus s told → StoreHung size address value count h bus x s told
hung_before size address value count h bus x s told some here bus_is p =
    record { far = p.far; is = p.is; hung = within 0 s some none_stored here bus_is (not_yet p.hung) }

-- ---- one element

element_fits : (size : Size) (address value done : ℕ) (x : Hart) → length x.core.x ≡ 32
    → NextFits (Stores size (element_at size address done) value (on_it size address value done x)) (StoreFaults size (element_at size address done))
    (AnyScratch x) (StoreLeaves size (element_at size address done) value) size (on_it size address value done x)
element_fits size address value done x all =
    let a : ℕ = element_at size address done in
    record {
      first = record { p = a; q = value; is = refl };
      hart = λ m z n l. record { p = a; q = value; is = l.hart };
      raised = λ m z n l. record { p = _; q = value; is = ap (advanced size) l.hart ∙ scratched_advanced size a value x all };
      memory = λ m z n l. l.memory;
      refused = λ m q. sym (after_store_refused m a size value q.why q.is);
    }

pub written_scratch : (x y : Hart) (v : ℕ) (z : Hart) → AnyScratch x y → Written x8_number v y z → AnyScratch x z
written_scratch x y v z a (inl e) = any_same x y z e a
written_scratch x y v z a (inr e) = any_same x (debug_written y x8_number v) z e (any_written8 x y v a)

start_hung : (size : Size) (address value count h : ℕ) (bus : BusUnit) (x : Hart) (s : Site) (old_count new_count : ℕ) (old new : Tells) (e : AccessFault)
    → BlockAt size address count x s → s.unit.bus ≡ bus → HartAt h s x → StoodTold h bus (valued x value) s x old.far
    → StartFailed (store_word size) size address old_count new_count old new e
    → IfCut (StoreHung size address value count h bus x s new.far) e
start_hung size address value count h bus x s old_count new_count old new e env bus_is here st (StartFailed.at_x8 f) =
    let y : Hart = valued x value in
    if_cut (Hung (Written x8_number address y) h bus s new.far) (StoreHung size address value count h bus x s new.far) e
    (λ p. hung_before size address value count h bus x s new.far env.some here bus_is
    (hung_map (Written x8_number address y) (AnyScratch x) h bus s new.far
    (λ z q. written_scratch x y address z (valued_scratch x value env.all) q) p))
    (write_hung x8_number address h bus y s x old_count new_count old new e (omega arith) st f)
start_hung size address value count h bus x s old_count new_count old new e env bus_is here st (StartFailed.at_first mid x8 f) =
    let a : ℕ = element_at size address 0 in
    let y : Hart = on_it size address value 0 x in
    let ready : StoodTold h bus y s x mid.far = store_aimed size address value h bus x s old mid st x8 in
    if_cut (HungInside (AnyScratch x) (StoreLeaves size a value) h bus s new.far) (StoreHung size address value count h bus x s new.far) e
    (hung_within size address value count 0 h bus x s s new.far env.some none_stored here bus_is)
    (run_hung (Stores size a value y) (StoreFaults size a) (AnyScratch x) (StoreLeaves size a value) (store_word size) size
    (block_program (store_word size) size) address (with_block (store_word size) size ready.kept) h bus y s x old_count new_count mid new e
    (element_fits size address value 0 x env.all) ready (block_puts (store_word size) size h bus y ready.kept)
    (block_there (store_word size) size ready.kept)
    (λ m. element_decides size address value count 0 x s m env env.some ready.stood.frozen) f)

-- ---- runs

store_halves : (size : Size) (address value count n most h : ℕ) (bus : BusUnit) (x : Hart) (s : Site) → length x.core.x ≡ 32
    → Halves (StoreDone size address value count h bus x s n) (StoreDoes size address value) (StoreRefuses size address) (AnyScratch x)
    (λ i. StoreLeaves size (element_at size address i) value) size most
store_halves size address value count n most h bus x s all = record {
  first = λ i y base c. record { p = c.p; q = value; is = c.hart_is };
  fits = λ i y base c below. record {
    first = record { p = c.p; q = value; is = c.hart_is };
    hart = λ m z k l. record { p = c.p; q = value; is = l.hart ∙ c.hart_is };
    raised = λ m z k l. record { p = _; q = value; is = ap (advanced size) (l.hart ∙ c.hart_is) ∙ scratched_advanced size c.p value x all };
    memory = λ m z k l. l.memory;
    refused = λ m q. sym (after_store_refused m (element_at size address i) size value q.why q.is);
  };
}

half_hung : (size : Size) (address value count n b h : ℕ) (bus : BusUnit) (x : Hart) (s : Site) (told : Option Far) → b < count
    → HalfTold (StoreDone size address value count h bus x s n) (AnyScratch x) (λ i. StoreLeaves size (element_at size address i) value) h bus b told
    → StoreHung size address value count h bus x s told
half_hung size address value count n b h bus x s told below p =
    let within : p.half.i ≤ b = p.half.within in
    record {
      far = p.far;
      is = p.is;
      hung = StoreHungAt.within p.half.i p.half.base (omega (arith, below, within)) p.half.done.each p.half.done.held.here p.half.done.bus_is p.half.inside;
    }

run_fell_hung : (size : Size) (address value count n again h : ℕ) (bus : BusUnit) (x : Hart) (s : Site) (old_count new_count : ℕ) (old new : Tells)
    (e : AccessFault) → BlockAt size address count x s → n + 1 + again < count → StorePlace size address value count n h bus x s old.far
    → RunFell size address n again old_count new_count old new e → IfCut (StoreHung size address value count h bus x s new.far) e
run_fell_hung size address value count n again h bus x s old_count new_count old new _ env below pl (RunFell.asking e looks f) =
    if_cut (HalfTold (StoreDone size address value count h bus x s n) (AnyScratch x) (λ i. StoreLeaves size (element_at size address i) value) h bus
    (n + 1 + again) new.far) (StoreHung size address value count h bus x s new.far) e
    (half_hung size address value count n (n + 1 + again) h bus x s new.far below)
    (asked_half looks again (StoreDone size address value count h bus x s n) (StoreDoes size address value) (StoreRefuses size address) (AnyScratch x)
    (λ i. StoreLeaves size (element_at size address i) value) (store_word size) size (n + 1 + again) h bus x n (scratched pl.p value x) pl.base old_count
    new_count old new e
    (store_rests size address value count n (n + 1 + again) h bus x s env (omega (arith, below)) pl.set.then.stood.idle)
    (store_halves size address value count n (n + 1 + again) h bus x s env.all) (omega arith)
    (place_done size address value count n h bus x s old.far pl) pl.set.then pl.set.program f)
run_fell_hung size address value count n again h bus x s old_count new_count old new _ env below pl (RunFell.finding e last mid a f) =
    let r : StoreRun size address value count n last h bus x s (n + 1 + again) mid.far =
    place_asked size address value count n again last h bus x s old mid env (omega (arith, below)) pl a in
    if_cut (HalfTold (StoreDone size address value count h bus x s n) (AnyScratch x) (λ i. StoreLeaves size (element_at size address i) value) h bus
    (n + 1 + again) new.far) (StoreHung size address value count h bus x s new.far) e
    (half_hung size address value count n (n + 1 + again) h bus x s new.far below)
    (find_half (StoreDone size address value count h bus x s n) (StoreDoes size address value) (StoreRefuses size address) (AnyScratch x)
    (λ i. StoreLeaves size (element_at size address i) value) (store_word size) size (n + 1 + again) last h bus x (n + 1 + again) old_count new_count mid
    new r.far e (store_halves size address value count n (n + 1 + again) h bus x s env.all) (omega arith) r.is r.left f)
run_fell_hung size address value count n again h bus x s old_count new_count old new _ env below pl (RunFell.refused found last mid a error least most r) = tt
run_fell_hung size address value count n again h bus x s old_count new_count old new _ env below pl (RunFell.oddly shown last is a zero one three) = tt
run_fell_hung size address value count n again h bus x s old_count new_count old new _ env below pl (RunFell.misplaced shown last x8 mid is a which r un) = tt

again_hung : (size : Size) (address value count found h : ℕ) (bus : BusUnit) (x : Hart) (s : Site) (old_count new_count : ℕ) (old new : Tells)
    (e : AccessFault) → BlockAt size address count x s → found < count → StoreCut size address value count found h bus x s old.far
    → StartFailed (store_word size) size (element_at size address found) old_count new_count old new e
    → IfCut (StoreHung size address value count h bus x s new.far) e
again_hung size address value count found h bus x s old_count new_count old new e env below c (StartFailed.at_x8 f) =
    let a : ℕ = element_at size address found in
    let y : Hart = scratched c.p value x in
    if_cut (Hung (Written x8_number a y) h bus c.base new.far) (StoreHung size address value count h bus x s new.far) e
    (λ p. let r : Hung (AnyScratch x) h bus c.base new.far =
    hung_map (Written x8_number a y) (AnyScratch x) h bus c.base new.far
    (λ z q. written_scratch x y a z (record { p = c.p; q = value; is = refl }) q) p in
    record { far = r.far; is = r.is; hung = StoreHungAt.within found c.base below c.each c.then.stood.held.here c.bus_is (not_yet r.hung) })
    (write_hung x8_number a h bus y c.base x old_count new_count old new e (omega arith) c.then f)
again_hung size address value count found h bus x s old_count new_count old new e env below c (StartFailed.at_first mid x8 f) =
    let a : ℕ = element_at size address found in
    let y : Hart = on_it size address value found x in
    let ready : StoodTold h bus y c.base x mid.far = cut_aimed size address value count found h bus x s old mid c x8 in
    if_cut (HungInside (AnyScratch x) (StoreLeaves size a value) h bus c.base new.far) (StoreHung size address value count h bus x s new.far) e
    (hung_within size address value count found h bus x s c.base new.far below c.each c.then.stood.held.here c.bus_is)
    (run_hung (Stores size a value y) (StoreFaults size a) (AnyScratch x) (StoreLeaves size a value) (store_word size) size
    (block_program (store_word size) size) a (with_block (store_word size) size ready.kept) h bus y c.base x old_count new_count mid new e
    (element_fits size address value found x env.all) ready (block_puts (store_word size) size h bus y ready.kept)
    (block_there (store_word size) size ready.kept)
    (λ m. element_decides size address value count found x s m env below ready.stood.frozen) f)

stores_hung : (size : Size) (address value count h : ℕ) (bus : BusUnit) (x : Hart) (s : Site) (old_count new_count : ℕ) (old new : Tells) (e : AccessFault)
    → BlockAt size address count x s → s.unit.bus ≡ bus → StoodTold h bus x s x old.far
    → StoresFailed size address value count old_count new_count old new e
    → IfCut (StoreHung size address value count h bus x s new.far) e
stores_hung size address value count h bus x s old_count new_count old new e env bus_is st (StoresFailed.at_x9 f) =
    if_cut (Hung (Written x9_number value x) h bus s new.far) (StoreHung size address value count h bus x s new.far) e
    (λ p. hung_before size address value count h bus x s new.far env.some st.stood.held.here bus_is
    (hung_map (Written x9_number value x) (AnyScratch x) h bus s new.far (λ z q. value_y x value z env.all q) p))
    (write_hung x9_number value h bus x s x old_count new_count old new e (omega arith) st f)
stores_hung size address value count h bus x s old_count new_count old new e env bus_is st (StoresFailed.in_start one x9 f) =
    start_hung size address value count h bus x s old_count new_count one new e env bus_is st.stood.held.here (store_valued value h bus x s old one st x9) f
stores_hung size address value count h bus x s old_count new_count old new e env bus_is st (StoresFailed.in_next n mid below on f) =
    let a : ℕ = element_at size address n in
    let y : Hart = on_it size address value n x in
    let pl : StorePlace size address value count n h bus x s mid.far =
    stores_place size address value count h bus x s old n mid env bus_is (omega (arith, below)) st on in
    let g : Prepared (store_word size) size h bus y pl.base x mid.far = place_aimed size address value count n h bus x s mid.far below pl in
    if_cut (HungInside (AnyScratch x) (StoreLeaves size a value) h bus pl.base new.far) (StoreHung size address value count h bus x s new.far) e
    (hung_within size address value count n h bus x s pl.base new.far below pl.each pl.set.then.stood.held.here pl.bus_is)
    (run_hung (Stores size a value y) (StoreFaults size a) (AnyScratch x) (StoreLeaves size a value) (store_word size) size [] a g.then.kept h bus y
    pl.base x old_count new_count mid new e (element_fits size address value n x env.all) g.then (no_more g.then.kept) g.program
    (λ m. element_decides size address value count n x s m env below g.then.stood.frozen) f)
stores_hung size address value count h bus x s old_count new_count old new e env bus_is st (StoresFailed.in_run n more mid below on f) =
    run_fell_hung size address value count n more h bus x s old_count new_count mid new e env below
    (stores_place size address value count h bus x s old n mid env bus_is (omega (arith, below)) st on) f
stores_hung size address value count h bus x s old_count new_count old new e env bus_is st (StoresFailed.in_again n more found mid cut below on a f) =
    again_hung size address value count found h bus x s old_count new_count cut new e env (omega (arith, below, a.most))
    (some_place size address value count n more found h bus x s mid cut env (omega (arith, below))
    (stores_place size address value count h bus x s old n mid env bus_is (omega (arith, below)) st on) a) f

-- ---- while x8 and x9 were put back

pub any_put : (x : Hart) (p q x8 x9 : ℕ) (z : Hart) → PutBackHart x8 x9 (scratched p q x) z → AnyScratch x z
any_put x p q x8 x9 z b = any_back x (scratched p q x) x8 x9 z (record { p = p; q = q; is = refl }) b

fault_hung : (size : Size) (address value count at p q x8 x9 h : ℕ) (bus : BusUnit) (x : Hart) (s b : Site) (told : Option Far)
    → StoreFault size address value count at h bus x s b → Hung (PutBackHart x8 x9 (scratched p q x)) h bus b told
    → StoreHung size address value count h bus x s told
fault_hung size address value count at p q x8 x9 h bus x s b told f g =
    let m : Memory = (passed f.turned f.mid).board.memory in
    let r : Hung (AnyScratch x) h bus b told =
    hung_map (PutBackHart x8 x9 (scratched p q x)) (AnyScratch x) h bus b told (λ z e. any_put x p q x8 x9 z e) g in
    record {
      far = r.far;
      is = r.is;
      hung = within f.done f.mid f.below f.each f.here f.mid_bus
          (made f.turned m (sym (after_store_refused m (element_at size address f.done) size value f.did.why f.did.is))
          (subst (λ c. HungAt (AnyScratch x) h bus c (site_of r.far)) f.base_is r.hung));
    }

done_hung : (size : Size) (address value count p q x8 x9 h : ℕ) (bus : BusUnit) (x : Hart) (s b : Site) (told : Option Far)
    → StoresDone size address value count h bus x s b → Hung (PutBackHart x8 x9 (scratched p q x)) h bus b told
    → StoreHung size address value count h bus x s told
done_hung size address value count p q x8 x9 h bus x s b told d g =
    let r : Hung (AnyScratch x) h bus b told =
    hung_map (PutBackHart x8 x9 (scratched p q x)) (AnyScratch x) h bus b told (λ z e. any_put x p q x8 x9 z e) g in
    record { far = r.far; is = r.is; hung = behind b d.each d.here d.bus_is r.hung }

stores_cut : (size : Size) (address value count h : ℕ) (bus : BusUnit) (x : Hart) (s : Site) → BlockAt size address count x s → s.unit.bus ≡ bus
    → HartAt h s x
    → BlockCutInside (λ a b. StoresOn size address value count a count b) (StoresFailed size address value count) (StoresDone size address value count h bus x s)
    (λ at. StoreFault size address value count at h bus x s) (StoreHung size address value count h bus x s) h bus x s
stores_cut size address value count h bus x s env bus_is here = record {
  inside = stores_inside size address value count h bus x s env bus_is;
  cut = λ oc nc first last e st f. stores_hung size address value count h bus x s oc nc first last e env bus_is st f;
  saving = λ told p. hung_before size address value count h bus x s told env.some here bus_is
      (hung_map (λ z. z ≡ x) (AnyScratch x) h bus s told (λ z e. any_same x x z e (itself x env.all)) p);
  restoring = λ p q x8 x9 b told d g. done_hung size address value count p q x8 x9 h bus x s b told d g;
  restoring_behind = λ at p q x8 x9 b told f g. fault_hung size address value count at p q x8 x9 h bus x s b told f g;
}

-- ---- the clause

cut_as : (size : Size) (address value count h : ℕ) (bus : BusUnit) (s : Site) (halted : HartHalted h s.board) (t : Site)
    → StoreHungAt size address value count h bus halted.hart s t → BlockStoreCut size address value count h s t
cut_as size address value count h bus s halted t (within done base below each here bus_is p) =
    BlockStoreCut.within done base below each (inside_left (StoreLeaves size (element_at size address done) value) h bus s halted base t here bus_is p)
cut_as size address value count h bus s halted t (behind base each here bus_is p) =
    BlockStoreCut.behind base each (hung_aside h bus s halted base t here bus_is p)

pub store_block_cut : (size : Size) (address value count h : ℕ) (far : Option Far) (coming : Option DmiComing) (old_count new_count : ℕ) (new : Tells)
    (e : AccessFault) → address + count * count_of size ≤ 2 ^ 64 → 0 < count → IsReady far → Selects h far → IsHalted h far
    → StoreRunsFailed size address value count old_count new_count (tells far coming) new e
    → IfCut (Leaves (BlockStoreCut size address value count h) far new.far) e
store_block_cut size address value count h None coming old_count new_count new e ends some ready selects halted f =
    cut_always (Leaves (BlockStoreCut size address value count h) None new.far) e tt
store_block_cut size address value count h (Some c) coming old_count new_count new e ends some ready selects halted f =
    let s : Site = site_of c in
    let x : Hart = halted.hart in
    if_cut (StoreHung size address value count h s.unit.bus x s new.far) (Leaves (BlockStoreCut size address value count h) (Some c) new.far) e
    (λ p. record { far = p.far; is = p.is; left = cut_as size address value count h s.unit.bus s halted (site_of p.far) p.hung })
    (around_cut (λ a b. StoresOn size address value count a count b) (StoresFailed size address value count) (StoresDone size address value count h s.unit.bus x s)
    (λ at. StoreFault size address value count at h s.unit.bus x s) (StoreHung size address value count h s.unit.bus x s) h s.unit.bus x s old_count new_count
    (tells (Some c) coming) new e
    (stores_cut size address value count h s.unit.bus x s (block_at size address count h c ready halted ends some) refl halted.is)
    (first_told h c ready halted selects) f)
