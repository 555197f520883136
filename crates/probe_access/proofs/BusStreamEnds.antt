-- The end of a run of loads by the system bus at a told chip: what the last poll showed, and what is left when an error is cleared.
use Rattle.std.proofs.Common.{
  ◌≡◌,
  ◌∙◌,
  ◌≤◌,
  ◌<◌,
  ◌+◌,
  ◌*◌,
  ◌++◌,
  ◌^◌,
  ◌%◌,
  ℕ,
  List,
  [],
  ◌∷◌,
  length,
  map,
  Bool,
  true,
  false,
  None,
  refl,
  sym,
  ap,
  subst,
  append_assoc,
  length-append,
  arith,
}
use Rattle.std.proofs.lemmas.Bool.{false≢true}
use Rattle.rv_model.specs.declared.size.Size.{Size}
use Rattle.rv_model.specs.declared.size.Size.TheVariants.{B1, B2, B4, B8}
use Rattle.rv_model.specs.Size.{count_of}
use Rattle.debug_model.specs.Addresses.{sbaddress0_address, sbaddress1_address, sbcs_address, sbdata0_address, sbdata1_address}
use Rattle.debug_model.specs.declared.dmi_op.DmiOp.TheVariants.{Read}
use Rattle.debug_model.specs.declared.sberror.Sberror.TheVariants.{Fine}
use Rattle.debug_model.specs.Commands.{high_half, low_half}
use Rattle.debug_model.specs.Deeds.{Deed, ran}
use Rattle.debug_model.specs.Dmi.{value_of}
use Rattle.debug_model.specs.Module.{Site, operated, operation_result}
use Rattle.debug_model.specs.ModuleWords.{sbcs_word}
use Rattle.debug_model.specs.SystemBus.{BusUnit, bus_looked, sbcs_shown, sbcs_written, sbdata0_read}
use Rattle.debug_model.specs.Told.{SiteReady}
use Rattle.probe_run.specs.Opening.{clears_sberror}
use Rattle.probe_access.specs.Blocks.{element_at}
use Rattle.probe_access.specs.BusBlocks.{BusLoadedEach, BusNotLoadedOne}
use Rattle.probe_access.specs.BusBlocks.BusLoadedEach.{further as loaded_further}
use Rattle.probe_access.specs.BusRuns.{bus_busy, bus_collided, bus_error, bus_poll, cut_to}
use Rattle.probe_access.specs.BusStreams.{Handed, found_acts}
use Rattle.probe_access.specs.RegisterAccess.{joined}
use Rattle.probe_access.proofs.Along.{ReadAt, SiteActs}
use Rattle.probe_access.proofs.BusSites.{AtBus, put_bus}
use Rattle.probe_access.proofs.BusSites.Writes.{to_sbcs}
use Rattle.probe_access.proofs.BusStreamShown.{RunShown, reading_shown, refused_shown, rest_shown, sbcs_seen}
use Rattle.probe_access.proofs.BusStreamSites.{Reads, Refusing, Resting, at_ran, at_read, loaded_passed, ready_at, refused_passed, refusing_ran, resting_ran, shown_at}
use Rattle.probe_access.proofs.BusStreamSites.Reads.{of_sbaddress0, of_sbaddress1, of_sbcs, of_sbdata0, of_sbdata1}
use Rattle.probe_access.proofs.BusStreamTold.{Bad, Done, Last, done_ran, refusing_read, resting_read, waiting_read}
use Rattle.probe_access.proofs.BusStreamUnits.{next_of, read_bus, reading, refused_bus, refused_cleared, run_cleared}
use Rattle.probe_access.proofs.BusTold.{value_whole, works_ready}
use Rattle.probe_access.proofs.BusUnits.{bus_at}

-- ---- polls

pub done_poll : (size : Size) (address count : ℕ) (s : Site) (read : List ℕ) (x : Site) → Done size address count s read x
    → Done size address count s read (operated (Read sbcs_address) x)
done_poll size address count s read x (Done.right values v r is) =
    Done.right values v (resting_read size address count s false false values v x sbcs_address _ _ of_sbcs refl r) is
done_poll size address count s read x (Done.wrong (Bad.waiting on_data values rest v w last is)) =
    Done.wrong (Bad.waiting on_data values rest v (waiting_read size address count s on_data true values v x sbcs_address _ _ of_sbcs refl w) last is)
done_poll size address count s read x (Done.wrong (Bad.resting on_data values rest v r is)) =
    Done.wrong (Bad.resting on_data values rest v (resting_read size address count s on_data true values v x sbcs_address _ _ of_sbcs refl r) is)
done_poll size address count s read x (Done.wrong (Bad.refusing on_data collided values rest v r last is)) =
    Done.wrong
    (Bad.refusing on_data collided values rest v (refusing_read size address count s on_data collided values v x sbcs_address _ _ of_sbcs refl r) last is)

-- at the end of the last access
pub data Ended (size : Size) (address count : ℕ) (s : Site) (read : List ℕ) (last : ℕ) (t : Site) : Type 0 where
  fine : (values : List ℕ) (value : ℕ) → Resting size address count s false false values value t → read ≡ values ++ value ∷ []
      → bus_error last ≡ 0 → bus_collided last ≡ false → Ended size address count s read last t
  early : (on_data : Bool) (values rest : List ℕ) (value : ℕ) → Resting size address count s on_data true values value t → read ≡ values ++ rest
      → bus_error last ≡ 0 → bus_collided last ≡ true → Ended size address count s read last t
  refused : (on_data collided : Bool) (values rest : List ℕ) (value : ℕ) → Refusing size address count s on_data collided values value t
      → Last size values value → read ≡ values ++ rest → bus_error last ≡ 2 → Ended size address count s read last t

-- what the poll shows of the bus
pub shows_of : (last : ℕ) (u : BusUnit) (base x : Site) → SiteReady base → AtBus u base x → last ≡ value_of (operation_result (Read sbcs_address) x)
    → last ≡ sbcs_seen u
shows_of last u base x ready at shows = shows ∙ ap value_of (shown_at sbcs_address (λ v. v) (λ v. sbcs_word (sbcs_shown v)) u base x of_sbcs ready at)

poll_ended : (size : Size) (address count : ℕ) (s : Site) (read : List ℕ) (last : ℕ) (x : Site) → last ≡ value_of (operation_result (Read sbcs_address) x)
    → bus_busy last ≡ false → Done size address count s read x → Ended size address count s read last x
poll_ended size address count s read last x shows idle (Done.right values v r is) =
    let a : ℕ = element_at size address (length values) in
    let e : last ≡ sbcs_seen (read_bus false size a v false) = shows_of last (read_bus false size a v false) r.mid x r.ready r.at shows in
    let w : RunShown false 0 false (sbcs_seen (read_bus false size a v false)) = rest_shown false size (next_of size a) v false in
    Ended.fine values v r is (ap bus_error e ∙ w.error_is) (ap bus_collided e ∙ w.collided_is)
poll_ended size address count s read last x shows idle (Done.wrong (Bad.waiting on_data values rest v w last_is is)) =
    let a : ℕ = element_at size address (length values) in
    let e : last ≡ sbcs_seen (reading on_data size a v true) = shows_of last (reading on_data size a v true) w.mid x w.ready w.at shows in
    let k : RunShown true 0 true (sbcs_seen (reading on_data size a v true)) = reading_shown on_data size a v true in
    absurd (false≢true (sym idle ∙ ap bus_busy e ∙ k.busy_is))
poll_ended size address count s read last x shows idle (Done.wrong (Bad.resting on_data values rest v r is)) =
    let a : ℕ = element_at size address (length values) in
    let e : last ≡ sbcs_seen (read_bus on_data size a v true) = shows_of last (read_bus on_data size a v true) r.mid x r.ready r.at shows in
    let w : RunShown false 0 true (sbcs_seen (read_bus on_data size a v true)) = rest_shown on_data size (next_of size a) v true in
    Ended.early on_data values rest v r is (ap bus_error e ∙ w.error_is) (ap bus_collided e ∙ w.collided_is)
poll_ended size address count s read last x shows idle (Done.wrong (Bad.refusing on_data collided values rest v r last_is is)) =
    let a : ℕ = element_at size address (length values) in
    let e : last ≡ sbcs_seen (refused_bus on_data size a v collided) = shows_of last (refused_bus on_data size a v collided) r.mid x r.ready r.at shows in
    let w : RunShown false 2 collided (sbcs_seen (refused_bus on_data size a v collided)) = refused_shown on_data size a v collided in
    Ended.refused on_data collided values rest v r last_is is (ap bus_error e ∙ w.error_is)

-- ---- behind it nothing changes

ended_read : (size : Size) (address count : ℕ) (s : Site) (read : List ℕ) (last : ℕ) (x : Site) → Ended size address count s read last x
    → Ended size address count s read last (operated (Read sbcs_address) x)
ended_read size address count s read last x (Ended.fine values v r is error collided) =
    Ended.fine values v (resting_read size address count s false false values v x sbcs_address _ _ of_sbcs refl r) is error collided
ended_read size address count s read last x (Ended.early on_data values rest v r is error collided) =
    Ended.early on_data values rest v (resting_read size address count s on_data true values v x sbcs_address _ _ of_sbcs refl r) is error collided
ended_read size address count s read last x (Ended.refused on_data collided values rest v r last_is is error) =
    Ended.refused on_data collided values rest v
    (refusing_read size address count s on_data collided values v x sbcs_address _ _ of_sbcs refl r) last_is is error

ended_ran : (size : Size) (address count : ℕ) (s : Site) (read : List ℕ) (last : ℕ) (x : Site) (ds : List Deed) → Ended size address count s read last x
    → Ended size address count s read last (ran ds x)
ended_ran size address count s read last x ds (Ended.fine values v r is error collided) =
    Ended.fine values v (resting_ran size address count s false false values v x ds r) is error collided
ended_ran size address count s read last x ds (Ended.early on_data values rest v r is error collided) =
    Ended.early on_data values rest v (resting_ran size address count s on_data true values v x ds r) is error collided
ended_ran size address count s read last x ds (Ended.refused on_data collided values rest v r last_is is error) =
    Ended.refused on_data collided values rest v (refusing_ran size address count s on_data collided values v x ds r) last_is is error

pub polls_done : (size : Size) (address count : ℕ) (s : Site) (read words : List ℕ) (x t : Site) → Done size address count s read x
    → SiteActs (map bus_poll words) x t → Done size address count s read t
polls_done size address count s read [] x t d acts = subst (λ (y : Site). Done size address count s read y) (sym acts) d
polls_done size address count s read (word ∷ words) x t d acts =
    let o = acts.1.one in
    let z : Site = ran o.before x in
    polls_done size address count s read words acts.0 t
    (subst (λ (y : Site). Done size address count s read y) (sym o.is)
    (done_ran size address count s read (operated (Read sbcs_address) z) o.behind
    (done_poll size address count s read z (done_ran size address count s read x o.before d)))) acts.2

pub done_ended : (size : Size) (address count : ℕ) (s : Site) (read words : List ℕ) (last : ℕ) (x t : Site) → bus_busy last ≡ false
    → Done size address count s read x → SiteActs (map bus_poll words ++ bus_poll last ∷ []) x t → Ended size address count s read last t
done_ended size address count s read [] last x t idle d acts =
    let o = acts.1.one in
    let z : Site = ran o.before x in
    subst (λ (y : Site). Ended size address count s read last y) (sym (acts.2 ∙ o.is))
    (ended_ran size address count s read last (operated (Read sbcs_address) z) o.behind
    (ended_read size address count s read last z
    (poll_ended size address count s read last z (acts.1.value_is ∙ ap value_of o.result_is) idle (done_ran size address count s read x o.before d))))
done_ended size address count s read (word ∷ words) last x t idle d acts =
    let o = acts.1.one in
    let z : Site = ran o.before x in
    done_ended size address count s read words last acts.0 t idle
    (subst (λ (y : Site). Done size address count s read y) (sym o.is)
    (done_ran size address count s read (operated (Read sbcs_address) z) o.behind
    (done_poll size address count s read z (done_ran size address count s read x o.before d)))) acts.2

-- ---- all were loaded

pub record AllLoaded (size : Size) (address : ℕ) (values : List ℕ) (s t : Site) : Type 0 where
  pub each : BusLoadedEach size address s values t
  pub ready : SiteReady t

pub rest_loaded : (size : Size) (address count : ℕ) (s : Site) (values : List ℕ) (v : ℕ) (t : Site)
    → Resting size address count s false false values v t → AllLoaded size address (values ++ v ∷ []) s t
rest_loaded size address count s values v t r =
    let u : BusUnit = read_bus false size (element_at size address (length values)) v false in
    record {
      each = loaded_further values v r.first t r.each (loaded_passed size (element_at size address (length values)) v r.first r.mid u t r.one r.at);
      ready = ready_at u r.mid t r.ready (record { idle = refl; fine = refl; no_busyerror = refl }) r.at;
    }

-- ---- the errors are cleared, and the address and the data read

-- where the bus has nothing under way, and no error
pub record Found (at v low high lower upper : ℕ) (mid t : Site) : Type 0 where
  pub now : AtBus (bus_at false B1 at v Fine None) mid t
  pub place : joined low high ≡ at
  pub lower_is : lower ≡ value_of (low_half v)
  pub upper_is : upper ≡ value_of (high_half v)

joined_whole : (at low high : ℕ) → at < 2 ^ 64 → low ≡ value_of (low_half at) → high ≡ value_of (high_half at) → joined low high ≡ at
joined_whole at low high small is_low is_high = omega arith

looked : (a : ℕ) (f : BusUnit → BusUnit) (g : BusUnit → ℕ) (word at v : ℕ) (mid x t : Site) → Reads a f g
    → f (bus_at false B1 at v Fine None) ≡ bus_at false B1 at v Fine None → SiteReady mid → AtBus (bus_at false B1 at v Fine None) mid x
    → ReadAt a word x t → (word ≡ value_of (g (bus_at false B1 at v Fine None))) × AtBus (bus_at false B1 at v Fine None) mid t
looked a f g word at v mid x t reads same ready p r =
    let u : BusUnit = bus_at false B1 at v Fine None in
    let z : AtBus u mid (ran r.one.before x) = at_ran u mid x r.one.before ready refl p in (
      r.value_is ∙ ap value_of (r.one.result_is ∙ shown_at a f g u mid (ran r.one.before x) reads ready z),
      subst (λ (y : Site). AtBus u mid y) (sym r.one.is)
          (at_ran u mid (operated (Read a) (ran r.one.before x)) r.one.behind ready refl
          (at_read a f g u u mid (ran r.one.before x) reads ready same z)),
    )

pub found_at : (u : BusUnit) (at v low high lower upper : ℕ) (mid x t : Site) → SiteReady mid → u.pending ≡ None → at < 2 ^ 64
    → sbcs_written clears_sberror u ≡ bus_at false B1 at v Fine None → AtBus u mid x → SiteActs (found_acts low high lower upper) x t
    → Found at v low high lower upper mid t
found_at u at v low high lower upper mid x t ready idle small clears p acts =
    let w : BusUnit = bus_at false B1 at v Fine None in
    let put : AtBus w mid acts.0 =
    put_bus sbcs_address clears_sberror _ u w mid x acts.0 (to_sbcs clears_sberror) (works_ready mid ready) idle clears refl p (acts.0, acts.1, refl) in
    let one : (high ≡ value_of (high_half at)) × AtBus w mid acts.2.0 =
    looked sbaddress1_address bus_looked (λ b. high_half b.address) high at v mid acts.0 acts.2.0 of_sbaddress1 refl ready put acts.2.1 in
    let two : (low ≡ value_of (low_half at)) × AtBus w mid acts.2.2.0 =
    looked sbaddress0_address bus_looked (λ b. low_half b.address) low at v mid acts.2.0 acts.2.2.0 of_sbaddress0 refl ready one.1 acts.2.2.1 in
    let three : (upper ≡ value_of (high_half v)) × AtBus w mid acts.2.2.2.0 =
    looked sbdata1_address bus_looked (λ b. high_half b.value) upper at v mid acts.2.2.0 acts.2.2.2.0 of_sbdata1 refl ready two.1 acts.2.2.2.1 in
    let four : (lower ≡ value_of (low_half v)) × AtBus w mid acts.2.2.2.2.0 =
    looked sbdata0_address sbdata0_read (λ b. low_half b.value) lower at v mid acts.2.2.2.0 acts.2.2.2.2.0 of_sbdata0 refl ready three.1 acts.2.2.2.2.1 in
    record {
      now = subst (λ (y : Site). AtBus w mid y) (sym acts.2.2.2.2.2) four.1;
      place = joined_whole at low high small two.0 one.0;
      lower_is = four.0;
      upper_is = three.0;
    }

-- ---- how many elements the address tells

pub address_small : (size : Size) (address : ℕ) → next_of size address < 2 ^ 64
address_small size address = omega arith

pub element_small : (size : Size) (address count n : ℕ) → address + count * count_of size ≤ 2 ^ 64 → n < count → element_at size address n < 2 ^ 64
element_small B1 a count n ends below = omega arith
element_small B2 a count n ends below = omega arith
element_small B4 a count n ends below = omega arith
element_small B8 a count n ends below = omega arith

-- one behind this place
count_behind : (size : Size) (address count n i : ℕ) → address + count * count_of size ≤ 2 ^ 64 → count ≤ 512 → n < count → i ≤ count
    → next_of size (element_at size address n) ≡ element_at size address i % 2 ^ 64 → i ≡ n + 1
count_behind B1 a count n i ends few below within is = omega arith
count_behind B2 a count n i ends few below within is = omega arith
count_behind B4 a count n i ends few below within is = omega arith
count_behind B8 a count n i ends few below within is = omega arith

-- at this place
count_at : (size : Size) (address count n i : ℕ) → address + count * count_of size ≤ 2 ^ 64 → count ≤ 512 → n < count → i ≤ count
    → element_at size address n ≡ element_at size address i % 2 ^ 64 → i ≡ n
count_at B1 a count n i ends few below within is = omega arith
count_at B2 a count n i ends few below within is = omega arith
count_at B4 a count n i ends few below within is = omega arith
count_at B8 a count n i ends few below within is = omega arith

same_front : (xs ys us vs : List ℕ) → xs ++ us ≡ ys ++ vs → length xs ≡ length ys → xs ≡ ys
same_front [] [] us vs is long = refl
same_front [] (y ∷ ys) us vs is long = absurd (omega (arith, long))
same_front (x ∷ xs) [] us vs is long = absurd (omega (arith, long))
same_front (x ∷ xs) (y ∷ ys) us vs is long =
    let first : x ≡ y = cc in
    let rest : xs ++ us ≡ ys ++ vs = cc in
    let count : length xs ≡ length ys = omega (arith, long) in
    let more : xs ≡ ys = same_front xs ys us vs rest count in
    ap (λ z. z ∷ xs) first ∙ ap (λ zs. y ∷ zs) more

-- ---- what is handed out

same_handed : (read values rest : List ℕ) (v held : ℕ) (handed : List ℕ) → read ≡ values ++ rest → held ≡ v → length handed ≡ length values + 1
    → Handed read held handed → handed ≡ values ++ v ∷ []
same_handed read values rest v held _ is same long Handed.none = absurd (omega (arith, long))
same_handed read values rest v held _ is same long (Handed.some front more also) =
    let longer : length (front ++ held ∷ []) ≡ length front + 1 = length-append front (held ∷ []) in
    let alike : front ≡ values = same_front front values more rest (sym also ∙ is) (omega (arith, long, longer)) in
    ap (λ n. front ++ n ∷ []) same ∙ ap (λ xs. xs ++ v ∷ []) alike

pub early_loaded : (size : Size) (address count : ℕ) (s : Site) (on_data : Bool) (read values rest handed : List ℕ) (v low high lower upper : ℕ) (x t : Site)
    → address + count * count_of size ≤ 2 ^ 64 → count ≤ 512 → Resting size address count s on_data true values v x → read ≡ values ++ rest
    → SiteActs (found_acts low high lower upper) x t → joined low high ≡ element_at size address (length handed) % 2 ^ 64 → length handed ≤ count
    → Handed read (cut_to size (joined lower upper)) handed → AllLoaded size address handed s t
early_loaded size address count s on_data read values rest handed v low high lower upper x t ends few r is acts place within h =
    let a : ℕ = element_at size address (length values) in
    let f : Found (next_of size a) v low high lower upper r.mid t =
    found_at (read_bus on_data size a v true) (next_of size a) v low high lower upper r.mid x t r.ready refl (address_small size a)
    (run_cleared on_data size (next_of size a) v true) r.at acts in
    let long : length handed ≡ length values + 1 =
    count_behind size address count (length values) (length handed) ends few r.below within (sym f.place ∙ place) in
    let same : handed ≡ values ++ v ∷ [] = same_handed read values rest v (cut_to size (joined lower upper)) handed is
    (value_whole size v lower upper r.small f.lower_is f.upper_is) long h in
    let u : BusUnit = bus_at false B1 (next_of size a) v Fine None in
    record {
      each = subst (λ xs. BusLoadedEach size address s xs t) (sym same)
          (loaded_further values v r.first t r.each (loaded_passed size a v r.first r.mid u t r.one f.now));
      ready = ready_at u r.mid t r.ready (record { idle = refl; fine = refl; no_busyerror = refl }) f.now;
    }

-- ---- memory refused the next

pub record AllRefused (size : Size) (address count : ℕ) (values : List ℕ) (s t : Site) : Type 0 where
  pub below : length values < count
  pub mid : Site
  pub each : BusLoadedEach size address s values mid
  pub refused : BusNotLoadedOne size (element_at size address (length values)) mid t
  pub ready : SiteReady t

same_refused : (size : Size) (read values rest : List ℕ) (v held : ℕ) (handed : List ℕ) → Last size values v → read ≡ values ++ rest
    → (v < 256 ^ count_of size → held ≡ v) → length handed ≡ length values → Handed read held handed → handed ≡ values
same_refused size read _ rest v held _ (Last.none _) is same long Handed.none = refl
same_refused size read _ rest v held _ (Last.none _) is same long (Handed.some front more also) =
    let longer : length (front ++ held ∷ []) ≡ length front + 1 = length-append front (held ∷ []) in absurd (omega (arith, long, longer))
same_refused size read _ rest v held handed (Last.some front _ small) is same long h =
    same_handed read front (v ∷ rest) v held handed (is ∙ append_assoc front (v ∷ []) rest) (same small) (long ∙ length-append front (v ∷ [])) h

pub refused_left : (size : Size) (address count : ℕ) (s : Site) (on_data collided : Bool) (read values rest handed : List ℕ) (v low high lower upper : ℕ)
    (x t : Site) → address + count * count_of size ≤ 2 ^ 64 → count ≤ 512 → Refusing size address count s on_data collided values v x
    → Last size values v → read ≡ values ++ rest → SiteActs (found_acts low high lower upper) x t
    → joined low high ≡ element_at size address (length handed) % 2 ^ 64 → length handed ≤ count
    → Handed read (cut_to size (joined lower upper)) handed → AllRefused size address count handed s t
refused_left size address count s on_data collided read values rest handed v low high lower upper x t ends few r last is acts place within h =
    let a : ℕ = element_at size address (length values) in
    let f : Found a v low high lower upper r.mid t =
    found_at (refused_bus on_data size a v collided) a v low high lower upper r.mid x t r.ready refl
    (element_small size address count (length values) ends r.below) (refused_cleared on_data size a v collided) r.at acts in
    let long : length handed ≡ length values =
    count_at size address count (length values) (length handed) ends few r.below within (sym f.place ∙ place) in
    let same : handed ≡ values = same_refused size read values rest v (cut_to size (joined lower upper)) handed last is
    (λ small. value_whole size v lower upper small f.lower_is f.upper_is) long h in
    let u : BusUnit = bus_at false B1 a v Fine None in
    subst (λ xs. AllRefused size address count xs s t) (sym same) (record {
      below = r.below;
      mid = r.first;
      each = r.each;
      refused = refused_passed size a r.first r.mid u t r.refused f.now;
      ready = ready_at u r.mid t r.ready (record { idle = refl; fine = refl; no_busyerror = refl }) f.now;
    })
