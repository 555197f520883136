-- Where stores by the system bus that are each awaited broke off at a told chip.
use Rattle.std.proofs.Common.{◌≡◌, ◌⊎◌, ◌≤◌, ◌<◌, ◌+◌, ◌*◌, ◌^◌, ℕ, List, [], ◌∷◌, map, true, false, Option, Some, None, refl, sym, subst, inl, inr, arith}
use Rattle.rv_model.specs.declared.size.Size.{Size}
use Rattle.rv_model.specs.declared.size.Size.TheVariants.{B1}
use Rattle.rv_model.specs.Memory.{is_aligned}
use Rattle.rv_model.specs.Size.{count_of}
use Rattle.debug_model.specs.Addresses.{sbaddress0_address, sbaddress1_address, sbcs_address, sbdata1_address}
use Rattle.debug_model.specs.Commands.{high_half, low_half}
use Rattle.debug_model.specs.declared.dmi.DmiFault.{DmiFault}
use Rattle.debug_model.specs.declared.dmi_op.DmiOp.{DmiOp}
use Rattle.debug_model.specs.declared.dmi_op.DmiOp.TheVariants.{Read, Write}
use Rattle.debug_model.specs.declared.sberror.Sberror.TheVariants.{Fine}
use Rattle.debug_model.specs.Deeds.{ran}
use Rattle.debug_model.specs.Dmi.{SiteCut}
use Rattle.debug_model.specs.Dmi.SiteCut.{unperformed, was_performed}
use Rattle.debug_model.specs.Module.{Site, operated}
use Rattle.debug_model.specs.SystemBus.{BusUnit}
use Rattle.debug_model.specs.Told.{Far, SiteReady, site_of}
use Rattle.probe_access.specs.declared.fault.AccessFault.{AccessFault}
use Rattle.probe_access.specs.declared.fault.AccessFault.TheVariants as access_fault
use Rattle.probe_run.specs.Acts.{Act, Attempt, Broke, Tells}
use Rattle.probe_run.specs.Acts.Act.{Put}
use Rattle.probe_run.specs.Acts.Attempt.{Operation}
use Rattle.probe_run.specs.Opening.{clears_sberror}
use Rattle.probe_access.specs.Blocks.{element_at, value_at}
use Rattle.probe_access.specs.BusBlocks.{BusValuesStoreCut, BusStoredValues}
use Rattle.probe_access.specs.BusRuns.{BusEndFailed, BusPollBegun, Starting, bus_error, bus_poll, outside_error}
use Rattle.probe_access.specs.BusRuns.BusEnding.{at_poll, at_clear}
use Rattle.probe_access.specs.BusRuns.BusPollBegun.{polls}
use Rattle.probe_access.specs.BusRuns.Starting.{next}
use Rattle.probe_access.specs.BusStoreStreams.{element_puts, stores_started, storing, upper_at}
use Rattle.probe_access.specs.Cuts.{BusBefore, IfCut, LoadLeaves}
use Rattle.probe_access.specs.Cuts.BusLeftOff.{before_it}
use Rattle.probe_access.specs.Faults.{Among, BrokeIn}
use Rattle.probe_access.proofs.Along.{AtSites, SiteActs, did_sites}
use Rattle.probe_access.proofs.BusCuts.{Nth, nth_of, write_cut}
use Rattle.probe_access.proofs.BusCuts.Nth.{here, there}
use Rattle.probe_access.proofs.BusSites.{AtBus}
use Rattle.probe_access.proofs.BusSites.Writes.{to_sbaddress0, to_sbaddress1, to_sbcs, to_sbdata1}
use Rattle.probe_access.proofs.BusStartCuts.{no_more}
use Rattle.probe_access.proofs.BusStoreAwaits.{WentEnd, polls_went, went_poll, went_ran}
use Rattle.probe_access.proofs.BusStoreAwaitTold.{EndAt, StillAt, WentAt, end_at}
use Rattle.probe_access.proofs.BusStoreCuts.{StoresCut, asked_cut, element_cut, unstored_cut}
use Rattle.probe_access.proofs.BusStoreSites.{Still, Unstored, Went, own_upper}
use Rattle.probe_access.proofs.BusStoreSteps.{Asked, asked_went}
use Rattle.probe_access.proofs.BusStoreStarts.{high_at, low_at, set_at}
use Rattle.probe_access.proofs.BusStoreUnits.{still_bus, store_high, store_low, store_set, store_upper, unstored_bus, unstored_cleared, upper_set}
use Rattle.probe_access.proofs.BusStreamCuts.{turns_alone}
use Rattle.probe_access.proofs.BusStreamOutcomes.{two_not_zero}
use Rattle.probe_access.proofs.BusTold.{at_start, works_ready}
use Rattle.probe_access.proofs.BusUnits.{bus_at, upper_put}
use Rattle.probe_access.proofs.CutSites.{CutAt, CutWithin, cut_at, cut_within}

-- ---- among the writes that start them

either_before : (u x : BusUnit) (s t : Site) → AtBus u s t ⊎ AtBus x s t → BusBefore s t
either_before u x s t (inl a) = turns_alone u s t a
either_before u x s t (inr a) = turns_alone x s t a

started_nth : (size : Size) (address upper : ℕ) (front : List Act) (a v : ℕ) (s mid t : Site) → SiteReady s
    → Nth (stores_started size address upper) front (Put a v) → SiteActs front s mid → SiteCut (Write a v) mid t → BusBefore s t
started_nth size address upper _ _ _ s mid t ready (here _ _) p cut =
    let u : BusUnit = s.unit.bus in
    let x : BusUnit = still_bus size u.address u.value false in
    either_before u x s t
    (write_cut LoadLeaves sbcs_address (storing size) _ u x s mid t (to_sbcs (storing size)) (works_ready s ready) ready.unit.bus.idle
    (store_set size u ready.unit.bus) refl (subst (λ (y : Site). AtBus u s y) (sym p) (at_start s)) cut)
started_nth size address upper _ _ _ s mid t ready (there _ _ _ _ (here _ _)) p cut =
    let u : BusUnit = s.unit.bus in
    let x : BusUnit = still_bus size u.address u.value false in
    let y : BusUnit = still_bus size (upper_put u.address address) u.value false in
    either_before x y s t
    (write_cut LoadLeaves sbaddress1_address (high_half address) _ x y s mid t (to_sbaddress1 (high_half address)) (works_ready s ready) refl
    (store_high size u.address u.value address) refl (set_at size s mid ready p) cut)
started_nth size address upper _ _ _ s mid t ready (there _ _ _ _ (there _ _ _ _ (here _ _))) p cut =
    let u : BusUnit = s.unit.bus in
    let x : BusUnit = still_bus size (upper_put u.address address) u.value false in
    let y : BusUnit = still_bus size address u.value false in
    either_before x y s t
    (write_cut LoadLeaves sbaddress0_address (low_half address) _ x y s mid t (to_sbaddress0 (low_half address)) (works_ready s ready) refl
    (store_low size u.address u.value address) refl (high_at size address s mid ready p) cut)
started_nth size address upper _ _ _ s mid t ready (there _ _ _ _ (there _ _ _ _ (there _ _ _ _ (here _ _)))) p cut =
    let u : BusUnit = s.unit.bus in
    let x : BusUnit = still_bus size address u.value false in
    let y : BusUnit = still_bus size address (upper_set u.value upper) false in
    either_before x y s t
    (write_cut LoadLeaves sbdata1_address upper _ x y s mid t (to_sbdata1 upper) (works_ready s ready) refl
    (store_upper size address u.value upper false) refl (low_at size address s mid ready p) cut)
started_nth size address upper _ a v s mid t ready (there _ _ _ _ (there _ _ _ _ (there _ _ _ _ (there _ _ front _ n)))) p cut =
    absurd (no_more front (Put a v) n)

started_by : (size : Size) (address : ℕ) (values : List ℕ) (count from at upper old_count new_count : ℕ) (s : Site) (g : Far) (old : Tells)
    (told : Option Far) (why : DmiFault)
    (acts : List Act) (failed : Attempt) → old.far ≡ Some g → BusStoredValues size address values s from (site_of g) → SiteReady (site_of g) → from < count
    → Starting (stores_started size at upper) acts failed → Broke acts failed old_count new_count old told why
    → StoresCut size address values count s told
started_by size address values count from at upper old_count new_count s g old told why _ _ is each ready below (next front rest a v parts) b =
    let c : CutAt front (Write a v) g told = cut_at front (Write a v) old_count new_count old told why g is b in
    record {
      far = c.far;
      is = c.is;
      left = record {
        done = from;
        below = below;
        mid = site_of g;
        each = each;
        left = before_it (started_nth size at upper front a v (site_of g) c.mid (site_of c.far) ready
            (nth_of (stores_started size at upper) front rest (Put a v) parts) c.acts_are c.cut);
      };
    }

pub started_cut : (size : Size) (address : ℕ) (values : List ℕ) (count from at upper old_count new_count : ℕ) (s : Site) (g : Far) (old : Tells)
    (told : Option Far)
    (why : DmiFault) → old.far ≡ Some g → BusStoredValues size address values s from (site_of g) → SiteReady (site_of g) → from < count
    → BrokeIn (Starting (stores_started size at upper)) old_count new_count old told why → StoresCut size address values count s told
started_cut size address values count from at upper old_count new_count s g old told why is each ready below b =
    started_by size address values count from at upper old_count new_count s g old told why b.acts b.failed is each ready below b.begun b.broke

-- ---- at an element

asking_at : (size : Size) (address : ℕ) (values : List ℕ) (count n : ℕ) (s : Site) (acts : List Act) (op : DmiOp) (x mid t : Site)
    → is_aligned address size ≡ true → address + count * count_of size ≤ 2 ^ 64 → n < count → Still size address values s false n (upper_at values n) x
    → Starting (element_puts (upper_at values n) (value_at values n)) acts (Operation op) → SiteActs acts x mid → SiteCut op mid t
    → BusValuesStoreCut size address values count s t
asking_at size address values count n s _ _ x mid t aligned ends below r (next front rest a v parts) p cut =
    element_cut size address values count s n front a v x mid t aligned ends below
    (nth_of (element_puts (upper_at values n) (value_at values n)) front rest (Put a v) parts) (Asked.still r) p cut

pub asking_cut : (size : Size) (address : ℕ) (values : List ℕ) (count n old_count new_count : ℕ) (s : Site) (mid : Tells) (told : Option Far)
    (why : DmiFault) → is_aligned address size ≡ true → address + count * count_of size ≤ 2 ^ 64 → n < count → StillAt size address values n s mid.far
    → BrokeIn (Among (Starting (element_puts (upper_at values n) (value_at values n)))) old_count new_count mid told why
    → StoresCut size address values count s told
asking_cut size address values count n old_count new_count s mid told why aligned ends below r b =
    let starting : List Act → Attempt → Type 0 = Starting (element_puts (upper_at values n) (value_at values n)) in
    let c : CutWithin starting r.far told = cut_within starting old_count new_count mid told why r.far r.is b in
    record {
      far = c.cut.far;
      is = c.cut.is;
      left = asking_at size address values count n s c.acts c.op (site_of r.far) c.cut.mid (site_of c.cut.far) aligned ends below r.still c.begun
          c.cut.acts_are c.cut.cut;
    }

-- ---- while it is awaited

went_cut : (size : Size) (address : ℕ) (values : List ℕ) (count n : ℕ) (s t : Site) → n < count → Went size address values s false n t
    → BusValuesStoreCut size address values count s t
went_cut size address values count n s t below w =
    asked_cut size address values count s (n + 1) (own_upper values n) t (omega (arith, below)) (omega (arith, below))
    (asked_went size address values count s (n + 1) (own_upper values n) n t (omega (arith, below)) refl refl w)

poll_site : (size : Size) (address : ℕ) (values : List ℕ) (count n : ℕ) (s x t : Site) → n < count → Went size address values s false n x
    → SiteCut (Read sbcs_address) x t
    → BusValuesStoreCut size address values count s t
poll_site size address values count n s x t below w (unperformed d) =
    went_cut size address values count n s t below
    (subst (λ (y : Site). Went size address values s false n y) (sym d.is) (went_ran size address values s n x d.deeds w))
poll_site size address values count n s x t below w (was_performed result o) =
    let z : Site = ran o.before x in
    went_cut size address values count n s t below
    (subst (λ (y : Site). Went size address values s false n y) (sym o.is)
    (went_ran size address values s n (operated (Read sbcs_address) z) o.behind
    (went_poll size address values s n z (went_ran size address values s n x o.before w))))

poll_by : (size : Size) (address : ℕ) (values : List ℕ) (count n old_count new_count : ℕ) (s : Site) (asked : Tells) (told : Option Far) (why : DmiFault)
    (acts : List Act)
    (failed : Attempt) → n < count → WentAt size address values n s asked.far → BusPollBegun acts failed
    → Broke acts failed old_count new_count asked told why → StoresCut size address values count s told
poll_by size address values count n old_count new_count s asked told why _ _ below w (polls words vain) b =
    let c : CutAt (map bus_poll words) (Read sbcs_address) w.far told =
    cut_at (map bus_poll words) (Read sbcs_address) old_count new_count asked told why w.far w.is b in
    record {
      far = c.far;
      is = c.is;
      left = poll_site size address values count n s c.mid (site_of c.far) below
          (polls_went size address values s n words (site_of w.far) c.mid w.went c.acts_are) c.cut;
    }

either_unstored : (size : Size) (address : ℕ) (values : List ℕ) (count n : ℕ) (u x : BusUnit) (s t : Site) → n < count
    → (r : Unstored size address values s false n t)
    → (y : Site) → AtBus u r.mid y ⊎ AtBus x r.mid y → BusValuesStoreCut size address values count s y
either_unstored size address values count n u x s t below r y (inl a) =
    unstored_cut size address values count n u s r.first r.mid y below r.each r.refused a
either_unstored size address values count n u x s t below r y (inr a) =
    unstored_cut size address values count n x s r.first r.mid y below r.each r.refused a

clear_site : (size : Size) (address : ℕ) (values : List ℕ) (count n last : ℕ) (s x t : Site) → n < count → bus_error last ≡ outside_error
    → WentEnd size address values s n last x → SiteCut (Write sbcs_address clears_sberror) x t → BusValuesStoreCut size address values count s t
clear_site size address values count n last s x t below outside (WentEnd.stored r error collided) cut =
    absurd (two_not_zero (bus_error last) outside error)
clear_site size address values count n last s x t below outside (WentEnd.refused r error) cut =
    let a : ℕ = element_at size address n in
    let u : BusUnit = unstored_bus size a r.held false in
    let y : BusUnit = bus_at false B1 a r.held Fine None in
    either_unstored size address values count n u y s x below r t
    (write_cut LoadLeaves sbcs_address clears_sberror _ u y r.mid x t (to_sbcs clears_sberror) (works_ready r.mid r.ready) refl
    (unstored_cleared size a r.held false) refl r.at cut)

clear_nth : (size : Size) (address : ℕ) (values : List ℕ) (count n last old_count new_count : ℕ) (s : Site) (polled : Tells) (told : Option Far)
    (why : DmiFault)
    (front : List Act) (a v : ℕ) → n < count → bus_error last ≡ outside_error → EndAt size address values n last s polled.far
    → Nth (Put sbcs_address clears_sberror ∷ []) front (Put a v) → Broke front (Operation (Write a v)) old_count new_count polled told why
    → StoresCut size address values count s told
clear_nth size address values count n last old_count new_count s polled told why _ _ _ below outside e (here _ _) b =
    let c : CutAt [] (Write sbcs_address clears_sberror) e.far told =
    cut_at [] (Write sbcs_address clears_sberror) old_count new_count polled told why e.far e.is b in
    record {
      far = c.far;
      is = c.is;
      left = clear_site size address values count n last s c.mid (site_of c.far) below outside
          (subst (λ (y : Site). WentEnd size address values s n last y) (sym c.acts_are) e.end) c.cut;
    }
clear_nth size address values count n last old_count new_count s polled told why _ a v below outside e (there _ _ front _ k) b =
    absurd (no_more front (Put a v) k)

clear_by : (size : Size) (address : ℕ) (values : List ℕ) (count n last old_count new_count : ℕ) (s : Site) (polled : Tells) (told : Option Far) (why : DmiFault)
    (acts : List Act) (failed : Attempt) → n < count → bus_error last ≡ outside_error → EndAt size address values n last s polled.far
    → Starting (Put sbcs_address clears_sberror ∷ []) acts failed → Broke acts failed old_count new_count polled told why
    → StoresCut size address values count s told
clear_by size address values count n last old_count new_count s polled told why _ _ below outside e (next front rest a v parts) b =
    clear_nth size address values count n last old_count new_count s polled told why front a v below outside e
    (nth_of (Put sbcs_address clears_sberror ∷ []) front rest (Put a v) parts) b

pub ending_cut : (size : Size) (address : ℕ) (values : List ℕ) (count n at old_count new_count : ℕ) (s : Site) (asked new : Tells) (e : AccessFault) → n < count
    → WentAt size address values n s asked.far → BusEndFailed at old_count new_count asked new e → IfCut (StoresCut size address values count s new.far) e
ending_cut size address values count n at old_count new_count s asked new (access_fault.Dmi why) below w (at_poll b) =
    poll_by size address values count n old_count new_count s asked new.far why b.acts b.failed below w b.begun b.broke
ending_cut size address values count n at old_count new_count s asked new (access_fault.Dmi why) below w (at_clear last mid polled outside b) =
    clear_by size address values count n last old_count new_count s mid new.far why b.acts b.failed below outside
    (end_at size address values n last s asked mid w polled) b.begun b.broke
ending_cut size address values count n at old_count new_count s asked new (access_fault.Memory place) below w f = tt
ending_cut size address values count n at old_count new_count s asked new (access_fault.Register number) below w f = tt
ending_cut size address values count n at old_count new_count s asked new access_fault.StillBusy below w f =
    let q : AtSites (map bus_poll f.words) w.far new.far = did_sites asked _ new w.far f.did w.is in
    record {
      far = q.far;
      is = q.is;
      left = went_cut size address values count n s (site_of q.far) below
          (polls_went size address values s n f.words (site_of w.far) (site_of q.far) w.went q.acts_are);
    }
ending_cut size address values count n at old_count new_count s asked new (access_fault.Run why) below w f = tt
ending_cut size address values count n at old_count new_count s asked new (access_fault.Odd shown) below w f = tt
