-- Where loads by the system bus that are each awaited broke off at a told chip: those that were read are handed out.
use Rattle.std.proofs.Common.{◌≡◌, ◌⊎◌, ◌≤◌, ◌<◌, ◌+◌, ◌*◌, ◌++◌, ◌^◌, ℕ, List, [], ◌∷◌, length, map, Bool, true, false, Option, Some, None, refl, sym, subst, inl, inr, append-nil, append_assoc, arith}
use Rattle.rv_model.specs.declared.size.Size.{Size}
use Rattle.rv_model.specs.declared.size.Size.TheVariants.{B1}
use Rattle.rv_model.specs.Memory.{is_aligned}
use Rattle.rv_model.specs.Size.{count_of}
use Rattle.debug_model.specs.Addresses.{sbaddress0_address, sbaddress1_address, sbcs_address, sbdata0_address, sbdata1_address}
use Rattle.debug_model.specs.Commands.{high_half, low_half}
use Rattle.debug_model.specs.declared.dmi.DmiFault.{DmiFault}
use Rattle.debug_model.specs.declared.dmi_op.DmiOp.{DmiOp}
use Rattle.debug_model.specs.declared.dmi_op.DmiOp.TheVariants.{Read, Write}
use Rattle.debug_model.specs.declared.sberror.Sberror.TheVariants.{Fine}
use Rattle.debug_model.specs.Course.{OneOperation}
use Rattle.debug_model.specs.Deeds.{ran}
use Rattle.debug_model.specs.Dmi.{SiteCut, value_of}
use Rattle.debug_model.specs.Dmi.SiteCut.{unperformed, was_performed}
use Rattle.debug_model.specs.Module.{Site, operated}
use Rattle.debug_model.specs.SystemBus.{BusUnit}
use Rattle.debug_model.specs.Told.{Far, SiteReady, site_of}
use Rattle.probe_access.specs.declared.fault.AccessFault.{AccessFault}
use Rattle.probe_access.specs.declared.fault.AccessFault.TheVariants as access_fault
use Rattle.probe_run.specs.Acts.{Act, Attempt, Broke, Tells}
use Rattle.probe_run.specs.Acts.Act.{Put}
use Rattle.probe_run.specs.Acts.Attempt.{Operation}
use Rattle.probe_run.specs.Opening.{clears_sberror}
use Rattle.probe_access.specs.Blocks.{element_at}
use Rattle.probe_access.specs.BusBlocks.{BusBlockLoadCut, BusLoadedEach, BusLoadedOne}
use Rattle.probe_access.specs.BusRuns.{BusEndFailed, BusPollBegun, Starting, bus_error, bus_poll, outside_error}
use Rattle.probe_access.specs.BusRuns.BusEnding.{at_poll, at_clear}
use Rattle.probe_access.specs.BusRuns.BusPollBegun.{polls}
use Rattle.probe_access.specs.BusRuns.Starting.{next}
use Rattle.probe_access.specs.BusStreams.{DataReads, ReadingData, run_started, running}
use Rattle.probe_access.specs.Cuts.{BusLeftOff, IfCut, LoadLeaves}
use Rattle.probe_access.specs.Faults.{Among, BrokeIn}
use Rattle.probe_access.proofs.Along.{AtSites, SiteActs, did_sites}
use Rattle.probe_access.proofs.BusCuts.{Nth, nth_of, write_cut}
use Rattle.probe_access.proofs.BusCuts.Nth.{here, there}
use Rattle.probe_access.proofs.BusLoadAwaits.{LoadEnd, lower_rests, lower_starts, polls_stand, stands_poll, stands_ran, upper_rests}
use Rattle.probe_access.proofs.BusLoadAwaitTold.{EndAt, RestsAt, StandsAt, StopsAt, end_at}
use Rattle.probe_access.proofs.BusSites.{AtBus, put_bus}
use Rattle.probe_access.proofs.BusSites.Writes.{to_sbaddress0, to_sbaddress1, to_sbcs}
use Rattle.probe_access.proofs.BusStages.{BusStage, start_bus}
use Rattle.probe_access.proofs.BusStartCuts.{no_more}
use Rattle.probe_access.proofs.BusStreamCuts.{bus_before, loaded_behind, refused_behind}
use Rattle.probe_access.proofs.BusStreamOutcomes.{two_not_zero}
use Rattle.probe_access.proofs.BusStreamSites.{Refusing, Resting, Stands, at_ran, loaded_passed, refused_passed, resting_ran, stage_stands}
use Rattle.probe_access.proofs.BusStreamSites.Stands.{waiting as still_waiting, resting as was_loaded, refusing as was_refused}
use Rattle.probe_access.proofs.BusStreamSteps.{start_set}
use Rattle.probe_access.proofs.BusStreamTold.{element_aligned}
use Rattle.probe_access.proofs.BusStreamUnits.{next_of, read_bus, reading, refused_bus, refused_cleared, run_bus, run_high, run_low, run_pends, run_set, run_stops}
use Rattle.probe_access.proofs.BusTold.{at_start, works_ready}
use Rattle.probe_access.proofs.BusUnits.{bus_at, upper_put}
use Rattle.probe_access.proofs.CutSites.{CutAt, CutWithin, cut_at, cut_within}

pub record LoadsCut (size : Size) (address count : ℕ) (values : List ℕ) (s : Site) (told : Option Far) : Type 0 where
  pub far : Far
  pub is : told ≡ Some far
  pub left : BusBlockLoadCut size address count values s (site_of far)

-- ---- what each place leaves

-- none was loaded that was not handed out
handed_out : (size : Size) (address count : ℕ) (values : List ℕ) (s m t : Site) → length values < count → BusLoadedEach size address s values m
    → BusLeftOff LoadLeaves m t → BusBlockLoadCut size address count values s t
handed_out size address count values s m t below each left = record {
  more = [];
  below = subst (λ xs. length xs < count) (sym (append-nil values)) below;
  mid = m;
  each = subst (λ xs. BusLoadedEach size address s xs m) (sym (append-nil values)) each;
  left = left;
}

loaded_cut : (size : Size) (address count : ℕ) (values : List ℕ) (v : ℕ) (u : BusUnit) (s first mid t : Site) → length values < count
    → BusLoadedEach size address s values first → BusLoadedOne size (element_at size address (length values)) v first mid → AtBus u mid t
    → BusBlockLoadCut size address count values s t
loaded_cut size address count values v u s first mid t below each one at =
    let a : ℕ = element_at size address (length values) in
    handed_out size address count values s first t below each (loaded_behind size a v first t (loaded_passed size a v first mid u t one at))

rests_cut : (size : Size) (address count : ℕ) (s : Site) (on_data : Bool) (values : List ℕ) (v : ℕ) (t : Site)
    → Resting size address count s on_data false values v t → BusBlockLoadCut size address count values s t
rests_cut size address count s on_data values v t r =
    loaded_cut size address count values v (read_bus on_data size (element_at size address (length values)) v false) s r.first r.mid t r.below r.each r.one r.at

refusing_cut : (size : Size) (address count : ℕ) (s : Site) (values : List ℕ) (value : ℕ) (u : BusUnit) (x t : Site)
    → (r : Refusing size address count s true false values value x) → AtBus u r.mid t → BusBlockLoadCut size address count values s t
refusing_cut size address count s values value u x t r at =
    let a : ℕ = element_at size address (length values) in
    handed_out size address count values s r.first t r.below r.each
    (refused_behind size a r.first t (refused_passed size a r.first r.mid u t r.refused at))

stands_cut : (size : Size) (address count : ℕ) (s : Site) (values : List ℕ) (value : ℕ) (t : Site)
    → Stands size address count s true false values value t → BusBlockLoadCut size address count values s t
stands_cut size address count s values value t (still_waiting w) =
    handed_out size address count values s w.mid t w.below w.each
    (bus_before (reading true size (element_at size address (length values)) value false) w.mid t w.at)
stands_cut size address count s values value t (was_loaded v r) = rests_cut size address count s true values v t r
stands_cut size address count s values value t (was_refused r) =
    refusing_cut size address count s values value (refused_bus true size (element_at size address (length values)) value false) t t r r.at

-- one more was read that is not handed out
more_cut : (size : Size) (address count : ℕ) (s : Site) (values : List ℕ) (v value : ℕ) (t : Site)
    → Stands size address count s true false (values ++ v ∷ []) value t → BusBlockLoadCut size address count values s t
more_cut size address count s values v value t w =
    let c : BusBlockLoadCut size address count (values ++ v ∷ []) s t = stands_cut size address count s (values ++ v ∷ []) value t w in
    record {
      more = (v ∷ []) ++ c.more;
      below = subst (λ xs. length xs < count) (append_assoc values (v ∷ []) c.more) c.below;
      mid = c.mid;
      each = subst (λ xs. BusLoadedEach size address s xs c.mid) (append_assoc values (v ∷ []) c.more) c.each;
      left = c.left;
    }

-- ---- among the writes that start them

either_none : (size : Size) (address count : ℕ) (was : List ℕ) (u x : BusUnit) (s g t : Site) → length was < count → BusLoadedEach size address s was g
    → AtBus u g t ⊎ AtBus x g t → BusBlockLoadCut size address count was s t
either_none size address count was u x s g t below each (inl a) = handed_out size address count was s g t below each (bus_before u g t a)
either_none size address count was u x s g t below each (inr a) = handed_out size address count was s g t below each (bus_before x g t a)

low_cut : (size : Size) (address count : ℕ) (was : List ℕ) (s g x t : Site) → SiteReady g → is_aligned address size ≡ true → length was < count
    → BusLoadedEach size address s was g
    → AtBus (run_bus true size (upper_put g.unit.bus.address (element_at size address (length was))) g.unit.bus.value Fine false None) g x
    → SiteCut (Write sbaddress0_address (low_half (element_at size address (length was)))) x t → BusBlockLoadCut size address count was s t
low_cut size address count was s g x t ready aligned below each at (unperformed d) =
    let u : BusUnit = run_bus true size (upper_put g.unit.bus.address (element_at size address (length was))) g.unit.bus.value Fine false None in
    handed_out size address count was s g t below each
    (bus_before u g t (subst (λ (y : Site). AtBus u g y) (sym d.is) (at_ran u g x d.deeds ready refl at)))
low_cut size address count was s g x t ready aligned below each at (was_performed result o) =
    let u : BusUnit = g.unit.bus in
    let a : ℕ = element_at size address (length was) in
    let stage : BusStage (reading true size a u.value false) g t =
    start_bus sbaddress0_address (low_half a) _ (run_bus true size (upper_put u.address a) u.value Fine false None)
    (reading true size a u.value false) g x t (to_sbaddress0 (low_half a)) (works_ready g ready) refl
    (run_low size u.address u.value a (element_aligned size address (length was) aligned)) (run_pends true size a u.value false) at
    (t, record { before = o.before; behind = o.behind; is = o.is; result_is = refl }, refl) in
    stands_cut size address count s was u.value t (stage_stands size address count s true false was u.value g t each ready below stage)

start_nth : (size : Size) (address count old_count new_count : ℕ) (was : List ℕ) (s : Site) (g : Far) (old : Tells) (told : Option Far) (why : DmiFault)
    (front : List Act) (a v : ℕ) → old.far ≡ Some g → BusLoadedEach size address s was (site_of g) → SiteReady (site_of g) → is_aligned address size ≡ true
    → length was < count → Nth (run_started size (element_at size address (length was))) front (Put a v)
    → Broke front (Operation (Write a v)) old_count new_count old told why → LoadsCut size address count was s told
start_nth size address count old_count new_count was s g old told why _ _ _ is each ready aligned below (here _ _) b =
    let z : Site = site_of g in
    let u : BusUnit = z.unit.bus in
    let x : BusUnit = run_bus true size u.address u.value Fine false None in
    let c : CutAt [] (Write sbcs_address (running true size)) g told =
    cut_at [] (Write sbcs_address (running true size)) old_count new_count old told why g is b in
    record {
      far = c.far;
      is = c.is;
      left = either_none size address count was u x s z (site_of c.far) below each
          (write_cut LoadLeaves sbcs_address (running true size) _ u x z c.mid (site_of c.far) (to_sbcs (running true size)) (works_ready z ready)
          ready.unit.bus.idle (run_set size u ready.unit.bus) refl (subst (λ (y : Site). AtBus u z y) (sym c.acts_are) (at_start z)) c.cut);
    }
start_nth size address count old_count new_count was s g old told why _ _ _ is each ready aligned below (there _ _ _ _ (here _ _)) b =
    let z : Site = site_of g in
    let e : ℕ = element_at size address (length was) in
    let u : BusUnit = z.unit.bus in
    let x : BusUnit = run_bus true size u.address u.value Fine false None in
    let y : BusUnit = run_bus true size (upper_put u.address e) u.value Fine false None in
    let front : List Act = Put sbcs_address (running true size) ∷ [] in
    let c : CutAt front (Write sbaddress1_address (high_half e)) g told =
    cut_at front (Write sbaddress1_address (high_half e)) old_count new_count old told why g is b in
    record {
      far = c.far;
      is = c.is;
      left = either_none size address count was x y s z (site_of c.far) below each
          (write_cut LoadLeaves sbaddress1_address (high_half e) _ x y z c.mid (site_of c.far) (to_sbaddress1 (high_half e)) (works_ready z ready)
          refl (run_high size u.address u.value e) refl
          (put_bus sbcs_address (running true size) _ u x z z c.mid (to_sbcs (running true size)) (works_ready z ready) ready.unit.bus.idle
          (run_set size u ready.unit.bus) refl (at_start z) c.acts_are) c.cut);
    }
start_nth size address count old_count new_count was s g old told why _ _ _ is each ready aligned below (there _ _ _ _ (there _ _ _ _ (here _ _))) b =
    let z : Site = site_of g in
    let e : ℕ = element_at size address (length was) in
    let front : List Act = Put sbcs_address (running true size) ∷ Put sbaddress1_address (high_half e) ∷ [] in
    let c : CutAt front (Write sbaddress0_address (low_half e)) g told =
    cut_at front (Write sbaddress0_address (low_half e)) old_count new_count old told why g is b in
    record {
      far = c.far;
      is = c.is;
      left = low_cut size address count was s z c.mid (site_of c.far) ready aligned below each (start_set size e z c.mid ready c.acts_are) c.cut;
    }
start_nth size address count old_count new_count was s g old told why _ a v is each ready aligned below
    (there _ _ _ _ (there _ _ _ _ (there _ _ front _ n))) b =
    absurd (no_more front (Put a v) n)

start_by : (size : Size) (address count old_count new_count : ℕ) (was : List ℕ) (s : Site) (g : Far) (old : Tells) (told : Option Far) (why : DmiFault)
    (acts : List Act) (failed : Attempt) → old.far ≡ Some g → BusLoadedEach size address s was (site_of g) → SiteReady (site_of g)
    → is_aligned address size ≡ true → length was < count → Starting (run_started size (element_at size address (length was))) acts failed
    → Broke acts failed old_count new_count old told why → LoadsCut size address count was s told
start_by size address count old_count new_count was s g old told why _ _ is each ready aligned below (next front rest a v parts) b =
    start_nth size address count old_count new_count was s g old told why front a v is each ready aligned below
    (nth_of (run_started size (element_at size address (length was))) front rest (Put a v) parts) b

pub start_cut : (size : Size) (address count old_count new_count : ℕ) (was : List ℕ) (s : Site) (g : Far) (old : Tells) (told : Option Far)
    (why : DmiFault) → old.far ≡ Some g → BusLoadedEach size address s was (site_of g) → SiteReady (site_of g) → is_aligned address size ≡ true
    → length was < count → BrokeIn (Starting (run_started size (element_at size address (length was)))) old_count new_count old told why
    → LoadsCut size address count was s told
start_cut size address count old_count new_count was s g old told why is each ready aligned below b =
    start_by size address count old_count new_count was s g old told why b.acts b.failed is each ready aligned below b.begun b.broke

-- ---- while one is awaited

poll_site : (size : Size) (address count : ℕ) (s : Site) (values : List ℕ) (value : ℕ) (x t : Site) → Stands size address count s true false values value x
    → SiteCut (Read sbcs_address) x t → BusBlockLoadCut size address count values s t
poll_site size address count s values value x t w (unperformed d) =
    stands_cut size address count s values value t
    (subst (λ (y : Site). Stands size address count s true false values value y) (sym d.is) (stands_ran size address count s values value x d.deeds w))
poll_site size address count s values value x t w (was_performed result o) =
    let z : Site = ran o.before x in
    stands_cut size address count s values value t
    (subst (λ (y : Site). Stands size address count s true false values value y) (sym o.is)
    (stands_ran size address count s values value (operated (Read sbcs_address) z) o.behind
    (stands_poll size address count s values value z (stands_ran size address count s values value x o.before w))))

poll_by : (size : Size) (address count old_count new_count : ℕ) (s : Site) (values : List ℕ) (mid : Tells) (told : Option Far) (why : DmiFault)
    (acts : List Act) (failed : Attempt) → StandsAt size address count s values mid.far → BusPollBegun acts failed
    → Broke acts failed old_count new_count mid told why → LoadsCut size address count values s told
poll_by size address count old_count new_count s values mid told why _ _ w (polls words vain) b =
    let c : CutAt (map bus_poll words) (Read sbcs_address) w.far told =
    cut_at (map bus_poll words) (Read sbcs_address) old_count new_count mid told why w.far w.is b in
    record {
      far = c.far;
      is = c.is;
      left = poll_site size address count s values w.value c.mid (site_of c.far)
          (polls_stand size address count s values w.value words (site_of w.far) c.mid w.stands c.acts_are) c.cut;
    }

either_refused : (size : Size) (address count : ℕ) (s : Site) (values : List ℕ) (value : ℕ) (u y : BusUnit) (x t : Site)
    → (r : Refusing size address count s true false values value x) → AtBus u r.mid t ⊎ AtBus y r.mid t → BusBlockLoadCut size address count values s t
either_refused size address count s values value u y x t r (inl a) = refusing_cut size address count s values value u x t r a
either_refused size address count s values value u y x t r (inr a) = refusing_cut size address count s values value y x t r a

clear_site : (size : Size) (address count last : ℕ) (s : Site) (values : List ℕ) (value : ℕ) (x t : Site) → bus_error last ≡ outside_error
    → LoadEnd size address count s values value last x → SiteCut (Write sbcs_address clears_sberror) x t → BusBlockLoadCut size address count values s t
clear_site size address count last s values value x t outside (LoadEnd.loaded v r error collided) cut =
    absurd (two_not_zero (bus_error last) outside error)
clear_site size address count last s values value x t outside (LoadEnd.refused r error) cut =
    let a : ℕ = element_at size address (length values) in
    let u : BusUnit = refused_bus true size a value false in
    let y : BusUnit = bus_at false B1 a value Fine None in
    either_refused size address count s values value u y x t r
    (write_cut LoadLeaves sbcs_address clears_sberror _ u y r.mid x t (to_sbcs clears_sberror) (works_ready r.mid r.ready) refl
    (refused_cleared true size a value false) refl r.at cut)

clear_nth : (size : Size) (address count last old_count new_count : ℕ) (s : Site) (values : List ℕ) (polled : Tells) (told : Option Far) (why : DmiFault)
    (front : List Act) (a v : ℕ) → bus_error last ≡ outside_error → EndAt size address count last s values polled.far
    → Nth (Put sbcs_address clears_sberror ∷ []) front (Put a v) → Broke front (Operation (Write a v)) old_count new_count polled told why
    → LoadsCut size address count values s told
clear_nth size address count last old_count new_count s values polled told why _ _ _ outside e (here _ _) b =
    let c : CutAt [] (Write sbcs_address clears_sberror) e.far told =
    cut_at [] (Write sbcs_address clears_sberror) old_count new_count polled told why e.far e.is b in
    record {
      far = c.far;
      is = c.is;
      left = clear_site size address count last s values e.value c.mid (site_of c.far) outside
          (subst (λ (y : Site). LoadEnd size address count s values e.value last y) (sym c.acts_are) e.end) c.cut;
    }
clear_nth size address count last old_count new_count s values polled told why _ a v outside e (there _ _ front _ k) b = absurd (no_more front (Put a v) k)

clear_by : (size : Size) (address count last old_count new_count : ℕ) (s : Site) (values : List ℕ) (polled : Tells) (told : Option Far) (why : DmiFault)
    (acts : List Act) (failed : Attempt) → bus_error last ≡ outside_error → EndAt size address count last s values polled.far
    → Starting (Put sbcs_address clears_sberror ∷ []) acts failed → Broke acts failed old_count new_count polled told why
    → LoadsCut size address count values s told
clear_by size address count last old_count new_count s values polled told why _ _ outside e (next front rest a v parts) b =
    clear_nth size address count last old_count new_count s values polled told why front a v outside e
    (nth_of (Put sbcs_address clears_sberror ∷ []) front rest (Put a v) parts) b

pub ending_cut : (size : Size) (address count at old_count new_count : ℕ) (s : Site) (values : List ℕ) (mid new : Tells) (e : AccessFault)
    → StandsAt size address count s values mid.far → BusEndFailed at old_count new_count mid new e → IfCut (LoadsCut size address count values s new.far) e
ending_cut size address count at old_count new_count s values mid new (access_fault.Dmi why) w (at_poll b) =
    poll_by size address count old_count new_count s values mid new.far why b.acts b.failed w b.begun b.broke
ending_cut size address count at old_count new_count s values mid new (access_fault.Dmi why) w (at_clear last polled shown outside b) =
    clear_by size address count last old_count new_count s values polled new.far why b.acts b.failed outside
    (end_at size address count last s values mid polled w shown) b.begun b.broke
ending_cut size address count at old_count new_count s values mid new (access_fault.Memory place) w f = tt
ending_cut size address count at old_count new_count s values mid new (access_fault.Register number) w f = tt
ending_cut size address count at old_count new_count s values mid new access_fault.StillBusy w f =
    let q : AtSites (map bus_poll f.words) w.far new.far = did_sites mid _ new w.far f.did w.is in
    record {
      far = q.far;
      is = q.is;
      left = stands_cut size address count s values w.value (site_of q.far)
          (polls_stand size address count s values w.value f.words (site_of w.far) (site_of q.far) w.stands q.acts_are);
    }
ending_cut size address count at old_count new_count s values mid new (access_fault.Run why) w f = tt
ending_cut size address count at old_count new_count s values mid new (access_fault.Odd shown) w f = tt

-- ---- while its words are read

uppers_rest : (size : Size) (address count : ℕ) (s : Site) (on_data : Bool) (values : List ℕ) (v n : ℕ) (acts : List Act) (x t : Site) → n ≡ 0
    → DataReads n acts → Resting size address count s on_data false values v x → SiteActs acts x t → Resting size address count s on_data false values v t
uppers_rest size address count s on_data values v _ _ x t is DataReads.none r p =
    subst (λ (y : Site). Resting size address count s on_data false values v y) (sym p) r
uppers_rest size address count s on_data values v _ _ x t is (DataReads.lower n value acts d) r p = absurd (omega (arith, is))
uppers_rest size address count s on_data values v _ _ x t is (DataReads.upper n value acts d) r p =
    uppers_rest size address count s on_data values v n acts p.0 t is d (upper_rests size address count s on_data values v value x p.0 r p.1) p.2

still_rests : (size : Size) (address count : ℕ) (s : Site) (on_data : Bool) (values : List ℕ) (v : ℕ) (x t : Site)
    → Resting size address count s on_data false values v x → (op : DmiOp) → (cut : SiteCut op x t) → op ≡ Read sbdata1_address
    → Resting size address count s on_data false values v t
still_rests size address count s on_data values v x t r op (unperformed d) is =
    subst (λ (y : Site). Resting size address count s on_data false values v y) (sym d.is) (resting_ran size address count s on_data false values v x d.deeds r)
still_rests size address count s on_data values v x t r op (was_performed result o) is =
    upper_rests size address count s on_data values v (value_of result) x t r
    (record { result = result; one = subst (λ w. OneOperation w result x t) is o; value_is = refl })

lower_site : (size : Size) (address count : ℕ) (s : Site) (values : List ℕ) (v : ℕ) (x t : Site) → is_aligned address size ≡ true
    → address + count * count_of size ≤ 2 ^ 64 → length values + 1 < count → Resting size address count s true false values v x
    → SiteCut (Read sbdata0_address) x t → BusBlockLoadCut size address count values s t
lower_site size address count s values v x t aligned ends below r (unperformed d) =
    rests_cut size address count s true values v t
    (subst (λ (y : Site). Resting size address count s true false values v y) (sym d.is) (resting_ran size address count s true false values v x d.deeds r))
lower_site size address count s values v x t aligned ends below r (was_performed result o) =
    more_cut size address count s values v v t
    (lower_starts size address count s values v (value_of result) x t aligned ends below r (record { result = result; one = o; value_is = refl }))

words_site : (size : Size) (address count : ℕ) (s : Site) (values : List ℕ) (v : ℕ) (acts : List Act) (op : DmiOp) (x mid t : Site)
    → is_aligned address size ≡ true → address + count * count_of size ≤ 2 ^ 64 → length values + 1 < count → ReadingData 1 acts (Operation op)
    → Resting size address count s true false values v x → SiteActs acts x mid → SiteCut op mid t → BusBlockLoadCut size address count values s t
words_site size address count s values v acts _ x mid t aligned ends below (ReadingData.lower n _ d few) r p cut =
    lower_site size address count s values v mid t aligned ends below
    (uppers_rest size address count s true values v n acts x mid (omega (arith, few)) d r p) cut
words_site size address count s values v acts op x mid t aligned ends below (ReadingData.upper n _ d few) r p cut =
    rests_cut size address count s true values v t
    (still_rests size address count s true values v mid t (uppers_rest size address count s true values v n acts x mid (omega (arith, few)) d r p) op cut
    refl)

pub words_cut : (size : Size) (address count old_count new_count : ℕ) (s : Site) (values : List ℕ) (ended : Tells) (told : Option Far) (why : DmiFault)
    → is_aligned address size ≡ true → address + count * count_of size ≤ 2 ^ 64 → length values + 1 < count → RestsAt size address count s values ended.far
    → BrokeIn (Among (ReadingData 1)) old_count new_count ended told why → LoadsCut size address count values s told
words_cut size address count old_count new_count s values ended told why aligned ends below r b =
    let c : CutWithin (ReadingData 1) r.far told = cut_within (ReadingData 1) old_count new_count ended told why r.far r.is b in
    record {
      far = c.cut.far;
      is = c.cut.is;
      left = words_site size address count s values r.value c.acts c.op (site_of r.far) c.cut.mid (site_of c.cut.far) aligned ends below c.begun r.rests
          c.cut.acts_are c.cut.cut;
    }

-- ---- at the last one

either_rests : (size : Size) (address count : ℕ) (s : Site) (values : List ℕ) (v : ℕ) (u y : BusUnit) (x t : Site)
    → (r : Resting size address count s true false values v x) → AtBus u r.mid t ⊎ AtBus y r.mid t → BusBlockLoadCut size address count values s t
either_rests size address count s values v u y x t r (inl a) =
    loaded_cut size address count values v u s r.first r.mid t r.below r.each r.one a
either_rests size address count s values v u y x t r (inr a) =
    loaded_cut size address count values v y s r.first r.mid t r.below r.each r.one a

stop_nth : (size : Size) (address count old_count new_count : ℕ) (s : Site) (values : List ℕ) (ended : Tells) (told : Option Far) (why : DmiFault)
    (front : List Act) (a v : ℕ) → RestsAt size address count s values ended.far → Nth (Put sbcs_address (running false size) ∷ []) front (Put a v)
    → Broke front (Operation (Write a v)) old_count new_count ended told why → LoadsCut size address count values s told
stop_nth size address count old_count new_count s values ended told why _ _ _ r (here _ _) b =
    let a : ℕ = element_at size address (length values) in
    let u : BusUnit = read_bus true size a r.value false in
    let y : BusUnit = read_bus false size a r.value false in
    let c : CutAt [] (Write sbcs_address (running false size)) r.far told =
    cut_at [] (Write sbcs_address (running false size)) old_count new_count ended told why r.far r.is b in
    record {
      far = c.far;
      is = c.is;
      left = either_rests size address count s values r.value u y (site_of r.far) (site_of c.far) r.rests
          (write_cut LoadLeaves sbcs_address (running false size) _ u y r.rests.mid c.mid (site_of c.far) (to_sbcs (running false size))
          (works_ready r.rests.mid r.rests.ready) refl (run_stops true size (next_of size a) r.value false) refl
          (subst (λ (z : Site). AtBus u r.rests.mid z) (sym c.acts_are) r.rests.at) c.cut);
    }
stop_nth size address count old_count new_count s values ended told why _ a v r (there _ _ front _ k) b = absurd (no_more front (Put a v) k)

stop_by : (size : Size) (address count old_count new_count : ℕ) (s : Site) (values : List ℕ) (ended : Tells) (told : Option Far) (why : DmiFault)
    (acts : List Act) (failed : Attempt) → RestsAt size address count s values ended.far → Starting (Put sbcs_address (running false size) ∷ []) acts failed
    → Broke acts failed old_count new_count ended told why → LoadsCut size address count values s told
stop_by size address count old_count new_count s values ended told why _ _ r (next front rest a v parts) b =
    stop_nth size address count old_count new_count s values ended told why front a v r
    (nth_of (Put sbcs_address (running false size) ∷ []) front rest (Put a v) parts) b

pub stop_cut : (size : Size) (address count old_count new_count : ℕ) (s : Site) (values : List ℕ) (ended : Tells) (told : Option Far) (why : DmiFault)
    → RestsAt size address count s values ended.far → BrokeIn (Starting (Put sbcs_address (running false size) ∷ [])) old_count new_count ended told why
    → LoadsCut size address count values s told
stop_cut size address count old_count new_count s values ended told why r b =
    stop_by size address count old_count new_count s values ended told why b.acts b.failed r b.begun b.broke

last_lower : (size : Size) (address count : ℕ) (s : Site) (values : List ℕ) (v : ℕ) (x t : Site) → Resting size address count s false false values v x
    → SiteCut (Read sbdata0_address) x t → Resting size address count s false false values v t
last_lower size address count s values v x t r (unperformed d) =
    subst (λ (y : Site). Resting size address count s false false values v y) (sym d.is) (resting_ran size address count s false false values v x d.deeds r)
last_lower size address count s values v x t r (was_performed result o) =
    lower_rests size address count s values v (value_of result) x t r (record { result = result; one = o; value_is = refl })

last_site : (size : Size) (address count : ℕ) (s : Site) (values : List ℕ) (v : ℕ) (acts : List Act) (op : DmiOp) (x mid t : Site)
    → ReadingData 1 acts (Operation op) → Resting size address count s false false values v x → SiteActs acts x mid → SiteCut op mid t
    → BusBlockLoadCut size address count values s t
last_site size address count s values v acts _ x mid t (ReadingData.lower n _ d few) r p cut =
    rests_cut size address count s false values v t
    (last_lower size address count s values v mid t (uppers_rest size address count s false values v n acts x mid (omega (arith, few)) d r p) cut)
last_site size address count s values v acts op x mid t (ReadingData.upper n _ d few) r p cut =
    rests_cut size address count s false values v t
    (still_rests size address count s false values v mid t (uppers_rest size address count s false values v n acts x mid (omega (arith, few)) d r p) op cut
    refl)

pub last_cut : (size : Size) (address count old_count new_count : ℕ) (s : Site) (values : List ℕ) (stopped : Tells) (told : Option Far) (why : DmiFault)
    → StopsAt size address count s values stopped.far → BrokeIn (Among (ReadingData 1)) old_count new_count stopped told why
    → LoadsCut size address count values s told
last_cut size address count old_count new_count s values stopped told why r b =
    let c : CutWithin (ReadingData 1) r.far told = cut_within (ReadingData 1) old_count new_count stopped told why r.far r.is b in
    record {
      far = c.cut.far;
      is = c.cut.is;
      left = last_site size address count s values r.value c.acts c.op (site_of r.far) c.cut.mid (site_of c.cut.far) c.begun r.rests c.cut.acts_are
          c.cut.cut;
    }
