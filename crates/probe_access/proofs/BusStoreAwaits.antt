-- Stores by the system bus that are each awaited, at a told chip: an element is stored, or memory refused it.
use Rattle.std.proofs.Common.{◌≡◌, ◌==◌, ◌∙◌, ◌≤◌, ◌<◌, ◌+◌, ◌*◌, ◌++◌, ◌^◌, ◌%◌, ℕ, List, [], ◌∷◌, map, Bool, true, false, None, refl, sym, ap, subst}
use Rattle.std.proofs.lemmas.Bool.{eqb-true, false≢true}
use Rattle.rv_model.specs.declared.size.Size.{Size}
use Rattle.rv_model.specs.declared.size.Size.TheVariants.{B1}
use Rattle.rv_model.specs.Memory.{is_aligned}
use Rattle.rv_model.specs.Size.{count_of}
use Rattle.debug_model.specs.Addresses.{sbcs_address, sbdata0_address, sbdata1_address}
use Rattle.debug_model.specs.declared.dmi_op.DmiOp.TheVariants.{Read, Write}
use Rattle.debug_model.specs.declared.sberror.Sberror.TheVariants.{Fine}
use Rattle.debug_model.specs.Commands.{low_half}
use Rattle.debug_model.specs.Course.{OneOperation}
use Rattle.debug_model.specs.Deeds.{Deed, ran}
use Rattle.debug_model.specs.Dmi.{value_of}
use Rattle.debug_model.specs.Module.{Site, operated, operation_result}
use Rattle.debug_model.specs.SystemBus.{BusUnit}
use Rattle.probe_run.specs.Acts.Act.{Put}
use Rattle.probe_run.specs.Opening.{clears_sberror}
use Rattle.probe_access.specs.Blocks.{element_at, value_at}
use Rattle.probe_access.specs.BusRuns.{bus_busy, bus_collided, bus_error, bus_poll}
use Rattle.probe_access.specs.BusStoreStreams.{element_puts, puts_where, upper_at}
use Rattle.probe_access.proofs.Along.{SiteActs}
use Rattle.probe_access.proofs.BusSites.{AtBus, put_bus}
use Rattle.probe_access.proofs.BusSites.Writes.{to_sbcs}
use Rattle.probe_access.proofs.BusStoreEnds.{NextRefused, still_poll, storing_poll, unstored_passed, unstored_poll}
use Rattle.probe_access.proofs.BusStoreSites.{Still, Unstored, Went, own_upper, still_ran, storing_ran, unstored_ran}
use Rattle.probe_access.proofs.BusStoreSteps.{still_put, still_upper}
use Rattle.probe_access.proofs.BusStoreUnits.{still_bus, still_shown, unstored_bus, unstored_cleared, unstored_shown, writing, writing_shown}
use Rattle.probe_access.proofs.BusStreamEnds.{shows_of}
use Rattle.probe_access.proofs.BusStreamShown.{RunShown, sbcs_seen}
use Rattle.probe_access.proofs.BusStreamSites.{ready_at}
use Rattle.probe_access.proofs.BusTold.{works_ready}
use Rattle.probe_access.proofs.BusUnits.{bus_at}

-- ---- one was asked for

pub went_ran : (size : Size) (address : ℕ) (values : List ℕ) (s : Site) (n : ℕ) (x : Site) (ds : List Deed) → Went size address values s false n x
    → Went size address values s false n (ran ds x)
went_ran size address values s n x ds (Went.writes w) = storing_ran size address values s false n x ds w
went_ran size address values s n x ds (Went.still r) = Went.still (still_ran size address values s false (n + 1) (own_upper values n) x ds r)
went_ran size address values s n x ds (Went.unstored r) = Went.unstored (unstored_ran size address values s false n x ds r)

pub went_poll : (size : Size) (address : ℕ) (values : List ℕ) (s : Site) (n : ℕ) (x : Site) → Went size address values s false n x
    → Went size address values s false n (operated (Read sbcs_address) x)
went_poll size address values s n x (Went.writes w) = Went.writes (storing_poll size address values s false n x w)
went_poll size address values s n x (Went.still r) = Went.still (still_poll size address values s false (n + 1) (own_upper values n) x r)
went_poll size address values s n x (Went.unstored r) = Went.unstored (unstored_poll size address values s false n x r)

lower_went : (size : Size) (address : ℕ) (values : List ℕ) (count : ℕ) (s : Site) (n upper : ℕ) (x t : Site) → is_aligned address size ≡ true
    → address + count * count_of size ≤ 2 ^ 64 → n < count → upper ≡ own_upper values n → Still size address values s false n upper x
    → SiteActs (Put sbdata0_address (low_half (value_at values n)) ∷ []) x t → Went size address values s false n t
lower_went size address values count s n upper x t aligned ends below own r p =
    let z : Site = ran p.1.before x in
    subst (λ (y : Site). Went size address values s false n y) (sym (p.2 ∙ p.1.is))
    (storing_ran size address values s false n (operated (Write sbdata0_address (low_half (value_at values n))) z) p.1.behind
    (still_put size address values count s n upper z aligned ends below own (still_ran size address values s false n upper x p.1.before r)))

upper_still : (size : Size) (address : ℕ) (values : List ℕ) (s : Site) (n old upper result : ℕ) (x t : Site) → Still size address values s false n old x
    → OneOperation (Write sbdata1_address upper) result x t → Still size address values s false n upper t
upper_still size address values s n old upper result x t r o =
    let z : Site = ran o.before x in
    subst (λ (y : Site). Still size address values s false n upper y) (sym o.is)
    (still_ran size address values s false n upper (operated (Write sbdata1_address upper) z) o.behind
    (still_upper size address values s false n old upper z (still_ran size address values s false n old x o.before r)))

words_went : (held : Bool) (size : Size) (address : ℕ) (values : List ℕ) (count : ℕ) (s : Site) (n : ℕ) (x t : Site)
    → (own_upper values n == upper_at values n) ≡ held → is_aligned address size ≡ true → address + count * count_of size ≤ 2 ^ 64 → n < count
    → Still size address values s false n (upper_at values n) x → SiteActs (puts_where held (value_at values n)) x t
    → Went size address values s false n t
words_went true size address values count s n x t same aligned ends below r p =
    lower_went size address values count s n (upper_at values n) x t aligned ends below (sym (eqb-true (own_upper values n) (upper_at values n) same)) r p
words_went false size address values count s n x t other aligned ends below r p =
    let own : ℕ = own_upper values n in
    lower_went size address values count s n own p.0 t aligned ends below refl
    (upper_still size address values s n (upper_at values n) own own x p.0 r p.1) p.2

pub put_went : (size : Size) (address : ℕ) (values : List ℕ) (count : ℕ) (s : Site) (n : ℕ) (x t : Site) → is_aligned address size ≡ true
    → address + count * count_of size ≤ 2 ^ 64 → n < count → Still size address values s false n (upper_at values n) x
    → SiteActs (element_puts (upper_at values n) (value_at values n)) x t → Went size address values s false n t
put_went size address values count s n x t aligned ends below r p =
    words_went (own_upper values n == upper_at values n) size address values count s n x t refl aligned ends below r p

pub polls_went : (size : Size) (address : ℕ) (values : List ℕ) (s : Site) (n : ℕ) (words : List ℕ) (x t : Site) → Went size address values s false n x
    → SiteActs (map bus_poll words) x t → Went size address values s false n t
polls_went size address values s n [] x t w acts = subst (λ (y : Site). Went size address values s false n y) (sym acts) w
polls_went size address values s n (word ∷ words) x t w acts =
    let o = acts.1.one in
    let z : Site = ran o.before x in
    polls_went size address values s n words acts.0 t
    (subst (λ (y : Site). Went size address values s false n y) (sym o.is)
    (went_ran size address values s n (operated (Read sbcs_address) z) o.behind
    (went_poll size address values s n z (went_ran size address values s n x o.before w)))) acts.2

-- ---- and ended

pub data WentEnd (size : Size) (address : ℕ) (values : List ℕ) (s : Site) (n last : ℕ) (t : Site) : Type 0 where
  stored : Still size address values s false (n + 1) (own_upper values n) t → bus_error last ≡ 0 → bus_collided last ≡ false
      → WentEnd size address values s n last t
  refused : Unstored size address values s false n t → bus_error last ≡ 2 → WentEnd size address values s n last t

end_by : (size : Size) (address : ℕ) (values : List ℕ) (s : Site) (n last : ℕ) (z : Site) (ds : List Deed)
    → last ≡ value_of (operation_result (Read sbcs_address) z)
    → bus_busy last ≡ false → Went size address values s false n z → WentEnd size address values s n last (ran ds (operated (Read sbcs_address) z))
end_by size address values s n last z ds shows idle (Went.writes w) =
    let u : BusUnit = writing size (element_at size address n) (value_at values n) false in
    let e : last ≡ sbcs_seen u = shows_of last u w.mid z w.ready w.at shows in
    let k : RunShown true 0 false (sbcs_seen u) = writing_shown size (element_at size address n) (value_at values n) false in
    absurd (false≢true (sym idle ∙ ap bus_busy e ∙ k.busy_is))
end_by size address values s n last z ds shows idle (Went.still r) =
    let a : ℕ = element_at size address (n + 1) % 2 ^ 64 in
    let e : last ≡ sbcs_seen (still_bus size a r.held false) = shows_of last (still_bus size a r.held false) r.mid z r.ready r.at shows in
    let k : RunShown false 0 false (sbcs_seen (still_bus size a r.held false)) = still_shown size a r.held false in
    WentEnd.stored
    (still_ran size address values s false (n + 1) (own_upper values n) (operated (Read sbcs_address) z) ds
    (still_poll size address values s false (n + 1) (own_upper values n) z r))
    (ap bus_error e ∙ k.error_is) (ap bus_collided e ∙ k.collided_is)
end_by size address values s n last z ds shows idle (Went.unstored r) =
    let u : BusUnit = unstored_bus size (element_at size address n) r.held false in
    let e : last ≡ sbcs_seen u = shows_of last u r.mid z r.ready r.at shows in
    let k : RunShown false 2 false (sbcs_seen u) = unstored_shown size (element_at size address n) r.held false in
    WentEnd.refused (unstored_ran size address values s false n (operated (Read sbcs_address) z) ds (unstored_poll size address values s false n z r))
    (ap bus_error e ∙ k.error_is)

pub polls_ended : (size : Size) (address : ℕ) (values : List ℕ) (s : Site) (n : ℕ) (words : List ℕ) (last : ℕ) (x t : Site) → bus_busy last ≡ false
    → Went size address values s false n x → SiteActs (map bus_poll words ++ bus_poll last ∷ []) x t → WentEnd size address values s n last t
polls_ended size address values s n [] last x t idle w acts =
    let o = acts.1.one in
    let z : Site = ran o.before x in
    subst (λ (y : Site). WentEnd size address values s n last y) (sym (acts.2 ∙ o.is))
    (end_by size address values s n last z o.behind (acts.1.value_is ∙ ap value_of o.result_is) idle (went_ran size address values s n x o.before w))
polls_ended size address values s n (word ∷ words) last x t idle w acts =
    let o = acts.1.one in
    let z : Site = ran o.before x in
    polls_ended size address values s n words last acts.0 t idle
    (subst (λ (y : Site). Went size address values s false n y) (sym o.is)
    (went_ran size address values s n (operated (Read sbcs_address) z) o.behind
    (went_poll size address values s n z (went_ran size address values s n x o.before w)))) acts.2

-- ---- memory refused it, and the error was cleared

pub refused_cleared : (size : Size) (address : ℕ) (values : List ℕ) (s : Site) (n : ℕ) (x t : Site) → Unstored size address values s false n x
    → SiteActs (Put sbcs_address clears_sberror ∷ []) x t → NextRefused size address values n s t
refused_cleared size address values s n x t r p =
    let a : ℕ = element_at size address n in
    let u : BusUnit = bus_at false B1 a r.held Fine None in
    let at : AtBus u r.mid t =
    put_bus sbcs_address clears_sberror _ (unstored_bus size a r.held false) u r.mid x t (to_sbcs clears_sberror) (works_ready r.mid r.ready) refl
    (unstored_cleared size a r.held false) refl r.at p in
    record {
      mid = r.first;
      each = r.each;
      refused = unstored_passed size a r.first r.mid u t r.refused at;
      ready = ready_at u r.mid t r.ready (record { idle = refl; fine = refl; no_busyerror = refl }) at;
    }
