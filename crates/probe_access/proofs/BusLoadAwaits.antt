-- Loads by the system bus that are each awaited, at a told chip: what was read is right, or memory refused it.
use Rattle.std.proofs.Common.{◌≡◌, ◌∙◌, ◌≤◌, ◌<◌, ◌+◌, ◌*◌, ◌++◌, ◌^◌, ℕ, List, [], ◌∷◌, length, map, Bool, true, false, None, refl, sym, ap, subst, arith}
use Rattle.std.proofs.lemmas.Bool.{false≢true}
use Rattle.rv_model.specs.declared.size.Size.{Size}
use Rattle.rv_model.specs.declared.size.Size.TheVariants.{B1, B8}
use Rattle.rv_model.specs.Memory.{is_aligned}
use Rattle.rv_model.specs.Size.{count_of}
use Rattle.debug_model.specs.Addresses.{sbcs_address, sbdata0_address, sbdata1_address}
use Rattle.debug_model.specs.Commands.{high_half}
use Rattle.debug_model.specs.declared.dmi_op.DmiOp.TheVariants.{Read, Write}
use Rattle.debug_model.specs.declared.sberror.Sberror.TheVariants.{Fine}
use Rattle.debug_model.specs.Deeds.{Deed, ran}
use Rattle.debug_model.specs.Dmi.{value_of}
use Rattle.debug_model.specs.Module.{Site, operated, operation_result}
use Rattle.debug_model.specs.SystemBus.{BusUnit, bus_looked, sbdata0_read}
use Rattle.debug_model.specs.Told.{SiteReady}
use Rattle.probe_run.specs.Acts.{Act}
use Rattle.probe_run.specs.Acts.Act.{Put}
use Rattle.probe_run.specs.Opening.{clears_sberror}
use Rattle.probe_access.specs.Blocks.{element_at}
use Rattle.probe_access.specs.BusBlocks.{BusLoadedEach, BusNotLoadedOne}
use Rattle.probe_access.specs.BusRuns.{bus_busy, bus_collided, bus_error, bus_poll, cut_to}
use Rattle.probe_access.specs.BusStreams.{ElementsRead, IsNarrow, running}
use Rattle.probe_access.specs.BusStreams.ElementsRead.{none as none_read, narrow, double}
use Rattle.probe_access.specs.RegisterAccess.{joined}
use Rattle.probe_access.proofs.Along.{ReadAt, SiteActs}
use Rattle.probe_access.proofs.BusSites.{AtBus, put_bus}
use Rattle.probe_access.proofs.BusSites.Writes.{to_sbcs}
use Rattle.probe_access.proofs.BusStreamEnds.{AllLoaded, rest_loaded, shows_of}
use Rattle.probe_access.proofs.BusStreamShown.{RunShown, reading_shown, refused_shown, rest_shown, sbcs_seen}
use Rattle.probe_access.proofs.BusStreamSites.{Refusing, Resting, Stands, Waiting, at_read, at_write, ready_at, refused_passed, refusing_ran, resting_ran, shown_at, waiting_ran}
use Rattle.probe_access.proofs.BusStreamSites.Reads.{of_sbcs, of_sbdata0, of_sbdata1}
use Rattle.probe_access.proofs.BusStreamSites.Stands.{waiting as still_waiting, resting as was_loaded, refusing as was_refused}
use Rattle.probe_access.proofs.BusStreamSteps.{double_value, low_shown, narrow_value, next_started}
use Rattle.probe_access.proofs.BusStreamTold.{refusing_read, resting_read}
use Rattle.probe_access.proofs.BusStreamUnits.{next_of, read_bus, reading, refused_bus, refused_cleared, run_stops}
use Rattle.probe_access.proofs.BusTold.{works_ready}
use Rattle.probe_access.proofs.BusUnits.{bus_at}

-- ---- an access was started

pub stands_ran : (size : Size) (address count : ℕ) (s : Site) (values : List ℕ) (value : ℕ) (x : Site) (ds : List Deed)
    → Stands size address count s true false values value x → Stands size address count s true false values value (ran ds x)
stands_ran size address count s values value x ds (still_waiting w) = waiting_ran size address count s true false values value x ds w
stands_ran size address count s values value x ds (was_loaded v r) = was_loaded v (resting_ran size address count s true false values v x ds r)
stands_ran size address count s values value x ds (was_refused r) = was_refused (refusing_ran size address count s true false values value x ds r)

waiting_poll : (size : Size) (address count : ℕ) (s : Site) (values : List ℕ) (value : ℕ) (x : Site)
    → Waiting size address count s true false values value x → Waiting size address count s true false values value (operated (Read sbcs_address) x)
waiting_poll size address count s values value x w =
    let u : BusUnit = reading true size (element_at size address (length values)) value false in
    record {
      mid = w.mid;
      each = w.each;
      ready = w.ready;
      below = w.below;
      at = at_read sbcs_address _ _ u u w.mid x of_sbcs w.ready refl w.at;
    }

pub stands_poll : (size : Size) (address count : ℕ) (s : Site) (values : List ℕ) (value : ℕ) (x : Site)
    → Stands size address count s true false values value x → Stands size address count s true false values value (operated (Read sbcs_address) x)
stands_poll size address count s values value x (still_waiting w) = still_waiting (waiting_poll size address count s values value x w)
stands_poll size address count s values value x (was_loaded v r) =
    was_loaded v (resting_read size address count s true false values v x sbcs_address _ _ of_sbcs refl r)
stands_poll size address count s values value x (was_refused r) =
    was_refused (refusing_read size address count s true false values value x sbcs_address _ _ of_sbcs refl r)

pub polls_stand : (size : Size) (address count : ℕ) (s : Site) (values : List ℕ) (value : ℕ) (words : List ℕ) (x t : Site)
    → Stands size address count s true false values value x → SiteActs (map bus_poll words) x t → Stands size address count s true false values value t
polls_stand size address count s values value [] x t w acts = subst (λ (y : Site). Stands size address count s true false values value y) (sym acts) w
polls_stand size address count s values value (word ∷ words) x t w acts =
    let o = acts.1.one in
    let z : Site = ran o.before x in
    polls_stand size address count s values value words acts.0 t
    (subst (λ (y : Site). Stands size address count s true false values value y) (sym o.is)
    (stands_ran size address count s values value (operated (Read sbcs_address) z) o.behind
    (stands_poll size address count s values value z (stands_ran size address count s values value x o.before w)))) acts.2

-- ---- and ended

pub data LoadEnd (size : Size) (address count : ℕ) (s : Site) (values : List ℕ) (value last : ℕ) (t : Site) : Type 0 where
  loaded : (v : ℕ) → Resting size address count s true false values v t → bus_error last ≡ 0 → bus_collided last ≡ false
      → LoadEnd size address count s values value last t
  refused : Refusing size address count s true false values value t → bus_error last ≡ 2 → LoadEnd size address count s values value last t

end_by : (size : Size) (address count : ℕ) (s : Site) (values : List ℕ) (value last : ℕ) (z : Site) (ds : List Deed)
    → last ≡ value_of (operation_result (Read sbcs_address) z) → bus_busy last ≡ false → Stands size address count s true false values value z
    → LoadEnd size address count s values value last (ran ds (operated (Read sbcs_address) z))
end_by size address count s values value last z ds shows idle (still_waiting w) =
    let a : ℕ = element_at size address (length values) in
    let e : last ≡ sbcs_seen (reading true size a value false) = shows_of last (reading true size a value false) w.mid z w.ready w.at shows in
    let k : RunShown true 0 false (sbcs_seen (reading true size a value false)) = reading_shown true size a value false in
    absurd (false≢true (sym idle ∙ ap bus_busy e ∙ k.busy_is))
end_by size address count s values value last z ds shows idle (was_loaded v r) =
    let a : ℕ = element_at size address (length values) in
    let e : last ≡ sbcs_seen (read_bus true size a v false) = shows_of last (read_bus true size a v false) r.mid z r.ready r.at shows in
    let k : RunShown false 0 false (sbcs_seen (read_bus true size a v false)) = rest_shown true size (next_of size a) v false in
    LoadEnd.loaded v
    (resting_ran size address count s true false values v (operated (Read sbcs_address) z) ds
    (resting_read size address count s true false values v z sbcs_address _ _ of_sbcs refl r)) (ap bus_error e ∙ k.error_is)
    (ap bus_collided e ∙ k.collided_is)
end_by size address count s values value last z ds shows idle (was_refused r) =
    let a : ℕ = element_at size address (length values) in
    let e : last ≡ sbcs_seen (refused_bus true size a value false) = shows_of last (refused_bus true size a value false) r.mid z r.ready r.at shows in
    let k : RunShown false 2 false (sbcs_seen (refused_bus true size a value false)) = refused_shown true size a value false in
    LoadEnd.refused
    (refusing_ran size address count s true false values value (operated (Read sbcs_address) z) ds
    (refusing_read size address count s true false values value z sbcs_address _ _ of_sbcs refl r)) (ap bus_error e ∙ k.error_is)

pub polls_ended : (size : Size) (address count : ℕ) (s : Site) (values : List ℕ) (value : ℕ) (words : List ℕ) (last : ℕ) (x t : Site)
    → bus_busy last ≡ false → Stands size address count s true false values value x → SiteActs (map bus_poll words ++ bus_poll last ∷ []) x t
    → LoadEnd size address count s values value last t
polls_ended size address count s values value [] last x t idle w acts =
    let o = acts.1.one in
    let z : Site = ran o.before x in
    subst (λ (y : Site). LoadEnd size address count s values value last y) (sym (acts.2 ∙ o.is))
    (end_by size address count s values value last z o.behind (acts.1.value_is ∙ ap value_of o.result_is) idle
    (stands_ran size address count s values value x o.before w))
polls_ended size address count s values value (word ∷ words) last x t idle w acts =
    let o = acts.1.one in
    let z : Site = ran o.before x in
    polls_ended size address count s values value words last acts.0 t idle
    (subst (λ (y : Site). Stands size address count s true false values value y) (sym o.is)
    (stands_ran size address count s values value (operated (Read sbcs_address) z) o.behind
    (stands_poll size address count s values value z (stands_ran size address count s values value x o.before w)))) acts.2

-- ---- its words

-- the upper one starts nothing
pub upper_rests : (size : Size) (address count : ℕ) (s : Site) (on_data : Bool) (values : List ℕ) (v high : ℕ) (x t : Site)
    → Resting size address count s on_data false values v x → ReadAt sbdata1_address high x t → Resting size address count s on_data false values v t
upper_rests size address count s on_data values v high x t r h =
    let z : Site = ran h.one.before x in
    subst (λ (y : Site). Resting size address count s on_data false values v y) (sym h.one.is)
    (resting_ran size address count s on_data false values v (operated (Read sbdata1_address) z) h.one.behind
    (resting_read size address count s on_data false values v z sbdata1_address bus_looked _ of_sbdata1 refl
    (resting_ran size address count s on_data false values v x h.one.before r)))

upper_is : (size : Size) (address count : ℕ) (s : Site) (on_data : Bool) (values : List ℕ) (v high : ℕ) (x t : Site)
    → Resting size address count s on_data false values v x → ReadAt sbdata1_address high x t → high ≡ value_of (high_half v)
upper_is size address count s on_data values v high x t r h =
    let z : Site = ran h.one.before x in
    let q : Resting size address count s on_data false values v z = resting_ran size address count s on_data false values v x h.one.before r in
    h.value_is ∙ ap value_of (h.one.result_is
    ∙ shown_at sbdata1_address bus_looked _ (read_bus on_data size (element_at size address (length values)) v false) q.mid z of_sbdata1 q.ready q.at)

-- the lower one starts the next access
pub lower_starts : (size : Size) (address count : ℕ) (s : Site) (values : List ℕ) (v low : ℕ) (x t : Site) → is_aligned address size ≡ true
    → address + count * count_of size ≤ 2 ^ 64 → length values + 1 < count → Resting size address count s true false values v x
    → ReadAt sbdata0_address low x t → Stands size address count s true false (values ++ v ∷ []) v t
lower_starts size address count s values v low x t aligned ends below r h =
    let z : Site = ran h.one.before x in
    subst (λ (y : Site). Stands size address count s true false (values ++ v ∷ []) v y) (sym h.one.is)
    (waiting_ran size address count s true false (values ++ v ∷ []) v (operated (Read sbdata0_address) z) h.one.behind
    (next_started size address count s values v z aligned ends below (resting_ran size address count s true false values v x h.one.before r)))

-- or none, with sbreadondata off
pub lower_rests : (size : Size) (address count : ℕ) (s : Site) (values : List ℕ) (v low : ℕ) (x t : Site)
    → Resting size address count s false false values v x → ReadAt sbdata0_address low x t → Resting size address count s false false values v t
lower_rests size address count s values v low x t r h =
    let z : Site = ran h.one.before x in
    subst (λ (y : Site). Resting size address count s false false values v y) (sym h.one.is)
    (resting_ran size address count s false false values v (operated (Read sbdata0_address) z) h.one.behind
    (resting_read size address count s false false values v z sbdata0_address sbdata0_read _ of_sbdata0 refl
    (resting_ran size address count s false false values v x h.one.before r)))

narrow_is : (size : Size) (address count : ℕ) (s : Site) (on_data : Bool) (values : List ℕ) (v low : ℕ) (x t : Site) → IsNarrow size
    → Resting size address count s on_data false values v x → ReadAt sbdata0_address low x t → cut_to size low ≡ v
narrow_is size address count s on_data values v low x t n r h =
    let z : Site = ran h.one.before x in
    let q : Resting size address count s on_data false values v z = resting_ran size address count s on_data false values v x h.one.before r in
    narrow_value size v low n q.small (h.value_is ∙ ap value_of (h.one.result_is ∙ low_shown size address count s on_data values v z q))

double_is : (size : Size) (address count : ℕ) (s : Site) (on_data : Bool) (values : List ℕ) (v low high : ℕ) (x y t : Site) → size ≡ B8
    → Resting size address count s on_data false values v x → ReadAt sbdata1_address high x y → ReadAt sbdata0_address low y t → joined low high ≡ v
double_is size address count s on_data values v low high x y t eight r g h =
    let z : Site = ran h.one.before y in
    let q : Resting size address count s on_data false values v z =
    resting_ran size address count s on_data false values v y h.one.before (upper_rests size address count s on_data values v high x y r g) in
    double_value v low high (subst (λ (k : Size). v < 256 ^ count_of k) eight q.small)
    (h.value_is ∙ ap value_of (h.one.result_is ∙ low_shown size address count s on_data values v z q))
    (upper_is size address count s on_data values v high x y r g)

pub words_start : (size : Size) (address count : ℕ) (s : Site) (was values : List ℕ) (v : ℕ) (acts : List Act) (x t : Site) → is_aligned address size ≡ true
    → address + count * count_of size ≤ 2 ^ 64 → length was + 1 < count → length values ≡ 1 → ElementsRead size values acts
    → Resting size address count s true false was v x → SiteActs acts x t → Stands size address count s true false (was ++ values) v t
words_start size address count s was _ v _ x t aligned ends below one none_read r acts = absurd (omega (arith, one))
words_start size address count s was _ v _ x t aligned ends below one (narrow low _ _ n none_read) r acts =
    subst (λ (y : Site). Stands size address count s true false (was ++ cut_to size low ∷ []) v y) (sym acts.2)
    (subst (λ w. Stands size address count s true false (was ++ w ∷ []) v acts.0) (sym (narrow_is size address count s true was v low x acts.0 n r acts.1))
    (lower_starts size address count s was v low x acts.0 aligned ends below r acts.1))
words_start size address count s was _ v _ x t aligned ends below one (narrow low _ _ n (narrow other values more k e)) r acts = absurd (omega (arith, one))
words_start size address count s was _ v _ x t aligned ends below one (narrow low _ _ n (double other high values more k e)) r acts =
    absurd (omega (arith, one))
words_start size address count s was _ v _ x t aligned ends below one (double low high _ _ eight none_read) r acts =
    subst (λ (y : Site). Stands size address count s true false (was ++ joined low high ∷ []) v y) (sym acts.2.2)
    (subst (λ w. Stands size address count s true false (was ++ w ∷ []) v acts.2.0)
    (sym (double_is size address count s true was v low high x acts.0 acts.2.0 eight r acts.1 acts.2.1))
    (lower_starts size address count s was v low acts.0 acts.2.0 aligned ends below (upper_rests size address count s true was v high x acts.0 r acts.1)
    acts.2.1))
words_start size address count s was _ v _ x t aligned ends below one (double low high _ _ eight (narrow other values more k e)) r acts =
    absurd (omega (arith, one))
words_start size address count s was _ v _ x t aligned ends below one (double low high _ _ eight (double other upper values more k e)) r acts =
    absurd (omega (arith, one))

-- ---- the last one

pub stop_rests : (size : Size) (address count : ℕ) (s : Site) (values : List ℕ) (v : ℕ) (x t : Site) → Resting size address count s true false values v x
    → SiteActs (Put sbcs_address (running false size) ∷ []) x t → Resting size address count s false false values v t
stop_rests size address count s values v x t r p =
    let a : ℕ = element_at size address (length values) in
    let z : Site = ran p.1.before x in
    let q : Resting size address count s true false values v z = resting_ran size address count s true false values v x p.1.before r in
    subst (λ (y : Site). Resting size address count s false false values v y) (sym (p.2 ∙ p.1.is))
    (resting_ran size address count s false false values v (operated (Write sbcs_address (running false size)) z) p.1.behind (record {
      first = q.first;
      each = q.each;
      mid = q.mid;
      one = q.one;
      small = q.small;
      ready = q.ready;
      below = q.below;
      at = at_write sbcs_address (running false size) _ (read_bus true size a v false) (read_bus false size a v false) q.mid z
          (to_sbcs (running false size)) q.ready (run_stops true size (next_of size a) v false) q.at;
    }))

pub words_last : (size : Size) (address count : ℕ) (s : Site) (was values : List ℕ) (v : ℕ) (acts : List Act) (x t : Site) → length values ≡ 1
    → ElementsRead size values acts → Resting size address count s false false was v x → SiteActs acts x t → AllLoaded size address (was ++ values) s t
words_last size address count s was _ v _ x t one none_read r acts = absurd (omega (arith, one))
words_last size address count s was _ v _ x t one (narrow low _ _ n none_read) r acts =
    subst (λ (y : Site). AllLoaded size address (was ++ cut_to size low ∷ []) s y) (sym acts.2)
    (subst (λ w. AllLoaded size address (was ++ w ∷ []) s acts.0) (sym (narrow_is size address count s false was v low x acts.0 n r acts.1))
    (rest_loaded size address count s was v acts.0 (lower_rests size address count s was v low x acts.0 r acts.1)))
words_last size address count s was _ v _ x t one (narrow low _ _ n (narrow other values more k e)) r acts = absurd (omega (arith, one))
words_last size address count s was _ v _ x t one (narrow low _ _ n (double other high values more k e)) r acts = absurd (omega (arith, one))
words_last size address count s was _ v _ x t one (double low high _ _ eight none_read) r acts =
    subst (λ (y : Site). AllLoaded size address (was ++ joined low high ∷ []) s y) (sym acts.2.2)
    (subst (λ w. AllLoaded size address (was ++ w ∷ []) s acts.2.0)
    (sym (double_is size address count s false was v low high x acts.0 acts.2.0 eight r acts.1 acts.2.1))
    (rest_loaded size address count s was v acts.2.0
    (lower_rests size address count s was v low acts.0 acts.2.0 (upper_rests size address count s false was v high x acts.0 r acts.1) acts.2.1)))
words_last size address count s was _ v _ x t one (double low high _ _ eight (narrow other values more k e)) r acts = absurd (omega (arith, one))
words_last size address count s was _ v _ x t one (double low high _ _ eight (double other upper values more k e)) r acts = absurd (omega (arith, one))

-- ---- memory refused it, and the error was cleared

pub record LoadRefused (size : Size) (address : ℕ) (values : List ℕ) (s t : Site) : Type 0 where
  pub mid : Site
  pub each : BusLoadedEach size address s values mid
  pub refused : BusNotLoadedOne size (element_at size address (length values)) mid t
  pub ready : SiteReady t

pub load_cleared : (size : Size) (address count : ℕ) (s : Site) (values : List ℕ) (value : ℕ) (x t : Site)
    → Refusing size address count s true false values value x → SiteActs (Put sbcs_address clears_sberror ∷ []) x t
    → LoadRefused size address values s t
load_cleared size address count s values value x t r p =
    let a : ℕ = element_at size address (length values) in
    let u : BusUnit = bus_at false B1 a value Fine None in
    let at : AtBus u r.mid t =
    put_bus sbcs_address clears_sberror _ (refused_bus true size a value false) u r.mid x t (to_sbcs clears_sberror) (works_ready r.mid r.ready) refl
    (refused_cleared true size a value false) refl r.at p in
    record {
      mid = r.first;
      each = r.each;
      refused = refused_passed size a r.first r.mid u t r.refused at;
      ready = ready_at u r.mid t r.ready (record { idle = refl; fine = refl; no_busyerror = refl }) at;
    }
