-- What loads by the system bus that are each awaited come to at a told chip, behind others.
use Rattle.std.proofs.Common.{◌≡◌, ◌≢◌, ◌⊎◌, ◌≤◌, ◌<◌, ◌+◌, ◌*◌, ◌++◌, ◌^◌, ℕ, List, [], ◌∷◌, length, map, true, false, Option, Some, None, refl, sym, subst, arith}
use Rattle.rv_model.specs.declared.size.Size.{Size}
use Rattle.rv_model.specs.Memory.{is_aligned}
use Rattle.rv_model.specs.Size.{count_of}
use Rattle.debug_model.specs.Addresses.{sbcs_address}
use Rattle.debug_model.specs.Module.{Site}
use Rattle.debug_model.specs.Scan.{WhereTold}
use Rattle.debug_model.specs.Told.{Far, IsReady, SiteReady, site_of}
use Rattle.probe_run.specs.Acts.{Did, Tells}
use Rattle.probe_run.specs.Acts.Act.{Put}
use Rattle.probe_run.specs.Opening.{clears_sberror}
use Rattle.probe_access.specs.Blocks.{element_at}
use Rattle.probe_access.specs.BusAwaits.{AllAwaited, LoadsAwaited}
use Rattle.probe_access.specs.BusBlocks.{BusBlockLoadRefused, BusBlockLoadedAt, BusLoadedEach}
use Rattle.probe_access.specs.BusRuns.{BusEnded, BusPolled, BusRefused, bus_collided, bus_error, bus_poll, outside_error}
use Rattle.probe_access.specs.BusStreams.{MoreRead, run_started, running}
use Rattle.probe_access.proofs.Along.{AtSites, did_sites, did_untold}
use Rattle.probe_access.proofs.BusAwaitCalls.{read_longer}
use Rattle.probe_access.proofs.BusLoadAwaits.{LoadEnd, LoadRefused, load_cleared, polls_ended, stop_rests, words_last, words_start}
use Rattle.probe_access.proofs.BusStreamClauses.{RunLoaded, none_loaded, told_loaded}
use Rattle.probe_access.proofs.BusStreamEnds.{AllLoaded}
use Rattle.probe_access.proofs.BusStreamOutcomes.{odd_fine, two_not_zero}
use Rattle.probe_access.proofs.BusStreamSites.{Resting, Stands, stage_stands}
use Rattle.probe_access.proofs.BusStreamSteps.{start_stage}
use Rattle.probe_access.proofs.BusStreamTold.{element_aligned}

-- ---- where they stand

pub record StandsAt (size : Size) (address count : ℕ) (s : Site) (values : List ℕ) (told : Option Far) : Type 0 where
  pub far : Far
  pub is : told ≡ Some far
  pub value : ℕ
  pub stands : Stands size address count s true false values value (site_of far)

pub record EndAt (size : Size) (address count last : ℕ) (s : Site) (values : List ℕ) (told : Option Far) : Type 0 where
  pub far : Far
  pub is : told ≡ Some far
  pub value : ℕ
  pub end : LoadEnd size address count s values value last (site_of far)

pub record RestsAt (size : Size) (address count : ℕ) (s : Site) (values : List ℕ) (told : Option Far) : Type 0 where
  pub far : Far
  pub is : told ≡ Some far
  pub value : ℕ
  pub rests : Resting size address count s true false values value (site_of far)

pub record StopsAt (size : Size) (address count : ℕ) (s : Site) (values : List ℕ) (told : Option Far) : Type 0 where
  pub far : Far
  pub is : told ≡ Some far
  pub value : ℕ
  pub rests : Resting size address count s false false values value (site_of far)

pub end_at : (size : Size) (address count last : ℕ) (s : Site) (values : List ℕ) (mid new : Tells) → StandsAt size address count s values mid.far
    → BusPolled last mid new → EndAt size address count last s values new.far
end_at size address count last s values mid new w p =
    let q : AtSites (map bus_poll p.words ++ bus_poll last ∷ []) w.far new.far = did_sites mid _ new w.far p.did w.is in
    record {
      far = q.far;
      is = q.is;
      value = w.value;
      end = polls_ended size address count s values w.value p.words last (site_of w.far) (site_of q.far) p.idle w.stands q.acts_are;
    }

rests_by : (size : Size) (address count last : ℕ) (s : Site) (values : List ℕ) (told : Option Far) → bus_error last ≡ 0
    → (e : EndAt size address count last s values told) → LoadEnd size address count s values e.value last (site_of e.far)
    → RestsAt size address count s values told
rests_by size address count last s values told fine e (LoadEnd.loaded v r error collided) = record { far = e.far; is = e.is; value = v; rests = r }
rests_by size address count last s values told fine e (LoadEnd.refused r error) = absurd (two_not_zero (bus_error last) error fine)

pub rests_at : (size : Size) (address count : ℕ) (s : Site) (values : List ℕ) (mid new : Tells) → StandsAt size address count s values mid.far
    → BusEnded mid new → RestsAt size address count s values new.far
rests_at size address count s values mid new w ends =
    let e : EndAt size address count ends.last s values new.far = end_at size address count ends.last s values mid new w ends.polled in
    rests_by size address count ends.last s values new.far ends.fine e e.end

next_at : (size : Size) (address count : ℕ) (s : Site) (values more : List ℕ) (ended new : Tells) → is_aligned address size ≡ true
    → address + count * count_of size ≤ 2 ^ 64 → length more < count → RestsAt size address count s values ended.far
    → MoreRead size 1 values more ended new → StandsAt size address count s more new.far
next_at size address count s values more ended new aligned ends below r m =
    let long : length more ≡ length values + 1 = read_longer size values more ended new m in
    let q : AtSites m.acts r.far new.far = did_sites ended m.acts new r.far m.did r.is in
    record {
      far = q.far;
      is = q.is;
      value = r.value;
      stands = subst (λ xs. Stands size address count s true false xs r.value (site_of q.far)) (sym m.joins)
          (words_start size address count s values m.values r.value m.acts (site_of r.far) (site_of q.far) aligned ends (omega (arith, long, below)) m.count
          m.read r.rests q.acts_are);
    }

pub stands_at : (size : Size) (address count : ℕ) (was : List ℕ) (s : Site) (g : Far) (old : Tells) (values : List ℕ) (new : Tells) → old.far ≡ Some g
    → BusLoadedEach size address s was (site_of g) → SiteReady (site_of g) → is_aligned address size ≡ true
    → address + count * count_of size ≤ 2 ^ 64 → length values < count → LoadsAwaited size address was old values new
    → StandsAt size address count s values new.far
stands_at size address count was s g old _ new is each ready aligned ends below (LoadsAwaited.begun _ did) =
    let a : ℕ = element_at size address (length was) in
    let q : AtSites (run_started size a) g new.far = did_sites old _ new g did is in
    record {
      far = q.far;
      is = q.is;
      value = (site_of g).unit.bus.value;
      stands = stage_stands size address count s true false was (site_of g).unit.bus.value (site_of g) (site_of q.far) each ready below
          (start_stage size a (site_of g) (site_of q.far) ready (element_aligned size address (length was) aligned) q.acts_are);
    }
stands_at size address count was s g old _ new is each ready aligned ends below (LoadsAwaited.next values more mid _ before one) =
    let long : length more ≡ length values + 1 = read_longer size values more one.ended new one.read in
    next_at size address count s values more one.ended new aligned ends below
    (rests_at size address count s values mid one.ended
    (stands_at size address count was s g old values mid is each ready aligned ends (omega (arith, long, below)) before) one.ends) one.read

pub awaited_untold : (size : Size) (address : ℕ) (was : List ℕ) (old : Tells) (values : List ℕ) (new : Tells) → old.far ≡ None
    → LoadsAwaited size address was old values new → new.far ≡ None
awaited_untold size address was old _ new none (LoadsAwaited.begun _ did) = did_untold old _ new did none
awaited_untold size address was old _ new none (LoadsAwaited.next values more mid _ before one) =
    did_untold one.ended _ new one.read.did
    (did_untold mid _ one.ended one.ends.polled.did (awaited_untold size address was old values mid none before))

-- ---- what is loaded

-- with some loaded before
pub stands_told : (size : Size) (address count : ℕ) (was values : List ℕ) (f : Far) (first new : Tells)
    → WhereTold (BusBlockLoadedAt size address was) (Some f) first.far → IsReady first.far → is_aligned address size ≡ true
    → address + count * count_of size ≤ 2 ^ 64 → length values < count → LoadsAwaited size address was first values new
    → StandsAt size address count (site_of f) values new.far
stands_told size address count was values f first new before ready aligned ends below a =
    stands_at size address count was (site_of f) before.far first values new before.is before.each
    (subst (λ (o : Option Far). IsReady o) before.is ready) aligned ends below a

pub stops_at : (size : Size) (address count : ℕ) (s : Site) (values : List ℕ) (ended stopped : Tells) → RestsAt size address count s values ended.far
    → Did ended (Put sbcs_address (running false size) ∷ []) stopped → StopsAt size address count s values stopped.far
stops_at size address count s values ended stopped r did =
    let q : AtSites (Put sbcs_address (running false size) ∷ []) r.far stopped.far = did_sites ended _ stopped r.far did r.is in
    record {
      far = q.far;
      is = q.is;
      value = r.value;
      rests = stop_rests size address count s values r.value (site_of r.far) (site_of q.far) r.rests q.acts_are;
    }

last_loaded : (size : Size) (address count : ℕ) (values is : List ℕ) (f : Far) (stopped new : Tells) → StopsAt size address count (site_of f) values stopped.far
    → MoreRead size 1 values is stopped new → RunLoaded size address is (Some f) new.far
last_loaded size address count values is f stopped new r m =
    let q : AtSites m.acts r.far new.far = did_sites stopped m.acts new r.far m.did r.is in
    told_loaded size address is f q.far new.far q.is
    (subst (λ xs. AllLoaded size address xs (site_of f) (site_of q.far)) (sym m.joins)
    (words_last size address count (site_of f) values m.values r.value m.acts (site_of r.far) (site_of q.far) m.count m.read r.rests q.acts_are))

pub loads_awaited : (size : Size) (address count : ℕ) (was is : List ℕ) (far : Option Far) (first new : Tells)
    → WhereTold (BusBlockLoadedAt size address was) far first.far → IsReady first.far → is_aligned address size ≡ true
    → address + count * count_of size ≤ 2 ^ 64 → AllAwaited size address count was is first new → RunLoaded size address is far new.far
loads_awaited size address count was is None first new before ready aligned ends a =
    none_loaded size address is new.far
    (did_untold a.last.stopped _ new a.last.read.did
    (did_untold a.last.ended _ a.last.stopped a.last.stops
    (did_untold a.mid _ a.last.ended a.last.ends.polled.did (awaited_untold size address was first a.front a.mid before a.awaited))))
loads_awaited size address count was is (Some f) first new before ready aligned ends a =
    let all : length a.front + 1 ≡ count = a.all in
    last_loaded size address count a.front is f a.last.stopped new
    (stops_at size address count (site_of f) a.front a.last.ended a.last.stopped
    (rests_at size address count (site_of f) a.front a.mid a.last.ended
    (stands_told size address count was a.front f first a.mid before ready aligned ends (omega (arith, all)) a.awaited) a.last.ends) a.last.stops)
    a.last.read

-- ---- what is refused

pub record RefusedAt (size : Size) (address : ℕ) (values : List ℕ) (old new : Option Far) : Type 0 where
  pub refused : WhereTold (BusBlockLoadRefused size address values) old new
  pub ready : IsReady new

refused_by : (size : Size) (address count last : ℕ) (values : List ℕ) (f : Far) (polled new : Tells) → bus_error last ≡ outside_error
    → Did polled (Put sbcs_address clears_sberror ∷ []) new → (e : EndAt size address count last (site_of f) values polled.far)
    → LoadEnd size address count (site_of f) values e.value last (site_of e.far) → RefusedAt size address values (Some f) new.far
refused_by size address count last values f polled new outside did e (LoadEnd.loaded v r error collided) =
    absurd (two_not_zero (bus_error last) outside error)
refused_by size address count last values f polled new outside did e (LoadEnd.refused r error) =
    let q : AtSites (Put sbcs_address clears_sberror ∷ []) e.far new.far = did_sites polled _ new e.far did e.is in
    let x : LoadRefused size address values (site_of f) (site_of q.far) =
    load_cleared size address count (site_of f) values e.value (site_of e.far) (site_of q.far) r q.acts_are in
    record {
      refused = record { far = q.far; is = q.is; mid = x.mid; each = x.each; refused = x.refused };
      ready = subst (λ (o : Option Far). IsReady o) (sym q.is) x.ready;
    }

refused_untold : (size : Size) (address : ℕ) (values : List ℕ) (mid new : Tells) → mid.far ≡ None → BusRefused mid new
    → RefusedAt size address values None new.far
refused_untold size address values mid new none r =
    let end : new.far ≡ None = did_untold r.mid _ new r.cleared (did_untold mid _ r.mid r.polled.did none) in
    record { refused = end; ready = subst (λ (o : Option Far). IsReady o) (sym end) tt }

pub load_refused : (size : Size) (address count : ℕ) (was values : List ℕ) (far : Option Far) (first mid new : Tells)
    → WhereTold (BusBlockLoadedAt size address was) far first.far → IsReady first.far → is_aligned address size ≡ true
    → address + count * count_of size ≤ 2 ^ 64 → length values < count → LoadsAwaited size address was first values mid → BusRefused mid new
    → RefusedAt size address values far new.far
load_refused size address count was values None first mid new before ready aligned ends below a r =
    refused_untold size address values mid new (awaited_untold size address was first values mid before a) r
load_refused size address count was values (Some f) first mid new before ready aligned ends below a r =
    let e : EndAt size address count r.last (site_of f) values r.mid.far =
    end_at size address count r.last (site_of f) values mid r.mid
    (stands_told size address count was values f first mid before ready aligned ends below a) r.polled in
    refused_by size address count r.last values f r.mid new r.outside r.cleared e e.end

-- ---- of a told chip no other error is shown

odd_by : (size : Size) (address count last : ℕ) (s : Site) (values : List ℕ) (value : ℕ) (t : Site) → bus_error last ≢ outside_error
    → (bus_error last ≢ 0) ⊎ (bus_collided last ≡ true) → LoadEnd size address count s values value last t → ⊥
odd_by size address count last s values value t other some (LoadEnd.loaded v r error collided) = odd_fine last some error collided
odd_by size address count last s values value t other some (LoadEnd.refused r error) = other error

pub load_oddly : (size : Size) (address count last : ℕ) (was values : List ℕ) (far : Option Far) (first mid new : Tells)
    → WhereTold (BusBlockLoadedAt size address was) far first.far → IsReady first.far → is_aligned address size ≡ true
    → address + count * count_of size ≤ 2 ^ 64 → length values < count → LoadsAwaited size address was first values mid → BusPolled last mid new
    → bus_error last ≢ outside_error → (bus_error last ≢ 0) ⊎ (bus_collided last ≡ true) → far ≡ None
load_oddly size address count last was values None first mid new before ready aligned ends below a p other some = refl
load_oddly size address count last was values (Some f) first mid new before ready aligned ends below a p other some =
    let e : EndAt size address count last (site_of f) values new.far =
    end_at size address count last (site_of f) values mid new
    (stands_told size address count was values f first mid before ready aligned ends below a) p in
    absurd (odd_by size address count last (site_of f) values e.value (site_of e.far) other some e.end)
