-- What stores by the system bus that are each awaited come to, behind others: at a told chip, where they broke off, and what their faults follow.
use Rattle.std.proofs.Common.{◌≡◌, ◌≢◌, ◌⊎◌, ◌≤◌, ◌<◌, ◌+◌, ◌*◌, ◌++◌, ◌^◌, ℕ, List, [], ◌∷◌, map, true, false, Option, Some, None, refl, sym, subst, arith}
use Rattle.rv_model.specs.declared.size.Size.{Size}
use Rattle.rv_model.specs.Memory.{is_aligned}
use Rattle.rv_model.specs.Size.{count_of}
use Rattle.debug_model.specs.Addresses.{sbcs_address}
use Rattle.debug_model.specs.Module.{Site}
use Rattle.debug_model.specs.Scan.{WhereTold}
use Rattle.debug_model.specs.Told.{Far, IsReady, SiteReady, site_of}
use Rattle.probe_run.specs.Acts.{Did, Tells}
use Rattle.probe_run.specs.Acts.Act.{Put}
use Rattle.probe_run.specs.Opening.{clears_sberror}
use Rattle.probe_access.specs.Blocks.{element_at, value_at}
use Rattle.probe_access.specs.BusAwaits.{StoresAwaited}
use Rattle.probe_access.specs.BusBlocks.{BusValueStoreRefused, BusValuesStoredAt, BusStoredValues}
use Rattle.probe_access.specs.BusRuns.{BusPolled, BusRefused, bus_collided, bus_error, bus_poll, outside_error}
use Rattle.probe_access.specs.BusStoreStreams.{element_puts, stores_started, upper_at}
use Rattle.probe_access.proofs.Along.{AtSites, did_sites, did_untold}
use Rattle.probe_access.proofs.BusStoreAwaits.{WentEnd, polls_ended, put_went, refused_cleared}
use Rattle.probe_access.proofs.BusStoreEnds.{NextRefused, still_stored}
use Rattle.probe_access.proofs.BusStoreOutcomes.{StoresTold, told_stored, untold_stored}
use Rattle.probe_access.proofs.BusStoreSites.{Still, Went}
use Rattle.probe_access.proofs.BusStoreStarts.{started_at, still_from}
use Rattle.probe_access.proofs.BusStoreSteps.{next_upper}
use Rattle.probe_access.proofs.BusStreamOutcomes.{odd_fine, two_not_zero}

-- ---- where they stand

pub record StillAt (size : Size) (address : ℕ) (values : List ℕ) (n : ℕ) (s : Site) (told : Option Far) : Type 0 where
  pub far : Far
  pub is : told ≡ Some far
  pub still : Still size address values s false n (upper_at values n) (site_of far)

pub record WentAt (size : Size) (address : ℕ) (values : List ℕ) (n : ℕ) (s : Site) (told : Option Far) : Type 0 where
  pub far : Far
  pub is : told ≡ Some far
  pub went : Went size address values s false n (site_of far)

pub record EndAt (size : Size) (address : ℕ) (values : List ℕ) (n last : ℕ) (s : Site) (told : Option Far) : Type 0 where
  pub far : Far
  pub is : told ≡ Some far
  pub end : WentEnd size address values s n last (site_of far)

pub went_at : (size : Size) (address : ℕ) (values : List ℕ) (count n : ℕ) (s : Site) (mid asked : Tells) → is_aligned address size ≡ true
    → address + count * count_of size ≤ 2 ^ 64 → n < count → StillAt size address values n s mid.far
    → Did mid (element_puts (upper_at values n) (value_at values n)) asked → WentAt size address values n s asked.far
went_at size address values count n s mid asked aligned ends below a did =
    let q : AtSites (element_puts (upper_at values n) (value_at values n)) a.far asked.far = did_sites mid _ asked a.far did a.is in
    record { far = q.far; is = q.is; went = put_went size address values count s n (site_of a.far) (site_of q.far) aligned ends below a.still q.acts_are }

pub end_at : (size : Size) (address : ℕ) (values : List ℕ) (n last : ℕ) (s : Site) (asked new : Tells) → WentAt size address values n s asked.far
    → BusPolled last asked new
    → EndAt size address values n last s new.far
end_at size address values n last s asked new w p =
    let q : AtSites (map bus_poll p.words ++ bus_poll last ∷ []) w.far new.far = did_sites asked _ new w.far p.did w.is in
    record { far = q.far; is = q.is; end = polls_ended size address values s n p.words last (site_of w.far) (site_of q.far) p.idle w.went q.acts_are }

stored_by : (size : Size) (address : ℕ) (values : List ℕ) (n last : ℕ) (s : Site) (told : Option Far) → bus_error last ≡ 0
    → (e : EndAt size address values n last s told)
    → WentEnd size address values s n last (site_of e.far) → StillAt size address values (n + 1) s told
stored_by size address values n last s told fine e (WentEnd.stored r error collided) = record {
  far = e.far;
  is = e.is;
  still = subst (λ u. Still size address values s false (n + 1) u (site_of e.far)) (next_upper values n) r;
}
stored_by size address values n last s told fine e (WentEnd.refused r error) = absurd (two_not_zero (bus_error last) error fine)

pub still_at : (size : Size) (address : ℕ) (values : List ℕ) (count from : ℕ) (s : Site) (g : Far) (old : Tells) (n : ℕ) (new : Tells) → old.far ≡ Some g
    → BusStoredValues size address values s from (site_of g) → SiteReady (site_of g) → is_aligned address size ≡ true
    → address + count * count_of size ≤ 2 ^ 64 → from < count → n ≤ count → StoresAwaited size address values from old n new
    → StillAt size address values n s new.far
still_at size address values count from s g old _ new is each ready aligned ends below within (StoresAwaited.begun _ did) =
    let at : ℕ = element_at size address from in
    let q : AtSites (stores_started size at (upper_at values from)) g new.far = did_sites old _ new g did is in
    record {
      far = q.far;
      is = q.is;
      still = still_from size address values count (upper_at values from) s from (site_of g) (site_of q.far) each ready ends below
          (started_at size at (upper_at values from) (site_of g) (site_of q.far) ready q.acts_are);
    }
still_at size address values count from s g old _ new is each ready aligned ends below within (StoresAwaited.next n mid _ before one) =
    let a : StillAt size address values n s mid.far =
    still_at size address values count from s g old n mid is each ready aligned ends below (omega (arith, within)) before in
    let e : EndAt size address values n one.ends.last s new.far =
    end_at size address values n one.ends.last s one.asked new
    (went_at size address values count n s mid one.asked aligned ends (omega (arith, within)) a one.put) one.ends.polled in
    stored_by size address values n one.ends.last s new.far one.ends.fine e e.end

pub awaited_untold : (size : Size) (address : ℕ) (values : List ℕ) (from : ℕ) (old : Tells) (n : ℕ) (new : Tells) → old.far ≡ None
    → StoresAwaited size address values from old n new
    → new.far ≡ None
awaited_untold size address values from old _ new none (StoresAwaited.begun _ did) = did_untold old _ new did none
awaited_untold size address values from old _ new none (StoresAwaited.next n mid _ before one) =
    did_untold one.asked _ new one.ends.polled.did
    (did_untold mid _ one.asked one.put (awaited_untold size address values from old n mid none before))

-- ---- what is stored

ready_of : (far : Option Far) (g : Far) → far ≡ Some g → IsReady far → SiteReady (site_of g)
ready_of far g is r = subst (λ (o : Option Far). IsReady o) is r

-- with so many stored before
pub still_told : (size : Size) (address : ℕ) (values : List ℕ) (count from n : ℕ) (f : Far) (mid new : Tells)
    → WhereTold (BusValuesStoredAt size address values from) (Some f) mid.far
    → IsReady mid.far → is_aligned address size ≡ true → address + count * count_of size ≤ 2 ^ 64 → from < count → n ≤ count
    → StoresAwaited size address values from mid n new → StillAt size address values n (site_of f) new.far
still_told size address values count from n f mid new before ready aligned ends below within a =
    still_at size address values count from (site_of f) before.far mid n new before.is before.each (ready_of mid.far before.far before.is ready) aligned ends
    below within a

pub stores_awaited : (size : Size) (address : ℕ) (values : List ℕ) (count from : ℕ) (far : Option Far) (mid new : Tells)
    → WhereTold (BusValuesStoredAt size address values from) far mid.far → IsReady mid.far → is_aligned address size ≡ true
    → address + count * count_of size ≤ 2 ^ 64 → from < count → StoresAwaited size address values from mid count new
    → StoresTold size address values count far new.far
stores_awaited size address values count from None mid new before ready aligned ends below a =
    untold_stored size address values count new.far (awaited_untold size address values from mid count new before a)
stores_awaited size address values count from (Some f) mid new before ready aligned ends below a =
    let r : StillAt size address values count (site_of f) new.far =
    still_told size address values count from count f mid new before ready aligned ends below (omega arith) a in
    told_stored size address values count f r.far new.far r.is
    (still_stored size address values (site_of f) count (upper_at values count) (site_of r.far) (omega (arith, below)) r.still)

-- ---- what is refused

pub record RefusedAt (size : Size) (address : ℕ) (values : List ℕ) (n : ℕ) (old new : Option Far) : Type 0 where
  pub refused : WhereTold (BusValueStoreRefused size address values n) old new
  pub ready : IsReady new

refused_by : (size : Size) (address : ℕ) (values : List ℕ) (n last : ℕ) (f : Far) (polled new : Tells) → bus_error last ≡ outside_error
    → Did polled (Put sbcs_address clears_sberror ∷ []) new → (e : EndAt size address values n last (site_of f) polled.far)
    → WentEnd size address values (site_of f) n last (site_of e.far) → RefusedAt size address values n (Some f) new.far
refused_by size address values n last f polled new outside did e (WentEnd.stored r error collided) = absurd (two_not_zero (bus_error last) outside error)
refused_by size address values n last f polled new outside did e (WentEnd.refused r error) =
    let q : AtSites (Put sbcs_address clears_sberror ∷ []) e.far new.far = did_sites polled _ new e.far did e.is in
    let x : NextRefused size address values n (site_of f) (site_of q.far) =
    refused_cleared size address values (site_of f) n (site_of e.far) (site_of q.far) r q.acts_are in
    record {
      refused = record { far = q.far; is = q.is; mid = x.mid; each = x.each; refused = x.refused };
      ready = subst (λ (o : Option Far). IsReady o) (sym q.is) x.ready;
    }

refused_untold : (size : Size) (address : ℕ) (values : List ℕ) (n : ℕ) (asked new : Tells) → asked.far ≡ None → BusRefused asked new
    → RefusedAt size address values n None new.far
refused_untold size address values n asked new none r =
    let end : new.far ≡ None = did_untold r.mid _ new r.cleared (did_untold asked _ r.mid r.polled.did none) in
    record { refused = end; ready = subst (λ (o : Option Far). IsReady o) (sym end) tt }

pub store_refused : (size : Size) (address : ℕ) (values : List ℕ) (count from n : ℕ) (far : Option Far) (first mid asked new : Tells)
    → WhereTold (BusValuesStoredAt size address values from) far first.far → IsReady first.far → is_aligned address size ≡ true
    → address + count * count_of size ≤ 2 ^ 64 → from < count → n < count → StoresAwaited size address values from first n mid
    → Did mid (element_puts (upper_at values n) (value_at values n)) asked → BusRefused asked new → RefusedAt size address values n far new.far
store_refused size address values count from n None first mid asked new before ready aligned ends below few a did r =
    refused_untold size address values n asked new (did_untold mid _ asked did (awaited_untold size address values from first n mid before a)) r
store_refused size address values count from n (Some f) first mid asked new before ready aligned ends below few a did r =
    let e : EndAt size address values n r.last (site_of f) r.mid.far =
    end_at size address values n r.last (site_of f) asked r.mid
    (went_at size address values count n (site_of f) mid asked aligned ends few
    (still_told size address values count from n f first mid before ready aligned ends below (omega (arith, few)) a) did) r.polled in
    refused_by size address values n r.last f r.mid new r.outside r.cleared e e.end

-- ---- of a told chip no other error is shown

odd_by : (size : Size) (address : ℕ) (values : List ℕ) (n last : ℕ) (s : Site) (t : Site) → bus_error last ≢ outside_error
    → (bus_error last ≢ 0) ⊎ (bus_collided last ≡ true)
    → WentEnd size address values s n last t → ⊥
odd_by size address values n last s t other some (WentEnd.stored r error collided) = odd_fine last some error collided
odd_by size address values n last s t other some (WentEnd.refused r error) = other error

pub store_oddly : (size : Size) (address : ℕ) (values : List ℕ) (count from n last : ℕ) (far : Option Far) (first mid asked new : Tells)
    → WhereTold (BusValuesStoredAt size address values from) far first.far → IsReady first.far → is_aligned address size ≡ true
    → address + count * count_of size ≤ 2 ^ 64 → from < count → n < count → StoresAwaited size address values from first n mid
    → Did mid (element_puts (upper_at values n) (value_at values n)) asked → BusPolled last asked new → bus_error last ≢ outside_error
    → (bus_error last ≢ 0) ⊎ (bus_collided last ≡ true) → far ≡ None
store_oddly size address values count from n last None first mid asked new before ready aligned ends below few a did p other some = refl
store_oddly size address values count from n last (Some f) first mid asked new before ready aligned ends below few a did p other some =
    let e : EndAt size address values n last (site_of f) new.far =
    end_at size address values n last (site_of f) asked new
    (went_at size address values count n (site_of f) mid asked aligned ends few
    (still_told size address values count from n f first mid before ready aligned ends below (omega (arith, few)) a) did) p in
    absurd (odd_by size address values n last (site_of f) (site_of e.far) other some e.end)
