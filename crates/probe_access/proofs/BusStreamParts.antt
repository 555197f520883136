-- The calls of a run of loads by the system bus, one part behind another.
use Rattle.std.proofs.Common.{◌≡◌, ◌≢◌, ◌⊎◌, ◌∙◌, ◌≤◌, ◌<◌, ◌+◌, ◌-◌, ◌++◌, ℕ, List, [], ◌∷◌, length, map, true, false, refl, sym, ap, subst, inl, inr, append_assoc, length-append, arith}
use Rattle.std.proofs.lemmas.List.Elements.{All-cons}
use Rattle.rv_model.specs.declared.size.Size.{Size}
use Rattle.debug_model.specs.Addresses.{sbcs_address}
use Rattle.debug_model.specs.declared.dmi.DmiFault.{DmiFault}
use Rattle.probe_access.specs.declared.fault.AccessFault.{AccessFault}
use Rattle.probe_access.specs.declared.fault.AccessFault.TheVariants as access_fault
use Rattle.probe_run.specs.Acts.{Did, Tells}
use Rattle.probe_run.specs.Acts.Act.{Put}
use Rattle.probe_run.proofs.ActLemmas.{did_list, did_then}
use Rattle.probe_access.specs.BusRuns.{BusPollFailed, ShowsAccess, Starting, bus_busy, bus_collided, bus_error, bus_poll, outside_error}
use Rattle.probe_access.specs.BusStreams.{EndPolled, EndRead, Ending, FrontRead, MoreRead, PolledOn, ReadingData, RunFailed, RunRead, run_started, running}
use Rattle.probe_access.specs.BusStreams.RunFailed.{in_start, in_front, in_end, in_polls}
use Rattle.probe_access.specs.Faults.{Among, BrokeIn}
use Rattle.probe_access.proofs.BusStreamOutcomes.{poll_counted}
use Rattle.probe_access.proofs.RegisterCalls.{broke_counted}

pub start_failed : (size : Size) (address count old_count new_count : ℕ) (old new : Tells) (why : DmiFault)
    → BrokeIn (Among (Starting (run_started size address))) old_count new_count old new.far why
    → RunFailed size address count old_count new_count old new (access_fault.Dmi why)
start_failed size address count old_count new_count old new why b = in_start why refl b

pub front_read : (size : Size) (address count : ℕ) (was front : List ℕ) (old begun new : Tells) → was ≡ [] → 1 ≤ count
    → Did old (run_started size address) begun → MoreRead size (count - 1) was front begun new → FrontRead size address count front old new
front_read size address count was front old begun new none some did more =
    let joined_is : front ≡ more.values = more.joins ∙ ap (λ xs. xs ++ more.values) none in
    let long : length front ≡ length more.values = ap length joined_is in
    let k : length more.values ≡ count - 1 = more.count in
    record {
      one_less = omega (arith, long, k, some);
      begun = begun;
      starts = did;
      first = record {
        values = more.values;
        joins = joined_is;
        count = sym long;
        acts = more.acts;
        read = more.read;
        did = more.did;
      };
    }

pub front_failed : (size : Size) (address count count_then mid_count new_count : ℕ) (old begun new : Tells) (why : DmiFault) → 1 ≤ count
    → Did old (run_started size address) begun → count_then ≤ mid_count → mid_count ≤ new_count
    → BrokeIn (Among (ReadingData (count - 1))) mid_count new_count begun new.far why
    → RunFailed size address count count_then new_count old new (access_fault.Dmi why)
front_failed size address count count_then mid_count new_count old begun new why some did le later b =
    in_front (count - 1) (omega (arith, some)) begun did why refl
    (broke_counted (Among (ReadingData (count - 1))) count_then mid_count new_count begun new.far why le later b)

pub end_failed : (size : Size) (address count count_then mid_count new_count : ℕ) (front : List ℕ) (old read new : Tells) (why : DmiFault)
    → FrontRead size address count front old read → count_then ≤ mid_count → mid_count ≤ new_count
    → BrokeIn (Among (Ending size)) mid_count new_count read new.far why
    → RunFailed size address count count_then new_count old new (access_fault.Dmi why)
end_failed size address count count_then mid_count new_count front old read new why r le later b =
    in_end front read r why refl (broke_counted (Among (Ending size)) count_then mid_count new_count read new.far why le later b)

pub polls_failed : (size : Size) (address count count_then mid_count new_count shown : ℕ) (front values : List ℕ) (old read mid new : Tells)
    (e : AccessFault) → FrontRead size address count front old read → EndRead size front values shown read mid → count_then ≤ mid_count
    → mid_count ≤ new_count → BusPollFailed mid_count new_count mid new e → RunFailed size address count count_then new_count old new e
polls_failed size address count count_then mid_count new_count shown front values old read mid new e r ends le later b =
    in_polls front values shown read mid r ends (poll_counted count_then mid_count new_count mid new e le later b)

-- ---- the end

all_read : (size : Size) (address count : ℕ) (front values more : List ℕ) (old read : Tells) → FrontRead size address count front old read
    → values ≡ front ++ more → length more ≡ 1 → length values ≡ count
all_read size address count front values more old read r joins one =
    let j : length values ≡ length (front ++ more) = ap length joins in
    let e : length (front ++ more) ≡ length front + length more = length-append front more in
    let less : length front + 1 ≡ count = r.one_less in
    omega (arith, j, e, one, less)

ended_by : (size : Size) (front values : List ℕ) (shown last : ℕ) (read mid new : Tells) → EndRead size front values shown read mid
    → PolledOn shown last mid new → EndPolled size front values last read new
ended_by size front values shown last read mid new e (PolledOn.at_once idle is same) = record {
  values = e.values;
  joins = e.joins;
  count = e.count;
  acts = e.acts;
  read = e.read;
  words = [];
  busy = λ k d h. absurd (omega arith);
  few = omega arith;
  idle = subst (λ w. bus_busy w ≡ false) (sym is) idle;
  did = subst (λ (t : Tells). Did read (Put sbcs_address (running false size) ∷ (e.acts ++ bus_poll last ∷ [])) t) (sym same)
      (subst (λ w. Did read (Put sbcs_address (running false size) ∷ (e.acts ++ bus_poll w ∷ [])) mid) (sym is) e.did);
}
ended_by size front values shown last read mid new e (PolledOn.later busy p) = record {
  values = e.values;
  joins = e.joins;
  count = e.count;
  acts = e.acts;
  read = e.read;
  words = shown ∷ p.words;
  busy = All-cons ShowsAccess shown p.words busy p.vain.busy;
  few = let k : length p.words < 64 = p.vain.few in omega (arith, k);
  idle = p.idle;
  did = did_list ((Put sbcs_address (running false size) ∷ (e.acts ++ bus_poll shown ∷ [])) ++ (map bus_poll p.words ++ bus_poll last ∷ []))
      (Put sbcs_address (running false size) ∷ (e.acts ++ (bus_poll shown ∷ (map bus_poll p.words ++ bus_poll last ∷ [])))) read new
      (ap (λ xs. Put sbcs_address (running false size) ∷ xs) (append_assoc e.acts (bus_poll shown ∷ []) (map bus_poll p.words ++ bus_poll last ∷ [])))
      (did_then _ read mid e.did _ new p.did);
}

pub run_read : (size : Size) (address count shown last : ℕ) (front values : List ℕ) (old read mid new : Tells)
    → FrontRead size address count front old read → EndRead size front values shown read mid → PolledOn shown last mid new
    → RunRead size address count last values old new
run_read size address count shown last front values old read mid new r e p = record {
  all = all_read size address count front values e.values old read r e.joins e.count;
  ran = record {
    begun = r.begun;
    starts = r.starts;
    front = front;
    read = read;
    first = r.first;
    ends = ended_by size front values shown last read mid new e p;
  };
}

-- ---- a word was read too early

pub too_early : (last : ℕ) → ((bus_error last ≢ 0) ⊎ (bus_collided last ≡ true)) → ((bus_error last ≡ 0) ⊎ (bus_error last ≡ outside_error))
    → bus_error last ≢ outside_error → (bus_error last ≡ 0) × (bus_collided last ≡ true)
too_early last (inl some) (inl none) other = absurd (some none)
too_early last (inr early) (inl none) other = (none, early)
too_early last some (inr outside) other = absurd (other outside)
