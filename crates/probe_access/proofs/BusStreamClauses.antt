-- The clauses of a run of loads by the system bus, where the chip is told.
use Rattle.std.proofs.Common.{◌≡◌, ◌∙◌, ◌≤◌, ◌<◌, ◌+◌, ◌*◌, ◌++◌, ◌^◌, ◌%◌, ℕ, List, [], ◌∷◌, length, map, true, false, Option, Some, None, refl, sym, ap, subst, length-append, arith}
use Rattle.std.proofs.lemmas.Bool.{false≢true}
use Rattle.rv_model.specs.declared.size.Size.{Size}
use Rattle.rv_model.specs.Memory.{is_aligned}
use Rattle.rv_model.specs.Size.{count_of}
use Rattle.debug_model.specs.Addresses.{sbcs_address}
use Rattle.debug_model.specs.Dmi.{DmiComing}
use Rattle.debug_model.specs.Scan.{WhereTold}
use Rattle.debug_model.specs.Told.{Far, IsReady, SiteReady, site_of}
use Rattle.debug_model.specs.Module.{Site}
use Rattle.probe_run.specs.Acts.{Act, Did, Tells, tells}
use Rattle.probe_run.specs.Acts.Act.{Put}
use Rattle.probe_access.specs.Blocks.{element_at}
use Rattle.probe_access.specs.BusBlocks.{BusBlockLoadRefused, BusBlockLoadedAt}
use Rattle.probe_access.specs.BusRuns.{bus_collided, bus_error, bus_poll, cut_to}
use Rattle.probe_access.specs.BusStreams.{ElementsRead, EndPolled, EndRead, FrontRead, Handed, MoreRead, Ran, RanThrough, Stopped, found_acts}
use Rattle.probe_access.specs.BusStreams.{run_started, running}
use Rattle.probe_access.specs.RegisterAccess.{joined}
use Rattle.probe_access.proofs.Along.{AtSites, SiteActs, Split, did_sites, did_untold, site_acts-split}
use Rattle.probe_access.proofs.BusStreamEnds.{AllLoaded, AllRefused, Ended, done_ended, early_loaded, polls_done, refused_left, rest_loaded}
use Rattle.probe_access.proofs.BusStreamSteps.{elements_going, going_first, going_stops, last_done}
use Rattle.probe_access.proofs.BusStreamTold.{Done, Going}

-- ---- along the calls

pub record FrontAt (size : Size) (address count : ℕ) (front : List ℕ) (f : Far) (told : Option Far) : Type 0 where
  pub far : Far
  pub is : told ≡ Some far
  pub going : Going size address count (site_of f) true front (site_of far)

pub record DoneAt (size : Size) (address count : ℕ) (read : List ℕ) (f : Far) (told : Option Far) : Type 0 where
  pub far : Far
  pub is : told ≡ Some far
  pub done : Done size address count (site_of f) read (site_of far)

pub record EndedAt (size : Size) (address count : ℕ) (read : List ℕ) (last : ℕ) (f : Far) (told : Option Far) : Type 0 where
  pub far : Far
  pub is : told ≡ Some far
  pub ended : Ended size address count (site_of f) read last (site_of far)

pub begun_at : (size : Size) (address count : ℕ) (f : Far) (coming : Option DmiComing) (begun : Tells) → SiteReady (site_of f) → is_aligned address size ≡ true
    → 0 < count → Did (tells (Some f) coming) (run_started size address) begun → FrontAt size address count [] f begun.far
begun_at size address count f coming begun ready aligned some did =
    let one : AtSites (run_started size address) f begun.far = did_sites (tells (Some f) coming) (run_started size address) begun f did refl in
    record { far = one.far; is = one.is; going = going_first size address count (site_of f) (site_of one.far) ready aligned some one.acts_are }

front_by : (size : Size) (address count : ℕ) (front : List ℕ) (f : Far) (begun read : Tells) → is_aligned address size ≡ true
    → address + count * count_of size ≤ 2 ^ 64 → length front + 1 ≡ count → FrontAt size address count [] f begun.far
    → MoreRead size (length front) [] front begun read → FrontAt size address count front f read.far
front_by size address count front f begun read aligned ends one_less g more =
    let two : AtSites more.acts g.far read.far = did_sites begun more.acts read g.far more.did g.is in
    let long : length more.values ≡ length front = more.count in
    record {
      far = two.far;
      is = two.is;
      going = subst (λ xs. Going size address count (site_of f) true xs (site_of two.far)) (sym more.joins)
          (elements_going size address count (site_of f) [] more.values more.acts (site_of g.far) (site_of two.far) aligned ends
          (omega (arith, long, one_less)) more.read g.going two.acts_are);
    }

pub front_at : (size : Size) (address count : ℕ) (front : List ℕ) (f : Far) (coming : Option DmiComing) (read : Tells) → SiteReady (site_of f)
    → is_aligned address size ≡ true → address + count * count_of size ≤ 2 ^ 64 → FrontRead size address count front (tells (Some f) coming) read
    → FrontAt size address count front f read.far
front_at size address count front f coming read ready aligned ends r =
    front_by size address count front f r.begun read aligned ends r.one_less
    (begun_at size address count f coming r.begun ready aligned (let e : length front + 1 ≡ count = r.one_less in omega (arith, e)) r.starts) r.first

pub run_front : (size : Size) (address count last : ℕ) (read : List ℕ) (old new : Tells) → length read ≡ count
    → (r : Ran size address read last old new) → FrontRead size address count r.front old r.read
run_front size address count last read old new all r = record {
  one_less = let e : length (r.front ++ r.ends.values) ≡ length r.front + length r.ends.values = length-append r.front r.ends.values in
      let one : length r.ends.values ≡ 1 = r.ends.count in let j : length read ≡ length (r.front ++ r.ends.values) = ap length r.ends.joins in
      omega (arith, e, one, j, all);
  begun = r.begun;
  starts = r.starts;
  first = r.first;
}

-- behind the last element's words
pub done_site : (size : Size) (address count : ℕ) (front values : List ℕ) (acts : List Act) (s x t : Site) → length values ≡ 1
    → ElementsRead size values acts → Going size address count s true front x → SiteActs (Put sbcs_address (running false size) ∷ acts) x t
    → Done size address count s (front ++ values) t
done_site size address count front values acts s x t one read g p =
    last_done size address count s front values acts p.0 t one read
    (going_stops size address count s front x p.0 g (p.0, p.1, refl)) p.2

pub end_at : (size : Size) (address count shown : ℕ) (front values : List ℕ) (f : Far) (read mid : Tells) → FrontAt size address count front f read.far
    → EndRead size front values shown read mid → DoneAt size address count values f mid.far
end_at size address count shown front values f read mid g e =
    let words : List Act = Put sbcs_address (running false size) ∷ e.acts in
    let p : AtSites (words ++ bus_poll shown ∷ []) g.far mid.far = did_sites read _ mid g.far e.did g.is in
    let q : Split words (bus_poll shown ∷ []) (site_of g.far) (site_of p.far) =
    site_acts-split words (bus_poll shown ∷ []) (site_of g.far) (site_of p.far) p.acts_are in
    record {
      far = p.far;
      is = p.is;
      done = subst (λ xs. Done size address count (site_of f) xs (site_of p.far)) (sym e.joins)
          (polls_done size address count (site_of f) (front ++ e.values) (shown ∷ []) q.mid (site_of p.far)
          (done_site size address count front e.values e.acts (site_of f) (site_of g.far) q.mid e.count e.read g.going q.first) q.rest);
    }

pub polled_at : (size : Size) (address count last : ℕ) (front values : List ℕ) (f : Far) (read new : Tells) → FrontAt size address count front f read.far
    → EndPolled size front values last read new → EndedAt size address count values last f new.far
polled_at size address count last front values f read new g e =
    let words : List Act = Put sbcs_address (running false size) ∷ e.acts in
    let looks : List Act = map bus_poll e.words ++ bus_poll last ∷ [] in
    let p : AtSites (words ++ looks) g.far new.far = did_sites read _ new g.far e.did g.is in
    let q : Split words looks (site_of g.far) (site_of p.far) = site_acts-split words looks (site_of g.far) (site_of p.far) p.acts_are in
    record {
      far = p.far;
      is = p.is;
      ended = subst (λ xs. Ended size address count (site_of f) xs last (site_of p.far)) (sym e.joins)
          (done_ended size address count (site_of f) (front ++ e.values) e.words last q.mid (site_of p.far) e.idle
          (done_site size address count front e.values e.acts (site_of f) (site_of g.far) q.mid e.count e.read g.going q.first) q.rest);
    }

pub ended_at : (size : Size) (address count last : ℕ) (read : List ℕ) (f : Far) (coming : Option DmiComing) (new : Tells) → SiteReady (site_of f)
    → is_aligned address size ≡ true → address + count * count_of size ≤ 2 ^ 64 → length read ≡ count
    → Ran size address read last (tells (Some f) coming) new → EndedAt size address count read last f new.far
ended_at size address count last read f coming new ready aligned ends all r =
    polled_at size address count last r.front read f r.read new
    (front_at size address count r.front f coming r.read ready aligned ends
    (run_front size address count last read (tells (Some f) coming) new all r)) r.ends

-- ---- what is loaded

pub record RunLoaded (size : Size) (address : ℕ) (values : List ℕ) (old new : Option Far) : Type 0 where
  pub loaded : WhereTold (BusBlockLoadedAt size address values) old new
  pub ready : IsReady new

pub told_loaded : (size : Size) (address : ℕ) (values : List ℕ) (f g : Far) (new : Option Far) → new ≡ Some g
    → AllLoaded size address values (site_of f) (site_of g) → RunLoaded size address values (Some f) new
told_loaded size address values f g new is a =
    record { loaded = record { far = g; is = is; each = a.each }; ready = subst (λ (o : Option Far). IsReady o) (sym is) a.ready }

ran_untold : (size : Size) (address last : ℕ) (read : List ℕ) (coming : Option DmiComing) (new : Tells) → Ran size address read last (tells None coming) new
    → new.far ≡ None
ran_untold size address last read coming new r =
    did_untold r.read _ new r.ends.did (did_untold r.begun _ r.read r.first.did (did_untold (tells None coming) _ r.begun r.starts refl))

pub none_loaded : (size : Size) (address : ℕ) (values : List ℕ) (new : Option Far) → new ≡ None → RunLoaded size address values None new
none_loaded size address values new is = record { loaded = is; ready = subst (λ (o : Option Far). IsReady o) (sym is) tt }

not_zero : (n : ℕ) → n ≡ 2 → n ≡ 0 → ⊥
not_zero n two none = omega arith

through_by : (size : Size) (address count : ℕ) (values : List ℕ) (last : ℕ) (f : Far) (told : Option Far) → bus_error last ≡ 0 → bus_collided last ≡ false
    → (e : EndedAt size address count values last f told) → Ended size address count (site_of f) values last (site_of e.far)
    → RunLoaded size address values (Some f) told
through_by size address count values last f told fine alone e (Ended.fine front v r is error collided) =
    told_loaded size address values f e.far told e.is
    (subst (λ xs. AllLoaded size address xs (site_of f) (site_of e.far)) (sym is) (rest_loaded size address count (site_of f) front v (site_of e.far) r))
through_by size address count values last f told fine alone e (Ended.early on_data front rest v r is error collided) =
    absurd (false≢true (sym alone ∙ collided))
through_by size address count values last f told fine alone e (Ended.refused on_data c front rest v r last_is is error) =
    absurd (not_zero (bus_error last) error fine)

pub ran_through : (size : Size) (address count : ℕ) (values : List ℕ) (far : Option Far) (coming : Option DmiComing) (new : Tells) → IsReady far
    → is_aligned address size ≡ true → address + count * count_of size ≤ 2 ^ 64 → length values ≡ count
    → RanThrough size address values (tells far coming) new → RunLoaded size address values far new.far
ran_through size address count values None coming new ready aligned ends all r =
    none_loaded size address values new.far (ran_untold size address r.last values coming new r.ran)
ran_through size address count values (Some f) coming new ready aligned ends all r =
    let e : EndedAt size address count values r.last f new.far =
    ended_at size address count r.last values f coming new ready aligned ends all r.ran in
    through_by size address count values r.last f new.far r.fine r.alone e e.ended

record FoundValues (size : Size) (address low high data0 data1 : ℕ) (read values : List ℕ) : Type 0 where
  place : joined low high ≡ element_at size address (length values) % 2 ^ 64
  within : length values ≤ length read
  handed : Handed read (cut_to size (joined data0 data1)) values

found_of : (size : Size) (address count last : ℕ) (values : List ℕ) (old new : Tells) → (s : Stopped size address count last values old new)
    → FoundValues size address s.low s.high s.data0 s.data1 s.read values
found_of size address count last values old new s = record { place = s.place; within = s.within; handed = s.handed }

early_by : (size : Size) (address count last : ℕ) (values read : List ℕ) (f : Far) (polled new : Tells) (low high data0 data1 : ℕ)
    → address + count * count_of size ≤ 2 ^ 64 → count ≤ 512 → length read ≡ count → bus_error last ≡ 0 → bus_collided last ≡ true
    → (e : EndedAt size address count read last f polled.far) → Did polled (found_acts low high data0 data1) new
    → FoundValues size address low high data0 data1 read values → Ended size address count (site_of f) read last (site_of e.far)
    → RunLoaded size address values (Some f) new.far
early_by size address count last values read f polled new low high data0 data1 ends few all fine early e did v (Ended.fine front w r is error collided) =
    absurd (false≢true (sym collided ∙ early))
early_by size address count last values read f polled new low high data0 data1 ends few all fine early e did v
    (Ended.early on_data front rest w r is error collided) =
    let q : AtSites (found_acts low high data0 data1) e.far new.far = did_sites polled _ new e.far did e.is in
    told_loaded size address values f q.far new.far q.is
    (early_loaded size address count (site_of f) on_data read front rest values w low high data0 data1 (site_of e.far) (site_of q.far) ends few r is
    q.acts_are v.place (let k : length values ≤ length read = v.within in omega (arith, k, all)) v.handed)
early_by size address count last values read f polled new low high data0 data1 ends few all fine early e did v
    (Ended.refused on_data c front rest w r last_is is error) =
    absurd (not_zero (bus_error last) error fine)

stopped_untold : (size : Size) (address count last : ℕ) (values : List ℕ) (coming : Option DmiComing) (new : Tells)
    → Stopped size address count last values (tells None coming) new → new.far ≡ None
stopped_untold size address count last values coming new s =
    did_untold s.polled _ new s.found (ran_untold size address last s.read coming s.polled s.runs)

pub ran_on : (size : Size) (address count last : ℕ) (values : List ℕ) (far : Option Far) (coming : Option DmiComing) (new : Tells) → IsReady far
    → is_aligned address size ≡ true → address + count * count_of size ≤ 2 ^ 64 → count ≤ 512
    → (s : Stopped size address count last values (tells far coming) new) → bus_error last ≡ 0 → bus_collided last ≡ true
    → RunLoaded size address values far new.far
ran_on size address count last values None coming new ready aligned ends few s fine early =
    none_loaded size address values new.far (stopped_untold size address count last values coming new s)
ran_on size address count last values (Some f) coming new ready aligned ends few s fine early =
    let e : EndedAt size address count s.read last f s.polled.far =
    ended_at size address count last s.read f coming s.polled ready aligned ends s.all s.runs in
    early_by size address count last values s.read f s.polled new s.low s.high s.data0 s.data1 ends few s.all fine early e s.found
    (found_of size address count last values (tells (Some f) coming) new s) e.ended

-- ---- what is refused

pub record RunRefused (size : Size) (address count : ℕ) (values : List ℕ) (old new : Option Far) : Type 0 where
  pub refused : WhereTold (BusBlockLoadRefused size address values) old new
  pub ready : IsReady new
  pub below : WhereTold (λ c told. length values < count) old new

refused_by : (size : Size) (address count last : ℕ) (values read : List ℕ) (f : Far) (polled new : Tells) (low high data0 data1 : ℕ)
    → address + count * count_of size ≤ 2 ^ 64 → count ≤ 512 → length read ≡ count → bus_error last ≡ 2
    → (e : EndedAt size address count read last f polled.far) → Did polled (found_acts low high data0 data1) new
    → FoundValues size address low high data0 data1 read values → Ended size address count (site_of f) read last (site_of e.far)
    → RunRefused size address count values (Some f) new.far
refused_by size address count last values read f polled new low high data0 data1 ends few all outside e did v (Ended.fine front w r is error collided) =
    absurd (not_zero (bus_error last) outside error)
refused_by size address count last values read f polled new low high data0 data1 ends few all outside e did v
    (Ended.early on_data front rest w r is error collided) =
    absurd (not_zero (bus_error last) outside error)
refused_by size address count last values read f polled new low high data0 data1 ends few all outside e did v
    (Ended.refused on_data c front rest w r last_is is error) =
    let q : AtSites (found_acts low high data0 data1) e.far new.far = did_sites polled _ new e.far did e.is in
    let a : AllRefused size address count values (site_of f) (site_of q.far) =
    refused_left size address count (site_of f) on_data c read front rest values w low high data0 data1 (site_of e.far) (site_of q.far) ends few r last_is is
    q.acts_are v.place (let k : length values ≤ length read = v.within in omega (arith, k, all)) v.handed in
    record {
      refused = record { far = q.far; is = q.is; mid = a.mid; each = a.each; refused = a.refused };
      ready = subst (λ (o : Option Far). IsReady o) (sym q.is) a.ready;
      below = a.below;
    }

pub run_refused : (size : Size) (address count last : ℕ) (values : List ℕ) (far : Option Far) (coming : Option DmiComing) (new : Tells) → IsReady far
    → is_aligned address size ≡ true → address + count * count_of size ≤ 2 ^ 64 → count ≤ 512
    → (s : Stopped size address count last values (tells far coming) new) → bus_error last ≡ 2
    → RunRefused size address count values far new.far
run_refused size address count last values None coming new ready aligned ends few s outside =
    let end : new.far ≡ None = stopped_untold size address count last values coming new s in
    record { refused = end; ready = subst (λ (o : Option Far). IsReady o) (sym end) tt; below = end }
run_refused size address count last values (Some f) coming new ready aligned ends few s outside =
    let e : EndedAt size address count s.read last f s.polled.far =
    ended_at size address count last s.read f coming s.polled ready aligned ends s.all s.runs in
    refused_by size address count last values s.read f s.polled new s.low s.high s.data0 s.data1 ends few s.all outside e s.found
    (found_of size address count last values (tells (Some f) coming) new s) e.ended
