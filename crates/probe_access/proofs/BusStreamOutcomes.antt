-- What a run of loads by the system bus comes to.
use Rattle.std.proofs.Common.{◌≡◌, ◌≢◌, ◌⊎◌, ◌∙◌, ◌≤◌, ◌<◌, ◌+◌, ◌*◌, ◌^◌, ◌%◌, ℕ, List, length, true, false, Option, Some, None, refl, sym, subst, inl, inr, arith}
use Rattle.std.proofs.lemmas.Bool.{false≢true}
use Rattle.rv_model.specs.declared.size.Size.{Size}
use Rattle.rv_model.specs.declared.size.Size.TheVariants.{B1, B2, B4, B8}
use Rattle.rv_model.specs.Memory.{is_aligned}
use Rattle.rv_model.specs.Size.{count_of}
use Rattle.debug_model.specs.declared.dmi.DmiFault.{DmiFault}
use Rattle.debug_model.specs.Dmi.{DmiComing}
use Rattle.debug_model.specs.Module.{Site}
use Rattle.debug_model.specs.Told.{Far, IsReady, SiteReady, site_of}
use Rattle.probe_access.specs.declared.fault.AccessFault.{AccessFault}
use Rattle.probe_access.specs.declared.fault.AccessFault.TheVariants as access_fault
use Rattle.probe_access.specs.declared.odd.OddStatus.{OddStatus}
use Rattle.probe_run.specs.Acts.{Tells, tells}
use Rattle.probe_access.specs.Blocks.{element_at}
use Rattle.probe_access.specs.BusRuns.{BusPollFailed, bus_collided, bus_error, cut_to, outside_error}
use Rattle.probe_access.specs.BusStreams.{EndRead, Finding, FoundAt, FrontRead, HandOutFell, Handed, HandedOut, Misplaced, RunFailed, RunFell, RunLoads}
use Rattle.probe_access.specs.BusStreams.{RunOddly, RunRead, Stopped, found_acts}
use Rattle.probe_access.specs.BusStreams.RunFailed.{in_start, in_front, in_end, in_polls, in_finding}
use Rattle.probe_access.specs.Faults.{Among, BrokeIn}
use Rattle.probe_access.proofs.Along.{AtSites, did_sites}
use Rattle.probe_access.proofs.BusStreamClauses.{EndedAt, RunLoaded, RunRefused, ended_at, ran_on, ran_through, run_refused}
use Rattle.probe_access.proofs.BusStreamEnds.{Ended, Found, address_small, element_small, found_at}
use Rattle.probe_access.proofs.BusStreamUnits.{next_of, read_bus, refused_bus, refused_cleared, run_cleared}
use Rattle.probe_access.proofs.RegisterCalls.{broke_counted}

-- ---- of the parts

pub stopped_of : (size : Size) (address count last place value : ℕ) (read values : List ℕ) (old mid new : Tells)
    → RunRead size address count last read old mid → FoundAt place value mid new → HandedOut size address place value read values
    → Stopped size address count last values old new
stopped_of size address count last place value read values old mid new r f h = record {
  read = read;
  all = r.all;
  polled = mid;
  runs = r.ran;
  low = f.low;
  high = f.high;
  data0 = f.data0;
  data1 = f.data1;
  found = f.did;
  place = sym f.place ∙ h.there;
  within = h.within;
  handed = subst (λ n. Handed read (cut_to size n) values) f.held h.handed;
}

pub all_loaded : (size : Size) (address count last : ℕ) (values : List ℕ) (old new : Tells) → RunRead size address count last values old new
    → bus_error last ≡ 0 → bus_collided last ≡ false → RunLoads size address count values old new
all_loaded size address count last values old new r fine alone =
    RunLoads.all r.all (record { last = last; ran = r.ran; fine = fine; alone = alone })

-- a poll that failed, since an earlier count of faults
pub poll_counted : (count mid_count new_count : ℕ) (old new : Tells) (e : AccessFault) → count ≤ mid_count → mid_count ≤ new_count
    → BusPollFailed mid_count new_count old new e → BusPollFailed count new_count old new e
poll_counted count mid_count new_count old new (access_fault.Dmi why) le later f = broke_counted _ count mid_count new_count old new.far why le later f
poll_counted count mid_count new_count old new (access_fault.Memory at) le later f = f
poll_counted count mid_count new_count old new (access_fault.Register number) le later f = f
poll_counted count mid_count new_count old new access_fault.StillBusy le later f = f
poll_counted count mid_count new_count old new (access_fault.Run why) le later f = f
poll_counted count mid_count new_count old new (access_fault.Odd shown) le later f = f

polls_fell : (size : Size) (address count old_count new_count shown : ℕ) (values front also : List ℕ) (old read mid new : Tells) (e : AccessFault)
    → FrontRead size address count front old read → EndRead size front also shown read mid → BusPollFailed old_count new_count mid new e
    → RunFell size address count values old_count new_count old new e
polls_fell size address count old_count new_count shown values front also old read mid new (access_fault.Dmi why) r p b =
    in_polls front also shown read mid r p b
polls_fell size address count old_count new_count shown values front also old read mid new (access_fault.Memory at) r p b = absurd b
polls_fell size address count old_count new_count shown values front also old read mid new (access_fault.Register number) r p b = b
polls_fell size address count old_count new_count shown values front also old read mid new access_fault.StillBusy r p b =
    in_polls front also shown read mid r p b
polls_fell size address count old_count new_count shown values front also old read mid new (access_fault.Run why) r p b = b
polls_fell size address count old_count new_count shown values front also old read mid new (access_fault.Odd odd) r p b = absurd b

link_fell : (size : Size) (address count old_count new_count : ℕ) (values : List ℕ) (old new : Tells) (e : AccessFault) (why : DmiFault)
    → e ≡ access_fault.Dmi why → RunFailed size address count old_count new_count old new e
    → RunFell size address count values old_count new_count old new e
link_fell size address count old_count new_count values old new e why is r =
    subst (λ (x : AccessFault). RunFell size address count values old_count new_count old new x) (sym is)
    (subst (λ (x : AccessFault). RunFailed size address count old_count new_count old new x) is r)

pub run_fell : (size : Size) (address count old_count new_count : ℕ) (values : List ℕ) (old new : Tells) (e : AccessFault)
    → RunFailed size address count old_count new_count old new e → RunFell size address count values old_count new_count old new e
run_fell size address count old_count new_count values old new e (in_start why is b) =
    link_fell size address count old_count new_count values old new e why is (in_start why is b)
run_fell size address count old_count new_count values old new e (in_front number below begun did why is b) =
    link_fell size address count old_count new_count values old new e why is (in_front number below begun did why is b)
run_fell size address count old_count new_count values old new e (in_end front read r why is b) =
    link_fell size address count old_count new_count values old new e why is (in_end front read r why is b)
run_fell size address count old_count new_count values old new e (in_polls front also shown read mid r p b) =
    polls_fell size address count old_count new_count shown values front also old read mid new e r p b
run_fell size address count old_count new_count values old new e (in_finding read polled last all r why is b) =
    link_fell size address count old_count new_count values old new e why is (in_finding read polled last all r why is b)

pub find_fell : (size : Size) (address count last old_count mid_count new_count : ℕ) (values read : List ℕ) (old mid new : Tells) (why : DmiFault)
    → RunRead size address count last read old mid → old_count ≤ mid_count → mid_count ≤ new_count
    → BrokeIn (Among Finding) mid_count new_count mid new.far why
    → RunFell size address count values old_count new_count old new (access_fault.Dmi why)
find_fell size address count last old_count mid_count new_count values read old mid new why r le later b =
    in_finding read mid last r.all r.ran why refl (broke_counted (Among Finding) old_count mid_count new_count mid new.far why le later b)

pub hand_out_fell : (size : Size) (address count last place value old_count new_count : ℕ) (read values : List ℕ) (old mid new : Tells) (e : AccessFault)
    → RunRead size address count last read old mid → ((bus_error last ≢ 0) ⊎ (bus_collided last ≡ true)) → FoundAt place value mid new
    → HandOutFell size address count last place value read values e → RunFell size address count values old_count new_count old new e
hand_out_fell size address count last place value old_count new_count read values old mid new (access_fault.Dmi why) r some f h = absurd h
hand_out_fell size address count last place value old_count new_count read values old mid new (access_fault.Memory at) r some f h =
    (last, h.0, h.1, h.2, stopped_of size address count last place value read values old mid new r f h.3)
hand_out_fell size address count last place value old_count new_count read values old mid new (access_fault.Register number) r some f h = h
hand_out_fell size address count last place value old_count new_count read values old mid new access_fault.StillBusy r some f h = absurd h
hand_out_fell size address count last place value old_count new_count read values old mid new (access_fault.Run why) r some f h = h
hand_out_fell size address count last place value old_count new_count read values old mid new (access_fault.Odd shown) r some f h = by h.1
  where
    by : Misplaced size address place count
        ⊎ ((bus_error last ≡ outside_error) × HandedOut size address place value read values × (length values ≡ count))
        → RunOddly size address count shown old new
    by (inl lost) = RunOddly.misplaced last place value read mid h.0 r some f lost
    by (inr there) = RunOddly.all_there last values h.0 (stopped_of size address count last place value read values old mid new r f there.1) there.0 there.2

-- ---- what it leaves

pub loads_few : (size : Size) (address count : ℕ) (values : List ℕ) (old new : Tells) → RunLoads size address count values old new → length values ≤ count
loads_few size address count values old new (RunLoads.all all r) = omega (arith, all)
loads_few size address count values old new (RunLoads.some last s fine early) =
    let k : length values ≤ length s.read = s.within in let a : length s.read ≡ count = s.all in omega (arith, k, a)

pub loads_told : (size : Size) (address count : ℕ) (values : List ℕ) (far : Option Far) (coming : Option DmiComing) (new : Tells) → IsReady far
    → is_aligned address size ≡ true → address + count * count_of size ≤ 2 ^ 64 → count ≤ 512
    → RunLoads size address count values (tells far coming) new → RunLoaded size address values far new.far
loads_told size address count values far coming new ready aligned ends few (RunLoads.all all r) =
    ran_through size address count values far coming new ready aligned ends all r
loads_told size address count values far coming new ready aligned ends few (RunLoads.some last s fine early) =
    ran_on size address count last values far coming new ready aligned ends few s fine early

-- ---- another error is shown of no told chip

pub two_not_zero : (n : ℕ) → n ≡ 2 → n ≡ 0 → ⊥
two_not_zero n two none = omega arith

pub element_behind : (size : Size) (address n : ℕ) → next_of size (element_at size address n) ≡ element_at size address (n + 1) % 2 ^ 64
element_behind B1 a n = omega arith
element_behind B2 a n = omega arith
element_behind B4 a n = omega arith
element_behind B8 a n = omega arith

pub element_whole : (size : Size) (address n : ℕ) → element_at size address n < 2 ^ 64 → element_at size address n ≡ element_at size address n % 2 ^ 64
element_whole size address n small = omega (arith, small)

odd_other : (size : Size) (address count last : ℕ) (read : List ℕ) (s t : Site) → bus_error last ≢ 0 → bus_error last ≢ 2
    → Ended size address count s read last t → ⊥
odd_other size address count last read s t none other (Ended.fine values v r is error collided) = none error
odd_other size address count last read s t none other (Ended.early on_data values rest v r is error collided) = none error
odd_other size address count last read s t none other (Ended.refused on_data c values rest v r last_is is error) = other error

pub odd_fine : (last : ℕ) → (bus_error last ≢ 0) ⊎ (bus_collided last ≡ true) → bus_error last ≡ 0 → bus_collided last ≡ false → ⊥
odd_fine last (inl none) error collided = none error
odd_fine last (inr some) error collided = false≢true (sym collided ∙ some)

odd_place : (size : Size) (address count last place value : ℕ) (read : List ℕ) (f : Far) (polled new : Tells)
    → address + count * count_of size ≤ 2 ^ 64 → (bus_error last ≢ 0) ⊎ (bus_collided last ≡ true) → FoundAt place value polled new
    → Misplaced size address place count → (e : EndedAt size address count read last f polled.far)
    → Ended size address count (site_of f) read last (site_of e.far) → ⊥
odd_place size address count last place value read f polled new ends some found lost e (Ended.fine values v r is error collided) =
    odd_fine last some error collided
odd_place size address count last place value read f polled new ends some found lost e (Ended.early on_data values rest v r is error collided) =
    let a : ℕ = element_at size address (length values) in
    let q : AtSites (found_acts found.low found.high found.data0 found.data1) e.far new.far = did_sites polled _ new e.far found.did e.is in
    let at : Found (next_of size a) v found.low found.high found.data0 found.data1 r.mid (site_of q.far) =
    found_at (read_bus on_data size a v true) (next_of size a) v found.low found.high found.data0 found.data1 r.mid (site_of e.far) (site_of q.far) r.ready
    refl (address_small size a) (run_cleared on_data size (next_of size a) v true) r.at q.acts_are in
    let below : length values < count = r.below in
    lost (length values + 1) (omega (arith, below)) (found.place ∙ at.place ∙ element_behind size address (length values))
odd_place size address count last place value read f polled new ends some found lost e (Ended.refused on_data c values rest v r last_is is error) =
    let a : ℕ = element_at size address (length values) in
    let small : a < 2 ^ 64 = element_small size address count (length values) ends r.below in
    let q : AtSites (found_acts found.low found.high found.data0 found.data1) e.far new.far = did_sites polled _ new e.far found.did e.is in
    let at : Found a v found.low found.high found.data0 found.data1 r.mid (site_of q.far) =
    found_at (refused_bus on_data size a v c) a v found.low found.high found.data0 found.data1 r.mid (site_of e.far) (site_of q.far) r.ready refl small
    (refused_cleared on_data size a v c) r.at q.acts_are in
    let below : length values < count = r.below in
    lost (length values) (omega (arith, below)) (found.place ∙ at.place ∙ element_whole size address (length values) small)

read_ended : (size : Size) (address count last : ℕ) (read : List ℕ) (f : Far) (coming : Option DmiComing) (new : Tells) → SiteReady (site_of f)
    → is_aligned address size ≡ true → address + count * count_of size ≤ 2 ^ 64 → RunRead size address count last read (tells (Some f) coming) new
    → EndedAt size address count read last f new.far
read_ended size address count last read f coming new ready aligned ends r =
    ended_at size address count last read f coming new ready aligned ends r.all r.ran

pub oddly_none : (size : Size) (address count : ℕ) (shown : OddStatus) (far : Option Far) (coming : Option DmiComing) (new : Tells) → IsReady far
    → is_aligned address size ≡ true → address + count * count_of size ≤ 2 ^ 64 → count ≤ 512
    → RunOddly size address count shown (tells far coming) new → far ≡ None
oddly_none size address count shown None coming new ready aligned ends few o = refl
oddly_none size address count shown (Some f) coming new ready aligned ends few (RunOddly.other last read is r none other) =
    let e : EndedAt size address count read last f new.far = read_ended size address count last read f coming new ready aligned ends r in
    absurd (odd_other size address count last read (site_of f) (site_of e.far) none other e.ended)
oddly_none size address count shown (Some f) coming new ready aligned ends few (RunOddly.misplaced last place value read mid is r some found lost) =
    let e : EndedAt size address count read last f mid.far = read_ended size address count last read f coming mid ready aligned ends r in
    absurd (odd_place size address count last place value read f mid new ends some found lost e e.ended)
oddly_none size address count shown (Some f) coming new ready aligned ends few (RunOddly.all_there last values is s outside all) =
    let r : RunRefused size address count values (Some f) new.far =
    run_refused size address count last values (Some f) coming new ready aligned ends few s outside in
    let below : length values < count = r.below in
    absurd (let no : ⊥ = omega (arith, below, all) in no)
