-- What a run of loads by the system bus leaves of a told chip where it broke off, and what its faults follow.
use Rattle.std.proofs.Common.{◌≡◌, ◌⊎◌, ◌≤◌, ◌<◌, ◌+◌, ◌*◌, ◌^◌, ◌++◌, ℕ, List, [], ◌∷◌, map, true, false, Option, Some, None, refl, sym, subst, inl, inr}
use Rattle.rv_model.specs.declared.size.Size.{Size}
use Rattle.rv_model.specs.Memory.{is_aligned}
use Rattle.rv_model.specs.Size.{count_of}
use Rattle.debug_model.specs.Addresses.{sbaddress0_address, sbaddress1_address, sbcs_address}
use Rattle.debug_model.specs.declared.dmi.DmiFault.{DmiFault}
use Rattle.debug_model.specs.declared.dmi_op.DmiOp.{DmiOp}
use Rattle.debug_model.specs.declared.dmi_op.DmiOp.TheVariants.{Read, Write}
use Rattle.debug_model.specs.declared.sberror.Sberror.TheVariants.{Fine}
use Rattle.debug_model.specs.Commands.{high_half, low_half}
use Rattle.debug_model.specs.Deeds.{ran}
use Rattle.debug_model.specs.Dmi.{DmiComing, SiteCut}
use Rattle.debug_model.specs.Dmi.SiteCut.{unperformed, was_performed}
use Rattle.debug_model.specs.Module.{Site, operated}
use Rattle.debug_model.specs.SystemBus.{BusUnit}
use Rattle.debug_model.specs.Told.{Far, IsReady, SiteReady, site_of}
use Rattle.probe_access.specs.declared.fault.AccessFault.{AccessFault}
use Rattle.probe_access.specs.declared.fault.AccessFault.TheVariants as access_fault
use Rattle.probe_run.specs.Acts.{Act, Attempt, Broke, Tells, tells}
use Rattle.probe_run.specs.Acts.Act.{Put}
use Rattle.probe_run.specs.Acts.Attempt.{Operation}
use Rattle.probe_access.specs.BusBlocks.{BusBlockLoadCut}
use Rattle.probe_access.specs.BusBlocks.BusLoadedEach.{nothing as none_loaded}
use Rattle.probe_access.specs.BusRuns.{BusPollBegun, BusPollFailed, Starting, bus_poll}
use Rattle.probe_access.specs.BusRuns.BusPollBegun.{polls}
use Rattle.probe_access.specs.BusRuns.Starting.{next}
use Rattle.probe_access.specs.BusStreams.{Ending, Finding, ReadingData, RunFailed, run_started, running}
use Rattle.probe_access.specs.BusStreams.RunFailed.{in_start, in_front, in_end, in_polls, in_finding}
use Rattle.probe_access.specs.Cuts.{BusLeftOff, IfCut, Leaves, LoadLeaves}
use Rattle.probe_access.specs.Faults.{Among, BrokeIn}
use Rattle.probe_access.proofs.Along.{AtSites, SiteActs, did_sites}
use Rattle.probe_access.proofs.BusCuts.{Nth, nth_of, write_cut}
use Rattle.probe_access.proofs.BusCuts.Nth.{here, there}
use Rattle.probe_access.proofs.BusSites.{AtBus, put_bus}
use Rattle.probe_access.proofs.BusSites.Writes.{to_sbaddress0, to_sbaddress1, to_sbcs}
use Rattle.probe_access.proofs.BusStages.{BusStage, start_bus}
use Rattle.probe_access.proofs.BusStreamClauses.{DoneAt, EndedAt, FrontAt, begun_at, done_site, end_at, ended_at, front_at}
use Rattle.probe_access.proofs.BusStreamCuts.{bus_before, done_cut, finding_cut, going_cut, last_cut, reading_cut, stop_cut}
use Rattle.probe_access.proofs.BusStreamEnds.{done_poll, polls_done}
use Rattle.probe_access.proofs.BusStreamSites.{at_ran, stage_stands}
use Rattle.probe_access.proofs.BusStreamSteps.{going_stops, start_set}
use Rattle.probe_access.proofs.BusStreamTold.{Done, Going, Last, done_ran, first_at, waited}
use Rattle.probe_access.proofs.BusStreamUnits.{reading, run_bus, run_high, run_low, run_pends, run_set}
use Rattle.probe_access.proofs.BusStartCuts.{no_more}
use Rattle.probe_access.proofs.BusTold.{at_start, works_ready}
use Rattle.probe_access.proofs.BusUnits.{upper_put}
use Rattle.probe_access.proofs.CutSites.{CutAt, CutWithin, cut_always, cut_at, cut_within, if_cut}

-- ---- among the writes that start it

pub record RunCut (size : Size) (address count : ℕ) (s : Site) (told : Option Far) : Type 0 where
  pub far : Far
  pub is : told ≡ Some far
  pub left : BusBlockLoadCut size address count [] s (site_of far)

none_yet : (size : Size) (address count : ℕ) (s t : Site) → 0 < count → BusLeftOff LoadLeaves s t → BusBlockLoadCut size address count [] s t
none_yet size address count s t some left = record { more = []; below = some; mid = s; each = none_loaded; left = left }

either_cut : (size : Size) (address count : ℕ) (u x : BusUnit) (s t : Site) → 0 < count → AtBus u s t ⊎ AtBus x s t → BusBlockLoadCut size address count [] s t
either_cut size address count u x s t some (inl a) = none_yet size address count s t some (bus_before u s t a)
either_cut size address count u x s t some (inr a) = none_yet size address count s t some (bus_before x s t a)

low_cut : (size : Size) (address count : ℕ) (s x t : Site) → SiteReady s → is_aligned address size ≡ true → 0 < count
    → AtBus (run_bus true size (upper_put s.unit.bus.address address) s.unit.bus.value Fine false None) s x
    → SiteCut (Write sbaddress0_address (low_half address)) x t → BusBlockLoadCut size address count [] s t
low_cut size address count s x t ready aligned some at (unperformed d) =
    let u : BusUnit = run_bus true size (upper_put s.unit.bus.address address) s.unit.bus.value Fine false None in
    none_yet size address count s t some
    (bus_before u s t (subst (λ (y : Site). AtBus u s y) (sym d.is) (at_ran u s x d.deeds ready refl at)))
low_cut size address count s x t ready aligned some at (was_performed result o) =
    let u : BusUnit = s.unit.bus in
    let stage : BusStage (reading true size address u.value false) s t =
    start_bus sbaddress0_address (low_half address) _ (run_bus true size (upper_put u.address address) u.value Fine false None)
    (reading true size address u.value false) s x t (to_sbaddress0 (low_half address)) (works_ready s ready) refl
    (run_low size u.address u.value address aligned) (run_pends true size address u.value false) at
    (t, record { before = o.before; behind = o.behind; is = o.is; result_is = refl }, refl) in
    going_cut size address count s true [] t
    (waited size address count s true [] u.value t (Last.none u.value)
    (stage_stands size address count s true false [] u.value s t none_loaded ready some
    (subst (λ a. BusStage (reading true size a u.value false) s t) (sym (first_at size address)) stage)))

start_at : (size : Size) (address count : ℕ) (f : Far) (told : Option Far) (front : List Act) (a v : ℕ) → SiteReady (site_of f)
    → is_aligned address size ≡ true → 0 < count → Nth (run_started size address) front (Put a v) → CutAt front (Write a v) f told
    → RunCut size address count (site_of f) told
start_at size address count f told _ _ _ ready aligned some (here _ _) c =
    let s : Site = site_of f in
    let u : BusUnit = s.unit.bus in
    let x : BusUnit = run_bus true size u.address u.value Fine false None in
    record {
      far = c.far;
      is = c.is;
      left = either_cut size address count u x s (site_of c.far) some
          (write_cut LoadLeaves sbcs_address (running true size) _ u x s c.mid (site_of c.far) (to_sbcs (running true size)) (works_ready s ready)
          ready.unit.bus.idle (run_set size u ready.unit.bus) refl (subst (λ (y : Site). AtBus u s y) (sym c.acts_are) (at_start s)) c.cut);
    }
start_at size address count f told _ _ _ ready aligned some (there _ _ _ _ (here _ _)) c =
    let s : Site = site_of f in
    let u : BusUnit = s.unit.bus in
    let x : BusUnit = run_bus true size u.address u.value Fine false None in
    let y : BusUnit = run_bus true size (upper_put u.address address) u.value Fine false None in
    record {
      far = c.far;
      is = c.is;
      left = either_cut size address count x y s (site_of c.far) some
          (write_cut LoadLeaves sbaddress1_address (high_half address) _ x y s c.mid (site_of c.far) (to_sbaddress1 (high_half address)) (works_ready s ready)
          refl (run_high size u.address u.value address) refl
          (put_bus sbcs_address (running true size) _ u x s s c.mid (to_sbcs (running true size)) (works_ready s ready) ready.unit.bus.idle
          (run_set size u ready.unit.bus) refl (at_start s) c.acts_are) c.cut);
    }
start_at size address count f told _ _ _ ready aligned some (there _ _ _ _ (there _ _ _ _ (here _ _))) c =
    let s : Site = site_of f in
    record {
      far = c.far;
      is = c.is;
      left = low_cut size address count s c.mid (site_of c.far) ready aligned some (start_set size address s c.mid ready c.acts_are) c.cut;
    }
start_at size address count f told _ a v ready aligned some (there _ _ _ _ (there _ _ _ _ (there _ _ front _ n))) c =
    absurd (no_more front (Put a v) n)

start_by : (size : Size) (address count : ℕ) (f : Far) (told : Option Far) (acts : List Act) (op : DmiOp) → SiteReady (site_of f)
    → is_aligned address size ≡ true → 0 < count → Starting (run_started size address) acts (Operation op) → CutAt acts op f told
    → RunCut size address count (site_of f) told
start_by size address count f told _ _ ready aligned some (next front rest a v is) c =
    start_at size address count f told front a v ready aligned some (nth_of (run_started size address) front rest (Put a v) is) c

start_cut : (size : Size) (address count old_count new_count : ℕ) (f : Far) (coming : Option DmiComing) (told : Option Far) (why : DmiFault)
    → SiteReady (site_of f) → is_aligned address size ≡ true → 0 < count
    → BrokeIn (Among (Starting (run_started size address))) old_count new_count (tells (Some f) coming) told why
    → RunCut size address count (site_of f) told
start_cut size address count old_count new_count f coming told why ready aligned some b =
    let c : CutWithin (Starting (run_started size address)) f told =
    cut_within (Starting (run_started size address)) old_count new_count (tells (Some f) coming) told why f refl b in
    start_by size address count f told c.acts c.op ready aligned some c.begun c.cut

-- ---- behind it

front_cut : (size : Size) (address count number old_count new_count : ℕ) (f : Far) (begun : Tells) (told : Option Far) (why : DmiFault)
    → is_aligned address size ≡ true → address + count * count_of size ≤ 2 ^ 64 → number < count → FrontAt size address count [] f begun.far
    → BrokeIn (Among (ReadingData number)) old_count new_count begun told why → RunCut size address count (site_of f) told
front_cut size address count number old_count new_count f begun told why aligned ends below g b =
    let c : CutWithin (ReadingData number) g.far told = cut_within (ReadingData number) old_count new_count begun told why g.far g.is b in
    record {
      far = c.cut.far;
      is = c.cut.is;
      left = reading_cut size address count (site_of f) number c.acts c.op (site_of g.far) c.cut.mid (site_of c.cut.far) aligned ends below c.begun g.going
          c.cut.acts_are c.cut.cut;
    }

poll_site : (size : Size) (address count : ℕ) (s : Site) (read : List ℕ) (x t : Site) → Done size address count s read x → SiteCut (Read sbcs_address) x t
    → BusBlockLoadCut size address count [] s t
poll_site size address count s read x t d (unperformed k) =
    done_cut size address count s read t
    (subst (λ (y : Site). Done size address count s read y) (sym k.is) (done_ran size address count s read x k.deeds d))
poll_site size address count s read x t d (was_performed result o) =
    let z : Site = ran o.before x in
    done_cut size address count s read t
    (subst (λ (y : Site). Done size address count s read y) (sym o.is)
    (done_ran size address count s read (operated (Read sbcs_address) z) o.behind
    (done_poll size address count s read z (done_ran size address count s read x o.before d))))

-- in the call that ends it
ending_site : (size : Size) (address count : ℕ) (front : List ℕ) (acts : List Act) (op : DmiOp) (s x mid t : Site) → Ending size acts (Operation op)
    → Going size address count s true front x → SiteActs acts x mid → SiteCut op mid t → BusBlockLoadCut size address count [] s t
ending_site size address count front _ _ s x mid t Ending.stops g p cut =
    stop_cut size address count s front mid t (subst (λ (y : Site). Going size address count s true front y) (sym p) g) cut
ending_site size address count front _ _ s x mid t (Ending.reads acts op r) g p cut =
    last_cut size address count s front acts op p.0 mid t r (going_stops size address count s front x p.0 g (p.0, p.1, refl)) p.2 cut
ending_site size address count front _ _ s x mid t (Ending.looks values acts one read) g p cut =
    poll_site size address count s (front ++ values) mid t (done_site size address count front values acts s x mid one read g p) cut

ending_cut : (size : Size) (address count : ℕ) (front : List ℕ) (old_count new_count : ℕ) (f : Far) (read : Tells) (told : Option Far) (why : DmiFault)
    → FrontAt size address count front f read.far → BrokeIn (Among (Ending size)) old_count new_count read told why
    → RunCut size address count (site_of f) told
ending_cut size address count front old_count new_count f read told why g b =
    let c : CutWithin (Ending size) g.far told = cut_within (Ending size) old_count new_count read told why g.far g.is b in
    record {
      far = c.cut.far;
      is = c.cut.is;
      left = ending_site size address count front c.acts c.op (site_of f) (site_of g.far) c.cut.mid (site_of c.cut.far) c.begun g.going c.cut.acts_are
          c.cut.cut;
    }

-- ---- among the polls

poll_cut : (size : Size) (address count : ℕ) (read : List ℕ) (old_count new_count : ℕ) (f : Far) (mid : Tells) (told : Option Far) (why : DmiFault)
    (acts : List Act) (failed : Attempt) → DoneAt size address count read f mid.far → BusPollBegun acts failed
    → Broke acts failed old_count new_count mid told why → RunCut size address count (site_of f) told
poll_cut size address count read old_count new_count f mid told why _ _ d (polls words vain) b =
    let c : CutAt (map bus_poll words) (Read sbcs_address) d.far told =
    cut_at (map bus_poll words) (Read sbcs_address) old_count new_count mid told why d.far d.is b in
    record {
      far = c.far;
      is = c.is;
      left = poll_site size address count (site_of f) read c.mid (site_of c.far)
          (polls_done size address count (site_of f) read words (site_of d.far) c.mid d.done c.acts_are) c.cut;
    }

polls_cut : (size : Size) (address count : ℕ) (read : List ℕ) (old_count new_count : ℕ) (f : Far) (mid new : Tells) (e : AccessFault)
    → DoneAt size address count read f mid.far → BusPollFailed old_count new_count mid new e → IfCut (RunCut size address count (site_of f) new.far) e
polls_cut size address count read old_count new_count f mid new (access_fault.Dmi why) d b =
    poll_cut size address count read old_count new_count f mid new.far why b.acts b.failed d b.begun b.broke
polls_cut size address count read old_count new_count f mid new (access_fault.Memory at) d b = tt
polls_cut size address count read old_count new_count f mid new (access_fault.Register number) d b = tt
polls_cut size address count read old_count new_count f mid new access_fault.StillBusy d b =
    let q : AtSites (map bus_poll b.words) d.far new.far = did_sites mid _ new d.far b.did d.is in
    record {
      far = q.far;
      is = q.is;
      left = done_cut size address count (site_of f) read (site_of q.far)
          (polls_done size address count (site_of f) read b.words (site_of d.far) (site_of q.far) d.done q.acts_are);
    }
polls_cut size address count read old_count new_count f mid new (access_fault.Run why) d b = tt
polls_cut size address count read old_count new_count f mid new (access_fault.Odd shown) d b = tt

-- ---- while the errors are cleared

clearing_cut : (size : Size) (address count : ℕ) (read : List ℕ) (last old_count new_count : ℕ) (f : Far) (polled : Tells) (told : Option Far)
    (why : DmiFault) → EndedAt size address count read last f polled.far → BrokeIn (Among Finding) old_count new_count polled told why
    → RunCut size address count (site_of f) told
clearing_cut size address count read last old_count new_count f polled told why g b =
    let c : CutWithin Finding g.far told = cut_within Finding old_count new_count polled told why g.far g.is b in
    record {
      far = c.cut.far;
      is = c.cut.is;
      left = finding_cut size address count (site_of f) read last c.acts c.op (site_of g.far) c.cut.mid (site_of c.cut.far) c.begun g.ended c.cut.acts_are
          c.cut.cut;
    }

-- ---- all of it

by_fault : (P : Type 0) (e : AccessFault) (why : DmiFault) → e ≡ access_fault.Dmi why → P → IfCut P e
by_fault P e why is p = cut_always P e p

run_cut : (size : Size) (address count : ℕ) (f : Far) (coming : Option DmiComing) (new : Tells) (old_count new_count : ℕ) (e : AccessFault)
    → SiteReady (site_of f) → is_aligned address size ≡ true → address + count * count_of size ≤ 2 ^ 64 → 0 < count
    → RunFailed size address count old_count new_count (tells (Some f) coming) new e → IfCut (RunCut size address count (site_of f) new.far) e
run_cut size address count f coming new old_count new_count e ready aligned ends some (in_start why is b) =
    by_fault (RunCut size address count (site_of f) new.far) e why is
    (start_cut size address count old_count new_count f coming new.far why ready aligned some b)
run_cut size address count f coming new old_count new_count e ready aligned ends some (in_front number below begun did why is b) =
    by_fault (RunCut size address count (site_of f) new.far) e why is
    (front_cut size address count number old_count new_count f begun new.far why aligned ends below
    (begun_at size address count f coming begun ready aligned some did) b)
run_cut size address count f coming new old_count new_count e ready aligned ends some (in_end front read r why is b) =
    by_fault (RunCut size address count (site_of f) new.far) e why is
    (ending_cut size address count front old_count new_count f read new.far why (front_at size address count front f coming read ready aligned ends r) b)
run_cut size address count f coming new old_count new_count e ready aligned ends some (in_polls front values shown read mid r p b) =
    polls_cut size address count values old_count new_count f mid new e
    (end_at size address count shown front values f read mid (front_at size address count front f coming read ready aligned ends r) p) b
run_cut size address count f coming new old_count new_count e ready aligned ends some (in_finding read polled last all r why is b) =
    by_fault (RunCut size address count (site_of f) new.far) e why is
    (clearing_cut size address count read last old_count new_count f polled new.far why
    (ended_at size address count last read f coming polled ready aligned ends all r) b)

cut_left : (size : Size) (address count : ℕ) (f : Far) (told : Option Far) → RunCut size address count (site_of f) told
    → Leaves (BusBlockLoadCut size address count []) (Some f) told
cut_left size address count f told c = record { far = c.far; is = c.is; left = c.left }

pub run_failed_cut : (size : Size) (address count : ℕ) (far : Option Far) (coming : Option DmiComing) (new : Tells) (old_count new_count : ℕ) (e : AccessFault)
    → IsReady far → is_aligned address size ≡ true → address + count * count_of size ≤ 2 ^ 64 → 0 < count
    → RunFailed size address count old_count new_count (tells far coming) new e
    → IfCut (Leaves (BusBlockLoadCut size address count []) far new.far) e
run_failed_cut size address count None coming new old_count new_count e ready aligned ends some r =
    cut_always (Leaves (BusBlockLoadCut size address count []) None new.far) e tt
run_failed_cut size address count (Some f) coming new old_count new_count e ready aligned ends some r =
    if_cut (RunCut size address count (site_of f) new.far) (Leaves (BusBlockLoadCut size address count []) (Some f) new.far) e
    (cut_left size address count f new.far)
    (run_cut size address count f coming new old_count new_count e ready aligned ends some r)
