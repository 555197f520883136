-- What the faults of a run of loads by the system bus follow, and what they leave.
use Rattle.std.proofs.Common.{◌≡◌, ◌∙◌, ◌≤◌, ◌<◌, ◌+◌, ◌*◌, ◌++◌, ◌^◌, ℕ, List, [], ◌∷◌, map, true, false, Option, sym, ap, subst, inl, append_assoc, arith}
use Rattle.rv_model.specs.declared.size.Size.{Size}
use Rattle.rv_model.specs.Memory.{is_aligned}
use Rattle.rv_model.specs.Size.{count_of}
use Rattle.debug_model.specs.Dmi.{DmiComing}
use Rattle.debug_model.specs.Told.{Far, IsReady}
use Rattle.probe_access.specs.declared.fault.AccessFault.{AccessFault}
use Rattle.probe_access.specs.declared.fault.AccessFault.TheVariants as access_fault
use Rattle.probe_access.specs.declared.odd.OddStatus.{OddStatus}
use Rattle.debug_model.specs.Addresses.{sbcs_address}
use Rattle.probe_run.specs.Acts.{Act, Did, Tells, tells}
use Rattle.probe_run.specs.Acts.Act.{Put}
use Rattle.probe_run.specs.Acts.Did.{nothing}
use Rattle.probe_run.proofs.ActLemmas.{did_list, did_then}
use Rattle.probe_access.specs.Accesses.{IfMemory}
use Rattle.probe_access.specs.BusBlockRuns.{BusCauses, BusReported, BusReportedOddly, RunRefused}
use Rattle.probe_access.specs.BusBlocks.{BusBlockLoadCut, BusBlockLoadLeft}
use Rattle.probe_access.specs.BusRuns.{BusPollFailed, BusPolled, bus_error, bus_poll}
use Rattle.probe_access.specs.BusStreams.{FrontRead, Ran, RunFailed, RunFell, RunOddly, Stopped, found_acts, running}
use Rattle.probe_access.specs.BusStreams.RunFailed.{in_start, in_front, in_end, in_polls, in_finding}
use Rattle.probe_access.specs.Cuts.{IfCut, Leaves}
use Rattle.probe_access.proofs.BlockCauses.{Calls, calls, calls_then}
use Rattle.probe_access.proofs.BusBlockCauses.{bus_causes_behind, ran_calls}
use Rattle.probe_access.proofs.BusStreamClauses.{run_refused}
use Rattle.probe_access.proofs.BusStreamFaults.{run_failed_cut}
use Rattle.probe_access.proofs.BusStreamOutcomes.{oddly_none, two_not_zero}

-- ---- the calls of each part

front_calls : (size : Size) (address count : ℕ) (front : List ℕ) (old new : Tells) → FrontRead size address count front old new → Calls old new
front_calls size address count front old new r = calls_then old r.begun new (calls _ old r.begun r.starts) (calls _ r.begun new r.first.did)

-- ---- a fault of the link, and polls in vain

pub poll_causes : (old_count new_count : ℕ) (mid new : Tells) (e : AccessFault) → BusPollFailed old_count new_count mid new e
    → BusCauses old_count new_count mid new e
poll_causes old_count new_count mid new (access_fault.Dmi why) b = (b.acts, b.failed, b.broke)
poll_causes old_count new_count mid new (access_fault.Memory at) b = absurd b
poll_causes old_count new_count mid new (access_fault.Register number) b = b
poll_causes old_count new_count mid new access_fault.StillBusy b = record { front = []; mid = mid; did = nothing; busy = b }
poll_causes old_count new_count mid new (access_fault.Run why) b = b
poll_causes old_count new_count mid new (access_fault.Odd shown) b = absurd b

failed_causes : (size : Size) (address count old_count new_count : ℕ) (old new : Tells) (e : AccessFault) → old_count ≤ new_count
    → RunFailed size address count old_count new_count old new e → BusCauses old_count new_count old new e
failed_causes size address count old_count new_count old new e later (in_start why is b) =
    subst (λ (x : AccessFault). BusCauses old_count new_count old new x) (sym is) (b.acts, b.failed, b.broke)
failed_causes size address count old_count new_count old new e later (in_front number below begun did why is b) =
    subst (λ (x : AccessFault). BusCauses old_count new_count old new x) (sym is)
    (bus_causes_behind old begun new (calls _ old begun did) old_count old_count new_count (access_fault.Dmi why) (omega arith) later
    (b.acts, b.failed, b.broke))
failed_causes size address count old_count new_count old new e later (in_end front read r why is b) =
    subst (λ (x : AccessFault). BusCauses old_count new_count old new x) (sym is)
    (bus_causes_behind old read new (front_calls size address count front old read r) old_count old_count new_count (access_fault.Dmi why) (omega arith)
    later (b.acts, b.failed, b.broke))
failed_causes size address count old_count new_count old new e later (in_polls front values shown read mid r p b) =
    bus_causes_behind old mid new (calls_then old read mid (front_calls size address count front old read r) (calls _ read mid p.did)) old_count old_count
    new_count e (omega arith) later (poll_causes old_count new_count mid new e b)
failed_causes size address count old_count new_count old new e later (in_finding read polled last all r why is b) =
    subst (λ (x : AccessFault). BusCauses old_count new_count old new x) (sym is)
    (bus_causes_behind old polled new (ran_calls size address last read old polled r) old_count old_count new_count (access_fault.Dmi why) (omega arith)
    later (b.acts, b.failed, b.broke))

-- ---- what the last poll showed

pub polled_then : (last : ℕ) (old mid polled new : Tells) → (c : Calls old mid) → (p : BusPolled last mid polled) → (rest : List Act) → Did polled rest new
    → Did old ((c.acts ++ map bus_poll p.words) ++ bus_poll last ∷ rest) new
polled_then last old mid polled new c p rest did =
    did_list (c.acts ++ ((map bus_poll p.words ++ bus_poll last ∷ []) ++ rest)) ((c.acts ++ map bus_poll p.words) ++ bus_poll last ∷ rest) old new
    (ap (λ xs. c.acts ++ xs) (append_assoc (map bus_poll p.words) (bus_poll last ∷ []) rest)
    ∙ sym (append_assoc c.acts (map bus_poll p.words) (bus_poll last ∷ rest)))
    (did_then c.acts old mid c.did ((map bus_poll p.words ++ bus_poll last ∷ []) ++ rest) new
    (did_then (map bus_poll p.words ++ bus_poll last ∷ []) mid polled p.did rest new did))

-- the calls of a run in front of its last poll
record InFront (last : ℕ) (old new : Tells) : Type 0 where
  front : List Act
  did : Did old (front ++ bus_poll last ∷ []) new

last_poll : (size : Size) (address last : ℕ) (read : List ℕ) (old new : Tells) → Ran size address read last old new → InFront last old new
last_poll size address last read old new r =
    let e = r.ends in
    let words : List Act = Put sbcs_address (running false size) ∷ e.acts in
    let c : Calls old r.read = calls_then old r.begun r.read (calls _ old r.begun r.starts) (calls _ r.begun r.read r.first.did) in
    record {
      front = c.acts ++ (words ++ map bus_poll e.words);
      did = did_list (c.acts ++ (words ++ (map bus_poll e.words ++ bus_poll last ∷ []))) ((c.acts ++ (words ++ map bus_poll e.words)) ++ bus_poll last ∷ [])
          old new
          (ap (λ xs. c.acts ++ xs) (sym (append_assoc words (map bus_poll e.words) (bus_poll last ∷ [])))
          ∙ sym (append_assoc c.acts (words ++ map bus_poll e.words) (bus_poll last ∷ [])))
          (did_then c.acts old r.read c.did _ new e.did);
    }

poll_then : (last : ℕ) (old polled new : Tells) → (i : InFront last old polled) → (rest : List Act) → Did polled rest new
    → Did old (i.front ++ bus_poll last ∷ rest) new
poll_then last old polled new i rest did =
    did_list ((i.front ++ bus_poll last ∷ []) ++ rest) (i.front ++ bus_poll last ∷ rest) old new (append_assoc i.front (bus_poll last ∷ []) rest)
    (did_then (i.front ++ bus_poll last ∷ []) old polled i.did rest new did)

stopped_reported : (size : Size) (address count last : ℕ) (values : List ℕ) (old new : Tells) → Stopped size address count last values old new
    → bus_error last ≡ 2 → BusReported old new
stopped_reported size address count last values old new s outside =
    let i : InFront last old s.polled = last_poll size address last s.read old s.polled s.runs in
    record {
      front = i.front;
      last = last;
      rest = found_acts s.low s.high s.data0 s.data1;
      idle = s.runs.ends.idle;
      outside = outside;
      did = poll_then last old s.polled new i (found_acts s.low s.high s.data0 s.data1) s.found;
    }

oddly_causes : (size : Size) (address count : ℕ) (shown : OddStatus) (old new : Tells) → RunOddly size address count shown old new
    → BusReportedOddly shown old new
oddly_causes size address count shown old new (RunOddly.other last read is r none other) =
    let i : InFront last old new = last_poll size address last read old new r.ran in
    record { word = last; is = is; front = i.front; rest = []; idle = r.ran.ends.idle; some = inl none; did = i.did }
oddly_causes size address count shown old new (RunOddly.misplaced last place value read mid is r some found lost) =
    let i : InFront last old mid = last_poll size address last read old mid r.ran in
    record {
      word = last;
      is = is;
      front = i.front;
      rest = found_acts found.low found.high found.data0 found.data1;
      idle = r.ran.ends.idle;
      some = some;
      did = poll_then last old mid new i (found_acts found.low found.high found.data0 found.data1) found.did;
    }
oddly_causes size address count shown old new (RunOddly.all_there last values is s outside all) =
    let i : InFront last old s.polled = last_poll size address last s.read old s.polled s.runs in
    record {
      word = last;
      is = is;
      front = i.front;
      rest = found_acts s.low s.high s.data0 s.data1;
      idle = s.runs.ends.idle;
      some = inl (two_not_zero (bus_error last) outside);
      did = poll_then last old s.polled new i (found_acts s.low s.high s.data0 s.data1) s.found;
    }

-- ---- by the fault

pub fell_causes : (size : Size) (address count old_count new_count : ℕ) (values : List ℕ) (old new : Tells) (e : AccessFault) → old_count ≤ new_count
    → RunFell size address count values old_count new_count old new e → BusCauses old_count new_count old new e
fell_causes size address count old_count new_count values old new (access_fault.Dmi why) later f =
    failed_causes size address count old_count new_count old new (access_fault.Dmi why) later f
fell_causes size address count old_count new_count values old new (access_fault.Memory at) later f =
    stopped_reported size address count f.0 values old new f.4 f.3
fell_causes size address count old_count new_count values old new (access_fault.Register number) later f = f
fell_causes size address count old_count new_count values old new access_fault.StillBusy later f =
    failed_causes size address count old_count new_count old new access_fault.StillBusy later f
fell_causes size address count old_count new_count values old new (access_fault.Run why) later f = f
fell_causes size address count old_count new_count values old new (access_fault.Odd shown) later f = oddly_causes size address count shown old new f

pub fell_left : (size : Size) (address count old_count new_count : ℕ) (values kept : List ℕ) (far : Option Far) (coming : Option DmiComing) (new : Tells)
    (e : AccessFault) → IsReady far → is_aligned address size ≡ true → address + count * count_of size ≤ 2 ^ 64 → count ≤ 512
    → IfMemory (kept ≡ values) e → RunFell size address count values old_count new_count (tells far coming) new e
    → BusBlockLoadLeft size address count kept far new.far e
fell_left size address count old_count new_count values kept far coming new (access_fault.Dmi why) ready aligned ends few same f = tt
fell_left size address count old_count new_count values kept far coming new (access_fault.Memory at) ready aligned ends few same f =
    subst (λ xs. BusBlockLoadLeft size address count xs far new.far (access_fault.Memory at)) (sym same)
    (f.1, f.2, (run_refused size address count f.0 values far coming new ready aligned ends few f.4 f.3).refused)
fell_left size address count old_count new_count values kept far coming new (access_fault.Register number) ready aligned ends few same f = absurd f
fell_left size address count old_count new_count values kept far coming new access_fault.StillBusy ready aligned ends few same f = tt
fell_left size address count old_count new_count values kept far coming new (access_fault.Run why) ready aligned ends few same f = absurd f
fell_left size address count old_count new_count values kept far coming new (access_fault.Odd shown) ready aligned ends few same f =
    oddly_none size address count shown far coming new ready aligned ends few f

pub fell_ready : (size : Size) (address count old_count new_count : ℕ) (values : List ℕ) (far : Option Far) (coming : Option DmiComing) (new : Tells)
    (e : AccessFault) → IsReady far → is_aligned address size ≡ true → address + count * count_of size ≤ 2 ^ 64 → count ≤ 512
    → RunFell size address count values old_count new_count (tells far coming) new e → IfMemory (IsReady new.far) e
fell_ready size address count old_count new_count values far coming new (access_fault.Dmi why) ready aligned ends few f = tt
fell_ready size address count old_count new_count values far coming new (access_fault.Memory at) ready aligned ends few f =
    (run_refused size address count f.0 values far coming new ready aligned ends few f.4 f.3).ready
fell_ready size address count old_count new_count values far coming new (access_fault.Register number) ready aligned ends few f = tt
fell_ready size address count old_count new_count values far coming new access_fault.StillBusy ready aligned ends few f = tt
fell_ready size address count old_count new_count values far coming new (access_fault.Run why) ready aligned ends few f = tt
fell_ready size address count old_count new_count values far coming new (access_fault.Odd shown) ready aligned ends few f = tt

pub fell_refused : (size : Size) (address count old_count new_count : ℕ) (values kept : List ℕ) (old new : Tells) (e : AccessFault)
    → IfMemory (kept ≡ values) e → RunFell size address count values old_count new_count old new e
    → IfMemory (RunRefused size address kept old new) e
fell_refused size address count old_count new_count values kept old new (access_fault.Dmi why) same f = tt
fell_refused size address count old_count new_count values kept old new (access_fault.Memory at) same f =
    subst (λ xs. RunRefused size address xs old new) (sym same) (record { count = count; last = f.0; stopped = f.4; outside = f.3 })
fell_refused size address count old_count new_count values kept old new (access_fault.Register number) same f = tt
fell_refused size address count old_count new_count values kept old new access_fault.StillBusy same f = tt
fell_refused size address count old_count new_count values kept old new (access_fault.Run why) same f = tt
fell_refused size address count old_count new_count values kept old new (access_fault.Odd shown) same f = tt

pub fell_cut : (size : Size) (address count old_count new_count : ℕ) (values kept : List ℕ) (far : Option Far) (coming : Option DmiComing) (new : Tells)
    (e : AccessFault) → IsReady far → is_aligned address size ≡ true → address + count * count_of size ≤ 2 ^ 64 → 0 < count → IfCut (kept ≡ []) e
    → RunFell size address count values old_count new_count (tells far coming) new e
    → IfCut (Leaves (BusBlockLoadCut size address count kept) far new.far) e
fell_cut size address count old_count new_count values kept far coming new (access_fault.Dmi why) ready aligned ends some none f =
    subst (λ xs. Leaves (BusBlockLoadCut size address count xs) far new.far) (sym none)
    (run_failed_cut size address count far coming new old_count new_count (access_fault.Dmi why) ready aligned ends some f)
fell_cut size address count old_count new_count values kept far coming new (access_fault.Memory at) ready aligned ends some none f = tt
fell_cut size address count old_count new_count values kept far coming new (access_fault.Register number) ready aligned ends some none f = tt
fell_cut size address count old_count new_count values kept far coming new access_fault.StillBusy ready aligned ends some none f =
    subst (λ xs. Leaves (BusBlockLoadCut size address count xs) far new.far) (sym none)
    (run_failed_cut size address count far coming new old_count new_count access_fault.StillBusy ready aligned ends some f)
fell_cut size address count old_count new_count values kept far coming new (access_fault.Run why) ready aligned ends some none f = tt
fell_cut size address count old_count new_count values kept far coming new (access_fault.Odd shown) ready aligned ends some none f = tt
