-- Several operations on a told chip: the last result, and what a fault or too many busy answers leave.
use Rattle.std.proofs.Common.{◌≡◌, ◌≢◌, ◌∙◌, ◌+◌, ◌≤◌, ◌<◌, ◌-◌, ◌*◌, ℕ, List, [], ◌∷◌, ◌++◌, length, drop, take, map, All, if◌then◌else◌, length-append}
use Rattle.std.proofs.Common.{length-drop, Bool, true, false, Option, Some, None, IfSome, refl, sym, ap, subst, arith, append-nil}
use Rattle.std.proofs.lemmas.List.{take_all}
use Rattle.std.proofs.lemmas.List.Elements.{All-head}
use Rattle.chip_laws.proofs.PathLemmas.{site_path}
use Rattle.debug_model.specs.declared.data_register.DataRegister.TheVariants.{Dtmcs, Dmi}
use Rattle.debug_model.specs.declared.dmi_op.DmiOp.{DmiOp}
use Rattle.debug_model.specs.declared.dmi_scan.DmiScan.{DmiScan}
use Rattle.debug_model.specs.declared.sticky.Sticky.TheVariants.{Clear, Busy}
use Rattle.debug_model.specs.Chip.{Chip, Inside}
use Rattle.debug_model.specs.Course.{SitePath, each_once}
use Rattle.debug_model.specs.Course.Happening.{Launched, Performed}
use Rattle.debug_model.specs.Dmi.{FoundBusy, IsOperation, LostOne}
use Rattle.debug_model.specs.Many.{OperatedAll, OperationsCut, op_of}
use Rattle.debug_model.specs.Scan.{WhereTold, dr_inside, dtm_of, ticks}
use Rattle.debug_model.specs.Told.{Far, IsClean, chip_of, site_of}
use Rattle.probe_dmi.specs.Operations.{kept}
use Rattle.debug_model.specs.Asked.{first_scan, nop, reset_bits}
use Rattle.probe_dmi.specs.Registers.{CutFrom, DmiScanned, WordScanned, dmi_bits}
use Rattle.probe_dmi.proofs.Carrying.{Carried, nop_here, to_update}
use Rattle.probe_dmi.proofs.Carrying.Carried.{going_on, came_back, got_lost}
use Rattle.probe_dmi.proofs.Counts.{counts_in, course_losses}
use Rattle.probe_dmi.proofs.Courses.{one_more, one_more_asked, performed-all, with_result}
use Rattle.probe_dmi.proofs.Flight.{Settled, Waiting}
use Rattle.probe_dmi.proofs.Places.{Place, ReachedAll, place_part, place_reached, reached_one}
use Rattle.probe_dmi.proofs.Places.Place.{none_awaited, one_awaited}
use Rattle.debug_model.specs.Kept.{ScanSeen}
use Rattle.probe_dmi.proofs.Spending.{SpentWithin}
use Rattle.probe_dmi.proofs.StreamSpending.{clocks_spent, scans_spent}
use Rattle.probe_dmi.proofs.Stages.{Sent, ready_op, reset_count, reset_part, reset_wait}
use Rattle.debug_model.specs.Pacing.{PacedAlong, harts_in}
use Rattle.debug_model.specs.TransportWords.{dmi_word}
use Rattle.jt_base.specs.BitLaws.{length-bits_of}
use Rattle.probe_dmi.proofs.Lively.{along_snoc, nop_ends, one_path}
use Rattle.probe_dmi.proofs.Streams.{StillStreaming, Streaming, streaming_along, carried_at, cut_of, more_results, still_then, stream_on, stream_then}
use Rattle.probe_dmi.proofs.Told.{at_passed, clean_at, false_is_true, heard_is, other_op}

-- ---- the last result

pub record FetchedAllAt (ops : List DmiOp) (results : List ℕ) (c : Chip) (new : Option Far) : Type 0 where
  pub operated : OperatedAll ops results c new
  pub clean : IsClean new

last_by : (ops : List DmiOp) (results results' : List ℕ) (op : DmiOp) (flight : Bool) (busy : ℕ) (out : DmiScan) (f : Far) (mid new : Option Far)
    (u : Streaming ops results [] flight busy (chip_of f) mid)
    → out.op ≡ 0 → results' ≡ kept flight out.value results → flight ≡ true → map op_of u.done ++ op ∷ [] ≡ ops → (d : DmiScanned nop out (chip_of u.far) new)
    → Carried op u.base (chip_of u.far).inside (ticks d.scanned.before (chip_of u.far).inside)
    (to_update d.scanned.before d.scanned.between (chip_of u.far).inside)
    (dr_inside d.scanned.before d.scanned.between d.scanned.behind (dmi_bits nop) Dmi (chip_of u.far).inside) out
    → FetchedAllAt ops results' (chip_of f) new
last_by ops results results' op flight busy out f mid new u done kept_is one asked d (going_on o w s b) = other_op out.op 0 3 done o (omega arith)
last_by ops results results' op flight busy out f mid new u done kept_is one asked d (got_lost o w l) = other_op out.op 0 2 done o (omega arith)
last_by ops results results' op flight busy out f mid new u done kept_is one asked d (came_back result o v a s) =
    let x = d.scanned in
    let j = (chip_of u.far).inside in
    let hs = Launched op ∷ Performed op result ∷ [] in
    let k = dr_inside x.before x.between x.behind (dmi_bits nop) Dmi j in
    let t : Settled hs result u.base (chip_of x.far).inside =
    at_passed (λ (m : Inside). Settled hs result u.base m) x.far k x.passed (nop_here x.before x.between x.behind hs result u.base j s) in
    let more = u.done ++ with_result op result ∷ [] in
    let path = one_more (chip_of f).inside u.base (chip_of x.far).inside u.done op result u.so_far t.path in
    record {
      operated = record {
        far = x.far;
        is = x.is;
        done = more;
        asked = sym (append-nil (map op_of more)) ∙ one_more_asked u.done op result [] ops asked;
        results_are = more_results flight out.value results results' u.done op result kept_is one v u.results_are;
        path = path;
        site = subst (λ os. SitePath (site_of f) os (site_of x.far)) (performed-all more)
            (site_path (chip_of f).inside (chip_of x.far).inside (each_once more) path);
        pace = λ paced. at_passed (λ (n : Inside). PacedAlong (harts_in (chip_of f).inside) (site_of f) more n.works.site) x.far k x.passed
            (along_snoc (harts_in (chip_of f).inside) u.done (with_result op result) (site_of f) u.base.works.site (ticks x.before j).works.site _
            (streaming_along ops results [] flight busy (chip_of f) mid u one paced)
            (one_path u.base (ticks x.before j) op result a.path)
            (nop_ends (chip_of f).inside u.base (ticks x.before j) u.done op result x.between x.behind paced u.so_far a
            (omega (arith, x.shifts, length-bits_of 41 (dmi_word nop)))));
      };
      clean = clean_at new x.far x.is (record { none_in_flight = t.flight; clear = t.clear; not_failed = t.failed });
    }

pub stream_last : (ops : List DmiOp) (results results' : List ℕ) (flight : Bool) (busy : ℕ) (out : DmiScan) (old mid new : Option Far) → flight ≡ true
    → out.op ≡ 0 → results' ≡ kept flight out.value results
    → WhereTold (Streaming ops results [] flight busy) old mid → WhereTold (DmiScanned nop out) mid new → WhereTold (FetchedAllAt ops results') old new
stream_last ops results results' flight busy out old mid new one done kept_is u d =
    stream_then (DmiScanned nop out) (FetchedAllAt ops results') ops results [] flight busy old mid new step u d
  where
    by : (f : Far) (u : Streaming ops results [] flight busy (chip_of f) mid) → Place ops u.done [] flight u.base (chip_of u.far).inside
        → DmiScanned nop out (chip_of u.far) new → FetchedAllAt ops results' (chip_of f) new
    by f u (none_awaited e asked v s) d = false_is_true (sym e ∙ one)
    by f u (one_awaited e op asked w) d = last_by ops results results' op flight busy out f mid new u done kept_is e asked d
        (carried_at nop op u.base out (chip_of u.far) new w u.clear d)

    step : (f : Far) (u : Streaming ops results [] flight busy (chip_of f) mid) → DmiScanned nop out (chip_of u.far) new
        → FetchedAllAt ops results' (chip_of f) new
    step f u d = by f u u.place d

pub all_operated : (ops : List DmiOp) (results : List ℕ) (old new : Option Far) → WhereTold (FetchedAllAt ops results) old new
    → WhereTold (OperatedAll ops results) old new
all_operated ops results None new d = d
all_operated ops results (Some f) new d = d.operated

pub all_clean : (ops : List DmiOp) (results : List ℕ) (old new : Option Far) → WhereTold (FetchedAllAt ops results) old new → IsClean new
all_clean ops results None new d = rw d tt
all_clean ops results (Some f) new d = d.clean

-- ---- a scan that was cut

pub stream_cut : (ops : List DmiOp) (results : List ℕ) (left : List DmiOp) (flight : Bool) (busy : ℕ) (old mid new : Option Far) → All IsOperation left
    → WhereTold (Streaming ops results left flight busy) old mid
    → WhereTold (CutFrom Dmi (dmi_bits (first_scan left))) mid new → WhereTold (OperationsCut ops) old new
stream_cut ops results left flight busy old mid new small u d =
    stream_then (CutFrom Dmi (dmi_bits (first_scan left))) (OperationsCut ops) ops results left flight busy old mid new step u d
  where
    step : (f : Far) (u : Streaming ops results left flight busy (chip_of f) mid) → CutFrom Dmi (dmi_bits (first_scan left)) (chip_of u.far) new
        → OperationsCut ops (chip_of f) new
    step f u d = cut_of ops f new d.far d.is
        (place_part ops (chip_of f).inside u.base (chip_of u.far).inside (chip_of d.far).inside u.done left flight small u.so_far u.place u.clear d.part)

-- ---- op 2

pub record FailedAllAt (ops : List DmiOp) (c : Chip) (new : Option Far) : Type 0 where
  pub lost : LostOne c new
  pub cut : OperationsCut ops c new

failed_by : (ops : List DmiOp) (results : List ℕ) (left : List DmiOp) (op : DmiOp) (flight : Bool) (busy : ℕ) (out : DmiScan) (f : Far) (mid new : Option Far)
    (u : Streaming ops results left flight busy (chip_of f) mid)
    → out.op ≡ 2 → map op_of u.done ++ op ∷ left ≡ ops → (d : DmiScanned (first_scan left) out (chip_of u.far) new)
    → Carried op u.base (chip_of u.far).inside (ticks d.scanned.before (chip_of u.far).inside)
    (to_update d.scanned.before d.scanned.between (chip_of u.far).inside)
    (dr_inside d.scanned.before d.scanned.between d.scanned.behind (dmi_bits (first_scan left)) Dmi (chip_of u.far).inside) out
    → FailedAllAt ops (chip_of f) new
failed_by ops results left op flight busy out f mid new u gone asked d (going_on o w s b) = other_op out.op 2 3 gone o (omega arith)
failed_by ops results left op flight busy out f mid new u gone asked d (came_back result o v a s) = other_op out.op 2 0 gone o (omega arith)
failed_by ops results left op flight busy out f mid new u gone asked d (got_lost o w l) =
    let x = d.scanned in
    let i = (chip_of f).inside in
    let k = dr_inside x.before x.between x.behind (dmi_bits (first_scan left)) Dmi (chip_of u.far).inside in
    record {
      lost = record {
        far = x.far;
        is = x.is;
        more = at_passed (λ (m : Inside). (counts_in i).dmi_failed < (counts_in m).dmi_failed) x.far k x.passed
            (omega (arith, course_losses i u.base (each_once u.done) u.so_far, l));
      };
      cut = cut_of ops f new x.far x.is (at_passed (λ (m : Inside). ReachedAll ops i m) x.far k x.passed
          (reached_one ops i u.base k u.done op left asked u.so_far w));
    }

-- with nothing in flight no scan finds it failed or busy
none_heard : (left : List DmiOp) (v : ℕ) (base : Inside) (out : DmiScan) (c : Chip) (new : Option Far) → Settled [] v base c.inside
    → DmiScanned (first_scan left) out c new → out.op ≡ 0
none_heard left v base out c new s d = ready_op d.scanned.before v base c.inside out s (heard_is (first_scan left) out c new d)

pub stream_failed : (ops : List DmiOp) (results : List ℕ) (left : List DmiOp) (flight : Bool) (busy : ℕ) (out : DmiScan) (old mid new : Option Far)
    → out.op ≡ 2 → WhereTold (Streaming ops results left flight busy) old mid
    → WhereTold (DmiScanned (first_scan left) out) mid new → WhereTold (FailedAllAt ops) old new
stream_failed ops results left flight busy out old mid new gone u d =
    stream_then (DmiScanned (first_scan left) out) (FailedAllAt ops) ops results left flight busy old mid new step u d
  where
    by : (f : Far) (u : Streaming ops results left flight busy (chip_of f) mid) → Place ops u.done left flight u.base (chip_of u.far).inside
        → DmiScanned (first_scan left) out (chip_of u.far) new → FailedAllAt ops (chip_of f) new
    by f u (none_awaited e asked v s) d = other_op out.op 2 0 gone (none_heard left v u.base out (chip_of u.far) new s d) (omega arith)
    by f u (one_awaited e op asked w) d = failed_by ops results left op flight busy out f mid new u gone asked d
        (carried_at (first_scan left) op u.base out (chip_of u.far) new w u.clear d)

    step : (f : Far) (u : Streaming ops results left flight busy (chip_of f) mid) → DmiScanned (first_scan left) out (chip_of u.far) new
        → FailedAllAt ops (chip_of f) new
    step f u d = by f u u.place d

pub all_failed_cut : (ops : List DmiOp) (old new : Option Far) → WhereTold (FailedAllAt ops) old new → WhereTold (OperationsCut ops) old new
all_failed_cut ops None new d = d
all_failed_cut ops (Some f) new d = d.cut

pub all_failed_lost : (ops : List DmiOp) (old new : Option Far) → WhereTold (FailedAllAt ops) old new → IfSome old (λ f. LostOne (chip_of f) new)
all_failed_lost ops None new d = tt
all_failed_lost ops (Some f) new d = d.lost

-- ---- op 3

again_by : (ops : List DmiOp) (results : List ℕ) (left : List DmiOp) (op : DmiOp) (flight : Bool) (busy : ℕ) (out : DmiScan) (f : Far) (mid new : Option Far)
    (u : Streaming ops results left flight busy (chip_of f) mid)
    → out.op ≢ 0 → out.op ≢ 2 → flight ≡ true → map op_of u.done ++ op ∷ left ≡ ops → (d : DmiScanned (first_scan left) out (chip_of u.far) new)
    → Carried op u.base (chip_of u.far).inside (ticks d.scanned.before (chip_of u.far).inside)
    (to_update d.scanned.before d.scanned.between (chip_of u.far).inside)
    (dr_inside d.scanned.before d.scanned.between d.scanned.behind (dmi_bits (first_scan left)) Dmi (chip_of u.far).inside) out
    → StillStreaming ops results left flight busy (chip_of f) new
again_by ops results left op flight busy out f mid new u undone unfailed one asked d (came_back result o v a s) = absurd (undone o)
again_by ops results left op flight busy out f mid new u undone unfailed one asked d (got_lost o w l) = absurd (unfailed o)
again_by ops results left op flight busy out f mid new u undone unfailed one asked d (going_on o w s b) =
    let x = d.scanned in
    let k = dr_inside x.before x.between x.behind (dmi_bits (first_scan left)) Dmi (chip_of u.far).inside in
    record {
      far = x.far;
      is = x.is;
      done = u.done;
      results_are = u.results_are;
      base = u.base;
      so_far = u.so_far;
      pace = u.pace;
      in_flight = one;
      op = op;
      asked = asked;
      waiting = at_passed (λ (m : Inside). Waiting op u.base m) x.far k x.passed w;
      busy_still = at_passed (λ (m : Inside). (dtm_of m).sticky ≡ Busy) x.far k x.passed s;
      found = at_passed (λ (m : Inside). (counts_in (chip_of f).inside).dmi_busy + (busy + 1) ≤ (counts_in m).dmi_busy) x.far k x.passed
          (omega (arith, u.found, b));
    }

pub stream_again : (ops : List DmiOp) (results : List ℕ) (left : List DmiOp) (flight : Bool) (busy : ℕ) (out : DmiScan) (old mid new : Option Far) → out.op ≢ 0
    → out.op ≢ 2 → WhereTold (Streaming ops results left flight busy) old mid
    → WhereTold (DmiScanned (first_scan left) out) mid new → WhereTold (StillStreaming ops results left flight busy) old new
stream_again ops results left flight busy out old mid new undone unfailed u d =
    stream_then (DmiScanned (first_scan left) out) (StillStreaming ops results left flight busy) ops results left flight busy old mid new step u d
  where
    by : (f : Far) (u : Streaming ops results left flight busy (chip_of f) mid) → Place ops u.done left flight u.base (chip_of u.far).inside
        → DmiScanned (first_scan left) out (chip_of u.far) new → StillStreaming ops results left flight busy (chip_of f) new
    by f u (none_awaited e asked v s) d = absurd (undone (none_heard left v u.base out (chip_of u.far) new s d))
    by f u (one_awaited e op asked w) d = again_by ops results left op flight busy out f mid new u undone unfailed e asked d
        (carried_at (first_scan left) op u.base out (chip_of u.far) new w u.clear d)

    step : (f : Far) (u : Streaming ops results left flight busy (chip_of f) mid) → DmiScanned (first_scan left) out (chip_of u.far) new
        → StillStreaming ops results left flight busy (chip_of f) new
    step f u d = by f u u.place d

-- its status was cleared
pub stream_cleared : (ops : List DmiOp) (results : List ℕ) (left : List DmiOp) (flight : Bool) (busy value : ℕ) (old mid new : Option Far)
    → WhereTold (StillStreaming ops results left flight busy) old mid
    → WhereTold (WordScanned Dtmcs reset_bits value) mid new → WhereTold (Streaming ops results left flight (busy + 1)) old new
stream_cleared ops results left flight busy value old mid new u d =
    still_then (WordScanned Dtmcs reset_bits value) (Streaming ops results left flight (busy + 1)) ops results left flight busy old mid new step u d
  where
    step : (f : Far) (u : StillStreaming ops results left flight busy (chip_of f) mid) → WordScanned Dtmcs reset_bits value (chip_of u.far) new
        → Streaming ops results left flight (busy + 1) (chip_of f) new
    step f u d =
        let x = d.scanned in
        let j = (chip_of u.far).inside in
        let k = dr_inside x.before x.between x.behind reset_bits Dtmcs j in
        let l : Sent u.op u.base k = reset_wait u.op x.before x.between x.behind u.base j u.busy_still u.waiting in
        record {
          far = x.far;
          is = x.is;
          done = u.done;
          results_are = u.results_are;
          base = u.base;
          so_far = u.so_far;
          pace = u.pace;
          place = at_passed (λ (m : Inside). Place ops u.done left flight u.base m) x.far k x.passed (one_awaited u.in_flight u.op u.asked l.waiting);
          clear = at_passed (λ (m : Inside). (dtm_of m).sticky ≡ Clear) x.far k x.passed l.clear;
          found = at_passed (λ (m : Inside). (counts_in (chip_of f).inside).dmi_busy + (busy + 1) ≤ (counts_in m).dmi_busy) x.far k x.passed
              (omega (arith, u.found, reset_count x.before x.between x.behind j));
        }

pub still_cut : (ops : List DmiOp) (results : List ℕ) (left : List DmiOp) (flight : Bool) (busy : ℕ) (old mid new : Option Far)
    → WhereTold (StillStreaming ops results left flight busy) old mid
    → WhereTold (CutFrom Dtmcs reset_bits) mid new → WhereTold (OperationsCut ops) old new
still_cut ops results left flight busy old mid new u d = still_then (CutFrom Dtmcs reset_bits) (OperationsCut ops) ops results left flight busy old mid new
    step u d
  where
    step : (f : Far) (u : StillStreaming ops results left flight busy (chip_of f) mid) → CutFrom Dtmcs reset_bits (chip_of u.far) new
        → OperationsCut ops (chip_of f) new
    step f u d = cut_of ops f new d.far d.is (reached_one ops (chip_of f).inside u.base (chip_of d.far).inside u.done u.op left u.asked u.so_far
        (reset_part u.op u.base (chip_of u.far).inside (chip_of d.far).inside u.busy_still u.waiting d.part))

-- ---- 64 busy answers in a row

pub stream_stopped : (ops : List DmiOp) (results : List ℕ) (left : List DmiOp) (flight : Bool) (busy : ℕ) (old new : Option Far)
    → WhereTold (Streaming ops results left flight busy) old new → WhereTold (OperationsCut ops) old new
stream_stopped ops results left flight busy None new u = u
stream_stopped ops results left flight busy (Some f) new u =
    cut_of ops f new u.far u.is (place_reached ops (chip_of f).inside u.base (chip_of u.far).inside u.done left flight u.so_far u.place)

pub stream_found : (ops : List DmiOp) (results : List ℕ) (left : List DmiOp) (flight : Bool) (busy : ℕ) (old new : Option Far) → 64 ≤ busy
    → WhereTold (Streaming ops results left flight busy) old new → IfSome old (λ f. FoundBusy (chip_of f) new)
stream_found ops results left flight busy None new many u = tt
stream_found ops results left flight busy (Some f) new many u = record { far = u.far; is = u.is; more = omega (arith, u.found, many) }

-- ---- what was sent is what the loop meant

pub first_as : (left : List DmiOp) (word out : DmiScan) (mid new : Option Far) → word ≡ first_scan left → WhereTold (DmiScanned word out) mid new
    → WhereTold (DmiScanned (first_scan left) out) mid new
first_as left word out mid new e d = subst (λ s. WhereTold (DmiScanned s out) mid new) e d

pub first_cut_as : (left : List DmiOp) (word : DmiScan) (mid new : Option Far) → word ≡ first_scan left → WhereTold (CutFrom Dmi (dmi_bits word)) mid new
    → WhereTold (CutFrom Dmi (dmi_bits (first_scan left))) mid new
first_cut_as left word mid new e d = subst (λ s. WhereTold (CutFrom Dmi (dmi_bits s)) mid new) e d

pub stream_taken : (ops : List DmiOp) (results results' : List ℕ) (left left' : List DmiOp) (flight : Bool) (busy : ℕ) (out : DmiScan)
    (old mid new : Option Far) → All IsOperation left → 1 ≤ length left → left' ≡ drop 1 left → out.op ≡ 0 → results' ≡ kept flight out.value results
    → WhereTold (Streaming ops results left flight busy) old mid → WhereTold (DmiScanned (first_scan left) out) mid new
    → WhereTold (Streaming ops results' left' true 0) old new
stream_taken ops results results' [] left' flight busy out old mid new small some rest_is done kept_is u d = absurd (omega arith)
stream_taken ops results results' (next ∷ left) left' flight busy out old mid new small some rest_is done kept_is u d =
    subst (λ xs. WhereTold (Streaming ops results' xs true 0) old new) (sym rest_is)
    (stream_on ops results results' next left flight busy out old mid new (All-head IsOperation next left small) done kept_is u d)

pub stream_done : (ops : List DmiOp) (results results' : List ℕ) (left : List DmiOp) (flight : Bool) (busy : ℕ) (out : DmiScan) (old mid new : Option Far)
    → length left < 1 → flight ≡ true → out.op ≡ 0 → results' ≡ kept flight out.value results
    → WhereTold (Streaming ops results left flight busy) old mid → WhereTold (DmiScanned (first_scan left) out) mid new
    → WhereTold (FetchedAllAt ops results') old new
stream_done ops results results' (next ∷ left) flight busy out old mid new none one done kept_is u d = absurd (omega arith)
stream_done ops results results' [] flight busy out old mid new none one done kept_is u d =
    stream_last ops results results' flight busy out old mid new one done kept_is u d

pub is_flying : (flight : Bool) (n : ℕ) → (flight ≡ false → 0 < n) → n < 1 → flight ≡ true
is_flying true n started none = refl
is_flying false n started none = absurd (omega (arith, started refl))

pub length-kept : (flight : Bool) (value : ℕ) (results : List ℕ) → length (kept flight value results) ≡ length results + (if flight then 1 else 0)
length-kept true value results = omega (arith, length-append results (value ∷ []))
length-kept false value results = omega arith

-- the rest behind the first
pub rest_is : (xs : List DmiOp) → take (length xs - 1) (drop 1 xs) ≡ drop 1 xs
rest_is xs = take_all (length xs - 1) (drop 1 xs) (omega (arith, length-drop 1 xs))

pub rest_length : (xs : List DmiOp) → 1 ≤ length xs → length (take (length xs - 1) (drop 1 xs)) + 1 ≡ length xs
rest_length xs some = omega (arith, ap (length {A = DmiOp}) (rest_is xs), length-drop 1 xs)

pub room_on : (flight : Bool) (value : ℕ) (results results' : List ℕ) (xs : List DmiOp) (total : ℕ) → results' ≡ kept flight value results → 1 ≤ length xs
    → length results + (if flight then 1 else 0) + length xs ≡ total
    → length results' + 1 + length (take (length xs - 1) (drop 1 xs)) ≡ total
room_on flight value results results' xs total kept_is some room =
    omega (arith, room, rest_length xs some, ap (length {A = ℕ}) kept_is, length-kept flight value results)

pub room_done : (flight : Bool) (value : ℕ) (results results' : List ℕ) (n total : ℕ) → results' ≡ kept flight value results → flight ≡ true → n < 1
    → length results + (if flight then 1 else 0) + n ≡ total → length results' ≡ total
room_done flight value results results' n total kept_is one none room = omega (arith, room, none, ap (length {A = ℕ}) kept_is, length-kept flight value results)

-- what was spent, with one operation fewer left
pub spent_on : (ops rest left : List DmiOp) (old new : ScanSeen) → 1 ≤ length rest → left ≡ drop 1 rest → length rest ≤ length ops
    → SpentWithin (scans_spent (length ops) ((length ops - length rest) + 1) 0) (clocks_spent (length ops) ((length ops - length rest) + 1) 0)
    (46 * (length ops - length rest) + 46) ((length ops - length rest) + 1) 0 old new
    → SpentWithin (scans_spent (length ops) (length ops - length left) 0) (clocks_spent (length ops) (length ops - length left) 0)
    (46 * (length ops - length left)) (length ops - length left) 0 old new
spent_on ops rest left old new some is room u =
    let long : length left ≡ length rest - 1 = ap length is ∙ length-drop 1 rest in
    let more : (length ops - length rest) + 1 ≡ length ops - length left = omega arith in
    let least : 46 * (length ops - length rest) + 46 ≡ 46 * (length ops - length left) = omega (arith, more) in
    subst (λ n. SpentWithin (scans_spent (length ops) n 0) (clocks_spent (length ops) n 0) (46 * (length ops - length left)) n 0 old new) more
    (subst (λ n. SpentWithin (scans_spent (length ops) ((length ops - length rest) + 1) 0) (clocks_spent (length ops) ((length ops - length rest) + 1) 0) n
    ((length ops - length rest) + 1) 0 old new) least u)
