-- How often scans of dmi find an operation in flight where the schedule is fair: once for each that they carry, since from a capture to its update there
-- are more rounds than it takes to perform one.
use Rattle.std.proofs.Common.{◌≡◌, ◌≢◌, ◌⊎◌, ◌∙◌, ℕ, ◌+◌, ◌%◌, ◌≤◌, List, Bool, true, false, Option, Some, None, refl, sym, ap, arith, inl, inr}
use Rattle.debug_model.specs.declared.counts.Counts.{Counts}
use Rattle.debug_model.specs.declared.data_register.DataRegister.{DataRegister}
use Rattle.debug_model.specs.declared.data_register.DataRegister.TheVariants.{Dmi, Dtmcs}
use Rattle.debug_model.specs.declared.dmi_op.DmiOp.{DmiOp}
use Rattle.debug_model.specs.declared.dmi_scan.DmiScan.{DmiScan}
use Rattle.debug_model.specs.declared.sticky.Sticky.{Sticky}
use Rattle.debug_model.specs.declared.sticky.Sticky.TheVariants.{Clear, Failed, Busy}
use Rattle.debug_model.specs.Asked.{reset_bits}
use Rattle.debug_model.specs.Chip.{Inside, busy_counted}
use Rattle.debug_model.specs.Pacing.{Paced, fair_within}
use Rattle.debug_model.specs.Rises.{busy_in}
use Rattle.debug_model.specs.Scan.{capture, dr_inside, dr_stays, dtm_of, ticks, update}
use Rattle.debug_model.specs.Transport.{Dtm, cleared_by, dmi_seen, finds_busy, seen, sets_busy, status_number, updated_dtm}
use Rattle.probe_dmi.specs.Registers.{Part}
use Rattle.probe_dmi.specs.Registers.Part.{before_capture, behind_capture, behind_update}
use Rattle.probe_dmi.proofs.Carrying.{stuck_keeps}
use Rattle.probe_dmi.proofs.Counts.{counts_in, scan_found, scan_unfound, ticks_busy}
use Rattle.probe_dmi.proofs.Flight.{ticks_sticky}
use Rattle.probe_dmi.proofs.Pacing.{capture_paced, scan_paced, ticks_land, ticks_none, ticks_paced}
use Rattle.probe_dmi.proofs.Stages.{op_seen, reset_count}
use Rattle.probe_dmi.proofs.Updates.{reset_is}
use Rattle.probe_dmi.proofs.WholeScans.{cut_scan, dtmcs_left}

-- ---- what a scan counts

finds_none : (s : Sticky) (flight : Option DmiOp) → flight ≡ None → finds_busy s flight ≡ false
finds_none Clear None e = refl
finds_none Clear (Some op) e = absurd (let no : ⊥ = cc in no)
finds_none Failed flight e = refl
finds_none Busy flight e = refl

scan_none : (before between behind : ℕ) (bits : List Bool) (j : Inside) → (dtm_of j).flight ≡ None
    → busy_in (dr_inside before between behind bits Dmi j) ≡ busy_in j
scan_none before between behind bits j none =
    scan_unfound before between behind bits Dmi j (finds_none _ _ (ticks_none before j none))

counted_one : (found : Bool) (k : Counts) → (busy_counted found k).dmi_busy ≤ k.dmi_busy + 1
counted_one true k = omega arith
counted_one false k = omega arith

counted_more : (found : Bool) (k : Counts) → k.dmi_busy ≤ (busy_counted found k).dmi_busy
counted_more true k = omega arith
counted_more false k = omega arith

scan_one : (before between behind : ℕ) (bits : List Bool) (j : Inside) → busy_in (dr_inside before between behind bits Dmi j) ≤ busy_in j + 1
scan_one before between behind bits j =
    let m = ticks before j in
    let n = ticks between (capture Dmi m) in
    omega (
      arith,
      ticks_busy before j,
      counted_one (sets_busy Dmi (dtm_of m)) (counts_in m),
      ticks_busy between (capture Dmi m),
      ticks_busy behind (update Dmi (dr_stays bits Dmi m) n),
    )

-- a busy answer, of a transport whose status was clear
heard_found : (s : Sticky) (flight : Option DmiOp) (failed : Bool) → s ≡ Clear → status_number (seen s flight failed) % 4 ≢ 0
    → status_number (seen s flight failed) % 4 ≢ 2 → finds_busy s flight ≡ true
heard_found Clear (Some op) failed e undone unfailed = refl
heard_found Clear None true e undone unfailed = absurd (unfailed refl)
heard_found Clear None false e undone unfailed = absurd (undone refl)
heard_found Failed flight failed e undone unfailed = absurd (let no : ⊥ = cc in no)
heard_found Busy flight failed e undone unfailed = absurd (let no : ⊥ = cc in no)

pub scan_found_one : (before between behind : ℕ) (bits : List Bool) (j : Inside) (out : DmiScan) → (dtm_of j).sticky ≡ Clear
    → out ≡ cut_scan (dmi_seen (dtm_of (ticks before j))) → out.op ≢ 0 → out.op ≢ 2
    → busy_in (dr_inside before between behind bits Dmi j) ≡ busy_in j + 1
scan_found_one before between behind bits j out clear is undone unfailed =
    let d = dtm_of (ticks before j) in
    let op : out.op ≡ status_number (seen d.sticky d.flight d.failed) % 4 = op_seen d out (seen d.sticky d.flight d.failed) is refl in
    scan_found before between behind bits Dmi j
    (heard_found d.sticky d.flight d.failed (ticks_sticky before j ∙ clear) (λ e. undone (op ∙ e)) (λ e. unfailed (op ∙ e)))

-- behind a busy answer nothing is in flight any more
pub again_none : (before between behind : ℕ) (bits : List Bool) (j : Inside) (out : DmiScan) → Paced j → fair_within ≤ between
    → out ≡ cut_scan (dmi_seen (dtm_of (ticks before j))) → out.op ≢ 0 → (dtm_of (dr_inside before between behind bits Dmi j)).flight ≡ None
again_none before between behind bits j out paced long is undone =
    let m = ticks before j in
    let n = ticks between (capture Dmi m) in
    let left = dr_stays bits Dmi m in
    let stuck : (dtm_of n).sticky ≢ Clear = λ e. undone (op_seen (dtm_of m) out Clear is (sym (ticks_sticky between (capture Dmi m)) ∙ e)) in
    let landed : (dtm_of n).flight ≡ None = ticks_land between (capture Dmi m) long (capture_paced Dmi m (ticks_paced before j paced)) in
    ticks_none behind (update Dmi left n) (ap (λ (d : Dtm). d.flight) (stuck_keeps left (dtm_of n) stuck).same ∙ landed)

-- ---- a scan of dtmcs with dmireset

cleared_flight : (s : Sticky) (d : Dtm) → (cleared_by s d).flight ≡ d.flight
cleared_flight Clear d = refl
cleared_flight Failed d = refl
cleared_flight Busy d = refl

reset_flight : (bits : List Bool) (d : Dtm) → bits ≡ reset_bits → d.flight ≡ None → (updated_dtm Dtmcs bits d).flight ≡ None
reset_flight bits d e none =
    ap (λ b. (updated_dtm Dtmcs b d).flight) e ∙ ap (λ (x : Dtm). x.flight) (reset_is d) ∙ cleared_flight d.sticky d ∙ none

pub reset_none : (before between behind : ℕ) (j : Inside) → (dtm_of j).flight ≡ None
    → (dtm_of (dr_inside before between behind reset_bits Dtmcs j)).flight ≡ None
reset_none before between behind j none =
    let m = ticks before j in
    let n = ticks between (capture Dtmcs m) in
    let left = dr_stays reset_bits Dtmcs m in
    ticks_none behind (update Dtmcs left n)
    (reset_flight left (dtm_of n) (dtmcs_left m) (ticks_none between (capture Dtmcs m) (ticks_none before j none)))

-- ---- a scan that was cut

pub part_paced : (r : DataRegister) (bits : List Bool) (j k : Inside) → Part r bits j k → Paced j → Paced k
part_paced r bits j k (before_capture before) p = ticks_paced before j p
part_paced r bits j k (behind_capture before between) p =
    ticks_paced between (capture r (ticks before j)) (capture_paced r (ticks before j) (ticks_paced before j p))
part_paced r bits j k (behind_update before between behind) p = scan_paced before between behind bits r j p

captured_busy : (r : DataRegister) (before between : ℕ) (j : Inside)
    → (busy_in j ≤ busy_in (ticks between (capture r (ticks before j)))) × (busy_in (ticks between (capture r (ticks before j))) ≤ busy_in j + 1)
captured_busy r before between j =
    let m = ticks before j in
    let found = sets_busy r (dtm_of m) in (
      omega (arith, ticks_busy before j, counted_more found (counts_in m), ticks_busy between (capture r m)),
      omega (arith, ticks_busy before j, counted_one found (counts_in m), ticks_busy between (capture r m)),
    )

pub part_busy : (r : DataRegister) (bits : List Bool) (j k : Inside) → Part r bits j k → (busy_in j ≤ busy_in k) × (busy_in k ≤ busy_in j + 1)
part_busy r bits j k (before_capture before) = (omega (arith, ticks_busy before j), omega (arith, ticks_busy before j))
part_busy r bits j k (behind_capture before between) = captured_busy r before between j
part_busy r bits j k (behind_update before between behind) =
    let c = captured_busy r before between j in
    let more = ticks_busy behind (update r (dr_stays bits r (ticks before j)) (ticks between (capture r (ticks before j)))) in
    (omega (arith, c.0, more), omega (arith, c.1, more))

counted_same : (found : Bool) (k : Counts) → found ≡ false → (busy_counted found k).dmi_busy ≡ k.dmi_busy
counted_same true k e = absurd (let no : ⊥ = cc in no)
counted_same false k e = refl

captured_none : (r : DataRegister) (before between : ℕ) (j : Inside) → sets_busy r (dtm_of (ticks before j)) ≡ false
    → busy_in (ticks between (capture r (ticks before j))) ≡ busy_in j
captured_none r before between j unfound =
    let m = ticks before j in
    omega (arith, ticks_busy before j, counted_same (sets_busy r (dtm_of m)) (counts_in m) unfound, ticks_busy between (capture r m))

part_none : (bits : List Bool) (j k : Inside) → Part Dmi bits j k → (dtm_of j).flight ≡ None → busy_in k ≡ busy_in j
part_none bits j k (before_capture before) none = ticks_busy before j
part_none bits j k (behind_capture before between) none = captured_none Dmi before between j (finds_none _ _ (ticks_none before j none))
part_none bits j k (behind_update before between behind) none = scan_none before between behind bits j none

pub part_cleared : (bits : List Bool) (j k : Inside) → Part Dtmcs bits j k → busy_in k ≡ busy_in j
part_cleared bits j k (before_capture before) = ticks_busy before j
part_cleared bits j k (behind_capture before between) = captured_none Dtmcs before between j refl
part_cleared bits j k (behind_update before between behind) = scan_unfound before between behind bits Dtmcs j refl

-- ---- a loop of scans

-- so many operations were carried, and so many busy answers came in a row: one more may come of the last operation, or none is in flight
pub record Calm (most row : ℕ) (i j : Inside) : Type 0 where
  pub paced : Paced j
  pub once : row ≤ 1
  pub either : ((busy_in j ≤ busy_in i + most) × ((dtm_of j).flight ≡ None)) ⊎ ((busy_in j + 1 ≤ busy_in i + most) × (row ≡ 0))

pub calm_begun : (n : ℕ) (i : Inside) → (dtm_of i).flight ≡ None → Paced i → Calm 0 0 i (ticks n i)
calm_begun n i none p = record {
  paced = ticks_paced n i p;
  once = omega arith;
  either = inl (omega (arith, ticks_busy n i), ticks_none n i none);
}

within_by : (most row : ℕ) (i j : Inside) (k : ℕ) → k ≤ busy_in j + 1 → ((dtm_of j).flight ≡ None → k ≡ busy_in j)
    → ((busy_in j ≤ busy_in i + most) × ((dtm_of j).flight ≡ None)) ⊎ ((busy_in j + 1 ≤ busy_in i + most) × (row ≡ 0)) → k ≤ busy_in i + most
within_by most row i j k one none (inl few) = omega (arith, none few.1, few.0)
within_by most row i j k one none (inr few) = omega (arith, one, few.0)

pub calm_scan : (most row : ℕ) (before between behind : ℕ) (bits : List Bool) (i j : Inside) → Calm most row i j
    → busy_in (dr_inside before between behind bits Dmi j) ≤ busy_in i + most
calm_scan most row before between behind bits i j c =
    within_by most row i j _ (scan_one before between behind bits j) (scan_none before between behind bits j) c.either

pub calm_part : (most row : ℕ) (bits : List Bool) (i j k : Inside) → Part Dmi bits j k → Calm most row i j → busy_in k ≤ busy_in i + most
calm_part most row bits i j k p c = within_by most row i j _ (part_busy Dmi bits j k p).1 (part_none bits j k p) c.either

pub calm_few : (most row : ℕ) (i j : Inside) → Calm most row i j → busy_in j ≤ busy_in i + most
calm_few most row i j c = within_by most row i j _ (omega arith) (λ none. refl) c.either

-- the next operation was carried
pub calm_next : (most row : ℕ) (before between behind : ℕ) (bits : List Bool) (i j : Inside) → Calm most row i j
    → Calm (most + 1) 0 i (dr_inside before between behind bits Dmi j)
calm_next most row before between behind bits i j c = record {
  paced = scan_paced before between behind bits Dmi j c.paced;
  once = omega arith;
  either = inr (omega (arith, calm_scan most row before between behind bits i j c), refl);
}

-- the same was found in flight
found_once : (most row : ℕ) (i j : Inside) (k : ℕ) → k ≡ busy_in j + 1 → ((dtm_of j).flight ≡ None → k ≡ busy_in j)
    → ((busy_in j ≤ busy_in i + most) × ((dtm_of j).flight ≡ None)) ⊎ ((busy_in j + 1 ≤ busy_in i + most) × (row ≡ 0))
    → (row + 1 ≤ 1) × (k ≤ busy_in i + most)
found_once most row i j k one none (inl few) = absurd (omega (arith, one, none few.1))
found_once most row i j k one none (inr few) = (omega (arith, few.1), omega (arith, one, few.0))

pub calm_found : (most row : ℕ) (before between behind : ℕ) (bits : List Bool) (i j : Inside) (out : DmiScan) → fair_within ≤ between
    → (dtm_of j).sticky ≡ Clear → out ≡ cut_scan (dmi_seen (dtm_of (ticks before j))) → out.op ≢ 0 → out.op ≢ 2 → Calm most row i j
    → Calm most (row + 1) i (dr_inside before between behind bits Dmi j)
calm_found most row before between behind bits i j out long clear is undone unfailed c =
    let f = found_once most row i j _ (scan_found_one before between behind bits j out clear is undone unfailed) (scan_none before between behind bits j)
    c.either in
    record {
      paced = scan_paced before between behind bits Dmi j c.paced;
      once = f.0;
      either = inl (f.1, again_none before between behind bits j out c.paced long is undone);
    }

cleared_either : (most row : ℕ) (i j k : Inside) → busy_in k ≡ busy_in j → ((dtm_of j).flight ≡ None → (dtm_of k).flight ≡ None)
    → ((busy_in j ≤ busy_in i + most) × ((dtm_of j).flight ≡ None)) ⊎ ((busy_in j + 1 ≤ busy_in i + most) × (row ≡ 0))
    → ((busy_in k ≤ busy_in i + most) × ((dtm_of k).flight ≡ None)) ⊎ ((busy_in k + 1 ≤ busy_in i + most) × (row ≡ 0))
cleared_either most row i j k same none (inl few) = inl (omega (arith, same, few.0), none few.1)
cleared_either most row i j k same none (inr few) = inr (omega (arith, same, few.0), few.1)

-- the status was cleared
pub calm_cleared : (most row : ℕ) (before between behind : ℕ) (i j : Inside) → Calm most row i j
    → Calm most row i (dr_inside before between behind reset_bits Dtmcs j)
calm_cleared most row before between behind i j c = record {
  paced = scan_paced before between behind reset_bits Dtmcs j c.paced;
  once = c.once;
  either = cleared_either most row i j (dr_inside before between behind reset_bits Dtmcs j) (reset_count before between behind j)
      (reset_none before between behind j) c.either;
}
