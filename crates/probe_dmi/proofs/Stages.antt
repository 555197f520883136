-- The stages of an operation across whole scans: not yet taken, taken and awaited, and done; and what a cut scan makes of each.
use Rattle.std.proofs.Common.{◌≡◌, ◌∙◌, ◌+◌, ◌%◌, ◌<◌, ℕ, List, [], ◌∷◌, ◌++◌, Bool, true, false, Option, Some, None, refl, sym, ap, subst, arith, append-nil}
use Rattle.jt_base.specs.BitList.{number_of}
use Rattle.debug_model.specs.declared.data_register.DataRegister.{DataRegister}
use Rattle.debug_model.specs.declared.data_register.DataRegister.TheVariants.{Idcode, Dtmcs, Dmi, Bypass}
use Rattle.debug_model.specs.declared.dmi_op.DmiOp.{DmiOp}
use Rattle.debug_model.specs.declared.dmi_scan.DmiScan.{DmiScan}
use Rattle.debug_model.specs.declared.sticky.Sticky.{Sticky}
use Rattle.debug_model.specs.declared.sticky.Sticky.TheVariants.{Clear, Failed, Busy}
use Rattle.debug_model.specs.Chip.{Inside}
use Rattle.debug_model.specs.Course.{Course, Happening, in_update, launches_by}
use Rattle.debug_model.specs.Course.Course.{captured, updated}
use Rattle.debug_model.specs.Course.Happening.{Launched, Performed}
use Rattle.debug_model.specs.Dmi.{AtMostOnce}
use Rattle.debug_model.specs.Dmi.AtMostOnce.{not_sent, in_flight, performed_once, lost_once}
use Rattle.debug_model.specs.Scan.{capture, dr_inside, dr_stays, dtm_of, ticks, update}
use Rattle.debug_model.specs.Transport.{Dtm, dmi_seen, finds_busy, launched, operation_of, seen, status_number, updated_dtm}
use Rattle.debug_model.specs.TransportWords.{dmi_of}
use Rattle.debug_model.specs.Dmi.{IsOperation}
use Rattle.debug_model.specs.Asked.{carrying, idcode_bits, nop, reset_bits}
use Rattle.probe_dmi.specs.Registers.{Part, dmi_bits}
use Rattle.probe_dmi.specs.Registers.Part.{before_capture, behind_capture, behind_update}
use Rattle.probe_dmi.proofs.Counts.{counts_in, course_losses, losses_one, scan_found, scan_losses, scan_unfound}
use Rattle.probe_dmi.proofs.Flight.{Phase, Settled, Waiting, alike, settle_ticks, ticks_sticky, wait_capture, wait_ticks}
use Rattle.probe_dmi.proofs.Flight.Phase.{flying, landed, missed}
use Rattle.probe_dmi.proofs.WholeScans.{asks_for, cut_scan, dmi_left, dtmcs_left, idcode_left}
use Rattle.probe_dmi.proofs.Updates.{ClearedBusy, Keeps, Spares, idcode_keeps, nop_keeps, reset_busy, reset_keeps, reset_spares, spares}

-- ---- scans while nothing is in flight

pub seen_is : (s t : Sticky) (f g : Option DmiOp) (a b : Bool) → s ≡ t → f ≡ g → a ≡ b → seen s f a ≡ seen t g b
seen_is s t f g a b d e h = cc

settled_seen : (hs : List Happening) (v : ℕ) (i j : Inside) → Settled hs v i j → seen (dtm_of j).sticky (dtm_of j).flight (dtm_of j).failed ≡ Clear
settled_seen hs v i j s = seen_is _ Clear _ None _ false s.clear s.flight s.failed

pub settle_capture : (r : DataRegister) (hs : List Happening) (v : ℕ) (i j : Inside) → Settled hs v i j → Settled hs v i (capture r j)
settle_capture Dmi hs v i j s = record {
  path = captured Dmi hs j s.path;
  flight = s.flight;
  failed = s.failed;
  clear = settled_seen hs v i j s;
  value_is =
      s.value_is;
}
settle_capture Dtmcs hs v i j s = record { path = captured Dtmcs hs j s.path; flight = s.flight; failed = s.failed; clear = s.clear; value_is = s.value_is }
settle_capture Idcode hs v i j s = record { path = captured Idcode hs j s.path; flight = s.flight; failed = s.failed; clear = s.clear; value_is = s.value_is }
settle_capture Bypass hs v i j s = record { path = captured Bypass hs j s.path; flight = s.flight; failed = s.failed; clear = s.clear; value_is = s.value_is }

pub settle_update : (r : DataRegister) (bits : List Bool) (hs : List Happening) (v : ℕ) (i j : Inside) → Keeps r bits (dtm_of j) → Settled hs v i j
    → Settled hs v i (update r bits j)
settle_update r bits hs v i j k s = record {
  path = subst (λ xs. Course i xs (update r bits j)) (ap (λ xs. hs ++ xs) k.none ∙ append-nil hs) (updated r bits hs j s.path);
  flight = ap (λ (d : Dtm). d.flight) k.same ∙ s.flight;
  failed = ap (λ (d : Dtm). d.failed) k.same ∙ s.failed;
  clear = ap (λ (d : Dtm). d.sticky) k.same ∙ s.clear;
  value_is = ap (λ (d : Dtm). d.value) k.same ∙ s.value_is;
}

-- a register that is as long as these bits, whose update keeps a clear transport
pub record Harmless (r : DataRegister) (bits : List Bool) : Type 0 where
  left : (m : Inside) → dr_stays bits r m ≡ bits
  keeps : (d : Dtm) → d.sticky ≡ Clear → Keeps r bits d

pub nop_harmless : Harmless Dmi (dmi_bits nop)
nop_harmless = record { left = dmi_left nop; keeps = λ d clear. nop_keeps d }

pub reset_harmless : Harmless Dtmcs reset_bits
reset_harmless = record { left = dtmcs_left; keeps = reset_keeps }

pub idcode_harmless : Harmless Idcode idcode_bits
idcode_harmless = record { left = idcode_left; keeps = λ d clear. idcode_keeps d }

pub settle_captured : (r : DataRegister) (before between : ℕ) (hs : List Happening) (v : ℕ) (i j : Inside) → Settled hs v i j
    → Settled hs v i (ticks between (capture r (ticks before j)))
settle_captured r before between hs v i j s =
    settle_ticks between hs v i (capture r (ticks before j)) (settle_capture r hs v i (ticks before j) (settle_ticks before hs v i j s))

pub settle_scan : (r : DataRegister) (bits : List Bool) (h : Harmless r bits) (before between behind : ℕ) (hs : List Happening) (v : ℕ) (i j : Inside)
    → Settled hs v i j → Settled hs v i (dr_inside before between behind bits r j)
settle_scan r bits h before between behind hs v i j s =
    let n = ticks between (capture r (ticks before j)) in
    let t = settle_captured r before between hs v i j s in
    settle_ticks behind hs v i (update r (dr_stays bits r (ticks before j)) n)
    (settle_update r (dr_stays bits r (ticks before j)) hs v i n
    (subst (λ x. Keeps r x (dtm_of n)) (sym (h.left (ticks before j))) (h.keeps (dtm_of n) t.clear)) t)

pub settle_part : (r : DataRegister) (bits : List Bool) (h : Harmless r bits) (hs : List Happening) (v : ℕ) (i j k : Inside) → Settled hs v i j
    → Part r bits j k → Settled hs v i k
settle_part r bits h hs v i j k s (before_capture before) = settle_ticks before hs v i j s
settle_part r bits h hs v i j k s (behind_capture before between) = settle_captured r before between hs v i j s
settle_part r bits h hs v i j k s (behind_update before between behind) = settle_scan r bits h before between behind hs v i j s

-- ---- scans while an operation is awaited

pub wait_update : (r : DataRegister) (bits : List Bool) (op : DmiOp) (i j : Inside) → Spares r bits (dtm_of j) → Waiting op i j → Waiting op i (update r bits j)
wait_update r bits op i j k w = record {
  happened = w.happened;
  path = subst (λ xs. Course i xs (update r bits j)) (ap (λ xs. w.happened ++ xs) k.none ∙ append-nil w.happened) (updated r bits w.happened j w.path);
  phase = alike op w.happened (dtm_of j) (dtm_of (update r bits j)) k.flight k.failed k.value w.phase;
}

pub wait_captured : (r : DataRegister) (before between : ℕ) (op : DmiOp) (i j : Inside) → Waiting op i j
    → Waiting op i (ticks between (capture r (ticks before j)))
wait_captured r before between op i j w =
    wait_ticks between op i (capture r (ticks before j)) (wait_capture r op i (ticks before j) (wait_ticks before op i j w))

-- as long as these bits, with an update that spares what is awaited
pub record Sparing (r : DataRegister) (bits : List Bool) (j : Inside) : Type 0 where
  left : (m : Inside) → dr_stays bits r m ≡ bits
  spares : (before between : ℕ) → Spares r bits (dtm_of (ticks between (capture r (ticks before j))))

pub nop_sparing : (j : Inside) → Sparing Dmi (dmi_bits nop) j
nop_sparing j = record { left = dmi_left nop; spares = λ before between. spares Dmi (dmi_bits nop) _ (nop_keeps _) }

busy_still : (before between : ℕ) (j : Inside) → (dtm_of j).sticky ≡ Busy → (dtm_of (ticks between (capture Dtmcs (ticks before j)))).sticky ≡ Busy
busy_still before between j busy = ticks_sticky between (capture Dtmcs (ticks before j)) ∙ ticks_sticky before j ∙ busy

reset_sparing : (j : Inside) → (dtm_of j).sticky ≡ Busy → Sparing Dtmcs reset_bits j
reset_sparing j busy = record { left = dtmcs_left; spares = λ before between. reset_spares _ (busy_still before between j busy) }

pub wait_scan : (r : DataRegister) (bits : List Bool) (op : DmiOp) (i j : Inside) → Sparing r bits j → Waiting op i j → (before between behind : ℕ)
    → Waiting op i (dr_inside before between behind bits r j)
wait_scan r bits op i j h w before between behind =
    let n = ticks between (capture r (ticks before j)) in
    let left = dr_stays bits r (ticks before j) in
    wait_ticks behind op i (update r left n)
    (wait_update r left op i n (subst (λ x. Spares r x (dtm_of n)) (sym (h.left (ticks before j))) (h.spares before between))
    (wait_captured r before between op i j w))

wait_part : (r : DataRegister) (bits : List Bool) (op : DmiOp) (i j k : Inside) → Sparing r bits j → Waiting op i j → Part r bits j k → Waiting op i k
wait_part r bits op i j k h w (before_capture before) = wait_ticks before op i j w
wait_part r bits op i j k h w (behind_capture before between) = wait_captured r before between op i j w
wait_part r bits op i j k h w (behind_update before between behind) = wait_scan r bits op i j h w before between behind

-- ---- the scan that carries it

pub record Launching (op : DmiOp) (bits : List Bool) (d : Dtm) : Type 0 where
  pub happened : in_update Dmi bits d ≡ Launched op ∷ []
  pub flight : (updated_dtm Dmi bits d).flight ≡ Some op
  pub clear : (updated_dtm Dmi bits d).sticky ≡ Clear

launched_some : (s : Sticky) (o : Option DmiOp) (op : DmiOp) (d : Dtm) → s ≡ Clear → o ≡ Some op
    → (launches_by s o ≡ Launched op ∷ []) × ((launched s o d).flight ≡ Some op) × ((launched s o d).sticky ≡ d.sticky)
launched_some Clear (Some p) op d e f = (ap (λ q. Launched q ∷ []) (let is : p ≡ op = cc in is), f, refl)
launched_some Clear None op d e f = absurd (let no : ⊥ = cc in no)
launched_some Failed o op d e f = absurd (let no : ⊥ = cc in no)
launched_some Busy o op d e f = absurd (let no : ⊥ = cc in no)

pub launching : (op : DmiOp) (d : Dtm) → IsOperation op → d.sticky ≡ Clear → Launching op (dmi_bits (carrying op)) d
unfolding updated_dtm
launching op d small clear =
    let l = launched_some d.sticky (operation_of (dmi_of (number_of (dmi_bits (carrying op))))) op d clear (asks_for op small) in
    record { happened = l.0; flight = l.1; clear = l.2 ∙ clear }

pub launch_update : (op : DmiOp) (bits : List Bool) (v : ℕ) (i j : Inside) → Launching op bits (dtm_of j) → Settled [] v i j → Waiting op i (update Dmi bits j)
launch_update op bits v i j l s = record {
  happened = [] ++ in_update Dmi bits (dtm_of j);
  path = updated Dmi bits [] j s.path;
  phase = flying l.happened l.flight;
}

pub record Sent (op : DmiOp) (i k : Inside) : Type 0 where
  pub waiting : Waiting op i k
  pub clear : (dtm_of k).sticky ≡ Clear

pub launch_scan : (op : DmiOp) (before between behind : ℕ) (v : ℕ) (i j : Inside) → IsOperation op → Settled [] v i j
    → Sent op i (dr_inside before between behind (dmi_bits (carrying op)) Dmi j)
launch_scan op before between behind v i j small s =
    let n = ticks between (capture Dmi (ticks before j)) in
    let t = settle_captured Dmi before between [] v i j s in
    let bits = dr_stays (dmi_bits (carrying op)) Dmi (ticks before j) in
    let l : Launching op bits (dtm_of n) = subst (λ x. Launching op x (dtm_of n)) (sym (dmi_left (carrying op) (ticks before j)))
    (launching op (dtm_of n) small t.clear) in
    record { waiting = wait_ticks behind op i (update Dmi bits n) (launch_update op bits v i n l t); clear = ticks_sticky behind (update Dmi bits n) ∙ l.clear }

-- ---- what happened to it in the end

pub record Reached (op : DmiOp) (i k : Inside) : Type 0 where
  pub happened : List Happening
  pub path : Course i happened k
  pub once : AtMostOnce op happened

pub once_of : (op : DmiOp) (hs : List Happening) (d : Dtm) → Phase op hs d → AtMostOnce op hs
once_of op hs d (flying h f) = subst (AtMostOnce op) (sym h) in_flight
once_of op hs d (landed result h f k v) = subst (AtMostOnce op) (sym h) (performed_once result)
once_of op hs d (missed h f k) = subst (AtMostOnce op) (sym h) lost_once

pub wait_reached : (op : DmiOp) (i k : Inside) → Waiting op i k → Reached op i k
wait_reached op i k w = record { happened = w.happened; path = w.path; once = once_of op w.happened (dtm_of k) w.phase }

pub settle_reached : (op : DmiOp) (v : ℕ) (i k : Inside) → Settled [] v i k → Reached op i k
settle_reached op v i k s = record { happened = []; path = s.path; once = not_sent }

pub launch_part : (op : DmiOp) (v : ℕ) (i j k : Inside) → IsOperation op → Settled [] v i j → Part Dmi (dmi_bits (carrying op)) j k → Reached op i k
launch_part op v i j k small s (before_capture before) = settle_reached op v i _ (settle_ticks before [] v i j s)
launch_part op v i j k small s (behind_capture before between) = settle_reached op v i _ (settle_captured Dmi before between [] v i j s)
launch_part op v i j k small s (behind_update before between behind) = wait_reached op i _ (launch_scan op before between behind v i j small s).waiting

-- ---- the stages, by whether the transport has taken it

pub data Stage (op : DmiOp) (taken : Bool) (i j : Inside) : Type 0 where
  ready : taken ≡ false → (v : ℕ) → Settled [] v i j → Stage op taken i j
  sent : taken ≡ true → Waiting op i j → Stage op taken i j

pub stage_reached : (op : DmiOp) (taken : Bool) (i j : Inside) → Stage op taken i j → Reached op i j
stage_reached op taken i j (ready e v s) = settle_reached op v i j s
stage_reached op taken i j (sent e w) = wait_reached op i j w

-- ---- a nop that is scanned while an operation is awaited

-- by what came out: it is in flight still, or was performed, or lost
pub data Outcome (op : DmiOp) (i j k : Inside) (out : DmiScan) : Type 0 where
  went_on : out.op ≡ 3 → Waiting op i k → (dtm_of k).sticky ≡ Busy → (counts_in k).dmi_busy ≡ (counts_in j).dmi_busy + 1 → Outcome op i j k out
  was_done : (result : ℕ) → out.op ≡ 0 → out.value ≡ result % 4294967296 → Settled (Launched op ∷ Performed op result ∷ []) result i k → Outcome op i j k out
  was_lost : out.op ≡ 2 → Waiting op i k → (counts_in i).dmi_failed < (counts_in k).dmi_failed → Outcome op i j k out

pub op_seen : (d : Dtm) (out : DmiScan) (s : Sticky) → out ≡ cut_scan (dmi_seen d) → seen d.sticky d.flight d.failed ≡ s → out.op ≡ status_number s % 4
op_seen d out s is e = ap (λ (x : DmiScan). x.op) is ∙ ap (λ q. status_number q % 4) e

-- the update of a nop leaves the status of the capture
nop_sticky : (before between behind : ℕ) (j : Inside)
    → (dtm_of (dr_inside before between behind (dmi_bits nop) Dmi j)).sticky ≡ (dtm_of (capture Dmi (ticks before j))).sticky
nop_sticky before between behind j =
    let n = ticks between (capture Dmi (ticks before j)) in
    let left = dr_stays (dmi_bits nop) Dmi (ticks before j) in
    let k : Keeps Dmi left (dtm_of n) = subst (λ x. Keeps Dmi x (dtm_of n)) (sym (dmi_left nop (ticks before j))) (nop_keeps (dtm_of n)) in
    ticks_sticky behind (update Dmi left n) ∙ ap (λ (d : Dtm). d.sticky) k.same ∙ ticks_sticky between (capture Dmi (ticks before j))

pub finds_is : (s t : Sticky) (f g : Option DmiOp) → s ≡ t → f ≡ g → finds_busy s f ≡ finds_busy t g
finds_is s t f g d e = cc

pub settle_from : (between behind : ℕ) (hs : List Happening) (v : ℕ) (i m : Inside) → Settled hs v i m
    → Settled hs v i (dr_inside 0 between behind (dmi_bits nop) Dmi m)
settle_from between behind hs v i m s = settle_scan Dmi (dmi_bits nop) nop_harmless 0 between behind hs v i m s

await_by : (op : DmiOp) (before between behind : ℕ) (i j : Inside) (out : DmiScan) → Waiting op i j → (dtm_of j).sticky ≡ Clear
    → out ≡ cut_scan (dmi_seen (dtm_of (ticks before j)))
    → (hs : List Happening) → Course i hs (ticks before j) → Phase op hs (dtm_of (ticks before j))
    → Outcome op i j (dr_inside before between behind (dmi_bits nop) Dmi j) out
unfolding ticks
await_by op before between behind i j out w clear is hs path (flying h f) =
    let m = ticks before j in
    let still = ticks_sticky before j ∙ clear in
    let busy : seen (dtm_of m).sticky (dtm_of m).flight (dtm_of m).failed ≡ Busy = seen_is _ Clear _ (Some op) _ (dtm_of m).failed still f refl in
    went_on (op_seen (dtm_of m) out Busy is busy) (wait_scan Dmi (dmi_bits nop) op i j (nop_sparing j) w before between behind)
    (nop_sticky before between behind j ∙ busy)
    (scan_found before between behind (dmi_bits nop) Dmi j (finds_is _ Clear _ (Some op) still f))
await_by op before between behind i j out w clear is hs path (landed result h f k v) =
    let m = ticks before j in
    let still = ticks_sticky before j ∙ clear in
    let done : seen (dtm_of m).sticky (dtm_of m).flight (dtm_of m).failed ≡ Clear = seen_is _ Clear _ None _ false still f k in
    let s : Settled (Launched op ∷ Performed op result ∷ []) result i m =
    record { path = subst (λ xs. Course i xs m) h path; flight = f; failed = k; clear = still; value_is = v } in
    was_done result (op_seen (dtm_of m) out Clear is done) (ap (λ (x : DmiScan). x.value) is ∙ ap (λ n. n % 4294967296) v)
    (settle_from between behind (Launched op ∷ Performed op result ∷ []) result i m s)
await_by op before between behind i j out w clear is hs path (missed h f k) =
    let m = ticks before j in
    let still = ticks_sticky before j ∙ clear in
    let gone : seen (dtm_of m).sticky (dtm_of m).flight (dtm_of m).failed ≡ Failed = seen_is _ Clear _ None _ true still f k in
    was_lost (op_seen (dtm_of m) out Failed is gone) (wait_scan Dmi (dmi_bits nop) op i j (nop_sparing j) w before between behind)
    (omega (arith, course_losses i m hs path, losses_one op hs h, scan_losses before between behind (dmi_bits nop) Dmi j))

pub await : (op : DmiOp) (before between behind : ℕ) (i j : Inside) (out : DmiScan) → Waiting op i j → (dtm_of j).sticky ≡ Clear
    → out ≡ cut_scan (dmi_seen (dtm_of (ticks before j)))
    → Outcome op i j (dr_inside before between behind (dmi_bits nop) Dmi j) out
await op before between behind i j out w clear is =
    let at = wait_ticks before op i j w in
    await_by op before between behind i j out w clear is at.happened at.path at.phase

-- the scan that carries it finds nothing in flight
pub ready_op : (before : ℕ) (v : ℕ) (i j : Inside) (out : DmiScan) → Settled [] v i j → out ≡ cut_scan (dmi_seen (dtm_of (ticks before j))) → out.op ≡ 0
ready_op before v i j out s is = op_seen (dtm_of (ticks before j)) out Clear is (settled_seen [] v i (ticks before j) (settle_ticks before [] v i j s))

pub launch_busy : (op : DmiOp) (before between behind : ℕ) (v : ℕ) (i j : Inside) → Settled [] v i j
    → (counts_in (dr_inside before between behind (dmi_bits (carrying op)) Dmi j)).dmi_busy ≡ (counts_in j).dmi_busy
launch_busy op before between behind v i j s =
    let m = settle_ticks before [] v i j s in
    scan_unfound before between behind (dmi_bits (carrying op)) Dmi j (finds_is _ Clear _ None m.clear m.flight)

-- ---- dmireset while it is awaited

pub reset_wait : (op : DmiOp) (before between behind : ℕ) (i j : Inside) → (dtm_of j).sticky ≡ Busy → Waiting op i j
    → Sent op i (dr_inside before between behind reset_bits Dtmcs j)
reset_wait op before between behind i j busy w =
    let n = ticks between (capture Dtmcs (ticks before j)) in
    let left = dr_stays reset_bits Dtmcs (ticks before j) in
    let c : ClearedBusy (dtm_of n) (updated_dtm Dtmcs left (dtm_of n)) =
    subst (λ x. ClearedBusy (dtm_of n) (updated_dtm Dtmcs x (dtm_of n))) (sym (dtmcs_left (ticks before j)))
    (reset_busy (dtm_of n) (busy_still before between j busy)) in
    record {
      waiting = wait_scan Dtmcs reset_bits op i j (reset_sparing j busy) w before between behind;
      clear = ticks_sticky behind (update Dtmcs left n)
          ∙ c.clear;
    }

pub reset_count : (before between behind : ℕ) (j : Inside) → (counts_in (dr_inside before between behind reset_bits Dtmcs j)).dmi_busy ≡ (counts_in j).dmi_busy
reset_count before between behind j = scan_unfound before between behind reset_bits Dtmcs j refl

pub reset_part : (op : DmiOp) (i j k : Inside) → (dtm_of j).sticky ≡ Busy → Waiting op i j → Part Dtmcs reset_bits j k → Waiting op i k
reset_part op i j k busy w p = wait_part Dtmcs reset_bits op i j k (reset_sparing j busy) w p

pub nop_part : (op : DmiOp) (i j k : Inside) → Waiting op i j → Part Dmi (dmi_bits nop) j k → Waiting op i k
nop_part op i j k w p = wait_part Dmi (dmi_bits nop) op i j k (nop_sparing j) w p
