-- A scan of dmi while an operation is awaited, whatever it carries: where the status was found busy or failed its update does nothing, and where the
-- operation was performed the next is launched from there.
use Rattle.std.proofs.Common.{◌≡◌, ◌≢◌, ◌∙◌, ◌+◌, ◌%◌, ◌<◌, ◌≤◌, ℕ, List, [], ◌∷◌, Bool, true, false, Option, Some, None, refl, sym, ap, subst, arith}
use Rattle.jt_base.specs.BitList.{number_of}
use Rattle.debug_model.specs.declared.data_register.DataRegister.TheVariants.{Dmi}
use Rattle.debug_model.specs.declared.counts.Counts.{Counts}
use Rattle.debug_model.specs.declared.dmi_op.DmiOp.{DmiOp}
use Rattle.debug_model.specs.declared.dmi_scan.DmiScan.{DmiScan}
use Rattle.debug_model.specs.declared.sticky.Sticky.{Sticky}
use Rattle.debug_model.specs.declared.sticky.Sticky.TheVariants.{Clear, Failed, Busy}
use Rattle.debug_model.specs.Chip.{Inside, busy_counted}
use Rattle.debug_model.specs.Course.{Course, Happening, launches_by}
use Rattle.debug_model.specs.Course.Course.{nothing}
use Rattle.debug_model.specs.Course.Happening.{Launched, Performed}
use Rattle.debug_model.specs.Dmi.{IsOperation}
use Rattle.debug_model.specs.Scan.{capture, dr_inside, dr_stays, dtm_of, ticks, update}
use Rattle.debug_model.specs.Transport.{Dtm, dmi_seen, launched, operation_of, seen, sets_busy, updated_dtm}
use Rattle.debug_model.specs.TransportWords.{dmi_of}
use Rattle.debug_model.specs.Asked.{carrying, nop}
use Rattle.probe_dmi.specs.Registers.{dmi_bits}
use Rattle.probe_dmi.proofs.Counts.{counts_in, course_losses, losses_one, scan_found, scan_losses, ticks_busy}
use Rattle.probe_dmi.proofs.Flight.{Phase, Settled, Waiting, settle_ticks, ticks_sticky, wait_ticks}
use Rattle.probe_dmi.proofs.Flight.Phase.{flying, landed, missed}
use Rattle.probe_dmi.proofs.Stages.{Launching, Sent, finds_is, launch_update, launching, op_seen, seen_is, settle_capture, settle_update, wait_captured}
use Rattle.probe_dmi.proofs.Stages.{wait_update}
use Rattle.probe_dmi.proofs.Updates.{Keeps, nop_keeps, spares}
use Rattle.probe_dmi.proofs.WholeScans.{cut_scan, dmi_left}

-- ---- an update while the status is not clear

stuck_launches : (s : Sticky) (op : Option DmiOp) → s ≢ Clear → launches_by s op ≡ []
stuck_launches Clear op stuck = absurd (stuck refl)
stuck_launches Failed op stuck = refl
stuck_launches Busy op stuck = refl

pub stuck_launched : (s : Sticky) (op : Option DmiOp) (d : Dtm) → s ≢ Clear → launched s op d ≡ d
stuck_launched Clear op d stuck = absurd (stuck refl)
stuck_launched Failed op d stuck = refl
stuck_launched Busy op d stuck = refl

pub stuck_keeps : (bits : List Bool) (d : Dtm) → d.sticky ≢ Clear → Keeps Dmi bits d
unfolding updated_dtm
stuck_keeps bits d stuck =
    let op = operation_of (dmi_of (number_of bits)) in
    record { none = stuck_launches d.sticky op stuck; same = stuck_launched d.sticky op d stuck }

-- just before the update of a scan
abbrev pub to_update : ℕ → ℕ → Inside → Inside
to_update before between j = ticks between (capture Dmi (ticks before j))

stuck_scan : (bits : List Bool) (op : DmiOp) (before between behind : ℕ) (i j : Inside) → (dtm_of (to_update before between j)).sticky ≢ Clear → Waiting op i j
    → Waiting op i (dr_inside before between behind bits Dmi j)
stuck_scan bits op before between behind i j stuck w =
    let n = to_update before between j in
    let left = dr_stays bits Dmi (ticks before j) in
    wait_ticks behind op i (update Dmi left n)
    (wait_update Dmi left op i n (spares Dmi left (dtm_of n) (stuck_keeps left (dtm_of n) stuck)) (wait_captured Dmi before between op i j w))

stuck_sticky : (bits : List Bool) (before between behind : ℕ) (j : Inside) (s : Sticky) → (dtm_of (to_update before between j)).sticky ≡ s → s ≢ Clear
    → (dtm_of (dr_inside before between behind bits Dmi j)).sticky ≡ s
stuck_sticky bits before between behind j s is stuck =
    let n = to_update before between j in
    let left = dr_stays bits Dmi (ticks before j) in
    let k : Keeps Dmi left (dtm_of n) = stuck_keeps left (dtm_of n) (λ e. stuck (sym is ∙ e)) in
    ticks_sticky behind (update Dmi left n) ∙ ap (λ (d : Dtm). d.sticky) k.same ∙ is

busy_is_stuck : Busy ≢ Clear
busy_is_stuck e = cc

failed_is_stuck : Failed ≢ Clear
failed_is_stuck e = cc

-- ---- what becomes of an operation that is awaited

-- by what came out of a scan from j to k whose capture came at m and its update at n: it is in flight still, or came back, or was lost
pub data Carried (op : DmiOp) (i j m n k : Inside) (out : DmiScan) : Type 0 where
  going_on : out.op ≡ 3 → Waiting op i k → (dtm_of k).sticky ≡ Busy → (counts_in k).dmi_busy ≡ (counts_in j).dmi_busy + 1 → Carried op i j m n k out
  came_back : (result : ℕ) → out.op ≡ 0 → out.value ≡ result % 4294967296 → Settled (Launched op ∷ Performed op result ∷ []) result i m
      → Settled (Launched op ∷ Performed op result ∷ []) result i n → Carried op i j m n k out
  got_lost : out.op ≡ 2 → Waiting op i k → (counts_in i).dmi_failed < (counts_in k).dmi_failed → Carried op i j m n k out

carry_by : (op : DmiOp) (bits : List Bool) (before between behind : ℕ) (i j : Inside) (out : DmiScan) → Waiting op i j → (dtm_of j).sticky ≡ Clear
    → out ≡ cut_scan (dmi_seen (dtm_of (ticks before j)))
    → (hs : List Happening) → Course i hs (ticks before j) → Phase op hs (dtm_of (ticks before j))
    → Carried op i j (ticks before j) (to_update before between j) (dr_inside before between behind bits Dmi j) out
carry_by op bits before between behind i j out w clear is hs path (flying h f) =
    let m = ticks before j in
    let still = ticks_sticky before j ∙ clear in
    let busy : seen (dtm_of m).sticky (dtm_of m).flight (dtm_of m).failed ≡ Busy = seen_is _ Clear _ (Some op) _ (dtm_of m).failed still f refl in
    let at_update : (dtm_of (to_update before between j)).sticky ≡ Busy = ticks_sticky between (capture Dmi m) ∙ busy in
    going_on (op_seen (dtm_of m) out Busy is busy) (stuck_scan bits op before between behind i j (λ e. busy_is_stuck (sym at_update ∙ e)) w)
    (stuck_sticky bits before between behind j Busy at_update busy_is_stuck)
    (scan_found before between behind bits Dmi j (finds_is _ Clear _ (Some op) still f))
carry_by op bits before between behind i j out w clear is hs path (landed result h f k v) =
    let m = ticks before j in
    let still = ticks_sticky before j ∙ clear in
    let done : seen (dtm_of m).sticky (dtm_of m).flight (dtm_of m).failed ≡ Clear = seen_is _ Clear _ None _ false still f k in
    let hs' = Launched op ∷ Performed op result ∷ [] in
    let s : Settled hs' result i m = record { path = subst (λ xs. Course i xs m) h path; flight = f; failed = k; clear = still; value_is = v } in
    came_back result (op_seen (dtm_of m) out Clear is done) (ap (λ (x : DmiScan). x.value) is ∙ ap (λ n. n % 4294967296) v)
    s (settle_ticks between hs' result i (capture Dmi m) (settle_capture Dmi hs' result i m s))
carry_by op bits before between behind i j out w clear is hs path (missed h f k) =
    let m = ticks before j in
    let still = ticks_sticky before j ∙ clear in
    let gone : seen (dtm_of m).sticky (dtm_of m).flight (dtm_of m).failed ≡ Failed = seen_is _ Clear _ None _ true still f k in
    let at_update : (dtm_of (to_update before between j)).sticky ≡ Failed = ticks_sticky between (capture Dmi m) ∙ gone in
    got_lost (op_seen (dtm_of m) out Failed is gone) (stuck_scan bits op before between behind i j (λ e. failed_is_stuck (sym at_update ∙ e)) w)
    (omega (arith, course_losses i m hs path, losses_one op hs h, scan_losses before between behind bits Dmi j))

pub carry : (op : DmiOp) (bits : List Bool) (before between behind : ℕ) (i j : Inside) (out : DmiScan) → Waiting op i j → (dtm_of j).sticky ≡ Clear
    → out ≡ cut_scan (dmi_seen (dtm_of (ticks before j)))
    → Carried op i j (ticks before j) (to_update before between j) (dr_inside before between behind bits Dmi j) out
carry op bits before between behind i j out w clear is =
    let at = wait_ticks before op i j w in
    carry_by op bits before between behind i j out w clear is at.happened at.path at.phase

-- ---- from just before the update on

pub settled_here : (hs : List Happening) (v : ℕ) (i n : Inside) → Settled hs v i n → Settled [] v n n
settled_here hs v i n s = record { path = nothing; flight = s.flight; failed = s.failed; clear = s.clear; value_is = s.value_is }

-- the next operation is launched
pub launch_here : (op : DmiOp) (before between behind : ℕ) (v : ℕ) (j : Inside) → IsOperation op
    → Settled [] v (to_update before between j) (to_update before between j)
    → Sent op (to_update before between j) (dr_inside before between behind (dmi_bits (carrying op)) Dmi j)
launch_here op before between behind v j small s =
    let n = to_update before between j in
    let bits = dr_stays (dmi_bits (carrying op)) Dmi (ticks before j) in
    let l : Launching op bits (dtm_of n) = subst (λ x. Launching op x (dtm_of n)) (sym (dmi_left (carrying op) (ticks before j)))
    (launching op (dtm_of n) small s.clear) in
    record { waiting = wait_ticks behind op n (update Dmi bits n) (launch_update op bits v n n l s); clear = ticks_sticky behind (update Dmi bits n) ∙ l.clear }

-- nothing is
pub nop_here : (before between behind : ℕ) (hs : List Happening) (v : ℕ) (i j : Inside) → Settled hs v i (to_update before between j)
    → Settled hs v i (dr_inside before between behind (dmi_bits nop) Dmi j)
nop_here before between behind hs v i j s =
    let n = to_update before between j in
    let left = dr_stays (dmi_bits nop) Dmi (ticks before j) in
    settle_ticks behind hs v i (update Dmi left n)
    (settle_update Dmi left hs v i n (subst (λ x. Keeps Dmi x (dtm_of n)) (sym (dmi_left nop (ticks before j))) (nop_keeps (dtm_of n))) s)

-- ---- captures that found it busy are only added

busy_more : (found : Bool) (k : Counts) → k.dmi_busy ≤ (busy_counted found k).dmi_busy
busy_more true k = omega arith
busy_more false k = omega arith

pub scan_busy : (before between behind : ℕ) (bits : List Bool) (j : Inside)
    → (counts_in j).dmi_busy ≤ (counts_in (dr_inside before between behind bits Dmi j)).dmi_busy
scan_busy before between behind bits j =
    let m = ticks before j in
    let n = to_update before between j in
    let left = dr_stays bits Dmi m in
    omega (
      arith,
      ticks_busy before j,
      busy_more (sets_busy Dmi (dtm_of m)) (counts_in m),
      ticks_busy between (capture Dmi m),
      ticks_busy behind (update Dmi left n),
    )
