-- Several operations on a told chip, call by call: where their loop stands, and what each way out of it leaves.
use Rattle.std.proofs.Common.{◌≡◌, ◌∙◌, ◌+◌, ◌≤◌, ℕ, List, [], ◌∷◌, ◌++◌, ◌%◌, map, Bool, true, false, Option, Some, None, IfSome, refl, sym, ap, subst, arith, append-nil}
use Rattle.std.proofs.lemmas.List.{map-append}
use Rattle.chip_laws.proofs.PathLemmas.{site_path}
use Rattle.debug_model.specs.declared.data_register.DataRegister.TheVariants.{Dmi}
use Rattle.debug_model.specs.declared.dmi_op.DmiOp.{DmiOp}
use Rattle.debug_model.specs.declared.dmi_scan.DmiScan.{DmiScan}
use Rattle.debug_model.specs.declared.sticky.Sticky.TheVariants.{Clear, Busy}
use Rattle.debug_model.specs.Chip.{Chip, Inside}
use Rattle.debug_model.specs.Course.{Course, Operation, SitePath, each_once}
use Rattle.debug_model.specs.Course.Course.{nothing}
use Rattle.debug_model.specs.Course.Happening.{Launched, Performed}
use Rattle.debug_model.specs.Dmi.{IsOperation}
use Rattle.debug_model.specs.Many.{OperationsCut, answer_of, op_of}
use Rattle.debug_model.specs.Scan.{WhereTold, dr_inside, dtm_of, ticks}
use Rattle.debug_model.specs.Told.{Far, IsClean, chip_of, site_of}
use Rattle.probe_dmi.specs.Operations.{kept}
use Rattle.debug_model.specs.Asked.{carrying}
use Rattle.probe_dmi.specs.Registers.{DmiScanned, Prepared, Waited, dmi_bits}
use Rattle.probe_dmi.proofs.Carrying.{Carried, carry, launch_here, scan_busy, settled_here, to_update}
use Rattle.probe_dmi.proofs.Carrying.Carried.{going_on, came_back, got_lost}
use Rattle.probe_dmi.proofs.Counts.{counts_in, ticks_busy}
use Rattle.probe_dmi.proofs.Courses.{course_append, one_more, one_more_asked, performed-each, with_result}
use Rattle.debug_model.specs.Pacing.{Paced, PacedAlong, harts_in}
use Rattle.debug_model.specs.Module.{Site}
use Rattle.debug_model.specs.TransportWords.{dmi_word}
use Rattle.jt_base.specs.BitLaws.{length-bits_of}
use Rattle.probe_dmi.proofs.Lively.{first_along, next_along}
use Rattle.probe_dmi.proofs.Flight.{Settled, Waiting, settle_ticks, ticks_sticky}
use Rattle.probe_dmi.proofs.Places.{Place, ReachedAll, reached_none}
use Rattle.probe_dmi.proofs.Places.Place.{none_awaited, one_awaited}
use Rattle.probe_dmi.proofs.Stages.{Sent, settle_captured}
use Rattle.probe_dmi.proofs.Told.{at_passed, heard_is, other_op, settled_first}

-- ---- where the loop stands

-- with nothing in flight none was done; else each part of the chip got on before each operation, and before the base where the next was launched
abbrev pub PacedSoFar : ℕ → Site → List Operation → Bool → Site → Type 0
PacedSoFar harts s done false t = done ≡ []
PacedSoFar harts s done true t = PacedAlong harts s done t

pub record Streaming (ops : List DmiOp) (results : List ℕ) (left : List DmiOp) (flight : Bool) (busy : ℕ) (c : Chip) (new : Option Far) : Type 0 where
  pub far : Far
  pub is : new ≡ Some far
  pub done : List Operation
  pub results_are : results ≡ map answer_of done
  pub base : Inside
  pub so_far : Course c.inside (each_once done) base
  pub pace : Paced c.inside → PacedSoFar (harts_in c.inside) c.inside.works.site done flight base.works.site
  pub place : Place ops done left flight base (chip_of far).inside
  pub clear : (dtm_of (chip_of far).inside).sticky ≡ Clear
  pub found : (counts_in c.inside).dmi_busy + busy ≤ (counts_in (chip_of far).inside).dmi_busy

-- one more scan found it busy, and its status is not cleared yet
pub record StillStreaming (ops : List DmiOp) (results : List ℕ) (left : List DmiOp) (flight : Bool) (busy : ℕ) (c : Chip) (new : Option Far) : Type 0 where
  pub far : Far
  pub is : new ≡ Some far
  pub done : List Operation
  pub results_are : results ≡ map answer_of done
  pub base : Inside
  pub so_far : Course c.inside (each_once done) base
  pub pace : Paced c.inside → PacedSoFar (harts_in c.inside) c.inside.works.site done flight base.works.site
  pub in_flight : flight ≡ true
  pub op : DmiOp
  pub asked : map op_of done ++ op ∷ left ≡ ops
  pub waiting : Waiting op base (chip_of far).inside
  pub busy_still : (dtm_of (chip_of far).inside).sticky ≡ Busy
  pub found : (counts_in c.inside).dmi_busy + (busy + 1) ≤ (counts_in (chip_of far).inside).dmi_busy

-- of one that is awaited
pub streaming_along : (ops : List DmiOp) (results : List ℕ) (left : List DmiOp) (flight : Bool) (busy : ℕ) (c : Chip) (new : Option Far)
    (u : Streaming ops results left flight busy c new) → flight ≡ true → Paced c.inside
    → PacedAlong (harts_in c.inside) c.inside.works.site u.done u.base.works.site
streaming_along ops results left flight busy c new u one paced =
    subst (λ b. PacedSoFar (harts_in c.inside) c.inside.works.site u.done b u.base.works.site) one (u.pace paced)

-- the next call, from where the loop stands
pub stream_then : (Q T : Chip → Option Far → Type 0) (ops : List DmiOp) (results : List ℕ) (left : List DmiOp) (flight : Bool) (busy : ℕ)
    (old mid new : Option Far)
    → ((f : Far) (u : Streaming ops results left flight busy (chip_of f) mid) → Q (chip_of u.far) new → T (chip_of f) new)
    → WhereTold (Streaming ops results left flight busy) old mid → WhereTold Q mid new → WhereTold T old new
stream_then Q T ops results left flight busy None mid new step u q = subst (λ m. WhereTold Q m new) u q
stream_then Q T ops results left flight busy (Some f) mid new step u q = step f u (subst (λ m. WhereTold Q m new) u.is q)

pub still_then : (Q T : Chip → Option Far → Type 0) (ops : List DmiOp) (results : List ℕ) (left : List DmiOp) (flight : Bool) (busy : ℕ)
    (old mid new : Option Far)
    → ((f : Far) (u : StillStreaming ops results left flight busy (chip_of f) mid) → Q (chip_of u.far) new → T (chip_of f) new)
    → WhereTold (StillStreaming ops results left flight busy) old mid → WhereTold Q mid new → WhereTold T old new
still_then Q T ops results left flight busy None mid new step u q = subst (λ m. WhereTold Q m new) u q
still_then Q T ops results left flight busy (Some f) mid new step u q = step f u (subst (λ m. WhereTold Q m new) u.is q)

pub streaming_clear : (ops : List DmiOp) (results : List ℕ) (left : List DmiOp) (flight : Bool) (busy : ℕ) (old new : Option Far)
    → WhereTold (Streaming ops results left flight busy) old new → IfSome new (λ f. (dtm_of (chip_of f).inside).sticky ≡ Clear)
streaming_clear ops results left flight busy None new u = subst (λ t. IfSome t (λ f. (dtm_of (chip_of f).inside).sticky ≡ Clear)) (sym u) tt
streaming_clear ops results left flight busy (Some f) new u = subst (λ t. IfSome t (λ f. (dtm_of (chip_of f).inside).sticky ≡ Clear)) (sym u.is) u.clear

-- ---- what a fault leaves

pub cut_of : (ops : List DmiOp) (f : Far) (new : Option Far) (far : Far) → new ≡ Some far → ReachedAll ops (chip_of f).inside (chip_of far).inside
    → OperationsCut ops (chip_of f) new
cut_of ops f new far is r = record {
  far = far;
  is = is;
  done = r.done;
  rest = r.left;
  asked = r.asked;
  happened = r.happened;
  path = r.path;
  once = r.once;
  site = subst (λ os. SitePath (site_of f) os (site_of far)) (performed-each r.done r.happened)
      (site_path (chip_of f).inside (chip_of far).inside (each_once r.done ++ r.happened) r.path);
}

-- ---- its beginning

waited_cut : (ops : List DmiOp) (f : Far) (new : Option Far) → IsClean (Some f) → Waited (chip_of f) new → OperationsCut ops (chip_of f) new
waited_cut ops f new clean w =
    let i = (chip_of f).inside in
    let v = (dtm_of i).value in
    cut_of ops f new w.far w.is (reached_none ops i i (chip_of w.far).inside [] ops v refl nothing
    (at_passed (λ (n : Inside). Settled [] v i n) w.far (ticks w.rounds i) w.passed (settle_ticks w.rounds [] v i i (settled_first (chip_of f) clean))))

pub unbegun : (ops : List DmiOp) (old new : Option Far) → IsClean old → WhereTold Waited old new → WhereTold (OperationsCut ops) old new
unbegun ops None new clean w = w
unbegun ops (Some f) new clean w = waited_cut ops f new clean w

begun_at : (ops : List DmiOp) (results : List ℕ) (f : Far) (new : Option Far) → results ≡ [] → IsClean (Some f) → Prepared Dmi (chip_of f) new
    → Streaming ops results ops false 0 (chip_of f) new
begun_at ops results f new none clean p =
    let i = (chip_of f).inside in
    let v = (dtm_of i).value in
    let k = ticks p.rounds i in
    record {
      far = p.far;
      is = p.is;
      done = [];
      results_are = none;
      base = i;
      so_far = nothing;
      pace = λ paced. refl;
      place = at_passed (λ (n : Inside). Place ops [] ops false i n) p.far k p.passed
          (none_awaited refl refl v (settle_ticks p.rounds [] v i i (settled_first (chip_of f) clean)));
      clear = at_passed (λ (n : Inside). (dtm_of n).sticky ≡ Clear) p.far k p.passed (ticks_sticky p.rounds i ∙ clean.clear);
      found = at_passed (λ (n : Inside). (counts_in i).dmi_busy + 0 ≤ (counts_in n).dmi_busy) p.far k p.passed (omega (arith, ticks_busy p.rounds i));
    }

pub stream_begun : (ops : List DmiOp) (results : List ℕ) (old new : Option Far) → results ≡ [] → IsClean old → WhereTold (Prepared Dmi) old new
    → WhereTold (Streaming ops results ops false 0) old new
stream_begun ops results None new none clean p = p
stream_begun ops results (Some f) new none clean p = begun_at ops results f new none clean p

-- ---- what a scan of dmi heard

-- the outcome, where an operation is awaited
pub carried_at : (word : DmiScan) (op : DmiOp) (base : Inside) (out : DmiScan) (c : Chip) (new : Option Far) → Waiting op base c.inside
    → (dtm_of c.inside).sticky ≡ Clear → (d : DmiScanned word out c new)
    → Carried op base c.inside (ticks d.scanned.before c.inside) (to_update d.scanned.before d.scanned.between c.inside)
    (dr_inside d.scanned.before d.scanned.between d.scanned.behind (dmi_bits word) Dmi c.inside) out
carried_at word op base out c new w clear d =
    let x = d.scanned in
    carry op (dmi_bits word) x.before x.between x.behind base c.inside out w clear (heard_is word out c new d)

-- the transport took the next, with nothing in flight
taken_first : (ops : List DmiOp) (results results' : List ℕ) (next : DmiOp) (left : List DmiOp) (flight : Bool) (busy v : ℕ) (out : DmiScan) (f : Far)
    (mid new : Option Far) (u : Streaming ops results (next ∷ left) flight busy (chip_of f) mid)
    → IsOperation next → results' ≡ kept flight out.value results → flight ≡ false → map op_of u.done ++ next ∷ left ≡ ops
    → Settled [] v u.base (chip_of u.far).inside → DmiScanned (carrying next) out (chip_of u.far) new
    → Streaming ops results' left true 0 (chip_of f) new
taken_first ops results results' next left flight busy v out f mid new u small kept_is none asked s d =
    let x = d.scanned in
    let j = (chip_of u.far).inside in
    let k = dr_inside x.before x.between x.behind (dmi_bits (carrying next)) Dmi j in
    let n = to_update x.before x.between j in
    let t : Settled [] v u.base n = settle_captured Dmi x.before x.between [] v u.base j s in
    let l : Sent next n k = launch_here next x.before x.between x.behind v j small (settled_here [] v u.base n t) in
    record {
      far = x.far;
      is = x.is;
      done = u.done;
      results_are = kept_is ∙ ap (λ b. kept b out.value results) none ∙ u.results_are;
      base = n;
      so_far = subst (λ hs. Course (chip_of f).inside hs n) (append-nil (each_once u.done))
          (course_append (chip_of f).inside u.base n (each_once u.done) [] u.so_far t.path);
      pace = λ paced. first_along (chip_of f).inside u.base u.done v x.before x.between j
          (subst (λ b. PacedSoFar (harts_in (chip_of f).inside) (site_of f) u.done b u.base.works.site) none (u.pace paced)) u.so_far s
          (omega (arith, x.shifts, length-bits_of 41 (dmi_word (carrying next)))) paced;
      place = at_passed (λ (m : Inside). Place ops u.done left true n m) x.far k x.passed (one_awaited refl next asked l.waiting);
      clear = at_passed (λ (m : Inside). (dtm_of m).sticky ≡ Clear) x.far k x.passed l.clear;
      found = at_passed (λ (n : Inside). (counts_in (chip_of f).inside).dmi_busy + 0 ≤ (counts_in n).dmi_busy) x.far k x.passed
          (omega (arith, u.found, scan_busy x.before x.between x.behind (dmi_bits (carrying next)) j));
    }

-- the results with one more
pub more_results : (flight : Bool) (value : ℕ) (results results' : List ℕ) (done : List Operation) (op : DmiOp) (result : ℕ)
    → results' ≡ kept flight value results → flight ≡ true → value ≡ result % 4294967296 → results ≡ map answer_of done
    → results' ≡ map answer_of (done ++ with_result op result ∷ [])
more_results flight value results results' done op result kept_is one value_is are =
    kept_is ∙ ap (λ b. kept b value results) one ∙ ap (λ xs. xs ++ value ∷ []) are ∙ ap (λ n. map answer_of done ++ n ∷ []) value_is
    ∙ sym (map-append answer_of done (with_result op result ∷ []))

-- and with one in flight, whose result came
taken_next : (ops : List DmiOp) (results results' : List ℕ) (op next : DmiOp) (left : List DmiOp) (flight : Bool) (busy : ℕ) (out : DmiScan) (f : Far)
    (mid new : Option Far) (u : Streaming ops results (next ∷ left) flight busy (chip_of f) mid)
    → IsOperation next → out.op ≡ 0 → results' ≡ kept flight out.value results → flight ≡ true → map op_of u.done ++ op ∷ next ∷ left ≡ ops
    → (d : DmiScanned (carrying next) out (chip_of u.far) new)
    → Carried op u.base (chip_of u.far).inside (ticks d.scanned.before (chip_of u.far).inside)
    (to_update d.scanned.before d.scanned.between (chip_of u.far).inside)
    (dr_inside d.scanned.before d.scanned.between d.scanned.behind (dmi_bits (carrying next)) Dmi (chip_of u.far).inside) out
    → Streaming ops results' left true 0 (chip_of f) new
taken_next ops results results' op next left flight busy out f mid new u small done kept_is one asked d (going_on o w s b) =
    other_op out.op 0 3 done o (omega arith)
taken_next ops results results' op next left flight busy out f mid new u small done kept_is one asked d (got_lost o w l) =
    other_op out.op 0 2 done o (omega arith)
taken_next ops results results' op next left flight busy out f mid new u small done kept_is one asked d (came_back result o v a s) =
    let x = d.scanned in
    let j = (chip_of u.far).inside in
    let n = to_update x.before x.between j in
    let k = dr_inside x.before x.between x.behind (dmi_bits (carrying next)) Dmi j in
    let l : Sent next n k = launch_here next x.before x.between x.behind result j small
    (settled_here (Launched op ∷ Performed op result ∷ []) result u.base n s) in
    let more = u.done ++ with_result op result ∷ [] in
    record {
      far = x.far;
      is = x.is;
      done = more;
      results_are = more_results flight out.value results results' u.done op result kept_is one v u.results_are;
      base = n;
      so_far = one_more (chip_of f).inside u.base n u.done op result u.so_far s.path;
      pace = λ paced. next_along (chip_of f).inside u.base u.done op result x.before x.between j (streaming_along ops results (next ∷ left) flight busy (chip_of f) mid u one paced)
          u.so_far a (omega (arith, x.shifts, length-bits_of 41 (dmi_word (carrying next)))) paced;
      place = at_passed (λ (m : Inside). Place ops more left true n m) x.far k x.passed
          (one_awaited refl next (one_more_asked u.done op result (next ∷ left) ops asked) l.waiting);
      clear = at_passed (λ (m : Inside). (dtm_of m).sticky ≡ Clear) x.far k x.passed l.clear;
      found = at_passed (λ (m : Inside). (counts_in (chip_of f).inside).dmi_busy + 0 ≤ (counts_in m).dmi_busy) x.far k x.passed
          (omega (arith, u.found, scan_busy x.before x.between x.behind (dmi_bits (carrying next)) j));
    }

pub stream_on : (ops : List DmiOp) (results results' : List ℕ) (next : DmiOp) (left : List DmiOp) (flight : Bool) (busy : ℕ) (out : DmiScan)
    (old mid new : Option Far) → IsOperation next → out.op ≡ 0 → results' ≡ kept flight out.value results
    → WhereTold (Streaming ops results (next ∷ left) flight busy) old mid → WhereTold (DmiScanned (carrying next) out) mid new
    → WhereTold (Streaming ops results' left true 0) old new
stream_on ops results results' next left flight busy out old mid new small done kept_is u d =
    stream_then (DmiScanned (carrying next) out) (Streaming ops results' left true 0) ops results (next ∷ left) flight busy old mid new step u d
  where
    by : (f : Far) (u : Streaming ops results (next ∷ left) flight busy (chip_of f) mid) → Place ops u.done (next ∷ left) flight u.base (chip_of u.far).inside
        → DmiScanned (carrying next) out (chip_of u.far) new → Streaming ops results' left true 0 (chip_of f) new
    by f u (none_awaited e asked v s) d = taken_first ops results results' next left flight busy v out f mid new u small kept_is e asked s d
    by f u (one_awaited e op asked w) d = taken_next ops results results' op next left flight busy out f mid new u small done kept_is e asked d
        (carried_at (carrying next) op u.base out (chip_of u.far) new w u.clear d)

    step : (f : Far) (u : Streaming ops results (next ∷ left) flight busy (chip_of f) mid) → DmiScanned (carrying next) out (chip_of u.far) new
        → Streaming ops results' left true 0 (chip_of f) new
    step f u d = by f u u.place d
