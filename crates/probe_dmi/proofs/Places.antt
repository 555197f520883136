-- Several operations across whole scans: which were performed, which is awaited, and which the transport has not taken; and what a cut scan makes of each.
use Rattle.std.proofs.Common.{◌≡◌, List, [], ◌∷◌, ◌++◌, map, All, ℕ, Bool, true, false, refl}
use Rattle.std.proofs.lemmas.List.Elements.{All-head}
use Rattle.debug_model.specs.declared.data_register.DataRegister.TheVariants.{Dmi}
use Rattle.debug_model.specs.declared.dmi_op.DmiOp.{DmiOp}
use Rattle.debug_model.specs.declared.dmi_scan.DmiScan.{DmiScan}
use Rattle.debug_model.specs.declared.sticky.Sticky.TheVariants.{Clear}
use Rattle.debug_model.specs.Chip.{Inside}
use Rattle.debug_model.specs.Course.{Course, Happening, Operation, each_once}
use Rattle.debug_model.specs.Course.Happening.{Launched, Performed}
use Rattle.debug_model.specs.Dmi.{IsOperation}
use Rattle.debug_model.specs.Dmi.AtMostOnce.{not_sent}
use Rattle.debug_model.specs.Many.{NextAtMostOnce, op_of}
use Rattle.debug_model.specs.Scan.{dr_inside, dtm_of, ticks}
use Rattle.debug_model.specs.Transport.{dmi_seen}
use Rattle.debug_model.specs.Asked.{first_scan, nop}
use Rattle.probe_dmi.specs.Registers.{Part, dmi_bits}
use Rattle.probe_dmi.specs.Registers.Part.{before_capture, behind_capture, behind_update}
use Rattle.probe_dmi.proofs.Carrying.{Carried, carry, launch_here, nop_here, settled_here, to_update}
use Rattle.probe_dmi.proofs.Carrying.Carried.{going_on, came_back, got_lost}
use Rattle.probe_dmi.proofs.Courses.{course_append, one_more, one_more_asked, with_result}
use Rattle.probe_dmi.proofs.Flight.{Settled, Waiting, wait_ticks}
use Rattle.probe_dmi.proofs.Stages.{Reached, launch_part, nop_harmless, once_of, settle_part, wait_captured}
use Rattle.probe_dmi.proofs.WholeScans.{cut_scan}

-- ---- where the operations stand

-- these were performed on the way to the base, and since then one was taken by the transport, or none
pub data Place (ops : List DmiOp) (done : List Operation) (left : List DmiOp) (flight : Bool) (base j : Inside) : Type 0 where
  none_awaited : flight ≡ false → map op_of done ++ left ≡ ops → (v : ℕ) → Settled [] v base j → Place ops done left flight base j
  one_awaited : flight ≡ true → (op : DmiOp) → map op_of done ++ op ∷ left ≡ ops → Waiting op base j → Place ops done left flight base j

-- ---- what happened to them in the end

pub record ReachedAll (ops : List DmiOp) (i k : Inside) : Type 0 where
  pub done : List Operation
  pub left : List DmiOp
  pub asked : map op_of done ++ left ≡ ops
  pub happened : List Happening
  pub path : Course i (each_once done ++ happened) k
  pub once : NextAtMostOnce left happened

none_next : (left : List DmiOp) → NextAtMostOnce left []
none_next [] = refl
none_next (op ∷ left) = not_sent

pub reached_none : (ops : List DmiOp) (i base k : Inside) (done : List Operation) (left : List DmiOp) (v : ℕ) → map op_of done ++ left ≡ ops
    → Course i (each_once done) base → Settled [] v base k → ReachedAll ops i k
reached_none ops i base k done left v asked c s =
    record { done = done; left = left; asked = asked; happened = []; path = course_append i base k (each_once done) [] c s.path; once = none_next left }

pub reached_one : (ops : List DmiOp) (i base k : Inside) (done : List Operation) (op : DmiOp) (left : List DmiOp) → map op_of done ++ op ∷ left ≡ ops
    → Course i (each_once done) base → Waiting op base k → ReachedAll ops i k
reached_one ops i base k done op left asked c w =
    record {
      done = done;
      left = op ∷ left;
      asked = asked;
      happened = w.happened;
      path = course_append i base k (each_once done) w.happened c w.path;
      once =
          once_of op w.happened (dtm_of k) w.phase;
    }

pub place_reached : (ops : List DmiOp) (i base k : Inside) (done : List Operation) (left : List DmiOp) (flight : Bool) → Course i (each_once done) base
    → Place ops done left flight base k → ReachedAll ops i k
place_reached ops i base k done left flight c (none_awaited e asked v s) = reached_none ops i base k done left v asked c s
place_reached ops i base k done left flight c (one_awaited e op asked w) = reached_one ops i base k done op left asked c w

-- ---- a cut scan

taken_part : (ops : List DmiOp) (i base k : Inside) (done : List Operation) (op : DmiOp) (left : List DmiOp) → map op_of done ++ op ∷ left ≡ ops
    → Course i (each_once done) base → Reached op base k → ReachedAll ops i k
taken_part ops i base k done op left asked c r =
    record {
      done = done;
      left = op ∷ left;
      asked = asked;
      happened = r.happened;
      path = course_append i base k (each_once done) r.happened c r.path;
      once =
          r.once;
    }

none_part : (ops : List DmiOp) (i base j k : Inside) (done : List Operation) (left : List DmiOp) (v : ℕ) → All IsOperation left → map op_of done ++ left ≡ ops
    → Course i (each_once done) base → Settled [] v base j → Part Dmi (dmi_bits (first_scan left)) j k → ReachedAll ops i k
none_part ops i base j k done [] v small asked c s p =
    reached_none ops i base k done [] v asked c (settle_part Dmi (dmi_bits nop) nop_harmless [] v base j k s p)
none_part ops i base j k done (next ∷ left) v small asked c s p =
    taken_part ops i base k done next left asked c (launch_part next v base j k (All-head IsOperation next left small) s p)

-- behind a result that came back
back_part : (ops : List DmiOp) (i base j : Inside) (done : List Operation) (op : DmiOp) (left : List DmiOp) (before between behind result : ℕ)
    → All IsOperation left → map op_of done ++ op ∷ left ≡ ops → Course i (each_once done) base
    → Settled (Launched op ∷ Performed op result ∷ []) result base (to_update before between j)
    → ReachedAll ops i (dr_inside before between behind (dmi_bits (first_scan left)) Dmi j)
back_part ops i base j done op [] before between behind result small asked c s =
    let n = to_update before between j in
    let here = settled_here (Launched op ∷ Performed op result ∷ []) result base n s in
    reached_none ops i n _ (done ++ with_result op result ∷ []) [] result (one_more_asked done op result [] ops asked)
    (one_more i base n done op result c s.path) (nop_here before between behind [] result n j here)
back_part ops i base j done op (next ∷ left) before between behind result small asked c s =
    let n = to_update before between j in
    let here = settled_here (Launched op ∷ Performed op result ∷ []) result base n s in
    reached_one ops i n _ (done ++ with_result op result ∷ []) next left (one_more_asked done op result (next ∷ left) ops asked)
    (one_more i base n done op result c s.path)
    (launch_here next before between behind result j (All-head IsOperation next left small) here).waiting

carried_part : (ops : List DmiOp) (i base j : Inside) (done : List Operation) (op : DmiOp) (left : List DmiOp) (before between behind : ℕ) (out : DmiScan)
    → All IsOperation left → map op_of done ++ op ∷ left ≡ ops → Course i (each_once done) base
    → Carried op base j (ticks before j) (to_update before between j) (dr_inside before between behind (dmi_bits (first_scan left)) Dmi j) out
    → ReachedAll ops i (dr_inside before between behind (dmi_bits (first_scan left)) Dmi j)
carried_part ops i base j done op left before between behind out small asked c (going_on o w s b) = reached_one ops i base _ done op left asked c w
carried_part ops i base j done op left before between behind out small asked c (came_back result o v a s) =
    back_part ops i base j done op left before between behind result small asked c s
carried_part ops i base j done op left before between behind out small asked c (got_lost o w l) = reached_one ops i base _ done op left asked c w

one_part : (ops : List DmiOp) (i base j : Inside) (done : List Operation) (op : DmiOp) (left : List DmiOp) (k : Inside) → All IsOperation left
    → map op_of done ++ op ∷ left ≡ ops → Course i (each_once done) base → Waiting op base j → (dtm_of j).sticky ≡ Clear
    → Part Dmi (dmi_bits (first_scan left)) j k → ReachedAll ops i k
one_part ops i base j done op left k small asked c w clear (before_capture before) =
    reached_one ops i base _ done op left asked c (wait_ticks before op base j w)
one_part ops i base j done op left k small asked c w clear (behind_capture before between) =
    reached_one ops i base _ done op left asked c (wait_captured Dmi before between op base j w)
one_part ops i base j done op left k small asked c w clear (behind_update before between behind) =
    carried_part ops i base j done op left before between behind (cut_scan (dmi_seen (dtm_of (ticks before j)))) small asked c
    (carry op (dmi_bits (first_scan left)) before between behind base j (cut_scan (dmi_seen (dtm_of (ticks before j)))) w clear refl)

pub place_part : (ops : List DmiOp) (i base j k : Inside) (done : List Operation) (left : List DmiOp) (flight : Bool) → All IsOperation left
    → Course i (each_once done) base → Place ops done left flight base j → (dtm_of j).sticky ≡ Clear
    → Part Dmi (dmi_bits (first_scan left)) j k → ReachedAll ops i k
place_part ops i base j k done left flight small c (none_awaited e asked v s) clear p = none_part ops i base j k done left v small asked c s p
place_part ops i base j k done left flight small c (one_awaited e op asked w) clear p = one_part ops i base j done op left k small asked c w clear p
