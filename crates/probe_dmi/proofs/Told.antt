-- An operation on a told chip, call by call: where its loop stands, and what each way out of it leaves.
use Rattle.std.proofs.Common.{◌≡◌, ◌≢◌, ◌∙◌, ◌+◌, ◌≤◌, ℕ, List, [], ◌∷◌, Bool, true, false, Option, Some, None, IfSome, refl, sym, ap, subst, arith}
use Rattle.chip_laws.proofs.PathLemmas.{site_path, no_operation_is_deeds, one_operation_between_deeds}
use Rattle.debug_model.specs.declared.data_register.DataRegister.TheVariants.{Dtmcs, Dmi}
use Rattle.debug_model.specs.declared.dmi_op.DmiOp.{DmiOp}
use Rattle.debug_model.specs.declared.dmi_scan.DmiScan.{DmiScan}
use Rattle.debug_model.specs.declared.sticky.Sticky.TheVariants.{Clear, Busy}
use Rattle.debug_model.specs.Chip.{Chip, Inside}
use Rattle.debug_model.specs.Course.{Course, Happening}
use Rattle.debug_model.specs.Course.Course.{nothing}
use Rattle.debug_model.specs.Course.Happening.{Launched, Performed, Lost}
use Rattle.debug_model.specs.Dmi.{AtMostOnce, FoundBusy, LostOne, Operated, OperationCut, SiteCut}
use Rattle.debug_model.specs.Dmi.AtMostOnce.{not_sent, in_flight, performed_once, lost_once}
use Rattle.debug_model.specs.Dmi.SiteCut.{unperformed, was_performed}
use Rattle.debug_model.specs.Scan.{WhereTold, dr_inside, dtm_of, ticks}
use Rattle.debug_model.specs.Told.{DtmClean, Far, IsClean, chip_of, site_of}
use Rattle.debug_model.specs.Transport.{dmi_seen}
use Rattle.debug_model.specs.Dmi.{IsOperation}
use Rattle.debug_model.specs.Asked.{carrying, next_scan, nop, reset_bits}
use Rattle.probe_dmi.specs.Registers.{CutFrom, DmiScanned, Prepared, Waited, WordScanned, dmi_bits}
use Rattle.probe_dmi.proofs.Counts.{counts_in, ticks_busy}
use Rattle.probe_dmi.proofs.Flight.{Settled, Waiting, settle_ticks, ticks_sticky}
use Rattle.debug_model.specs.Pacing.{Paced, PacedAlong, harts_in}
use Rattle.debug_model.specs.TransportWords.{dmi_word}
use Rattle.jt_base.specs.BitLaws.{length-bits_of}
use Rattle.probe_dmi.proofs.Lively.{Lead, LedOut, lead_begun, lead_on, led_out}
use Rattle.probe_dmi.proofs.Stages.{nop_sparing, wait_scan}
use Rattle.probe_dmi.proofs.Stages.{Outcome, Reached, Sent, Stage, await, launch_busy, launch_part, launch_scan, nop_part, ready_op, reset_count}
use Rattle.probe_dmi.proofs.Stages.{reset_part, reset_wait, settle_reached, stage_reached, wait_reached}
use Rattle.probe_dmi.proofs.Stages.Outcome.{went_on, was_done, was_lost}
use Rattle.probe_dmi.proofs.Stages.Stage.{ready, sent}
use Rattle.probe_dmi.proofs.WholeScans.{cut_scan, heard_of}

pub false_is_true : {P : Type 0} → false ≡ true → P
false_is_true e = absurd (let no : ⊥ = cc in no)

-- ---- where the loop stands

pub record Underway (op : DmiOp) (taken : Bool) (busy : ℕ) (c : Chip) (new : Option Far) : Type 0 where
  pub far : Far
  pub is : new ≡ Some far
  pub stage : Stage op taken c.inside (chip_of far).inside
  pub clear : (dtm_of (chip_of far).inside).sticky ≡ Clear
  pub found : (counts_in (chip_of far).inside).dmi_busy ≡ (counts_in c.inside).dmi_busy + busy
  pub lead : taken ≡ true → Paced c.inside → Lead op c.inside (chip_of far).inside

-- one more scan found it busy, and its status is not cleared yet
pub record FoundAgain (op : DmiOp) (taken : Bool) (busy : ℕ) (c : Chip) (new : Option Far) : Type 0 where
  pub far : Far
  pub is : new ≡ Some far
  pub was_taken : taken ≡ true
  pub waiting : Waiting op c.inside (chip_of far).inside
  pub busy_still : (dtm_of (chip_of far).inside).sticky ≡ Busy
  pub found : (counts_in (chip_of far).inside).dmi_busy ≡ (counts_in c.inside).dmi_busy + (busy + 1)
  pub lead : Paced c.inside → Lead op c.inside (chip_of far).inside

-- the next call, from where the loop stands
under_then : (Q T : Chip → Option Far → Type 0) (op : DmiOp) (taken : Bool) (busy : ℕ) (old mid new : Option Far)
    → ((f : Far) (u : Underway op taken busy (chip_of f) mid) → Q (chip_of u.far) new → T (chip_of f) new)
    → WhereTold (Underway op taken busy) old mid → WhereTold Q mid new → WhereTold T old new
under_then Q T op taken busy None mid new step u q = subst (λ m. WhereTold Q m new) u q
under_then Q T op taken busy (Some f) mid new step u q = step f u (subst (λ m. WhereTold Q m new) u.is q)

again_then : (Q T : Chip → Option Far → Type 0) (op : DmiOp) (taken : Bool) (busy : ℕ) (old mid new : Option Far)
    → ((f : Far) (u : FoundAgain op taken busy (chip_of f) mid) → Q (chip_of u.far) new → T (chip_of f) new)
    → WhereTold (FoundAgain op taken busy) old mid → WhereTold Q mid new → WhereTold T old new
again_then Q T op taken busy None mid new step u q = subst (λ m. WhereTold Q m new) u q
again_then Q T op taken busy (Some f) mid new step u q = step f u (subst (λ m. WhereTold Q m new) u.is q)

pub underway_clear : (op : DmiOp) (taken : Bool) (busy : ℕ) (old new : Option Far) → WhereTold (Underway op taken busy) old new
    → IfSome new (λ f. (dtm_of (chip_of f).inside).sticky ≡ Clear)
underway_clear op taken busy None new u = subst (λ t. IfSome t (λ f. (dtm_of (chip_of f).inside).sticky ≡ Clear)) (sym u) tt
underway_clear op taken busy (Some f) new u = subst (λ t. IfSome t (λ f. (dtm_of (chip_of f).inside).sticky ≡ Clear)) (sym u.is) u.clear

-- ---- its beginning

pub settled_first : (c : Chip) → DtmClean (dtm_of c.inside) → Settled [] (dtm_of c.inside).value c.inside c.inside
settled_first c clean = record { path = nothing; flight = clean.none_in_flight; failed = clean.not_failed; clear = clean.clear; value_is = refl }

-- the chip behind it, where its inside is so
pub at_passed : (P : Inside → Type 0) (far : Far) (k : Inside) → (chip_of far).inside ≡ k → P k → P (chip_of far).inside
at_passed P far k e p = subst P (sym e) p

-- behind the instruction
begun_at : (op : DmiOp) (f : Far) (new : Option Far) → IsClean (Some f) → Prepared Dmi (chip_of f) new → Underway op false 0 (chip_of f) new
begun_at op f new clean p =
    let i = (chip_of f).inside in
    let v = (dtm_of i).value in
    let k = ticks p.rounds i in
    record {
      far = p.far;
      is = p.is;
      stage = at_passed (λ (n : Inside). Stage op false i n) p.far k p.passed (ready refl v (settle_ticks p.rounds [] v i i (settled_first (chip_of f) clean)));
      clear = at_passed (λ (n : Inside). (dtm_of n).sticky ≡ Clear) p.far k p.passed (ticks_sticky p.rounds i ∙ clean.clear);
      found = at_passed (λ (n : Inside). (counts_in n).dmi_busy ≡ (counts_in i).dmi_busy + 0) p.far k p.passed (omega (arith, ticks_busy p.rounds i));
      lead = λ t paced. false_is_true t;
    }

pub begun : (op : DmiOp) (old new : Option Far) → IsClean old → WhereTold (Prepared Dmi) old new → WhereTold (Underway op false 0) old new
begun op None new clean p = p
begun op (Some f) new clean p = begun_at op f new clean p

-- ---- what a scan of dmi heard

pub heard_is : (word out : DmiScan) (c : Chip) (new : Option Far) → (d : DmiScanned word out c new)
    → out ≡ cut_scan (dmi_seen (dtm_of (ticks d.scanned.before c.inside)))
heard_is word out c new d = d.out_is ∙ heard_of word d.bits (ticks d.scanned.before c.inside) d.scanned.out_is

carried_step : (op : DmiOp) (busy : ℕ) (out : DmiScan) (f : Far) (c : Chip) (new : Option Far) → IsOperation op → (v : ℕ)
    → Settled [] v (chip_of f).inside c.inside
    → (counts_in c.inside).dmi_busy ≡ (counts_in (chip_of f).inside).dmi_busy + busy → DmiScanned (carrying op) out c new
    → Underway op true busy (chip_of f) new
carried_step op busy out f c new small v s found d =
    let x = d.scanned in
    let i = (chip_of f).inside in
    let j = c.inside in
    let k = dr_inside x.before x.between x.behind (dmi_bits (carrying op)) Dmi j in
    let l : Sent op i k = launch_scan op x.before x.between x.behind v i j small s in
    record {
      far = x.far;
      is = x.is;
      stage = at_passed (λ (n : Inside). Stage op true i n) x.far k x.passed (sent refl l.waiting);
      clear = at_passed (λ (n : Inside). (dtm_of n).sticky ≡ Clear) x.far k x.passed l.clear;
      found = at_passed (λ (n : Inside). (counts_in n).dmi_busy ≡ (counts_in i).dmi_busy + busy) x.far k x.passed
          (launch_busy op x.before x.between x.behind v i j s ∙ found);
      lead = λ t paced. at_passed (λ (n : Inside). Lead op i n) x.far k x.passed
          (lead_begun op x.before x.between x.behind v i j small s (omega (arith, x.shifts, length-bits_of 41 (dmi_word (carrying op)))) paced);
    }

pub other_op : {P : Type 0} (n a b : ℕ) → n ≡ a → n ≡ b → a ≢ b → P
other_op n a b e f differ = absurd (differ (sym e ∙ f))

-- the transport took it
pub carried : (op : DmiOp) (busy : ℕ) (out : DmiScan) (old mid new : Option Far) → IsOperation op → WhereTold (Underway op false busy) old mid
    → WhereTold (DmiScanned (next_scan op false) out) mid new
    → WhereTold (Underway op true busy) old new
carried op busy out old mid new small u d = under_then (DmiScanned (carrying op) out) (Underway op true busy) op false busy old mid new step u d
  where
    by : (f : Far) (u : Underway op false busy (chip_of f) mid) → Stage op false (chip_of f).inside (chip_of u.far).inside
        → DmiScanned (carrying op) out (chip_of u.far) new → Underway op true busy (chip_of f) new
    by f u (ready e v s) d = carried_step op busy out f (chip_of u.far) new small v s u.found d
    by f u (sent e w) d = false_is_true e

    step : (f : Far) (u : Underway op false busy (chip_of f) mid) → DmiScanned (carrying op) out (chip_of u.far) new → Underway op true busy (chip_of f) new
    step f u d = by f u u.stage d

-- ---- what a nop heard

-- the outcome, where the loop stands behind the operation's taking
outcome : (op : DmiOp) (out : DmiScan) (f : Far) (c : Chip) (new : Option Far) → Waiting op (chip_of f).inside c.inside → (dtm_of c.inside).sticky ≡ Clear
    → (d : DmiScanned nop out c new)
    → Outcome op (chip_of f).inside c.inside (chip_of d.scanned.far).inside out
outcome op out f c new w clear d =
    let x = d.scanned in
    at_passed (λ (n : Inside). Outcome op (chip_of f).inside c.inside n out) x.far (dr_inside x.before x.between x.behind (dmi_bits nop) Dmi c.inside) x.passed
    (await op x.before x.between x.behind (chip_of f).inside c.inside out w clear (heard_is nop out c new d))

-- and each part of the chip got on around it
led_told : (op : DmiOp) (out : DmiScan) (f : Far) (c : Chip) (new : Option Far) → Lead op (chip_of f).inside c.inside → (dtm_of c.inside).sticky ≡ Clear
    → (d : DmiScanned nop out c new) → out.op ≡ 0 → Paced (chip_of f).inside → LedOut op (chip_of f).inside (chip_of d.scanned.far).inside
led_told op out f c new l clear d done paced =
    let x = d.scanned in
    at_passed (λ (n : Inside). LedOut op (chip_of f).inside n) x.far (dr_inside x.before x.between x.behind (dmi_bits nop) Dmi c.inside) x.passed
    (led_out op x.before x.between x.behind (chip_of f).inside c.inside out l clear (heard_is nop out c new d) done
    (omega (arith, x.shifts, length-bits_of 41 (dmi_word nop))) paced)

-- its own result
pub record FetchedAt (op : DmiOp) (value : ℕ) (c : Chip) (new : Option Far) : Type 0 where
  pub operated : Operated op value c new
  pub clean : IsClean new

pub clean_at : (new : Option Far) (far : Far) → new ≡ Some far → DtmClean (dtm_of (chip_of far).inside) → IsClean new
clean_at new far is clean = subst IsClean (sym is) clean

fetched_step : (op : DmiOp) (out : DmiScan) (f : Far) (new : Option Far) (far : Far) (j : Inside) → new ≡ Some far → out.op ≡ 0
    → (Paced (chip_of f).inside → LedOut op (chip_of f).inside (chip_of far).inside) → Outcome op (chip_of f).inside j (chip_of far).inside out → FetchedAt op out.value (chip_of f) new
fetched_step op out f new far j is done led (went_on o w s b) = other_op out.op 0 3 done o (omega arith)
fetched_step op out f new far j is done led (was_lost o w l) = other_op out.op 0 2 done o (omega arith)
fetched_step op out f new far j is done led (was_done result o v s) = record {
  operated = record {
    far = far;
    is = is;
    result = result;
    path = s.path;
    site = one_operation_between_deeds (site_of f) (site_of far) (record { op = op; result = result })
        (site_path (chip_of f).inside (chip_of far).inside (Launched op ∷ Performed op result ∷ []) s.path);
    value_is = v;
    pace = λ paced.
        let l : LedOut op (chip_of f).inside (chip_of far).inside = led paced in
        subst (λ n. PacedAlong (harts_in (chip_of f).inside) (site_of f) (record { op = op; result = n } ∷ []) (site_of far)) (sym l.value ∙ s.value_is)
        l.along;
  };
  clean = clean_at new far is (record { none_in_flight = s.flight; clear = s.clear; not_failed = s.failed });
}

pub fetched : (op : DmiOp) (busy : ℕ) (out : DmiScan) (old mid new : Option Far) → out.op ≡ 0 → WhereTold (Underway op true busy) old mid
    → WhereTold (DmiScanned (next_scan op true) out) mid new
    → WhereTold (FetchedAt op out.value) old new
fetched op busy out old mid new done u d = under_then (DmiScanned nop out) (FetchedAt op out.value) op true busy old mid new step u d
  where
    by : (f : Far) (u : Underway op true busy (chip_of f) mid) → Stage op true (chip_of f).inside (chip_of u.far).inside
        → DmiScanned nop out (chip_of u.far) new → FetchedAt op out.value (chip_of f) new
    by f u (ready e v s) d = false_is_true (sym e)
    by f u (sent e w) d = fetched_step op out f new d.scanned.far (chip_of u.far).inside d.scanned.is done
        (λ paced. led_told op out f (chip_of u.far) new (u.lead refl paced) u.clear d done paced) (outcome op out f (chip_of u.far) new w u.clear d)

    step : (f : Far) (u : Underway op true busy (chip_of f) mid) → DmiScanned nop out (chip_of u.far) new → FetchedAt op out.value (chip_of f) new
    step f u d = by f u u.stage d

pub fetched_operated : (op : DmiOp) (value : ℕ) (old new : Option Far) → WhereTold (FetchedAt op value) old new → WhereTold (Operated op value) old new
fetched_operated op value None new d = d
fetched_operated op value (Some f) new d = d.operated

pub fetched_clean : (op : DmiOp) (value : ℕ) (old new : Option Far) → WhereTold (FetchedAt op value) old new → IsClean new
fetched_clean op value None new d = rw d tt
fetched_clean op value (Some f) new d = d.clean

-- ---- what a fault leaves

cut_site : (op : DmiOp) (i j : Inside) (hs : List Happening) → AtMostOnce op hs → Course i hs j → SiteCut op i.works.site j.works.site
cut_site op i j hs not_sent p = unperformed (no_operation_is_deeds i.works.site j.works.site (site_path i j [] p))
cut_site op i j hs in_flight p = unperformed (no_operation_is_deeds i.works.site j.works.site (site_path i j (Launched op ∷ []) p))
cut_site op i j hs (performed_once result) p =
    was_performed result (one_operation_between_deeds i.works.site j.works.site (record { op = op; result = result })
    (site_path i j (Launched op ∷ Performed op result ∷ []) p))
cut_site op i j hs lost_once p = unperformed (no_operation_is_deeds i.works.site j.works.site (site_path i j (Launched op ∷ Lost op ∷ []) p))

cut_of : (op : DmiOp) (f : Far) (new : Option Far) (far : Far) → new ≡ Some far → Reached op (chip_of f).inside (chip_of far).inside
    → OperationCut op (chip_of f) new
cut_of op f new far is r = record {
  far = far;
  is = is;
  happened = r.happened;
  path = r.path;
  once = r.once;
  site =
      cut_site op (chip_of f).inside (chip_of far).inside r.happened r.once r.path;
}

part_reached : (op : DmiOp) (taken : Bool) (f : Far) (c : Chip) (new : Option Far) → IsOperation op → Stage op taken (chip_of f).inside c.inside
    → (d : CutFrom Dmi (dmi_bits (next_scan op taken)) c new) → Reached op (chip_of f).inside (chip_of d.far).inside
part_reached op false f c new small (ready e v s) d = launch_part op v (chip_of f).inside c.inside (chip_of d.far).inside small s d.part
part_reached op false f c new small (sent e w) d = false_is_true e
part_reached op true f c new small (ready e v s) d = false_is_true (sym e)
part_reached op true f c new small (sent e w) d =
    wait_reached op (chip_of f).inside (chip_of d.far).inside (nop_part op (chip_of f).inside c.inside (chip_of d.far).inside w d.part)

-- of the instruction's path
waited_at : (op : DmiOp) (f : Far) (new : Option Far) → IsClean (Some f) → Waited (chip_of f) new → OperationCut op (chip_of f) new
waited_at op f new clean w =
    let i = (chip_of f).inside in
    let v = (dtm_of i).value in
    cut_of op f new w.far w.is (at_passed (λ (n : Inside). Reached op i n) w.far (ticks w.rounds i) w.passed
    (settle_reached op v i (ticks w.rounds i) (settle_ticks w.rounds [] v i i (settled_first (chip_of f) clean))))

pub untaken : (op : DmiOp) (old new : Option Far) → IsClean old → WhereTold Waited old new → WhereTold (OperationCut op) old new
untaken op None new clean w = w
untaken op (Some f) new clean w = waited_at op f new clean w

-- of a scan of dmi
pub dmi_cut : (op : DmiOp) (taken : Bool) (busy : ℕ) (old mid new : Option Far) → IsOperation op → WhereTold (Underway op taken busy) old mid
    → WhereTold (CutFrom Dmi (dmi_bits (next_scan op taken))) mid new
    → WhereTold (OperationCut op) old new
dmi_cut op taken busy old mid new small u d = under_then (CutFrom Dmi (dmi_bits (next_scan op taken))) (OperationCut op) op taken busy old mid new step u d
  where
    step : (f : Far) (u : Underway op taken busy (chip_of f) mid) → CutFrom Dmi (dmi_bits (next_scan op taken)) (chip_of u.far) new
        → OperationCut op (chip_of f) new
    step f u d = cut_of op f new d.far d.is (part_reached op taken f (chip_of u.far) new small u.stage d)

-- ---- op 2

pub record FailedAt (op : DmiOp) (c : Chip) (new : Option Far) : Type 0 where
  pub lost : LostOne c new
  pub cut : OperationCut op c new

failed_step : (op : DmiOp) (out : DmiScan) (f : Far) (new : Option Far) (far : Far) (j : Inside) → new ≡ Some far → out.op ≡ 2
    → Outcome op (chip_of f).inside j (chip_of far).inside out → FailedAt op (chip_of f) new
failed_step op out f new far j is gone (went_on o w s b) = other_op out.op 2 3 gone o (omega arith)
failed_step op out f new far j is gone (was_done result o v s) = other_op out.op 2 0 gone o (omega arith)
failed_step op out f new far j is gone (was_lost o w l) =
    record { lost = record { far = far; is = is; more = l }; cut = cut_of op f new far is (wait_reached op (chip_of f).inside (chip_of far).inside w) }

failed_by : (op : DmiOp) (taken : Bool) (out : DmiScan) (f : Far) (c : Chip) (new : Option Far) → out.op ≡ 2 → Stage op taken (chip_of f).inside c.inside
    → (dtm_of c.inside).sticky ≡ Clear
    → DmiScanned (next_scan op taken) out c new → FailedAt op (chip_of f) new
failed_by op false out f c new gone (ready e v s) clear d =
    other_op out.op 2 0 gone (ready_op d.scanned.before v (chip_of f).inside c.inside out s (heard_is (carrying op) out c new d)) (omega arith)
failed_by op false out f c new gone (sent e w) clear d = false_is_true e
failed_by op true out f c new gone (ready e v s) clear d = false_is_true (sym e)
failed_by op true out f c new gone (sent e w) clear d = failed_step op out f new d.scanned.far c.inside d.scanned.is gone (outcome op out f c new w clear d)

pub failed : (op : DmiOp) (taken : Bool) (busy : ℕ) (out : DmiScan) (old mid new : Option Far) → out.op ≡ 2 → WhereTold (Underway op taken busy) old mid
    → WhereTold (DmiScanned (next_scan op taken) out) mid new
    → WhereTold (FailedAt op) old new
failed op taken busy out old mid new gone u d = under_then (DmiScanned (next_scan op taken) out) (FailedAt op) op taken busy old mid new step u d
  where
    step : (f : Far) (u : Underway op taken busy (chip_of f) mid) → DmiScanned (next_scan op taken) out (chip_of u.far) new → FailedAt op (chip_of f) new
    step f u d = failed_by op taken out f (chip_of u.far) new gone u.stage u.clear d

pub failed_cut : (op : DmiOp) (old new : Option Far) → WhereTold (FailedAt op) old new → WhereTold (OperationCut op) old new
failed_cut op None new d = d
failed_cut op (Some f) new d = d.cut

pub failed_lost : (op : DmiOp) (old new : Option Far) → WhereTold (FailedAt op) old new → IfSome old (λ f. LostOne (chip_of f) new)
failed_lost op None new d = tt
failed_lost op (Some f) new d = d.lost

-- ---- op 3

lead_again : (op : DmiOp) (out : DmiScan) (f : Far) (c : Chip) (new : Option Far) → Lead op (chip_of f).inside c.inside → (d : DmiScanned nop out c new)
    → Lead op (chip_of f).inside (chip_of d.scanned.far).inside
lead_again op out f c new l d =
    let x = d.scanned in
    let k = dr_inside x.before x.between x.behind (dmi_bits nop) Dmi c.inside in
    at_passed (λ (n : Inside). Lead op (chip_of f).inside n) x.far k x.passed
    (lead_on op (chip_of f).inside c.inside k (λ a w. wait_scan Dmi (dmi_bits nop) op a c.inside (nop_sparing c.inside) w x.before x.between x.behind) l)

again_step : (op : DmiOp) (taken : Bool) (busy : ℕ) (out : DmiScan) (f : Far) (new : Option Far) (far : Far) (j : Inside) → new ≡ Some far → taken ≡ true
    → out.op ≢ 0 → out.op ≢ 2
    → (counts_in j).dmi_busy ≡ (counts_in (chip_of f).inside).dmi_busy + busy
    → (Paced (chip_of f).inside → Lead op (chip_of f).inside (chip_of far).inside) → Outcome op (chip_of f).inside j (chip_of far).inside out
    → FoundAgain op taken busy (chip_of f) new
again_step op taken busy out f new far j is t undone unfailed found lead (was_done result o v s) = absurd (undone o)
again_step op taken busy out f new far j is t undone unfailed found lead (was_lost o w l) = absurd (unfailed o)
again_step op taken busy out f new far j is t undone unfailed found lead (went_on o w s b) =
    record { far = far; is = is; was_taken = t; waiting = w; busy_still = s; found = omega (arith, b, found); lead = lead }

again_by : (op : DmiOp) (taken : Bool) (busy : ℕ) (out : DmiScan) (f : Far) (c : Chip) (new : Option Far) → out.op ≢ 0 → out.op ≢ 2
    → (counts_in c.inside).dmi_busy ≡ (counts_in (chip_of f).inside).dmi_busy + busy
    → (taken ≡ true → Paced (chip_of f).inside → Lead op (chip_of f).inside c.inside)
    → Stage op taken (chip_of f).inside c.inside → (dtm_of c.inside).sticky ≡ Clear → DmiScanned (next_scan op taken) out c new
    → FoundAgain op taken busy (chip_of f) new
again_by op false busy out f c new undone unfailed found lead (ready e v s) clear d =
    absurd (undone (ready_op d.scanned.before v (chip_of f).inside c.inside out s (heard_is (carrying op) out c new d)))
again_by op false busy out f c new undone unfailed found lead (sent e w) clear d = false_is_true e
again_by op true busy out f c new undone unfailed found lead (ready e v s) clear d = false_is_true (sym e)
again_by op true busy out f c new undone unfailed found lead (sent e w) clear d =
    again_step op true busy out f new d.scanned.far c.inside d.scanned.is refl undone unfailed found
    (λ paced. lead_again op out f c new (lead refl paced) d) (outcome op out f c new w clear d)

pub found_again : (op : DmiOp) (taken : Bool) (busy : ℕ) (out : DmiScan) (old mid new : Option Far) → out.op ≢ 0 → out.op ≢ 2
    → WhereTold (Underway op taken busy) old mid → WhereTold (DmiScanned (next_scan op taken) out) mid new
    → WhereTold (FoundAgain op taken busy) old new
found_again op taken busy out old mid new undone unfailed u d =
    under_then (DmiScanned (next_scan op taken) out) (FoundAgain op taken busy) op taken busy old mid new step u d
  where
    step : (f : Far) (u : Underway op taken busy (chip_of f) mid) → DmiScanned (next_scan op taken) out (chip_of u.far) new
        → FoundAgain op taken busy (chip_of f) new
    step f u d = again_by op taken busy out f (chip_of u.far) new undone unfailed u.found u.lead u.stage u.clear d

-- its status was cleared
cleared_step : (op : DmiOp) (taken : Bool) (busy value : ℕ) (f : Far) (c : Chip) (new : Option Far) → taken ≡ true → Waiting op (chip_of f).inside c.inside
    → (dtm_of c.inside).sticky ≡ Busy
    → (counts_in c.inside).dmi_busy ≡ (counts_in (chip_of f).inside).dmi_busy + (busy + 1) → (Paced (chip_of f).inside → Lead op (chip_of f).inside c.inside)
    → WordScanned Dtmcs reset_bits value c new
    → Underway op taken (busy + 1) (chip_of f) new
cleared_step op taken busy value f c new t w s found lead d =
    let x = d.scanned in
    let i = (chip_of f).inside in
    let k = dr_inside x.before x.between x.behind reset_bits Dtmcs c.inside in
    let l : Sent op i k = reset_wait op x.before x.between x.behind i c.inside s w in
    record {
      far = x.far;
      is = x.is;
      stage = at_passed (λ (n : Inside). Stage op taken i n) x.far k x.passed (sent t l.waiting);
      clear = at_passed (λ (n : Inside). (dtm_of n).sticky ≡ Clear) x.far k x.passed l.clear;
      found = at_passed (λ (n : Inside). (counts_in n).dmi_busy ≡ (counts_in i).dmi_busy + (busy + 1)) x.far k x.passed
          (reset_count x.before x.between x.behind c.inside ∙ found);
      lead = λ e paced. at_passed (λ (n : Inside). Lead op i n) x.far k x.passed
          (lead_on op i c.inside k (λ a b. (reset_wait op x.before x.between x.behind a c.inside s b).waiting) (lead paced));
    }

pub cleared : (op : DmiOp) (taken : Bool) (busy value : ℕ) (old mid new : Option Far) → WhereTold (FoundAgain op taken busy) old mid
    → WhereTold (WordScanned Dtmcs reset_bits value) mid new → WhereTold (Underway op taken (busy + 1)) old new
cleared op taken busy value old mid new u d = again_then (WordScanned Dtmcs reset_bits value) (Underway op taken (busy + 1)) op taken busy old mid new step u d
  where
    step : (f : Far) (u : FoundAgain op taken busy (chip_of f) mid) → WordScanned Dtmcs reset_bits value (chip_of u.far) new
        → Underway op taken (busy + 1) (chip_of f) new
    step f u d = cleared_step op taken busy value f (chip_of u.far) new u.was_taken u.waiting u.busy_still u.found u.lead d

pub clear_cut : (op : DmiOp) (taken : Bool) (busy : ℕ) (old mid new : Option Far) → WhereTold (FoundAgain op taken busy) old mid
    → WhereTold (CutFrom Dtmcs reset_bits) mid new → WhereTold (OperationCut op) old new
clear_cut op taken busy old mid new u d = again_then (CutFrom Dtmcs reset_bits) (OperationCut op) op taken busy old mid new step u d
  where
    step : (f : Far) (u : FoundAgain op taken busy (chip_of f) mid) → CutFrom Dtmcs reset_bits (chip_of u.far) new → OperationCut op (chip_of f) new
    step f u d = cut_of op f new d.far d.is (wait_reached op (chip_of f).inside (chip_of d.far).inside
        (reset_part op (chip_of f).inside (chip_of u.far).inside (chip_of d.far).inside u.busy_still u.waiting d.part))

-- ---- 64 busy answers

pub busy_cut : (op : DmiOp) (taken : Bool) (busy : ℕ) (old new : Option Far) → WhereTold (Underway op taken busy) old new → WhereTold (OperationCut op) old new
busy_cut op taken busy None new u = u
busy_cut op taken busy (Some f) new u = cut_of op f new u.far u.is (stage_reached op taken (chip_of f).inside (chip_of u.far).inside u.stage)

pub busy_found : (op : DmiOp) (taken : Bool) (busy : ℕ) (old new : Option Far) → 64 ≤ busy → WhereTold (Underway op taken busy) old new
    → IfSome old (λ f. FoundBusy (chip_of f) new)
busy_found op taken busy None new many u = tt
busy_found op taken busy (Some f) new many u = record { far = u.far; is = u.is; more = omega (arith, u.found, many) }

-- ---- what was sent is what the loop meant

pub sent_as : (op : DmiOp) (taken b : Bool) (word out : DmiScan) (mid new : Option Far) → word ≡ next_scan op taken → taken ≡ b
    → WhereTold (DmiScanned word out) mid new → WhereTold (DmiScanned (next_scan op b) out) mid new
sent_as op taken b word out mid new e t d = subst (λ s. WhereTold (DmiScanned s out) mid new) (e ∙ ap (λ x. next_scan op x) t) d

pub cut_as : (op : DmiOp) (taken : Bool) (word : DmiScan) (mid new : Option Far) → word ≡ next_scan op taken → WhereTold (CutFrom Dmi (dmi_bits word)) mid new
    → WhereTold (CutFrom Dmi (dmi_bits (next_scan op taken))) mid new
cut_as op taken word mid new e d = subst (λ s. WhereTold (CutFrom Dmi (dmi_bits s)) mid new) e d

pub under_as : (op : DmiOp) (taken b : Bool) (busy : ℕ) (old new : Option Far) → taken ≡ b → WhereTold (Underway op taken busy) old new
    → WhereTold (Underway op b busy) old new
under_as op taken b busy old new t u = subst (λ x. WhereTold (Underway op x busy) old new) t u
