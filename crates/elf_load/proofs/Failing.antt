-- Storing the runs of a file: what holds behind a call that failed, by what held in front of it.
use Rattle.std.proofs.Common.{
  ◌≡◌,
  ◌≤◌,
  ◌<◌,
  ◌+◌,
  ◌*◌,
  ◌++◌,
  ◌∷◌,
  ℕ,
  suc,
  List,
  Option,
  Some,
  None,
  Result,
  Ok,
  Err,
  IfErr,
  IsErrAnd,
  drop,
  length,
  take,
  sym,
  ap,
  ◌∙◌,
  subst,
  arith,
  append_assoc,
  length-append,
}
use Rattle.debug_model.proofs.RiseLemmas.{within_then}
use Rattle.debug_model.specs.Kept.{DmiSeen, StandsUnless}
use Rattle.debug_model.specs.Rises.{Within}
use Rattle.debug_model.specs.Scan.{WhereTold}
use Rattle.debug_model.specs.Told.{Far, site_of}
use Rattle.probe_access.specs.declared.fault.AccessFault.{AccessFault}
use Rattle.probe_access.specs.Blocks.{element_at}
use Rattle.probe_access.specs.BlockRises.{bus_values_rises}
use Rattle.probe_access.specs.BusBlockRuns.{BusCauses}
use Rattle.probe_access.specs.BusBlocks.{BusValuesStoreCut}
use Rattle.probe_access.specs.Cuts.{IfCut, IsLeft, Leaves}
use Rattle.probe_access.specs.Faults.{access_why}
use Rattle.probe_run.specs.Told.{told}
use Rattle.probe_access.specs.Never.{NeverLost}
use Rattle.probe_access.proofs.NeverLemmas.{lost_then}
use Rattle.elf_load.specs.declared.element.Element.{Element}
use Rattle.elf_load.specs.declared.run.Run.{Run}
use Rattle.elf_load.specs.Runs.{elements_in, in_a_row}
use Rattle.elf_load.specs.Stores.{MadeUpTo, StoredAt, StoresCut, StoresKeep, StoresLeft, Within as IsAmong}
use Rattle.elf_load.proofs.RowLemmas.{row_parts, row_stored}
use Rattle.probe_access.specs.declared.fault.AccessFault.TheVariants as access_fault
use Rattle.elf_load.proofs.Going.{Going, RunRefused, RunLeft, RunCut, RunRises, front_of, next_in, stored_refused, untold, more_rises}

-- ---- behind a call that failed

-- an element of a run among all of them
next_among : (all done rest : List Element) (r : Run) (n : ℕ) → n < length r.values.items → done ++ (elements_in r ++ rest) ≡ all
    → IsAmong all (front_of done r n) (next_in r n)
next_among all done rest r n inside parts =
    let row : List Element = in_a_row r.size r.address (take n r.values.items) in
    let behind : List Element = in_a_row r.size (element_at r.size r.address (suc n)) (drop (suc n) r.values.items) in
    record {
      rest = behind ++ rest;
      parts = append_assoc done row (next_in r n ∷ (behind ++ rest))
          ∙ ap (λ (es : List Element). done ++ es) (sym (append_assoc row (next_in r n ∷ behind) rest))
          ∙ ap (λ (es : List Element). done ++ (es ++ rest)) (sym (row_parts r.size r.address n r.values.items inside)) ∙ parts;
    }

run_left : (most left : ℕ) (all rest : List Element) (r : Run) (old mid : DmiSeen) (new : Option Far) (why : AccessFault)
    → Going most left all (elements_in r ++ rest) old mid → RunLeft r r.values.items mid.far new why → StoresLeft all old.far new why
run_left most left all rest r old mid new (access_fault.Dmi why) g f = tt
run_left most left all rest r old mid new (access_fault.Memory at) g f = record {
  done = front_of g.done r f.0;
  next = next_in r f.0;
  within = next_among all g.done rest r f.0 f.1 g.parts;
  at_is = f.2;
  refused = stored_refused g.done r f.0 old.far mid.far new f.1 g.stored f.3;
}
run_left most left all rest r old mid new (access_fault.Register number) g f = untold g.done old.far mid.far g.stored f
run_left most left all rest r old mid new access_fault.StillBusy g f = tt
run_left most left all rest r old mid new (access_fault.Run why) g f = f
run_left most left all rest r old mid new (access_fault.Odd shown) g f = untold g.done old.far mid.far g.stored f

pub failed_left : (most left : ℕ) (all rest : List Element) (r : Run) (values : List ℕ) (old mid : DmiSeen) (new : Option Far) (why : AccessFault)
    → Going most left all (elements_in r ++ rest) old mid → values ≡ r.values.items → RunLeft r values mid.far new why → StoresLeft all old.far new why
failed_left most left all rest r values old mid new why g is f =
    run_left most left all rest r old mid new why g (subst (λ (vs : List ℕ). RunLeft r vs mid.far new why) is f)

pub failed_made : (most left : ℕ) (all rest : List Element) (r : Run) (values : List ℕ) (old mid new : DmiSeen) (why : AccessFault)
    → Going most left all (elements_in r ++ rest) old mid → values ≡ r.values.items → 1 ≤ left → mid.fault_count ≤ new.fault_count
    → RunRefused r values (told mid) (told new) why → RunLeft r values mid.far new.far why
    → BusCauses mid.fault_count new.fault_count (told mid) (told new) why → IfCut (RunCut r values mid.far new.far) why
    → MadeUpTo all most old.fault_count new.fault_count (told old) (told new) why
failed_made most left all rest r values old mid new why g is some later refused is_left causes cut = record {
  runs = g.runs;
  next = r;
  rest = rest;
  parts = ap (λ (es : List Element). es ++ (elements_in r ++ rest)) g.done_is ∙ g.parts;
  few = omega (arith, g.few, some);
  mid = told mid;
  each = g.made;
  mid_count = mid.fault_count;
  later = g.later;
  later_still = later;
  ready = g.ready;
  refused = subst (λ (vs : List ℕ). RunRefused r vs (told mid) (told new) why) is refused;
  left = subst (λ (vs : List ℕ). RunLeft r vs mid.far new.far why) is is_left;
  causes = causes;
  cut = subst (λ (vs : List ℕ). IfCut (RunCut r vs mid.far new.far) why) is cut;
}

if_cut : (P Q : Type 0) (why : AccessFault) → (P → Q) → IfCut P why → IfCut Q why
if_cut P Q (access_fault.Dmi why) f p = f p
if_cut P Q (access_fault.Memory at) f p = tt
if_cut P Q (access_fault.Register number) f p = tt
if_cut P Q access_fault.StillBusy f p = f p
if_cut P Q (access_fault.Run why) f p = tt
if_cut P Q (access_fault.Odd shown) f p = tt

cut_behind : (all done rest : List Element) (r : Run) (old mid new : Option Far) → done ++ (elements_in r ++ rest) ≡ all → WhereTold (StoredAt done) old mid
    → RunCut r r.values.items mid new → Leaves (StoresCut all) old new
cut_behind all done rest r None mid new parts before left = tt
cut_behind all done rest r (Some f) mid new parts before left =
    let l : IsLeft (BusValuesStoreCut r.size r.address r.values.items (length r.values.items)) before.far.live.chip new =
    subst (λ (m : Option Far). RunCut r r.values.items m new) before.is left in
    record {
      far = l.far;
      is = l.is;
      left = record {
        done = front_of done r l.left.done;
        next = next_in r l.left.done;
        within = next_among all done rest r l.left.done l.left.below parts;
        mid = l.left.mid;
        each = row_stored r.size r.address r.values.items (site_of f) (site_of before.far) done l.left.done l.left.mid before.each l.left.each
            (omega (arith, l.left.below));
        left = l.left.left;
      };
    }

pub failed_cut : (most left : ℕ) (all rest : List Element) (r : Run) (values : List ℕ) (old mid : DmiSeen) (new : Option Far) (why : AccessFault)
    → Going most left all (elements_in r ++ rest) old mid → values ≡ r.values.items → IfCut (RunCut r values mid.far new) why
    → IfCut (Leaves (StoresCut all) old.far new) why
failed_cut most left all rest r values old mid new why g is f =
    if_cut (RunCut r r.values.items mid.far new) (Leaves (StoresCut all) old.far new) why
    (λ (l : RunCut r r.values.items mid.far new). cut_behind all g.done rest r old.far mid.far new g.parts g.stored l)
    (subst (λ (vs : List ℕ). IfCut (RunCut r vs mid.far new) why) is f)

pub failed_rises : (most left : ℕ) (all rest : List Element) (r : Run) (values : List ℕ) (old mid new : DmiSeen)
    → Going most left all (elements_in r ++ rest) old mid → values ≡ r.values.items → 1 ≤ left → RunRises values mid new
    → Within (6 * length all + 14 * most) old new
failed_rises most left all rest r values old mid new g is some rises =
    let long : length all ≡ length g.done + (length (elements_in r) + length rest) =
    ap length (sym g.parts) ∙ length-append g.done (elements_in r ++ rest) ∙ ap (λ n. length g.done + n) (length-append (elements_in r) rest) in
    within_then (6 * length g.done + 14 * length g.runs) (bus_values_rises r.values.items) (6 * length all + 14 * most) old mid new g.rises
    (subst (λ (vs : List ℕ). RunRises vs mid new) is rises) g.fixed
    (omega (arith, g.few, some, long, more_rises g.done r (length g.runs), length-append g.done (elements_in r)))

-- what never comes behind the runs that were stored does not come of the whole
pub failed_never : (most left : ℕ) (all rest : List Element) (old mid : DmiSeen) (why : AccessFault) → Going most left all rest old mid → NeverLost mid why
    → NeverLost old why
failed_never most left all rest old mid why g never = lost_then (6 * length g.done + 14 * length g.runs) old mid why g.rises never

pub failed_keeps : (most left : ℕ) (all rest : List Element) (r : Run) (old mid new : DmiSeen) (why : AccessFault)
    → Going most left all (elements_in r ++ rest) old mid → mid.fault_count ≤ new.fault_count → new.fixed ≡ mid.fixed → StandsUnless new (access_why why)
    → StoresKeep {A = ℕ} all old new (Err why)
failed_keeps most left all rest r old mid new why g later fixed behind =
    record { later = omega (arith, g.later, later); fixed = fixed ∙ g.fixed; behind = behind }

-- ---- the answer that carries the fault

pub err_carried : (r : Result ℕ AccessFault) (why : AccessFault) (P : AccessFault → Type 0) → IsErrAnd r (λ x. x ≡ why) → P why → IfErr r P
err_carried (Ok x) why P is p = tt
err_carried (Err x) why P is p = subst P (sym is) p

pub keeps_carried : (all : List Element) (old new : DmiSeen) (r : Result ℕ AccessFault) (why : AccessFault) → IsErrAnd r (λ x. x ≡ why)
    → StoresKeep {A = ℕ} all old new (Err why) → StoresKeep {A = ℕ} all old new r
keeps_carried all old new (Ok x) why is p = absurd is
keeps_carried all old new (Err x) why is p = subst (λ (y : AccessFault). StoresKeep {A = ℕ} all old new (Err y)) (sym is) p
