-- What was heard of scripted scans: the scans of an operation so far, and where a bad answer stood.
use Rattle.std.proofs.Common.{◌≡◌, ◌≢◌, ◌∙◌, ◌⊎◌, ◌+◌, ◌<◌, ◌≤◌, ℕ, zero, suc, List, [], ◌∷◌, ◌++◌, Bool, true, false, Option, Some, None, IfSome}
use Rattle.std.proofs.Common.{option_map, refl, sym, ap, subst, arith, inl, inr, Result, Ok, Err, IfErr, IsErrAnd}
use Rattle.jt_base.proofs.FaultLemmas.{rises_from}
use Rattle.debug_model.proofs.HeardLemmas.{wrong_behind}
use Rattle.debug_model.specs.declared.dmi.DmiFault.{DmiFault}
use Rattle.debug_model.specs.declared.dmi.DmiFault.TheVariants.{Wire}
use Rattle.debug_model.specs.declared.dmi_scan.DmiScan.{DmiScan}
use Rattle.debug_model.specs.declared.wire.WireFault.{WireFault}
use Rattle.debug_model.specs.declared.wire.WireFault.TheVariants.{SendFailed, RecvFailed, Ended, BadAnswer}
use Rattle.debug_model.specs.Dmi as dmi
use Rattle.debug_model.specs.Dmi.{Awaited, DmiCause, DmiComing, Fetched, HeardBusy, HeardFailed, IsDmi, IsDtmcs, ScannedCause, Scans, Shows, TookAll}
use Rattle.debug_model.specs.Dmi.{WasBusy, WasDone, WhereScanned, heard, scanned_coming}
use Rattle.debug_model.specs.Dmi.Awaited.{begun, busy, carried}
use Rattle.debug_model.specs.Scan.{BadCause, Coming, ScanCause, TookOut, WrongIn, Numbers, Answers}
use Rattle.debug_model.specs.Told.{Far}
use Rattle.debug_model.specs.Wire.{EndCause}
use Rattle.probe_dmi.specs.Registers.{HeardDmi, HeardNumber, TookDmi, TookNumber}

-- ---- one scan after another

pub record Next (new : Option Coming) : Type 0 where
  pub next : Coming
  pub is : new ≡ Some next

pub took_some : (out : List Bool) (s : Coming) (new : Option Coming) → TookOut out s new → Next new
took_some out (Numbers numbers) new t = record { next = Numbers t.1; is = t.4 }
took_some out (Answers bytes) new t = record { next = Answers t.0; is = t.2 }

pub took_all_then : (outs more : List (List Bool)) (s mid new : Coming) → TookAll outs s mid → TookAll more mid new → TookAll (outs ++ more) s new
took_all_then [] more s mid new a b = subst (λ x. TookAll more x new) a b
took_all_then (out ∷ outs) more s mid new a b = (a.0, a.1, took_all_then outs more a.0 mid new a.2 b)

pub took_one : (out : List Bool) (s : Coming) (new : Option Coming) (next : Coming) → TookOut out s new → new ≡ Some next → TookAll (out ∷ []) s next
took_one out s new next t is = (next, subst (TookOut out s) is t, refl)

pub took_two : (out more : List Bool) (s mid new : Coming) → TookAll (out ∷ []) s mid → TookAll (more ∷ []) mid new → TookAll (out ∷ more ∷ []) s new
took_two out more s mid new a b = took_all_then (out ∷ []) (more ∷ []) s mid new a b

-- ---- the scans of an operation so far

pub record SoFarIn (n : ℕ) (taken : Bool) (coming : Coming) (new : Option Coming) : Type 0 where
  pub outs : List (List Bool)
  pub awaited : Awaited n taken outs
  pub next : Coming
  pub is : new ≡ Some next
  pub took : TookAll outs coming next

abbrev pub SoFar : ℕ → Bool → Option Coming → Option Coming → Type 0
SoFar n taken None new = new ≡ None
SoFar n taken (Some coming) new = SoFarIn n taken coming new

pub nothing_heard : (old new : Option Coming) → new ≡ old → SoFar 0 false old new
nothing_heard None new same = same
nothing_heard (Some s) new same = record { outs = []; awaited = begun; next = s; is = same; took = refl }

pub op_of : (out : DmiScan) (bits : List Bool) (n : ℕ) → out ≡ heard bits → out.op ≡ n → (heard bits).op ≡ n
op_of out bits n is e = ap (λ (x : DmiScan). x.op) (sym is) ∙ e

status_cases : (n : ℕ) → n < 4 → n ≢ 0 → n ≢ 2 → (n ≡ 3) ⊎ (n ≡ 1)
status_cases zero small a b = absurd (a refl)
status_cases (suc zero) small a b = inr refl
status_cases (suc (suc zero)) small a b = absurd (b refl)
status_cases (suc (suc (suc zero))) small a b = inl refl
status_cases (suc (suc (suc (suc n)))) small a b = absurd (omega (arith, small))

pub was_busy : (out : DmiScan) (bits : List Bool) → out ≡ heard bits → out.op ≢ 0 → out.op ≢ 2 → WasBusy bits
was_busy out bits is undone unfailed = status_cases (heard bits).op (omega arith) (λ e. undone (ap (λ (x : DmiScan). x.op) is ∙ e))
    (λ e. unfailed (ap (λ (x : DmiScan). x.op) is ∙ e))

pub heard_carried : (n : ℕ) (out : DmiScan) (old mid new : Option Coming) → out.op ≡ 0 → SoFar n false old mid → HeardDmi out mid new → SoFar n true old new
heard_carried n out None mid new done s h = subst (λ m. HeardDmi out m new) s h
heard_carried n out (Some coming) mid new done s h =
    let d : TookDmi out s.next new = subst (λ m. HeardDmi out m new) s.is h in
    let x = took_some d.bits s.next new d.took in
    record {
      outs = s.outs ++ d.bits ∷ [];
      awaited = carried n s.outs s.awaited d.bits d.width (op_of out d.bits 0 d.is done);
      next = x.next;
      is = x.is;
      took = took_all_then s.outs (d.bits ∷ []) coming s.next x.next s.took (took_one d.bits s.next new x.next d.took x.is);
    }

pub heard_again : (n : ℕ) (taken : Bool) (out : DmiScan) (value : ℕ) (old mid last new : Option Coming) → out.op ≢ 0 → out.op ≢ 2 → SoFar n taken old mid
    → HeardDmi out mid last → HeardNumber value last new → SoFar (n + 1) taken old new
heard_again n taken out value None mid last new undone unfailed s h k = subst (λ m. HeardNumber value m new) (subst (λ m. HeardDmi out m last) s h) k
heard_again n taken out value (Some coming) mid last new undone unfailed s h k =
    let d : TookDmi out s.next last = subst (λ m. HeardDmi out m last) s.is h in
    let x = took_some d.bits s.next last d.took in
    let w : TookNumber value x.next new = subst (λ m. HeardNumber value m new) x.is k in
    let y = took_some w.bits x.next new w.took in
    let more : suc n ≡ n + 1 = omega arith in
    record {
      outs = s.outs ++ (d.bits ∷ w.bits ∷ []);
      awaited = subst (λ m. Awaited m taken (s.outs ++ (d.bits ∷ w.bits ∷ []))) more
          (busy n taken s.outs s.awaited d.bits w.bits d.width (was_busy out d.bits d.is undone unfailed) w.width);
      next = y.next;
      is = y.is;
      took = took_all_then s.outs (d.bits ∷ w.bits ∷ []) coming s.next y.next s.took
          (took_two d.bits w.bits s.next x.next y.next (took_one d.bits s.next last x.next d.took x.is) (took_one w.bits x.next new y.next w.took y.is));
    }

pub heard_result : (n : ℕ) (out : DmiScan) (old mid new : Option Coming) → n < 64 → out.op ≡ 0 → SoFar n true old mid → HeardDmi out mid new
    → dmi.Answers out.value (option_map Scans old) (option_map Scans new)
heard_result n out None mid new few done s h = ap (option_map Scans) (subst (λ m. HeardDmi out m new) s h)
heard_result n out (Some coming) mid new few done s h =
    let d : TookDmi out s.next new = subst (λ m. HeardDmi out m new) s.is h in
    let x = took_some d.bits s.next new d.took in
    let f : Fetched out.value coming x.next = record {
      busy_answers = n;
      few = few;
      outs = s.outs;
      awaited = s.awaited;
      out = d.bits;
      width = d.width;
      done = op_of out d.bits 0 d.is done;
      result_is = ap (λ (y : DmiScan). y.value) d.is;
      took = took_all_then s.outs (d.bits ∷ []) coming s.next x.next s.took (took_one d.bits s.next new x.next d.took x.is);
    } in
    (x.next, f, ap (option_map Scans) x.is)

pub heard_failed : (n : ℕ) (taken : Bool) (out : DmiScan) (old mid new : Option Coming) → n < 64 → out.op ≡ 2 → SoFar n taken old mid → HeardDmi out mid new
    → IfSome (option_map Scans old) (WhereScanned HeardFailed)
heard_failed n taken out None mid new few gone s h = tt
heard_failed n taken out (Some coming) mid new few gone s h =
    let d : TookDmi out s.next new = subst (λ m. HeardDmi out m new) s.is h in
    let x = took_some d.bits s.next new d.took in
    record {
      busy_answers = n;
      few = few;
      taken = taken;
      outs = s.outs;
      awaited = s.awaited;
      out = d.bits;
      width = d.width;
      failed = op_of out d.bits 2 d.is gone;
      new = x.next;
      took = took_all_then s.outs (d.bits ∷ []) coming s.next x.next s.took (took_one d.bits s.next new x.next d.took x.is);
    }

pub heard_busy : (n : ℕ) (taken : Bool) (old mid : Option Coming) → n ≡ 64 → SoFar n taken old mid → IfSome (option_map Scans old) (WhereScanned HeardBusy)
heard_busy n taken None mid many s = tt
heard_busy n taken (Some coming) mid many s =
    record { taken = taken; outs = s.outs; awaited = subst (λ m. Awaited m taken s.outs) many s.awaited; new = s.next; took = s.took }

-- ---- where a bad answer stood

abbrev pub Through : Option Coming → Option Coming → Type 0
Through old new = (b : ℕ) → IfSome new (WrongIn b) → IfSome old (WrongIn b)

took_through : (b : ℕ) (out : List Bool) (s : Coming) (new : Option Coming) → TookOut out s new → IfSome new (WrongIn b) → WrongIn b s
took_through b out (Numbers numbers) new t w = subst (λ m. IfSome m (WrongIn b)) t.4 w
took_through b out (Answers bytes) new t w = wrong_behind b out bytes t.0 t.1 (subst (λ m. IfSome m (WrongIn b)) t.2 w)

pub all_through : (b : ℕ) (outs : List (List Bool)) (s new : Coming) → TookAll outs s new → WrongIn b new → WrongIn b s
all_through b [] s new t w = subst (WrongIn b) t w
all_through b (out ∷ outs) s new t w = took_through b out s (Some t.0) t.1 (all_through b outs t.0 new t.2 w)

pub so_far_through : (n : ℕ) (taken : Bool) (old new : Option Coming) → SoFar n taken old new → Through old new
so_far_through n taken None new s b w = tt
so_far_through n taken (Some coming) new s b w = all_through b s.outs coming s.next s.took (subst (λ m. IfSome m (WrongIn b)) s.is w)

pub dmi_through : (out : DmiScan) (old new : Option Coming) → HeardDmi out old new → Through old new
dmi_through out None new h b w = tt
dmi_through out (Some coming) new h b w = took_through b h.bits coming new h.took w

pub number_through : (value : ℕ) (old new : Option Coming) → HeardNumber value old new → Through old new
number_through value None new h b w = tt
number_through value (Some coming) new h b w = took_through b h.bits coming new h.took w

-- ---- causes

pub end_back : (old mid new : ℕ) (told : Option Far) → old ≤ mid → mid ≤ new → EndCause mid new told → EndCause old new told
end_back old mid new told e f (inl r) = inl (rises_from old mid new e f r)
end_back old mid new told e f (inr m) = inr m

bad_back : (b : ℕ) (told : Option Far) (old mid : Option Coming) → Through old mid → BadCause b told mid
    → BadCause b told (scanned_coming (option_map Scans old))
bad_back b told None mid through c = (c.0, c.1, c.2, tt)
bad_back b told (Some s) mid through c = (c.0, c.1, c.2, through b c.3)

pub scan_cause : (old mid new : ℕ) (told : Option Far) (before coming : Option Coming) (fault : WireFault) → old ≤ mid → mid ≤ new → Through before coming
    → ScanCause mid new told coming fault
    → ScanCause old new told (scanned_coming (option_map Scans before)) fault
scan_cause old mid new told before coming SendFailed e f through c = rises_from old mid new e f c
scan_cause old mid new told before coming RecvFailed e f through c = rises_from old mid new e f c
scan_cause old mid new told before coming Ended e f through c = end_back old mid new told e f c
scan_cause old mid new told before coming (BadAnswer b) e f through c = bad_back b told before coming through c

pub wire_cause : {T : Type 0} (old new : ℕ) (was told : Option Far) (coming : Option DmiComing) (fault : WireFault) (result : Result T DmiFault)
    → IsErrAnd result (λ e. e ≡ Wire fault) → ScanCause old new told (scanned_coming coming) fault → IfErr result (DmiCause old new was told coming)
wire_cause old new was told coming fault (Ok x) h cause = tt
wire_cause old new was told coming fault (Err e) h cause = subst (DmiCause old new was told coming) (sym h) cause

-- why a scan failed, behind others
pub again_cause : (old mid new : ℕ) (told : Option Far) (before coming : Option Coming) (fault : WireFault) → old ≤ mid → mid ≤ new → Through before coming
    → ScanCause mid new told coming fault → ScanCause old new told before fault
again_cause old mid new told before coming SendFailed e f through c = rises_from old mid new e f c
again_cause old mid new told before coming RecvFailed e f through c = rises_from old mid new e f c
again_cause old mid new told before coming Ended e f through c = end_back old mid new told e f c
again_cause old mid new told before coming (BadAnswer b) e f through c = (c.0, c.1, c.2, through b c.3)

pub from_err : {T : Type 0} (P : WireFault → Type 0) (fault : WireFault) (result : Result T WireFault) → IsErrAnd result (λ e. e ≡ fault) → P fault
    → IfErr result P
from_err P fault (Ok x) h holds = tt
from_err P fault (Err e) h holds = subst P (sym h) holds
