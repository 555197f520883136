-- What was heard of scripted scans of several operations: the scans so far, the last result, and where a bad answer stood.
use Rattle.std.proofs.Common.{◌≡◌, ◌≢◌, ◌∙◌, ◌+◌, ◌<◌, ℕ, suc, List, [], ◌∷◌, ◌++◌, length, Bool, true, false, Option, Some, None, IfSome, option_map, refl}
use Rattle.std.proofs.Common.{sym, ap, subst, arith, Result, Ok, Err, IfErr, IsErrAnd}
use Rattle.debug_model.specs.declared.dmi.DmiFault.{DmiFault}
use Rattle.debug_model.specs.declared.dmi.DmiFault.TheVariants.{Wire}
use Rattle.debug_model.specs.declared.dmi_op.DmiOp.{DmiOp}
use Rattle.debug_model.specs.declared.dmi_scan.DmiScan.{DmiScan}
use Rattle.debug_model.specs.declared.wire.WireFault.{WireFault}
use Rattle.debug_model.specs.Dmi.{DmiComing, IsDmi, Scans, TookAll, WasDone, WhereScanned, heard, scanned_coming}
use Rattle.debug_model.specs.Many.{AnswersAll, FetchedAll, HeardManyBusy, HeardManyFailed, ManyCause, Streamed}
use Rattle.debug_model.specs.Many.Streamed.{none_yet, found_busy, took_first, took_next}
use Rattle.debug_model.specs.Scan.{Coming, ScanCause}
use Rattle.debug_model.specs.Told.{Far}
use Rattle.probe_dmi.specs.Operations.{kept}
use Rattle.probe_dmi.specs.Registers.{HeardDmi, HeardNumber, TookDmi, TookNumber}
use Rattle.probe_dmi.proofs.Heard.{Through, all_through, op_of, took_all_then, took_one, took_some, took_two, was_busy}
use Rattle.debug_model.specs.Scan.{WrongIn}

-- ---- the scans so far, of so many operations, of which some are left

pub record StreamedIn (total left busy : ℕ) (flight : Bool) (results : List ℕ) (coming : Coming) (new : Option Coming) : Type 0 where
  pub taken : ℕ
  pub count : taken + left ≡ total
  pub outs : List (List Bool)
  pub streamed : Streamed taken busy flight results outs
  pub next : Coming
  pub is : new ≡ Some next
  pub took : TookAll outs coming next

abbrev pub HeardSoFar : ℕ → ℕ → ℕ → Bool → List ℕ → Option Coming → Option Coming → Type 0
HeardSoFar total left busy flight results None new = new ≡ None
HeardSoFar total left busy flight results (Some coming) new = StreamedIn total left busy flight results coming new

pub heard_begun : (total : ℕ) (results : List ℕ) (old new : Option Coming) → results ≡ [] → new ≡ old → HeardSoFar total total 0 false results old new
heard_begun total results None new none same = same
heard_begun total results (Some s) new none same =
    record {
      taken = 0;
      count = omega arith;
      outs = [];
      streamed = subst (λ xs. Streamed 0 0 false xs []) (sym none) none_yet;
      next = s;
      is = same;
      took =
          refl;
    }

-- with nothing in flight none was taken, and there is no result
record IsFirst (taken : ℕ) (results : List ℕ) : Type 0 where
  none : taken ≡ 0
  empty : results ≡ []

first_of : (taken busy : ℕ) (flight : Bool) (results : List ℕ) (outs : List (List Bool)) → Streamed taken busy flight results outs → flight ≡ false
    → IsFirst taken results
first_of taken busy flight results outs none_yet e = record { none = refl; empty = refl }
first_of taken busy flight results outs (found_busy t b f rs os s out cleared d w k) e = first_of t b f rs os s e
first_of taken busy flight results outs (took_first b os s few out d w) e = absurd (let no : ⊥ = cc in no)
first_of taken busy flight results outs (took_next t b rs os s few out d w) e = absurd (let no : ⊥ = cc in no)

next_streamed : (taken busy : ℕ) (flight : Bool) (results : List ℕ) (outs : List (List Bool)) (value : ℕ) (bits : List Bool) → value ≡ (heard bits).value
    → busy < 64 → IsDmi bits → WasDone bits → Streamed taken busy flight results outs
    → Streamed (suc taken) 0 true (kept flight value results) (outs ++ bits ∷ [])
next_streamed taken busy false results outs value bits is few width done s =
    let f = first_of taken busy false results outs s refl in
    let first : Streamed 0 busy false [] outs = subst (λ rs. Streamed 0 busy false rs outs) f.empty (subst (λ n. Streamed n busy false results outs) f.none s)
    in
    subst (λ n. Streamed (suc n) 0 true results (outs ++ bits ∷ [])) (sym f.none)
    (subst (λ rs. Streamed 1 0 true rs (outs ++ bits ∷ [])) (sym f.empty) (took_first busy outs first few bits width done))
next_streamed taken busy true results outs value bits is few width done s =
    subst (λ n. Streamed (suc taken) 0 true (results ++ n ∷ []) (outs ++ bits ∷ [])) (sym is) (took_next taken busy results outs s few bits width done)

pub heard_on : (total left left' busy : ℕ) (flight : Bool) (results results' : List ℕ) (out : DmiScan) (old mid new : Option Coming) → busy < 64 → out.op ≡ 0
    → results' ≡ kept flight out.value results → left' + 1 ≡ left → HeardSoFar total left busy flight results old mid → HeardDmi out mid new
    → HeardSoFar total left' 0 true results' old new
heard_on total left left' busy flight results results' out None mid new few done kept_is fewer s h = subst (λ m. HeardDmi out m new) s h
heard_on total left left' busy flight results results' out (Some coming) mid new few done kept_is fewer s h =
    let d : TookDmi out s.next new = subst (λ m. HeardDmi out m new) s.is h in
    let x = took_some d.bits s.next new d.took in
    record {
      taken = suc s.taken;
      count = omega (arith, s.count, fewer);
      outs = s.outs ++ d.bits ∷ [];
      streamed = subst (λ rs. Streamed (suc s.taken) 0 true rs (s.outs ++ d.bits ∷ [])) (sym kept_is)
          (next_streamed s.taken busy flight results s.outs out.value d.bits (ap (λ (y : DmiScan). y.value) d.is) few d.width (op_of out d.bits 0 d.is done)
          s.streamed);
      next = x.next;
      is = x.is;
      took = took_all_then s.outs (d.bits ∷ []) coming s.next x.next s.took (took_one d.bits s.next new x.next d.took x.is);
    }

pub heard_busy_again : (total left busy : ℕ) (flight : Bool) (results : List ℕ) (out : DmiScan) (value : ℕ) (old mid last new : Option Coming) → out.op ≢ 0
    → out.op ≢ 2 → HeardSoFar total left busy flight results old mid → HeardDmi out mid last → HeardNumber value last new
    → HeardSoFar total left (busy + 1) flight results old new
heard_busy_again total left busy flight results out value None mid last new undone unfailed s h k =
    subst (λ m. HeardNumber value m new) (subst (λ m. HeardDmi out m last) s h) k
heard_busy_again total left busy flight results out value (Some coming) mid last new undone unfailed s h k =
    let d : TookDmi out s.next last = subst (λ m. HeardDmi out m last) s.is h in
    let x = took_some d.bits s.next last d.took in
    let w : TookNumber value x.next new = subst (λ m. HeardNumber value m new) x.is k in
    let y = took_some w.bits x.next new w.took in
    let more : suc busy ≡ busy + 1 = omega arith in
    record {
      taken = s.taken;
      count = s.count;
      outs = s.outs ++ (d.bits ∷ w.bits ∷ []);
      streamed = subst (λ m. Streamed s.taken m flight results (s.outs ++ (d.bits ∷ w.bits ∷ []))) more
          (found_busy s.taken busy flight results s.outs s.streamed d.bits w.bits d.width (was_busy out d.bits d.is undone unfailed) w.width);
      next = y.next;
      is = y.is;
      took = took_all_then s.outs (d.bits ∷ w.bits ∷ []) coming s.next y.next s.took
          (took_two d.bits w.bits s.next x.next y.next (took_one d.bits s.next last x.next d.took x.is) (took_one w.bits x.next new y.next w.took y.is));
    }

pub heard_all : (ops : List DmiOp) (left busy : ℕ) (flight : Bool) (results results' : List ℕ) (out : DmiScan) (old mid new : Option Coming) → busy < 64
    → out.op ≡ 0 → flight ≡ true → results' ≡ kept flight out.value results → left ≡ 0
    → HeardSoFar (length ops) left busy flight results old mid → HeardDmi out mid new → AnswersAll ops results' (option_map Scans old) (option_map Scans new)
heard_all ops left busy flight results results' out None mid new few done one kept_is none s h = ap (option_map Scans) (subst (λ m. HeardDmi out m new) s h)
heard_all ops left busy flight results results' out (Some coming) mid new few done one kept_is none s h =
    let d : TookDmi out s.next new = subst (λ m. HeardDmi out m new) s.is h in
    let x = took_some d.bits s.next new d.took in
    let all : s.taken ≡ length ops = omega (arith, s.count, none) in
    let streamed : Streamed s.taken busy true results s.outs = subst (λ b. Streamed s.taken busy b results s.outs) one s.streamed in
    let f : FetchedAll (length ops) results' coming x.next = record {
      busy_answers = busy;
      few = few;
      earlier = results;
      outs = s.outs;
      streamed = subst (λ n. Streamed n busy true results s.outs) all streamed;
      out = d.bits;
      width = d.width;
      done = op_of out d.bits 0 d.is done;
      results_are = kept_is ∙ ap (λ b. kept b out.value results) one ∙ ap (λ (y : DmiScan). results ++ y.value ∷ []) d.is;
      took = took_all_then s.outs (d.bits ∷ []) coming s.next x.next s.took (took_one d.bits s.next new x.next d.took x.is);
    } in
    (x.next, f, ap (option_map Scans) x.is)

pub heard_many_failed : (total left busy : ℕ) (flight : Bool) (results : List ℕ) (out : DmiScan) (old mid new : Option Coming) → busy < 64 → out.op ≡ 2
    → HeardSoFar total left busy flight results old mid → HeardDmi out mid new
    → IfSome (option_map Scans old) (WhereScanned (HeardManyFailed total))
heard_many_failed total left busy flight results out None mid new few gone s h = tt
heard_many_failed total left busy flight results out (Some coming) mid new few gone s h =
    let d : TookDmi out s.next new = subst (λ m. HeardDmi out m new) s.is h in
    let x = took_some d.bits s.next new d.took in
    record {
      taken = s.taken;
      some = omega (arith, s.count);
      busy_answers = busy;
      few = few;
      flight = flight;
      results = results;
      outs = s.outs;
      streamed = s.streamed;
      out = d.bits;
      width = d.width;
      failed = op_of out d.bits 2 d.is gone;
      new = x.next;
      took = took_all_then s.outs (d.bits ∷ []) coming s.next x.next s.took (took_one d.bits s.next new x.next d.took x.is);
    }

pub heard_many_busy : (total left busy : ℕ) (flight : Bool) (results : List ℕ) (old mid : Option Coming) → busy ≡ 64
    → HeardSoFar total left busy flight results old mid → IfSome (option_map Scans old) (WhereScanned (HeardManyBusy total))
heard_many_busy total left busy flight results None mid many s = tt
heard_many_busy total left busy flight results (Some coming) mid many s = record {
  taken = s.taken;
  some = omega (arith, s.count);
  flight = flight;
  results = results;
  outs = s.outs;
  streamed = subst (λ m. Streamed s.taken m flight results s.outs) many s.streamed;
  new = s.next;
  took = s.took;
}

-- ---- where a bad answer stood

pub stream_through : (total left busy : ℕ) (flight : Bool) (results : List ℕ) (old new : Option Coming) → HeardSoFar total left busy flight results old new
    → Through old new
stream_through total left busy flight results None new s b w = tt
stream_through total left busy flight results (Some coming) new s b w = all_through b s.outs coming s.next s.took (subst (λ m. IfSome m (WrongIn b)) s.is w)

pub many_cause : {T : Type 0} (total old new : ℕ) (was told : Option Far) (coming : Option DmiComing) (fault : WireFault) (result : Result T DmiFault)
    → IsErrAnd result (λ e. e ≡ Wire fault) → ScanCause old new told (scanned_coming coming) fault → IfErr result (ManyCause total old new was told coming)
many_cause total old new was told coming fault (Ok x) h cause = tt
many_cause total old new was told coming fault (Err e) h cause = subst (ManyCause total old new was told coming) (sym h) cause
