-- The calls of a run of loads by the system bus, put together out of single calls.
use Rattle.std.proofs.Common.{◌≡◌, ◌∙◌, ◌≤◌, ◌<◌, ◌+◌, ◌*◌, ◌++◌, ℕ, zero, suc, List, [], ◌∷◌, length, take, slice_index_or, All, Option, refl, sym, ap, subst, append_assoc, append-nil, length-append, arith}
use Rattle.std.proofs.lemmas.List.{take-append-drop}
use Rattle.std.proofs.lemmas.List.Elements.{All-cons}
use Rattle.std.specs.Prelude.{drop}
use Rattle.rv_model.specs.declared.size.Size.{Size}
use Rattle.rv_model.specs.declared.size.Size.TheVariants.{B1, B2, B4, B8}
use Rattle.debug_model.specs.Addresses.{sbaddress0_address, sbaddress1_address, sbcs_address, sbdata0_address, sbdata1_address}
use Rattle.debug_model.specs.declared.dmi.DmiFault.{DmiFault}
use Rattle.debug_model.specs.declared.dmi_op.DmiOp.{DmiOp}
use Rattle.debug_model.specs.declared.dmi_op.DmiOp.TheVariants.{Read, Write}
use Rattle.debug_model.specs.Dmi.{IsOperation, value_of}
use Rattle.debug_model.specs.Many.{AnswersAll, ManyCause, OperatedAll, OperationsCut}
use Rattle.debug_model.specs.Scan.{WhereTold}
use Rattle.debug_model.specs.Told.{Far}
use Rattle.probe_run.specs.Acts.{Act, Attempt, Did, Tells, acts_of, op_act}
use Rattle.probe_run.specs.Acts.Act.{Got, Put}
use Rattle.probe_run.specs.Acts.Attempt.{Operation}
use Rattle.probe_run.specs.Acts.Did.{nothing}
use Rattle.probe_run.specs.Opening.{clears_sberror}
use Rattle.probe_run.proofs.ActLemmas.{broke_then, did_list, did_then, did_together}
use Rattle.probe_access.specs.BusStreams.{
  DataReads,
  BusReads,
  ElementsRead,
  Finding,
  FoundAt,
  Handed,
  IsBusRead,
  IsNarrow,
  MoreRead,
  ReadingData,
  doubles_of,
  reads_of,
  reads_of_one,
  values_in,
  words_of,
}
use Rattle.probe_access.specs.BusStreams.ElementsRead.{none as none_read, narrow, double}
use Rattle.probe_access.specs.Faults.{Among, BrokeIn}
use Rattle.probe_access.specs.RegisterAccess.{joined}
use Rattle.probe_access.proofs.RegisterCalls.{BegunEach, many_broke}

-- ---- the operations

pub reads_snoc : (size : Size) (n : ℕ) → reads_of size n ++ reads_of_one size ≡ reads_of size (n + 1)
reads_snoc size zero = sym (append-nil (reads_of_one size))
reads_snoc size (suc n) =
    let e : suc (n + 1) ≡ suc n + 1 = omega arith in
    append_assoc (reads_of_one size) (reads_of size n) (reads_of_one size) ∙ ap (λ xs. reads_of_one size ++ xs) (reads_snoc size n)
    ∙ ap (reads_of size) e

one_long : (size : Size) → length (reads_of_one size) ≤ 2
one_long B1 = omega arith
one_long B2 = omega arith
one_long B4 = omega arith
one_long B8 = omega arith

pub reads_long : (size : Size) (n : ℕ) → length (reads_of size n) ≤ 2 * n
reads_long size zero = omega arith
reads_long size (suc n) =
    let e : length (reads_of_one size ++ reads_of size n) ≡ length (reads_of_one size) + length (reads_of size n) =
    length-append (reads_of_one size) (reads_of size n) in
    omega (arith, e, one_long size, reads_long size n)

-- ---- the words of elements

narrow_read : (size : Size) (n : ℕ) (results : List ℕ) → IsNarrow size → reads_of_one size ≡ Read sbdata0_address ∷ []
    → length results ≡ length (reads_of size n) → ElementsRead size (words_of size results) (acts_of (reads_of size n) results)
narrow_read size zero [] thin one long = none_read
narrow_read size zero (r ∷ results) thin one long = absurd (omega (arith, long))
narrow_read size (suc n) [] thin one long =
    let e : length (reads_of_one size ++ reads_of size n) ≡ length (reads_of_one size) + length (reads_of size n) =
    length-append (reads_of_one size) (reads_of size n) in
    let k : length (reads_of_one size) ≡ 1 = ap length one in
    absurd (omega (arith, long, e, k))
narrow_read size (suc n) (r ∷ results) thin one long =
    let e : length (reads_of_one size ++ reads_of size n) ≡ length (reads_of_one size) + length (reads_of size n) =
    length-append (reads_of_one size) (reads_of size n) in
    let k : length (reads_of_one size) ≡ 1 = ap length one in
    subst (λ ops. ElementsRead size (words_of size (r ∷ results)) (acts_of (ops ++ reads_of size n) (r ∷ results))) (sym one)
    (narrow r (words_of size results) (acts_of (reads_of size n) results) thin (narrow_read size n results thin one (omega (arith, long, e, k))))

double_read : (n : ℕ) (results : List ℕ) → length results ≡ length (reads_of B8 n) → ElementsRead B8 (doubles_of results) (acts_of (reads_of B8 n) results)
double_read zero [] long = none_read
double_read zero (r ∷ results) long = absurd (omega (arith, long))
double_read (suc n) [] long = absurd (omega (arith, long))
double_read (suc n) (high ∷ []) long = absurd (omega (arith, long))
double_read (suc n) (high ∷ low ∷ results) long =
    double low high (doubles_of results) (acts_of (reads_of B8 n) results) refl (double_read n results (omega (arith, long)))

pub elements_read : (size : Size) (n : ℕ) (results : List ℕ) → length results ≡ length (reads_of size n)
    → ElementsRead size (values_in size results) (acts_of (reads_of size n) results)
elements_read B1 n results long = narrow_read B1 n results tt refl long
elements_read B2 n results long = narrow_read B2 n results tt refl long
elements_read B4 n results long = narrow_read B4 n results tt refl long
elements_read B8 n results long = double_read n results long

words_long : (size : Size) (results : List ℕ) → length (words_of size results) ≡ length results
words_long size [] = refl
words_long size (r ∷ results) = ap suc (words_long size results)

narrow_long : (size : Size) (n : ℕ) → reads_of_one size ≡ Read sbdata0_address ∷ [] → length (reads_of size n) ≡ n
narrow_long size zero one = refl
narrow_long size (suc n) one =
    let e : length (reads_of_one size ++ reads_of size n) ≡ length (reads_of_one size) + length (reads_of size n) =
    length-append (reads_of_one size) (reads_of size n) in
    let k : length (reads_of_one size) ≡ 1 = ap length one in
    omega (arith, e, k, narrow_long size n one)

pub double_long : (n : ℕ) → length (reads_of B8 n) ≡ 2 * n
double_long zero = refl
double_long (suc n) = omega (arith, double_long n)

doubles_long : (n : ℕ) (results : List ℕ) → length results ≡ 2 * n → length (doubles_of results) ≡ n
doubles_long zero [] long = refl
doubles_long zero (r ∷ results) long = absurd (omega (arith, long))
doubles_long (suc n) [] long = absurd (omega (arith, long))
doubles_long (suc n) (high ∷ []) long = absurd (omega (arith, long))
doubles_long (suc n) (high ∷ low ∷ results) long = ap suc (doubles_long n results (omega (arith, long)))

pub values_long : (size : Size) (n : ℕ) (results : List ℕ) → length results ≡ length (reads_of size n) → length (values_in size results) ≡ n
values_long B1 n results long = words_long B1 results ∙ long ∙ narrow_long B1 n refl
values_long B2 n results long = words_long B2 results ∙ long ∙ narrow_long B2 n refl
values_long B4 n results long = words_long B4 results ∙ long ∙ narrow_long B4 n refl
values_long B8 n results long = doubles_long n results (long ∙ double_long n)

-- how many results there are
pub narrow_results : (size : Size) (n : ℕ) → IsNarrow size → length (reads_of size n) ≡ n
narrow_results B1 n thin = narrow_long B1 n refl
narrow_results B2 n thin = narrow_long B2 n refl
narrow_results B4 n thin = narrow_long B4 n refl
narrow_results B8 n thin = absurd thin

-- ---- one call

one_small : (size : Size) (ops : List DmiOp) → All IsOperation ops → All IsOperation (reads_of_one size ++ ops)
one_small B1 ops small = All-cons IsOperation (Read sbdata0_address) ops (omega arith) small
one_small B2 ops small = All-cons IsOperation (Read sbdata0_address) ops (omega arith) small
one_small B4 ops small = All-cons IsOperation (Read sbdata0_address) ops (omega arith) small
one_small B8 ops small =
    All-cons IsOperation (Read sbdata1_address) (Read sbdata0_address ∷ ops) (omega arith)
    (All-cons IsOperation (Read sbdata0_address) ops (omega arith) small)

pub reads_small : (size : Size) (n : ℕ) → All IsOperation (reads_of size n)
reads_small size zero = λ k d h. absurd (omega arith)
reads_small size (suc n) = one_small size (reads_of size n) (reads_small size n)

pub some_did : (ops : List DmiOp) (results : List ℕ) (old new : Tells) → 0 < length ops → All IsOperation ops → WhereTold (OperatedAll ops results) old.far new.far
    → AnswersAll ops results old.coming new.coming → Did old (acts_of ops results) new
some_did [] results old new some small told heard = absurd (omega arith)
some_did (op ∷ ops) results old new some small told heard = did_together op ops results old new (record { small = small; told = told; heard = heard })

pub some_broke : (B : List Act → Attempt → Type 0) (ops : List DmiOp) (old_count new_count : ℕ) (old : Tells) (told : Option Far) (why : DmiFault)
    → 0 < length ops → BegunEach B [] ops → WhereTold (OperationsCut ops) old.far told
    → ManyCause (length ops) old_count new_count old.far told old.coming why → BrokeIn (Among B) old_count new_count old told why
some_broke B [] old_count new_count old told why some each cut cause = absurd (omega arith)
some_broke B (op ∷ ops) old_count new_count old told why some each cut cause = many_broke B op ops old_count new_count old told why each cut cause

one_some : (size : Size) → 1 ≤ length (reads_of_one size)
one_some B1 = omega arith
one_some B2 = omega arith
one_some B4 = omega arith
one_some B8 = omega arith

pub reads_some : (size : Size) (n : ℕ) → 1 ≤ n → 0 < length (reads_of size n)
reads_some size zero some = absurd (omega (arith, some))
reads_some size (suc n) some =
    let e : length (reads_of_one size ++ reads_of size n) ≡ length (reads_of_one size) + length (reads_of size n) =
    length-append (reads_of_one size) (reads_of size n) in
    omega (arith, e, one_some size)

pub more_read : (size : Size) (number : ℕ) (ops : List DmiOp) (results was is : List ℕ) (old new : Tells) → ops ≡ reads_of size number → 1 ≤ number
    → length results ≡ length ops → is ≡ was ++ values_in size results → WhereTold (OperatedAll ops results) old.far new.far
    → AnswersAll ops results old.coming new.coming → MoreRead size number was is old new
more_read size number ops results was is old new filled some long joins told heard =
    let count : length results ≡ length (reads_of size number) = long ∙ ap length filled in
    record {
      values = values_in size results;
      joins = joins;
      count = values_long size number results count;
      acts = acts_of (reads_of size number) results;
      read = elements_read size number results count;
      did = some_did (reads_of size number) results old new (reads_some size number some) (reads_small size number)
          (subst (λ xs. WhereTold (OperatedAll xs results) old.far new.far) filled told)
          (subst (λ xs. AnswersAll xs results old.coming new.coming) filled heard);
    }

-- ---- a call that failed

lower_snoc : (n value : ℕ) (acts : List Act) → DataReads n acts → DataReads (n + 1) (acts ++ Got sbdata0_address value ∷ [])
lower_snoc _ value _ DataReads.none = DataReads.lower 0 value [] DataReads.none
lower_snoc _ value _ (DataReads.lower n v acts r) =
    DataReads.lower (n + 1) v (acts ++ Got sbdata0_address value ∷ []) (lower_snoc n value acts r)
lower_snoc n value _ (DataReads.upper _ v acts r) =
    DataReads.upper (n + 1) v (acts ++ Got sbdata0_address value ∷ []) (lower_snoc n value acts r)

upper_snoc : (n value : ℕ) (acts : List Act) → DataReads n acts → DataReads n (acts ++ Got sbdata1_address value ∷ [])
upper_snoc _ value _ DataReads.none = DataReads.upper 0 value [] DataReads.none
upper_snoc _ value _ (DataReads.lower n v acts r) = DataReads.lower n v (acts ++ Got sbdata1_address value ∷ []) (upper_snoc n value acts r)
upper_snoc n value _ (DataReads.upper _ v acts r) = DataReads.upper n v (acts ++ Got sbdata1_address value ∷ []) (upper_snoc n value acts r)

one_each : (size : Size) (number n : ℕ) (acts : List Act) (ops : List DmiOp) → DataReads n acts → n < number
    → ((more : List Act) → DataReads (n + 1) more → BegunEach (ReadingData number) more ops) → BegunEach (ReadingData number) acts (reads_of_one size ++ ops)
one_each B1 number n acts ops r few f =
    (ReadingData.lower n acts r few, λ v. f (acts ++ Got sbdata0_address (value_of v) ∷ []) (lower_snoc n (value_of v) acts r))
one_each B2 number n acts ops r few f =
    (ReadingData.lower n acts r few, λ v. f (acts ++ Got sbdata0_address (value_of v) ∷ []) (lower_snoc n (value_of v) acts r))
one_each B4 number n acts ops r few f =
    (ReadingData.lower n acts r few, λ v. f (acts ++ Got sbdata0_address (value_of v) ∷ []) (lower_snoc n (value_of v) acts r))
one_each B8 number n acts ops r few f = (
  ReadingData.upper n acts r few,
  λ u. let more : List Act = acts ++ Got sbdata1_address (value_of u) ∷ [] in
      let s : DataReads n more = upper_snoc n (value_of u) acts r in
      (ReadingData.lower n more s few, λ v. f (more ++ Got sbdata0_address (value_of v) ∷ []) (lower_snoc n (value_of v) more s)),
)

reads_each : (size : Size) (number n k : ℕ) (acts : List Act) → DataReads k acts → k + n ≤ number → BegunEach (ReadingData number) acts (reads_of size n)
reads_each size number zero k acts r few = tt
reads_each size number (suc n) k acts r few =
    one_each size number k acts (reads_of size n) r (omega (arith, few))
    (λ more s. reads_each size number n (k + 1) more s (omega (arith, few)))

pub reads_broke : (size : Size) (number : ℕ) (ops : List DmiOp) (old_count new_count : ℕ) (old : Tells) (told : Option Far) (why : DmiFault)
    → ops ≡ reads_of size number → 1 ≤ number → WhereTold (OperationsCut ops) old.far told
    → ManyCause (length ops) old_count new_count old.far told old.coming why
    → BrokeIn (Among (ReadingData number)) old_count new_count old told why
reads_broke size number ops old_count new_count old told why filled some cut cause =
    some_broke (ReadingData number) (reads_of size number) old_count new_count old told why (reads_some size number some)
    (reads_each size number number 0 [] DataReads.none (omega arith)) (subst (λ xs. WhereTold (OperationsCut xs) old.far told) filled cut)
    (subst (λ xs. ManyCause (length xs) old_count new_count old.far told old.coming why) filled cause)

-- ---- one call behind another

one_longer : (values : List ℕ) → length values + 1 ≡ suc (length values)
one_longer values = omega arith

data_reads : (size : Size) (values : List ℕ) (acts : List Act) → ElementsRead size values acts → DataReads (length values) acts
data_reads size _ _ none_read = DataReads.none
data_reads size _ _ (narrow low values acts thin e) =
    subst (λ k. DataReads k (Got sbdata0_address low ∷ acts)) (one_longer values) (DataReads.lower (length values) low acts (data_reads size values acts e))
data_reads size _ _ (double low high values acts eight e) =
    subst (λ k. DataReads k (Got sbdata1_address high ∷ Got sbdata0_address low ∷ acts)) (one_longer values)
    (DataReads.upper (length values + 1) high (Got sbdata0_address low ∷ acts) (DataReads.lower (length values) low acts (data_reads size values acts e)))

data_append : (m n : ℕ) (xs ys : List Act) → DataReads m xs → DataReads n ys → DataReads (m + n) (xs ++ ys)
data_append _ n _ ys DataReads.none r = subst (λ k. DataReads k ys) (let e : n ≡ 0 + n = omega arith in e) r
data_append _ n _ ys (DataReads.lower m v acts q) r =
    subst (λ k. DataReads k (Got sbdata0_address v ∷ (acts ++ ys))) (let e : (m + n) + 1 ≡ (m + 1) + n = omega arith in e)
    (DataReads.lower (m + n) v (acts ++ ys) (data_append m n acts ys q r))
data_append m n _ ys (DataReads.upper _ v acts q) r = DataReads.upper (m + n) v (acts ++ ys) (data_append m n acts ys q r)

elements_append : (size : Size) (xs ys : List ℕ) (ps qs : List Act) → ElementsRead size xs ps → ElementsRead size ys qs
    → ElementsRead size (xs ++ ys) (ps ++ qs)
elements_append size _ ys _ qs none_read e = e
elements_append size _ ys _ qs (narrow low xs ps thin d) e = narrow low (xs ++ ys) (ps ++ qs) thin (elements_append size xs ys ps qs d e)
elements_append size _ ys _ qs (double low high xs ps eight d) e = double low high (xs ++ ys) (ps ++ qs) eight (elements_append size xs ys ps qs d e)

pub none_more : (size : Size) (was : List ℕ) (old : Tells) → MoreRead size 0 was was old old
none_more size was old = record { values = []; joins = sym (append-nil was); count = refl; acts = []; read = none_read; did = nothing }

pub more_then : (size : Size) (m n k : ℕ) (xs ys zs : List ℕ) (a b c : Tells) → m + n ≡ k → MoreRead size m xs ys a b → MoreRead size n ys zs b c
    → MoreRead size k xs zs a c
more_then size m n k xs ys zs a b c total p q = record {
  values = p.values ++ q.values;
  joins = q.joins ∙ ap (λ ws. ws ++ q.values) p.joins ∙ append_assoc xs p.values q.values;
  count = let e : length (p.values ++ q.values) ≡ length p.values + length q.values = length-append p.values q.values in
      let f : length p.values ≡ m = p.count in let h : length q.values ≡ n = q.count in omega (arith, e, f, h, total);
  acts = p.acts ++ q.acts;
  read = elements_append size p.values q.values p.acts q.acts p.read q.read;
  did = did_then p.acts a b p.did q.acts c q.did;
}

reading_more : (m n number : ℕ) (xs ys : List Act) (op : DmiOp) → DataReads m xs → m + n ≤ number → ReadingData n ys (Operation op)
    → ReadingData number (xs ++ ys) (Operation op)
reading_more m n number xs ys op r few (ReadingData.lower k _ s below) =
    ReadingData.lower (m + k) (xs ++ ys) (data_append m k xs ys r s) (omega (arith, few, below))
reading_more m n number xs ys op r few (ReadingData.upper k _ s below) =
    ReadingData.upper (m + k) (xs ++ ys) (data_append m k xs ys r s) (omega (arith, few, below))

among_more : (m n number : ℕ) (xs ys : List Act) (failed : Attempt) → DataReads m xs → m + n ≤ number → Among (ReadingData n) ys failed
    → Among (ReadingData number) (xs ++ ys) failed
among_more m n number xs ys Attempt.Scan r few f = f
among_more m n number xs ys (Attempt.Operation op) r few f = reading_more m n number xs ys op r few f
among_more m n number xs ys (Attempt.Several op ops) r few f =
    λ done next left is. subst (λ zs. ReadingData number zs (Operation next)) (sym (append_assoc xs ys _))
    (reading_more m n number xs _ next r few (f done next left is))

pub broke_more : (size : Size) (m n number count mid_count new_count : ℕ) (xs ys : List ℕ) (old mid : Tells) (told : Option Far) (why : DmiFault)
    → m + n ≤ number → MoreRead size m xs ys old mid → count ≤ mid_count → mid_count ≤ new_count
    → BrokeIn (Among (ReadingData n)) mid_count new_count mid told why → BrokeIn (Among (ReadingData number)) count new_count old told why
broke_more size m n number count mid_count new_count xs ys old mid told why few p le later b = record {
  acts = p.acts ++ b.acts;
  failed = b.failed;
  begun = among_more m n number p.acts b.acts b.failed (subst (λ k. DataReads k p.acts) p.count (data_reads size p.values p.acts p.read)) few b.begun;
  broke = broke_then p.acts old mid p.did b.acts b.failed count mid_count new_count told why le later b.broke;
}

-- ---- what is handed out

pub handed_some : (read : List ℕ) (n held : ℕ) (kept : List ℕ) → kept ≡ take n read ++ held ∷ [] → Handed read held kept
handed_some read n held kept is =
    subst (λ xs. Handed read held xs) (sym is) (Handed.some (take n read) (drop n read) (sym (take-append-drop n read)))

-- ---- the errors are cleared

abbrev pub found_ops : List DmiOp
found_ops =
    Write sbcs_address clears_sberror
    ∷ Read sbaddress1_address
    ∷ Read sbaddress0_address
    ∷ Read sbdata1_address
    ∷ Read sbdata0_address
    ∷ []

five_acts : (a b c d e : DmiOp) (results : List ℕ) (z : ℕ) → length results ≡ 5
    → acts_of (a ∷ b ∷ c ∷ d ∷ e ∷ []) results
    ≡ op_act a (slice_index_or results 0 z)
    ∷ op_act b (slice_index_or results 1 z)
    ∷ op_act c (slice_index_or results 2 z)
    ∷ op_act d (slice_index_or results 3 z)
    ∷ op_act e (slice_index_or results 4 z)
    ∷ []
five_acts a b c d e [] z all = absurd (omega (arith, all))
five_acts a b c d e (p ∷ []) z all = absurd (omega (arith, all))
five_acts a b c d e (p ∷ q ∷ []) z all = absurd (omega (arith, all))
five_acts a b c d e (p ∷ q ∷ r ∷ []) z all = absurd (omega (arith, all))
five_acts a b c d e (p ∷ q ∷ r ∷ s ∷ []) z all = absurd (omega (arith, all))
five_acts a b c d e (p ∷ q ∷ r ∷ s ∷ t ∷ []) z all = refl
five_acts a b c d e (p ∷ q ∷ r ∷ s ∷ t ∷ u ∷ xs) z all = absurd (omega (arith, all))

found_small : All IsOperation found_ops
found_small =
    All-cons IsOperation (Write sbcs_address clears_sberror)
    (Read sbaddress1_address ∷ Read sbaddress0_address ∷ Read sbdata1_address ∷ Read sbdata0_address ∷ []) (omega arith, omega arith)
    (All-cons IsOperation (Read sbaddress1_address) (Read sbaddress0_address ∷ Read sbdata1_address ∷ Read sbdata0_address ∷ []) (omega arith)
    (All-cons IsOperation (Read sbaddress0_address) (Read sbdata1_address ∷ Read sbdata0_address ∷ []) (omega arith)
    (All-cons IsOperation (Read sbdata1_address) (Read sbdata0_address ∷ []) (omega arith)
    (All-cons IsOperation (Read sbdata0_address) [] (omega arith) (λ k d h. absurd (omega arith))))))

pub found_did : (address value : ℕ) (results : List ℕ) (old new : Tells) → length results ≡ 5
    → address ≡ joined (slice_index_or results 2 0) (slice_index_or results 1 0) → value ≡ joined (slice_index_or results 4 0) (slice_index_or results 3 0)
    → WhereTold (OperatedAll found_ops results) old.far new.far → AnswersAll found_ops results old.coming new.coming → FoundAt address value old new
found_did address value results old new five place held told heard = record {
  low = slice_index_or results 2 0;
  high = slice_index_or results 1 0;
  data0 = slice_index_or results 4 0;
  data1 = slice_index_or results 3 0;
  place = place;
  held = held;
  did = did_list (acts_of found_ops results)
      (Put sbcs_address clears_sberror
      ∷ Got sbaddress1_address (slice_index_or results 1 0)
      ∷ Got sbaddress0_address (slice_index_or results 2 0)
      ∷ Got sbdata1_address (slice_index_or results 3 0)
      ∷ Got sbdata0_address (slice_index_or results 4 0)
      ∷ []) old new
      (five_acts (Write sbcs_address clears_sberror) (Read sbaddress1_address) (Read sbaddress0_address) (Read sbdata1_address) (Read sbdata0_address)
      results 0 five)
      (some_did found_ops results old new (omega arith) found_small told heard);
}

reads_snoc_bus : (a value : ℕ) (acts : List Act) → IsBusRead a → BusReads acts → BusReads (acts ++ Got a value ∷ [])
reads_snoc_bus a value _ is BusReads.none = BusReads.more a value [] is BusReads.none
reads_snoc_bus a value _ is (BusReads.more b v acts it r) = BusReads.more b v (acts ++ Got a value ∷ []) it (reads_snoc_bus a value acts is r)

-- one register more is to be read, behind what was read
abbrev then_acts : List Act → ℕ → ℕ → List Act
then_acts acts a result = acts ++ Got a (value_of result) ∷ []

found_each : BegunEach Finding [] found_ops
found_each = (
  Finding.clears,
  λ u. (
    Finding.reads sbaddress1_address [] BusReads.none IsBusRead.upper_address,
    λ p. let one : BusReads (then_acts [] sbaddress1_address p) =
        reads_snoc_bus sbaddress1_address (value_of p) [] IsBusRead.upper_address BusReads.none in (
          Finding.reads sbaddress0_address (then_acts [] sbaddress1_address p) one IsBusRead.lower_address,
          λ q. let two : BusReads (then_acts (then_acts [] sbaddress1_address p) sbaddress0_address q) =
              reads_snoc_bus sbaddress0_address (value_of q) (then_acts [] sbaddress1_address p) IsBusRead.lower_address one in (
                Finding.reads sbdata1_address (then_acts (then_acts [] sbaddress1_address p) sbaddress0_address q) two IsBusRead.upper_data,
                λ r. let three : BusReads (then_acts (then_acts (then_acts [] sbaddress1_address p) sbaddress0_address q) sbdata1_address r) =
                    reads_snoc_bus sbdata1_address (value_of r) (then_acts (then_acts [] sbaddress1_address p) sbaddress0_address q) IsBusRead.upper_data
                    two in (
                      Finding.reads sbdata0_address (then_acts (then_acts (then_acts [] sbaddress1_address p) sbaddress0_address q) sbdata1_address r) three
                          IsBusRead.lower_data,
                      λ t. tt,
                    ),
              ),
        ),
  ),
)

pub found_broke : (old_count new_count : ℕ) (old : Tells) (told : Option Far) (why : DmiFault) → WhereTold (OperationsCut found_ops) old.far told
    → ManyCause 5 old_count new_count old.far told old.coming why → BrokeIn (Among Finding) old_count new_count old told why
found_broke old_count new_count old told why cut cause =
    some_broke Finding found_ops old_count new_count old told why (omega arith) found_each cut cause
