-- The calls of a run of stores by the system bus, put together out of single calls.
use Rattle.std.proofs.Common.{
  ◌≡◌,
  ◌==◌,
  ◌∙◌,
  ◌≤◌,
  ◌<◌,
  ◌+◌,
  ◌-◌,
  ◌^◌,
  ◌++◌,
  ℕ,
  zero,
  suc,
  Bool,
  true,
  false,
  List,
  [],
  ◌∷◌,
  length,
  All,
  Option,
  refl,
  sym,
  ap,
  subst,
  append-nil,
  append_assoc,
  length-append,
  arith,
}
use Rattle.std.proofs.lemmas.List.Elements.{All-cons}
use Rattle.debug_model.specs.Addresses.{sbdata0_address, sbdata1_address}
use Rattle.debug_model.specs.Commands.{high_half, low_half}
use Rattle.debug_model.specs.Kept.{DmiSeen}
use Rattle.debug_model.specs.Rises.{Within}
use Rattle.debug_model.specs.declared.dmi.DmiFault.{DmiFault}
use Rattle.debug_model.specs.declared.dmi_op.DmiOp.{DmiOp}
use Rattle.debug_model.specs.declared.dmi_op.DmiOp.TheVariants.{Write}
use Rattle.debug_model.specs.Dmi.{IsOperation}
use Rattle.debug_model.specs.Many.{AnswersAll, ManyCause, OperatedAll, OperationsCut}
use Rattle.debug_model.specs.Scan.{WhereTold}
use Rattle.debug_model.specs.Told.{Far}
use Rattle.probe_run.specs.Acts.{Act, Attempt, Did, Tells, acts_of}
use Rattle.probe_run.specs.Acts.Act.{Got, Put, Scanned}
use Rattle.probe_run.proofs.ActLemmas.{broke_then, did_list, did_then}
use Rattle.probe_access.specs.Blocks.{value_at}
use Rattle.probe_access.specs.BusRuns.{Starting}
use Rattle.probe_access.specs.BusRuns.Starting.{next}
use Rattle.probe_access.specs.BusStoreStreams.{Puts, data_puts, element_puts, puts_where, upper_at, words_from, writes_of}
use Rattle.probe_access.specs.Faults.{Among, BrokeIn}
use Rattle.probe_access.proofs.BusPolls.{begun_before}
use Rattle.probe_access.proofs.BusStreamCalls.{some_broke, some_did}
use Rattle.probe_access.proofs.RegisterCalls.{BegunEach}

-- ---- one of some writes, among more of them

starting_behind : (xs ys acts : List Act) (failed : Attempt) → Starting ys acts failed → Starting (xs ++ ys) (xs ++ acts) failed
starting_behind xs ys _ _ (next front rest a v is) = next (xs ++ front) rest a v (ap (λ zs. xs ++ zs) is ∙ sym (append_assoc xs front (Put a v ∷ rest)))

among_front : (xs ys acts : List Act) (failed : Attempt) → Among (Starting xs) acts failed → Among (Starting (xs ++ ys)) acts failed
among_front xs ys acts Attempt.Scan f = f
among_front xs ys acts (Attempt.Operation op) f = begun_before xs ys acts (Attempt.Operation op) f
among_front xs ys acts (Attempt.Several op ops) f = λ done other left is. begun_before xs ys _ (Attempt.Operation other) (f done other left is)

among_behind : (xs ys acts : List Act) (failed : Attempt) → Among (Starting ys) acts failed → Among (Starting (xs ++ ys)) (xs ++ acts) failed
among_behind xs ys acts Attempt.Scan f = f
among_behind xs ys acts (Attempt.Operation op) f = starting_behind xs ys acts (Attempt.Operation op) f
among_behind xs ys acts (Attempt.Several op ops) f =
    λ done other left is. subst (λ zs. Starting (xs ++ ys) zs (Attempt.Operation other)) (sym (append_assoc xs acts _))
    (starting_behind xs ys _ (Attempt.Operation other) (f done other left is))

-- alone in its call
starting_among : (xs acts : List Act) (failed : Attempt) → Starting xs acts failed → Among (Starting xs) acts failed
starting_among xs _ _ (next front rest a v is) = next front rest a v is

pub alone_broke : (xs ys : List Act) (old_count new_count : ℕ) (old : Tells) (told : Option Far) (why : DmiFault)
    → BrokeIn (Starting xs) old_count new_count old told why → BrokeIn (Among (Starting (xs ++ ys))) old_count new_count old told why
alone_broke xs ys old_count new_count old told why b = record {
  acts = b.acts;
  failed = b.failed;
  begun = among_front xs ys b.acts b.failed (starting_among xs b.acts b.failed b.begun);
  broke = b.broke;
}

pub behind_broke : (xs ys : List Act) (count mid_count new_count : ℕ) (old mid : Tells) (told : Option Far) (why : DmiFault) → Did old xs mid
    → count ≤ mid_count → mid_count ≤ new_count → BrokeIn (Among (Starting ys)) mid_count new_count mid told why
    → BrokeIn (Among (Starting (xs ++ ys))) count new_count old told why
behind_broke xs ys count mid_count new_count old mid told why did le later b = record {
  acts = xs ++ b.acts;
  failed = b.failed;
  begun = among_behind xs ys b.acts b.failed b.begun;
  broke = broke_then xs old mid did b.acts b.failed count mid_count new_count told why le later b.broke;
}

-- ---- writes of some words

pub puts_then : (xs ys : List Act) → Puts xs → Puts ys → Puts (xs ++ ys)
puts_then _ ys Puts.none q = q
puts_then _ ys (Puts.more a v acts small p) q = Puts.more a v (acts ++ ys) small (puts_then acts ys p q)

pub writes_then : (xs ys : List Act) → writes_of (xs ++ ys) ≡ writes_of xs ++ writes_of ys
writes_then [] ys = refl
writes_then (Scanned v ∷ xs) ys = writes_then xs ys
writes_then (Got a v ∷ xs) ys = writes_then xs ys
writes_then (Put a v ∷ xs) ys = ap (λ ops. Write a v ∷ ops) (writes_then xs ys)

pub writes_small : (acts : List Act) → Puts acts → All IsOperation (writes_of acts)
writes_small _ Puts.none = λ k d h. absurd (omega arith)
writes_small _ (Puts.more a v acts small p) = All-cons IsOperation (Write a v) (writes_of acts) small (writes_small acts p)

pub writes_long : (acts : List Act) → Puts acts → length (writes_of acts) ≡ length acts
writes_long _ Puts.none = refl
writes_long _ (Puts.more a v acts small p) = ap suc (writes_long acts p)

writes_acts : (acts : List Act) (results : List ℕ) → Puts acts → length results ≡ length acts → acts_of (writes_of acts) results ≡ acts
writes_acts _ [] Puts.none long = refl
writes_acts _ (r ∷ results) Puts.none long = absurd (omega (arith, long))
writes_acts _ [] (Puts.more a v acts small p) long = absurd (omega (arith, long))
writes_acts _ (r ∷ results) (Puts.more a v acts small p) long =
    ap (λ xs. Put a v ∷ xs) (writes_acts acts results p (omega (arith, long)))

pub writes_did : (acts : List Act) (ops : List DmiOp) (results : List ℕ) (old new : Tells) → ops ≡ writes_of acts → Puts acts → 0 < length acts
    → length results ≡ length ops → WhereTold (OperatedAll ops results) old.far new.far → AnswersAll ops results old.coming new.coming → Did old acts new
writes_did acts ops results old new filled puts some long told heard =
    let e : length (writes_of acts) ≡ length acts = writes_long acts puts in
    did_list (acts_of (writes_of acts) results) acts old new (writes_acts acts results puts (long ∙ ap length filled ∙ e))
    (some_did (writes_of acts) results old new (omega (arith, some, e)) (writes_small acts puts)
    (subst (λ xs. WhereTold (OperatedAll xs results) old.far new.far) filled told)
    (subst (λ xs. AnswersAll xs results old.coming new.coming) filled heard))

-- ---- a call that failed

writes_each : (all front acts rest : List Act) → all ≡ front ++ (acts ++ rest) → Puts acts → BegunEach (Starting all) front (writes_of acts)
writes_each all front _ rest is Puts.none = tt
writes_each all front _ rest is (Puts.more a v acts small p) = (
  next front (acts ++ rest) a v is,
  λ result. writes_each all (front ++ Put a v ∷ []) acts rest (is ∙ sym (append_assoc front (Put a v ∷ []) (acts ++ rest))) p,
)

-- the first of some writes
pub writes_broke : (acts rest : List Act) (ops : List DmiOp) (old_count new_count : ℕ) (old : Tells) (told : Option Far) (why : DmiFault)
    → ops ≡ writes_of acts → Puts acts → 0 < length acts → WhereTold (OperationsCut ops) old.far told
    → ManyCause (length ops) old_count new_count old.far told old.coming why
    → BrokeIn (Among (Starting (acts ++ rest))) old_count new_count old told why
writes_broke acts rest ops old_count new_count old told why filled puts some cut cause =
    let e : length (writes_of acts) ≡ length acts = writes_long acts puts in
    some_broke (Starting (acts ++ rest)) (writes_of acts) old_count new_count old told why (omega (arith, some, e))
    (writes_each (acts ++ rest) [] acts rest refl puts) (subst (λ xs. WhereTold (OperationsCut xs) old.far told) filled cut)
    (subst (λ xs. ManyCause (length xs) old_count new_count old.far told old.coming why) filled cause)

pub writes_rise : (acts : List Act) (ops : List DmiOp) (old new : DmiSeen) → ops ≡ writes_of acts → Puts acts → Within (length ops) old new
    → Within (length acts) old new
writes_rise acts ops old new is puts within = subst (λ n. Within n old new) (ap length is ∙ writes_long acts puts) within

-- ---- the words of elements

pub puts_append : (values : List ℕ) (from m n : ℕ) → data_puts values from (m + n) ≡ data_puts values from m ++ data_puts values (from + m) n
puts_append values from zero n =
    ap (λ k. data_puts values from k) (let e : zero + n ≡ n = omega arith in e)
    ∙ ap (λ k. data_puts values k n) (let e : from ≡ from + zero = omega arith in e)
puts_append values from (suc m) n =
    let one : List Act = element_puts (upper_at values from) (value_at values from) in
    ap (λ k. data_puts values from k) (let e : suc m + n ≡ suc (m + n) = omega arith in e)
    ∙ ap (λ xs. one ++ xs) (puts_append values (from + 1) m n)
    ∙ ap (λ k. one ++ (data_puts values (from + 1) m ++ data_puts values k n)) (let e : (from + 1) + m ≡ from + suc m = omega arith in e)
    ∙ sym (append_assoc one (data_puts values (from + 1) m) (data_puts values (from + suc m) n))

-- of one more
pub puts_more : (values : List ℕ) (from n : ℕ) → from ≤ n
    → data_puts values from ((n + 1) - from) ≡ data_puts values from (n - from) ++ element_puts (upper_at values n) (value_at values n)
puts_more values from n within =
    ap (λ k. data_puts values from k) (let e : (n + 1) - from ≡ (n - from) + 1 = omega (arith, within) in e)
    ∙ puts_append values from (n - from) 1
    ∙ ap (λ k. data_puts values from (n - from) ++ data_puts values k 1) (let e : from + (n - from) ≡ n = omega (arith, within) in e)
    ∙ ap (λ xs. data_puts values from (n - from) ++ xs) (append-nil (element_puts (upper_at values n) (value_at values n)))

-- from one on up to a place between, and from there to another
pub puts_parts : (values : List ℕ) (from mid end : ℕ) → from ≤ mid → mid ≤ end
    → data_puts values from (end - from) ≡ data_puts values from (mid - from) ++ data_puts values mid (end - mid)
puts_parts values from mid end first second =
    ap (λ k. data_puts values from k) (let e : end - from ≡ (mid - from) + (end - mid) = omega (arith, first, second) in e)
    ∙ puts_append values from (mid - from) (end - mid)
    ∙ ap (λ k. data_puts values from (mid - from) ++ data_puts values k (end - mid))
    (let e : from + (mid - from) ≡ mid = omega (arith, first) in e)

words_where : (held : Bool) (value : ℕ) → (1 ≤ length (puts_where held value)) × (length (puts_where held value) ≤ 2)
words_where true value = (omega arith, omega arith)
words_where false value = (omega arith, omega arith)

puts_are : (held : Bool) (value : ℕ) → value < 2 ^ 64 → Puts (puts_where held value)
puts_are true value small = Puts.more sbdata0_address (low_half value) [] (omega arith, omega arith) Puts.none
puts_are false value small =
    Puts.more sbdata1_address (high_half value) (Put sbdata0_address (low_half value) ∷ []) (omega arith, omega (arith, small))
    (Puts.more sbdata0_address (low_half value) [] (omega arith, omega arith) Puts.none)

pub element_are_puts : (upper value : ℕ) → value < 2 ^ 64 → Puts (element_puts upper value)
element_are_puts upper value small = puts_are (high_half value == upper) value small

pub element_words_some : (upper value : ℕ) → 1 ≤ length (element_puts upper value)
element_words_some upper value = (words_where (high_half value == upper) value).0

pub element_words_most : (upper value : ℕ) → length (element_puts upper value) ≤ 2
element_words_most upper value = (words_where (high_half value == upper) value).1

pub words_next : (values : List ℕ) (from n : ℕ) → from ≤ n
    → words_from values from ((n + 1) - from) ≡ words_from values from (n - from) + length (element_puts (upper_at values n) (value_at values n))
words_next values from n within =
    ap length (puts_more values from n within) ∙ length-append (data_puts values from (n - from)) (element_puts (upper_at values n) (value_at values n))

pub words_parts : (values : List ℕ) (from mid end : ℕ) → from ≤ mid → mid ≤ end
    → words_from values from (end - from) ≡ words_from values from (mid - from) + words_from values mid (end - mid)
words_parts values from mid end first second =
    ap length (puts_parts values from mid end first second) ∙ length-append (data_puts values from (mid - from)) (data_puts values mid (end - mid))

pub words_some : (values : List ℕ) (from mid : ℕ) → from < mid → 0 < words_from values from (mid - from)
words_some values from mid some =
    let e : mid - from ≡ suc ((mid - from) - 1) = omega (arith, some) in
    let one : List Act = element_puts (upper_at values from) (value_at values from) in
    let rest : List Act = data_puts values (from + 1) ((mid - from) - 1) in
    let k : length (one ++ rest) ≡ length one + length rest = length-append one rest in
    subst (λ n. 0 < words_from values from n) (sym e) (omega (arith, k, element_words_some (upper_at values from) (value_at values from)))

-- ---- the words of one call, element by element

no_puts : (values : List ℕ) (from : ℕ) → data_puts values from (from - from) ≡ []
no_puts values from = ap (λ k. data_puts values from k) (let e : from - from ≡ 0 = omega arith in e)

pub fill_none : (values : List ℕ) (from : ℕ) → [] ≡ writes_of (data_puts values from (from - from))
fill_none values from = ap writes_of (sym (no_puts values from))

pub none_are_puts : (values : List ℕ) (from : ℕ) → Puts (data_puts values from (from - from))
none_are_puts values from = subst Puts (sym (no_puts values from)) Puts.none

pub words_none : (values : List ℕ) (from : ℕ) → words_from values from (from - from) ≡ 0
words_none values from = ap length (no_puts values from)

element_as : (values : List ℕ) (n upper value : ℕ) → upper ≡ upper_at values n → value ≡ value_at values n
    → element_puts upper value ≡ element_puts (upper_at values n) (value_at values n)
element_as values n upper value own is = ap (λ u. element_puts u value) own ∙ ap (element_puts (upper_at values n)) is

pub fill_more : (values : List ℕ) (from n upper value : ℕ) (before after : List DmiOp) → from ≤ n → upper ≡ upper_at values n → value ≡ value_at values n
    → before ≡ writes_of (data_puts values from (n - from)) → after ≡ before ++ writes_of (element_puts upper value)
    → after ≡ writes_of (data_puts values from ((n + 1) - from))
fill_more values from n upper value before after within own is filled put =
    let here : List Act = data_puts values from (n - from) in
    let one : List Act = element_puts (upper_at values n) (value_at values n) in
    put ∙ ap (λ xs. xs ++ writes_of (element_puts upper value)) filled ∙ ap (λ xs. writes_of here ++ writes_of xs) (element_as values n upper value own is)
    ∙ sym (writes_then here one) ∙ ap writes_of (sym (puts_more values from n within))

pub puts_one_more : (values : List ℕ) (from n upper value : ℕ) → from ≤ n → upper ≡ upper_at values n → value ≡ value_at values n
    → Puts (data_puts values from (n - from)) → Puts (element_puts upper value) → Puts (data_puts values from ((n + 1) - from))
puts_one_more values from n upper value within own is p q =
    subst Puts (sym (puts_more values from n within))
    (puts_then (data_puts values from (n - from)) (element_puts (upper_at values n) (value_at values n)) p
    (subst Puts (element_as values n upper value own is) q))

pub words_one_more : (values : List ℕ) (from n upper value at after : ℕ) → from ≤ n → upper ≡ upper_at values n → value ≡ value_at values n
    → at ≡ words_from values from (n - from) → after ≡ at + length (element_puts upper value) → after ≡ words_from values from ((n + 1) - from)
words_one_more values from n upper value at after within own is here put =
    let e : length (element_puts upper value) ≡ length (element_puts (upper_at values n) (value_at values n)) =
    ap length (element_as values n upper value own is) in
    let k : words_from values from ((n + 1) - from) ≡ words_from values from (n - from) + length (element_puts (upper_at values n) (value_at values n)) =
    words_next values from n within in
    omega (arith, here, put, e, k)

-- ---- one call behind another

puts_front : (values : List ℕ) (mid end : ℕ) → mid ≤ end → data_puts values 0 end ≡ data_puts values 0 mid ++ data_puts values mid (end - mid)
puts_front values mid end within =
    ap (λ k. data_puts values 0 k) (let e : end ≡ mid + (end - mid) = omega (arith, within) in e)
    ∙ puts_append values 0 mid (end - mid)
    ∙ ap (λ k. data_puts values 0 mid ++ data_puts values k (end - mid)) (let e : 0 + mid ≡ mid = omega arith in e)

pub words_front : (values : List ℕ) (mid end : ℕ) → mid ≤ end → words_from values 0 end ≡ words_from values 0 mid + words_from values mid (end - mid)
words_front values mid end within =
    ap length (puts_front values mid end within) ∙ length-append (data_puts values 0 mid) (data_puts values mid (end - mid))

pub more_put : (values : List ℕ) (mid end : ℕ) (a b c : Tells) → mid ≤ end → Did a (data_puts values 0 mid) b
    → Did b (data_puts values mid (end - mid)) c → Did a (data_puts values 0 end) c
more_put values mid end a b c within p q =
    did_list (data_puts values 0 mid ++ data_puts values mid (end - mid)) (data_puts values 0 end) a c (sym (puts_front values mid end within))
    (did_then (data_puts values 0 mid) a b p (data_puts values mid (end - mid)) c q)

pub more_broke : (values : List ℕ) (mid end count mid_count new_count : ℕ) (old new : Tells) (told : Option Far) (why : DmiFault) → mid ≤ end
    → Did old (data_puts values 0 mid) new → count ≤ mid_count → mid_count ≤ new_count
    → BrokeIn (Among (Starting (data_puts values mid (end - mid)))) mid_count new_count new told why
    → BrokeIn (Among (Starting (data_puts values 0 end))) count new_count old told why
more_broke values mid end count mid_count new_count old new told why within did le later b =
    subst (λ xs. BrokeIn (Among (Starting xs)) count new_count old told why) (sym (puts_front values mid end within))
    (behind_broke (data_puts values 0 mid) (data_puts values mid (end - mid)) count mid_count new_count old new told why did le later b)
