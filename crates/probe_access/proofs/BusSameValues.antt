-- A list of one value, so many times: what its stores by the system bus come to, said of that value.
use Rattle.std.proofs.Common.{◌≡◌, ◌∙◌, ◌≤◌, ◌<◌, ◌+◌, ◌-◌, ℕ, zero, suc, List, length, take, replicate, Option, Some, None, refl, ap, subst, arith}
use Rattle.std.proofs.lemmas.Bool.{eq-eqb}
use Rattle.std.proofs.lemmas.List.{get_or-replicate, length-replicate, take-replicate}
use Rattle.rv_model.specs.declared.size.Size.{Size}
use Rattle.debug_model.specs.Commands.{high_half}
use Rattle.debug_model.specs.Module.{Site}
use Rattle.debug_model.specs.Scan.{WhereTold}
use Rattle.debug_model.specs.Told.{Far}
use Rattle.probe_access.specs.declared.fault.AccessFault.{AccessFault}
use Rattle.probe_access.specs.declared.fault.AccessFault.TheVariants as access_fault
use Rattle.probe_access.specs.Blocks.{element_at, value_at}
use Rattle.probe_access.specs.BusBlocks.{
  BusBlockStoreCut,
  BusBlockStoreLeft,
  BusBlockStoreRefused,
  BusBlockStoredAt,
  BusStoredEach,
  BusStoredOne,
  BusStoredValues,
  BusValueStoreRefused,
  BusValuesStoreCut,
  BusValuesStoreLeft,
  BusValuesStoredAt,
}
use Rattle.probe_access.specs.BusStoreStreams.{data_words, element_puts, puts_where, upper_at, words_from}
use Rattle.probe_access.specs.Cuts.{BusLeftOff, IfCut, Leaves, StoreLeaves}
use Rattle.probe_access.proofs.CutSites.{if_cut}
use Rattle.probe_access.proofs.BusStoreCalls.{words_front, words_next, words_none}

-- ---- each element's value

same_at : (count value n : ℕ) → n < count → value_at (replicate count value) n ≡ value
same_at count value n below = get_or-replicate count n value 0 below

-- the first of an array of copies
pub as_copies : (P : List ℕ → ℕ → Type 0) (count value : ℕ) → count ≤ 512 → P (take count (replicate 512 value)) (length (take count (replicate 512 value)))
    → P (replicate count value) count
as_copies P count value room p =
    subst (λ n. P (replicate count value) n) (length-replicate {A = ℕ} count value)
    (subst (λ xs. P xs (length xs)) (take-replicate count 512 value room) p)

-- ---- at a told chip

each_same : (size : Size) (address value count : ℕ) (s : Site) (n : ℕ) (t : Site) → n ≤ count
    → BusStoredValues size address (replicate count value) s n t → BusStoredEach size address value s n t
each_same size address value count s _ t within BusStoredValues.nothing = BusStoredEach.nothing
each_same size address value count s _ t within (BusStoredValues.further n m _ each one) =
    BusStoredEach.further n m t (each_same size address value count s n m (omega (arith, within)) each)
    (subst (λ v. BusStoredOne size (element_at size address n) v m t) (same_at count value n (omega (arith, within))) one)

pub stored_same : (size : Size) (address value count : ℕ) (old new : Option Far)
    → WhereTold (BusValuesStoredAt size address (replicate count value) count) old new → WhereTold (BusBlockStoredAt size address value count) old new
stored_same size address value count None new r = r
stored_same size address value count (Some f) new r =
    record { far = r.far; is = r.is; each = each_same size address value count _ count _ (omega arith) r.each }

refused_same : (size : Size) (address value count done : ℕ) (old new : Option Far) → done < count
    → WhereTold (BusValueStoreRefused size address (replicate count value) done) old new → WhereTold (BusBlockStoreRefused size address value done) old new
refused_same size address value count done None new below r = r
refused_same size address value count done (Some f) new below r = record {
  far = r.far;
  is = r.is;
  mid = r.mid;
  each = each_same size address value count _ done _ (omega (arith, below)) r.each;
  refused = r.refused;
}

pub left_same : (size : Size) (address value count : ℕ) (old new : Option Far) (e : AccessFault)
    → BusValuesStoreLeft size address (replicate count value) count old new e → BusBlockStoreLeft size address count value old new e
left_same size address value count old new (access_fault.Dmi why) r = tt
left_same size address value count old new (access_fault.Memory at) r = (r.0, r.1, r.2, refused_same size address value count r.0 old new r.1 r.3)
left_same size address value count old new (access_fault.Register number) r = r
left_same size address value count old new access_fault.StillBusy r = tt
left_same size address value count old new (access_fault.Run why) r = r
left_same size address value count old new (access_fault.Odd shown) r = r

cut_site : (size : Size) (address value count : ℕ) (s t : Site) → BusValuesStoreCut size address (replicate count value) count s t
    → BusBlockStoreCut size address value count s t
cut_site size address value count s t r = record {
  done = r.done;
  below = r.below;
  mid = r.mid;
  each = let below : r.done < count = r.below in each_same size address value count s r.done r.mid (omega (arith, below)) r.each;
  left = subst (λ v. BusLeftOff (StoreLeaves size (element_at size address r.done) v) r.mid t) (same_at count value r.done r.below) r.left;
}

cut_leaves : (size : Size) (address value count : ℕ) (old new : Option Far)
    → Leaves (BusValuesStoreCut size address (replicate count value) count) old new → Leaves (BusBlockStoreCut size address value count) old new
cut_leaves size address value count None new r = tt
cut_leaves size address value count (Some f) new r = record { far = r.far; is = r.is; left = cut_site size address value count _ _ r.left }

pub cut_same : (size : Size) (address value count : ℕ) (old new : Option Far) (e : AccessFault)
    → IfCut (Leaves (BusValuesStoreCut size address (replicate count value) count) old new) e
    → IfCut (Leaves (BusBlockStoreCut size address value count) old new) e
cut_same size address value count old new e r =
    if_cut (Leaves (BusValuesStoreCut size address (replicate count value) count) old new) (Leaves (BusBlockStoreCut size address value count) old new) e
    (cut_leaves size address value count old new) r

-- ---- its words: one each

one_word : (count value n : ℕ) → n < count → length (element_puts (upper_at (replicate count value) n) (value_at (replicate count value) n)) ≡ 1
one_word count value n below =
    let here : value_at (replicate count value) n ≡ value = same_at count value n below in
    let front : value_at (replicate count value) (n - 1) ≡ value = same_at count value (n - 1) (omega (arith, below)) in
    ap (λ v. length (element_puts (upper_at (replicate count value) n) v)) here
    ∙ ap (λ v. length (element_puts (high_half v) value)) front
    ∙ ap (λ b. length (puts_where b value)) (eq-eqb (high_half value) (high_half value) refl)

same_words_up_to : (count value n : ℕ) → n ≤ count → words_from (replicate count value) 0 n ≡ n
same_words_up_to count value zero within = refl
same_words_up_to count value (suc n) within =
    let values : List ℕ = replicate count value in
    let e : words_from values 0 (n + 1) ≡ words_from values 0 n + words_from values n ((n + 1) - n) = words_front values n (n + 1) (omega arith) in
    let one : words_from values n ((n + 1) - n) ≡ words_from values n (n - n) + length (element_puts (upper_at values n) (value_at values n)) =
    words_next values n n (omega arith) in
    let k : n + 1 ≡ suc n = omega arith in
    subst (λ i. words_from values 0 i ≡ i) k
    (omega (arith, e, one, words_none values n, one_word count value n (omega (arith, within)), same_words_up_to count value n (omega (arith, within))))

pub same_words : (count value : ℕ) → data_words (replicate count value) ≡ count
same_words count value =
    ap (λ n. words_from (replicate count value) 0 n) (length-replicate {A = ℕ} count value) ∙ same_words_up_to count value count (omega arith)
