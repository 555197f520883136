-- A run of loads by the system bus behind elements that were loaded before it.
use Rattle.std.proofs.lemmas.Option.{none-some}
use Rattle.std.proofs.Common.{◌≡◌, ◌∙◌, ◌≤◌, ◌<◌, ◌+◌, ◌-◌, ◌++◌, ◌∷◌, ℕ, List, [], length, Option, Some, None, refl, sym, ap, subst, append_assoc, append-nil, length-append, arith}
use Rattle.rv_model.specs.declared.size.Size.{Size}
use Rattle.rv_model.specs.declared.size.Size.TheVariants.{B1, B2, B4, B8}
use Rattle.debug_model.specs.Module.{Site}
use Rattle.debug_model.specs.Scan.{WhereTold}
use Rattle.debug_model.specs.Told.{Far, site_of}
use Rattle.probe_access.specs.declared.fault.AccessFault.{AccessFault}
use Rattle.probe_access.specs.declared.fault.AccessFault.TheVariants as access_fault
use Rattle.probe_run.specs.Acts.{Tells}
use Rattle.probe_access.specs.Accesses.{IfMemory}
use Rattle.probe_access.specs.Blocks.{element_at}
use Rattle.probe_access.specs.BusBlockRuns.{BusLoads, BusLoadsRefused, RunRefused}
use Rattle.probe_access.specs.BusBlocks.{BusBlockLoadCut, BusBlockLoadLeft, BusBlockLoadRefused, BusBlockLoadedAt, BusLoadedEach, BusLoadedOne, BusNotLoadedOne}
use Rattle.probe_access.specs.BusBlocks.BusLoadedEach.{nothing as none_loaded, further as loaded_further}
use Rattle.probe_access.specs.BusStreams.{RunLoads}
use Rattle.probe_access.specs.Cuts.{IfCut, IsLeft, Leaves}
use Rattle.probe_access.proofs.CutSites.{if_cut}

-- ---- the addresses

element_shift : (size : Size) (address m n : ℕ) → element_at size (element_at size address m) n ≡ element_at size address (m + n)
element_shift B1 a m n = omega arith
element_shift B2 a m n = omega arith
element_shift B4 a m n = omega arith
element_shift B8 a m n = omega arith

behind_place : (size : Size) (address : ℕ) (xs ys : List ℕ)
    → element_at size (element_at size address (length xs)) (length ys) ≡ element_at size address (length (xs ++ ys))
behind_place size address xs ys =
    element_shift size address (length xs) (length ys) ∙ ap (element_at size address) (sym (length-append xs ys))

-- ---- what was loaded

each_behind : (size : Size) (address : ℕ) (s : Site) (xs : List ℕ) (m : Site) → BusLoadedEach size address s xs m → (ys : List ℕ) (t : Site)
    → BusLoadedEach size (element_at size address (length xs)) m ys t → BusLoadedEach size address s (xs ++ ys) t
each_behind size address s xs m before _ _ none_loaded = subst (λ zs. BusLoadedEach size address s zs m) (sym (append-nil xs)) before
each_behind size address s xs m before _ t (loaded_further values value k _ more one) =
    subst (λ zs. BusLoadedEach size address s zs t) (append_assoc xs values (value ∷ []))
    (loaded_further (xs ++ values) value k t (each_behind size address s xs m before values k more)
    (subst (λ a. BusLoadedOne size a value k t) (behind_place size address xs values) one))

told_behind : (size : Size) (address : ℕ) (xs ys : List ℕ) (far mid new : Option Far) → WhereTold (BusBlockLoadedAt size address xs) far mid
    → WhereTold (BusBlockLoadedAt size (element_at size address (length xs)) ys) mid new → WhereTold (BusBlockLoadedAt size address (xs ++ ys)) far new
told_behind size address xs ys None mid new before more =
    subst (λ (m : Option Far). WhereTold (BusBlockLoadedAt size (element_at size address (length xs)) ys) m new) before more
told_behind size address xs ys (Some f) mid new before more =
    let l : BusBlockLoadedAt size (element_at size address (length xs)) ys before.far.live.chip new =
    subst (λ (m : Option Far). WhereTold (BusBlockLoadedAt size (element_at size address (length xs)) ys) m new) before.is more in
    record { far = l.far; is = l.is; each = each_behind size address (site_of f) xs (site_of before.far) before.each ys (site_of l.far) l.each }

pub loaded_behind : (size : Size) (address at : ℕ) (xs ys kept : List ℕ) (far mid new : Option Far) → at ≡ element_at size address (length xs)
    → kept ≡ xs ++ ys → WhereTold (BusBlockLoadedAt size address xs) far mid → WhereTold (BusBlockLoadedAt size at ys) mid new
    → WhereTold (BusBlockLoadedAt size address kept) far new
loaded_behind size address at xs ys kept far mid new is joins before more =
    subst (λ zs. WhereTold (BusBlockLoadedAt size address zs) far new) (sym joins)
    (told_behind size address xs ys far mid new before (subst (λ a. WhereTold (BusBlockLoadedAt size a ys) mid new) is more))

pub loads_behind : (size : Size) (address at first count : ℕ) (xs ys kept : List ℕ) (old mid new : Tells) → at ≡ element_at size address (length xs)
    → kept ≡ xs ++ ys → RunLoads size address first xs old mid → RunLoads size at count ys mid new → BusLoads size address old kept new
loads_behind size address at first count xs ys kept old mid new is joins before more =
    subst (λ zs. BusLoads size address old zs new) (sym joins)
    (BusLoads.ran_behind count xs ys mid new (BusLoads.ran first xs mid before) (subst (λ a. RunLoads size a count ys mid new) is more))

-- ---- where memory refused one

stops_behind : (size : Size) (address : ℕ) (xs ys : List ℕ) (far mid new : Option Far) → WhereTold (BusBlockLoadedAt size address xs) far mid
    → WhereTold (BusBlockLoadRefused size (element_at size address (length xs)) ys) mid new
    → WhereTold (BusBlockLoadRefused size address (xs ++ ys)) far new
stops_behind size address xs ys None mid new before more =
    subst (λ (m : Option Far). WhereTold (BusBlockLoadRefused size (element_at size address (length xs)) ys) m new) before more
stops_behind size address xs ys (Some f) mid new before more =
    let l : BusBlockLoadRefused size (element_at size address (length xs)) ys before.far.live.chip new =
    subst (λ (m : Option Far). WhereTold (BusBlockLoadRefused size (element_at size address (length xs)) ys) m new) before.is more in
    record {
      far = l.far;
      is = l.is;
      mid = l.mid;
      each = each_behind size address (site_of f) xs (site_of before.far) before.each ys l.mid l.each;
      refused = subst (λ a. BusNotLoadedOne size a l.mid (site_of l.far)) (behind_place size address xs ys) l.refused;
    }

bus_loaded_none : (size : Size) (address : ℕ) (values : List ℕ) (old mid : Option Far) → WhereTold (BusBlockLoadedAt size address values) old mid → mid ≡ None
    → old ≡ None
bus_loaded_none size address values None mid before none = refl
bus_loaded_none size address values (Some f) mid before none = absurd (none-some before.far (sym none ∙ before.is))

left_by : (size : Size) (address count : ℕ) (xs ys kept : List ℕ) (far mid new : Option Far) (e : AccessFault) → length xs ≤ count → count ≤ 512
    → (length xs + length ys ≤ 512 → kept ≡ xs ++ ys) → WhereTold (BusBlockLoadedAt size address xs) far mid
    → BusBlockLoadLeft size (element_at size address (length xs)) (count - length xs) ys mid new e → BusBlockLoadLeft size address count kept far new e
left_by size address count xs ys kept far mid new (access_fault.Dmi why) within few joins before f = tt
left_by size address count xs ys kept far mid new (access_fault.Memory at) within few joins before f =
    let below : length ys < count - length xs = f.0 in
    let long : length (xs ++ ys) ≡ length xs + length ys = length-append xs ys in
    subst (λ zs. BusBlockLoadLeft size address count zs far new (access_fault.Memory at)) (sym (joins (omega (arith, within, few, below)))) (
      omega (arith, within, below, long),
      f.1 ∙ behind_place size address xs ys,
      stops_behind size address xs ys far mid new before f.2,
    )
left_by size address count xs ys kept far mid new (access_fault.Register number) within few joins before f = bus_loaded_none size address xs far mid before f
left_by size address count xs ys kept far mid new access_fault.StillBusy within few joins before f = tt
left_by size address count xs ys kept far mid new (access_fault.Run why) within few joins before f = f
left_by size address count xs ys kept far mid new (access_fault.Odd shown) within few joins before f = bus_loaded_none size address xs far mid before f

pub left_behind : (size : Size) (address at count rest : ℕ) (xs ys kept : List ℕ) (far mid new : Option Far) (e : AccessFault)
    → at ≡ element_at size address (length xs) → rest ≡ count - length xs → length xs ≤ count → count ≤ 512
    → (length xs + length ys ≤ 512 → kept ≡ xs ++ ys) → WhereTold (BusBlockLoadedAt size address xs) far mid
    → BusBlockLoadLeft size at rest ys mid new e → BusBlockLoadLeft size address count kept far new e
left_behind size address at count rest xs ys kept far mid new e is fewer within few joins before f =
    left_by size address count xs ys kept far mid new e within few joins before
    (subst (λ n. BusBlockLoadLeft size (element_at size address (length xs)) n ys mid new e) fewer
    (subst (λ a. BusBlockLoadLeft size a rest ys mid new e) is f))

pub refused_behind : (size : Size) (address at first count rest : ℕ) (xs ys kept : List ℕ) (old mid new : Tells) (mid_far new_far : Option Far)
    (e : AccessFault) → at ≡ element_at size address (length xs) → rest ≡ count - length xs → length xs ≤ count → count ≤ 512
    → (length xs + length ys ≤ 512 → kept ≡ xs ++ ys) → RunLoads size address first xs old mid → BusBlockLoadLeft size at rest ys mid_far new_far e
    → IfMemory (RunRefused size at ys mid new) e → IfMemory (BusLoadsRefused size address kept old new) e
refused_behind size address at first count rest xs ys kept old mid new mid_far new_far (access_fault.Dmi why) is fewer within few joins before left f = tt
refused_behind size address at first count rest xs ys kept old mid new mid_far new_far (access_fault.Memory place) is fewer within few joins before left f =
    let below : length ys < rest = left.0 in
    BusLoadsRefused.in_run_behind xs ys mid (joins (omega (arith, fewer, within, few, below))) (BusLoads.ran first xs mid before)
    (subst (λ a. RunRefused size a ys mid new) is f)
refused_behind size address at first count rest xs ys kept old mid new mid_far new_far (access_fault.Register number) is fewer within few joins before
    left f = tt
refused_behind size address at first count rest xs ys kept old mid new mid_far new_far access_fault.StillBusy is fewer within few joins before left f = tt
refused_behind size address at first count rest xs ys kept old mid new mid_far new_far (access_fault.Run why) is fewer within few joins before left f = tt
refused_behind size address at first count rest xs ys kept old mid new mid_far new_far (access_fault.Odd shown) is fewer within few joins before left f =
    tt

-- ---- where it broke off

cut_more : (size : Size) (address count rest : ℕ) (xs ys kept : List ℕ) (s m t : Site) → rest ≡ count - length xs → length xs ≤ count → count ≤ 512
    → (length xs + length ys ≤ 512 → kept ≡ xs ++ ys) → BusLoadedEach size address s xs m
    → BusBlockLoadCut size (element_at size address (length xs)) rest ys m t → BusBlockLoadCut size address count kept s t
cut_more size address count rest xs ys kept s m t fewer within few joins before c =
    let below : length (ys ++ c.more) < rest = c.below in
    let long : length (ys ++ c.more) ≡ length ys + length c.more = length-append ys c.more in
    let all : length (xs ++ (ys ++ c.more)) ≡ length xs + length (ys ++ c.more) = length-append xs (ys ++ c.more) in
    let there : xs ++ (ys ++ c.more) ≡ kept ++ c.more =
    sym (append_assoc xs ys c.more) ∙ ap (λ zs. zs ++ c.more) (sym (joins (omega (arith, fewer, within, few, below, long)))) in
    record {
      more = c.more;
      below = subst (λ zs. length zs < count) there (omega (arith, fewer, within, below, all));
      mid = c.mid;
      each = subst (λ zs. BusLoadedEach size address s zs c.mid) there (each_behind size address s xs m before (ys ++ c.more) c.mid c.each);
      left = c.left;
    }

cut_told : (size : Size) (address count rest : ℕ) (xs ys kept : List ℕ) (far mid new : Option Far) → rest ≡ count - length xs → length xs ≤ count
    → count ≤ 512 → (length xs + length ys ≤ 512 → kept ≡ xs ++ ys) → WhereTold (BusBlockLoadedAt size address xs) far mid
    → Leaves (BusBlockLoadCut size (element_at size address (length xs)) rest ys) mid new → Leaves (BusBlockLoadCut size address count kept) far new
cut_told size address count rest xs ys kept None mid new fewer within few joins before left = tt
cut_told size address count rest xs ys kept (Some f) mid new fewer within few joins before left =
    let l : IsLeft (BusBlockLoadCut size (element_at size address (length xs)) rest ys) before.far.live.chip new =
    subst (λ (m : Option Far). Leaves (BusBlockLoadCut size (element_at size address (length xs)) rest ys) m new) before.is left in
    record {
      far = l.far;
      is = l.is;
      left = cut_more size address count rest xs ys kept (site_of f) (site_of before.far) (site_of l.far) fewer within few joins before.each l.left;
    }

pub cut_behind : (size : Size) (address at count rest : ℕ) (xs ys kept : List ℕ) (far mid new : Option Far) (e : AccessFault)
    → at ≡ element_at size address (length xs) → rest ≡ count - length xs → length xs ≤ count → count ≤ 512
    → (length xs + length ys ≤ 512 → kept ≡ xs ++ ys) → WhereTold (BusBlockLoadedAt size address xs) far mid
    → IfCut (Leaves (BusBlockLoadCut size at rest ys) mid new) e → IfCut (Leaves (BusBlockLoadCut size address count kept) far new) e
cut_behind size address at count rest xs ys kept far mid new e is fewer within few joins before f =
    if_cut (Leaves (BusBlockLoadCut size (element_at size address (length xs)) rest ys) mid new)
    (Leaves (BusBlockLoadCut size address count kept) far new) e (cut_told size address count rest xs ys kept far mid new fewer within few joins before)
    (subst (λ a. IfCut (Leaves (BusBlockLoadCut size a rest ys) mid new) e) is f)

-- of a run of some of a block's elements
cut_wider : (size : Size) (address first count : ℕ) (values : List ℕ) (far new : Option Far) → first ≤ count
    → Leaves (BusBlockLoadCut size address first values) far new → Leaves (BusBlockLoadCut size address count values) far new
cut_wider size address first count values None new within l = tt
cut_wider size address first count values (Some f) new within l = record {
  far = l.far;
  is = l.is;
  left = record {
    more = l.left.more;
    below = let b : length (values ++ l.left.more) < first = l.left.below in omega (arith, b, within);
    mid = l.left.mid;
    each = l.left.each;
    left = l.left.left;
  };
}

pub cut_of_more : (size : Size) (address first count : ℕ) (values : List ℕ) (far new : Option Far) (e : AccessFault) → first ≤ count
    → IfCut (Leaves (BusBlockLoadCut size address first values) far new) e → IfCut (Leaves (BusBlockLoadCut size address count values) far new) e
cut_of_more size address first count values far new e within f =
    if_cut (Leaves (BusBlockLoadCut size address first values) far new) (Leaves (BusBlockLoadCut size address count values) far new) e
    (cut_wider size address first count values far new within) f
