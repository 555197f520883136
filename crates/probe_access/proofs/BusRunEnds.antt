-- The start and the end of a run of loads by the system bus, each of which is several operations in one call.
use Rattle.std.proofs.Common.{◌≡◌, ◌∙◌, ◌≤◌, ◌<◌, ◌+◌, ◌^◌, ◌++◌, ℕ, List, [], ◌∷◌, length, slice_index_or, All, Option, true, false, refl, sym, ap, subst, arith}
use Rattle.std.proofs.lemmas.List.Elements.{All-cons}
use Rattle.rv_model.specs.declared.size.Size.{Size}
use Rattle.rv_model.specs.declared.size.Size.TheVariants.{B1, B2, B4, B8}
use Rattle.debug_model.specs.Addresses.{sbaddress0_address, sbaddress1_address, sbcs_address, sbdata0_address, sbdata1_address}
use Rattle.debug_model.specs.Commands.{high_half, low_half}
use Rattle.debug_model.specs.declared.dmi.DmiFault.{DmiFault}
use Rattle.debug_model.specs.declared.dmi_op.DmiOp.{DmiOp}
use Rattle.debug_model.specs.declared.dmi_op.DmiOp.TheVariants.{Read, Write}
use Rattle.debug_model.specs.Dmi.{IsOperation, value_of}
use Rattle.debug_model.specs.Many.{AnswersAll, ManyCause, OperatedAll, OperationsCut}
use Rattle.debug_model.specs.Scan.{WhereTold}
use Rattle.debug_model.specs.Told.{Far}
use Rattle.probe_run.specs.Acts.{Act, Attempt, Did, Tells, acts_of, op_act}
use Rattle.probe_run.specs.Acts.Act.{Got, Put}
use Rattle.probe_run.specs.Acts.Attempt.{Operation}
use Rattle.probe_run.proofs.ActLemmas.{did_list}
use Rattle.probe_access.specs.BusRuns.{Starting, bus_poll, cut_to}
use Rattle.probe_access.specs.BusRuns.Starting.{next}
use Rattle.probe_access.specs.BusStreams.{DataReads, ElementsRead, EndRead, Ending, IsNarrow, ReadingData, run_started, running}
use Rattle.probe_access.specs.BusStreams.ElementsRead.{none as none_read, narrow, double}
use Rattle.probe_access.specs.Faults.{Among, BrokeIn}
use Rattle.probe_access.specs.RegisterAccess.{joined}
use Rattle.probe_access.proofs.BusStreamCalls.{some_broke, some_did}
use Rattle.probe_access.proofs.RegisterCalls.{BegunEach}

three_acts : (a b c : DmiOp) (results : List ℕ) (z : ℕ) → length results ≡ 3
    → acts_of (a ∷ b ∷ c ∷ []) results
    ≡ op_act a (slice_index_or results 0 z) ∷ op_act b (slice_index_or results 1 z) ∷ op_act c (slice_index_or results 2 z) ∷ []
three_acts a b c [] z all = absurd (omega (arith, all))
three_acts a b c (p ∷ []) z all = absurd (omega (arith, all))
three_acts a b c (p ∷ q ∷ []) z all = absurd (omega (arith, all))
three_acts a b c (p ∷ q ∷ r ∷ []) z all = refl
three_acts a b c (p ∷ q ∷ r ∷ s ∷ xs) z all = absurd (omega (arith, all))

four_acts : (a b c d : DmiOp) (results : List ℕ) (z : ℕ) → length results ≡ 4
    → acts_of (a ∷ b ∷ c ∷ d ∷ []) results
    ≡ op_act a (slice_index_or results 0 z)
    ∷ op_act b (slice_index_or results 1 z)
    ∷ op_act c (slice_index_or results 2 z)
    ∷ op_act d (slice_index_or results 3 z)
    ∷ []
four_acts a b c d [] z all = absurd (omega (arith, all))
four_acts a b c d (p ∷ []) z all = absurd (omega (arith, all))
four_acts a b c d (p ∷ q ∷ []) z all = absurd (omega (arith, all))
four_acts a b c d (p ∷ q ∷ r ∷ []) z all = absurd (omega (arith, all))
four_acts a b c d (p ∷ q ∷ r ∷ s ∷ []) z all = refl
four_acts a b c d (p ∷ q ∷ r ∷ s ∷ t ∷ xs) z all = absurd (omega (arith, all))

-- ---- the start

abbrev pub start_ops : ℕ → ℕ → ℕ → List DmiOp
start_ops word high low = Write sbcs_address word ∷ Write sbaddress1_address high ∷ Write sbaddress0_address low ∷ []

start_small : (word high low : ℕ) → word < 2 ^ 32 → high < 2 ^ 32 → low < 2 ^ 32 → All IsOperation (start_ops word high low)
start_small word high low w h l =
    All-cons IsOperation (Write sbcs_address word) (Write sbaddress1_address high ∷ Write sbaddress0_address low ∷ []) (omega arith, w)
    (All-cons IsOperation (Write sbaddress1_address high) (Write sbaddress0_address low ∷ []) (omega arith, h)
    (All-cons IsOperation (Write sbaddress0_address low) [] (omega arith, l) (λ k d h. absurd (omega arith))))

pub start_did : (size : Size) (address word high low : ℕ) (results : List ℕ) (old new : Tells) → word ≡ running true size → high ≡ high_half address
    → low ≡ low_half address → word < 2 ^ 32 → high < 2 ^ 32 → low < 2 ^ 32 → length results ≡ 3
    → WhereTold (OperatedAll (start_ops word high low) results) old.far new.far → AnswersAll (start_ops word high low) results old.coming new.coming
    → Did old (run_started size address) new
start_did size address word high low results old new is up down w h l three told heard =
    did_list (acts_of (start_ops word high low) results) (run_started size address) old new
    (three_acts (Write sbcs_address word) (Write sbaddress1_address high) (Write sbaddress0_address low) results 0 three
    ∙ ap (λ n. Put sbcs_address n ∷ Put sbaddress1_address high ∷ Put sbaddress0_address low ∷ []) is
    ∙ ap (λ n. Put sbcs_address (running true size) ∷ Put sbaddress1_address n ∷ Put sbaddress0_address low ∷ []) up
    ∙ ap (λ n. Put sbcs_address (running true size) ∷ Put sbaddress1_address (high_half address) ∷ Put sbaddress0_address n ∷ []) down)
    (some_did (start_ops word high low) results old new (omega arith) (start_small word high low w h l) told heard)

start_each : (word high low : ℕ)
    → BegunEach (Starting (Put sbcs_address word ∷ Put sbaddress1_address high ∷ Put sbaddress0_address low ∷ [])) [] (start_ops word high low)
start_each word high low = (
  next [] (Put sbaddress1_address high ∷ Put sbaddress0_address low ∷ []) sbcs_address word refl,
  λ u. (
    next (Put sbcs_address word ∷ []) (Put sbaddress0_address low ∷ []) sbaddress1_address high refl,
    λ v. (next (Put sbcs_address word ∷ Put sbaddress1_address high ∷ []) [] sbaddress0_address low refl, λ w. tt),
  ),
)

pub start_broke : (size : Size) (address word high low old_count new_count : ℕ) (old : Tells) (told : Option Far) (why : DmiFault)
    → word ≡ running true size → high ≡ high_half address → low ≡ low_half address → WhereTold (OperationsCut (start_ops word high low)) old.far told
    → ManyCause 3 old_count new_count old.far told old.coming why
    → BrokeIn (Among (Starting (run_started size address))) old_count new_count old told why
start_broke size address word high low old_count new_count old told why is up down cut cause =
    subst (λ xs. BrokeIn (Among (Starting xs)) old_count new_count old told why)
    (ap (λ n. Put sbcs_address n ∷ Put sbaddress1_address high ∷ Put sbaddress0_address low ∷ []) is
    ∙ ap (λ n. Put sbcs_address (running true size) ∷ Put sbaddress1_address n ∷ Put sbaddress0_address low ∷ []) up
    ∙ ap (λ n. Put sbcs_address (running true size) ∷ Put sbaddress1_address (high_half address) ∷ Put sbaddress0_address n ∷ []) down)
    (some_broke (Starting (Put sbcs_address word ∷ Put sbaddress1_address high ∷ Put sbaddress0_address low ∷ [])) (start_ops word high low) old_count
    new_count old told why (omega arith) (start_each word high low) cut cause)

-- ---- the end, of elements of at most 4 bytes

abbrev pub narrow_ops : ℕ → List DmiOp
narrow_ops word = Write sbcs_address word ∷ Read sbdata0_address ∷ Read sbcs_address ∷ []

narrow_small : (word : ℕ) → word < 2 ^ 32 → All IsOperation (narrow_ops word)
narrow_small word w =
    All-cons IsOperation (Write sbcs_address word) (Read sbdata0_address ∷ Read sbcs_address ∷ []) (omega arith, w)
    (All-cons IsOperation (Read sbdata0_address) (Read sbcs_address ∷ []) (omega arith)
    (All-cons IsOperation (Read sbcs_address) [] (omega arith) (λ k d h. absurd (omega arith))))

pub narrow_end : (size : Size) (word value shown : ℕ) (results was is : List ℕ) (old new : Tells) → IsNarrow size → word ≡ running false size
    → word < 2 ^ 32 → length results ≡ 3 → value ≡ cut_to size (slice_index_or results 1 0) → shown ≡ slice_index_or results 2 0
    → is ≡ was ++ value ∷ [] → WhereTold (OperatedAll (narrow_ops word) results) old.far new.far
    → AnswersAll (narrow_ops word) results old.coming new.coming → EndRead size was is shown old new
narrow_end size word value shown results was is old new thin is_word w three value_is shown_is joins told heard = record {
  values = cut_to size (slice_index_or results 1 0) ∷ [];
  joins = joins ∙ ap (λ n. was ++ n ∷ []) value_is;
  count = refl;
  acts = Got sbdata0_address (slice_index_or results 1 0) ∷ [];
  read = narrow (slice_index_or results 1 0) [] [] thin none_read;
  did = did_list (acts_of (narrow_ops word) results)
      (Put sbcs_address (running false size) ∷ Got sbdata0_address (slice_index_or results 1 0) ∷ bus_poll shown ∷ []) old new
      (three_acts (Write sbcs_address word) (Read sbdata0_address) (Read sbcs_address) results 0 three
      ∙ ap (λ n. Put sbcs_address n ∷ Got sbdata0_address (slice_index_or results 1 0) ∷ bus_poll (slice_index_or results 2 0) ∷ []) is_word
      ∙ ap (λ n. Put sbcs_address (running false size) ∷ Got sbdata0_address (slice_index_or results 1 0) ∷ bus_poll n ∷ []) (sym shown_is))
      (some_did (narrow_ops word) results old new (omega arith) (narrow_small word w) told heard);
}

narrow_each : (size : Size) → IsNarrow size → BegunEach (Ending size) [] (narrow_ops (running false size))
narrow_each size thin = (
  Ending.stops,
  λ u. (
    Ending.reads [] (Read sbdata0_address) (ReadingData.lower 0 [] DataReads.none (omega arith)),
    λ v. (
      Ending.looks (cut_to size (value_of v) ∷ []) (Got sbdata0_address (value_of v) ∷ []) refl (narrow (value_of v) [] [] thin none_read),
      λ w. tt,
    ),
  ),
)

pub narrow_broke : (size : Size) (word old_count new_count : ℕ) (old : Tells) (told : Option Far) (why : DmiFault) → IsNarrow size
    → word ≡ running false size → WhereTold (OperationsCut (narrow_ops word)) old.far told → ManyCause 3 old_count new_count old.far told old.coming why
    → BrokeIn (Among (Ending size)) old_count new_count old told why
narrow_broke size word old_count new_count old told why thin is cut cause =
    some_broke (Ending size) (narrow_ops (running false size)) old_count new_count old told why (omega arith) (narrow_each size thin)
    (subst (λ n. WhereTold (OperationsCut (narrow_ops n)) old.far told) is cut) cause

-- ---- of 8 bytes

abbrev pub double_ops : ℕ → List DmiOp
double_ops word = Write sbcs_address word ∷ Read sbdata1_address ∷ Read sbdata0_address ∷ Read sbcs_address ∷ []

double_small : (word : ℕ) → word < 2 ^ 32 → All IsOperation (double_ops word)
double_small word w =
    All-cons IsOperation (Write sbcs_address word) (Read sbdata1_address ∷ Read sbdata0_address ∷ Read sbcs_address ∷ []) (omega arith, w)
    (All-cons IsOperation (Read sbdata1_address) (Read sbdata0_address ∷ Read sbcs_address ∷ []) (omega arith)
    (All-cons IsOperation (Read sbdata0_address) (Read sbcs_address ∷ []) (omega arith)
    (All-cons IsOperation (Read sbcs_address) [] (omega arith) (λ k d h. absurd (omega arith)))))

pub double_end : (word value shown : ℕ) (results was is : List ℕ) (old new : Tells) → word ≡ running false B8 → word < 2 ^ 32 → length results ≡ 4
    → value ≡ joined (slice_index_or results 2 0) (slice_index_or results 1 0) → shown ≡ slice_index_or results 3 0
    → is ≡ was ++ value ∷ [] → WhereTold (OperatedAll (double_ops word) results) old.far new.far
    → AnswersAll (double_ops word) results old.coming new.coming → EndRead B8 was is shown old new
double_end word value shown results was is old new is_word w four value_is shown_is joins told heard = record {
  values = joined (slice_index_or results 2 0) (slice_index_or results 1 0) ∷ [];
  joins = joins ∙ ap (λ n. was ++ n ∷ []) value_is;
  count = refl;
  acts = Got sbdata1_address (slice_index_or results 1 0) ∷ Got sbdata0_address (slice_index_or results 2 0) ∷ [];
  read = double (slice_index_or results 2 0) (slice_index_or results 1 0) [] [] refl none_read;
  did = did_list (acts_of (double_ops word) results)
      (Put sbcs_address (running false B8)
      ∷ Got sbdata1_address (slice_index_or results 1 0)
      ∷ Got sbdata0_address (slice_index_or results 2 0)
      ∷ bus_poll shown
      ∷ []) old new
      (four_acts (Write sbcs_address word) (Read sbdata1_address) (Read sbdata0_address) (Read sbcs_address) results 0 four
      ∙ ap (λ n. Put sbcs_address n ∷ Got sbdata1_address (slice_index_or results 1 0) ∷ Got sbdata0_address (slice_index_or results 2 0)
      ∷ bus_poll (slice_index_or results 3 0) ∷ []) is_word
      ∙ ap (λ n. Put sbcs_address (running false B8) ∷ Got sbdata1_address (slice_index_or results 1 0) ∷ Got sbdata0_address (slice_index_or results 2 0)
      ∷ bus_poll n ∷ []) (sym shown_is))
      (some_did (double_ops word) results old new (omega arith) (double_small word w) told heard);
}

double_each : BegunEach (Ending B8) [] (double_ops (running false B8))
double_each = (
  Ending.stops,
  λ u. (
    Ending.reads [] (Read sbdata1_address) (ReadingData.upper 0 [] DataReads.none (omega arith)),
    λ v. (
      Ending.reads (Got sbdata1_address (value_of v) ∷ []) (Read sbdata0_address)
          (ReadingData.lower 0 (Got sbdata1_address (value_of v) ∷ []) (DataReads.upper 0 (value_of v) [] DataReads.none) (omega arith)),
      λ w. (
        Ending.looks (joined (value_of w) (value_of v) ∷ []) (Got sbdata1_address (value_of v) ∷ Got sbdata0_address (value_of w) ∷ []) refl
            (double (value_of w) (value_of v) [] [] refl none_read),
        λ x. tt,
      ),
    ),
  ),
)

pub double_broke : (word old_count new_count : ℕ) (old : Tells) (told : Option Far) (why : DmiFault) → word ≡ running false B8
    → WhereTold (OperationsCut (double_ops word)) old.far told → ManyCause 4 old_count new_count old.far told old.coming why
    → BrokeIn (Among (Ending B8)) old_count new_count old told why
double_broke word old_count new_count old told why is cut cause =
    some_broke (Ending B8) (double_ops (running false B8)) old_count new_count old told why (omega arith) double_each
    (subst (λ n. WhereTold (OperationsCut (double_ops n)) old.far told) is cut) cause
