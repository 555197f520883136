-- The calls of an access by the system bus, put together out of single calls.
use Rattle.std.proofs.Common.{
  ◌≡◌,
  ◌∙◌,
  ◌≤◌,
  ◌<◌,
  ◌+◌,
  ◌++◌,
  ℕ,
  List,
  [],
  ◌∷◌,
  length,
  map,
  All,
  Option,
  refl,
  sym,
  ap,
  length-append,
  append-nil,
  append_assoc,
  arith,
  true,
  false,
}
use Rattle.std.proofs.lemmas.List.{map-append}
use Rattle.std.proofs.lemmas.List.Elements.{All-push}
use Rattle.debug_model.specs.Addresses.{sbcs_address}
use Rattle.debug_model.specs.declared.dmi.DmiFault.{DmiFault}
use Rattle.debug_model.specs.declared.dmi_op.DmiOp.TheVariants.{Read, Write}
use Rattle.debug_model.specs.Dmi.{DmiCause, OperationCut}
use Rattle.debug_model.specs.Scan.{WhereTold}
use Rattle.debug_model.specs.Told.{Far}
use Rattle.probe_access.specs.declared.fault.AccessFault.{AccessFault}
use Rattle.probe_access.specs.declared.fault.AccessFault.TheVariants as access_fault
use Rattle.probe_run.specs.Acts.{Act, Attempt, Did, Tells}
use Rattle.probe_run.specs.Acts.Act.{Put}
use Rattle.probe_run.specs.Acts.Attempt.{Operation}
use Rattle.probe_run.specs.Acts.Did.{nothing}
use Rattle.probe_access.specs.BusRuns.{
  BusAlwaysBusy,
  BusEndFailed,
  BusEnding,
  BusPollBegun,
  BusPollFailed,
  BusPolled,
  ShowsAccess,
  Starting,
  bus_busy,
  bus_error,
  bus_poll,
  outside_error,
}
use Rattle.probe_access.specs.BusRuns.BusEnding.{at_poll, at_clear}
use Rattle.probe_access.specs.BusRuns.BusPollBegun.{polls}
use Rattle.probe_access.specs.BusRuns.Starting.{next}
use Rattle.probe_access.specs.Faults.{BrokeIn}
use Rattle.probe_run.specs.Opening.{clears_sberror}
use Rattle.probe_access.proofs.RegisterCalls.{broke_counted, word_broke}
use Rattle.probe_run.proofs.ActLemmas.{broke_list, broke_one, broke_then, did_list, did_then}

-- ---- polls

-- so many polls showed an access under way
pub record BusWaiting (n : ℕ) (old new : Tells) : Type 0 where
  pub words : List ℕ
  pub count : length words ≡ n
  pub busy : All ShowsAccess words
  pub did : Did old (map bus_poll words) new

pub waiting_none : (old : Tells) → BusWaiting 0 old old
waiting_none old = record { words = []; count = refl; busy = λ k d h. absurd (omega arith); did = nothing }

pub waiting_more : (n word : ℕ) (old mid new : Tells) → BusWaiting n old mid → Did mid (bus_poll word ∷ []) new → bus_busy word ≡ true
    → BusWaiting (n + 1) old new
waiting_more n word old mid new w did busy = record {
  words = w.words ++ word ∷ [];
  count = let c : length w.words ≡ n = w.count in omega (arith, length-append w.words (word ∷ []));
  busy = All-push ShowsAccess w.words word w.busy busy;
  did = did_list (map bus_poll w.words ++ bus_poll word ∷ []) (map bus_poll (w.words ++ word ∷ [])) old new (sym (map-append bus_poll w.words (word ∷ [])))
      (did_then (map bus_poll w.words) old mid w.did (bus_poll word ∷ []) new did);
}

pub waiting_ends : (n word : ℕ) (old mid new : Tells) → BusWaiting n old mid → n < 64 → Did mid (bus_poll word ∷ []) new → bus_busy word ≡ false
    → BusPolled word old new
waiting_ends n word old mid new w few did idle = record {
  words = w.words;
  vain = record { busy = w.busy; few = let c : length w.words ≡ n = w.count in omega arith };
  idle = idle;
  did = did_then (map bus_poll w.words) old mid w.did (bus_poll word ∷ []) new did;
}

pub waiting_always : (n : ℕ) (old new : Tells) → BusWaiting n old new → n ≡ 64 → BusAlwaysBusy old new
waiting_always n old new w all = record { words = w.words; busy = w.busy; all = w.count ∙ all; did = w.did }

pub poll_broke : (n count mid_count new_count : ℕ) (old mid : Tells) (told : Option Far) (why : DmiFault) → BusWaiting n old mid → n < 64 → count ≤ mid_count
    → mid_count ≤ new_count
    → WhereTold (OperationCut (Read sbcs_address)) mid.far told → DmiCause mid_count new_count mid.far told mid.coming why
    → BrokeIn BusPollBegun count new_count old told why
poll_broke n count mid_count new_count old mid told why w few le later cut cause = record {
  acts = map bus_poll w.words;
  failed = Operation (Read sbcs_address);
  begun = polls w.words (record { busy = w.busy; few = let c : length w.words ≡ n = w.count in omega arith });
  broke = broke_list (map bus_poll w.words ++ []) (map bus_poll w.words) (Operation (Read sbcs_address)) count new_count old told why
      (append-nil (map bus_poll w.words))
      (broke_then (map bus_poll w.words) old mid w.did [] (Operation (Read sbcs_address)) count mid_count new_count told why le later
      (broke_one (Operation (Read sbcs_address)) mid_count new_count mid told why cut cause));
}

-- ---- writes

pub begun_before : (xs ys front : List Act) (failed : Attempt) → Starting xs front failed → Starting (xs ++ ys) front failed
begun_before xs ys _ _ (next front rest address value is) =
    next front (rest ++ ys) address value (ap (λ zs. zs ++ ys) is ∙ append_assoc front (Put address value ∷ rest) ys)

-- one of the first of some writes failed
pub broke_before : (xs ys : List Act) (old_count new_count : ℕ) (old : Tells) (told : Option Far) (why : DmiFault)
    → BrokeIn (Starting xs) old_count new_count old told why → BrokeIn (Starting (xs ++ ys)) old_count new_count old told why
broke_before xs ys old_count new_count old told why b =
    record { acts = b.acts; failed = b.failed; begun = begun_before xs ys b.acts b.failed b.begun; broke = b.broke }

-- ---- the end

pub poll_end_failed : (address : ℕ) (e : AccessFault) (old_count new_count : ℕ) (old new : Tells) → BusPollFailed old_count new_count old new e
    → BusEndFailed address old_count new_count old new e
poll_end_failed address (access_fault.Dmi why) old_count new_count old new f = at_poll f
poll_end_failed address (access_fault.Memory at) old_count new_count old new f = absurd f
poll_end_failed address (access_fault.Register number) old_count new_count old new f = f
poll_end_failed address access_fault.StillBusy old_count new_count old new f = f
poll_end_failed address (access_fault.Run why) old_count new_count old new f = f
poll_end_failed address (access_fault.Odd shown) old_count new_count old new f = absurd f

ending_counted : (count mid_count new_count : ℕ) (old new : Tells) (why : DmiFault) → count ≤ mid_count → mid_count ≤ new_count
    → BusEnding mid_count new_count old new why → BusEnding count new_count old new why
ending_counted count mid_count new_count old new why le later (at_poll b) =
    at_poll (broke_counted BusPollBegun count mid_count new_count old new.far why le later b)
ending_counted count mid_count new_count old new why le later (at_clear last mid polled outside b) =
    at_clear last mid polled outside (broke_counted (Starting _) count mid_count new_count mid new.far why le later b)

pub end_counted : (address count mid_count new_count : ℕ) (old new : Tells) (e : AccessFault) → count ≤ mid_count → mid_count ≤ new_count
    → BusEndFailed address mid_count new_count old new e → BusEndFailed address count new_count old new e
end_counted address count mid_count new_count old new (access_fault.Dmi why) le later f = ending_counted count mid_count new_count old new why le later f
end_counted address count mid_count new_count old new (access_fault.Memory at) le later f = f
end_counted address count mid_count new_count old new (access_fault.Register number) le later f = f
end_counted address count mid_count new_count old new access_fault.StillBusy le later f = f
end_counted address count mid_count new_count old new (access_fault.Run why) le later f = f
end_counted address count mid_count new_count old new (access_fault.Odd shown) le later f = f

-- the clearing of an error failed
pub clear_broke : (address last count mid_count new_count : ℕ) (old mid new : Tells) (why : DmiFault) → BusPolled last old mid → bus_error last ≡ outside_error
    → count ≤ mid_count → mid_count ≤ new_count
    → WhereTold (OperationCut (Write sbcs_address clears_sberror)) mid.far new.far → DmiCause mid_count new_count mid.far new.far mid.coming why
    → BusEndFailed address count new_count old new (access_fault.Dmi why)
clear_broke address last count mid_count new_count old mid new why polled outside le later cut cause =
    at_clear last mid polled outside
    (broke_counted (Starting (Put sbcs_address clears_sberror ∷ [])) count mid_count new_count mid new.far why le later
    (word_broke (Starting (Put sbcs_address clears_sberror ∷ [])) sbcs_address clears_sberror clears_sberror mid_count new_count mid new.far why refl
    (next [] [] sbcs_address clears_sberror refl) cut cause))
