-- The steps of an opening from the calls that they make.
use Rattle.std.proofs.Common.{◌≡◌, ◌∙◌, ◌++◌, ◌+◌, ◌<◌, ◌≤◌, slice_index_or, ℕ, List, [], ◌∷◌, length, map, All, Bool, true, false, Option, Some, None}
use Rattle.std.proofs.Common.{IfSome, refl, sym, ap, subst, arith, length-append, append-nil}
use Rattle.std.proofs.lemmas.List.Elements.{All-cons, All-nil, All-push}
use Rattle.debug_model.specs.Addresses.{abstractauto_address, abstractcs_address, dmcontrol_address, sbcs_address}
use Rattle.debug_model.specs.declared.dmi.DmiFault.{DmiFault}
use Rattle.debug_model.specs.declared.dmi_op.DmiOp.{DmiOp}
use Rattle.debug_model.specs.declared.dmi_op.DmiOp.TheVariants.{Read, Write}
use Rattle.debug_model.specs.Dmi.{DmiCause, DmiComing, IsOperation, NoneOperated, OperationCut, ScannedCause, Shows}
use Rattle.debug_model.specs.Many.{AnswersAll, ManyCause, OperatedAll, OperationsCut}
use Rattle.debug_model.specs.Scan.{WhereTold}
use Rattle.debug_model.specs.Told.{Far}
use Rattle.debug_model.specs.Transport.{dtmcs_seen, fresh_dtm}
use Rattle.debug_model.specs.TransportWords.{dtmcs_word}
use Rattle.probe_run.specs.declared.control.Request.TheVariants.{Nothing}
use Rattle.probe_run.specs.Acts.{Act, Broke, Did, DoesTogether, ScannedAs, Tells, acts_of, tells}
use Rattle.probe_run.specs.Acts.Act.{Scanned}
use Rattle.probe_run.specs.Acts.Attempt.{Scan, Operation, Several}
use Rattle.probe_run.specs.Opening.{ActivateBroke, Activated, ActivationBroke, BusBroke, NotActivated, ReadAs, ThenBroke, active_act, bus_acts}
use Rattle.probe_run.specs.Opening.{BusCleared, BusFits, CommandsFit, ModuleFits, Opened, Then, TransportFits, clears_cmderr, is_active, starts_none}
use Rattle.probe_run.specs.Opening.ActivateBroke.{at_first}
use Rattle.probe_run.specs.Opening.BusBroke.{at_sbcs}
use Rattle.probe_run.specs.Outcomes.{asks}
use Rattle.probe_run.specs.Requests.{control_word}
use Rattle.probe_run.proofs.ActLemmas.{broke_one, broke_op, broke_then, did_list, did_one, did_then, did_together, scanned_cause}

-- ---- dtmcs

scanned_told : (value : ℕ) (far far' : Option Far) → WhereTold NoneOperated far far' → IfSome far (λ _. value ≡ dtmcs_word (dtmcs_seen fresh_dtm))
    → WhereTold (ScannedAs value) far far'
scanned_told value None far' path is = path
scanned_told value (Some f) far' path is = record { none = path; value_is = is }

pub did_scanned : (value : ℕ) (far far' : Option Far) (coming coming' : Option DmiComing) → WhereTold NoneOperated far far'
    → IfSome far (λ _. value ≡ dtmcs_word (dtmcs_seen fresh_dtm)) → Shows value coming coming'
    → Did (tells far coming) (Scanned value ∷ []) (tells far' coming')
did_scanned value far far' coming coming' path is shows = did_one (Scanned value) (tells far coming) (tells far' coming') (scanned_told value far far' path is)
    shows

pub broke_scan : (old_count new_count : ℕ) (far far' : Option Far) (coming : Option DmiComing) (fault : DmiFault) → WhereTold NoneOperated far far'
    → ScannedCause old_count new_count far' coming fault
    → Broke [] Scan old_count new_count (tells far coming) far' fault
broke_scan old_count new_count far far' coming fault cut cause =
    record { mid = tells far coming; did = Did.nothing; cut = cut; cause = scanned_cause old_count new_count far far' coming fault cause }

-- ---- registers

pub read_as : (acts : ℕ → List Act) (test : ℕ → Bool) (answer : Bool) (word : ℕ) (old new : Tells) → Did old (acts word) new → test word ≡ answer
    → ReadAs acts test answer word old new
read_as acts test answer word old new d is = record { did = d; tested = is }

pub read_behind : (acts : ℕ → List Act) (test : ℕ → Bool) (answer : Bool) (word found : ℕ) (old new : Tells) → word ≡ found → Did old (acts found) new
    → test word ≡ answer → ReadAs acts test answer word old new
read_behind acts test answer word found old new e d is = record { did = subst (λ w. Did old (acts w) new) (sym e) d; tested = is }

pub broke_behind : (R : Tells → Tells → Type 0) (acts : List Act) (op op' : DmiOp) (count mid_count new_count : ℕ) (old : Tells) (mid at : Tells)
    (told : Option Far) (fault : DmiFault) → op ≡ op' → R old mid → Did mid acts at
    → count ≤ mid_count → mid_count ≤ new_count → WhereTold (OperationCut op) at.far told → DmiCause mid_count new_count at.far told at.coming fault
    → ThenBroke R acts (Operation op') count new_count old told fault
broke_behind R acts op op' count mid_count new_count old mid at told fault e first d le later cut cause = record {
  mid = mid;
  first = first;
  broke = subst (λ xs. Broke xs (Operation op') count new_count mid told fault) (append-nil acts)
      (broke_then acts mid at d [] (Operation op') count mid_count new_count told fault le later
      (broke_op op op' mid_count new_count at.far told at.coming fault e cut cause));
}

abbrev pub opened_by : (old a b m c new : Tells) → TransportFits old a → Activated a b → ModuleFits b m → CommandsFit m c → Then BusFits BusCleared c new
    → Opened old new
opened_by old a b m c new transport active fits commands bus = record {
  mid = c;
  first = record {
    mid = m;
    first = record { mid = b; first = record { mid = a; first = transport; second = active }; second = fits };
    second = commands;
  };
  second = bus;
}

-- ---- dmactive

abbrev Inactive : ℕ → Type 0
Inactive w = is_active w ≡ false

-- so many reads, and what the last of them showed
pub record Reads (old now : Tells) (reads last : ℕ) : Type 0 where
  pub front : List ℕ
  pub did : Did old (asks Nothing 0 ++ (map active_act front ++ active_act last ∷ [])) now
  pub none : All Inactive front
  pub count : length front + 1 ≡ reads

map_until : (front : List ℕ) (last : ℕ) → (map active_act front ++ active_act last ∷ []) ≡ map active_act (front ++ last ∷ [])
map_until [] last = refl
map_until (w ∷ ws) last = ap (λ (acts : List Act). active_act w ∷ acts) (map_until ws last)

vain_did : (old now : Tells) (front : List ℕ) (last : ℕ) → Did old (asks Nothing 0 ++ (map active_act front ++ active_act last ∷ [])) now
    → Did old (asks Nothing 0 ++ map active_act (front ++ last ∷ [])) now
vain_did old now front last d =
    did_list (asks Nothing 0 ++ (map active_act front ++ active_act last ∷ [])) (asks Nothing 0 ++ map active_act (front ++ last ∷ [])) old now
    (ap (λ (acts : List Act). asks Nothing 0 ++ acts) (map_until front last)) d

pub reads_again : (old now new : Tells) (reads last word : ℕ) → Reads old now reads last → Did now (active_act word ∷ []) new → is_active last ≡ false
    → Reads old new (reads + 1) word
reads_again old now new reads last word r d inactive = record {
  front = r.front ++ last ∷ [];
  did = did_then (asks Nothing 0 ++ map active_act (r.front ++ last ∷ [])) old now (vain_did old now r.front last r.did) (active_act word ∷ []) new d;
  none = All-push Inactive r.front last r.none inactive;
  count = let e : length r.front + 1 ≡ reads = r.count in omega (arith, length-append r.front (last ∷ []), e);
}

pub reads_active : (old now : Tells) (reads last : ℕ) → Reads old now reads last → is_active last ≡ true → reads ≤ 64 → Activated old now
reads_active old now reads last r active few = record {
  vain = r.front;
  last = last;
  did = r.did;
  none = r.none;
  active = active;
  few = let e : length r.front + 1 ≡ reads = r.count in omega arith;
}

pub reads_broke : (old now : Tells) (reads last count mid_count new_count : ℕ) (told : Option Far) (fault : DmiFault) → Reads old now reads last
    → is_active last ≡ false → reads < 64 → count ≤ mid_count → mid_count ≤ new_count
    → WhereTold (OperationCut (Read dmcontrol_address)) now.far told → DmiCause mid_count new_count now.far told now.coming fault
    → ActivationBroke count new_count old told fault
reads_broke old now reads last count mid_count new_count told fault r inactive few le later cut cause =
    let vain = r.front ++ last ∷ [] in
    record {
      vain = vain;
      none = All-push Inactive r.front last r.none inactive;
      few = let e : length r.front + 1 ≡ reads = r.count in omega (arith, length-append r.front (last ∷ []), e);
      broke = subst (λ xs. Broke xs (Operation (Read dmcontrol_address)) count new_count old told fault) (append-nil (asks Nothing 0 ++ map active_act vain))
          (broke_then (asks Nothing 0 ++ map active_act vain) old now (vain_did old now r.front last r.did) [] _ count mid_count new_count told fault le later
          (broke_op (Read dmcontrol_address) (Read dmcontrol_address) mid_count new_count now.far told now.coming fault refl cut cause));
    }

pub reads_all : (old now : Tells) (reads last : ℕ) → reads ≡ 64 → Reads old now reads last → is_active last ≡ false → NotActivated last old now
reads_all old now reads last all r inactive = record { front = r.front; did = r.did; none = r.none; inactive = inactive; all = r.count ∙ all }

-- ---- several in one call

pub listed_two : (xs : List ℕ) → length xs ≡ 2 → xs ≡ slice_index_or xs 0 0 ∷ slice_index_or xs 1 0 ∷ []
listed_two [] two = absurd (omega arith)
listed_two (x ∷ []) two = absurd (omega arith)
listed_two (x ∷ y ∷ []) two = refl
listed_two (x ∷ y ∷ z ∷ xs) two = absurd (omega arith)

listed_three : (xs : List ℕ) → length xs ≡ 3 → xs ≡ slice_index_or xs 0 0 ∷ slice_index_or xs 1 0 ∷ slice_index_or xs 2 0 ∷ []
listed_three [] three = absurd (omega arith)
listed_three (x ∷ []) three = absurd (omega arith)
listed_three (x ∷ y ∷ []) three = absurd (omega arith)
listed_three (x ∷ y ∷ z ∷ []) three = refl
listed_three (x ∷ y ∷ z ∷ w ∷ xs) three = absurd (omega arith)

abbrev pub activates : List DmiOp
activates = Write dmcontrol_address (control_word Nothing 0) ∷ Read dmcontrol_address ∷ []

activates_small : All IsOperation activates
activates_small =
    All-cons IsOperation (Write dmcontrol_address (control_word Nothing 0)) (Read dmcontrol_address ∷ []) (omega arith, omega arith)
    (All-cons IsOperation (Read dmcontrol_address) [] (omega arith) (All-nil IsOperation))

pub reads_start : (word last : ℕ) (results : List ℕ) (old new : Tells) → word ≡ control_word Nothing 0 → last ≡ slice_index_or results 1 0 → length results ≡ 2
    → WhereTold (OperatedAll (Write dmcontrol_address word ∷ Read dmcontrol_address ∷ []) results) old.far new.far
    → AnswersAll (Write dmcontrol_address word ∷ Read dmcontrol_address ∷ []) results old.coming new.coming → Reads old new 1 last
reads_start word last results old new w e two told heard =
    let ops : ℕ → List DmiOp = λ n. Write dmcontrol_address n ∷ Read dmcontrol_address ∷ [] in
    let does : DoesTogether activates results old new = record {
      small = activates_small;
      told = subst (λ n. WhereTold (OperatedAll (ops n) results) old.far new.far) w told;
      heard = subst (λ n. AnswersAll (ops n) results old.coming new.coming) w heard;
    } in
    record {
      front = [];
      did = did_list (acts_of activates results) (asks Nothing 0 ++ active_act last ∷ []) old new
          (ap (acts_of activates) (listed_two results two) ∙ ap (λ n. asks Nothing 0 ++ active_act n ∷ []) (sym e))
          (did_together (Write dmcontrol_address (control_word Nothing 0)) (Read dmcontrol_address ∷ []) results old new does);
      none = All-nil Inactive;
      count = refl;
    }

pub first_broke : (word old_count new_count : ℕ) (old : Tells) (told : Option Far) (fault : DmiFault) → word ≡ control_word Nothing 0
    → WhereTold (OperationsCut (Write dmcontrol_address word ∷ Read dmcontrol_address ∷ [])) old.far told
    → ManyCause 2 old_count new_count old.far told old.coming fault
    → ActivateBroke old_count new_count old told fault
first_broke word old_count new_count old told fault w cut cause =
    at_first (broke_one (Several (Write dmcontrol_address (control_word Nothing 0)) (Read dmcontrol_address ∷ [])) old_count new_count old told fault
    (subst (λ n. WhereTold (OperationsCut (Write dmcontrol_address n ∷ Read dmcontrol_address ∷ [])) old.far told) w cut) cause)

abbrev clears_first : ℕ → ℕ → List DmiOp
clears_first errors auto = Write abstractcs_address errors ∷ Write abstractauto_address auto ∷ Read sbcs_address ∷ []

clears_small : All IsOperation (clears_first clears_cmderr starts_none)
clears_small =
    All-cons IsOperation (Write abstractcs_address clears_cmderr) (Write abstractauto_address starts_none ∷ Read sbcs_address ∷ []) (omega arith, omega arith)
    (All-cons IsOperation (Write abstractauto_address starts_none) (Read sbcs_address ∷ []) (omega arith, omega arith)
    (All-cons IsOperation (Read sbcs_address) [] (omega arith) (All-nil IsOperation)))

pub bus_did : (errors auto : ℕ) (results : List ℕ) (old new : Tells) → errors ≡ clears_cmderr → auto ≡ starts_none → length results ≡ 3
    → WhereTold (OperatedAll (clears_first errors auto) results) old.far new.far → AnswersAll (clears_first errors auto) results old.coming new.coming
    → Did old (bus_acts (slice_index_or results 2 0)) new
bus_did errors auto results old new e a three told heard =
    let does : DoesTogether (clears_first clears_cmderr starts_none) results old new = record {
      small = clears_small;
      told = subst (λ n. WhereTold (OperatedAll (clears_first n starts_none) results) old.far new.far) e
          (subst (λ n. WhereTold (OperatedAll (clears_first errors n) results) old.far new.far) a told);
      heard = subst (λ n. AnswersAll (clears_first n starts_none) results old.coming new.coming) e
          (subst (λ n. AnswersAll (clears_first errors n) results old.coming new.coming) a heard);
    } in
    did_list (acts_of (clears_first clears_cmderr starts_none) results) (bus_acts (slice_index_or results 2 0)) old new
    (ap (acts_of (clears_first clears_cmderr starts_none)) (listed_three results three))
    (did_together (Write abstractcs_address clears_cmderr) (Write abstractauto_address starts_none ∷ Read sbcs_address ∷ []) results old new does)

pub bus_broke : (errors auto old_count new_count : ℕ) (old : Tells) (told : Option Far) (fault : DmiFault) → errors ≡ clears_cmderr → auto ≡ starts_none
    → WhereTold (OperationsCut (clears_first errors auto)) old.far told → ManyCause 3 old_count new_count old.far told old.coming fault
    → BusBroke old_count new_count old told fault
bus_broke errors auto old_count new_count old told fault e a cut cause =
    at_sbcs (broke_one (Several (Write abstractcs_address clears_cmderr) (Write abstractauto_address starts_none ∷ Read sbcs_address ∷ [])) old_count new_count
    old told fault
    (subst (λ n. WhereTold (OperationsCut (clears_first n starts_none)) old.far told) e
    (subst (λ n. WhereTold (OperationsCut (clears_first errors n)) old.far told) a cut)) cause)
