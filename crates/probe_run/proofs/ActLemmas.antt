-- Calls made one after another: two stretches are one, and a failed call behind more of them.
use Rattle.std.proofs.Common.{◌≡◌, ◌≤◌, ◌++◌, ℕ, List, [], ◌∷◌, length, Option, Result, Ok, Err, IfErr, IsErrAnd, sym, subst, append_assoc, append-nil, inl}
use Rattle.std.proofs.Common.{inr}
use Rattle.jt_base.proofs.FaultLemmas.{rises_from}
use Rattle.debug_model.specs.declared.dmi.DmiFault.{DmiFault}
use Rattle.debug_model.specs.declared.dmi.DmiFault.TheVariants.{Wire, Failed, StillBusy}
use Rattle.debug_model.specs.declared.wire.WireFault.{WireFault}
use Rattle.debug_model.specs.declared.wire.WireFault.TheVariants.{SendFailed, RecvFailed, Ended, BadAnswer}
use Rattle.debug_model.specs.Dmi.{Answers, DmiCause, DmiComing, Operated, OperationCut, Passes, ScannedCause, scanned_coming}
use Rattle.debug_model.specs.Many.{ManyCause}
use Rattle.debug_model.specs.Scan.{Coming, ScanCause, WhereTold}
use Rattle.debug_model.specs.Told.{Far}
use Rattle.probe_run.specs.Acts.{Act, Attempt, AttemptCause, Broke, Did, DoesTogether, Tells, acts_of, chip_cut, chip_did, tells, was_heard}
use Rattle.probe_run.specs.Acts.Act.{Got, Put}
use Rattle.probe_run.specs.Acts.Attempt.{Scan, Operation, Several}
use Rattle.debug_model.specs.declared.dmi_op.DmiOp.{DmiOp}
use Rattle.debug_model.specs.declared.dmi_op.DmiOp.TheVariants.{Read, Write}
use Rattle.probe_run.specs.Acts.Did.{nothing, further, together}

pub did_one : (act : Act) (old new : Tells) → WhereTold (chip_did act) old.far new.far → was_heard act old.coming new.coming → Did old (act ∷ []) new
did_one act old new told heard = further [] act old new nothing (record { told = told; heard = heard })

pub did_list : (acts acts' : List Act) (old new : Tells) → acts ≡ acts' → Did old acts new → Did old acts' new
did_list acts acts' old new e d = subst (λ xs. Did old xs new) e d

pub did_then : (xs : List Act) (old mid : Tells) → Did old xs mid → (ys : List Act) (new : Tells) → Did mid ys new → Did old (xs ++ ys) new
did_then xs old mid d ys new nothing = did_list xs (xs ++ []) old mid (sym (append-nil xs)) d
did_then xs old mid d ys new (further zs act at new' before does) =
    did_list ((xs ++ zs) ++ act ∷ []) (xs ++ (zs ++ act ∷ [])) old new (append_assoc xs zs (act ∷ []))
    (further (xs ++ zs) act at new (did_then xs old mid d zs at before) does)
did_then xs old mid d ys new (together zs op ops results at new' before does) =
    did_list ((xs ++ zs) ++ acts_of (op ∷ ops) results) (xs ++ (zs ++ acts_of (op ∷ ops) results)) old new (append_assoc xs zs (acts_of (op ∷ ops) results))
    (together (xs ++ zs) op ops results at new (did_then xs old mid d zs at before) does)

-- several in one call
pub did_together : (op : DmiOp) (ops : List DmiOp) (results : List ℕ) (old new : Tells) → DoesTogether (op ∷ ops) results old new
    → Did old (acts_of (op ∷ ops) results) new
did_together op ops results old new does = together [] op ops results old new nothing does

-- ---- causes

scan_cause_from : (old mid new : ℕ) (told : Option Far) (coming : Option Coming) (fault : WireFault) → old ≤ mid → mid ≤ new
    → ScanCause mid new told coming fault → ScanCause old new told coming fault
scan_cause_from old mid new told coming SendFailed le later c = rises_from old mid new le later c
scan_cause_from old mid new told coming RecvFailed le later c = rises_from old mid new le later c
scan_cause_from old mid new told coming Ended le later (inl c) = inl (rises_from old mid new le later c)
scan_cause_from old mid new told coming Ended le later (inr c) = inr c
scan_cause_from old mid new told coming (BadAnswer b) le later c = c

pub cause_from : (old mid new : ℕ) (was told : Option Far) (coming : Option DmiComing) (fault : DmiFault) → old ≤ mid → mid ≤ new
    → DmiCause mid new was told coming fault → DmiCause old new was told coming fault
cause_from old mid new was told coming (Wire fault) le later c = scan_cause_from old mid new told _ fault le later c
cause_from old mid new was told coming Failed le later c = c
cause_from old mid new was told coming StillBusy le later c = c

pub many_cause_from : (operations old mid new : ℕ) (was told : Option Far) (coming : Option DmiComing) (fault : DmiFault) → old ≤ mid → mid ≤ new
    → ManyCause operations mid new was told coming fault → ManyCause operations old new was told coming fault
many_cause_from operations old mid new was told coming (Wire fault) le later c = scan_cause_from old mid new told _ fault le later c
many_cause_from operations old mid new was told coming Failed le later c = c
many_cause_from operations old mid new was told coming StillBusy le later c = c

pub attempt_cause_from : (failed : Attempt) (old mid new : ℕ) (was told : Option Far) (coming : Option DmiComing) (fault : DmiFault) → old ≤ mid → mid ≤ new
    → AttemptCause failed mid new was told coming fault → AttemptCause failed old new was told coming fault
attempt_cause_from Scan old mid new was told coming fault le later c = cause_from old mid new was told coming fault le later c
attempt_cause_from (Operation op) old mid new was told coming fault le later c = cause_from old mid new was told coming fault le later c
attempt_cause_from (Several op ops) old mid new was told coming fault le later c =
    many_cause_from (length (op ∷ ops)) old mid new was told coming fault le later c

-- a fault of the wire has the same cause in each
pub attempt_wire : (failed : Attempt) (old new : ℕ) (was told : Option Far) (coming : Option DmiComing) (why : WireFault)
    → AttemptCause failed old new was told coming (Wire why) → ScanCause old new told (scanned_coming coming) why
attempt_wire Scan old new was told coming why c = c
attempt_wire (Operation op) old new was told coming why c = c
attempt_wire (Several op ops) old new was told coming why c = c

pub scanned_cause : (old new : ℕ) (was told : Option Far) (coming : Option DmiComing) (fault : DmiFault) → ScannedCause old new told coming fault
    → DmiCause old new was told coming fault
scanned_cause old new was told coming (Wire fault) c = c
scanned_cause old new was told coming Failed c = absurd c
scanned_cause old new was told coming StillBusy c = absurd c

pub broke_one : (failed : Attempt) (old_count new_count : ℕ) (old : Tells) (told : Option Far) (fault : DmiFault) → WhereTold (chip_cut failed) old.far told
    → AttemptCause failed old_count new_count old.far told old.coming fault → Broke [] failed old_count new_count old told fault
broke_one failed old_count new_count old told fault cut cause = record { mid = old; did = nothing; cut = cut; cause = cause }

pub broke_then : (xs : List Act) (old mid : Tells) → Did old xs mid
    → (ys : List Act) (failed : Attempt) (count mid_count new_count : ℕ) (told : Option Far) (fault : DmiFault) → count ≤ mid_count → mid_count ≤ new_count
    → Broke ys failed mid_count new_count mid told fault → Broke (xs ++ ys) failed count new_count old told fault
broke_then xs old mid d ys failed count mid_count new_count told fault le later b = record {
  mid = b.mid;
  did = did_then xs old mid d ys b.mid b.did;
  cut = b.cut;
  cause = attempt_cause_from failed count mid_count new_count b.mid.far told b.mid.coming fault le later b.cause;
}

pub broke_list : (xs xs' : List Act) (failed : Attempt) (old_count new_count : ℕ) (old : Tells) (told : Option Far) (fault : DmiFault) → xs ≡ xs'
    → Broke xs failed old_count new_count old told fault → Broke xs' failed old_count new_count old told fault
broke_list xs xs' failed old_count new_count old told fault e b = subst (λ zs. Broke zs failed old_count new_count old told fault) e b

-- ---- one operation

pub did_put : (address value value' : ℕ) (far far' : Option Far) (coming coming' : Option DmiComing) → value ≡ value'
    → WhereTold (Operated (Write address value) value) far far' → Passes coming coming' → Did (tells far coming) (Put address value' ∷ []) (tells far' coming')
did_put address value value' far far' coming coming' e told heard =
    subst (λ v. Did (tells far coming) (Put address v ∷ []) (tells far' coming')) e
    (did_one (Put address value) (tells far coming) (tells far' coming') told heard)

pub did_got : (address value : ℕ) (far far' : Option Far) (coming coming' : Option DmiComing)
    → WhereTold (Operated (Read address) value) far far' → Answers value coming coming' → Did (tells far coming) (Got address value ∷ []) (tells far' coming')
did_got address value far far' coming coming' told heard = did_one (Got address value) (tells far coming) (tells far' coming') told heard

pub broke_op : (op op' : DmiOp) (old_count new_count : ℕ) (far far' : Option Far) (coming : Option DmiComing) (fault : DmiFault) → op ≡ op'
    → WhereTold (OperationCut op) far far' → DmiCause old_count new_count far far' coming fault
    → Broke [] (Operation op') old_count new_count (tells far coming) far' fault
broke_op op op' old_count new_count far far' coming fault e cut cause =
    subst (λ o. Broke [] (Operation o) old_count new_count (tells far coming) far' fault) e
    (broke_one (Operation op) old_count new_count (tells far coming) far' fault cut cause)

-- an error that is handed on
pub if_err : {T E : Type 0} (P : E → Type 0) (result : Result T E) (fault : E) → IsErrAnd result (λ e. e ≡ fault) → P fault → IfErr result P
if_err P (Ok x) fault is p = tt
if_err P (Err e) fault is p = subst P (sym is) p
