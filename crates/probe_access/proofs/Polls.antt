-- Polls made one after another, and a call that fails among others.
use Rattle.std.proofs.Common.{
  ◌≡◌,
  ◌∙◌,
  ◌≤◌,
  ◌<◌,
  ◌+◌,
  ◌++◌,
  ℕ,
  List,
  [],
  ◌∷◌,
  length,
  map,
  All,
  Option,
  Result,
  Ok,
  Err,
  IfErr,
  refl,
  sym,
  ap,
  subst,
  length-append,
  append-nil,
  arith,
  true,
  false,
  Bool,
  not,
}
use Rattle.std.proofs.lemmas.List.{map-append}
use Rattle.std.proofs.lemmas.List.Elements.{All-push}
use Rattle.std.specs.Result.{IsErrAnd}
use Rattle.probe_access.specs.declared.fault.AccessFault.{AccessFault}
use Rattle.probe_access.specs.declared.fault.AccessFault.TheVariants as access_fault
use Rattle.debug_model.specs.Addresses.{abstractcs_address}
use Rattle.debug_model.specs.declared.dmi.DmiFault.{DmiFault}
use Rattle.debug_model.specs.declared.dmi_op.DmiOp.TheVariants.{Read}
use Rattle.debug_model.specs.Dmi.{Answers, DmiCause, Operated, OperationCut}
use Rattle.debug_model.specs.Scan.{WhereTold}
use Rattle.debug_model.specs.Told.{Far}
use Rattle.probe_run.specs.Acts.{Act, Did, Tells}
use Rattle.probe_run.specs.Acts.Act.{Got}
use Rattle.probe_run.specs.Acts.Did.{nothing}
use Rattle.probe_run.specs.Acts.Attempt.{Operation}
use Rattle.probe_access.specs.CommandRuns.{BusyFrom, EndBegun, PolledFrom, ShowsBusy, poll_act, shows_busy}
use Rattle.probe_access.specs.CommandRuns.EndBegun.{polls}
use Rattle.probe_access.specs.Faults.{BrokeIn}
use Rattle.probe_run.proofs.ActLemmas.{broke_list, broke_one, broke_then, did_one, did_then}

-- polls from the first on, which showed `first`: this poll is the latest, behind others that showed a command under way, and there are so many
pub record Started (n first last : ℕ) (old new : Tells) : Type 0 where
  pub earlier : List ℕ
  pub count : length earlier + 1 ≡ n
  pub busy : All ShowsBusy earlier
  pub rest : List Act
  pub is : poll_act first ∷ rest ≡ map poll_act earlier ++ poll_act last ∷ []
  pub did : Did old rest new

pub started_first : (first : ℕ) (old : Tells) → Started 1 first first old old
started_first first old = record { earlier = []; count = omega arith; busy = λ k d h. absurd (omega arith); rest = []; is = refl; did = nothing }

-- all of them showed it under way
one_later : (first last : ℕ) (earlier : List ℕ) (rest : List Act) → poll_act first ∷ rest ≡ map poll_act earlier ++ poll_act last ∷ []
    → poll_act first ∷ rest ≡ map poll_act (earlier ++ last ∷ [])
one_later first last earlier rest is = is ∙ sym (map-append poll_act earlier (last ∷ []))

pub started_more : (n first last next : ℕ) (old mid new : Tells) → Started n first last old mid → shows_busy last ≡ true → Did mid (poll_act next ∷ []) new
    → Started (n + 1) first next old new
started_more n first last next old mid new s busy did = record {
  earlier = s.earlier ++ last ∷ [];
  count = let c : length s.earlier + 1 ≡ n = s.count in omega (arith, length-append s.earlier (last ∷ []));
  busy = All-push ShowsBusy s.earlier last s.busy busy;
  rest = s.rest ++ poll_act next ∷ [];
  is = ap (λ xs. xs ++ poll_act next ∷ []) (one_later first last s.earlier s.rest s.is);
  did = did_then s.rest old mid s.did (poll_act next ∷ []) new did;
}

pub started_ends : (n first last : ℕ) (old new : Tells) → Started n first last old new → n ≤ 64 → shows_busy last ≡ false → PolledFrom first last old new
started_ends n first last old new s few idle = record {
  words = s.earlier;
  vain = record { busy = s.busy; few = let c : length s.earlier + 1 ≡ n = s.count in omega arith };
  idle = idle;
  rest = s.rest;
  is = s.is;
  did = s.did;
}

pub started_always : (n first last : ℕ) (old new : Tells) → Started n first last old new → n ≡ 64 → shows_busy last ≡ true → BusyFrom first old new
started_always n first last old new s all busy = record {
  words = s.earlier ++ last ∷ [];
  busy = All-push ShowsBusy s.earlier last s.busy busy;
  all = let c : length s.earlier + 1 ≡ n = s.count in omega (arith, length-append s.earlier (last ∷ []));
  rest = s.rest;
  is = one_later first last s.earlier s.rest s.is;
  did = s.did;
}

-- ---- a call that fails

pub read_did : (address value : ℕ) (old new : Tells) → WhereTold (Operated (Read address) value) old.far new.far → Answers value old.coming new.coming
    → Did old (Got address value ∷ []) new
read_did address value old new told heard = did_one (Got address value) old new told heard

pub started_broke : (n first last count mid_count new_count : ℕ) (old mid : Tells) (told : Option Far) (why : DmiFault) → Started n first last old mid → n < 64
    → shows_busy last ≡ true → count ≤ mid_count → mid_count ≤ new_count
    → WhereTold (OperationCut (Read abstractcs_address)) mid.far told → DmiCause mid_count new_count mid.far told mid.coming why
    → BrokeIn (EndBegun first) count new_count old told why
started_broke n first last count mid_count new_count old mid told why s few busy le later cut cause = record {
  acts = s.rest;
  failed = Operation (Read abstractcs_address);
  begun = polls (s.earlier ++ last ∷ []) s.rest
      (record {
        busy = All-push ShowsBusy s.earlier last s.busy busy;
        few = let c : length s.earlier + 1 ≡ n = s.count in omega (arith, length-append s.earlier (last ∷ []));
      })
      (one_later first last s.earlier s.rest s.is);
  broke = broke_list (s.rest ++ []) s.rest (Operation (Read abstractcs_address)) count new_count old told why (append-nil s.rest)
      (broke_then s.rest old mid s.did [] (Operation (Read abstractcs_address)) count mid_count new_count told why le later
      (broke_one (Operation (Read abstractcs_address)) mid_count new_count mid told why cut cause));
}

-- what a `?` makes of a fault of the link
pub dmi_failed : {A : Type 0} (r : Result A AccessFault) (why : DmiFault) (P : AccessFault → Type 0) → IsErrAnd r (λ e. e ≡ access_fault.Dmi why)
    → P (access_fault.Dmi why) → IfErr r P
dmi_failed (Ok x) why P is p = tt
dmi_failed (Err e) why P is p = subst P (sym is) p

pub not_true : (b : Bool) → not b ≡ true → b ≡ false
not_true true e = let none : ⊥ = cc in absurd none
not_true false e = refl

pub not_false : (b : Bool) → not b ≡ false → b ≡ true
not_false true e = refl
not_false false e = let none : ⊥ = cc in absurd none
