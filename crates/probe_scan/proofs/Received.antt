-- Answers that a wire hands on, whole or cut short by a fault, and what their judgement says of those that were to come.
use Rattle.std.proofs.Common.{
  ◌≡◌,
  ◌≢◌,
  ◌∙◌,
  ℕ,
  zero,
  suc,
  List,
  [],
  ◌∷◌,
  ◌++◌,
  Bool,
  true,
  length,
  map,
  take,
  drop,
  replicate,
  Option,
  Some,
  None,
  option_map,
  IfSome,
  Result,
  Ok,
  Err,
  OnOk,
  OnErr,
  IfErr,
  IsErrAnd,
  refl,
  sym,
  ap,
  subst,
  arith,
  append_assoc,
}
use Rattle.debug_model.specs.Chip.{answer_byte}
use Rattle.debug_model.specs.Scan.{Answers, CameWrong, Judged, TookBits}
use Rattle.debug_model.specs.Told.{Far}
use Rattle.debug_model.specs.Wire.{CutShort, ReadsFront, ReadsSome, RecvCause, TakesComing, TakesSome, no_answer}
use Rattle.debug_model.specs.declared.wire.WireFault.{WireFault}
use Rattle.debug_model.specs.declared.wire.WireFault.TheVariants.{SendFailed, RecvFailed, Ended, BadAnswer}
use Rattle.probe_scan.specs.Answers.{IsFirstBad, KeepsChip, ReceiveCause, or_bad}

unfoldable pub first_or : ℕ → List ℕ → ℕ
first_or n [] = n
first_or n (x ∷ xs) = x

-- ---- a bad answer stands among those that came

-- what fills the rest of a buffer is not bad
not_filled : (missing : ℕ) (good : List Bool) (bad : ℕ) (rest : List ℕ) → bad ≢ 48 → replicate missing no_answer ≡ map answer_byte good ++ bad ∷ rest → ⊥
unfolding first_or
not_filled zero [] bad rest other e = absurd (omega (arith, ap length e))
not_filled zero (g ∷ good) bad rest other e = absurd (omega (arith, ap length e))
not_filled (suc n) [] bad rest other e = other (sym (ap (first_or bad) e))
not_filled (suc n) (g ∷ good) bad rest other e = not_filled n good bad rest other (ap (drop 1) e)

bad_among : (came : List ℕ) (missing : ℕ) (good : List Bool) (bad : ℕ) (rest : List ℕ) → bad ≢ 48
    → came ++ replicate missing no_answer ≡ map answer_byte good ++ bad ∷ rest → (more : List ℕ) × (came ≡ map answer_byte good ++ bad ∷ more)
unfolding first_or
bad_among [] missing good bad rest other e = absurd (not_filled missing good bad rest other e)
bad_among (c ∷ came) missing [] bad rest other e = (came, ap (λ x. x ∷ came) (ap (first_or bad) e))
bad_among (c ∷ came) missing (g ∷ good) bad rest other e =
    let further = bad_among came missing good bad rest other (ap (drop 1) e) in
    (further.0, ap (λ x. x ∷ came) (ap (first_or bad) e) ∙ ap (λ xs. answer_byte g ∷ xs) further.1)

wrong_in_whole : (into bytes rest : List ℕ) (fault : WireFault) → bytes ≡ into ++ rest → (bad : IsFirstBad into fault) → CameWrong bad.bad bytes
wrong_in_whole into bytes rest fault are bad = record {
  good = bad.good;
  rest = bad.rest ++ rest;
  is = are ∙ ap (λ xs. xs ++ rest) bad.found ∙ append_assoc (map answer_byte bad.good) (bad.bad ∷ bad.rest) rest;
}

wrong_in_cut : (into bytes left : List ℕ) (fault : WireFault) → CutShort into bytes left → (bad : IsFirstBad into fault) → CameWrong bad.bad bytes
wrong_in_cut into bytes left fault cut bad =
    let among = bad_among cut.came cut.missing bad.good bad.bad bad.rest bad.not_zero (sym cut.stand ∙ bad.found) in
    record {
      good = bad.good;
      rest = among.0 ++ left;
      is = cut.are ∙ ap (λ xs. xs ++ left) among.1 ∙ append_assoc (map answer_byte bad.good) (bad.bad ∷ among.0) left;
    }

of_coming : {T : Type 0} (received : Result T WireFault) (into : List ℕ) (coming left : Option (List ℕ)) (fault : WireFault)
    → OnOk received (TakesComing into coming left) → OnErr received (TakesSome into coming left) → (bad : IsFirstBad into fault)
    → IfSome coming (CameWrong bad.bad)
of_coming received into None left fault whole cut bad = tt
of_coming (Ok x) into (Some coming) left fault whole cut bad = wrong_in_whole into coming whole.0 fault whole.1 bad
of_coming (Err e) into (Some coming) left fault whole cut bad = wrong_in_cut into coming cut.0 fault cut.1 bad

of_chip : {T : Type 0} (received : Result T WireFault) (into : List ℕ) (told new : Option Far) (fault : WireFault) → OnOk received (ReadsFront into told new)
    → OnErr received (ReadsSome into told new) → (bad : IsFirstBad into fault) → IfSome told (λ f. CameWrong bad.bad f.unread)
of_chip received into None new fault whole cut bad = tt
of_chip (Ok x) into (Some f) new fault whole cut bad = wrong_in_whole into f.unread whole.0 fault whole.1 bad
of_chip (Err e) into (Some f) new fault whole cut bad = wrong_in_cut into f.unread cut.0 fault cut.1 bad

-- ---- a bad answer is told before a fault

pub bad_cause : {T : Type 0} (received : Result T WireFault) (into : List ℕ) (told new : Option Far) (coming left : Option (List ℕ)) (before after : ℕ)
    (fault : WireFault)
    → OnOk received (ReadsFront into told new) → OnErr received (ReadsSome into told new) → OnOk received (TakesComing into coming left)
    → OnErr received (TakesSome into coming left)
    → IsFirstBad into fault → ReceiveCause before after told new coming fault
bad_cause received into told new coming left before after fault read some came part bad =
    subst (ReceiveCause before after told new coming) (sym bad.kept) (record {
      not_zero = bad.not_zero;
      not_one = bad.not_one;
      of_chip = of_chip received into told new fault read some bad;
      of_coming = of_coming received into coming left fault came part bad;
    })

pub bad_judged : (into : List ℕ) (fault : WireFault) (coming left : Option (List ℕ)) → IsFirstBad into fault
    → Judged (option_map Answers coming) (option_map Answers left) fault
bad_judged into fault coming left bad = subst (Judged (option_map Answers coming) (option_map Answers left)) (sym bad.kept) tt

pub bad_own : (gives : WireFault → Bool) (into : List ℕ) (fault : WireFault) → IsFirstBad into fault → or_bad gives fault ≡ true
bad_own gives into fault bad = ap (or_bad gives) bad.kept

-- a scanner gives what its wire gives
pub wire_own : (gives : WireFault → Bool) (fault : WireFault) → gives fault ≡ true → or_bad gives fault ≡ true
wire_own gives SendFailed own = own
wire_own gives RecvFailed own = own
wire_own gives Ended own = own
wire_own gives (BadAnswer b) own = refl

pub bad_kept : {T : Type 0} (received : Result T WireFault) (into : List ℕ) (told new : Option Far) → OnOk received (ReadsFront into told new)
    → OnErr received (ReadsSome into told new) → KeepsChip told new
bad_kept (Ok x) into None new read some = read
bad_kept (Err e) into None new read some = some
bad_kept (Ok x) into (Some f) new read some = (read.0, read.2)
bad_kept (Err e) into (Some f) new read some = (some.0, some.2)

-- ---- a fault behind good answers

good_part : (came : List ℕ) (filled : List ℕ) (bits : List Bool) → came ++ filled ≡ map answer_byte bits → came ≡ map answer_byte (take (length came) bits)
unfolding first_or
good_part [] filled bits e = refl
good_part (c ∷ came) filled [] e = absurd (omega (arith, ap length e))
good_part (c ∷ came) filled (b ∷ bits) e = ap (λ x. x ∷ came) (ap (first_or 0) e) ∙ ap (λ xs. answer_byte b ∷ xs) (good_part came filled bits (ap (drop 1) e))

took_bits : (into : List ℕ) (bits : List Bool) (coming : List ℕ) (left : Option (List ℕ)) → TakesSome into (Some coming) left → into ≡ map answer_byte bits
    → TookBits coming (option_map Answers left)
took_bits into bits coming left some are =
    let cut = some.1 in
    record {
      good = take (length cut.came) bits;
      left = some.0;
      are = cut.are ∙ ap (λ xs. xs ++ some.0) (good_part cut.came (replicate cut.missing no_answer) bits (sym cut.stand ∙ are));
      is = ap (option_map Answers) some.2;
    }

pub fault_judged : (into : List ℕ) (bits : List Bool) (coming left : Option (List ℕ)) (fault : WireFault) → TakesSome into coming left
    → into ≡ map answer_byte bits → Judged (option_map Answers coming) (option_map Answers left) fault
fault_judged into bits None left SendFailed some are = ap (option_map Answers) some
fault_judged into bits None left RecvFailed some are = ap (option_map Answers) some
fault_judged into bits None left Ended some are = ap (option_map Answers) some
fault_judged into bits coming left (BadAnswer b) some are = tt
fault_judged into bits (Some coming) left SendFailed some are = took_bits into bits coming left some are
fault_judged into bits (Some coming) left RecvFailed some are = took_bits into bits coming left some are
fault_judged into bits (Some coming) left Ended some are = took_bits into bits coming left some are

pub fault_cause : (told new : Option Far) (coming : Option (List ℕ)) (before after : ℕ) (fault : WireFault) → RecvCause before after new fault
    → ReceiveCause before after told new coming fault
fault_cause told new coming before after SendFailed cause = cause
fault_cause told new coming before after RecvFailed cause = cause
fault_cause told new coming before after Ended cause = cause
fault_cause told new coming before after (BadAnswer b) cause = absurd cause

-- a call that answers this fault says this of it
pub err_with : {T : Type 0} (P : WireFault → Type 0) (fault : WireFault) (result : Result T WireFault) → IsErrAnd result (λ e. e ≡ fault) → P fault
    → IfErr result P
err_with P fault (Ok x) h holds = tt
err_with P fault (Err e) h holds = subst P (sym h) holds
