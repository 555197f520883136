-- What a chip and a sniffer have in common in the midst of a scan, and how edges of TCK keep it.
use Rattle.std.proofs.Common.{◌≡◌, ◌∙◌, ℕ, suc, ◌<◌, ◌%◌, ◌/◌, List, [], ◌∷◌, ◌++◌, length, take, Bool, true, false, Option, Some, None, refl, ap, sym}
use Rattle.std.proofs.Common.{subst, arith, lit<, append-nil}
use Rattle.jt_base.specs.BitLaws.{digit-lowest, length-bits_of}
use Rattle.jt_base.specs.BitList.{bits_of, lowest, number_of, shift_in}
use Rattle.debug_model.specs.declared.data_register.DataRegister.{DataRegister}
use Rattle.debug_model.specs.declared.data_register.DataRegister.TheVariants as register
use Rattle.debug_model.specs.declared.sticky.Sticky.{Sticky}
use Rattle.debug_model.specs.declared.sticky.Sticky.TheVariants.{Clear, Failed, Busy}
use Rattle.debug_model.specs.declared.tap_state.TapState.{TapState}
use Rattle.debug_model.specs.declared.tap_state.TapState.TheVariants.{TestLogicReset, RunTestIdle, SelectDr, CaptureDr, ShiftDr, Exit1Dr, PauseDr, Exit2Dr}
use Rattle.debug_model.specs.declared.tap_state.TapState.TheVariants.{UpdateDr, SelectIr, CaptureIr, ShiftIr, Exit1Ir, PauseIr, Exit2Ir, UpdateIr}
use Rattle.debug_model.specs.Port.{captured_code, captured_in, data_register_of, selected_after, selected_in, shift_after, tdo_after, updated_in}
use Rattle.debug_model.specs.Scan.{comes_out, stays}
use Rattle.debug_model.specs.Tap.{idcode, next_state}
use Rattle.debug_model.specs.Transport.{Dtm, captured_bits, captured_dtm, dmi_seen, dmi_width, dtmcs_seen, dtmcs_width, idcode_width, status_number}
use Rattle.debug_model.specs.Transport.{status_seen}
use Rattle.debug_model.specs.TransportWords.{dmi_word, dtmcs_word}
use Rattle.wire_sniff.specs.Sniffed.{code_after, code_in, given_after, status_width, taken_after}
use Rattle.chip_sniff.proofs.Bits.{Agree, AgreesWith, agree_more, comes_out-more, stays-more}

-- ---- what they have in common

-- of the selected data register, whose capture left these bits: what is in it now, and what came out of it
pub record InData (selected : DataRegister) (shift : List Bool) (sticky : Sticky) (given : List Bool) (taken : List (Option Bool)) : Type 0 where
  pub was : List Bool
  pub some : 0 < length was
  pub shift_is : shift ≡ stays was given
  pub agree : Agree taken (comes_out was given)
  pub width : selected ≡ register.Dmi → length was ≡ dmi_width
  pub status : selected ≡ register.Dmi → number_of (take status_width was) ≡ status_number sticky

abbrev pub InCode : List Bool → List Bool → Type 0
InCode shift given = shift ≡ stays captured_code given

-- between a fall in Shift-DR and the rise behind it TDO is the bit that leaves, and so is the answer
pub record Asked (shift : List Bool) (tdo : Bool) (answer : Option Bool) : Type 0 where
  pub tdo_is : tdo ≡ lowest shift
  pub answer_is : AgreesWith answer tdo

-- by the state and the level of TCK
abbrev pub InScan : TapState → Bool → DataRegister → List Bool → Bool → Sticky → List Bool → List (Option Bool) → Option Bool → Type 0
InScan ShiftDr true r shift tdo sticky given taken answer = InData r shift sticky given taken
InScan ShiftDr false r shift tdo sticky given taken answer = InData r shift sticky given taken × Asked shift tdo answer
InScan Exit1Dr tck r shift tdo sticky given taken answer = InData r shift sticky given taken
InScan PauseDr tck r shift tdo sticky given taken answer = InData r shift sticky given taken
InScan Exit2Dr tck r shift tdo sticky given taken answer = InData r shift sticky given taken
InScan UpdateDr true r shift tdo sticky given taken answer = InData r shift sticky given taken
InScan UpdateDr false r shift tdo sticky given taken answer = Unit {0}
InScan ShiftIr tck r shift tdo sticky given taken answer = InCode shift given
InScan Exit1Ir tck r shift tdo sticky given taken answer = InCode shift given
InScan PauseIr tck r shift tdo sticky given taken answer = InCode shift given
InScan Exit2Ir tck r shift tdo sticky given taken answer = InCode shift given
InScan UpdateIr true r shift tdo sticky given taken answer = InCode shift given
InScan UpdateIr false r shift tdo sticky given taken answer = Unit {0}
InScan TestLogicReset tck r shift tdo sticky given taken answer = Unit {0}
InScan RunTestIdle tck r shift tdo sticky given taken answer = Unit {0}
InScan SelectDr tck r shift tdo sticky given taken answer = Unit {0}
InScan CaptureDr tck r shift tdo sticky given taken answer = Unit {0}
InScan SelectIr tck r shift tdo sticky given taken answer = Unit {0}
InScan CaptureIr tck r shift tdo sticky given taken answer = Unit {0}

-- ---- a capture

status_small : (s : Sticky) → status_number s < 4
status_small Clear = lit< tt
status_small Failed = lit< tt
status_small Busy = lit< tt

lowest_two : (n w : ℕ) → number_of (take status_width (bits_of (suc (suc n)) w)) ≡ w % 4
unfolding bits_of number_of
lowest_two n w = omega (arith, digit-lowest w, digit-lowest (w / 2))

-- the two lowest bits of dmi as captured are the status
captured_status : (d : Dtm) → number_of (take status_width (captured_bits register.Dmi d)) ≡ status_number (captured_dtm register.Dmi d).sticky
unfolding captured_bits
captured_status d = lowest_two 39 (dmi_word (dmi_seen d)) ∙ omega (arith, status_small (status_seen d))

captured_width : (d : Dtm) → length (captured_bits register.Dmi d) ≡ dmi_width
unfolding captured_bits
captured_width d = length-bits_of dmi_width (dmi_word (dmi_seen d))

captured_some : (r : DataRegister) (d : Dtm) → 0 < length (captured_bits r d)
unfolding captured_bits
captured_some register.Idcode d = omega (arith, length-bits_of idcode_width idcode)
captured_some register.Dtmcs d = omega (arith, length-bits_of dtmcs_width (dtmcs_word (dtmcs_seen d)))
captured_some register.Dmi d = omega (arith, length-bits_of dmi_width (dmi_word (dmi_seen d)))
captured_some register.Bypass d = omega (arith, length-bits_of 1 0)

stays_all : (was : List Bool) → was ≡ stays was []
stays_all was = sym (append-nil was)

captured : (r : DataRegister) (d : Dtm) → InData r (captured_bits r d) (captured_dtm r d).sticky [] []
captured r d = record {
  was = captured_bits r d;
  some = captured_some r d;
  shift_is = stays_all (captured_bits r d);
  agree = tt;
  width = λ e. ap (λ x. length (captured_bits x d)) e ∙ captured_width d;
  status = λ e. ap (λ x. number_of (take status_width (captured_bits x d))) e ∙ captured_status d ∙ ap (λ x. status_number (captured_dtm x d).sticky) (sym e);
}

-- ---- a shift

shifted : (r : DataRegister) (shift : List Bool) (tdo : Bool) (sticky : Sticky) (given : List Bool) (taken : List (Option Bool)) (answer : Option Bool)
    (tdi : Bool)
    → InData r shift sticky given taken × Asked shift tdo answer → InData r (shift_in tdi shift) sticky (given ++ tdi ∷ []) (taken ++ answer ∷ [])
shifted r shift tdo sticky given taken answer tdi (i, a) = record {
  was = i.was;
  some = i.some;
  shift_is = ap (shift_in tdi) i.shift_is ∙ sym (stays-more i.was given tdi i.some);
  agree =
      let leaves : AgreesWith answer (lowest (stays i.was given)) = subst (AgreesWith answer) (a.tdo_is ∙ ap lowest i.shift_is) a.answer_is in
      subst (Agree (taken ++ answer ∷ [])) (sym (comes_out-more i.was given tdi i.some))
      (agree_more taken (comes_out i.was given) answer (lowest (stays i.was given)) i.agree leaves);
  width = i.width;
  status = i.status;
}

code_some : 0 < length captured_code
unfolding captured_code bits_of
code_some = omega arith

code_shifted : (shift given : List Bool) (tdi : Bool) → InCode shift given → InCode (shift_in tdi shift) (given ++ tdi ∷ [])
code_shifted shift given tdi i = ap (shift_in tdi) i ∙ sym (stays-more captured_code given tdi code_some)

-- ---- a rise in this state, which leads to the next one

pub rise_keeps : (state : TapState) (tms tdi : Bool) (r : DataRegister) (d : Dtm) (shift : List Bool) (tdo : Bool) (given : List Bool)
    (taken : List (Option Bool)) (answer : Option Bool)
    → InScan state false r shift tdo d.sticky given taken answer
    → InScan (next_state state tms) true (selected_in (next_state state tms) r) (shift_after state r d tdi shift) tdo (captured_in state r d).sticky
    (given_after state tdi given) (taken_after state answer taken) answer
rise_keeps TestLogicReset false tdi r d shift tdo given taken answer i = tt
rise_keeps TestLogicReset true tdi r d shift tdo given taken answer i = tt
rise_keeps RunTestIdle false tdi r d shift tdo given taken answer i = tt
rise_keeps RunTestIdle true tdi r d shift tdo given taken answer i = tt
rise_keeps SelectDr false tdi r d shift tdo given taken answer i = tt
rise_keeps SelectDr true tdi r d shift tdo given taken answer i = tt
rise_keeps CaptureDr false tdi r d shift tdo given taken answer i = captured r d
rise_keeps CaptureDr true tdi r d shift tdo given taken answer i = captured r d
rise_keeps ShiftDr false tdi r d shift tdo given taken answer i = shifted r shift tdo d.sticky given taken answer tdi i
rise_keeps ShiftDr true tdi r d shift tdo given taken answer i = shifted r shift tdo d.sticky given taken answer tdi i
rise_keeps Exit1Dr false tdi r d shift tdo given taken answer i = i
rise_keeps Exit1Dr true tdi r d shift tdo given taken answer i = i
rise_keeps PauseDr false tdi r d shift tdo given taken answer i = i
rise_keeps PauseDr true tdi r d shift tdo given taken answer i = i
rise_keeps Exit2Dr false tdi r d shift tdo given taken answer i = i
rise_keeps Exit2Dr true tdi r d shift tdo given taken answer i = i
rise_keeps UpdateDr false tdi r d shift tdo given taken answer i = tt
rise_keeps UpdateDr true tdi r d shift tdo given taken answer i = tt
rise_keeps SelectIr false tdi r d shift tdo given taken answer i = tt
rise_keeps SelectIr true tdi r d shift tdo given taken answer i = tt
rise_keeps CaptureIr false tdi r d shift tdo given taken answer i = stays_all captured_code
rise_keeps CaptureIr true tdi r d shift tdo given taken answer i = stays_all captured_code
rise_keeps ShiftIr false tdi r d shift tdo given taken answer i = code_shifted shift given tdi i
rise_keeps ShiftIr true tdi r d shift tdo given taken answer i = code_shifted shift given tdi i
rise_keeps Exit1Ir false tdi r d shift tdo given taken answer i = i
rise_keeps Exit1Ir true tdi r d shift tdo given taken answer i = i
rise_keeps PauseIr false tdi r d shift tdo given taken answer i = i
rise_keeps PauseIr true tdi r d shift tdo given taken answer i = i
rise_keeps Exit2Ir false tdi r d shift tdo given taken answer i = i
rise_keeps Exit2Ir true tdi r d shift tdo given taken answer i = i
rise_keeps UpdateIr false tdi r d shift tdo given taken answer i = tt
rise_keeps UpdateIr true tdi r d shift tdo given taken answer i = tt

pub rise_selects : (state : TapState) (r : DataRegister) (code : ℕ) → r ≡ data_register_of code → selected_in state r ≡ data_register_of (code_in state code)
rise_selects TestLogicReset r code e = refl
rise_selects _ r code e = e

-- ---- a fall in this state

pub fall_keeps : (state : TapState) (r : DataRegister) (d : Dtm) (shift : List Bool) (tdo : Bool) (given : List Bool) (taken : List (Option Bool))
    (answer : Option Bool)
    → InScan state true r shift tdo d.sticky given taken answer
    → InScan state false (selected_after state shift r) shift (tdo_after state shift) (updated_in state r shift d).sticky given taken None
fall_keeps ShiftDr r d shift tdo given taken answer i = (i, record { tdo_is = refl; answer_is = tt })
fall_keeps Exit1Dr r d shift tdo given taken answer i = i
fall_keeps PauseDr r d shift tdo given taken answer i = i
fall_keeps Exit2Dr r d shift tdo given taken answer i = i
fall_keeps ShiftIr r d shift tdo given taken answer i = i
fall_keeps Exit1Ir r d shift tdo given taken answer i = i
fall_keeps PauseIr r d shift tdo given taken answer i = i
fall_keeps Exit2Ir r d shift tdo given taken answer i = i
fall_keeps UpdateDr r d shift tdo given taken answer i = tt
fall_keeps UpdateIr r d shift tdo given taken answer i = tt
fall_keeps TestLogicReset r d shift tdo given taken answer i = tt
fall_keeps RunTestIdle r d shift tdo given taken answer i = tt
fall_keeps SelectDr r d shift tdo given taken answer i = tt
fall_keeps CaptureDr r d shift tdo given taken answer i = tt
fall_keeps SelectIr r d shift tdo given taken answer i = tt
fall_keeps CaptureIr r d shift tdo given taken answer i = tt

pub fall_selects : (state : TapState) (r : DataRegister) (shift : List Bool) (tdo : Bool) (sticky : Sticky) (given : List Bool) (taken : List (Option Bool))
    (answer : Option Bool) (code : ℕ)
    → InScan state true r shift tdo sticky given taken answer → r ≡ data_register_of code
    → selected_after state shift r ≡ data_register_of (code_after state given code)
fall_selects UpdateIr r shift tdo sticky given taken answer code i e = ap (λ bits. data_register_of (number_of bits)) i
fall_selects _ r shift tdo sticky given taken answer code i e = e

-- ---- an answer

pub ask_keeps : (state : TapState) (tck : Bool) (r : DataRegister) (shift : List Bool) (tdo : Bool) (sticky : Sticky) (given : List Bool)
    (taken : List (Option Bool)) (answer : Option Bool)
    → InScan state tck r shift tdo sticky given taken answer → InScan state tck r shift tdo sticky given taken (Some tdo)
ask_keeps ShiftDr true r shift tdo sticky given taken answer i = i
ask_keeps ShiftDr false r shift tdo sticky given taken answer i = (i.0, record { tdo_is = i.1.tdo_is; answer_is = refl })
ask_keeps Exit1Dr tck r shift tdo sticky given taken answer i = i
ask_keeps PauseDr tck r shift tdo sticky given taken answer i = i
ask_keeps Exit2Dr tck r shift tdo sticky given taken answer i = i
ask_keeps UpdateDr true r shift tdo sticky given taken answer i = i
ask_keeps UpdateDr false r shift tdo sticky given taken answer i = tt
ask_keeps ShiftIr tck r shift tdo sticky given taken answer i = i
ask_keeps Exit1Ir tck r shift tdo sticky given taken answer i = i
ask_keeps PauseIr tck r shift tdo sticky given taken answer i = i
ask_keeps Exit2Ir tck r shift tdo sticky given taken answer i = i
ask_keeps UpdateIr true r shift tdo sticky given taken answer i = i
ask_keeps UpdateIr false r shift tdo sticky given taken answer i = tt
ask_keeps TestLogicReset tck r shift tdo sticky given taken answer i = tt
ask_keeps RunTestIdle tck r shift tdo sticky given taken answer i = tt
ask_keeps SelectDr tck r shift tdo sticky given taken answer i = tt
ask_keeps CaptureDr tck r shift tdo sticky given taken answer i = tt
ask_keeps SelectIr tck r shift tdo sticky given taken answer i = tt
ask_keeps CaptureIr tck r shift tdo sticky given taken answer i = tt
