-- The clauses of the call that says where a halted hart stands, where the chip is told.
use Rattle.probe_run.specs.Told.{Serving}
use Rattle.std.proofs.Common.{◌≡◌, ◌∙◌, ◌≤◌, ◌<◌, ◌^◌, ℕ, Bool, true, false, Option, Some, None, refl, sym, ap, subst, arith}
use Rattle.std.proofs.lemmas.Option.{same_Some}
use Rattle.rv_model.specs.declared.cause.Cause.{Cause}
use Rattle.rv_model.specs.declared.cause.Cause.TheVariants as cause
use Rattle.rv_model.specs.declared.dcsr.Dcsr.{Dcsr}
use Rattle.rv_model.specs.Board.{Hart}
use Rattle.rv_model.specs.Cause.{cause_number}
use Rattle.rv_model.specs.Fields.{bit_value}
use Rattle.rv_model.specs.Dcsr.{dcsr_of, dcsr_of_word, dcsr_value, dcsr_word, shown_cause}
use Rattle.rv_model.specs.DebugRegisters.{dcsr_number, debug_value}
use Rattle.rv_model.specs.Registers.{csr_value}
use Rattle.rv_model.proofs.DebugWordLemmas.{dcsr_read_back}
use Rattle.debug_model.specs.Dmi.{DmiComing}
use Rattle.debug_model.specs.Module.{Site}
use Rattle.debug_model.specs.Scan.{WhereTold}
use Rattle.debug_model.specs.SystemBus.{BusUnit}
use Rattle.debug_model.specs.Told.{Far, IsHalted, IsReady, Selects, site_of}
use Rattle.probe_access.specs.declared.fault.AccessFault.{AccessFault}
use Rattle.probe_run.specs.Acts.{Tells, tells}
use Rattle.probe_access.specs.Registers.{reaches}
use Rattle.probe_access.specs.Scratches.{ScratchLeft}
use Rattle.probe_access.specs.Stops.{AsksStop, StopApartFailed, StopFailed, StopRead, StoppedAt, dpc_number}
use Rattle.probe_access.proofs.AccessTold.{held_as}
use Rattle.probe_access.proofs.AroundTold.{apart_clean, behind_clean}
use Rattle.probe_access.proofs.AroundUntold.{apart_plain, behind_plain}
use Rattle.probe_access.proofs.RegAnswers.{ReadTold, StoodTold, apart_told, stood_passed}
use Rattle.probe_access.proofs.RegClauses.{first_told, stood_serving, untold_serving}
use Rattle.probe_access.proofs.ScratchClauses.{clean_left, plain_left}
use Rattle.probe_access.proofs.StopTold.{StopHeld, stop_early_told, stop_told, stop_untold}

dpc_value : (y : Hart) → debug_value y dpc_number ≡ Some y.core.pc
unfolding debug_value
dpc_value y = refl

pub dcsr_held : (y : Hart) → debug_value y dcsr_number ≡ Some (dcsr_value y.debug)
unfolding debug_value csr_value
dcsr_held y = refl

reads_dpc : (y : Hart) → reaches false y dpc_number ≡ true
unfolding debug_value
reads_dpc y = refl

pub reads_dcsr : (y : Hart) → reaches false y dcsr_number ≡ true
unfolding debug_value csr_value
reads_dcsr y = refl

small_cause : (c : Cause) → cause_number c < 8
small_cause cause.Ebreak = omega arith
small_cause cause.Trigger = omega arith
small_cause cause.HaltReq = omega arith
small_cause cause.Step = omega arith
small_cause cause.Reset = omega arith

pub small_shown : (o : Option Cause) → shown_cause o < 8
small_shown None = omega arith
small_shown (Some c) = small_cause c

shown_back : (y : Hart) → (dcsr_of_word (dcsr_value y.debug)).cause ≡ shown_cause y.debug.halted
shown_back y = ap (λ (d : Dcsr). d.cause) (dcsr_read_back (dcsr_of y.debug) (small_shown y.debug.halted))

bit_small : (place : ℕ) (b : Bool) → bit_value place b ≤ 2 ^ place
bit_small place true = omega arith
bit_small place false = omega arith

dcsr_thin : (d : Dcsr) → d.cause < 8 → dcsr_word d < 2 ^ 32
unfolding dcsr_word
dcsr_thin d small =
    let a : bit_value 15 d.ebreakm ≤ 2 ^ 15 = bit_small 15 d.ebreakm in
    let b : bit_value 11 d.stepie ≤ 2 ^ 11 = bit_small 11 d.stepie in
    let e : bit_value 2 d.step ≤ 2 ^ 2 = bit_small 2 d.step in
    omega arith

-- dcsr is read by its lower word
pub thin_as : (x : Hart) (held word : ℕ) → debug_value x dcsr_number ≡ Some held → (held < 2 ^ 32 → word ≡ held) → word ≡ dcsr_value x.debug
thin_as x held word is value_is =
    let same : held ≡ dcsr_value x.debug = same_Some held (dcsr_value x.debug) (sym is ∙ dcsr_held x) in
    value_is (subst (λ n. n < 2 ^ 32) (sym same) (dcsr_thin (dcsr_of x.debug) (small_shown x.debug.halted))) ∙ same

pub record StopOk (h pc cause : ℕ) (old new : Option Far) : Type 0 where
  pub stopped_at : WhereTold (StoppedAt h pc cause) old new
  pub serving : Serving h new

pub stop_ok : (h pc cause : ℕ) (far : Option Far) (coming : Option DmiComing) (new : Tells) → IsReady far → Selects h far → IsHalted h far
    → StopRead pc cause (tells far coming) new → StopOk h pc cause far new.far
stop_ok h pc cause None coming new ready selects halted r =
    let end : new.far ≡ None = stop_untold pc cause (tells None coming) new r refl in
    record { stopped_at = end; serving = untold_serving h new.far end }
stop_ok h pc cause (Some f) coming new ready selects halted r =
    let s : Site = site_of f in
    let x : Hart = halted.hart in
    let small = (ready.harts h x halted.is).registers in
    let a : StopHeld pc cause h s.unit.bus x s x new.far =
    stop_told pc cause h s.unit.bus x s x (tells (Some f) coming) new (first_told h f ready halted selects) r in
    record {
      stopped_at = record {
        far = a.then.far;
        is = a.then.is;
        hart = x;
        here = halted.is;
        pc_is = held_as x dpc_number a.dpc pc x.core.pc (dpc_value x) a.dpc_is a.pc_is (small dpc_number x.core.pc (dpc_value x));
        cause_is =
            a.cause_is
            ∙ ap (λ w. (dcsr_of_word w).cause) (thin_as x a.dcsr a.word a.dcsr_is a.word_is)
            ∙ shown_back x;
        passed = stood_passed h s x a.then.kept (site_of a.then.far) a.then.stood;
      };
      serving = stood_serving h f ready halted new.far a.then;
    }

apart_plainly : (old_count new_count : ℕ) (old new : Tells) (e : AccessFault) → StopApartFailed old_count new_count old new e → ScratchLeft None e
apart_plainly old_count new_count old new e (StopApartFailed.at_dpc f) = plain_left e (apart_plain dpc_number 0 ⊥ old_count new_count old new e f)
apart_plainly old_count new_count old new e (StopApartFailed.at_dcsr pc mid r f) =
    plain_left e (apart_plain dcsr_number 0 ⊥ old_count new_count mid new e f)

stop_plain : (old_count new_count : ℕ) (old new : Tells) (e : AccessFault) → StopFailed old_count new_count old new e → ScratchLeft None e
stop_plain old_count new_count old new e (StopFailed.asking f) = plain_left e (behind_plain AsksStop _ _ 0 ⊥ old_count new_count old new e f)
stop_plain old_count new_count old new e (StopFailed.late mid early f) = apart_plainly old_count new_count mid new e f

apart_cleanly : (h : ℕ) (c : Far) (bus : BusUnit) (x : Hart) (s : Site) (old_count new_count : ℕ) (old new : Tells) (e : AccessFault)
    → StoodTold h bus x s x old.far → StopApartFailed old_count new_count old new e → ScratchLeft (Some c) e
apart_cleanly h c bus x s old_count new_count old new e st (StopApartFailed.at_dpc f) =
    clean_left c e (apart_clean dpc_number h bus x s x old_count new_count old new e (record { small = omega arith; other = refl }) (reads_dpc x) st f)
apart_cleanly h c bus x s old_count new_count old new e st (StopApartFailed.at_dcsr pc mid r f) =
    let a : ReadTold dpc_number pc h bus x s x mid.far = apart_told dpc_number pc h bus x s x old mid (record { small = omega arith; other = refl }) st r in
    clean_left c e (apart_clean dcsr_number h bus x s x old_count new_count mid new e (record { small = omega arith; other = refl }) (reads_dcsr x) a.then f)

stop_clean : (h : ℕ) (c : Far) (bus : BusUnit) (x : Hart) (s : Site) (old_count new_count : ℕ) (old new : Tells) (e : AccessFault)
    → StoodTold h bus x s x old.far → StopFailed old_count new_count old new e → ScratchLeft (Some c) e
stop_clean h c bus x s old_count new_count old new e st (StopFailed.asking f) = clean_left c e (behind_clean AsksStop _ _ old_count new_count old new e f)
stop_clean h c bus x s old_count new_count old new e st (StopFailed.late mid early f) =
    apart_cleanly h c bus x s old_count new_count mid new e (stop_early_told h bus x s x old mid st early) f

pub stop_err : (h : ℕ) (far : Option Far) (coming : Option DmiComing) (old_count new_count : ℕ) (new : Tells) (e : AccessFault) → IsReady far → Selects h far
    → IsHalted h far → StopFailed old_count new_count (tells far coming) new e → ScratchLeft far e
stop_err h None coming old_count new_count new e ready selects halted f = stop_plain old_count new_count (tells None coming) new e f
stop_err h (Some c) coming old_count new_count new e ready selects halted f =
    stop_clean h c (site_of c).unit.bus halted.hart (site_of c) old_count new_count (tells (Some c) coming) new e (first_told h c ready halted selects) f
