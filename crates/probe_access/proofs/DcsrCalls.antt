-- The call in which dcsr is read together with the first poll, put together.
use Rattle.std.proofs.Common.{◌≡◌, ◌≤◌, ◌<◌, ◌^◌, ◌++◌, ℕ, List, [], ◌∷◌, length, slice_index_or, All, Option, Some, None, false, arith, refl, subst}
use Rattle.std.proofs.lemmas.List.Elements.{All-cons, All-nil}
use Rattle.debug_model.specs.Addresses.{abstractcs_address, command_address, data0_address}
use Rattle.debug_model.specs.declared.dmi.DmiFault.{DmiFault}
use Rattle.debug_model.specs.declared.dmi_op.DmiOp.{DmiOp}
use Rattle.debug_model.specs.declared.dmi_op.DmiOp.TheVariants.{Read, Write}
use Rattle.debug_model.specs.Dmi.{IsOperation}
use Rattle.debug_model.specs.Many.{AnswersAll, ManyCause, OperatedAll, OperationsCut}
use Rattle.debug_model.specs.Scan.{WhereTold}
use Rattle.rv_model.specs.DebugRegisters.{dcsr_number}
use Rattle.probe_access.specs.declared.fault.AccessFault.{AccessFault}
use Rattle.probe_access.specs.declared.fault.AccessFault.TheVariants as access_fault
use Rattle.probe_run.specs.Acts.{Act, Did, Tells, acts_of, op_act}
use Rattle.probe_access.specs.CommandRuns.{EndFailed, poll_act}
use Rattle.probe_access.specs.DcsrRuns.{AsksDcsr, DcsrAskFailed, DcsrAsked, DcsrRead, DcsrReadFailed, DcsrTooEarly, dcsr_acts}
use Rattle.probe_access.specs.RegisterAccess.{transfer_word}
use Rattle.probe_access.specs.RegisterRuns.{ReadApartFailed}
use Rattle.probe_access.proofs.AskCalls.{behind_counted, failed_behind, together_broke}
use Rattle.probe_access.proofs.Counted.{apart_counted}
use Rattle.probe_run.proofs.ActLemmas.{did_list, did_together}

three_acts : (a b c : DmiOp) (results : List ℕ) (z : ℕ) → length results ≡ 3
    → acts_of (a ∷ b ∷ c ∷ []) results
    ≡ op_act a (slice_index_or results 0 z) ∷ op_act b (slice_index_or results 1 z) ∷ op_act c (slice_index_or results 2 z) ∷ []
three_acts a b c [] z all = absurd (omega arith)
three_acts a b c (p ∷ []) z all = absurd (omega arith)
three_acts a b c (p ∷ q ∷ []) z all = absurd (omega arith)
three_acts a b c (p ∷ q ∷ r ∷ []) z all = refl
three_acts a b c (p ∷ q ∷ r ∷ s ∷ xs) z all = absurd (omega arith)

abbrev pub dcsr_ops : ℕ → List DmiOp
dcsr_ops wrote = Write command_address wrote ∷ Read data0_address ∷ Read abstractcs_address ∷ []

abbrev dcsr_word : ℕ
dcsr_word = transfer_word false dcsr_number

dcsr_small : (wrote : ℕ) → wrote < 2 ^ 32 → All IsOperation (dcsr_ops wrote)
dcsr_small wrote small =
    All-cons IsOperation (Write command_address wrote) (Read data0_address ∷ Read abstractcs_address ∷ []) (omega arith, small)
    (All-cons IsOperation (Read data0_address) (Read abstractcs_address ∷ []) (omega arith)
    (All-cons IsOperation (Read abstractcs_address) [] (omega arith) (All-nil IsOperation)))

-- ---- the call

pub dcsr_did : (wrote : ℕ) (results : List ℕ) (old new : Tells) → wrote ≡ dcsr_word → wrote < 2 ^ 32 → length results ≡ 3
    → WhereTold (OperatedAll (dcsr_ops wrote) results) old.far new.far → AnswersAll (dcsr_ops wrote) results old.coming new.coming
    → Did old (dcsr_acts (slice_index_or results 1 0) ++ poll_act (slice_index_or results 2 0) ∷ []) new
dcsr_did wrote results old new is small three told heard =
    subst (λ w. Did old (Act.Put command_address w ∷ Act.Got data0_address (slice_index_or results 1 0) ∷ poll_act (slice_index_or results 2 0) ∷ []) new) is
    (did_list (acts_of (dcsr_ops wrote) results)
    (Act.Put command_address wrote ∷ Act.Got data0_address (slice_index_or results 1 0) ∷ poll_act (slice_index_or results 2 0) ∷ []) old new
    (three_acts (Write command_address wrote) (Read data0_address) (Read abstractcs_address) results 0 three)
    (did_together (Write command_address wrote) (Read data0_address ∷ Read abstractcs_address ∷ []) results old new
    (record { small = dcsr_small wrote small; told = told; heard = heard })))

pub dcsr_broke : (wrote old_count new_count : ℕ) (old new : Tells) (why : DmiFault) → wrote ≡ dcsr_word
    → WhereTold (OperationsCut (dcsr_ops wrote)) old.far new.far → ManyCause 3 old_count new_count old.far new.far old.coming why
    → DcsrAskFailed old_count new_count old new (access_fault.Dmi why)
dcsr_broke wrote old_count new_count old new why is cut cause =
    together_broke AsksDcsr (Write command_address dcsr_word) (Read data0_address ∷ Read abstractcs_address ∷ []) old_count new_count old new.far why
    (subst (λ w. WhereTold (OperationsCut (dcsr_ops w)) old.far new.far) is cut) cause

-- its end was polled for
pub dcsr_ask_failed : (word first : ℕ) (e : AccessFault) (count mid_count new_count : ℕ) (old mid new : Tells)
    → Did old (dcsr_acts word ++ poll_act first ∷ []) mid → count ≤ mid_count → mid_count ≤ new_count → EndFailed first mid_count new_count mid new e
    → DcsrAskFailed count new_count old new e
dcsr_ask_failed word first e count mid_count new_count old mid new did le later f =
    failed_behind AsksDcsr (Write command_address dcsr_word) (Read data0_address ∷ Read abstractcs_address ∷ []) (dcsr_acts word) first e count mid_count
    new_count old mid new (AsksDcsr.asks word) did le later f

-- ---- by its answer

pub dcsr_answered : (answer : Option ℕ) (word : ℕ) (old new : Tells) → answer ≡ Some word → DcsrAsked answer old new → DcsrRead word old new
dcsr_answered answer word old new is a = DcsrRead.at_once (subst (λ o. DcsrAsked o old new) is a)

pub dcsr_early : (answer : Option ℕ) (old new : Tells) → answer ≡ None → DcsrAsked answer old new → DcsrTooEarly old new
dcsr_early answer old new is a = subst (λ o. DcsrAsked o old new) is a

pub dcsr_late_failed : (count mid_count new_count : ℕ) (old mid new : Tells) (e : AccessFault) → DcsrTooEarly old mid → count ≤ mid_count
    → mid_count ≤ new_count → ReadApartFailed dcsr_number mid_count new_count mid new e → DcsrReadFailed count new_count old new e
dcsr_late_failed count mid_count new_count old mid new e early le later f =
    DcsrReadFailed.late mid early (apart_counted dcsr_number count mid_count new_count mid new e le later f)

-- since an earlier count of faults
pub dcsr_counted : (count mid_count new_count : ℕ) (old new : Tells) (e : AccessFault) → count ≤ mid_count → mid_count ≤ new_count
    → DcsrReadFailed mid_count new_count old new e → DcsrReadFailed count new_count old new e
dcsr_counted count mid_count new_count old new e le later (DcsrReadFailed.asking f) =
    DcsrReadFailed.asking (behind_counted AsksDcsr _ _ count mid_count new_count old new e le later f)
dcsr_counted count mid_count new_count old new e le later (DcsrReadFailed.late mid early f) =
    DcsrReadFailed.late mid early (apart_counted dcsr_number count mid_count new_count mid new e le later f)
