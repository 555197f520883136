-- The call in which dpc and dcsr are read together with the first poll, put together.
use Rattle.std.proofs.Common.{◌≡◌, ◌∙◌, ◌≤◌, ◌<◌, ◌^◌, ◌++◌, ℕ, List, [], ◌∷◌, length, slice_index_or, All, Option, Some, None, false, arith, refl, ap, subst}
use Rattle.std.proofs.lemmas.List.Elements.{All-cons}
use Rattle.debug_model.specs.Addresses.{abstractcs_address, command_address, data0_address, data1_address}
use Rattle.debug_model.specs.declared.dmi.DmiFault.{DmiFault}
use Rattle.debug_model.specs.declared.dmi_op.DmiOp.{DmiOp}
use Rattle.debug_model.specs.declared.dmi_op.DmiOp.TheVariants.{Read, Write}
use Rattle.debug_model.specs.Dmi.{IsOperation}
use Rattle.debug_model.specs.Many.{AnswersAll, ManyCause, OperatedAll, OperationsCut}
use Rattle.debug_model.specs.Scan.{WhereTold}
use Rattle.rv_model.specs.DebugRegisters.{dcsr_number}
use Rattle.probe_access.specs.declared.fault.AccessFault.{AccessFault}
use Rattle.probe_access.specs.declared.fault.AccessFault.TheVariants as access_fault
use Rattle.probe_run.specs.Acts.{Act, Did, Tells, acts_of, op_act}
use Rattle.probe_access.specs.CommandRuns.{EndFailed, poll_act}
use Rattle.probe_access.specs.RegisterAccess.{transfer_word}
use Rattle.probe_access.specs.declared.stopped.Stop.{Stop}
use Rattle.probe_access.specs.Stops.{AsksStop, StopApartFailed, StopAskFailed, StopAsked, StopFailed, StopRead, StopTooEarly, dpc_number, stop_acts}
use Rattle.probe_access.proofs.AskCalls.{failed_behind, together_broke}
use Rattle.probe_access.proofs.Counted.{apart_counted}
use Rattle.probe_access.proofs.SentCalls.{four_small}
use Rattle.probe_run.proofs.ActLemmas.{did_list, did_together}

-- ---- the operations

six_acts : (a b c d e f : DmiOp) (results : List ℕ) (z : ℕ) → length results ≡ 6
    → acts_of (a ∷ b ∷ c ∷ d ∷ e ∷ f ∷ []) results
    ≡ op_act a (slice_index_or results 0 z) ∷ op_act b (slice_index_or results 1 z) ∷ op_act c (slice_index_or results 2 z) ∷ op_act d
    (slice_index_or results 3 z)
    ∷ op_act e (slice_index_or results 4 z) ∷ op_act f (slice_index_or results 5 z) ∷ []
six_acts a b c d e f [] z all = absurd (omega arith)
six_acts a b c d e f (p ∷ []) z all = absurd (omega arith)
six_acts a b c d e f (p ∷ q ∷ []) z all = absurd (omega arith)
six_acts a b c d e f (p ∷ q ∷ r ∷ []) z all = absurd (omega arith)
six_acts a b c d e f (p ∷ q ∷ r ∷ s ∷ []) z all = absurd (omega arith)
six_acts a b c d e f (p ∷ q ∷ r ∷ s ∷ t ∷ []) z all = absurd (omega arith)
six_acts a b c d e f (p ∷ q ∷ r ∷ s ∷ t ∷ u ∷ []) z all = refl
six_acts a b c d e f (p ∷ q ∷ r ∷ s ∷ t ∷ u ∷ v ∷ xs) z all = absurd (omega arith)

abbrev pub second_ops : ℕ → List DmiOp
second_ops dcsr = Write command_address dcsr ∷ Read data0_address ∷ Read abstractcs_address ∷ []

abbrev pub stop_ops : ℕ → ℕ → List DmiOp
stop_ops dpc dcsr = Write command_address dpc ∷ Read data1_address ∷ Read data0_address ∷ second_ops dcsr

abbrev pub dpc_word : ℕ
dpc_word = transfer_word false dpc_number

abbrev pub dcsr_word : ℕ
dcsr_word = transfer_word false dcsr_number

meant_ops : (dpc dcsr : ℕ) → dpc ≡ dpc_word → dcsr ≡ dcsr_word → stop_ops dpc dcsr ≡ stop_ops dpc_word dcsr_word
meant_ops dpc dcsr dpc_is dcsr_is = ap (λ n. stop_ops n dcsr) dpc_is ∙ ap (λ n. stop_ops dpc_word n) dcsr_is

stop_small : (dpc dcsr : ℕ) → dpc < 2 ^ 32 → dcsr < 2 ^ 32 → All IsOperation (stop_ops dpc dcsr)
stop_small dpc dcsr small_dpc small_dcsr =
    All-cons IsOperation (Write command_address dpc) (Read data1_address ∷ Read data0_address ∷ second_ops dcsr) (omega arith, small_dpc)
    (All-cons IsOperation (Read data1_address) (Read data0_address ∷ second_ops dcsr) (omega arith)
    (four_small (Read data0_address) (Write command_address dcsr) (Read data0_address) (Read abstractcs_address) (omega arith) (omega arith, small_dcsr)
    (omega arith) (omega arith)))

-- ---- the call

pub stop_did : (dpc dcsr : ℕ) (results : List ℕ) (old new : Tells) → dpc ≡ dpc_word → dcsr ≡ dcsr_word → dpc < 2 ^ 32 → dcsr < 2 ^ 32 → length results ≡ 6
    → WhereTold (OperatedAll (stop_ops dpc dcsr) results) old.far new.far → AnswersAll (stop_ops dpc dcsr) results old.coming new.coming
    → Did old (stop_acts (slice_index_or results 2 0) (slice_index_or results 1 0) (slice_index_or results 4 0) ++ poll_act (slice_index_or results 5 0) ∷ []) new
stop_did dpc dcsr results old new dpc_is dcsr_is small_dpc small_dcsr six told heard =
    did_list (acts_of (stop_ops dpc dcsr) results)
    (stop_acts (slice_index_or results 2 0) (slice_index_or results 1 0) (slice_index_or results 4 0) ++ poll_act (slice_index_or results 5 0) ∷ []) old new
    (ap (λ ops. acts_of ops results) (meant_ops dpc dcsr dpc_is dcsr_is)
    ∙ six_acts (Write command_address dpc_word) (Read data1_address) (Read data0_address) (Write command_address dcsr_word) (Read data0_address)
    (Read abstractcs_address) results 0 six)
    (did_together (Write command_address dpc) (Read data1_address ∷ Read data0_address ∷ second_ops dcsr) results old new
    (record { small = stop_small dpc dcsr small_dpc small_dcsr; told = told; heard = heard }))

pub stop_broke : (dpc dcsr old_count new_count : ℕ) (old new : Tells) (why : DmiFault) → dpc ≡ dpc_word → dcsr ≡ dcsr_word
    → WhereTold (OperationsCut (stop_ops dpc dcsr)) old.far new.far → ManyCause 6 old_count new_count old.far new.far old.coming why
    → StopAskFailed old_count new_count old new (access_fault.Dmi why)
stop_broke dpc dcsr old_count new_count old new why dpc_is dcsr_is cut cause =
    together_broke AsksStop (Write command_address dpc_word) (Read data1_address ∷ Read data0_address ∷ second_ops dcsr_word) old_count new_count old new.far
    why (subst (λ ops. WhereTold (OperationsCut ops) old.far new.far) (meant_ops dpc dcsr dpc_is dcsr_is) cut) cause

-- its end was polled for
pub stop_ask_failed : (low high word first : ℕ) (e : AccessFault) (count mid_count new_count : ℕ) (old mid new : Tells)
    → Did old (stop_acts low high word ++ poll_act first ∷ []) mid → count ≤ mid_count → mid_count ≤ new_count
    → EndFailed first mid_count new_count mid new e → StopAskFailed count new_count old new e
stop_ask_failed low high word first e count mid_count new_count old mid new did le later f =
    failed_behind AsksStop (Write command_address dpc_word) (Read data1_address ∷ Read data0_address ∷ second_ops dcsr_word) (stop_acts low high word) first e
    count mid_count new_count old mid new (AsksStop.asks low high word) did le later f

-- ---- behind an earlier count of faults

pub stop_apart_counted : (count mid_count new_count : ℕ) (old new : Tells) (e : AccessFault) → count ≤ mid_count → mid_count ≤ new_count
    → StopApartFailed mid_count new_count old new e → StopApartFailed count new_count old new e
stop_apart_counted count mid_count new_count old new e le later (StopApartFailed.at_dpc f) =
    StopApartFailed.at_dpc (apart_counted dpc_number count mid_count new_count old new e le later f)
stop_apart_counted count mid_count new_count old new e le later (StopApartFailed.at_dcsr pc mid r f) =
    StopApartFailed.at_dcsr pc mid r (apart_counted dcsr_number count mid_count new_count mid new e le later f)

-- ---- by its answer

pub stop_answered : (answer : Option Stop) (stop : Stop) (old new : Tells) → answer ≡ Some stop → StopAsked answer old new → StopRead stop.pc stop.cause old new
stop_answered answer stop old new is a = StopRead.at_once (subst (λ o. StopAsked o old new) is a)

pub stop_early : (answer : Option Stop) (old new : Tells) → answer ≡ None → StopAsked answer old new → StopTooEarly old new
stop_early answer old new is a = subst (λ o. StopAsked o old new) is a

pub stop_late_failed : (count mid_count new_count : ℕ) (old mid new : Tells) (e : AccessFault) → StopTooEarly old mid → count ≤ mid_count
    → mid_count ≤ new_count → StopApartFailed mid_count new_count mid new e → StopFailed count new_count old new e
stop_late_failed count mid_count new_count old mid new e early le later f =
    StopFailed.late mid early (stop_apart_counted count mid_count new_count mid new e le later f)
