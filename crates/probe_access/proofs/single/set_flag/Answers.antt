use Rattle.std.proofs.Common.{◌≡◌, ℕ, Bool, true, Option, subst}
use Rattle.debug_model.specs.Scan.{WhereTold}
use Rattle.debug_model.specs.Told.{Far}
use Rattle.rv_model.specs.DebugRegisters.{dcsr_number}
use Rattle.probe_access.specs.declared.fault.AccessFault.{AccessFault}
use Rattle.probe_access.specs.Cuts.{IfCut, LeftAside, Leaves, MaybeWritten}
use Rattle.probe_access.specs.Registers.{RegisterWrittenAt}
use Rattle.probe_access.specs.RegisterRuns.{RegisterWritten, WriteFailed}
use Rattle.probe_access.specs.StepRuns.{FlagFailed, FlagWritten, with_flag}
use Rattle.probe_run.specs.Acts.{Tells}
use Rattle.probe_access.proofs.RegisterCalls.{err_failed}
use Rattle.probe_access.proofs.StepLemmas.{flag_at, flag_cut, never_refused, writes_dcsr}
use Rattle.probe_access.proofs.single.set_flag.Goals as goal

-- the value that was written is the word with its flag so

set_as : (on : Bool) (h word value : ℕ) (old new : Option Far) → value ≡ with_flag on word → WhereTold (RegisterWrittenAt h dcsr_number value) old new
    → WhereTold (RegisterWrittenAt h dcsr_number (with_flag on word)) old new
set_as on h word value old new is p = subst (λ v. WhereTold (RegisterWrittenAt h dcsr_number v) old new) is p

cut_as : (on : Bool) (h word value : ℕ) (old new : Option Far) (e : AccessFault) → value ≡ with_flag on word
    → IfCut (Leaves (LeftAside (MaybeWritten dcsr_number value) h) old new) e
    → IfCut (Leaves (LeftAside (MaybeWritten dcsr_number (with_flag on word)) h) old new) e
cut_as on h word value old new e is p = subst (λ v. IfCut (Leaves (LeftAside (MaybeWritten dcsr_number v) h) old new) e) is p

wrote_as : (on : Bool) (word value : ℕ) (old new : Tells) → value ≡ with_flag on word → RegisterWritten dcsr_number value old new → FlagWritten on word old new
wrote_as on word value old new is p = subst (λ v. RegisterWritten dcsr_number v old new) is p

failed_as : (on : Bool) (word value old_count new_count : ℕ) (old new : Tells) (e : AccessFault) → value ≡ with_flag on word
    → WriteFailed dcsr_number value old_count new_count old new e → FlagFailed on word old_count new_count old new e
failed_as on word value old_count new_count old new e is p = subst (λ v. WriteFailed dcsr_number v old_count new_count old new e) is p

pub returns-in_err-set_reg-clause-left : goal.returns-in_err-set_reg-clause-left
returns-in_err-set_reg-clause-left g c =
    err_failed c.from_residual.result c.in_err-set_reg.field-0.0 _ c.from_residual.ensures.1
    (never_refused true c.args.halted.now.number dcsr_number _ _ c.in_err-set_reg.field-0.0 writes_dcsr c.in_err-set_reg.ensures.left)

pub returns-in_err-set_reg-clause-failed : goal.returns-in_err-set_reg-clause-failed
returns-in_err-set_reg-clause-failed g c =
    err_failed c.from_residual.result c.in_err-set_reg.field-0.0 _ c.from_residual.ensures.1
    (failed_as c.args.on c.args.word c.flagged-value.result _ _ _ _ c.in_err-set_reg.field-0.0 c.flagged-value.ensures c.in_err-set_reg.ensures.failed)

pub returns-in_err-set_reg-clause-cut : goal.returns-in_err-set_reg-clause-cut
returns-in_err-set_reg-clause-cut g c =
    err_failed c.from_residual.result c.in_err-set_reg.field-0.0 _ c.from_residual.ensures.1
    (flag_cut c.args.on c.args.halted.now.number c.args.word _ _ c.in_err-set_reg.field-0.0 c.requires.ebreakm
    (cut_as c.args.on c.args.halted.now.number c.args.word c.flagged-value.result _ _ c.in_err-set_reg.field-0.0 c.flagged-value.ensures
    c.in_err-set_reg.ensures.cut))

pub returns-clause-flagged_at : goal.returns-clause-flagged_at
returns-clause-flagged_at g c =
    flag_at c.args.on c.args.halted.now.number c.args.word _ _ c.requires.serving.ready c.requires.serving.halted c.requires.ebreakm
    (set_as c.args.on c.args.halted.now.number c.args.word c.flagged-value.result _ _ c.flagged-value.ensures c.in_ok-set_reg.ensures.set_to)

pub returns-clause-written : goal.returns-clause-written
returns-clause-written g c = wrote_as c.args.on c.args.word c.flagged-value.result _ _ c.flagged-value.ensures c.in_ok-set_reg.ensures.written
