use Rattle.debug_model.proofs.RiseLemmas.{within_more, within_then}
use Rattle.probe_trig.proofs.Refusals.{refuses_any}
use Rattle.std.proofs.Common.{ap, ◌∙◌, arith}
use Rattle.probe_trig.specs.declared.register.TriggerRegister.TheVariants.{Tinfo}
use Rattle.probe_trig.specs.Runs.{arming_version}
use Rattle.probe_trig.specs.Transfers.{asked}
use Rattle.probe_trig.proofs.ArmFits.{arms_offered, arms_tinfo, offered_did}
use Rattle.probe_run.proofs.ActLemmas.{if_err}
use Rattle.probe_trig.proofs.TransferLemmas.{failed_behind, failed_first}
use Rattle.probe_access.specs.Never.{NeverLost}
use Rattle.probe_access.proofs.NeverLemmas.{lost_then}
use Rattle.probe_trig.proofs.arming.arm_selected.Goals as goal

pub returns-in_err-tinfo-clause-failed : goal.returns-in_err-tinfo-clause-failed
returns-in_err-tinfo-clause-failed g c =
    if_err _ c.from_residual.result _ c.from_residual.ensures.1
    (failed_first _ _ _ _ _ _ _ _ (arms_tinfo c.args.halted.now.version c.args.what) c.in_err-tinfo.ensures.failed)

pub returns-in_err-arm_by-clause-failed : goal.returns-in_err-arm_by-clause-failed
returns-in_err-arm_by-clause-failed g c =
    let e = c.arming_version.ensures ∙ ap (λ v. arming_version v c.in_ok-tinfo.tinfo) c.version.ensures in
    if_err _ c.from_residual-in_err-arm_by.result _ c.from_residual-in_err-arm_by.ensures.1
    (failed_behind _ _ (asked Tinfo c.in_ok-tinfo.tinfo) _ _ _ _ _ _ _ _ c.reg_or_none.ensures.keeps.later c.arm_by.ensures.keeps.later
    c.in_ok-tinfo.ensures.made (arms_offered c.args.halted.now.version c.args.what c.in_ok-tinfo.tinfo) (rw e at c.in_err-arm_by.ensures.failed))

pub returns-clause-did : goal.returns-clause-did
returns-clause-did g c =
    let e = c.arming_version.ensures ∙ ap (λ v. arming_version v c.in_ok-tinfo.tinfo) c.version.ensures in
    offered_did c.args.halted.now.version c.args.what c.in_ok-tinfo.tinfo c.args.halted.now.number _ _ _ c.in_ok-tinfo.ensures.made
    (rw e at c.in_ok-arm_by.ensures.made)

pub returns-in_err-tinfo-clause-rises : goal.returns-in_err-tinfo-clause-rises
returns-in_err-tinfo-clause-rises g c =
    within_more 16 32 _ _ c.reg_or_none.ensures.rises (omega arith)

pub returns-in_err-arm_by-clause-rises : goal.returns-in_err-arm_by-clause-rises
returns-in_err-arm_by-clause-rises g c =
    within_then 16 16 32 _ (g.D.Dmi.seen c.reg_or_none.new.link) _ c.reg_or_none.ensures.rises c.arm_by.ensures.rises
    c.reg_or_none.ensures.keeps.fixed (omega arith)

pub returns-clause-rises : goal.returns-clause-rises
returns-clause-rises g c =
    within_then 16 16 32 _ (g.D.Dmi.seen c.reg_or_none.new.link) _ c.reg_or_none.ensures.rises c.arm_by.ensures.rises
    c.reg_or_none.ensures.keeps.fixed (omega arith)

pub returns-in_err-tinfo-clause-refuses : goal.returns-in_err-tinfo-clause-refuses
returns-in_err-tinfo-clause-refuses g c =
    if_err _ c.from_residual.result _ c.from_residual.ensures.1
    (refuses_any _ c.in_err-tinfo.ensures.refuses)

pub returns-in_err-arm_by-clause-refuses : goal.returns-in_err-arm_by-clause-refuses
returns-in_err-arm_by-clause-refuses g c =
    if_err _ c.from_residual-in_err-arm_by.result _ c.from_residual-in_err-arm_by.ensures.1
    (c.in_err-arm_by.ensures.refuses)

pub returns-in_err-arm_by-clause-never : goal.returns-in_err-arm_by-clause-never
returns-in_err-arm_by-clause-never g c =
    if_err (NeverLost (g.D.Dmi.seen c.args.link.now)) c.from_residual-in_err-arm_by.result _ c.from_residual-in_err-arm_by.ensures.1
    (lost_then _ (g.D.Dmi.seen c.args.link.now) (g.D.Dmi.seen c.reg_or_none.new.link) c.in_err-arm_by.field-0.0 c.reg_or_none.ensures.rises
    c.in_err-arm_by.ensures.never)
