use Rattle.probe_trig.proofs.Refusals.{read_refuses}
use Rattle.std.proofs.Common.{◌∙◌, ap}
use Rattle.probe_access.specs.Pending.{is_mip}
use Rattle.probe_run.proofs.ActLemmas.{if_err}
use Rattle.probe_trig.proofs.TransferLemmas.{get_failed, made_one, not_mip}
use Rattle.probe_trig.specs.Transfers.Transfer.{Got}
use Rattle.probe_trig.proofs.register.reg.Goals as goal

pub held_reg-requires-clause-other : goal.held_reg-requires-clause-other
held_reg-requires-clause-other g c = ap is_mip c.number.ensures ∙ not_mip c.args.register

pub returns-in_err-value-clause-failed : goal.returns-in_err-value-clause-failed
returns-in_err-value-clause-failed g c =
    let e = c.number.ensures in
    if_err _ c.from_residual.result _ c.from_residual.ensures.1
    (get_failed c.args.register _ _ _ _ _ _ (rw e at c.in_err-value.ensures.failed) (rw e at c.in_err-value.ensures.left) c.in_err-value.ensures.cut)

pub returns-clause-made : goal.returns-clause-made
returns-clause-made g c =
    let e = c.number.ensures in
    made_one c.args.halted.now.number (Got c.args.register c.in_ok-value.value) _ _
    (record { read = rw e at c.in_ok-value.ensures.read; got = rw e at c.in_ok-value.ensures.got })

pub returns-in_err-value-clause-refuses : goal.returns-in_err-value-clause-refuses
returns-in_err-value-clause-refuses g c =
    if_err _ c.from_residual.result _ c.from_residual.ensures.1
    (let e = c.number.ensures in read_refuses _ _ _ _ _ _ (rw e at c.in_err-value.ensures.failed))
