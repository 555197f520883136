use Rattle.probe_trig.proofs.Refusals.{write_refuses}
use Rattle.probe_run.proofs.ActLemmas.{if_err}
use Rattle.probe_trig.proofs.TransferLemmas.{made_one, set_failed}
use Rattle.probe_trig.specs.Transfers.Transfer.{Set}
use Rattle.probe_trig.proofs.register.set_reg.Goals as goal

pub returns-in_err-set_reg-clause-failed : goal.returns-in_err-set_reg-clause-failed
returns-in_err-set_reg-clause-failed g c =
    let e = c.number.ensures in
    if_err _ c.from_residual.result _ c.from_residual.ensures.1
    (set_failed c.args.register c.args.value _ _ _ _ _ _ (rw e at c.in_err-set_reg.ensures.failed) (rw e at c.in_err-set_reg.ensures.left)
    (rw e at c.in_err-set_reg.ensures.cut))

pub returns-clause-made : goal.returns-clause-made
returns-clause-made g c =
    let e = c.number.ensures in
    made_one c.args.halted.now.number (Set c.args.register c.args.value) _ _
    (record { written = rw e at c.in_ok-set_reg.ensures.written; set_to = rw e at c.in_ok-set_reg.ensures.set_to })

pub returns-in_err-set_reg-clause-refuses : goal.returns-in_err-set_reg-clause-refuses
returns-in_err-set_reg-clause-refuses g c =
    if_err _ c.from_residual.result _ c.from_residual.ensures.1
    (let e = c.number.ensures in write_refuses _ _ _ _ _ _ _ (rw e at c.in_err-set_reg.ensures.failed))
