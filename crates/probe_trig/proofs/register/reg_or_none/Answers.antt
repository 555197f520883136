use Rattle.probe_trig.proofs.Refusals.{refuses_none}
use Rattle.std.proofs.Common.{◌∙◌, ap}
use Rattle.probe_access.specs.Pending.{is_mip}
use Rattle.probe_trig.proofs.TransferLemmas.{ask_failed, made_one, not_mip}
use Rattle.probe_trig.proofs.Untold.{lacked}
use Rattle.probe_trig.specs.Transfers.Transfer.{Got, Lacked}
use Rattle.probe_trig.proofs.register.reg_or_none.Goals as goal

pub held_reg-requires-clause-other : goal.held_reg-requires-clause-other
held_reg-requires-clause-other g c = ap is_mip c.number.ensures ∙ not_mip c.args.register

pub returns-in-Ok-clause-made : goal.returns-in-Ok-clause-made
returns-in-Ok-clause-made g c =
    let e = c.number.ensures in
    made_one c.args.halted.now.number (Got c.args.register c.in-Ok.value) _ _
    (record { read = rw e at c.in-Ok.ensures.read; got = rw e at c.in-Ok.ensures.got })

pub returns-in-Register-clause-made : goal.returns-in-Register-clause-made
returns-in-Register-clause-made g c =
    let e = c.number.ensures in
    made_one c.args.halted.now.number (Lacked c.args.register) _ _
    (lacked c.args.halted.now.number c.in-Register.field-0 c.args.register _ _ _ _ c.in-Err.fault c.in-Register.is
    (rw e at c.in-Err.ensures.failed) (rw e at c.in-Err.ensures.left))

pub returns-in_default-clause-failed : goal.returns-in_default-clause-failed
returns-in_default-clause-failed g c =
    let e = c.number.ensures in
    ask_failed c.args.register _ _ _ _ _ _ (rw e at c.in-Err.ensures.failed) (rw e at c.in-Err.ensures.left) c.in-Err.ensures.cut

pub returns-in_default-clause-refuses : goal.returns-in_default-clause-refuses
returns-in_default-clause-refuses g c = refuses_none _ _ c.in_default.not-Register
