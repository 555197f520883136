use Rattle.std.proofs.Common.{None, Some}
use Rattle.probe_trig.proofs.ArmFits.{arms_did}
use Rattle.probe_trig.proofs.SlotCalls.{makes_armed, makes_full}
use Rattle.probe_trig.proofs.CutLemmas.{failed_cut}
use Rattle.probe_trig.proofs.Told.{did_at}
use Rattle.probe_run.proofs.ActLemmas.{if_err}
use Rattle.probe_trig.proofs.Untold.{failed_left}
use Rattle.probe_trig.proofs.arming.arm.Goals as goal

pub returns-in_err-slot-clause-left : goal.returns-in_err-slot-clause-left
returns-in_err-slot-clause-left g c = if_err _ c.from_residual.result _ c.from_residual.ensures.1
    (failed_left _ _ _ _ _ _ _ c.in_err-slot.field-0.0 c.in_err-slot.ensures.failed)

pub returns-in-Some-clause-did : goal.returns-in-Some-clause-did
returns-in-Some-clause-did g c =
    arms_did c.args.halted.now.version c.args.what (Some c.in-Some.slot) c.args.halted.now.number _ _ (rw (c.in-Some.is) at c.in_ok-slot.ensures.did)

pub returns-in-None-clause-failed : goal.returns-in-None-clause-failed
returns-in-None-clause-failed g c =
    arms_did c.args.halted.now.version c.args.what None c.args.halted.now.number _ _ (rw (c.in-None.is) at c.in_ok-slot.ensures.did)

pub returns-in-Some-clause-armed : goal.returns-in-Some-clause-armed
returns-in-Some-clause-armed g c =
    did_at _ _ c.args.halted.now.number _ _ _ c.requires.serving.ready c.requires.serving.halted
    (makes_armed c.args.what c.in-Some.slot c.args.halted.now.number c.requires.can)
    (arms_did c.args.halted.now.version c.args.what (Some c.in-Some.slot) c.args.halted.now.number _ _ (rw (c.in-Some.is) at c.in_ok-slot.ensures.did))

pub returns-in-None-clause-left : goal.returns-in-None-clause-left
returns-in-None-clause-left g c =
    did_at _ _ c.args.halted.now.number _ _ _ c.requires.serving.ready c.requires.serving.halted (makes_full c.args.what c.args.halted.now.number)
    (arms_did c.args.halted.now.version c.args.what None c.args.halted.now.number _ _ (rw (c.in-None.is) at c.in_ok-slot.ensures.did))

pub returns-in_err-slot-clause-cut : goal.returns-in_err-slot-clause-cut
returns-in_err-slot-clause-cut g c =
    if_err _ c.from_residual.result _ c.from_residual.ensures.1
    (failed_cut _ c.args.halted.now.number _ _ _ _ _ c.in_err-slot.field-0.0 c.requires.serving.ready c.requires.serving.halted
    c.in_err-slot.ensures.failed)

pub returns-in_err-slot-clause-refuses : goal.returns-in_err-slot-clause-refuses
returns-in_err-slot-clause-refuses g c =
    if_err _ c.from_residual.result _ c.from_residual.ensures.1
    (c.in_err-slot.ensures.refuses)
