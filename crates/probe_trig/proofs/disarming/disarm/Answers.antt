use Rattle.probe_trig.proofs.SlotCalls.{makes_freed, makes_unused}
use Rattle.probe_trig.proofs.CutLemmas.{failed_cut}
use Rattle.probe_trig.proofs.Told.{did_at}
use Rattle.probe_run.proofs.ActLemmas.{if_err}
use Rattle.probe_trig.proofs.Untold.{failed_left}
use Rattle.probe_trig.proofs.disarming.disarm.Goals as goal

pub returns-in_err-free-clause-left : goal.returns-in_err-free-clause-left
returns-in_err-free-clause-left g c = if_err _ c.from_residual.result _ c.from_residual.ensures.1
    (failed_left _ _ _ _ _ _ _ c.in_err-free.field-0.0 c.in_err-free.ensures.failed)

pub returns-then-branch-clause-left : goal.returns-then-branch-clause-left
returns-then-branch-clause-left g c =
    did_at _ _ c.args.halted.now.number _ _ _ c.requires.serving.ready c.requires.serving.halted
    (makes_unused c.args.slot c.args.halted.now.number c.requires.slot) (rw (c.if-branch.true) at c.in_ok-free.ensures.did)

pub returns-clause-freed : goal.returns-clause-freed
returns-clause-freed g c =
    did_at _ _ c.args.halted.now.number _ _ _ c.requires.serving.ready c.requires.serving.halted
    (makes_freed c.args.slot c.args.halted.now.number c.requires.slot) (rw (c.if-branch.false) at c.in_ok-free.ensures.did)

pub returns-in_err-free-clause-cut : goal.returns-in_err-free-clause-cut
returns-in_err-free-clause-cut g c =
    if_err _ c.from_residual.result _ c.from_residual.ensures.1
    (failed_cut _ c.args.halted.now.number _ _ _ _ _ c.in_err-free.field-0.0 c.requires.serving.ready c.requires.serving.halted
    c.in_err-free.ensures.failed)
