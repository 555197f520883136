use Rattle.probe_session.proofs.HartLines.{free_falls, not_used, slot_freed}
use Rattle.probe_session.proofs.LinkLemmas.{if_err}
use Rattle.probe_session.proofs.SeenLemmas.{freed_false, freed_true}
use Rattle.probe_session.proofs.hart_lines.freed_line.Goals as goal

pub returns-in_err-disarm-clause-falls : goal.returns-in_err-disarm-clause-falls
returns-in_err-disarm-clause-falls g c = if_err _ c.in_err-disarm.field-0.0 _ c.from_residual.ensures.1
    (free_falls c.args.halted.now.number c.args.slot c.in_err-disarm.ensures.fell)

pub returns-then-branch-clause-went : goal.returns-then-branch-clause-went
returns-then-branch-clause-went g c = slot_freed c.args.halted.now.number c.args.slot (freed_true c.if-branch.true c.in_ok-disarm.ensures.freed)

pub returns-else-branch-clause-went : goal.returns-else-branch-clause-went
returns-else-branch-clause-went g c = not_used c.args.halted.now.number c.args.slot (freed_false c.if-branch.false c.in_ok-disarm.ensures.freed)
