use Rattle.probe_session.proofs.HartLines.{pending_falls, pending_refused, pending_shown}
use Rattle.probe_session.proofs.LinkLemmas.{if_err}
use Rattle.probe_session.proofs.hart_lines.pending_line.Goals as goal

pub returns-in_err-value-clause-falls : goal.returns-in_err-value-clause-falls
returns-in_err-value-clause-falls g c = if_err _ c.in_err-value.field-0.0 _ c.from_residual.ensures.1
    (pending_falls c.args.halted.now.number c.in_err-value.ensures.fell)

pub returns-in-Some-clause-went : goal.returns-in-Some-clause-went
returns-in-Some-clause-went g c = pending_shown c.args.halted.now.number c.in-Some.value (rw c.in-Some.is at c.in_ok-value.ensures.got)

pub returns-in-None-clause-went : goal.returns-in-None-clause-went
returns-in-None-clause-went g c = pending_refused c.args.halted.now.number (rw c.in-None.is at c.in_ok-value.ensures.got)
