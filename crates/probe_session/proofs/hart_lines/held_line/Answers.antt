use Rattle.probe_session.proofs.HartLines.{register_falls, register_refused, register_shown}
use Rattle.probe_session.proofs.LinkLemmas.{if_err}
use Rattle.probe_session.proofs.hart_lines.held_line.Goals as goal

pub returns-in_err-value-clause-falls : goal.returns-in_err-value-clause-falls
returns-in_err-value-clause-falls g c = if_err _ c.in_err-value.field-0.0 _ c.from_residual.ensures.1
    (register_falls c.args.halted.now.number c.args.number c.in_err-value.ensures.fell)

pub returns-in-Some-clause-went : goal.returns-in-Some-clause-went
returns-in-Some-clause-went g c = register_shown c.args.halted.now.number c.args.number c.in-Some.value c.requires.other c.requires.of
    (rw c.in-Some.is at c.in_ok-value.ensures.got)

pub returns-in-None-clause-went : goal.returns-in-None-clause-went
returns-in-None-clause-went g c = register_refused c.args.halted.now.number c.args.number c.requires.other c.requires.of (rw c.in-None.is at c.in_ok-value.ensures.got)
