use Rattle.probe_session.proofs.HartLines.{arm_falls, none_free, slot_armed}
use Rattle.probe_session.proofs.LinkLemmas.{if_err}
use Rattle.probe_session.proofs.SeenLemmas.{taken_none, taken_some}
use Rattle.probe_session.proofs.hart_lines.armed_line.Goals as goal

pub returns-in_err-slot-clause-falls : goal.returns-in_err-slot-clause-falls
returns-in_err-slot-clause-falls g c = if_err _ c.in_err-slot.field-0.0 _ c.from_residual.ensures.1
    (arm_falls c.args.halted.now.number c.args.what c.in_err-slot.ensures.fell)

pub returns-in-Some-clause-went : goal.returns-in-Some-clause-went
returns-in-Some-clause-went g c = slot_armed c.args.halted.now.number c.in-Some.slot c.args.what c.requires.can
    (taken_some c.in-Some.is c.in_ok-slot.ensures.taken)

pub returns-in-None-clause-went : goal.returns-in-None-clause-went
returns-in-None-clause-went g c = none_free c.args.halted.now.number c.args.what (taken_none c.in-None.is c.in_ok-slot.ensures.taken)
