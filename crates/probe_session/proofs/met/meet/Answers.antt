use Rattle.probe_session.proofs.LinkLemmas.{if_err}
use Rattle.probe_session.proofs.OneLine.{met_absent, met_halted, met_none, met_running, of_halted}
use Rattle.probe_session.proofs.SeenLemmas.{saw_as}
use Rattle.probe_session.proofs.met.meet.Goals as goal

pub returns-in_err-look-clause-falls : goal.returns-in_err-look-clause-falls
returns-in_err-look-clause-falls g c = if_err _ c.in_err-look.field-0.0 _ c.from_residual.ensures.1 (met_none c.args.hart c.in_err-look.ensures.fell)

pub returns-in-Absent-clause-met : goal.returns-in-Absent-clause-met
returns-in-Absent-clause-met g c = met_absent c.args.hart (saw_as c.in-Absent.is c.in_ok-look.ensures.saw)

pub returns-in-Running-clause-met : goal.returns-in-Running-clause-met
returns-in-Running-clause-met g c = met_running c.args.hart _ (saw_as c.in-Running.is c.in_ok-look.ensures.saw)

pub returns-in-Halted-clause-met : goal.returns-in-Halted-clause-met
returns-in-Halted-clause-met g c = (of_halted c.in-Halted.is c.in_ok-look.ensures.of, met_halted c.args.hart _ (saw_as c.in-Halted.is c.in_ok-look.ensures.saw))
