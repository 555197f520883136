use Rattle.probe_session.specs.Commands.{state_of}
use Rattle.probe_session.proofs.LinkLemmas.{if_err}
use Rattle.probe_session.proofs.OneLine.{select_absent, select_falls, select_halted, select_running}
use Rattle.probe_session.proofs.SeenLemmas.{saw_as}
use Rattle.probe_session.proofs.session.Session.select.Goals as goal

pub returns-in_err-look-clause-falls : goal.returns-in_err-look-clause-falls
returns-in_err-look-clause-falls g c = if_err _ c.in_err-look.field-0.0 _ c.from_residual.ensures.1
    (select_falls (state_of c.args.self.now) c.args.hart c.in_err-look.ensures.fell)

pub returns-in-Absent-clause-went : goal.returns-in-Absent-clause-went
returns-in-Absent-clause-went g c = select_absent (state_of c.args.self.now) c.args.hart (saw_as c.in-Absent.is c.in_ok-look.ensures.saw)

pub returns-in-Running-clause-went : goal.returns-in-Running-clause-went
returns-in-Running-clause-went g c = select_running (state_of c.args.self.now) c.args.hart _ (saw_as c.in-Running.is c.in_ok-look.ensures.saw)

pub returns-in-Halted-clause-went : goal.returns-in-Halted-clause-went
returns-in-Halted-clause-went g c = select_halted (state_of c.args.self.now) c.args.hart _ (saw_as c.in-Halted.is c.in_ok-look.ensures.saw)
