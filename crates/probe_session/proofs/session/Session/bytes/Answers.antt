use Rattle.probe_session.specs.Commands.{state_of}
use Rattle.probe_session.specs.Reach.{dumped}
use Rattle.probe_session.proofs.LinkLemmas.{if_err}
use Rattle.probe_session.proofs.MemoryLines.{memory_rest, reach_falls, reach_says, reached_as}
use Rattle.probe_session.proofs.WentLemmas.{within}
use Rattle.probe_session.proofs.session.Session.bytes.Goals as goal

pub returns-in_err-line-clause-falls : goal.returns-in_err-line-clause-falls
returns-in_err-line-clause-falls g c = if_err _ c.in_err-line.field-0.0 _ c.from_residual.ensures.1
    (reach_falls (state_of c.args.self.now) (dumped c.args.address c.args.count) c.in_err-line.ensures.falls)

pub returns-in-Says-clause-went : goal.returns-in-Says-clause-went
returns-in-Says-clause-went g c = reach_says (state_of c.args.self.now) (dumped c.args.address c.args.count) _
    (reached_as _ _ _ c.in-Says.is c.in_ok-line.ensures.reached)

pub returns-in-By-clause-went : goal.returns-in-By-clause-went
returns-in-By-clause-went g c = within (memory_rest (state_of c.args.self.now) (dumped c.args.address c.args.count))
    (reached_as _ _ _ c.in-By.is c.in_ok-line.ensures.reached)
