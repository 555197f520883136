use Rattle.probe_session.specs.Commands.{state_of}
use Rattle.probe_session.specs.Reach.{slots_shown}
use Rattle.probe_session.proofs.LinkLemmas.{if_err}
use Rattle.probe_session.proofs.OneLine.{met_as, met_falls, met_says}
use Rattle.probe_session.proofs.ShownLines.{met_shows}
use Rattle.probe_session.proofs.session.Session.slots.Goals as goal

pub returns-in_err-line-clause-falls : goal.returns-in_err-line-clause-falls
returns-in_err-line-clause-falls g c = if_err _ c.in_err-line.field-0.0 _ c.from_residual.ensures.1
    (met_falls (state_of c.args.self.now) (slots_shown c.args.self.now.hart) c.in_err-line.ensures.falls)

pub returns-in-Says-clause-went : goal.returns-in-Says-clause-went
returns-in-Says-clause-went g c = met_says (state_of c.args.self.now) (slots_shown c.args.self.now.hart) _
    (met_as _ _ _ c.in-Says.is c.in_ok-line.ensures.met)

pub returns-in-At-clause-went : goal.returns-in-At-clause-went
returns-in-At-clause-went g c =
    let m = met_as _ _ _ c.in-At.is c.in_ok-line.ensures.met in
    met_shows (state_of c.args.self.now) slots_shown c.in-At.halted.number m.0 m.1
