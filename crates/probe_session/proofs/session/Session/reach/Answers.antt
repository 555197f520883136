use Rattle.std.proofs.Common.{refl}
use Rattle.debug_model.proofs.RiseLemmas.{within_none}
use Rattle.probe_session.specs.Commands.{state_of}
use Rattle.probe_session.proofs.Knowing.{knows_by_bus, knows_by_hart}
use Rattle.probe_session.proofs.LinkLemmas.{if_err}
use Rattle.probe_session.proofs.MemoryLines.{reached_at, reached_bus, reached_falls, reached_says}
use Rattle.probe_session.proofs.OneLine.{met_as}
use Rattle.probe_session.proofs.session.Session.reach.Goals as goal

pub returns-in-Bus-clause-reached : goal.returns-in-Bus-clause-reached
returns-in-Bus-clause-reached g c = reached_bus (state_of c.args.self.now) _ c.in-Bus.is

pub returns-in-Says-clause-reached : goal.returns-in-Says-clause-reached
returns-in-Says-clause-reached g c = reached_says (state_of c.args.self.now) _ c.in-Progbuf.is (met_as _ _ _ c.in-Says.is c.in_ok-line-in-Progbuf.ensures.met)

pub returns-in-At-clause-reached : goal.returns-in-At-clause-reached
returns-in-At-clause-reached g c =
    let m = met_as _ _ _ c.in-At.is c.in_ok-line-in-Progbuf.ensures.met in
    reached_at (state_of c.args.self.now) c.in-At.halted c.in-Progbuf.is m.0 m.1

pub returns-in_err-line-in-Progbuf-clause-falls : goal.returns-in_err-line-in-Progbuf-clause-falls
returns-in_err-line-in-Progbuf-clause-falls g c = if_err _ c.in_err-line-in-Progbuf.field-0.0 _ c.from_residual.ensures.1
    (reached_falls (state_of c.args.self.now) c.in-Progbuf.is c.in_err-line-in-Progbuf.ensures.falls)

pub returns-in-Bus-clause-knows : goal.returns-in-Bus-clause-knows
returns-in-Bus-clause-knows g c = knows_by_bus _ c.args.self.now.known c.args.self.now.hart _ c.in-Bus.is c.requires.knows

pub returns-in-Says-clause-knows : goal.returns-in-Says-clause-knows
returns-in-Says-clause-knows g c = knows_by_hart _ c.args.self.now.known c.args.self.now.hart _ c.in-Progbuf.is c.in_ok-line-in-Progbuf.ensures.selects

pub returns-in-At-clause-knows : goal.returns-in-At-clause-knows
returns-in-At-clause-knows g c = knows_by_hart _ c.args.self.now.known c.args.self.now.hart _ c.in-Progbuf.is c.in_ok-line-in-Progbuf.ensures.selects

pub returns-in-Bus-clause-rises : goal.returns-in-Bus-clause-rises
returns-in-Bus-clause-rises g c =
    within_none 2 _ _ refl
