use Rattle.std.proofs.Common.{arith}
use Rattle.debug_model.proofs.RiseLemmas.{within_more, within_then}
use Rattle.probe_session.specs.Commands.{ebreak_set, state_of}
use Rattle.probe_session.specs.Said.{said_by}
use Rattle.probe_session.proofs.LinkLemmas.{goes_at, if_err}
use Rattle.probe_session.proofs.OneLine.{if_err_map, if_ok_map, met_as, met_at, met_at_falls, met_falls, met_says}
use Rattle.probe_session.proofs.session.Session.ebreak.Goals as goal

pub returns-in_err-line-clause-falls : goal.returns-in_err-line-clause-falls
returns-in_err-line-clause-falls g c = if_err _ c.in_err-line.field-0.0 _ c.from_residual.ensures.1
    (met_falls (state_of c.args.self.now) (ebreak_set c.args.is_on c.args.self.now.hart) c.in_err-line.ensures.falls)

pub returns-in-Says-clause-went : goal.returns-in-Says-clause-went
returns-in-Says-clause-went g c = met_says (state_of c.args.self.now) (ebreak_set c.args.is_on c.args.self.now.hart) _
    (met_as _ _ _ c.in-Says.is c.in_ok-line.ensures.met)

pub returns-in-At-clause-went : goal.returns-in-At-clause-went
returns-in-At-clause-went g c =
    let m = met_as _ _ _ c.in-At.is c.in_ok-line.ensures.met in
    if_ok_map _ _ _ (λ line w. met_at (state_of c.args.self.now) (ebreak_set c.args.is_on) (said_by line) c.in-At.halted.number m.0 m.1 w)
    c.ebreak_line.ensures.went

pub returns-in-At-clause-falls : goal.returns-in-At-clause-falls
returns-in-At-clause-falls g c =
    let m = met_as _ _ _ c.in-At.is c.in_ok-line.ensures.met in
    if_err_map _ _ _ (λ f p. met_at_falls (state_of c.args.self.now) (ebreak_set c.args.is_on) c.in-At.halted.number m.0 m.1 c.meet.ensures.keeps.later p)
    c.ebreak_line.ensures.falls

pub returns-in-At-clause-keeps : goal.returns-in-At-clause-keeps
returns-in-At-clause-keeps g c =
    let m = met_as _ _ _ c.in-At.is c.in_ok-line.ensures.met in goes_at m.0 c.meet.ensures.keeps.later c.meet.ensures.keeps.fixed c.ebreak_line.ensures.keeps

pub returns-in_err-line-clause-rises : goal.returns-in_err-line-clause-rises
returns-in_err-line-clause-rises g c =
    within_more 2 26 _ _ c.meet.ensures.rises (omega arith)

pub returns-in-Says-clause-rises : goal.returns-in-Says-clause-rises
returns-in-Says-clause-rises g c =
    within_more 2 26 _ _ c.meet.ensures.rises (omega arith)

pub returns-in-At-clause-rises : goal.returns-in-At-clause-rises
returns-in-At-clause-rises g c =
    within_then 2 24 26 _ (g.D.Dmi.seen c.meet.new.link) _ c.meet.ensures.rises c.ebreak_line.ensures.rises c.meet.ensures.keeps.fixed (omega arith)
