use Rattle.std.proofs.Common.{[]}
use Rattle.probe_session.proofs.LinkLemmas.{if_err}
use Rattle.probe_run.specs.Told.{told}
use Rattle.probe_session.specs.Met.{before_look}
use Rattle.soft_session.proofs.CutSteps.{falls_cut}
use Rattle.soft_session.proofs.CausedCalls.{any_rest, fell}
use Rattle.soft_session.proofs.going.meet_hart.Goals as goal

pub returns-in_err-met-clause-cut : goal.returns-in_err-met-clause-cut
returns-in_err-met-clause-cut g c =
    if_err _ c.in_err-met.field-0.0 _ c.from_residual.ensures.1
    (λ r. falls_cut (before_look c.args.soft.now.session.hart) r _ _ (told (g.D.Dmi.seen c.args.link.now))
    (told (g.D.Dmi.seen c.meet.new.link)) c.in_err-met.field-0.0 c.in_err-met.ensures.falls)

pub returns-in_err-met-clause-caused : goal.returns-in_err-met-clause-caused
returns-in_err-met-clause-caused g c =
    if_err _ c.in_err-met.field-0.0 _ c.from_residual.ensures.1
    (fell (before_look c.args.soft.now.session.hart) any_rest [] c.in_err-met.field-0.0 (g.D.Dmi.seen c.args.link.now) (g.D.Dmi.seen c.meet.new.link)
    c.in_err-met.ensures.falls)
