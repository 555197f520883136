use Rattle.std.proofs.Common.{[]}
use Rattle.probe_run.specs.Told.{told}
use Rattle.probe_session.proofs.LinkLemmas.{if_err}
use Rattle.probe_session.specs.Commands.{state_of}
use Rattle.soft_session.proofs.ReachSteps.{reach_cut}
use Rattle.probe_session.specs.Reach.{before_reach}
use Rattle.soft_session.proofs.CausedCalls.{any_memory_rest, fell}
use Rattle.soft_session.proofs.memory.reach.Goals as goal

pub returns-in_err-reached-clause-cut : goal.returns-in_err-reached-clause-cut
returns-in_err-reached-clause-cut g c =
    if_err _ c.in_err-reached.field-0.0 _ c.from_residual.ensures.1
    (reach_cut (state_of c.args.soft.now.session) _ _ (told (g.D.Dmi.seen c.args.link.now)) (told (g.D.Dmi.seen c.reach.new.link))
    c.in_err-reached.field-0.0 c.in_err-reached.ensures.falls)

pub returns-in_err-reached-clause-caused : goal.returns-in_err-reached-clause-caused
returns-in_err-reached-clause-caused g c =
    if_err _ c.in_err-reached.field-0.0 _ c.from_residual.ensures.1
    (fell (before_reach (state_of c.args.soft.now.session)) any_memory_rest [] c.in_err-reached.field-0.0 (g.D.Dmi.seen c.args.link.now)
    (g.D.Dmi.seen c.reach.new.link)
    c.in_err-reached.ensures.falls)
