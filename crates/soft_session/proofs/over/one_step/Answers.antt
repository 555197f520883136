use Rattle.std.proofs.Common.{subst}
use Rattle.probe_run.specs.Told.{told}
use Rattle.probe_session.proofs.OneLine.{if_ok_map}
use Rattle.soft_session.specs.declared.over.Stepped.{Stepped}
use Rattle.soft_session.specs.Stepping.{PcRead}
use Rattle.soft_session.proofs.SteppingSteps.{one_over, one_plainly}
use Rattle.probe_session.proofs.LinkLemmas.{if_err}
use Rattle.probe_session.proofs.OneLine.{if_err_map}
use Rattle.soft_session.proofs.CutFlow.{one_over_cut, one_plain_cut}
use Rattle.soft_session.proofs.CausedCalls.{since_last}
use Rattle.soft_session.proofs.over.one_step.Goals as goal

pub returns-in-Some-clause-led : goal.returns-in-Some-clause-led
returns-in-Some-clause-led g c =
    if_ok_map _ _ _ (λ (s : Stepped) over. one_over c.args.halted.number c.in-Some.at c.args.table.now s.is_whole (told (g.D.Dmi.seen c.args.link.now))
    (told (g.D.Dmi.seen c.breakpoint_at.new.link)) (told (g.D.Dmi.seen c.step_over_breakpoint.new.link))
    (subst (λ r. PcRead c.args.halted.number c.args.table.now.addresses (told (g.D.Dmi.seen c.args.link.now)) (told (g.D.Dmi.seen c.breakpoint_at.new.link)) r)
    c.in-Some.is c.in_ok-at.ensures.read) over) c.step_over_breakpoint.ensures.led

pub returns-in-None-clause-led : goal.returns-in-None-clause-led
returns-in-None-clause-led g c =
    if_ok_map _ _ _ (λ (s : Stepped) steps. one_plainly c.args.halted.number c.args.table.now s.is_whole (told (g.D.Dmi.seen c.args.link.now))
    (told (g.D.Dmi.seen c.breakpoint_at.new.link)) (told (g.D.Dmi.seen c.step_plainly.new.link))
    (subst (λ r. PcRead c.args.halted.number c.args.table.now.addresses (told (g.D.Dmi.seen c.args.link.now)) (told (g.D.Dmi.seen c.breakpoint_at.new.link)) r)
    c.in-None.is c.in_ok-at.ensures.read) steps) c.step_plainly.ensures.led

pub returns-in_err-at-clause-cut : goal.returns-in_err-at-clause-cut
returns-in_err-at-clause-cut g c =
    if_err _ c.in_err-at.field-0.0 _ c.from_residual.ensures.1 (λ b t holds. c.in_err-at.ensures.cut _)

pub returns-in-Some-clause-cut : goal.returns-in-Some-clause-cut
returns-in-Some-clause-cut g c =
    if_err_map _ _ _ (λ f cuts. one_over_cut c.args.halted.number c.in-Some.at c.args.table.now (told (g.D.Dmi.seen c.args.link.now))
    (told (g.D.Dmi.seen c.breakpoint_at.new.link))
    (told (g.D.Dmi.seen c.step_over_breakpoint.new.link)) f (subst (λ r. PcRead c.args.halted.number c.args.table.now.addresses
    (told (g.D.Dmi.seen c.args.link.now)) (told (g.D.Dmi.seen c.breakpoint_at.new.link)) r)
    c.in-Some.is c.in_ok-at.ensures.read) cuts) c.step_over_breakpoint.ensures.cut

pub returns-in-None-clause-cut : goal.returns-in-None-clause-cut
returns-in-None-clause-cut g c =
    if_err_map _ _ _ (λ f cuts. one_plain_cut c.args.halted.number c.args.table.now (told (g.D.Dmi.seen c.args.link.now))
    (told (g.D.Dmi.seen c.breakpoint_at.new.link))
    (told (g.D.Dmi.seen c.step_plainly.new.link)) f (subst (λ r. PcRead c.args.halted.number c.args.table.now.addresses
    (told (g.D.Dmi.seen c.args.link.now)) (told (g.D.Dmi.seen c.breakpoint_at.new.link)) r)
    c.in-None.is c.in_ok-at.ensures.read) cuts) c.step_plainly.ensures.cut

pub returns-in_err-at-clause-caused : goal.returns-in_err-at-clause-caused
returns-in_err-at-clause-caused g c =
    if_err _ c.in_err-at.field-0.0 _ c.from_residual.ensures.1
    (c.in_err-at.ensures.caused)

pub returns-in-Some-clause-caused : goal.returns-in-Some-clause-caused
returns-in-Some-clause-caused g c =
    since_last ⊥ (g.D.Dmi.seen c.args.link.now) (g.D.Dmi.seen c.breakpoint_at.new.link) (g.D.Dmi.seen c.step_over_breakpoint.new.link) _
    c.breakpoint_at.ensures.keeps.later c.step_over_breakpoint.ensures.keeps.later c.step_over_breakpoint.ensures.caused

pub returns-in-None-clause-caused : goal.returns-in-None-clause-caused
returns-in-None-clause-caused g c =
    since_last ⊥ (g.D.Dmi.seen c.args.link.now) (g.D.Dmi.seen c.breakpoint_at.new.link) (g.D.Dmi.seen c.step_plainly.new.link) _
    c.breakpoint_at.ensures.keeps.later c.step_plainly.ensures.keeps.later c.step_plainly.ensures.caused
