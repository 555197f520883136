use Rattle.std.proofs.Common.{subst}
use Rattle.printed_lines.specs.declared.line.Line.{Line}
use Rattle.probe_run.specs.Told.{told}
use Rattle.probe_session.proofs.OneLine.{if_ok_map}
use Rattle.soft_session.specs.Stepping.{GoneLed, HitSeen, PcRead}
use Rattle.soft_session.proofs.GoingSteps.{goes_free, goes_held, goes_over}
use Rattle.probe_session.proofs.LinkLemmas.{if_err}
use Rattle.probe_session.proofs.OneLine.{if_err_map}
use Rattle.abstract_debugger.specs.Plan.{Plan}
use Rattle.soft_session.specs.Cuts.{Cuts, at_gone}
use Rattle.soft_session.proofs.CutFlow.{behind_held_cut, behind_over_cut, free_cut, held_cut, over_cut, pc_cut, slots_seen_cut}
use Rattle.std.proofs.Common.{arith}
use Rattle.abstract_debugger.specs.Debugger.{going}
use Rattle.abstract_debugger.specs.Plan.Plan.{say}
use Rattle.abstract_debugger.specs.Lines.Line.{Resumed}
use Rattle.probe_session.specs.Places.{ready}
use Rattle.soft_session.proofs.CausedCalls.{any_plan, last_fell, since_err, since_last}
use Rattle.soft_session.proofs.going.going_line.Goals as goal

pub returns-in_ok-stepped-in-Some-clause-led : goal.returns-in_ok-stepped-in-Some-clause-led
returns-in_ok-stepped-in-Some-clause-led g c =
    if_ok_map _ _ _ (λ (line : Line) gone. goes_over c.args.halted.number c.in-Some.at c.args.table.now c.in_ok-stepped-in-Some.stepped.is_whole line
    (told (g.D.Dmi.seen c.args.link.now)) (told (g.D.Dmi.seen c.breakpoint_at.new.link)) (told (g.D.Dmi.seen c.step_over_breakpoint.new.link))
    (told (g.D.Dmi.seen c.gone_line.new.link))
    (subst (λ r. PcRead c.args.halted.number c.args.table.now.addresses (told (g.D.Dmi.seen c.args.link.now)) (told (g.D.Dmi.seen c.breakpoint_at.new.link)) r)
    c.in-Some.is c.in_ok-at.ensures.read) c.in_ok-stepped-in-Some.ensures.led
    (subst (λ n. GoneLed n c.in_ok-stepped-in-Some.stepped.is_whole (told (g.D.Dmi.seen c.step_over_breakpoint.new.link))
    (told (g.D.Dmi.seen c.gone_line.new.link)) line) c.in_ok-stepped-in-Some.ensures.hart gone)) c.gone_line.ensures.led

pub returns-in_ok-stepped-in-None-clause-led : goal.returns-in_ok-stepped-in-None-clause-led
returns-in_ok-stepped-in-None-clause-led g c =
    if_ok_map _ _ _ (λ (line : Line) gone. goes_held c.args.halted.number c.args.table.now c.in_ok-stepped-in-None.stepped.is_whole line
    (told (g.D.Dmi.seen c.args.link.now)) (told (g.D.Dmi.seen c.breakpoint_at.new.link)) (told (g.D.Dmi.seen c.has_hit.new.link))
    (told (g.D.Dmi.seen c.one_step.new.link)) (told (g.D.Dmi.seen c.gone_line-in-None.new.link))
    (subst (λ r. PcRead c.args.halted.number c.args.table.now.addresses (told (g.D.Dmi.seen c.args.link.now)) (told (g.D.Dmi.seen c.breakpoint_at.new.link)) r)
    c.in-None.is c.in_ok-at.ensures.read)
    (subst (λ b. HitSeen c.args.halted.number (told (g.D.Dmi.seen c.breakpoint_at.new.link)) (told (g.D.Dmi.seen c.has_hit.new.link)) b)
    c.if-not-branch.false c.in_ok-has_hit-in-None.ensures.seen) c.in_ok-stepped-in-None.ensures.led
    (subst (λ n. GoneLed n c.in_ok-stepped-in-None.stepped.is_whole (told (g.D.Dmi.seen c.one_step.new.link)) (told (g.D.Dmi.seen c.gone_line-in-None.new.link))
    line) c.in_ok-stepped-in-None.ensures.hart gone)) c.gone_line-in-None.ensures.led

pub returns-then-not-branch-clause-led : goal.returns-then-not-branch-clause-led
returns-then-not-branch-clause-led g c =
    if_ok_map _ _ _ (λ (line : Line) went. goes_free c.args.halted.number c.args.table.now line (told (g.D.Dmi.seen c.args.link.now))
    (told (g.D.Dmi.seen c.breakpoint_at.new.link)) (told (g.D.Dmi.seen c.has_hit.new.link)) (told (g.D.Dmi.seen c.free_line.new.link))
    (subst (λ r. PcRead c.args.halted.number c.args.table.now.addresses (told (g.D.Dmi.seen c.args.link.now)) (told (g.D.Dmi.seen c.breakpoint_at.new.link)) r)
    c.in-None.is c.in_ok-at.ensures.read)
    (subst (λ b. HitSeen c.args.halted.number (told (g.D.Dmi.seen c.breakpoint_at.new.link)) (told (g.D.Dmi.seen c.has_hit.new.link)) b)
    c.if-not-branch.true c.in_ok-has_hit-in-None.ensures.seen) went) c.free_line.ensures.went

pub returns-in_err-at-clause-cut : goal.returns-in_err-at-clause-cut
returns-in_err-at-clause-cut g c =
    if_err _ c.in_err-at.field-0.0 _ c.from_residual.ensures.1
    (pc_cut c.args.halted.number c.args.table.now (told (g.D.Dmi.seen c.args.link.now)) (told (g.D.Dmi.seen c.breakpoint_at.new.link)) c.in_err-at.field-0.0
    c.in_err-at.ensures.cut)

pub returns-in_err-stepped-in-Some-clause-cut : goal.returns-in_err-stepped-in-Some-clause-cut
returns-in_err-stepped-in-Some-clause-cut g c =
    if_err _ c.in_err-stepped-in-Some.field-0.0 _ c.from_residual-in_err-stepped-in-Some.ensures.1
    (over_cut c.args.halted.number c.in-Some.at c.args.table.now (told (g.D.Dmi.seen c.args.link.now)) (told (g.D.Dmi.seen c.breakpoint_at.new.link))
    (told (g.D.Dmi.seen c.step_over_breakpoint.new.link)) c.in_err-stepped-in-Some.field-0.0
    (subst (λ r. PcRead c.args.halted.number c.args.table.now.addresses (told (g.D.Dmi.seen c.args.link.now)) (told (g.D.Dmi.seen c.breakpoint_at.new.link)) r)
    c.in-Some.is c.in_ok-at.ensures.read) c.in_err-stepped-in-Some.ensures.cut)

pub returns-in_ok-stepped-in-Some-clause-cut : goal.returns-in_ok-stepped-in-Some-clause-cut
returns-in_ok-stepped-in-Some-clause-cut g c =
    if_err_map _ _ _ (λ f cuts. behind_over_cut c.args.halted.number c.in-Some.at c.args.table.now c.in_ok-stepped-in-Some.stepped.is_whole
    (told (g.D.Dmi.seen c.args.link.now)) (told (g.D.Dmi.seen c.breakpoint_at.new.link)) (told (g.D.Dmi.seen c.step_over_breakpoint.new.link))
    (told (g.D.Dmi.seen c.gone_line.new.link)) f (subst (λ r. PcRead c.args.halted.number c.args.table.now.addresses (told (g.D.Dmi.seen c.args.link.now))
    (told (g.D.Dmi.seen c.breakpoint_at.new.link)) r)
    c.in-Some.is c.in_ok-at.ensures.read) c.in_ok-stepped-in-Some.ensures.led
    (λ next. (subst (λ n. (next : Plan) → Cuts (at_gone n c.in_ok-stepped-in-Some.stepped.is_whole next)
    (told (g.D.Dmi.seen c.step_over_breakpoint.new.link)) f (told (g.D.Dmi.seen c.gone_line.new.link))) c.in_ok-stepped-in-Some.ensures.hart cuts) next))
    c.gone_line.ensures.cut

pub returns-in_err-has_hit-in-None-clause-cut : goal.returns-in_err-has_hit-in-None-clause-cut
returns-in_err-has_hit-in-None-clause-cut g c =
    if_err _ c.in_err-has_hit-in-None.field-0.0 _ c.from_residual-in_err-has_hit-in-None.ensures.1
    (slots_seen_cut c.args.halted.number c.args.table.now (told (g.D.Dmi.seen c.args.link.now)) (told (g.D.Dmi.seen c.breakpoint_at.new.link))
    (told (g.D.Dmi.seen c.has_hit.new.link)) c.in_err-has_hit-in-None.field-0.0
    (subst (λ r. PcRead c.args.halted.number c.args.table.now.addresses (told (g.D.Dmi.seen c.args.link.now)) (told (g.D.Dmi.seen c.breakpoint_at.new.link)) r)
    c.in-None.is c.in_ok-at.ensures.read) c.in_err-has_hit-in-None.ensures.cut)

pub returns-then-not-branch-clause-cut : goal.returns-then-not-branch-clause-cut
returns-then-not-branch-clause-cut g c =
    if_err_map _ _ _ (λ f falls. free_cut c.args.halted.number c.args.table.now _ _ (told (g.D.Dmi.seen c.args.link.now))
    (told (g.D.Dmi.seen c.breakpoint_at.new.link)) (told (g.D.Dmi.seen c.has_hit.new.link)) (told (g.D.Dmi.seen c.free_line.new.link)) f
    (subst (λ r. PcRead c.args.halted.number c.args.table.now.addresses (told (g.D.Dmi.seen c.args.link.now)) (told (g.D.Dmi.seen c.breakpoint_at.new.link)) r)
    c.in-None.is c.in_ok-at.ensures.read) (subst (λ b. HitSeen c.args.halted.number (told (g.D.Dmi.seen c.breakpoint_at.new.link))
    (told (g.D.Dmi.seen c.has_hit.new.link)) b)
    c.if-not-branch.true c.in_ok-has_hit-in-None.ensures.seen) falls) c.free_line.ensures.falls

pub returns-in_err-stepped-in-None-clause-cut : goal.returns-in_err-stepped-in-None-clause-cut
returns-in_err-stepped-in-None-clause-cut g c =
    if_err _ c.in_err-stepped-in-None.field-0.0 _ c.from_residual-in_err-stepped-in-None.ensures.1
    (held_cut c.args.halted.number c.args.table.now (told (g.D.Dmi.seen c.args.link.now)) (told (g.D.Dmi.seen c.breakpoint_at.new.link))
    (told (g.D.Dmi.seen c.has_hit.new.link)) (told (g.D.Dmi.seen c.one_step.new.link)) c.in_err-stepped-in-None.field-0.0
    (subst (λ r. PcRead c.args.halted.number c.args.table.now.addresses (told (g.D.Dmi.seen c.args.link.now)) (told (g.D.Dmi.seen c.breakpoint_at.new.link)) r)
    c.in-None.is c.in_ok-at.ensures.read) (subst (λ b. HitSeen c.args.halted.number (told (g.D.Dmi.seen c.breakpoint_at.new.link))
    (told (g.D.Dmi.seen c.has_hit.new.link)) b)
    c.if-not-branch.false c.in_ok-has_hit-in-None.ensures.seen) c.in_err-stepped-in-None.ensures.cut)

pub returns-in_ok-stepped-in-None-clause-cut : goal.returns-in_ok-stepped-in-None-clause-cut
returns-in_ok-stepped-in-None-clause-cut g c =
    if_err_map _ _ _ (λ f cuts. behind_held_cut c.args.halted.number c.args.table.now c.in_ok-stepped-in-None.stepped.is_whole
    (told (g.D.Dmi.seen c.args.link.now)) (told (g.D.Dmi.seen c.breakpoint_at.new.link)) (told (g.D.Dmi.seen c.has_hit.new.link))
    (told (g.D.Dmi.seen c.one_step.new.link)) (told (g.D.Dmi.seen c.gone_line-in-None.new.link)) f (subst (λ r. PcRead c.args.halted.number
    c.args.table.now.addresses (told (g.D.Dmi.seen c.args.link.now)) (told (g.D.Dmi.seen c.breakpoint_at.new.link)) r)
    c.in-None.is c.in_ok-at.ensures.read) (subst (λ b. HitSeen c.args.halted.number (told (g.D.Dmi.seen c.breakpoint_at.new.link))
    (told (g.D.Dmi.seen c.has_hit.new.link)) b)
    c.if-not-branch.false c.in_ok-has_hit-in-None.ensures.seen) c.in_ok-stepped-in-None.ensures.led
    (λ next. (subst (λ n. (next : Plan) → Cuts (at_gone n c.in_ok-stepped-in-None.stepped.is_whole next) (told (g.D.Dmi.seen c.one_step.new.link)) f
    (told (g.D.Dmi.seen c.gone_line-in-None.new.link))) c.in_ok-stepped-in-None.ensures.hart cuts) next)) c.gone_line-in-None.ensures.cut

pub returns-in_err-at-clause-caused : goal.returns-in_err-at-clause-caused
returns-in_err-at-clause-caused g c =
    if_err _ c.in_err-at.field-0.0 _ c.from_residual.ensures.1
    (c.in_err-at.ensures.caused)

pub returns-in_err-stepped-in-Some-clause-caused : goal.returns-in_err-stepped-in-Some-clause-caused
returns-in_err-stepped-in-Some-clause-caused g c =
    since_err ⊥ c.in_err-stepped-in-Some.field-0.0 (g.D.Dmi.seen c.args.link.now) (g.D.Dmi.seen c.breakpoint_at.new.link)
    (g.D.Dmi.seen c.step_over_breakpoint.new.link) _ c.from_residual-in_err-stepped-in-Some.ensures.1 c.breakpoint_at.ensures.keeps.later
    c.step_over_breakpoint.ensures.keeps.later
    (c.in_err-stepped-in-Some.ensures.caused)

pub returns-in_ok-stepped-in-Some-clause-caused : goal.returns-in_ok-stepped-in-Some-clause-caused
returns-in_ok-stepped-in-Some-clause-caused g c =
    since_last ⊥ (g.D.Dmi.seen c.args.link.now) (g.D.Dmi.seen c.step_over_breakpoint.new.link) (g.D.Dmi.seen c.gone_line.new.link) _
    (omega (arith, c.breakpoint_at.ensures.keeps.later, c.step_over_breakpoint.ensures.keeps.later)) c.gone_line.ensures.keeps.later
    c.gone_line.ensures.caused

pub returns-in_err-has_hit-in-None-clause-caused : goal.returns-in_err-has_hit-in-None-clause-caused
returns-in_err-has_hit-in-None-clause-caused g c =
    since_err ⊥ c.in_err-has_hit-in-None.field-0.0 (g.D.Dmi.seen c.args.link.now) (g.D.Dmi.seen c.breakpoint_at.new.link)
    (g.D.Dmi.seen c.has_hit.new.link) _ c.from_residual-in_err-has_hit-in-None.ensures.1 c.breakpoint_at.ensures.keeps.later c.has_hit.ensures.keeps.later
    (c.in_err-has_hit-in-None.ensures.caused)

pub returns-then-not-branch-clause-caused : goal.returns-then-not-branch-clause-caused
returns-then-not-branch-clause-caused g c =
    last_fell (λ next. ready c.args.halted.number (going c.args.halted.number (say Resumed next))) any_plan (g.D.Dmi.seen c.args.link.now)
    (g.D.Dmi.seen c.has_hit.new.link) (g.D.Dmi.seen c.free_line.new.link) _
    (omega (arith, c.breakpoint_at.ensures.keeps.later, c.has_hit.ensures.keeps.later)) c.free_line.ensures.keeps.later c.free_line.ensures.falls

pub returns-in_err-stepped-in-None-clause-caused : goal.returns-in_err-stepped-in-None-clause-caused
returns-in_err-stepped-in-None-clause-caused g c =
    since_err ⊥ c.in_err-stepped-in-None.field-0.0 (g.D.Dmi.seen c.args.link.now) (g.D.Dmi.seen c.has_hit.new.link) (g.D.Dmi.seen c.one_step.new.link) _
    c.from_residual-in_err-stepped-in-None.ensures.1
    (omega (arith, c.breakpoint_at.ensures.keeps.later, c.has_hit.ensures.keeps.later)) c.one_step.ensures.keeps.later
    (c.in_err-stepped-in-None.ensures.caused)

pub returns-in_ok-stepped-in-None-clause-caused : goal.returns-in_ok-stepped-in-None-clause-caused
returns-in_ok-stepped-in-None-clause-caused g c =
    since_last ⊥ (g.D.Dmi.seen c.args.link.now) (g.D.Dmi.seen c.one_step.new.link) (g.D.Dmi.seen c.gone_line-in-None.new.link) _
    (omega (arith, c.breakpoint_at.ensures.keeps.later, c.has_hit.ensures.keeps.later, c.one_step.ensures.keeps.later))
    c.gone_line-in-None.ensures.keeps.later
    c.gone_line-in-None.ensures.caused
