use Rattle.probe_run.specs.Told.{told}
use Rattle.probe_session.proofs.OneLine.{if_ok_map}
use Rattle.printed_lines.specs.declared.line.Line.{Line}
use Rattle.soft_session.proofs.SteppingSteps.{gone_other, gone_whole}
use Rattle.probe_session.proofs.OneLine.{if_err_map}
use Rattle.soft_session.proofs.CutFlow.{gone_other_cut, gone_whole_cut}
use Rattle.std.proofs.Common.{arith}
use Rattle.probe_session.specs.Commands.{at_stop_line}
use Rattle.abstract_debugger.specs.Debugger.{going}
use Rattle.abstract_debugger.specs.Plan.Plan.{say}
use Rattle.abstract_debugger.specs.Lines.Line.{Resumed}
use Rattle.probe_session.specs.Places.{ready}
use Rattle.soft_session.proofs.CausedCalls.{any_plan, last_fell}
use Rattle.soft_session.proofs.going.gone_line.Goals as goal

pub returns-then-stepped-clause-led : goal.returns-then-stepped-clause-led
returns-then-stepped-clause-led g c =
    if_ok_map _ _ _ (λ (line : Line) went. gone_whole c.args.stepped.halted.number c.args.stepped.is_whole line (told (g.D.Dmi.seen c.args.link.now))
    (told (g.D.Dmi.seen c.free_line.new.link)) c.if-stepped.true went) c.free_line.ensures.went

pub returns-else-stepped-clause-led : goal.returns-else-stepped-clause-led
returns-else-stepped-clause-led g c =
    if_ok_map _ _ _ (λ (line : Line) went. gone_other c.args.stepped.halted.number c.args.stepped.is_whole line (told (g.D.Dmi.seen c.args.link.now))
    (told (g.D.Dmi.seen c.stop_line.new.link)) c.if-stepped.false went) c.stop_line.ensures.went

pub returns-then-stepped-clause-cut : goal.returns-then-stepped-clause-cut
returns-then-stepped-clause-cut g c =
    if_err_map _ _ _ (λ f falls. gone_whole_cut c.args.stepped.halted.number c.args.stepped.is_whole _ _ (told (g.D.Dmi.seen c.args.link.now))
    (told (g.D.Dmi.seen c.free_line.new.link)) f c.if-stepped.true falls)
    c.free_line.ensures.falls

pub returns-else-stepped-clause-cut : goal.returns-else-stepped-clause-cut
returns-else-stepped-clause-cut g c =
    if_err_map _ _ _ (λ f falls. gone_other_cut c.args.stepped.halted.number c.args.stepped.is_whole _ _ (told (g.D.Dmi.seen c.args.link.now))
    (told (g.D.Dmi.seen c.stop_line.new.link)) f c.if-stepped.false falls)
    c.stop_line.ensures.falls

pub returns-then-stepped-clause-caused : goal.returns-then-stepped-clause-caused
returns-then-stepped-clause-caused g c =
    last_fell (λ next. ready c.args.stepped.halted.number (going c.args.stepped.halted.number (say Resumed next))) any_plan
    (g.D.Dmi.seen c.args.link.now) (g.D.Dmi.seen c.args.link.now) (g.D.Dmi.seen c.free_line.new.link) _ (omega arith)
    c.free_line.ensures.keeps.later c.free_line.ensures.falls

pub returns-else-stepped-clause-caused : goal.returns-else-stepped-clause-caused
returns-else-stepped-clause-caused g c =
    last_fell (at_stop_line c.args.stepped.halted.number) any_plan (g.D.Dmi.seen c.args.link.now) (g.D.Dmi.seen c.args.link.now)
    (g.D.Dmi.seen c.stop_line.new.link) _ (omega arith)
    c.stop_line.ensures.keeps.later c.stop_line.ensures.falls
