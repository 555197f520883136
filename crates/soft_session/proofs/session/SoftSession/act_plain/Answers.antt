use Rattle.std.proofs.Common.{◌∙◌, ap, refl, subst, sym}
use Rattle.debug_model.specs.declared.command.Command.{Command}
use Rattle.debug_model.specs.declared.command.Command.TheVariants as command
use Rattle.debug_model.specs.declared.soft_command.SoftCommand.TheVariants.{Plain}
use Rattle.probe_run.specs.Told.{told}
use Rattle.soft_session.specs.Led.{CommandLed, LineLed}
use Rattle.soft_session.proofs.ClosingSteps.{closed_end}
use Rattle.soft_session.proofs.PutSteps.{put_acted}
use Rattle.abstract_debugger.specs.Plan.Plan.{stop}
use Rattle.abstract_debugger.specs.Plan.PlanEnd.{Done}
use Rattle.soft_session.specs.Cuts.{CommandCut, CutsOf, at_command}
use Rattle.soft_session.specs.Led.{soft_state}
use Rattle.soft_session.proofs.PutSteps.{call_short, lines_acted, lines_fell, put_short}
use Rattle.soft_session.proofs.CausedEnds.{failed_caused, line_caused, lines_caused, unput_caused}
use Rattle.soft_session.proofs.session.SoftSession.act_plain.Goals as goal

pub returns-in_ok-resume-in-Resume-clause-acted : goal.returns-in_ok-resume-in-Resume-clause-acted
returns-in_ok-resume-in-Resume-clause-acted g c =
    put_acted (Plain c.args.command) c.in_ok-resume-in-Resume.field-0 c.args.self.now c.resume.new.soft (told (g.D.Dmi.seen c.args.link.now))
    (told (g.D.Dmi.seen c.resume.new.link)) (g.K.Sink.contents c.args.out.now) (g.K.Sink.contents c.line_put.new.out) c.line_put.result
    (subst (λ (k : Command). LineLed (Plain k) c.args.self.now c.resume.new.soft (told (g.D.Dmi.seen c.args.link.now))
    (told (g.D.Dmi.seen c.resume.new.link)) c.in_ok-resume-in-Resume.field-0) (sym c.in-Resume.is) c.in_ok-resume-in-Resume.ensures.led)
    c.line_put.ensures.put c.line_put.ensures.acted

pub returns-in_ok-step-in-Step-clause-acted : goal.returns-in_ok-step-in-Step-clause-acted
returns-in_ok-step-in-Step-clause-acted g c =
    put_acted (Plain c.args.command) c.in_ok-step-in-Step.field-0 c.args.self.now c.step.new.soft (told (g.D.Dmi.seen c.args.link.now))
    (told (g.D.Dmi.seen c.step.new.link)) (g.K.Sink.contents c.args.out.now) (g.K.Sink.contents c.line_put-in-Step.new.out) c.line_put-in-Step.result
    (subst (λ (k : Command). LineLed (Plain k) c.args.self.now c.step.new.soft (told (g.D.Dmi.seen c.args.link.now))
    (told (g.D.Dmi.seen c.step.new.link)) c.in_ok-step-in-Step.field-0) (sym c.in-Step.is) c.in_ok-step-in-Step.ensures.led) c.line_put-in-Step.ensures.put
    c.line_put-in-Step.ensures.acted

pub returns-in_ok-keep_ebreak-in-Ebreak-clause-acted : goal.returns-in_ok-keep_ebreak-in-Ebreak-clause-acted
returns-in_ok-keep_ebreak-in-Ebreak-clause-acted g c =
    put_acted (Plain c.args.command) c.in_ok-keep_ebreak-in-Ebreak.field-0 c.args.self.now c.keep_ebreak.new.self (told (g.D.Dmi.seen c.args.link.now))
    (told (g.D.Dmi.seen c.keep_ebreak.new.link)) (g.K.Sink.contents c.args.out.now) (g.K.Sink.contents c.line_put-in-Ebreak.new.out) c.line_put-in-Ebreak.result
    (subst (λ (k : Command). LineLed (Plain k) c.args.self.now c.keep_ebreak.new.self (told (g.D.Dmi.seen c.args.link.now))
    (told (g.D.Dmi.seen c.keep_ebreak.new.link)) c.in_ok-keep_ebreak-in-Ebreak.field-0) (sym (c.in-Ebreak.is ∙ ap command.Ebreak c.if-is_on.false))
    c.in_ok-keep_ebreak-in-Ebreak.ensures.led) c.line_put-in-Ebreak.ensures.put c.line_put-in-Ebreak.ensures.acted

pub returns-in_ok-close-in-End-clause-acted : goal.returns-in_ok-close-in-End-clause-acted
returns-in_ok-close-in-End-clause-acted g c = record {
  ends = ap Plain c.in-End.is;
  written = refl;
  led = closed_end c.args.self.now.table c.close.new.self.table (told (g.D.Dmi.seen c.args.link.now)) (told (g.D.Dmi.seen c.close.new.link))
      c.in_ok-close-in-End.ensures.led c.in_ok-close-in-End.ensures.none;
}

pub returns-in_err-resume-in-Resume-clause-cut : goal.returns-in_err-resume-in-Resume-clause-cut
returns-in_err-resume-in-Resume-clause-cut g c =
    call_short (Plain c.args.command) c.args.self.now (told (g.D.Dmi.seen c.args.link.now)) (told (g.D.Dmi.seen c.resume.new.link))
    (g.K.Sink.contents c.args.out.now) c.in_err-resume-in-Resume.field-0.0 _ c.from_residual.ensures.1
    (subst (λ (k : Command). CutsOf c.args.self.now.table (at_command (Plain k) (soft_state c.args.self.now)) (told (g.D.Dmi.seen c.args.link.now))
    (told (g.D.Dmi.seen c.resume.new.link)) c.in_err-resume-in-Resume.field-0.0) (sym c.in-Resume.is)
    c.in_err-resume-in-Resume.ensures.cut)

pub returns-in_ok-resume-in-Resume-clause-cut : goal.returns-in_ok-resume-in-Resume-clause-cut
returns-in_ok-resume-in-Resume-clause-cut g c =
    put_short (Plain c.args.command) c.in_ok-resume-in-Resume.field-0 c.args.self.now c.resume.new.soft (told (g.D.Dmi.seen c.args.link.now))
    (told (g.D.Dmi.seen c.resume.new.link)) (g.K.Sink.contents c.args.out.now)
    (g.K.Sink.contents c.line_put.new.out) c.line_put.result
    (subst (λ (k : Command). LineLed (Plain k) c.args.self.now c.resume.new.soft (told (g.D.Dmi.seen c.args.link.now))
    (told (g.D.Dmi.seen c.resume.new.link)) c.in_ok-resume-in-Resume.field-0) (sym c.in-Resume.is) c.in_ok-resume-in-Resume.ensures.led)
    c.line_put.ensures.front c.line_put.ensures.sink

pub returns-in_err-step-in-Step-clause-cut : goal.returns-in_err-step-in-Step-clause-cut
returns-in_err-step-in-Step-clause-cut g c =
    call_short (Plain c.args.command) c.args.self.now (told (g.D.Dmi.seen c.args.link.now)) (told (g.D.Dmi.seen c.step.new.link))
    (g.K.Sink.contents c.args.out.now) c.in_err-step-in-Step.field-0.0 _ c.from_residual-in_err-step-in-Step.ensures.1
    (subst (λ (k : Command). CutsOf c.args.self.now.table (at_command (Plain k) (soft_state c.args.self.now)) (told (g.D.Dmi.seen c.args.link.now))
    (told (g.D.Dmi.seen c.step.new.link)) c.in_err-step-in-Step.field-0.0) (sym c.in-Step.is)
    c.in_err-step-in-Step.ensures.cut)

pub returns-in_ok-step-in-Step-clause-cut : goal.returns-in_ok-step-in-Step-clause-cut
returns-in_ok-step-in-Step-clause-cut g c =
    put_short (Plain c.args.command) c.in_ok-step-in-Step.field-0 c.args.self.now c.step.new.soft (told (g.D.Dmi.seen c.args.link.now))
    (told (g.D.Dmi.seen c.step.new.link)) (g.K.Sink.contents c.args.out.now)
    (g.K.Sink.contents c.line_put-in-Step.new.out) c.line_put-in-Step.result
    (subst (λ (k : Command). LineLed (Plain k) c.args.self.now c.step.new.soft (told (g.D.Dmi.seen c.args.link.now))
    (told (g.D.Dmi.seen c.step.new.link)) c.in_ok-step-in-Step.field-0) (sym c.in-Step.is) c.in_ok-step-in-Step.ensures.led) c.line_put-in-Step.ensures.front
    c.line_put-in-Step.ensures.sink

pub returns-in_err-keep_ebreak-in-Ebreak-clause-cut : goal.returns-in_err-keep_ebreak-in-Ebreak-clause-cut
returns-in_err-keep_ebreak-in-Ebreak-clause-cut g c =
    call_short (Plain c.args.command) c.args.self.now (told (g.D.Dmi.seen c.args.link.now)) (told (g.D.Dmi.seen c.keep_ebreak.new.link))
    (g.K.Sink.contents c.args.out.now) c.in_err-keep_ebreak-in-Ebreak.field-0.0 _ c.from_residual-in_err-keep_ebreak-in-Ebreak.ensures.1
    (subst (λ (k : Command). CutsOf c.args.self.now.table (at_command (Plain k) (soft_state c.args.self.now)) (told (g.D.Dmi.seen c.args.link.now))
    (told (g.D.Dmi.seen c.keep_ebreak.new.link)) c.in_err-keep_ebreak-in-Ebreak.field-0.0) (sym (c.in-Ebreak.is ∙ ap command.Ebreak c.if-is_on.false))
    c.in_err-keep_ebreak-in-Ebreak.ensures.cut)

pub returns-in_ok-keep_ebreak-in-Ebreak-clause-cut : goal.returns-in_ok-keep_ebreak-in-Ebreak-clause-cut
returns-in_ok-keep_ebreak-in-Ebreak-clause-cut g c =
    put_short (Plain c.args.command) c.in_ok-keep_ebreak-in-Ebreak.field-0 c.args.self.now c.keep_ebreak.new.self (told (g.D.Dmi.seen c.args.link.now))
    (told (g.D.Dmi.seen c.keep_ebreak.new.link)) (g.K.Sink.contents c.args.out.now)
    (g.K.Sink.contents c.line_put-in-Ebreak.new.out) c.line_put-in-Ebreak.result
    (subst (λ (k : Command). LineLed (Plain k) c.args.self.now c.keep_ebreak.new.self (told (g.D.Dmi.seen c.args.link.now))
    (told (g.D.Dmi.seen c.keep_ebreak.new.link)) c.in_ok-keep_ebreak-in-Ebreak.field-0) (sym (c.in-Ebreak.is ∙ ap command.Ebreak c.if-is_on.false))
    c.in_ok-keep_ebreak-in-Ebreak.ensures.led) c.line_put-in-Ebreak.ensures.front c.line_put-in-Ebreak.ensures.sink

pub returns-in_err-close-in-End-clause-cut : goal.returns-in_err-close-in-End-clause-cut
returns-in_err-close-in-End-clause-cut g c =
    call_short (Plain c.args.command) c.args.self.now (told (g.D.Dmi.seen c.args.link.now)) (told (g.D.Dmi.seen c.close.new.link))
    (g.K.Sink.contents c.args.out.now) c.in_err-close-in-End.field-0.0 _
    c.from_residual-in_err-close-in-End.ensures.1
    (subst (λ (k : Command). CutsOf c.args.self.now.table (at_command (Plain k) (soft_state c.args.self.now)) (told (g.D.Dmi.seen c.args.link.now))
    (told (g.D.Dmi.seen c.close.new.link))
    c.in_err-close-in-End.field-0.0) (sym c.in-End.is) (λ next t holds. c.in_err-close-in-End.ensures.cut (stop Done) t holds))

pub returns-in_ok-read-in-Read-clause-acted : goal.returns-in_ok-read-in-Read-clause-acted
returns-in_ok-read-in-Read-clause-acted g c =
    lines_acted (Plain c.args.command) c.in_ok-read-in-Read.field-0 _ c.args.self.now c.read.new.soft (told (g.D.Dmi.seen c.args.link.now))
    (told (g.D.Dmi.seen c.read.new.link)) (g.K.Sink.contents c.args.out.now) (g.K.Sink.contents c.read.new.out)
    (subst (λ (k : Command). CommandLed (Plain k) c.args.self.now c.read.new.soft c.in_ok-read-in-Read.field-0 (told (g.D.Dmi.seen c.args.link.now))
    (told (g.D.Dmi.seen c.read.new.link)) (g.K.Sink.contents c.args.out.now) (g.K.Sink.contents c.read.new.out)) (sym c.in-Read.is)
    c.in_ok-read-in-Read.ensures.led) c.lines_put.ensures

pub returns-in_err-read-in-Read-clause-cut : goal.returns-in_err-read-in-Read-clause-cut
returns-in_err-read-in-Read-clause-cut g c =
    lines_fell (Plain c.args.command) c.args.self.now (told (g.D.Dmi.seen c.args.link.now)) (told (g.D.Dmi.seen c.read.new.link))
    (g.K.Sink.contents c.args.out.now) (g.K.Sink.contents c.read.new.out) c.in_err-read-in-Read.field-0.0 _ c.from_residual-in_err-read-in-Read.ensures.1
    (subst (λ (k : Command). CommandCut (Plain k) (soft_state c.args.self.now) c.args.self.now.table (told (g.D.Dmi.seen c.args.link.now))
    (told (g.D.Dmi.seen c.read.new.link)) (g.K.Sink.contents c.args.out.now) (g.K.Sink.contents c.read.new.out) c.in_err-read-in-Read.field-0.0)
    (sym c.in-Read.is) c.in_err-read-in-Read.ensures.cut)

pub returns-in_ok-dump-in-Dump-clause-acted : goal.returns-in_ok-dump-in-Dump-clause-acted
returns-in_ok-dump-in-Dump-clause-acted g c =
    lines_acted (Plain c.args.command) c.in_ok-dump-in-Dump.field-0 _ c.args.self.now c.dump.new.soft (told (g.D.Dmi.seen c.args.link.now))
    (told (g.D.Dmi.seen c.dump.new.link)) (g.K.Sink.contents c.args.out.now) (g.K.Sink.contents c.dump.new.out)
    (subst (λ (k : Command). CommandLed (Plain k) c.args.self.now c.dump.new.soft c.in_ok-dump-in-Dump.field-0 (told (g.D.Dmi.seen c.args.link.now))
    (told (g.D.Dmi.seen c.dump.new.link)) (g.K.Sink.contents c.args.out.now) (g.K.Sink.contents c.dump.new.out)) (sym c.in-Dump.is)
    c.in_ok-dump-in-Dump.ensures.led) c.lines_put-in-Dump.ensures

pub returns-in_err-dump-in-Dump-clause-cut : goal.returns-in_err-dump-in-Dump-clause-cut
returns-in_err-dump-in-Dump-clause-cut g c =
    lines_fell (Plain c.args.command) c.args.self.now (told (g.D.Dmi.seen c.args.link.now)) (told (g.D.Dmi.seen c.dump.new.link))
    (g.K.Sink.contents c.args.out.now) (g.K.Sink.contents c.dump.new.out) c.in_err-dump-in-Dump.field-0.0 _ c.from_residual-in_err-dump-in-Dump.ensures.1
    (subst (λ (k : Command). CommandCut (Plain k) (soft_state c.args.self.now) c.args.self.now.table (told (g.D.Dmi.seen c.args.link.now))
    (told (g.D.Dmi.seen c.dump.new.link)) (g.K.Sink.contents c.args.out.now) (g.K.Sink.contents c.dump.new.out) c.in_err-dump-in-Dump.field-0.0)
    (sym c.in-Dump.is) c.in_err-dump-in-Dump.ensures.cut)

pub returns-in_ok-write-in-Write-clause-acted : goal.returns-in_ok-write-in-Write-clause-acted
returns-in_ok-write-in-Write-clause-acted g c =
    put_acted (Plain c.args.command) c.in_ok-write-in-Write.field-0 c.args.self.now c.write.new.soft (told (g.D.Dmi.seen c.args.link.now))
    (told (g.D.Dmi.seen c.write.new.link)) (g.K.Sink.contents c.args.out.now) (g.K.Sink.contents c.line_put-in-Write.new.out) c.line_put-in-Write.result
    (subst (λ (k : Command). LineLed (Plain k) c.args.self.now c.write.new.soft (told (g.D.Dmi.seen c.args.link.now))
    (told (g.D.Dmi.seen c.write.new.link)) c.in_ok-write-in-Write.field-0) (sym c.in-Write.is) c.in_ok-write-in-Write.ensures.led)
    c.line_put-in-Write.ensures.put c.line_put-in-Write.ensures.acted

pub returns-in_err-write-in-Write-clause-cut : goal.returns-in_err-write-in-Write-clause-cut
returns-in_err-write-in-Write-clause-cut g c =
    call_short (Plain c.args.command) c.args.self.now (told (g.D.Dmi.seen c.args.link.now)) (told (g.D.Dmi.seen c.write.new.link))
    (g.K.Sink.contents c.args.out.now) c.in_err-write-in-Write.field-0.0 _ c.from_residual-in_err-write-in-Write.ensures.1
    (subst (λ (k : Command). CutsOf c.args.self.now.table (at_command (Plain k) (soft_state c.args.self.now)) (told (g.D.Dmi.seen c.args.link.now))
    (told (g.D.Dmi.seen c.write.new.link)) c.in_err-write-in-Write.field-0.0) (sym c.in-Write.is)
    c.in_err-write-in-Write.ensures.cut)

pub returns-in_ok-write-in-Write-clause-cut : goal.returns-in_ok-write-in-Write-clause-cut
returns-in_ok-write-in-Write-clause-cut g c =
    put_short (Plain c.args.command) c.in_ok-write-in-Write.field-0 c.args.self.now c.write.new.soft (told (g.D.Dmi.seen c.args.link.now))
    (told (g.D.Dmi.seen c.write.new.link)) (g.K.Sink.contents c.args.out.now)
    (g.K.Sink.contents c.line_put-in-Write.new.out) c.line_put-in-Write.result
    (subst (λ (k : Command). LineLed (Plain k) c.args.self.now c.write.new.soft (told (g.D.Dmi.seen c.args.link.now))
    (told (g.D.Dmi.seen c.write.new.link)) c.in_ok-write-in-Write.field-0) (sym c.in-Write.is) c.in_ok-write-in-Write.ensures.led)
    c.line_put-in-Write.ensures.front c.line_put-in-Write.ensures.sink

pub returns-in_err-resume-in-Resume-clause-caused : goal.returns-in_err-resume-in-Resume-clause-caused
returns-in_err-resume-in-Resume-clause-caused g c =
    unput_caused c.in_err-resume-in-Resume.field-0.0 (g.D.Dmi.seen c.args.link.now) (g.D.Dmi.seen c.resume.new.link) _ _ _ c.from_residual.ensures.1
    c.in_err-resume-in-Resume.ensures.caused

pub returns-in_ok-resume-in-Resume-clause-caused : goal.returns-in_ok-resume-in-Resume-clause-caused
returns-in_ok-resume-in-Resume-clause-caused g c =
    line_caused _ (g.D.Dmi.seen c.args.link.now) (g.D.Dmi.seen c.resume.new.link) _ _ c.line_put.result c.line_put.ensures.acted c.line_put.ensures.sink
    c.line_put.ensures.cause

pub returns-in_err-step-in-Step-clause-caused : goal.returns-in_err-step-in-Step-clause-caused
returns-in_err-step-in-Step-clause-caused g c =
    unput_caused c.in_err-step-in-Step.field-0.0 (g.D.Dmi.seen c.args.link.now) (g.D.Dmi.seen c.step.new.link) _ _ _
    c.from_residual-in_err-step-in-Step.ensures.1 c.in_err-step-in-Step.ensures.caused

pub returns-in_ok-step-in-Step-clause-caused : goal.returns-in_ok-step-in-Step-clause-caused
returns-in_ok-step-in-Step-clause-caused g c =
    line_caused _ (g.D.Dmi.seen c.args.link.now) (g.D.Dmi.seen c.step.new.link) _ _ c.line_put-in-Step.result c.line_put-in-Step.ensures.acted
    c.line_put-in-Step.ensures.sink c.line_put-in-Step.ensures.cause

pub returns-in_err-keep_ebreak-in-Ebreak-clause-caused : goal.returns-in_err-keep_ebreak-in-Ebreak-clause-caused
returns-in_err-keep_ebreak-in-Ebreak-clause-caused g c =
    unput_caused c.in_err-keep_ebreak-in-Ebreak.field-0.0 (g.D.Dmi.seen c.args.link.now) (g.D.Dmi.seen c.keep_ebreak.new.link) _ _ _
    c.from_residual-in_err-keep_ebreak-in-Ebreak.ensures.1 c.in_err-keep_ebreak-in-Ebreak.ensures.caused

pub returns-in_ok-keep_ebreak-in-Ebreak-clause-caused : goal.returns-in_ok-keep_ebreak-in-Ebreak-clause-caused
returns-in_ok-keep_ebreak-in-Ebreak-clause-caused g c =
    line_caused _ (g.D.Dmi.seen c.args.link.now) (g.D.Dmi.seen c.keep_ebreak.new.link) _ _ c.line_put-in-Ebreak.result c.line_put-in-Ebreak.ensures.acted
    c.line_put-in-Ebreak.ensures.sink c.line_put-in-Ebreak.ensures.cause

pub returns-in_err-write-in-Write-clause-caused : goal.returns-in_err-write-in-Write-clause-caused
returns-in_err-write-in-Write-clause-caused g c =
    unput_caused c.in_err-write-in-Write.field-0.0 (g.D.Dmi.seen c.args.link.now) (g.D.Dmi.seen c.write.new.link) _ _ _
    c.from_residual-in_err-write-in-Write.ensures.1 c.in_err-write-in-Write.ensures.caused

pub returns-in_ok-write-in-Write-clause-caused : goal.returns-in_ok-write-in-Write-clause-caused
returns-in_ok-write-in-Write-clause-caused g c =
    line_caused _ (g.D.Dmi.seen c.args.link.now) (g.D.Dmi.seen c.write.new.link) _ _ c.line_put-in-Write.result c.line_put-in-Write.ensures.acted
    c.line_put-in-Write.ensures.sink c.line_put-in-Write.ensures.cause

pub returns-in_err-read-in-Read-clause-caused : goal.returns-in_err-read-in-Read-clause-caused
returns-in_err-read-in-Read-clause-caused g c =
    failed_caused c.in_err-read-in-Read.field-0.0 (g.D.Dmi.seen c.args.link.now) (g.D.Dmi.seen c.read.new.link) _ _ _
    c.from_residual-in_err-read-in-Read.ensures.1 c.in_err-read-in-Read.ensures.caused

pub returns-in_ok-read-in-Read-clause-caused : goal.returns-in_ok-read-in-Read-clause-caused
returns-in_ok-read-in-Read-clause-caused g c =
    lines_caused _ _ (g.D.Dmi.seen c.args.link.now) (g.D.Dmi.seen c.read.new.link) _ _ c.lines_put.ensures

pub returns-in_err-dump-in-Dump-clause-caused : goal.returns-in_err-dump-in-Dump-clause-caused
returns-in_err-dump-in-Dump-clause-caused g c =
    failed_caused c.in_err-dump-in-Dump.field-0.0 (g.D.Dmi.seen c.args.link.now) (g.D.Dmi.seen c.dump.new.link) _ _ _
    c.from_residual-in_err-dump-in-Dump.ensures.1 c.in_err-dump-in-Dump.ensures.caused

pub returns-in_ok-dump-in-Dump-clause-caused : goal.returns-in_ok-dump-in-Dump-clause-caused
returns-in_ok-dump-in-Dump-clause-caused g c =
    lines_caused _ _ (g.D.Dmi.seen c.args.link.now) (g.D.Dmi.seen c.dump.new.link) _ _ c.lines_put-in-Dump.ensures

pub returns-in_err-close-in-End-clause-caused : goal.returns-in_err-close-in-End-clause-caused
returns-in_err-close-in-End-clause-caused g c =
    unput_caused c.in_err-close-in-End.field-0.0 (g.D.Dmi.seen c.args.link.now) (g.D.Dmi.seen c.close.new.link) _ _ _
    c.from_residual-in_err-close-in-End.ensures.1 c.in_err-close-in-End.ensures.caused
