use Rattle.std.proofs.Common.{subst, sym}
use Rattle.debug_model.specs.declared.soft_command.SoftCommand.{SoftCommand}
use Rattle.probe_run.specs.Told.{told}
use Rattle.soft_session.specs.Led.{LineLed}
use Rattle.soft_session.proofs.PutSteps.{put_acted}
use Rattle.soft_session.specs.Cuts.{CutsOf, at_command}
use Rattle.soft_session.specs.Led.{soft_state}
use Rattle.soft_session.proofs.PutSteps.{call_short, put_short}
use Rattle.soft_session.proofs.CausedEnds.{line_caused, unput_caused}
use Rattle.soft_session.proofs.session.SoftSession.act_or_fail.Goals as goal

pub returns-in_ok-set-in-Soft-clause-acted : goal.returns-in_ok-set-in-Soft-clause-acted
returns-in_ok-set-in-Soft-clause-acted g c =
    put_acted c.args.command c.in_ok-set-in-Soft.field-0 c.args.self.now c.set.new.self (told (g.D.Dmi.seen c.args.link.now))
    (told (g.D.Dmi.seen c.set.new.link)) (g.K.Sink.contents c.args.out.now) (g.K.Sink.contents c.line_put.new.out) c.line_put.result
    (subst (λ (k : SoftCommand). LineLed k c.args.self.now c.set.new.self (told (g.D.Dmi.seen c.args.link.now))
    (told (g.D.Dmi.seen c.set.new.link)) c.in_ok-set-in-Soft.field-0) (sym c.in-Soft.is) c.in_ok-set-in-Soft.ensures.led) c.line_put.ensures.put
    c.line_put.ensures.acted

pub returns-in_ok-clear-in-Unsoft-clause-acted : goal.returns-in_ok-clear-in-Unsoft-clause-acted
returns-in_ok-clear-in-Unsoft-clause-acted g c =
    put_acted c.args.command c.in_ok-clear-in-Unsoft.field-0 c.args.self.now c.clear.new.self (told (g.D.Dmi.seen c.args.link.now))
    (told (g.D.Dmi.seen c.clear.new.link)) (g.K.Sink.contents c.args.out.now) (g.K.Sink.contents c.line_put-in-Unsoft.new.out) c.line_put-in-Unsoft.result
    (subst (λ (k : SoftCommand). LineLed k c.args.self.now c.clear.new.self (told (g.D.Dmi.seen c.args.link.now))
    (told (g.D.Dmi.seen c.clear.new.link)) c.in_ok-clear-in-Unsoft.field-0) (sym c.in-Unsoft.is) c.in_ok-clear-in-Unsoft.ensures.led)
    c.line_put-in-Unsoft.ensures.put c.line_put-in-Unsoft.ensures.acted

pub returns-in_err-set-in-Soft-clause-cut : goal.returns-in_err-set-in-Soft-clause-cut
returns-in_err-set-in-Soft-clause-cut g c =
    call_short c.args.command c.args.self.now (told (g.D.Dmi.seen c.args.link.now)) (told (g.D.Dmi.seen c.set.new.link))
    (g.K.Sink.contents c.args.out.now) c.in_err-set-in-Soft.field-0.0 _ c.from_residual.ensures.1
    (subst (λ (k : SoftCommand). CutsOf c.args.self.now.table (at_command k (soft_state c.args.self.now)) (told (g.D.Dmi.seen c.args.link.now))
    (told (g.D.Dmi.seen c.set.new.link)) c.in_err-set-in-Soft.field-0.0) (sym c.in-Soft.is)
    c.in_err-set-in-Soft.ensures.cut)

pub returns-in_ok-set-in-Soft-clause-cut : goal.returns-in_ok-set-in-Soft-clause-cut
returns-in_ok-set-in-Soft-clause-cut g c =
    put_short c.args.command c.in_ok-set-in-Soft.field-0 c.args.self.now c.set.new.self (told (g.D.Dmi.seen c.args.link.now))
    (told (g.D.Dmi.seen c.set.new.link)) (g.K.Sink.contents c.args.out.now)
    (g.K.Sink.contents c.line_put.new.out) c.line_put.result
    (subst (λ (k : SoftCommand). LineLed k c.args.self.now c.set.new.self (told (g.D.Dmi.seen c.args.link.now))
    (told (g.D.Dmi.seen c.set.new.link)) c.in_ok-set-in-Soft.field-0) (sym c.in-Soft.is) c.in_ok-set-in-Soft.ensures.led) c.line_put.ensures.front
    c.line_put.ensures.sink

pub returns-in_err-clear-in-Unsoft-clause-cut : goal.returns-in_err-clear-in-Unsoft-clause-cut
returns-in_err-clear-in-Unsoft-clause-cut g c =
    call_short c.args.command c.args.self.now (told (g.D.Dmi.seen c.args.link.now)) (told (g.D.Dmi.seen c.clear.new.link))
    (g.K.Sink.contents c.args.out.now) c.in_err-clear-in-Unsoft.field-0.0 _ c.from_residual-in_err-clear-in-Unsoft.ensures.1
    (subst (λ (k : SoftCommand). CutsOf c.args.self.now.table (at_command k (soft_state c.args.self.now)) (told (g.D.Dmi.seen c.args.link.now))
    (told (g.D.Dmi.seen c.clear.new.link)) c.in_err-clear-in-Unsoft.field-0.0) (sym c.in-Unsoft.is)
    c.in_err-clear-in-Unsoft.ensures.cut)

pub returns-in_ok-clear-in-Unsoft-clause-cut : goal.returns-in_ok-clear-in-Unsoft-clause-cut
returns-in_ok-clear-in-Unsoft-clause-cut g c =
    put_short c.args.command c.in_ok-clear-in-Unsoft.field-0 c.args.self.now c.clear.new.self (told (g.D.Dmi.seen c.args.link.now))
    (told (g.D.Dmi.seen c.clear.new.link)) (g.K.Sink.contents c.args.out.now)
    (g.K.Sink.contents c.line_put-in-Unsoft.new.out) c.line_put-in-Unsoft.result
    (subst (λ (k : SoftCommand). LineLed k c.args.self.now c.clear.new.self (told (g.D.Dmi.seen c.args.link.now))
    (told (g.D.Dmi.seen c.clear.new.link)) c.in_ok-clear-in-Unsoft.field-0) (sym c.in-Unsoft.is) c.in_ok-clear-in-Unsoft.ensures.led)
    c.line_put-in-Unsoft.ensures.front c.line_put-in-Unsoft.ensures.sink

pub returns-in_err-set-in-Soft-clause-caused : goal.returns-in_err-set-in-Soft-clause-caused
returns-in_err-set-in-Soft-clause-caused g c =
    unput_caused c.in_err-set-in-Soft.field-0.0 (g.D.Dmi.seen c.args.link.now) (g.D.Dmi.seen c.set.new.link) _ _ _ c.from_residual.ensures.1
    c.in_err-set-in-Soft.ensures.caused

pub returns-in_ok-set-in-Soft-clause-caused : goal.returns-in_ok-set-in-Soft-clause-caused
returns-in_ok-set-in-Soft-clause-caused g c =
    line_caused _ (g.D.Dmi.seen c.args.link.now) (g.D.Dmi.seen c.set.new.link) _ _ c.line_put.result c.line_put.ensures.acted c.line_put.ensures.sink
    c.line_put.ensures.cause

pub returns-in_err-clear-in-Unsoft-clause-caused : goal.returns-in_err-clear-in-Unsoft-clause-caused
returns-in_err-clear-in-Unsoft-clause-caused g c =
    unput_caused c.in_err-clear-in-Unsoft.field-0.0 (g.D.Dmi.seen c.args.link.now) (g.D.Dmi.seen c.clear.new.link) _ _ _
    c.from_residual-in_err-clear-in-Unsoft.ensures.1 c.in_err-clear-in-Unsoft.ensures.caused

pub returns-in_ok-clear-in-Unsoft-clause-caused : goal.returns-in_ok-clear-in-Unsoft-clause-caused
returns-in_ok-clear-in-Unsoft-clause-caused g c =
    line_caused _ (g.D.Dmi.seen c.args.link.now) (g.D.Dmi.seen c.clear.new.link) _ _ c.line_put-in-Unsoft.result c.line_put-in-Unsoft.ensures.acted
    c.line_put-in-Unsoft.ensures.sink c.line_put-in-Unsoft.ensures.cause
