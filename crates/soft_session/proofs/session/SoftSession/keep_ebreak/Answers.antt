use Rattle.std.proofs.Common.{false}
use Rattle.probe_run.specs.Told.{told}
use Rattle.probe_session.proofs.OneLine.{met_as}
use Rattle.soft_session.specs.Led.{soft_state}
use Rattle.soft_session.proofs.LineSteps.{ebreak_body, ebreak_kept, not_met_led}
use Rattle.probe_session.proofs.LinkLemmas.{if_err}
use Rattle.soft_session.proofs.CutFlow.{not_met_cut}
use Rattle.soft_session.proofs.session.SoftSession.keep_ebreak.Goals as goal

pub returns-in-Says-clause-led : goal.returns-in-Says-clause-led
returns-in-Says-clause-led g c =
    not_met_led (ebreak_body false (soft_state c.args.self.now)) c.args.self.now c.meet_hart.new.soft c.in-Says.line (told (g.D.Dmi.seen c.args.link.now))
    (told (g.D.Dmi.seen c.meet_hart.new.link)) c.meet_hart.ensures.table c.meet_hart.ensures.state
    (met_as c.args.self.now.session.hart (told (g.D.Dmi.seen c.args.link.now)) (told (g.D.Dmi.seen c.meet_hart.new.link)) c.in-Says.is
    c.in_ok-line.ensures.met)

pub returns-in-At-clause-led : goal.returns-in-At-clause-led
returns-in-At-clause-led g c =
    let met = met_as c.args.self.now.session.hart (told (g.D.Dmi.seen c.args.link.now)) (told (g.D.Dmi.seen c.meet_hart.new.link)) c.in-At.is
    c.in_ok-line.ensures.met in
    ebreak_kept c.args.self.now c.meet_hart.new.soft (told (g.D.Dmi.seen c.args.link.now)) (told (g.D.Dmi.seen c.meet_hart.new.link)) c.meet_hart.ensures.table
    c.meet_hart.ensures.state c.requires.some met.1

pub returns-in_err-line-clause-cut : goal.returns-in_err-line-clause-cut
returns-in_err-line-clause-cut g c =
    if_err _ c.in_err-line.field-0.0 _ c.from_residual.ensures.1
    (not_met_cut (ebreak_body false (soft_state c.args.self.now)) (soft_state c.args.self.now) c.args.self.now.table (told (g.D.Dmi.seen c.args.link.now))
    (told (g.D.Dmi.seen c.meet_hart.new.link)) c.in_err-line.field-0.0 c.in_err-line.ensures.cut)

pub returns-in_err-line-clause-caused : goal.returns-in_err-line-clause-caused
returns-in_err-line-clause-caused g c =
    if_err _ c.in_err-line.field-0.0 _ c.from_residual.ensures.1
    (c.in_err-line.ensures.caused)
