use Rattle.std.proofs.Common.{subst}
use Rattle.printed_lines.specs.declared.line.Line.{Line}
use Rattle.probe_run.specs.Told.{told}
use Rattle.probe_session.proofs.OneLine.{if_ok_map, met_as}
use Rattle.soft_session.proofs.LineSteps.{not_met_led, resume_body, resume_led_line}
use Rattle.soft_session.specs.Led.{soft_state}
use Rattle.soft_session.specs.Stepping.{GoingLed}
use Rattle.probe_session.proofs.LinkLemmas.{if_err}
use Rattle.probe_session.proofs.OneLine.{if_err_map}
use Rattle.std.proofs.Common.{ℕ}
use Rattle.soft_break.specs.Patches.{Patches}
use Rattle.soft_session.specs.Cuts.{CutsOf, at_resuming}
use Rattle.soft_session.proofs.CutFlow.{met_cut, not_met_cut}
use Rattle.soft_session.proofs.CausedCalls.{since_last}
use Rattle.soft_session.proofs.going.resume.Goals as goal

pub returns-in-Says-clause-led : goal.returns-in-Says-clause-led
returns-in-Says-clause-led g c =
    not_met_led (resume_body (soft_state c.args.soft.now)) c.args.soft.now c.meet_hart.new.soft c.in-Says.line (told (g.D.Dmi.seen c.args.link.now))
    (told (g.D.Dmi.seen c.meet_hart.new.link)) c.meet_hart.ensures.table c.meet_hart.ensures.state
    (met_as c.args.soft.now.session.hart (told (g.D.Dmi.seen c.args.link.now)) (told (g.D.Dmi.seen c.meet_hart.new.link)) c.in-Says.is
    c.in_ok-line.ensures.met)

pub returns-in-At-clause-led : goal.returns-in-At-clause-led
returns-in-At-clause-led g c =
    let met = met_as c.args.soft.now.session.hart (told (g.D.Dmi.seen c.args.link.now)) (told (g.D.Dmi.seen c.meet_hart.new.link)) c.in-At.is
    c.in_ok-line.ensures.met in
    if_ok_map _ _ _ (λ (line : Line) goes. resume_led_line c.in-At.halted.number c.args.soft.now c.meet_hart.new.soft line
    (told (g.D.Dmi.seen c.args.link.now)) (told (g.D.Dmi.seen c.meet_hart.new.link)) (told (g.D.Dmi.seen c.going_line.new.link)) c.meet_hart.ensures.table
    c.meet_hart.ensures.state met.0 met.1
    (subst (λ p. GoingLed c.in-At.halted.number p (told (g.D.Dmi.seen c.meet_hart.new.link)) (told (g.D.Dmi.seen c.going_line.new.link)) line)
    c.meet_hart.ensures.table goes)) c.going_line.ensures.led

pub returns-in_err-line-clause-cut : goal.returns-in_err-line-clause-cut
returns-in_err-line-clause-cut g c =
    if_err _ c.in_err-line.field-0.0 _ c.from_residual.ensures.1
    (not_met_cut (resume_body (soft_state c.args.soft.now)) (soft_state c.args.soft.now) c.args.soft.now.table (told (g.D.Dmi.seen c.args.link.now))
    (told (g.D.Dmi.seen c.meet_hart.new.link)) c.in_err-line.field-0.0 c.in_err-line.ensures.cut)

pub returns-in-At-clause-cut : goal.returns-in-At-clause-cut
returns-in-At-clause-cut g c =
    let met = met_as c.args.soft.now.session.hart (told (g.D.Dmi.seen c.args.link.now)) (told (g.D.Dmi.seen c.meet_hart.new.link)) c.in-At.is
    c.in_ok-line.ensures.met in
    if_err_map _ _ _ (λ f cuts. met_cut (resume_body (soft_state c.args.soft.now)) (soft_state c.args.soft.now) c.args.soft.now.table
    (told (g.D.Dmi.seen c.args.link.now)) (told (g.D.Dmi.seen c.meet_hart.new.link)) (told (g.D.Dmi.seen c.going_line.new.link)) f met.1
    (λ next t holds. (subst (λ (n : ℕ). CutsOf c.args.soft.now.table (at_resuming c.args.soft.now.table.addresses n)
    (told (g.D.Dmi.seen c.meet_hart.new.link)) (told (g.D.Dmi.seen c.going_line.new.link)) f) met.0
    (subst (λ (p : Patches). CutsOf p (at_resuming p.addresses c.in-At.halted.number) (told (g.D.Dmi.seen c.meet_hart.new.link))
    (told (g.D.Dmi.seen c.going_line.new.link)) f) c.meet_hart.ensures.table cuts))
    (next (soft_state c.args.soft.now)) t holds)) c.going_line.ensures.cut

pub returns-in_err-line-clause-caused : goal.returns-in_err-line-clause-caused
returns-in_err-line-clause-caused g c =
    if_err _ c.in_err-line.field-0.0 _ c.from_residual.ensures.1
    (c.in_err-line.ensures.caused)

pub returns-in-At-clause-caused : goal.returns-in-At-clause-caused
returns-in-At-clause-caused g c =
    since_last ⊥ (g.D.Dmi.seen c.args.link.now) (g.D.Dmi.seen c.meet_hart.new.link) (g.D.Dmi.seen c.going_line.new.link) _
    c.meet_hart.ensures.keeps.later c.going_line.ensures.keeps.later c.going_line.ensures.caused
