use Rattle.std.proofs.Common.{refl}
use Rattle.debug_model.specs.declared.command.Command.TheVariants as command
use Rattle.probe_run.specs.Told.{told}
use Rattle.probe_session.specs.Commands.{state_of}
use Rattle.probe_session.specs.Reach.{written}
use Rattle.probe_session.proofs.LinkLemmas.{if_err}
use Rattle.probe_session.proofs.MemoryLines.{reached_as}
use Rattle.probe_session.proofs.OneLine.{if_err_map, if_ok_map}
use Rattle.soft_session.specs.declared.session.SoftSession.{SoftSession}
use Rattle.soft_session.specs.Led.{soft_state}
use Rattle.soft_session.proofs.ReachSteps.{behind_way_cut, state_with, way_cut, way_line, way_says, write_reaches}
use Rattle.soft_session.proofs.CausedCalls.{since_last}
use Rattle.soft_session.proofs.memory.write.Goals as goal

pub returns-in_err-line-clause-cut : goal.returns-in_err-line-clause-cut
returns-in_err-line-clause-cut g c =
    if_err _ c.in_err-line.field-0.0 _ c.from_residual.ensures.1
    (way_cut (command.Write c.args.size c.args.address c.args.value c.args.count) (written c.args.size c.args.address c.args.value c.args.count) (write_reaches c.args.size c.args.address c.args.value c.args.count) (soft_state c.args.soft.now) c.args.soft.now.table
    (told (g.D.Dmi.seen c.args.link.now)) (told (g.D.Dmi.seen c.reach.new.link)) c.in_err-line.field-0.0 c.in_err-line.ensures.cut)

pub returns-in-Says-clause-led : goal.returns-in-Says-clause-led
returns-in-Says-clause-led g c =
    way_says (command.Write c.args.size c.args.address c.args.value c.args.count) (written c.args.size c.args.address c.args.value c.args.count) (write_reaches c.args.size c.args.address c.args.value c.args.count) c.args.soft.now c.reach.new.soft c.in-Says.line (told (g.D.Dmi.seen c.args.link.now))
    (told (g.D.Dmi.seen c.reach.new.link)) c.reach.ensures.table c.reach.ensures.state
    (reached_as (state_of c.args.soft.now.session) _ _ c.in-Says.is c.in_ok-line.ensures.reached)

pub returns-in-By-clause-led : goal.returns-in-By-clause-led
returns-in-By-clause-led g c =
    let to : SoftSession = record { session = c.reach.new.soft.session; table = c.written_line.new.table } in
    if_ok_map _ _ _ (λ line led. way_line (command.Write c.args.size c.args.address c.args.value c.args.count) (written c.args.size c.args.address c.args.value c.args.count) (write_reaches c.args.size c.args.address c.args.value c.args.count) c.in-By.way c.reach.new.soft.table c.args.soft.now to line
    (told (g.D.Dmi.seen c.args.link.now)) (told (g.D.Dmi.seen c.reach.new.link)) (told (g.D.Dmi.seen c.written_line.new.link)) c.reach.ensures.table
    (state_with c.args.soft.now c.reach.new.soft to c.reach.ensures.state refl c.written_line.ensures.same)
    (reached_as (state_of c.args.soft.now.session) _ _ c.in-By.is c.in_ok-line.ensures.reached) led) c.written_line.ensures.led

pub returns-in-By-clause-cut : goal.returns-in-By-clause-cut
returns-in-By-clause-cut g c =
    if_err_map _ _ _ (λ f cut. behind_way_cut (command.Write c.args.size c.args.address c.args.value c.args.count) (written c.args.size c.args.address c.args.value c.args.count) (write_reaches c.args.size c.args.address c.args.value c.args.count) (soft_state c.args.soft.now) c.in-By.way c.args.soft.now.table
    c.reach.new.soft.table (told (g.D.Dmi.seen c.args.link.now)) (told (g.D.Dmi.seen c.reach.new.link)) (told (g.D.Dmi.seen c.written_line.new.link)) f
    c.reach.ensures.table (reached_as (state_of c.args.soft.now.session) _ _ c.in-By.is c.in_ok-line.ensures.reached) cut) c.written_line.ensures.cut

pub returns-in_err-line-clause-caused : goal.returns-in_err-line-clause-caused
returns-in_err-line-clause-caused g c =
    if_err _ c.in_err-line.field-0.0 _ c.from_residual.ensures.1
    (c.in_err-line.ensures.caused)

pub returns-in-By-clause-caused : goal.returns-in-By-clause-caused
returns-in-By-clause-caused g c =
    since_last ⊥ (g.D.Dmi.seen c.args.link.now) (g.D.Dmi.seen c.reach.new.link) (g.D.Dmi.seen c.written_line.new.link) _ c.reach.ensures.keeps.later
    c.written_line.ensures.keeps.later c.written_line.ensures.caused
