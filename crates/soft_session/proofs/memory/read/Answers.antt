use Rattle.std.proofs.Common.{◌∙◌, subst, sym}
use Rattle.debug_model.specs.declared.command.Command.TheVariants as command
use Rattle.debug_model.specs.declared.soft_command.SoftCommand.TheVariants.{Plain}
use Rattle.probe_run.specs.Told.{told}
use Rattle.jt_base.specs.Faults.{Rises}
use Rattle.probe_session.specs.Commands.{state_of}
use Rattle.probe_session.specs.Reach.{read}
use Rattle.probe_session.proofs.LinkLemmas.{if_err}
use Rattle.probe_session.proofs.MemoryLines.{reached_as}
use Rattle.probe_session.proofs.OneLine.{if_err_map, if_ok_map}
use Rattle.soft_session.specs.Cuts.{CommandCut}
use Rattle.soft_session.specs.Led.{LineLed, soft_state}
use Rattle.soft_session.proofs.CutCommands.{call_cut, put_cut}
use Rattle.soft_session.proofs.LineSteps.{errors_alike, line_command}
use Rattle.soft_session.proofs.ReachSteps.{read_reaches, way_cut, way_lines, way_says, way_short}
use Rattle.soft_session.proofs.CausedCalls.{no_line, of_sink, since_last}
use Rattle.soft_session.proofs.memory.read.Goals as goal

pub returns-in_err-line-clause-cut : goal.returns-in_err-line-clause-cut
returns-in_err-line-clause-cut g c =
    if_err _ c.in_err-line.field-0.0 _ c.from_residual.ensures.1
    (call_cut (Plain (command.Read c.args.size c.args.address c.args.count)) (soft_state c.args.soft.now) c.args.soft.now.table (told (g.D.Dmi.seen c.args.link.now)) (told (g.D.Dmi.seen c.reach.new.link)) _
    c.in_err-line.field-0.0 (way_cut (command.Read c.args.size c.args.address c.args.count) (read c.args.size c.args.address c.args.count) (read_reaches c.args.size c.args.address c.args.count) (soft_state c.args.soft.now) c.args.soft.now.table
    (told (g.D.Dmi.seen c.args.link.now)) (told (g.D.Dmi.seen c.reach.new.link)) c.in_err-line.field-0.0 c.in_err-line.ensures.cut))

pub returns-in_err-put_line-in-Says-clause-cut : goal.returns-in_err-put_line-in-Says-clause-cut
returns-in_err-put_line-in-Says-clause-cut g c =
    let says : LineLed (Plain (command.Read c.args.size c.args.address c.args.count)) c.args.soft.now c.reach.new.soft (told (g.D.Dmi.seen c.args.link.now)) (told (g.D.Dmi.seen c.reach.new.link)) c.in-Says.line =
    way_says (command.Read c.args.size c.args.address c.args.count) (read c.args.size c.args.address c.args.count) (read_reaches c.args.size c.args.address c.args.count) c.args.soft.now c.reach.new.soft c.in-Says.line (told (g.D.Dmi.seen c.args.link.now))
    (told (g.D.Dmi.seen c.reach.new.link)) c.reach.ensures.table c.reach.ensures.state
    (reached_as (state_of c.args.soft.now.session) _ _ c.in-Says.is c.in_ok-line.ensures.reached) in
    if_err _ c.in_err-put_line-in-Says.field-0.0 _ c.from_residual-in_err-put_line-in-Says.ensures.1
    (subst (CommandCut (Plain (command.Read c.args.size c.args.address c.args.count)) (soft_state c.args.soft.now) c.args.soft.now.table _ _ _ _) (sym c.in_err-put_line-in-Says.ensures.sink)
    (put_cut (Plain (command.Read c.args.size c.args.address c.args.count)) c.in-Says.line c.args.soft.now c.reach.new.soft _ _ _ _ says c.in_err-put_line-in-Says.ensures.front))

pub returns-in_ok-put_line-in-Says-clause-led : goal.returns-in_ok-put_line-in-Says-clause-led
returns-in_ok-put_line-in-Says-clause-led g c =
    let says : LineLed (Plain (command.Read c.args.size c.args.address c.args.count)) c.args.soft.now c.reach.new.soft (told (g.D.Dmi.seen c.args.link.now)) (told (g.D.Dmi.seen c.reach.new.link)) c.in-Says.line =
    way_says (command.Read c.args.size c.args.address c.args.count) (read c.args.size c.args.address c.args.count) (read_reaches c.args.size c.args.address c.args.count) c.args.soft.now c.reach.new.soft c.in-Says.line (told (g.D.Dmi.seen c.args.link.now))
    (told (g.D.Dmi.seen c.reach.new.link)) c.reach.ensures.table c.reach.ensures.state
    (reached_as (state_of c.args.soft.now.session) _ _ c.in-Says.is c.in_ok-line.ensures.reached) in
    line_command (Plain (command.Read c.args.size c.args.address c.args.count)) c.in-Says.line _ c.args.soft.now c.reach.new.soft _ _ _ _ says c.in_ok-put_line-in-Says.ensures.put
    (sym (c.is_error.ensures ∙ errors_alike c.in-Says.line))

pub returns-in-By-clause-led : goal.returns-in-By-clause-led
returns-in-By-clause-led g c =
    if_ok_map _ _ _ (λ wrong lines. way_lines (command.Read c.args.size c.args.address c.args.count) (read c.args.size c.args.address c.args.count) (read_reaches c.args.size c.args.address c.args.count) c.in-By.way wrong c.reach.new.soft.table c.args.soft.now c.reach.new.soft
    (told (g.D.Dmi.seen c.args.link.now)) (told (g.D.Dmi.seen c.reach.new.link)) (told (g.D.Dmi.seen c.put_elements.new.link)) _ _
    c.reach.ensures.table c.reach.ensures.table c.reach.ensures.state
    (reached_as (state_of c.args.soft.now.session) _ _ c.in-By.is c.in_ok-line.ensures.reached) lines) c.put_elements.ensures.led

pub returns-in-By-clause-cut : goal.returns-in-By-clause-cut
returns-in-By-clause-cut g c =
    if_err_map _ _ _ (λ f cut. way_short (command.Read c.args.size c.args.address c.args.count) (read c.args.size c.args.address c.args.count) (read_reaches c.args.size c.args.address c.args.count) (soft_state c.args.soft.now) c.in-By.way c.args.soft.now.table
    c.reach.new.soft.table (told (g.D.Dmi.seen c.args.link.now)) (told (g.D.Dmi.seen c.reach.new.link)) (told (g.D.Dmi.seen c.put_elements.new.link)) _ _ f
    c.reach.ensures.table (reached_as (state_of c.args.soft.now.session) _ _ c.in-By.is c.in_ok-line.ensures.reached) cut) c.put_elements.ensures.cut

pub returns-in_err-line-clause-caused : goal.returns-in_err-line-clause-caused
returns-in_err-line-clause-caused g c =
    if_err _ c.in_err-line.field-0.0 _ c.from_residual.ensures.1
    (no_line _ c.in_err-line.field-0.0 (g.D.Dmi.seen c.args.link.now) (g.D.Dmi.seen c.reach.new.link) c.in_err-line.ensures.caused)

pub returns-in_err-put_line-in-Says-clause-caused : goal.returns-in_err-put_line-in-Says-clause-caused
returns-in_err-put_line-in-Says-clause-caused g c =
    if_err _ c.in_err-put_line-in-Says.field-0.0 _ c.from_residual-in_err-put_line-in-Says.ensures.1
    (of_sink _ c.in_err-put_line-in-Says.field-0.0 (g.D.Dmi.seen c.args.link.now) (g.D.Dmi.seen c.reach.new.link) c.in_err-put_line-in-Says.ensures.sink
    c.in_err-put_line-in-Says.ensures.cause)

pub returns-in-By-clause-caused : goal.returns-in-By-clause-caused
returns-in-By-clause-caused g c =
    since_last (Rises (g.K.Sink.fault_count c.args.out.now) (g.K.Sink.fault_count c.put_elements.new.out))
    (g.D.Dmi.seen c.args.link.now) (g.D.Dmi.seen c.reach.new.link) (g.D.Dmi.seen c.put_elements.new.link) _ c.reach.ensures.keeps.later
    c.put_elements.ensures.keeps.later c.put_elements.ensures.caused
