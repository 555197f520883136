use Rattle.probe_session.specs.Budget.{command_rises, rises_of_shown, rises_up_to}
use Rattle.probe_session.proofs.Budgets.{shown_few, up_to_few}
use Rattle.debug_model.proofs.RiseLemmas.{within_more, within_then}
use Rattle.probe_session.specs.Commands.{state_of}
use Rattle.probe_session.proofs.Knowing.{known_beside, knows_as, shown_knows}
use Rattle.probe_session.proofs.LinkLemmas.{if_err}
use Rattle.probe_session.proofs.ShownLines.{done_some, shown_fell, shown_spoke}
use Rattle.probe_session.proofs.Spoken.{fell_first}
use Rattle.probe_session.proofs.NeverLemmas.{gives_up_then}
use Rattle.probe_session.proofs.session.Session.perform_and_show.Goals as goal

pub returns-in_err-done-clause-fell : goal.returns-in_err-done-clause-fell
returns-in_err-done-clause-fell g c = if_err _ c.in_err-done.field-0.0 _ c.from_residual.ensures.1 (fell_first _ _ _ c.in_err-done.ensures.falls)

pub returns-in_err-show-clause-fell : goal.returns-in_err-show-clause-fell
returns-in_err-show-clause-fell g c = if_err _ c.in_err-show.field-0.0 _ c.from_residual-in_err-show.ensures.1
    (shown_fell c.in-Some.shown c.args.command (state_of c.args.self.now) (state_of c.perform.new.self)
    (done_some c.args.command (state_of c.args.self.now) (state_of c.perform.new.self) c.in-Some.is c.in_ok-done.ensures.did) c.perform.ensures.keeps.later
    c.in_err-show.ensures.fell)

pub returns-then-branch-clause-acted : goal.returns-then-branch-clause-acted
returns-then-branch-clause-acted g c =
    shown_spoke c.in-Some.shown c.args.command (state_of c.args.self.now) (state_of c.perform.new.self) c.if-branch.true
    (done_some c.args.command (state_of c.args.self.now) (state_of c.perform.new.self) c.in-Some.is c.in_ok-done.ensures.did) c.in_ok-show.ensures.spoke

pub returns-clause-acted : goal.returns-clause-acted
returns-clause-acted g c =
    shown_spoke c.in-Some.shown c.args.command (state_of c.args.self.now) (state_of c.perform.new.self) c.if-branch.false
    (done_some c.args.command (state_of c.args.self.now) (state_of c.perform.new.self) c.in-Some.is c.in_ok-done.ensures.did) c.in_ok-show.ensures.spoke

pub returns-then-branch-clause-knows : goal.returns-then-branch-clause-knows
returns-then-branch-clause-knows g c =
    shown_knows c.in-Some.shown _ _ _ _ c.in_ok-show.ensures.selection c.in_ok-show.ensures.line
    (known_beside _ c.in-Some.is c.known_behind-self.ensures.beside) (knows_as _ _ c.known_behind-self.ensures.is c.in_ok-done.ensures.knows)

pub returns-clause-knows : goal.returns-clause-knows
returns-clause-knows g c =
    shown_knows c.in-Some.shown _ _ _ _ c.in_ok-show.ensures.selection c.in_ok-show.ensures.line
    (known_beside _ c.in-Some.is c.known_behind-self.ensures.beside) (knows_as _ _ c.known_behind-self.ensures.is c.in_ok-done.ensures.knows)

pub returns-in_err-done-clause-rises : goal.returns-in_err-done-clause-rises
returns-in_err-done-clause-rises g c =
    within_more (rises_up_to c.args.command) (command_rises c.args.command) _ _ c.perform.ensures.rises (up_to_few c.args.command c.requires.within)

pub returns-in_default-clause-rises : goal.returns-in_default-clause-rises
returns-in_default-clause-rises g c =
    within_more (rises_up_to c.args.command) (command_rises c.args.command) _ _ c.perform.ensures.rises (up_to_few c.args.command c.requires.within)

pub returns-in_err-show-clause-rises : goal.returns-in_err-show-clause-rises
returns-in_err-show-clause-rises g c =
    within_then (rises_up_to c.args.command) (rises_of_shown c.in-Some.shown) (command_rises c.args.command) _ (g.D.Dmi.seen c.perform.new.link) _
    c.perform.ensures.rises c.show.ensures.rises c.perform.ensures.keeps.fixed (shown_few c.args.command _ c.in-Some.is c.in_ok-done.ensures.few)

pub returns-then-branch-clause-rises : goal.returns-then-branch-clause-rises
returns-then-branch-clause-rises g c =
    within_then (rises_up_to c.args.command) (rises_of_shown c.in-Some.shown) (command_rises c.args.command) _ (g.D.Dmi.seen c.perform.new.link) _
    c.perform.ensures.rises c.show.ensures.rises c.perform.ensures.keeps.fixed (shown_few c.args.command _ c.in-Some.is c.in_ok-done.ensures.few)

pub returns-clause-rises : goal.returns-clause-rises
returns-clause-rises g c =
    within_then (rises_up_to c.args.command) (rises_of_shown c.in-Some.shown) (command_rises c.args.command) _ (g.D.Dmi.seen c.perform.new.link) _
    c.perform.ensures.rises c.show.ensures.rises c.perform.ensures.keeps.fixed (shown_few c.args.command _ c.in-Some.is c.in_ok-done.ensures.few)

pub returns-in_err-show-clause-never : goal.returns-in_err-show-clause-never
returns-in_err-show-clause-never g c =
    if_err _ c.in_err-show.field-0.0 _ c.from_residual-in_err-show.ensures.1
    (gives_up_then (rises_up_to c.args.command) _ (g.D.Dmi.seen c.perform.new.link) c.in_err-show.field-0.0 c.perform.ensures.rises
    c.in_err-show.ensures.never)
