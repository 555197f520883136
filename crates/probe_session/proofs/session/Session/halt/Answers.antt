use Rattle.debug_model.proofs.RiseLemmas.{within_more, within_then}
use Rattle.std.proofs.Common.{◌∙◌, arith, refl}
use Rattle.probe_session.specs.Commands.{state_of}
use Rattle.probe_session.specs.Failures.{failure_of_run}
use Rattle.probe_session.specs.Said.{said_by}
use Rattle.probe_session.proofs.LinkLemmas.{goes_at, if_err}
use Rattle.probe_session.proofs.OneLine.{halt_absent, halt_falls, halt_halted, halt_made, halt_made_falls, if_err_map, if_ok_map, of_halted}
use Rattle.probe_session.proofs.OneLine.{of_running, stops, stops_falls}
use Rattle.probe_session.proofs.SeenLemmas.{saw_as}
use Rattle.probe_session.proofs.NeverLemmas.{behind_then, by_run, gives_up_then}
use Rattle.probe_session.proofs.session.Session.halt.Goals as goal

pub returns-in_err-look-clause-falls : goal.returns-in_err-look-clause-falls
returns-in_err-look-clause-falls g c = if_err _ c.in_err-look.field-0.0 _ c.from_residual.ensures.1
    (halt_falls (state_of c.args.self.now) c.in_err-look.ensures.fell)

pub returns-in-Absent-clause-went : goal.returns-in-Absent-clause-went
returns-in-Absent-clause-went g c = halt_absent (state_of c.args.self.now) (saw_as c.in-Absent.is c.in_ok-look.ensures.saw)

pub returns-in_err-halted-in-Running-clause-falls : goal.returns-in_err-halted-in-Running-clause-falls
returns-in_err-halted-in-Running-clause-falls g c =
    if_err _ (failure_of_run c.in_err-halted-in-Running.field-0.0) _ c.from_residual-in_err-halted-in-Running.ensures.1
    (halt_made_falls (state_of c.args.self.now) c.in-Running.running (of_running c.in-Running.is c.in_ok-look.ensures.of)
    (saw_as c.in-Running.is c.in_ok-look.ensures.saw) c.look.ensures.keeps.later (record {
      why = c.in_err-halted-in-Running.field-0.0;
      later = c.halt.ensures.keeps.later;
      heard = c.in_err-halted-in-Running.ensures.fails;
      told = c.in_err-halted-in-Running.ensures.left;
      is = refl;
    }))

pub returns-in_ok-halted-in-Running-clause-went : goal.returns-in_ok-halted-in-Running-clause-went
returns-in_ok-halted-in-Running-clause-went g c =
    if_ok_map _ _ _ (λ line w. stops (state_of c.args.self.now) (said_by line) c.in_ok-halted-in-Running.halted.number _
    (c.in_ok-halted-in-Running.ensures.hart ∙ of_running c.in-Running.is c.in_ok-look.ensures.of)
    (halt_made (state_of c.args.self.now) c.in-Running.running (of_running c.in-Running.is c.in_ok-look.ensures.of)
    (saw_as c.in-Running.is c.in_ok-look.ensures.saw) (record {
      heard = c.in_ok-halted-in-Running.ensures.did;
      told = c.in_ok-halted-in-Running.ensures.happened;
    })) w) c.stop_line.ensures.went

pub returns-in_ok-halted-in-Running-clause-falls : goal.returns-in_ok-halted-in-Running-clause-falls
returns-in_ok-halted-in-Running-clause-falls g c =
    if_err_map _ _ _ (λ f p. stops_falls (state_of c.args.self.now) c.in_ok-halted-in-Running.halted.number _
    (c.in_ok-halted-in-Running.ensures.hart ∙ of_running c.in-Running.is c.in_ok-look.ensures.of)
    (halt_made (state_of c.args.self.now) c.in-Running.running (of_running c.in-Running.is c.in_ok-look.ensures.of)
    (saw_as c.in-Running.is c.in_ok-look.ensures.saw) (record {
      heard = c.in_ok-halted-in-Running.ensures.did;
      told = c.in_ok-halted-in-Running.ensures.happened;
    }))
    (omega (arith, c.look.ensures.keeps.later, c.halt.ensures.keeps.later)) p) c.stop_line.ensures.falls

pub returns-in-Halted-clause-went : goal.returns-in-Halted-clause-went
returns-in-Halted-clause-went g c =
    if_ok_map _ _ _ (λ line w. stops (state_of c.args.self.now) (said_by line) c.in-Halted.halted.number _ (of_halted c.in-Halted.is c.in_ok-look.ensures.of)
    (halt_halted (state_of c.args.self.now) _ (saw_as c.in-Halted.is c.in_ok-look.ensures.saw)) w) c.stop_line-in-Halted.ensures.went

pub returns-in-Halted-clause-falls : goal.returns-in-Halted-clause-falls
returns-in-Halted-clause-falls g c =
    if_err_map _ _ _ (λ f p. stops_falls (state_of c.args.self.now) c.in-Halted.halted.number _ (of_halted c.in-Halted.is c.in_ok-look.ensures.of)
    (halt_halted (state_of c.args.self.now) _ (saw_as c.in-Halted.is c.in_ok-look.ensures.saw)) c.look.ensures.keeps.later p)
    c.stop_line-in-Halted.ensures.falls

pub returns-in_ok-halted-in-Running-clause-keeps : goal.returns-in_ok-halted-in-Running-clause-keeps
returns-in_ok-halted-in-Running-clause-keeps g c =
    goes_at (c.in_ok-halted-in-Running.ensures.hart ∙ of_running c.in-Running.is c.in_ok-look.ensures.of)
    (omega (arith, c.look.ensures.keeps.later, c.halt.ensures.keeps.later)) (c.halt.ensures.keeps.fixed ∙ c.look.ensures.keeps.fixed)
    c.stop_line.ensures.keeps

pub returns-in-Halted-clause-keeps : goal.returns-in-Halted-clause-keeps
returns-in-Halted-clause-keeps g c =
    goes_at (of_halted c.in-Halted.is c.in_ok-look.ensures.of) c.look.ensures.keeps.later c.look.ensures.keeps.fixed c.stop_line-in-Halted.ensures.keeps

pub returns-in_err-look-clause-rises : goal.returns-in_err-look-clause-rises
returns-in_err-look-clause-rises g c =
    within_more 2 215 _ _ c.look.ensures.rises (omega arith)

pub returns-in-Absent-clause-rises : goal.returns-in-Absent-clause-rises
returns-in-Absent-clause-rises g c =
    within_more 2 215 _ _ c.look.ensures.rises (omega arith)

pub returns-in_err-halted-in-Running-clause-rises : goal.returns-in_err-halted-in-Running-clause-rises
returns-in_err-halted-in-Running-clause-rises g c =
    within_then 2 3 215 _ (g.D.Dmi.seen c.look.new.link) _ c.look.ensures.rises c.halt.ensures.rises c.look.ensures.keeps.fixed (omega arith)

pub returns-in_ok-halted-in-Running-clause-rises : goal.returns-in_ok-halted-in-Running-clause-rises
returns-in_ok-halted-in-Running-clause-rises g c =
    within_then 5 210 215 _ (g.D.Dmi.seen c.halt.new.link) _ (within_then 2 3 5 _ (g.D.Dmi.seen c.look.new.link) _ c.look.ensures.rises c.halt.ensures.rises
    c.look.ensures.keeps.fixed (omega arith)) c.stop_line.ensures.rises (c.halt.ensures.keeps.fixed ∙ c.look.ensures.keeps.fixed) (omega arith)

pub returns-in-Halted-clause-rises : goal.returns-in-Halted-clause-rises
returns-in-Halted-clause-rises g c =
    within_then 2 210 215 _ (g.D.Dmi.seen c.look.new.link) _ c.look.ensures.rises c.stop_line-in-Halted.ensures.rises c.look.ensures.keeps.fixed (omega
    arith)

pub returns-in_err-halted-in-Running-clause-never : goal.returns-in_err-halted-in-Running-clause-never
returns-in_err-halted-in-Running-clause-never g c =
    if_err _ (failure_of_run c.in_err-halted-in-Running.field-0.0) _ c.from_residual-in_err-halted-in-Running.ensures.1
    (gives_up_then 2 _ (g.D.Dmi.seen c.look.new.link) (failure_of_run c.in_err-halted-in-Running.field-0.0) c.look.ensures.rises
    (by_run (g.D.Dmi.seen c.look.new.link) c.in_err-halted-in-Running.field-0.0 c.in_err-halted-in-Running.ensures.never))

pub returns-in_ok-halted-in-Running-clause-never : goal.returns-in_ok-halted-in-Running-clause-never
returns-in_ok-halted-in-Running-clause-never g c =
    behind_then 2 _ (g.D.Dmi.seen c.look.new.link) _ c.look.ensures.rises
    (behind_then 3 _ (g.D.Dmi.seen c.halt.new.link) _ c.halt.ensures.rises c.stop_line.ensures.never)
