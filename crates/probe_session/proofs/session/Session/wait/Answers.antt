use Rattle.debug_model.proofs.RiseLemmas.{within_more, within_none, within_then}
use Rattle.std.proofs.Common.{◌∙◌, ◌+◌, ◌*◌, refl, arith}
use Rattle.probe_session.specs.Commands.{state_of}
use Rattle.probe_session.specs.Said.{said_by}
use Rattle.probe_session.proofs.LinkLemmas.{goes_at, if_err}
use Rattle.probe_session.proofs.OneLine.{if_err_map, if_ok_map, of_halted, stops, stops_falls, waited_absent, waited_again, waited_falls}
use Rattle.probe_session.proofs.OneLine.{waited_halted, waited_none, waited_out}
use Rattle.probe_session.proofs.SeenLemmas.{saw_as}
use Rattle.probe_session.proofs.NeverLemmas.{behind_then, gives_up_then}
use Rattle.probe_session.proofs.session.Session.wait.Goals as goal

pub looking-init : goal.looking-init
looking-init g c = record {
  serving = c.requires.serving;
  knows = c.requires.knows;
  selects = λ some. absurd (omega (arith, some));
  waited = waited_none (state_of c.args.self.now) c.args.looks _;
  later = omega arith;
  rises = within_none 0 _ _ refl;
  fixed = refl;
}

pub returns-in_err-look-clause-falls : goal.returns-in_err-look-clause-falls
returns-in_err-look-clause-falls g c =
    if_err _ c.in_err-look.field-0.0 _ c.from_residual.ensures.1 (waited_falls (state_of c.args.self.now) c.args.looks c.looking._look c.looking-test.true
    c.looking.invariant.waited c.looking.invariant.later c.in_err-look.ensures.fell)

pub returns-in-Absent-clause-went : goal.returns-in-Absent-clause-went
returns-in-Absent-clause-went g c = waited_absent (state_of c.args.self.now) c.args.looks c.looking._look c.looking-test.true c.looking.invariant.waited
    (saw_as c.in-Absent.is c.in_ok-look.ensures.saw)

pub returns-in-Halted-clause-went : goal.returns-in-Halted-clause-went
returns-in-Halted-clause-went g c =
    if_ok_map _ _ _ (λ line w. stops (state_of c.args.self.now) (said_by line) c.in-Halted.halted.number _ (of_halted c.in-Halted.is c.in_ok-look.ensures.of)
    (waited_halted (state_of c.args.self.now) c.args.looks c.looking._look _ c.looking-test.true c.looking.invariant.waited
    (saw_as c.in-Halted.is c.in_ok-look.ensures.saw)) w) c.stop_line.ensures.went

pub returns-in-Halted-clause-falls : goal.returns-in-Halted-clause-falls
returns-in-Halted-clause-falls g c =
    if_err_map _ _ _ (λ f p. stops_falls (state_of c.args.self.now) c.in-Halted.halted.number _ (of_halted c.in-Halted.is c.in_ok-look.ensures.of)
    (waited_halted (state_of c.args.self.now) c.args.looks c.looking._look _ c.looking-test.true c.looking.invariant.waited
    (saw_as c.in-Halted.is c.in_ok-look.ensures.saw)) (omega (arith, c.looking.invariant.later, c.look.ensures.keeps.later)) p) c.stop_line.ensures.falls

pub looking-preserved : goal.looking-preserved
looking-preserved g c = record {
  serving = record { stands = c.in_ok-look.ensures.keeps.behind.stands; ready = c.in_ok-look.ensures.keeps.behind.ready };
  knows = c.in_ok-look.ensures.keeps.behind.selects;
  selects = λ some. c.in_ok-look.ensures.keeps.behind.selects;
  waited = waited_again (state_of c.args.self.now) c.args.looks c.looking._look _ c.looking-test.true c.looking.invariant.waited
      (saw_as c.in-Running.is c.in_ok-look.ensures.saw);
  later = omega (arith, c.looking.invariant.later, c.look.ensures.keeps.later);
  rises = within_then (2 * c.looking._look) 2 (2 * (c.looking._look + 1)) _ (g.D.Dmi.seen c.looking.link) _ c.looking.invariant.rises c.look.ensures.rises
      c.looking.invariant.fixed (omega arith);
  fixed = c.look.ensures.keeps.fixed ∙ c.looking.invariant.fixed;
}

pub returns-clause-went : goal.returns-clause-went
returns-clause-went g c = waited_out (state_of c.args.self.now) c.args.looks c.looking._look (omega arith) c.looking.invariant.waited

pub returns-in-Halted-clause-keeps : goal.returns-in-Halted-clause-keeps
returns-in-Halted-clause-keeps g c =
    goes_at (of_halted c.in-Halted.is c.in_ok-look.ensures.of) (omega (arith, c.looking.invariant.later, c.look.ensures.keeps.later))
    (c.look.ensures.keeps.fixed ∙ c.looking.invariant.fixed) c.stop_line.ensures.keeps

pub returns-clause-keeps : goal.returns-clause-keeps
returns-clause-keeps g c = record {
  later = c.looking.invariant.later;
  fixed = c.looking.invariant.fixed;
  behind = record {
    stands = c.looking.invariant.serving.stands;
    ready = c.looking.invariant.serving.ready;
    selects = c.looking.invariant.selects (omega (arith, c.requires.looks));
  };
}

pub returns-in_err-look-clause-rises : goal.returns-in_err-look-clause-rises
returns-in_err-look-clause-rises g c =
    within_then (2 * c.looking._look) 2 (2 * c.args.looks + 210) _ (g.D.Dmi.seen c.looking.link) _ c.looking.invariant.rises c.look.ensures.rises
    c.looking.invariant.fixed (omega (arith, c.looking-test.true))

pub returns-in-Absent-clause-rises : goal.returns-in-Absent-clause-rises
returns-in-Absent-clause-rises g c =
    within_then (2 * c.looking._look) 2 (2 * c.args.looks + 210) _ (g.D.Dmi.seen c.looking.link) _ c.looking.invariant.rises c.look.ensures.rises
    c.looking.invariant.fixed (omega (arith, c.looking-test.true))

pub returns-in-Halted-clause-rises : goal.returns-in-Halted-clause-rises
returns-in-Halted-clause-rises g c =
    within_then (2 * c.looking._look + 2) 210 (2 * c.args.looks + 210) _ (g.D.Dmi.seen c.look.new.link) _
    (within_then (2 * c.looking._look) 2 (2 * c.looking._look + 2) _ (g.D.Dmi.seen c.looking.link) _ c.looking.invariant.rises c.look.ensures.rises
    c.looking.invariant.fixed (omega arith)) c.stop_line.ensures.rises (c.look.ensures.keeps.fixed ∙ c.looking.invariant.fixed)
    (omega (arith, c.looking-test.true))

pub returns-clause-rises : goal.returns-clause-rises
returns-clause-rises g c =
    within_more (2 * c.looking._look) (2 * c.args.looks + 210) _ _ c.looking.invariant.rises (omega arith)

pub returns-in_err-look-clause-never : goal.returns-in_err-look-clause-never
returns-in_err-look-clause-never g c =
    if_err _ c.in_err-look.field-0.0 _ c.from_residual.ensures.1
    (gives_up_then (2 * c.looking._look) _ (g.D.Dmi.seen c.looking.link) c.in_err-look.field-0.0 c.looking.invariant.rises c.in_err-look.ensures.never)

pub returns-in-Halted-clause-never : goal.returns-in-Halted-clause-never
returns-in-Halted-clause-never g c =
    behind_then (2 * c.looking._look) _ (g.D.Dmi.seen c.looking.link) _ c.looking.invariant.rises
    (behind_then 2 _ (g.D.Dmi.seen c.look.new.link) _ c.look.ensures.rises c.stop_line.ensures.never)
