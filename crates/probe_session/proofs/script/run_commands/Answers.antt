use Rattle.probe_session.proofs.Budgets.{spending_all, spending_more, spending_none}
use Rattle.std.proofs.Common.{◌≡◌, ◌∙◌, ◌∷◌, [], true, false, refl, arith}
use Rattle.std.proofs.lemmas.Grind.{common_steps}
use Rattle.probe_session.specs.Commands.{state_of}
use Rattle.probe_session.proofs.ScriptLemmas.{all_done, done_one, ended_here, fell_one, within_after, wrong_one}
use Rattle.probe_session.proofs.Spoken.{spoke_none}
use Rattle.probe_session.proofs.UpTo.{done_more, done_none, no_fault, under_way}
use Rattle.probe_session.proofs.script.run_commands.Goals as goal

pub commands-init : goal.commands-init
commands-init g c = record {
  within = c.requires.within;
  serving = c.requires.serving;
  knows = c.requires.knows;
  so_far = spoke_none _;
  done = done_none _ _ _ _;
  later = omega arith;
  sink_later =
      omega arith;
  rises = spending_none _ _;
  fixed = refl;
}

pub commands-preserved-in-Done : goal.commands-preserved-in-Done
commands-preserved-in-Done g c =
    let front : c.commands.rest.now ≡ c.in-Some.command.now ∷ c.in-Some.after.now = grind (arith, common_steps) in
    record {
      within = within_after _ c.in-Some.command.now _ front c.commands.invariant.within;
      serving = c.in-Done.ensures.serving;
      knows = c.in-Done.ensures.knows;
      so_far = done_one _ (state_of c.args.begun) c.in-Some.command.now _ _ (state_of c.commands.session) (state_of c.act.new.self) _ front
          c.commands.invariant.so_far c.in-Done.ensures.acted;
      done = done_more _ (state_of c.args.begun) c.in-Some.command.now _ _ (state_of c.commands.session) (state_of c.act.new.self) false front
          c.commands.invariant.done c.in-Done.ensures.acted;
      later = omega (arith, c.commands.invariant.later, c.act.ensures.later);
      sink_later = omega (arith, c.commands.invariant.sink_later, c.act.ensures.sink_later);
      rises = spending_more _ _ c.in-Some.after.now c.in-Some.command.now _ _ _ front c.commands.invariant.rises c.act.ensures.rises c.commands.invariant.fixed;
      fixed = c.act.ensures.fixed ∙ c.commands.invariant.fixed;
    }

pub commands-preserved : goal.commands-preserved
commands-preserved g c =
    let front : c.commands.rest.now ≡ c.in-Some.command.now ∷ c.in-Some.after.now = grind (arith, common_steps) in
    record {
      within = within_after _ c.in-Some.command.now _ front c.commands.invariant.within;
      serving = c.in-Error.ensures.serving;
      knows = c.in-Error.ensures.knows;
      so_far = wrong_one _ (state_of c.args.begun) c.in-Some.command.now _ _ (state_of c.commands.session) (state_of c.act.new.self) _ front
          c.commands.invariant.so_far c.in-Error.ensures.acted;
      done = done_more _ (state_of c.args.begun) c.in-Some.command.now _ _ (state_of c.commands.session) (state_of c.act.new.self) true front
          c.commands.invariant.done c.in-Error.ensures.acted;
      later = omega (arith, c.commands.invariant.later, c.act.ensures.later);
      sink_later = omega (arith, c.commands.invariant.sink_later, c.act.ensures.sink_later);
      rises = spending_more _ _ c.in-Some.after.now c.in-Some.command.now _ _ _ front c.commands.invariant.rises c.act.ensures.rises c.commands.invariant.fixed;
      fixed = c.act.ensures.fixed ∙ c.commands.invariant.fixed;
    }

pub returns-in-End-clause-followed : goal.returns-in-End-clause-followed
returns-in-End-clause-followed g c =
    let front : c.commands.rest.now ≡ c.in-Some.command.now ∷ c.in-Some.after.now = grind (arith, common_steps) in
    ended_here _ (state_of c.args.begun) c.in-Some.command.now _ c.in-Some.after.now (state_of c.commands.session) (state_of c.act.new.self)
    c.commands.has_errors _ _ _ _ _ front c.in-End.ensures.acted.0 c.finished.ensures c.commands.invariant.so_far c.in-End.ensures.acted.1

pub returns-in-Wire-clause-followed : goal.returns-in-Wire-clause-followed
returns-in-Wire-clause-followed g c =
    let front : c.commands.rest.now ≡ c.in-Some.command.now ∷ c.in-Some.after.now = grind (arith, common_steps) in
    fell_one _ (state_of c.args.begun) c.in-Some.command.now _ c.in-Some.after.now (state_of c.commands.session) c.commands.has_errors _
    (g.D.Dmi.seen c.commands.link).fault_count _ _ (g.K.Sink.fault_count c.commands.out) _ front c.commands.invariant.so_far c.commands.invariant.later
    c.commands.invariant.sink_later c.act.ensures.sink_later c.in-Wire.ensures.acted

pub returns-in-Lost-clause-followed : goal.returns-in-Lost-clause-followed
returns-in-Lost-clause-followed g c =
    let front : c.commands.rest.now ≡ c.in-Some.command.now ∷ c.in-Some.after.now = grind (arith, common_steps) in
    fell_one _ (state_of c.args.begun) c.in-Some.command.now _ c.in-Some.after.now (state_of c.commands.session) c.commands.has_errors _
    (g.D.Dmi.seen c.commands.link).fault_count _ _ (g.K.Sink.fault_count c.commands.out) _ front c.commands.invariant.so_far c.commands.invariant.later
    c.commands.invariant.sink_later c.act.ensures.sink_later c.in-Lost.ensures.acted

pub returns-in-Sink-clause-followed : goal.returns-in-Sink-clause-followed
returns-in-Sink-clause-followed g c =
    let front : c.commands.rest.now ≡ c.in-Some.command.now ∷ c.in-Some.after.now = grind (arith, common_steps) in
    fell_one _ (state_of c.args.begun) c.in-Some.command.now _ c.in-Some.after.now (state_of c.commands.session) c.commands.has_errors _
    (g.D.Dmi.seen c.commands.link).fault_count _ _ (g.K.Sink.fault_count c.commands.out) _ front c.commands.invariant.so_far c.commands.invariant.later
    c.commands.invariant.sink_later c.act.ensures.sink_later c.in-Sink.ensures.acted

pub returns-clause-followed : goal.returns-clause-followed
returns-clause-followed g c =
    let none : c.commands.rest.now ≡ [] = grind (arith, common_steps) in
    all_done _ (state_of c.args.begun) _ (state_of c.commands.session) c.commands.has_errors _ _ _ _ _ none c.finished-2.ensures c.commands.invariant.so_far

pub returns-in-Wire-clause-up_to : goal.returns-in-Wire-clause-up_to
returns-in-Wire-clause-up_to g c =
    let front : c.commands.rest.now ≡ c.in-Some.command.now ∷ c.in-Some.after.now = grind (arith, common_steps) in
    under_way _ (state_of c.args.begun) c.in-Some.command.now _ c.in-Some.after.now (state_of c.commands.session) _ (g.D.Dmi.seen c.commands.link).fault_count _
    _ (g.K.Sink.fault_count c.commands.out) _ front c.commands.invariant.done c.commands.invariant.later c.commands.invariant.sink_later
    c.act.ensures.sink_later c.in-Wire.ensures.acted

pub returns-in-Lost-clause-up_to : goal.returns-in-Lost-clause-up_to
returns-in-Lost-clause-up_to g c =
    let front : c.commands.rest.now ≡ c.in-Some.command.now ∷ c.in-Some.after.now = grind (arith, common_steps) in
    under_way _ (state_of c.args.begun) c.in-Some.command.now _ c.in-Some.after.now (state_of c.commands.session) _ (g.D.Dmi.seen c.commands.link).fault_count _
    _ (g.K.Sink.fault_count c.commands.out) _ front c.commands.invariant.done c.commands.invariant.later c.commands.invariant.sink_later
    c.act.ensures.sink_later c.in-Lost.ensures.acted

pub returns-in-Sink-clause-up_to : goal.returns-in-Sink-clause-up_to
returns-in-Sink-clause-up_to g c =
    let front : c.commands.rest.now ≡ c.in-Some.command.now ∷ c.in-Some.after.now = grind (arith, common_steps) in
    under_way _ (state_of c.args.begun) c.in-Some.command.now _ c.in-Some.after.now (state_of c.commands.session) _ (g.D.Dmi.seen c.commands.link).fault_count _
    _ (g.K.Sink.fault_count c.commands.out) _ front c.commands.invariant.done c.commands.invariant.later c.commands.invariant.sink_later
    c.act.ensures.sink_later c.in-Sink.ensures.acted

pub returns-in-End-clause-up_to : goal.returns-in-End-clause-up_to
returns-in-End-clause-up_to g c = no_fault _ (state_of c.args.begun) c.commands.has_errors _ _ _ _ _ _ _ _ _ c.finished.ensures

pub returns-clause-up_to : goal.returns-clause-up_to
returns-clause-up_to g c = no_fault _ (state_of c.args.begun) c.commands.has_errors _ _ _ _ _ _ _ _ _ c.finished-2.ensures

pub returns-in-End-clause-rises : goal.returns-in-End-clause-rises
returns-in-End-clause-rises g c =
    let front : c.commands.rest.now ≡ c.in-Some.command.now ∷ c.in-Some.after.now = grind (arith, common_steps) in
    spending_all _ c.in-Some.after.now _ _ (spending_more _ _ c.in-Some.after.now c.in-Some.command.now _ _ _ front c.commands.invariant.rises c.act.ensures.rises c.commands.invariant.fixed)

pub returns-in-Wire-clause-rises : goal.returns-in-Wire-clause-rises
returns-in-Wire-clause-rises g c =
    let front : c.commands.rest.now ≡ c.in-Some.command.now ∷ c.in-Some.after.now = grind (arith, common_steps) in
    spending_all _ c.in-Some.after.now _ _ (spending_more _ _ c.in-Some.after.now c.in-Some.command.now _ _ _ front c.commands.invariant.rises c.act.ensures.rises c.commands.invariant.fixed)

pub returns-in-Lost-clause-rises : goal.returns-in-Lost-clause-rises
returns-in-Lost-clause-rises g c =
    let front : c.commands.rest.now ≡ c.in-Some.command.now ∷ c.in-Some.after.now = grind (arith, common_steps) in
    spending_all _ c.in-Some.after.now _ _ (spending_more _ _ c.in-Some.after.now c.in-Some.command.now _ _ _ front c.commands.invariant.rises c.act.ensures.rises c.commands.invariant.fixed)

pub returns-in-Sink-clause-rises : goal.returns-in-Sink-clause-rises
returns-in-Sink-clause-rises g c =
    let front : c.commands.rest.now ≡ c.in-Some.command.now ∷ c.in-Some.after.now = grind (arith, common_steps) in
    spending_all _ c.in-Some.after.now _ _ (spending_more _ _ c.in-Some.after.now c.in-Some.command.now _ _ _ front c.commands.invariant.rises c.act.ensures.rises c.commands.invariant.fixed)

pub returns-clause-rises : goal.returns-clause-rises
returns-clause-rises g c =
    spending_all _ _ _ _ c.commands.invariant.rises
