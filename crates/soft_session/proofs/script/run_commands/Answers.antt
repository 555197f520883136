use Rattle.std.proofs.Common.{◌≡◌, ◌∙◌, ◌∷◌, [], refl, arith}
use Rattle.std.proofs.lemmas.Grind.{common_steps}
use Rattle.probe_run.specs.Told.{told}
use Rattle.soft_session.proofs.CommandSteps.{all_done, done_one, ended_here, none_done, within_after, within_front, wrong_one}
use Rattle.probe_session.specs.declared.fault.Failure.TheVariants as failure
use Rattle.soft_session.proofs.CutScripts.{cut_closing, cut_one, followed_cut}
use Rattle.jt_base.proofs.FaultLemmas.{rises_from}
use Rattle.soft_session.proofs.CausedCalls.{since}
use Rattle.soft_session.proofs.CausedEnds.{graded_caused, graded_sink, unclosed_caused, unclosed_sink}
use Rattle.soft_session.proofs.script.run_commands.Goals as goal

pub commands-init : goal.commands-init
commands-init g c = record {
  within = c.requires.within;
  serving = c.requires.serving;
  knows = c.requires.knows;
  so_far = none_done c.args.commands.now c.args.begun (told (g.D.Dmi.seen c.args.link.now)) (g.K.Sink.contents c.args.out.now);
  later = omega arith;
  sink_later = omega arith;
  fixed = refl;
}

pub commands-preserved-in-Done : goal.commands-preserved-in-Done
commands-preserved-in-Done g c =
    let front : c.commands.rest.now ≡ c.in-Some.command.now ∷ c.in-Some.after.now = grind (arith, common_steps) in
    record {
      within = within_after _ c.in-Some.command.now _ front c.commands.invariant.within;
      serving = c.in-Done.ensures.serving;
      knows = c.in-Done.ensures.knows;
      so_far = done_one c.args.commands.now c.args.begun c.in-Some.command.now _ c.in-Some.after.now c.commands.soft c.act.new.self c.commands.has_errors
          _ _ _ _ _ _ front c.commands.invariant.so_far c.in-Done.ensures.acted;
      later = omega (arith, c.commands.invariant.later, c.act.ensures.later);
      sink_later = omega (arith, c.commands.invariant.sink_later, c.act.ensures.sink_later);
      fixed = c.act.ensures.fixed ∙ c.commands.invariant.fixed;
    }

pub commands-preserved : goal.commands-preserved
commands-preserved g c =
    let front : c.commands.rest.now ≡ c.in-Some.command.now ∷ c.in-Some.after.now = grind (arith, common_steps) in
    record {
      within = within_after _ c.in-Some.command.now _ front c.commands.invariant.within;
      serving = c.in-Error.ensures.serving;
      knows = c.in-Error.ensures.knows;
      so_far = wrong_one c.args.commands.now c.args.begun c.in-Some.command.now _ c.in-Some.after.now c.commands.soft c.act.new.self c.commands.has_errors
          _ _ _ _ _ _ front c.commands.invariant.so_far c.in-Error.ensures.acted;
      later = omega (arith, c.commands.invariant.later, c.act.ensures.later);
      sink_later = omega (arith, c.commands.invariant.sink_later, c.act.ensures.sink_later);
      fixed = c.act.ensures.fixed ∙ c.commands.invariant.fixed;
    }

pub returns-in-End-clause-followed : goal.returns-in-End-clause-followed
returns-in-End-clause-followed g c =
    let front : c.commands.rest.now ≡ c.in-Some.command.now ∷ c.in-Some.after.now = grind (arith, common_steps) in
    ended_here c.args.commands.now c.args.begun c.in-Some.command.now _ c.in-Some.after.now c.commands.soft c.act.new.self c.commands.has_errors _ _ _ _ _ _ _
    front c.commands.invariant.so_far c.in-End.ensures.acted c.finished.ensures

pub returns-in-Ok-clause-followed : goal.returns-in-Ok-clause-followed
returns-in-Ok-clause-followed g c =
    let none : c.commands.rest.now ≡ [] = grind (arith, common_steps) in
    all_done c.args.commands.now c.args.begun _ c.commands.soft c.close.new.self c.commands.has_errors _ _ _ _ _ _ none c.commands.invariant.so_far
    c.in-Ok.ensures.led c.in-Ok.ensures.none c.finished-in-Ok.ensures

pub act-requires-clause-within : goal.act-requires-clause-within
act-requires-clause-within g c =
    let front : c.commands.rest.now ≡ c.in-Some.command.now ∷ c.in-Some.after.now = grind (arith, common_steps) in
    within_front _ c.in-Some.command.now _ front c.commands.invariant.within

pub returns-in-Wire-clause-followed : goal.returns-in-Wire-clause-followed
returns-in-Wire-clause-followed g c =
    let front : c.commands.rest.now ≡ c.in-Some.command.now ∷ c.in-Some.after.now = grind (arith, common_steps) in
    followed_cut c.args.commands.now c.args.begun (failure.Wire c.in-Wire.fault) _ _ _ _ _ refl
    (cut_one c.args.commands.now c.args.begun c.in-Some.command.now c.commands.rest.now c.in-Some.after.now c.commands.soft c.commands.has_errors
    (failure.Wire c.in-Wire.fault)
    (told (g.D.Dmi.seen c.args.link.now)) (told (g.D.Dmi.seen c.commands.link)) (told (g.D.Dmi.seen c.act.new.link)) (g.K.Sink.contents c.args.out.now)
    (g.K.Sink.contents c.commands.out) (g.K.Sink.contents c.act.new.out) front c.commands.invariant.so_far
    c.in-Wire.ensures.acted)

pub returns-in-Lost-clause-followed : goal.returns-in-Lost-clause-followed
returns-in-Lost-clause-followed g c =
    let front : c.commands.rest.now ≡ c.in-Some.command.now ∷ c.in-Some.after.now = grind (arith, common_steps) in
    followed_cut c.args.commands.now c.args.begun (failure.Lost c.in-Lost.cause) _ _ _ _ _ refl
    (cut_one c.args.commands.now c.args.begun c.in-Some.command.now c.commands.rest.now c.in-Some.after.now c.commands.soft c.commands.has_errors
    (failure.Lost c.in-Lost.cause)
    (told (g.D.Dmi.seen c.args.link.now)) (told (g.D.Dmi.seen c.commands.link)) (told (g.D.Dmi.seen c.act.new.link)) (g.K.Sink.contents c.args.out.now)
    (g.K.Sink.contents c.commands.out) (g.K.Sink.contents c.act.new.out) front c.commands.invariant.so_far
    c.in-Lost.ensures.acted)

pub returns-in-Sink-clause-followed : goal.returns-in-Sink-clause-followed
returns-in-Sink-clause-followed g c =
    let front : c.commands.rest.now ≡ c.in-Some.command.now ∷ c.in-Some.after.now = grind (arith, common_steps) in
    followed_cut c.args.commands.now c.args.begun failure.Sink _ _ _ _ _ refl
    (cut_one c.args.commands.now c.args.begun c.in-Some.command.now c.commands.rest.now c.in-Some.after.now c.commands.soft c.commands.has_errors failure.Sink
    (told (g.D.Dmi.seen c.args.link.now)) (told (g.D.Dmi.seen c.commands.link)) (told (g.D.Dmi.seen c.act.new.link)) (g.K.Sink.contents c.args.out.now)
    (g.K.Sink.contents c.commands.out) (g.K.Sink.contents c.act.new.out) front c.commands.invariant.so_far
    c.in-Sink.ensures.acted)

pub returns-in-Err-clause-followed : goal.returns-in-Err-clause-followed
returns-in-Err-clause-followed g c =
    let none : c.commands.rest.now ≡ [] = grind (arith, common_steps) in
    followed_cut c.args.commands.now c.args.begun c.in-Err.failure _ _ _ _ _ c.ended_by.ensures
    (cut_closing c.args.commands.now c.args.begun c.commands.rest.now c.commands.soft c.commands.has_errors c.in-Err.failure
    (told (g.D.Dmi.seen c.args.link.now)) (told (g.D.Dmi.seen c.commands.link))
    (told (g.D.Dmi.seen c.close.new.link)) (g.K.Sink.contents c.args.out.now) (g.K.Sink.contents c.commands.out) none c.commands.invariant.so_far
    c.in-Err.ensures.cut)

pub returns-in-End-clause-cause : goal.returns-in-End-clause-cause
returns-in-End-clause-cause g c =
    graded_caused _ _ (g.D.Dmi.seen c.args.link.now) (g.D.Dmi.seen c.act.new.link) c.finished.ensures

pub returns-in-End-clause-sink_cause : goal.returns-in-End-clause-sink_cause
returns-in-End-clause-sink_cause g c =
    graded_sink _ _ _ _ c.finished.ensures

pub returns-in-Ok-clause-cause : goal.returns-in-Ok-clause-cause
returns-in-Ok-clause-cause g c =
    graded_caused _ _ (g.D.Dmi.seen c.args.link.now) (g.D.Dmi.seen c.close.new.link) c.finished-in-Ok.ensures

pub returns-in-Ok-clause-sink_cause : goal.returns-in-Ok-clause-sink_cause
returns-in-Ok-clause-sink_cause g c =
    graded_sink _ _ _ _ c.finished-in-Ok.ensures

pub returns-in-Wire-clause-cause : goal.returns-in-Wire-clause-cause
returns-in-Wire-clause-cause g c =
    since ⊥ (failure.Wire c.in-Wire.fault) (g.D.Dmi.seen c.args.link.now) (g.D.Dmi.seen c.commands.link) (g.D.Dmi.seen c.act.new.link)
    c.commands.invariant.later c.act.ensures.later c.in-Wire.ensures.caused

pub returns-in-Lost-clause-cause : goal.returns-in-Lost-clause-cause
returns-in-Lost-clause-cause g c =
    since ⊥ (failure.Lost c.in-Lost.cause) (g.D.Dmi.seen c.args.link.now) (g.D.Dmi.seen c.commands.link) (g.D.Dmi.seen c.act.new.link)
    c.commands.invariant.later c.act.ensures.later c.in-Lost.ensures.caused

pub returns-in-Sink-clause-sink_cause : goal.returns-in-Sink-clause-sink_cause
returns-in-Sink-clause-sink_cause g c =
    rises_from _ _ _ c.commands.invariant.sink_later c.act.ensures.sink_later c.in-Sink.ensures.caused

pub returns-in-Err-clause-cause : goal.returns-in-Err-clause-cause
returns-in-Err-clause-cause g c =
    unclosed_caused c.in-Err.failure _ (g.D.Dmi.seen c.args.link.now) (g.D.Dmi.seen c.commands.link) (g.D.Dmi.seen c.close.new.link) c.ended_by.ensures
    c.commands.invariant.later c.close.ensures.keeps.later
    c.in-Err.ensures.caused

pub returns-in-Err-clause-sink_cause : goal.returns-in-Err-clause-sink_cause
returns-in-Err-clause-sink_cause g c =
    unclosed_sink c.in-Err.failure _ (g.D.Dmi.seen c.commands.link) (g.D.Dmi.seen c.close.new.link) _ _ c.ended_by.ensures c.in-Err.ensures.caused
