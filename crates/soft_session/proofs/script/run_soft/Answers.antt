use Rattle.std.proofs.Common.{ℕ, List, Option, subst}
use Rattle.debug_model.specs.declared.soft_command.SoftCommand.{SoftCommand}
use Rattle.probe_run.specs.Acts.{Tells}
use Rattle.probe_run.specs.Told.{told}
use Rattle.soft_session.specs.Acts.{FollowedLed}
use Rattle.soft_session.specs.declared.session.SoftSession.{SoftSession}
use Rattle.soft_session.proofs.Transcribing.{begun_so, ended_led, unopened_led}
use Rattle.probe_session.proofs.ScriptLemmas.{not_opened}
use Rattle.probe_session.proofs.EndCauses.{ended_caused}
use Rattle.probe_session.proofs.SinkCauses.{sink_caused}
use Rattle.soft_session.proofs.CausedCalls.{any_plan}
use Rattle.soft_session.proofs.CausedEnds.{end_since, followed_register, unopened_register}
use Rattle.soft_session.proofs.script.run_soft.Goals as goal

pub returns-in-Err-clause-transcribed : goal.returns-in-Err-clause-transcribed
returns-in-Err-clause-transcribed g c =
    unopened_led c.in-Err.fault _ c.args.script.now (g.D.Dmi.seen c.args.link.now).far (g.D.Dmi.seen c.begin.new.link).far _ c.requires.loaded
    c.commands-commands.ensures.within c.in-Err.ensures.lost c.unopened.ensures

pub returns-in-Ok-clause-transcribed : goal.returns-in-Ok-clause-transcribed
returns-in-Ok-clause-transcribed g c =
    let begun : SoftSession = record { session = c.in-Ok.session; table = c.new.result } in
    let mid : Tells = told (g.D.Dmi.seen c.begin.new.link) in
    let new : Tells = told (g.D.Dmi.seen c.run_commands.new.link) in
    let was : Option (List ℕ) = g.K.Sink.contents c.args.out.now in
    let is : Option (List ℕ) = g.K.Sink.contents c.run_commands.new.out in
    ended_led c.run_commands.result c.args.script.now begun (told (g.D.Dmi.seen c.args.link.now)) mid new was is c.requires.loaded
    c.commands-commands.ensures.within
    (begun_so c.in-Ok.session c.new.result c.in-Ok.ensures.first c.new.ensures) c.in-Ok.ensures.loaded
    (subst (λ (s : List SoftCommand). FollowedLed s begun mid new was is c.run_commands.result) c.commands-commands.ensures.list
    c.run_commands.ensures.followed)

pub returns-in-Err-clause-cause : goal.returns-in-Err-clause-cause
returns-in-Err-clause-cause g c =
    ended_caused _ any_plan (g.D.Dmi.seen c.args.link.now).fault_count (g.D.Dmi.seen c.begin.new.link).fault_count (told (g.D.Dmi.seen c.args.link.now))
    (told (g.D.Dmi.seen c.begin.new.link))
    (g.K.Sink.fault_count c.args.out.now) (g.K.Sink.fault_count c.args.out.now) _ _
    (not_opened any_plan c.in-Err.fault _ (g.D.Dmi.seen c.args.link.now).fault_count (g.D.Dmi.seen c.begin.new.link).fault_count
    (told (g.D.Dmi.seen c.args.link.now)) (told (g.D.Dmi.seen c.begin.new.link))
    (g.K.Sink.fault_count c.args.out.now) (g.K.Sink.fault_count c.args.out.now) (g.K.Sink.contents c.args.out.now) c.unopened.ensures
    c.in-Err.ensures.fails c.in-Err.ensures.lost)

pub returns-in-Err-clause-sink_cause : goal.returns-in-Err-clause-sink_cause
returns-in-Err-clause-sink_cause g c =
    sink_caused _ any_plan (g.D.Dmi.seen c.args.link.now).fault_count (g.D.Dmi.seen c.begin.new.link).fault_count (told (g.D.Dmi.seen c.args.link.now))
    (told (g.D.Dmi.seen c.begin.new.link))
    (g.K.Sink.fault_count c.args.out.now) (g.K.Sink.fault_count c.args.out.now) _ _
    (not_opened any_plan c.in-Err.fault _ (g.D.Dmi.seen c.args.link.now).fault_count (g.D.Dmi.seen c.begin.new.link).fault_count
    (told (g.D.Dmi.seen c.args.link.now)) (told (g.D.Dmi.seen c.begin.new.link))
    (g.K.Sink.fault_count c.args.out.now) (g.K.Sink.fault_count c.args.out.now) (g.K.Sink.contents c.args.out.now) c.unopened.ensures
    c.in-Err.ensures.fails c.in-Err.ensures.lost)

pub returns-in-Err-clause-of_register : goal.returns-in-Err-clause-of_register
returns-in-Err-clause-of_register g c =
    unopened_register c.in-Err.fault _ c.unopened.ensures

pub returns-in-Ok-clause-cause : goal.returns-in-Ok-clause-cause
returns-in-Ok-clause-cause g c =
    end_since _ (g.D.Dmi.seen c.args.link.now) (g.D.Dmi.seen c.begin.new.link) (g.D.Dmi.seen c.run_commands.new.link) c.begin.ensures.keeps.later
    c.run_commands.ensures.later c.run_commands.ensures.cause

pub returns-in-Ok-clause-of_register : goal.returns-in-Ok-clause-of_register
returns-in-Ok-clause-of_register g c =
    followed_register _ _ _ _ _ _ _ c.run_commands.ensures.followed
