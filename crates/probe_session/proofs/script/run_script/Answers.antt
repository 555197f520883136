use Rattle.probe_session.proofs.Budgets.{opening_within, script_within}
use Rattle.probe_run.specs.Told.{told}
use Rattle.std.proofs.Common.{◌≡◌}
use Rattle.abstract_debugger.specs.Debugger.{commands, first_state}
use Rattle.probe_run.specs.Acts.{Tells}
use Rattle.probe_session.specs.Commands.{state_of}
use Rattle.probe_session.proofs.Endings.{ended_transcribed}
use Rattle.probe_session.proofs.ScriptLemmas.{not_opened, opened_ended}
use Rattle.probe_session.proofs.SinkCauses.{sink_caused}
use Rattle.probe_session.proofs.EndCauses.{ended_caused}
use Rattle.probe_session.proofs.UpTo.{opened_up_to, unopened_up_to}
use Rattle.probe_session.proofs.UpToTold.{ended_up_to}
use Rattle.probe_session.proofs.NeverLemmas.{ends_then}
use Rattle.probe_session.proofs.script.run_script.Goals as goal

pub returns-in-Err-clause-ended : goal.returns-in-Err-clause-ended
returns-in-Err-clause-ended g c = not_opened (commands c.args.script.now first_state) c.in-Err.fault _ _ _ _ _ _ _ _ c.unopened.ensures c.in-Err.ensures.fails c.in-Err.ensures.lost

pub returns-in-Err-clause-transcribed : goal.returns-in-Err-clause-transcribed
returns-in-Err-clause-transcribed g c =
    let old : Tells = told (g.D.Dmi.seen c.args.link.now) in
    let new : Tells = told (g.D.Dmi.seen c.begin.new.link) in
    ended_transcribed _ (commands c.args.script.now first_state) (g.D.Dmi.seen c.args.link.now).fault_count (g.D.Dmi.seen c.begin.new.link).fault_count old new
    (g.K.Sink.fault_count c.args.out.now) (g.K.Sink.fault_count c.args.out.now) _ _
    (not_opened (commands c.args.script.now first_state) c.in-Err.fault _ _ _ old new _ _ _ c.unopened.ensures c.in-Err.ensures.fails c.in-Err.ensures.lost) c.requires.loaded

pub returns-in-Ok-clause-transcribed : goal.returns-in-Ok-clause-transcribed
returns-in-Ok-clause-transcribed g c =
    let old : Tells = told (g.D.Dmi.seen c.args.link.now) in
    let mid : Tells = told (g.D.Dmi.seen c.begin.new.link) in
    let new : Tells = told (g.D.Dmi.seen c.run_commands.new.link) in
    let is : c.commands.result.now ≡ c.args.script.now = c.commands.ensures.list in
    ended_transcribed _ (commands c.args.script.now first_state) (g.D.Dmi.seen c.args.link.now).fault_count (g.D.Dmi.seen c.run_commands.new.link).fault_count old new
    (g.K.Sink.fault_count c.args.out.now) (g.K.Sink.fault_count c.run_commands.new.out) _ _
    (opened_ended c.args.script.now (state_of c.in-Ok.session) _ _ (g.D.Dmi.seen c.begin.new.link).fault_count _ old mid new _ _ _ _ c.in-Ok.ensures.first
    c.in-Ok.ensures.did c.in-Ok.ensures.loaded c.begin.ensures.keeps.later (rw is at c.run_commands.ensures.followed)) c.requires.loaded

pub returns-in-Err-clause-up_to : goal.returns-in-Err-clause-up_to
returns-in-Err-clause-up_to g c =
    let old : Tells = told (g.D.Dmi.seen c.args.link.now) in
    let new : Tells = told (g.D.Dmi.seen c.begin.new.link) in
    ended_up_to _ c.args.script.now (g.D.Dmi.seen c.args.link.now).fault_count (g.D.Dmi.seen c.begin.new.link).fault_count old new
    (g.K.Sink.fault_count c.args.out.now) (g.K.Sink.fault_count c.args.out.now) _ _
    (unopened_up_to c.args.script.now c.in-Err.fault _ _ _ old new _ _ _ c.unopened.ensures c.in-Err.ensures.fails c.in-Err.ensures.lost) c.requires.loaded

pub returns-in-Ok-clause-up_to : goal.returns-in-Ok-clause-up_to
returns-in-Ok-clause-up_to g c =
    let old : Tells = told (g.D.Dmi.seen c.args.link.now) in
    let mid : Tells = told (g.D.Dmi.seen c.begin.new.link) in
    let new : Tells = told (g.D.Dmi.seen c.run_commands.new.link) in
    let is : c.commands.result.now ≡ c.args.script.now = c.commands.ensures.list in
    ended_up_to _ c.args.script.now (g.D.Dmi.seen c.args.link.now).fault_count (g.D.Dmi.seen c.run_commands.new.link).fault_count old new
    (g.K.Sink.fault_count c.args.out.now) (g.K.Sink.fault_count c.run_commands.new.out) _ _
    (opened_up_to c.args.script.now (state_of c.in-Ok.session) _ _ (g.D.Dmi.seen c.begin.new.link).fault_count _ old mid new _ _ _ _ c.in-Ok.ensures.first
    c.in-Ok.ensures.did c.in-Ok.ensures.loaded c.begin.ensures.keeps.later (rw is at c.run_commands.ensures.up_to)) c.requires.loaded

pub returns-in-Err-clause-cause : goal.returns-in-Err-clause-cause
returns-in-Err-clause-cause g c =
    let old : Tells = told (g.D.Dmi.seen c.args.link.now) in
    let new : Tells = told (g.D.Dmi.seen c.begin.new.link) in
    ended_caused _ (commands c.args.script.now first_state) (g.D.Dmi.seen c.args.link.now).fault_count (g.D.Dmi.seen c.begin.new.link).fault_count old new
    (g.K.Sink.fault_count c.args.out.now) (g.K.Sink.fault_count c.args.out.now) _ _
    (not_opened (commands c.args.script.now first_state) c.in-Err.fault _ (g.D.Dmi.seen c.args.link.now).fault_count (g.D.Dmi.seen c.begin.new.link).fault_count old new
    (g.K.Sink.fault_count c.args.out.now) (g.K.Sink.fault_count c.args.out.now) (g.K.Sink.contents c.args.out.now) c.unopened.ensures c.in-Err.ensures.fails
    c.in-Err.ensures.lost)

pub returns-in-Ok-clause-cause : goal.returns-in-Ok-clause-cause
returns-in-Ok-clause-cause g c =
    let old : Tells = told (g.D.Dmi.seen c.args.link.now) in
    let mid : Tells = told (g.D.Dmi.seen c.begin.new.link) in
    let new : Tells = told (g.D.Dmi.seen c.run_commands.new.link) in
    let is : c.commands.result.now ≡ c.args.script.now = c.commands.ensures.list in
    ended_caused _ (commands c.args.script.now first_state) (g.D.Dmi.seen c.args.link.now).fault_count (g.D.Dmi.seen c.run_commands.new.link).fault_count old new
    (g.K.Sink.fault_count c.args.out.now) (g.K.Sink.fault_count c.run_commands.new.out) (g.K.Sink.contents c.args.out.now)
    (g.K.Sink.contents c.run_commands.new.out)
    (opened_ended c.args.script.now (state_of c.in-Ok.session) _ _ (g.D.Dmi.seen c.begin.new.link).fault_count _ old mid new _ _ _ _ c.in-Ok.ensures.first
    c.in-Ok.ensures.did c.in-Ok.ensures.loaded c.begin.ensures.keeps.later (rw is at c.run_commands.ensures.followed))

pub returns-in-Err-clause-sink_cause : goal.returns-in-Err-clause-sink_cause
returns-in-Err-clause-sink_cause g c =
    let old : Tells = told (g.D.Dmi.seen c.args.link.now) in
    let new : Tells = told (g.D.Dmi.seen c.begin.new.link) in
    sink_caused _ (commands c.args.script.now first_state) (g.D.Dmi.seen c.args.link.now).fault_count (g.D.Dmi.seen c.begin.new.link).fault_count old new
    (g.K.Sink.fault_count c.args.out.now) (g.K.Sink.fault_count c.args.out.now) _ _
    (not_opened (commands c.args.script.now first_state) c.in-Err.fault _ (g.D.Dmi.seen c.args.link.now).fault_count (g.D.Dmi.seen c.begin.new.link).fault_count old new
    (g.K.Sink.fault_count c.args.out.now) (g.K.Sink.fault_count c.args.out.now) (g.K.Sink.contents c.args.out.now) c.unopened.ensures c.in-Err.ensures.fails
    c.in-Err.ensures.lost)

pub returns-in-Ok-clause-sink_cause : goal.returns-in-Ok-clause-sink_cause
returns-in-Ok-clause-sink_cause g c =
    let old : Tells = told (g.D.Dmi.seen c.args.link.now) in
    let mid : Tells = told (g.D.Dmi.seen c.begin.new.link) in
    let new : Tells = told (g.D.Dmi.seen c.run_commands.new.link) in
    let is : c.commands.result.now ≡ c.args.script.now = c.commands.ensures.list in
    sink_caused _ (commands c.args.script.now first_state) (g.D.Dmi.seen c.args.link.now).fault_count (g.D.Dmi.seen c.run_commands.new.link).fault_count old new
    (g.K.Sink.fault_count c.args.out.now) (g.K.Sink.fault_count c.run_commands.new.out) (g.K.Sink.contents c.args.out.now)
    (g.K.Sink.contents c.run_commands.new.out)
    (opened_ended c.args.script.now (state_of c.in-Ok.session) _ _ (g.D.Dmi.seen c.begin.new.link).fault_count _ old mid new _ _ _ _ c.in-Ok.ensures.first
    c.in-Ok.ensures.did c.in-Ok.ensures.loaded c.begin.ensures.keeps.later (rw is at c.run_commands.ensures.followed))

pub returns-in-Err-clause-rises : goal.returns-in-Err-clause-rises
returns-in-Err-clause-rises g c =
    opening_within c.args.script.now _ _ c.begin.ensures.rises

pub returns-in-Ok-clause-rises : goal.returns-in-Ok-clause-rises
returns-in-Ok-clause-rises g c =
    script_within c.args.script.now c.commands.result.now _ (g.D.Dmi.seen c.begin.new.link) _ c.commands.ensures.list c.begin.ensures.rises
    c.run_commands.ensures.rises c.begin.ensures.keeps.fixed

pub returns-in-Ok-clause-never : goal.returns-in-Ok-clause-never
returns-in-Ok-clause-never g c =
    ends_then 72 _ (g.D.Dmi.seen c.begin.new.link) _ c.begin.ensures.rises c.run_commands.ensures.never
