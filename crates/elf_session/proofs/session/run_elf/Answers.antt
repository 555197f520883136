use Rattle.probe_run.specs.Told.{told}
use Rattle.std.proofs.Common.{◌≡◌}
use Rattle.abstract_debugger.specs.Plan.{Plan}
use Rattle.probe_run.specs.Acts.{Tells}
use Rattle.probe_session.proofs.Endings.{ended_transcribed}
use Rattle.probe_session.proofs.ScriptLemmas.{not_opened, opened_plan_ended}
use Rattle.probe_session.proofs.SinkCauses.{sink_caused}
use Rattle.probe_session.proofs.EndCauses.{ended_caused}
use Rattle.elf_session.specs.Loading.{elf_plan}
use Rattle.probe_session.proofs.NeverLemmas.{ends_then}
use Rattle.elf_session.proofs.Budgets.{elf_within, opening_within}
use Rattle.elf_session.proofs.session.run_elf.Goals as goal

-- ---- a chip that was not opened

pub returns-in-Err-clause-ended : goal.returns-in-Err-clause-ended
returns-in-Err-clause-ended g c =
    not_opened (elf_plan c.args.file.now c.args.script.now) c.in-Err.fault _ _ _ _ _ _ _ _ c.unopened.ensures c.in-Err.ensures.fails c.in-Err.ensures.lost

pub returns-in-Err-clause-transcribed : goal.returns-in-Err-clause-transcribed
returns-in-Err-clause-transcribed g c =
    let p : Plan = elf_plan c.args.file.now c.args.script.now in
    let old : Tells = told (g.D.Dmi.seen c.args.link.now) in
    let new : Tells = told (g.D.Dmi.seen c.begin.new.link) in
    ended_transcribed _ p (g.D.Dmi.seen c.args.link.now).fault_count (g.D.Dmi.seen c.begin.new.link).fault_count old new
    (g.K.Sink.fault_count c.args.out.now) (g.K.Sink.fault_count c.args.out.now) _ _
    (not_opened p c.in-Err.fault _ _ _ old new _ _ _ c.unopened.ensures c.in-Err.ensures.fails c.in-Err.ensures.lost) c.requires.loaded

pub returns-in-Err-clause-cause : goal.returns-in-Err-clause-cause
returns-in-Err-clause-cause g c =
    let p : Plan = elf_plan c.args.file.now c.args.script.now in
    let old : Tells = told (g.D.Dmi.seen c.args.link.now) in
    let new : Tells = told (g.D.Dmi.seen c.begin.new.link) in
    ended_caused _ p (g.D.Dmi.seen c.args.link.now).fault_count (g.D.Dmi.seen c.begin.new.link).fault_count old new
    (g.K.Sink.fault_count c.args.out.now) (g.K.Sink.fault_count c.args.out.now) _ _
    (not_opened p c.in-Err.fault _ (g.D.Dmi.seen c.args.link.now).fault_count (g.D.Dmi.seen c.begin.new.link).fault_count old new
    (g.K.Sink.fault_count c.args.out.now) (g.K.Sink.fault_count c.args.out.now) (g.K.Sink.contents c.args.out.now) c.unopened.ensures c.in-Err.ensures.fails
    c.in-Err.ensures.lost)

pub returns-in-Err-clause-sink_cause : goal.returns-in-Err-clause-sink_cause
returns-in-Err-clause-sink_cause g c =
    let p : Plan = elf_plan c.args.file.now c.args.script.now in
    let old : Tells = told (g.D.Dmi.seen c.args.link.now) in
    let new : Tells = told (g.D.Dmi.seen c.begin.new.link) in
    sink_caused _ p (g.D.Dmi.seen c.args.link.now).fault_count (g.D.Dmi.seen c.begin.new.link).fault_count old new
    (g.K.Sink.fault_count c.args.out.now) (g.K.Sink.fault_count c.args.out.now) _ _
    (not_opened p c.in-Err.fault _ (g.D.Dmi.seen c.args.link.now).fault_count (g.D.Dmi.seen c.begin.new.link).fault_count old new
    (g.K.Sink.fault_count c.args.out.now) (g.K.Sink.fault_count c.args.out.now) (g.K.Sink.contents c.args.out.now) c.unopened.ensures c.in-Err.ensures.fails
    c.in-Err.ensures.lost)

-- ---- one that was

pub returns-in-Ok-clause-ended : goal.returns-in-Ok-clause-ended
returns-in-Ok-clause-ended g c =
    let old : Tells = told (g.D.Dmi.seen c.args.link.now) in
    let mid : Tells = told (g.D.Dmi.seen c.begin.new.link) in
    let new : Tells = told (g.D.Dmi.seen c.load_and_run.new.link) in
    let is : c.commands.result.now ≡ c.args.script.now = c.commands.ensures.list in
    opened_plan_ended (elf_plan c.args.file.now c.args.script.now) _ (g.D.Dmi.seen c.args.link.now).fault_count (g.D.Dmi.seen c.begin.new.link).fault_count
    (g.D.Dmi.seen c.load_and_run.new.link).fault_count old mid new (g.K.Sink.fault_count c.args.out.now) (g.K.Sink.fault_count c.load_and_run.new.out)
    (g.K.Sink.contents c.args.out.now) (g.K.Sink.contents c.load_and_run.new.out)
    c.in-Ok.ensures.did c.in-Ok.ensures.loaded c.begin.ensures.keeps.later (rw is at c.load_and_run.ensures.followed)

pub returns-in-Ok-clause-transcribed : goal.returns-in-Ok-clause-transcribed
returns-in-Ok-clause-transcribed g c =
    let old : Tells = told (g.D.Dmi.seen c.args.link.now) in
    let new : Tells = told (g.D.Dmi.seen c.load_and_run.new.link) in
    ended_transcribed _ (elf_plan c.args.file.now c.args.script.now) (g.D.Dmi.seen c.args.link.now).fault_count
    (g.D.Dmi.seen c.load_and_run.new.link).fault_count old new
    (g.K.Sink.fault_count c.args.out.now) (g.K.Sink.fault_count c.load_and_run.new.out) _ _ (returns-in-Ok-clause-ended g c) c.requires.loaded

pub returns-in-Ok-clause-cause : goal.returns-in-Ok-clause-cause
returns-in-Ok-clause-cause g c =
    let old : Tells = told (g.D.Dmi.seen c.args.link.now) in
    let new : Tells = told (g.D.Dmi.seen c.load_and_run.new.link) in
    ended_caused _ (elf_plan c.args.file.now c.args.script.now) (g.D.Dmi.seen c.args.link.now).fault_count
    (g.D.Dmi.seen c.load_and_run.new.link).fault_count old new
    (g.K.Sink.fault_count c.args.out.now) (g.K.Sink.fault_count c.load_and_run.new.out) (g.K.Sink.contents c.args.out.now)
    (g.K.Sink.contents c.load_and_run.new.out) (returns-in-Ok-clause-ended g c)

pub returns-in-Ok-clause-sink_cause : goal.returns-in-Ok-clause-sink_cause
returns-in-Ok-clause-sink_cause g c =
    let old : Tells = told (g.D.Dmi.seen c.args.link.now) in
    let new : Tells = told (g.D.Dmi.seen c.load_and_run.new.link) in
    sink_caused _ (elf_plan c.args.file.now c.args.script.now) (g.D.Dmi.seen c.args.link.now).fault_count
    (g.D.Dmi.seen c.load_and_run.new.link).fault_count old new
    (g.K.Sink.fault_count c.args.out.now) (g.K.Sink.fault_count c.load_and_run.new.out) (g.K.Sink.contents c.args.out.now)
    (g.K.Sink.contents c.load_and_run.new.out) (returns-in-Ok-clause-ended g c)

-- ---- in time

pub returns-in-Err-clause-rises : goal.returns-in-Err-clause-rises
returns-in-Err-clause-rises g c = opening_within c.args.file.now c.args.script.now _ _ c.begin.ensures.rises

pub returns-in-Ok-clause-rises : goal.returns-in-Ok-clause-rises
returns-in-Ok-clause-rises g c =
    elf_within c.args.file.now c.args.script.now c.commands.result.now _ (g.D.Dmi.seen c.begin.new.link) _ c.commands.ensures.list c.begin.ensures.rises
    c.load_and_run.ensures.rises c.begin.ensures.keeps.fixed

pub returns-in-Ok-clause-never : goal.returns-in-Ok-clause-never
returns-in-Ok-clause-never g c = ends_then 72 (g.D.Dmi.seen c.args.link.now) (g.D.Dmi.seen c.begin.new.link) c.load_and_run.result c.begin.ensures.rises c.load_and_run.ensures.never
