use Rattle.probe_run.specs.Told.{told}
use Rattle.probe_access.proofs.BusStreamCauses.{fell_causes, fell_cut, fell_left, fell_ready, fell_refused}
use Rattle.probe_access.proofs.BusStreamOutcomes.{loads_few, loads_told}
use Rattle.probe_access.proofs.BusSpent.{run_fell_spent, run_loads_spent}
use Rattle.probe_access.proofs.bus_runs.load_run.Goals as goal

pub returns-in-Ok-clause-most : goal.returns-in-Ok-clause-most
returns-in-Ok-clause-most g c =
    loads_few c.args.size c.args.address c.args.count c.try_run.new.into.items (told (g.D.Dmi.seen c.args.link.now))
    (told (g.D.Dmi.seen c.try_run.new.link)) c.in-Ok.ensures.loads

pub returns-in-Ok-clause-loaded : goal.returns-in-Ok-clause-loaded
returns-in-Ok-clause-loaded g c =
    (loads_told c.args.size c.args.address c.args.count c.try_run.new.into.items _ _ (told (g.D.Dmi.seen c.try_run.new.link)) c.requires.ready
    c.requires.aligned c.requires.ends c.requires.room c.in-Ok.ensures.loads).loaded

pub returns-in-Ok-clause-ready : goal.returns-in-Ok-clause-ready
returns-in-Ok-clause-ready g c =
    (loads_told c.args.size c.args.address c.args.count c.try_run.new.into.items _ _ (told (g.D.Dmi.seen c.try_run.new.link)) c.requires.ready
    c.requires.aligned c.requires.ends c.requires.room c.in-Ok.ensures.loads).ready

pub returns-in-Err-clause-refused : goal.returns-in-Err-clause-refused
returns-in-Err-clause-refused g c =
    fell_refused c.args.size c.args.address c.args.count _ _ c.try_run.new.into.items c.empty_unless_memory.new.into.items
    (told (g.D.Dmi.seen c.args.link.now)) (told (g.D.Dmi.seen c.try_run.new.link)) c.in-Err.fault c.empty_unless_memory.ensures.kept c.in-Err.ensures.fell

pub returns-in-Err-clause-left : goal.returns-in-Err-clause-left
returns-in-Err-clause-left g c =
    fell_left c.args.size c.args.address c.args.count _ _ c.try_run.new.into.items c.empty_unless_memory.new.into.items _ _
    (told (g.D.Dmi.seen c.try_run.new.link)) c.in-Err.fault c.requires.ready c.requires.aligned c.requires.ends c.requires.room
    c.empty_unless_memory.ensures.kept c.in-Err.ensures.fell

pub returns-in-Err-clause-causes : goal.returns-in-Err-clause-causes
returns-in-Err-clause-causes g c =
    fell_causes c.args.size c.args.address c.args.count _ _ c.try_run.new.into.items (told (g.D.Dmi.seen c.args.link.now))
    (told (g.D.Dmi.seen c.try_run.new.link)) c.in-Err.fault c.try_run.ensures.keeps.later c.in-Err.ensures.fell

pub returns-in-Err-clause-cut : goal.returns-in-Err-clause-cut
returns-in-Err-clause-cut g c =
    fell_cut c.args.size c.args.address c.args.count _ _ c.try_run.new.into.items c.empty_unless_memory.new.into.items _ _
    (told (g.D.Dmi.seen c.try_run.new.link)) c.in-Err.fault c.requires.ready c.requires.aligned c.requires.ends c.requires.some
    c.empty_unless_memory.ensures.emptied c.in-Err.ensures.fell

pub returns-in-Err-clause-ready_again : goal.returns-in-Err-clause-ready_again
returns-in-Err-clause-ready_again g c =
    fell_ready c.args.size c.args.address c.args.count _ _ c.try_run.new.into.items _ _ (told (g.D.Dmi.seen c.try_run.new.link)) c.in-Err.fault
    c.requires.ready c.requires.aligned c.requires.ends c.requires.room c.in-Err.ensures.fell

pub returns-in-Ok-clause-few : goal.returns-in-Ok-clause-few
returns-in-Ok-clause-few g c =
    run_loads_spent c.args.size c.args.address c.args.count c.try_run.new.into.items (told (g.D.Dmi.seen c.args.link.now))
    (told (g.D.Dmi.seen c.try_run.new.link)) c.in-Ok.ensures.loads

pub returns-in-Err-clause-few_failed : goal.returns-in-Err-clause-few_failed
returns-in-Err-clause-few_failed g c =
    run_fell_spent c.args.size c.args.address c.args.count _ _ c.try_run.new.into.items (told (g.D.Dmi.seen c.args.link.now))
    (told (g.D.Dmi.seen c.try_run.new.link)) c.in-Err.fault c.in-Err.ensures.fell
