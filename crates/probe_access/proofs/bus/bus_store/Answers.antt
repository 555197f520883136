use Rattle.probe_run.specs.Told.{told}
use Rattle.probe_access.proofs.BusCutClauses.{bus_store_cut}
use Rattle.std.proofs.Common.{refl}
use Rattle.probe_access.specs.BusRuns.BusStoreFailed.{in_start, in_end}
use Rattle.probe_access.proofs.BusClauses.{bus_store_err, bus_store_ok}
use Rattle.probe_access.proofs.BusPolls.{end_counted}
use Rattle.probe_access.proofs.RegisterCalls.{err_failed}
use Rattle.probe_access.proofs.bus.bus_store.Goals as goal

pub returns-in_err-start_write-clause-failed : goal.returns-in_err-start_write-clause-failed
returns-in_err-start_write-clause-failed g c =
    err_failed c.from_residual.result _ _ c.from_residual.ensures.1 (in_start c.in_err-start_write.field-0.0 refl c.in_err-start_write.ensures.broke)

pub returns-in_err-finish-clause-failed : goal.returns-in_err-finish-clause-failed
returns-in_err-finish-clause-failed g c =
    err_failed c.from_residual-in_err-finish.result c.in_err-finish.field-0.0 _ c.from_residual-in_err-finish.ensures.1
    (in_end _ c.in_ok-start_write.ensures.did
    (end_counted c.args.address _ _ _ _ _ c.in_err-finish.field-0.0 c.start_write.ensures.keeps.later c.finish.ensures.keeps.later
    c.in_err-finish.ensures.failed))

pub returns-in_err-finish-clause-left : goal.returns-in_err-finish-clause-left
returns-in_err-finish-clause-left g c =
    err_failed c.from_residual-in_err-finish.result c.in_err-finish.field-0.0 _ c.from_residual-in_err-finish.ensures.1
    (bus_store_err c.args.size c.args.address c.args.value _ _ _ _ _ c.in_err-finish.field-0.0 c.requires.ready c.requires.aligned
    (in_end _ c.in_ok-start_write.ensures.did
    (end_counted c.args.address _ _ _ _ _ c.in_err-finish.field-0.0 c.start_write.ensures.keeps.later c.finish.ensures.keeps.later
    c.in_err-finish.ensures.failed))).left

pub returns-in_err-finish-clause-ready_again : goal.returns-in_err-finish-clause-ready_again
returns-in_err-finish-clause-ready_again g c =
    err_failed c.from_residual-in_err-finish.result c.in_err-finish.field-0.0 _ c.from_residual-in_err-finish.ensures.1
    (bus_store_err c.args.size c.args.address c.args.value _ _ _ _ _ c.in_err-finish.field-0.0 c.requires.ready c.requires.aligned
    (in_end _ c.in_ok-start_write.ensures.did
    (end_counted c.args.address _ _ _ _ _ c.in_err-finish.field-0.0 c.start_write.ensures.keeps.later c.finish.ensures.keeps.later
    c.in_err-finish.ensures.failed))).ready

pub returns-clause-stored : goal.returns-clause-stored
returns-clause-stored g c =
    (bus_store_ok c.args.size c.args.address c.args.value _ _ _ c.requires.ready c.requires.aligned
    (record { started = _; starts = c.in_ok-start_write.ensures.did; ends = c.in_ok-finish.ensures.ended })).stored_at

pub returns-clause-ready : goal.returns-clause-ready
returns-clause-ready g c =
    (bus_store_ok c.args.size c.args.address c.args.value _ _ _ c.requires.ready c.requires.aligned
    (record { started = _; starts = c.in_ok-start_write.ensures.did; ends = c.in_ok-finish.ensures.ended })).ready

pub returns-in_err-start_write-clause-cut : goal.returns-in_err-start_write-clause-cut
returns-in_err-start_write-clause-cut g c =
    err_failed c.from_residual.result _ _ c.from_residual.ensures.1
    (bus_store_cut c.args.size c.args.address c.args.value _ _ (told (g.D.Dmi.seen c.start_write.new.link)) _ _ _ c.requires.ready c.requires.aligned
    (in_start c.in_err-start_write.field-0.0 refl c.in_err-start_write.ensures.broke))

pub returns-in_err-finish-clause-cut : goal.returns-in_err-finish-clause-cut
returns-in_err-finish-clause-cut g c =
    err_failed c.from_residual-in_err-finish.result c.in_err-finish.field-0.0 _ c.from_residual-in_err-finish.ensures.1
    (bus_store_cut c.args.size c.args.address c.args.value _ _ _ _ _ c.in_err-finish.field-0.0 c.requires.ready c.requires.aligned
    (in_end _ c.in_ok-start_write.ensures.did
    (end_counted c.args.address _ _ _ _ _ c.in_err-finish.field-0.0 c.start_write.ensures.keeps.later c.finish.ensures.keeps.later
    c.in_err-finish.ensures.failed)))
