use Rattle.debug_model.proofs.RiseLemmas.{within_then}
use Rattle.probe_run.specs.Told.{told}
use Rattle.probe_access.proofs.BusCutClauses.{bus_load_cut}
use Rattle.std.proofs.Common.{arith, refl, ◌∙◌}
use Rattle.probe_access.specs.BusRuns.{BusFetching}
use Rattle.probe_access.specs.BusRuns.BusLoadFailed.{in_start, in_end, in_fetch}
use Rattle.probe_access.proofs.BusClauses.{bus_load_err, bus_load_ok}
use Rattle.probe_access.proofs.BusPolls.{end_counted}
use Rattle.probe_access.proofs.RegisterCalls.{broke_counted, err_failed}
use Rattle.probe_access.proofs.bus.bus_load.Goals as goal

pub returns-in_err-start_read-clause-failed : goal.returns-in_err-start_read-clause-failed
returns-in_err-start_read-clause-failed g c =
    err_failed c.from_residual.result _ _ c.from_residual.ensures.1 (in_start c.in_err-start_read.field-0.0 refl c.in_err-start_read.ensures.broke)

pub returns-in_err-finish-clause-failed : goal.returns-in_err-finish-clause-failed
returns-in_err-finish-clause-failed g c =
    err_failed c.from_residual-in_err-finish.result c.in_err-finish.field-0.0 _ c.from_residual-in_err-finish.ensures.1
    (in_end _ c.in_ok-start_read.ensures.did
    (end_counted c.args.address _ _ _ _ _ c.in_err-finish.field-0.0 c.start_read.ensures.keeps.later c.finish.ensures.keeps.later
    c.in_err-finish.ensures.failed))

pub returns-in_err-finish-clause-left : goal.returns-in_err-finish-clause-left
returns-in_err-finish-clause-left g c =
    err_failed c.from_residual-in_err-finish.result c.in_err-finish.field-0.0 _ c.from_residual-in_err-finish.ensures.1
    (bus_load_err c.args.size c.args.address _ _ _ _ _ c.in_err-finish.field-0.0 c.requires.ready c.requires.aligned
    (in_end _ c.in_ok-start_read.ensures.did
    (end_counted c.args.address _ _ _ _ _ c.in_err-finish.field-0.0 c.start_read.ensures.keeps.later c.finish.ensures.keeps.later
    c.in_err-finish.ensures.failed))).left

pub returns-in_err-finish-clause-ready_again : goal.returns-in_err-finish-clause-ready_again
returns-in_err-finish-clause-ready_again g c =
    err_failed c.from_residual-in_err-finish.result c.in_err-finish.field-0.0 _ c.from_residual-in_err-finish.ensures.1
    (bus_load_err c.args.size c.args.address _ _ _ _ _ c.in_err-finish.field-0.0 c.requires.ready c.requires.aligned
    (in_end _ c.in_ok-start_read.ensures.did
    (end_counted c.args.address _ _ _ _ _ c.in_err-finish.field-0.0 c.start_read.ensures.keeps.later c.finish.ensures.keeps.later
    c.in_err-finish.ensures.failed))).ready

pub returns-in_err-value-clause-failed : goal.returns-in_err-value-clause-failed
returns-in_err-value-clause-failed g c =
    err_failed c.from_residual-in_err-value.result _ _ c.from_residual-in_err-value.ensures.1
    (in_fetch _ _ c.in_ok-start_read.ensures.did c.in_ok-finish.ensures.ended c.in_err-value.field-0.0 refl
    (broke_counted BusFetching _ _ _ _ _ c.in_err-value.field-0.0 (omega (arith, c.start_read.ensures.keeps.later, c.finish.ensures.keeps.later))
    c.fetch.ensures.keeps.later c.in_err-value.ensures.broke))

pub returns-clause-loaded : goal.returns-clause-loaded
returns-clause-loaded g c =
    (bus_load_ok c.args.size c.args.address c.in_ok-value.value _ _ _ c.requires.ready c.requires.aligned
    (record {
      started = _;
      ended = _;
      starts = c.in_ok-start_read.ensures.did;
      ends = c.in_ok-finish.ensures.ended;
      fetched =
          c.in_ok-value.ensures.fetched;
    })).loaded_at

pub returns-clause-ready : goal.returns-clause-ready
returns-clause-ready g c =
    (bus_load_ok c.args.size c.args.address c.in_ok-value.value _ _ _ c.requires.ready c.requires.aligned
    (record {
      started = _;
      ended = _;
      starts = c.in_ok-start_read.ensures.did;
      ends = c.in_ok-finish.ensures.ended;
      fetched =
          c.in_ok-value.ensures.fetched;
    })).ready

pub returns-in_err-start_read-clause-cut : goal.returns-in_err-start_read-clause-cut
returns-in_err-start_read-clause-cut g c =
    err_failed c.from_residual.result _ _ c.from_residual.ensures.1
    (bus_load_cut c.args.size c.args.address _ _ (told (g.D.Dmi.seen c.start_read.new.link)) _ _ _ c.requires.ready c.requires.aligned
    (in_start c.in_err-start_read.field-0.0 refl c.in_err-start_read.ensures.broke))

pub returns-in_err-finish-clause-cut : goal.returns-in_err-finish-clause-cut
returns-in_err-finish-clause-cut g c =
    err_failed c.from_residual-in_err-finish.result c.in_err-finish.field-0.0 _ c.from_residual-in_err-finish.ensures.1
    (bus_load_cut c.args.size c.args.address _ _ _ _ _ c.in_err-finish.field-0.0 c.requires.ready c.requires.aligned
    (in_end _ c.in_ok-start_read.ensures.did
    (end_counted c.args.address _ _ _ _ _ c.in_err-finish.field-0.0 c.start_read.ensures.keeps.later c.finish.ensures.keeps.later
    c.in_err-finish.ensures.failed)))

pub returns-in_err-value-clause-cut : goal.returns-in_err-value-clause-cut
returns-in_err-value-clause-cut g c =
    err_failed c.from_residual-in_err-value.result _ _ c.from_residual-in_err-value.ensures.1
    (bus_load_cut c.args.size c.args.address _ _ (told (g.D.Dmi.seen c.fetch.new.link)) (g.D.Dmi.seen c.args.link.now).fault_count
    (g.D.Dmi.seen c.fetch.new.link).fault_count _ c.requires.ready c.requires.aligned
    (in_fetch (told (g.D.Dmi.seen c.start_read.new.link)) (told (g.D.Dmi.seen c.finish.new.link)) c.in_ok-start_read.ensures.did c.in_ok-finish.ensures.ended
    c.in_err-value.field-0.0 refl
    (broke_counted BusFetching (g.D.Dmi.seen c.args.link.now).fault_count (g.D.Dmi.seen c.finish.new.link).fault_count
    (g.D.Dmi.seen c.fetch.new.link).fault_count (told (g.D.Dmi.seen c.finish.new.link)) _ c.in_err-value.field-0.0
    (omega (arith, c.start_read.ensures.keeps.later, c.finish.ensures.keeps.later)) c.fetch.ensures.keeps.later c.in_err-value.ensures.broke)))

pub returns-in_err-value-clause-rises : goal.returns-in_err-value-clause-rises
returns-in_err-value-clause-rises g c =
    within_then 5 2 7 _ (g.D.Dmi.seen c.finish.new.link) _ (within_then 3 2 5 _ (g.D.Dmi.seen c.start_read.new.link) _ c.start_read.ensures.rises c.finish.ensures.rises
    c.start_read.ensures.keeps.fixed (omega arith)) c.fetch.ensures.rises
    (c.finish.ensures.keeps.fixed ∙ c.start_read.ensures.keeps.fixed) (omega arith)

pub returns-clause-rises : goal.returns-clause-rises
returns-clause-rises g c =
    within_then 5 2 7 _ (g.D.Dmi.seen c.finish.new.link) _ (within_then 3 2 5 _ (g.D.Dmi.seen c.start_read.new.link) _ c.start_read.ensures.rises c.finish.ensures.rises
    c.start_read.ensures.keeps.fixed (omega arith)) c.fetch.ensures.rises
    (c.finish.ensures.keeps.fixed ∙ c.start_read.ensures.keeps.fixed) (omega arith)
