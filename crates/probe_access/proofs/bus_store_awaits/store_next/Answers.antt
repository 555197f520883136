use Rattle.debug_model.proofs.RiseLemmas.{within_more, within_then}
use Rattle.std.proofs.Common.{refl, length, ◌+◌, arith}
use Rattle.probe_run.specs.Told.{told}
use Rattle.probe_access.specs.BusAwaits.StoreNextFailed.{in_put, in_end}
use Rattle.probe_access.specs.BusStoreStreams.{element_puts}
use Rattle.probe_access.proofs.BusPolls.{end_counted}
use Rattle.probe_access.proofs.RegisterCalls.{err_failed}
use Rattle.probe_access.proofs.bus_store_awaits.store_next.Goals as goal

pub returns-in_err-write_element-clause-failed : goal.returns-in_err-write_element-clause-failed
returns-in_err-write_element-clause-failed g c =
    err_failed c.from_residual.result _ _ c.from_residual.ensures.1
    (in_put c.in_err-write_element.field-0.0 refl c.in_err-write_element.ensures.broke)

pub returns-in_err-finish-clause-failed : goal.returns-in_err-finish-clause-failed
returns-in_err-finish-clause-failed g c =
    err_failed c.from_residual-in_err-finish.result c.in_err-finish.field-0.0 _ c.from_residual-in_err-finish.ensures.1
    (in_end (told (g.D.Dmi.seen c.write_element.new.link)) c.in_ok-write_element.ensures.did
    (end_counted c.args.at _ _ _ _ _ c.in_err-finish.field-0.0 c.write_element.ensures.keeps.later c.finish.ensures.keeps.later
    c.in_err-finish.ensures.failed))

pub returns-clause-stored : goal.returns-clause-stored
returns-clause-stored g c = record {
  asked = told (g.D.Dmi.seen c.write_element.new.link);
  put = c.in_ok-write_element.ensures.did;
  ends = c.in_ok-finish.ensures.ended;
}

pub returns-in_err-write_element-clause-rises : goal.returns-in_err-write_element-clause-rises
returns-in_err-write_element-clause-rises g c =
    within_more (length (element_puts c.args.upper c.args.value)) (length (element_puts c.args.upper c.args.value) + 2) _ _ c.write_element.ensures.rises
    (omega arith)

pub returns-in_err-finish-clause-rises : goal.returns-in_err-finish-clause-rises
returns-in_err-finish-clause-rises g c =
    within_then (length (element_puts c.args.upper c.args.value)) 2 (length (element_puts c.args.upper c.args.value) + 2) _
    (g.D.Dmi.seen c.write_element.new.link) _ c.write_element.ensures.rises c.finish.ensures.rises c.write_element.ensures.keeps.fixed (omega arith)

pub returns-clause-rises : goal.returns-clause-rises
returns-clause-rises g c =
    within_then (length (element_puts c.args.upper c.args.value)) 2 (length (element_puts c.args.upper c.args.value) + 2) _
    (g.D.Dmi.seen c.write_element.new.link) _ c.write_element.ensures.rises c.finish.ensures.rises c.write_element.ensures.keeps.fixed (omega arith)
