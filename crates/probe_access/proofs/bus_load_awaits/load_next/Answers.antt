use Rattle.debug_model.proofs.RiseLemmas.{within_more, within_then}
use Rattle.std.proofs.Common.{refl, arith}
use Rattle.probe_run.specs.Told.{told}
use Rattle.probe_access.specs.BusAwaits.LoadNextFailed.{in_words}
use Rattle.probe_access.specs.BusStreams.{ReadingData}
use Rattle.probe_access.specs.Faults.{Among}
use Rattle.probe_access.proofs.RegisterCalls.{broke_counted, err_failed}
use Rattle.probe_access.proofs.bus_load_awaits.load_next.Goals as goal

pub returns-in_err-read_call-clause-failed : goal.returns-in_err-read_call-clause-failed
returns-in_err-read_call-clause-failed g c =
    err_failed c.from_residual-in_err-read_call.result _ _ c.from_residual-in_err-read_call.ensures.1
    (in_words (told (g.D.Dmi.seen c.finish.new.link)) c.in_ok-finish.ensures.ended c.in_err-read_call.field-0.0 refl
    (broke_counted (Among (ReadingData 1)) _ _ _ _ _ c.in_err-read_call.field-0.0 c.finish.ensures.keeps.later c.read_call.ensures.keeps.later
    c.in_err-read_call.ensures.broke))

pub returns-in_err-finish-clause-rises : goal.returns-in_err-finish-clause-rises
returns-in_err-finish-clause-rises g c =
    within_more 2 4 _ _ c.finish.ensures.rises (omega arith)

pub returns-in_err-read_call-clause-rises : goal.returns-in_err-read_call-clause-rises
returns-in_err-read_call-clause-rises g c =
    within_then 2 2 4 _ (g.D.Dmi.seen c.finish.new.link) _ c.finish.ensures.rises c.read_call.ensures.rises
    c.finish.ensures.keeps.fixed (omega arith)

pub returns-clause-rises : goal.returns-clause-rises
returns-clause-rises g c =
    within_then 2 2 4 _ (g.D.Dmi.seen c.finish.new.link) _ c.finish.ensures.rises c.read_call.ensures.rises
    c.finish.ensures.keeps.fixed (omega arith)
