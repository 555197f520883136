use Rattle.debug_model.proofs.RiseLemmas.{within_more, within_then}
use Rattle.std.proofs.Common.{[], ◌∷◌, false, refl, arith, ◌∙◌}
use Rattle.debug_model.specs.Addresses.{sbcs_address}
use Rattle.probe_run.specs.Acts.Act.{Put}
use Rattle.probe_run.specs.Told.{told}
use Rattle.probe_access.specs.BusAwaits.LoadLastFailed.{in_stop, in_words}
use Rattle.probe_access.specs.BusRuns.{Starting}
use Rattle.probe_access.specs.BusRuns.Starting.{next}
use Rattle.probe_access.specs.BusStreams.{ReadingData, running}
use Rattle.probe_access.specs.Faults.{Among}
use Rattle.probe_access.proofs.RegisterCalls.{broke_counted, err_failed, word_broke, word_put}
use Rattle.probe_access.proofs.bus_load_awaits.load_last.Goals as goal

pub returns-in_err-write-clause-failed : goal.returns-in_err-write-clause-failed
returns-in_err-write-clause-failed g c =
    err_failed c.from_residual-in_err-write.result _ _ c.from_residual-in_err-write.ensures.1
    (in_stop (told (g.D.Dmi.seen c.finish.new.link)) c.in_ok-finish.ensures.ended c.in_err-write.field-0.0 refl
    (broke_counted (Starting (Put sbcs_address (running false c.args.size) ∷ [])) _ _ _ (told (g.D.Dmi.seen c.finish.new.link)) _ c.in_err-write.field-0.0
    c.finish.ensures.keeps.later c.write.ensures.keeps.later
    (word_broke (Starting (Put sbcs_address (running false c.args.size) ∷ [])) sbcs_address c.running_of.result (running false c.args.size) _ _
    (told (g.D.Dmi.seen c.finish.new.link)) _ c.in_err-write.field-0.0 c.running_of.ensures
    (next [] [] sbcs_address (running false c.args.size) refl) c.in_err-write.ensures.cut c.in_err-write.ensures.cause)))

pub returns-in_err-read_call-clause-failed : goal.returns-in_err-read_call-clause-failed
returns-in_err-read_call-clause-failed g c =
    err_failed c.from_residual-in_err-read_call.result _ _ c.from_residual-in_err-read_call.ensures.1
    (in_words (told (g.D.Dmi.seen c.finish.new.link)) (told (g.D.Dmi.seen c.write.new.self)) c.in_ok-finish.ensures.ended
    (word_put sbcs_address c.running_of.result (running false c.args.size) _ _ c.running_of.ensures c.in_ok-write.ensures.operated
    c.in_ok-write.ensures.passes) c.in_err-read_call.field-0.0 refl
    (broke_counted (Among (ReadingData 1)) _ _ _ (told (g.D.Dmi.seen c.write.new.self)) _ c.in_err-read_call.field-0.0
    (omega (arith, c.finish.ensures.keeps.later, c.write.ensures.keeps.later)) c.read_call.ensures.keeps.later c.in_err-read_call.ensures.broke))

pub returns-clause-loaded : goal.returns-clause-loaded
returns-clause-loaded g c = record {
  ended = told (g.D.Dmi.seen c.finish.new.link);
  ends = c.in_ok-finish.ensures.ended;
  stopped = told (g.D.Dmi.seen c.write.new.self);
  stops = word_put sbcs_address c.running_of.result (running false c.args.size) _ _ c.running_of.ensures c.in_ok-write.ensures.operated
      c.in_ok-write.ensures.passes;
  read = c.in_ok-read_call.ensures.read;
}

pub returns-in_err-finish-clause-rises : goal.returns-in_err-finish-clause-rises
returns-in_err-finish-clause-rises g c =
    within_more 2 5 _ _ c.finish.ensures.rises (omega arith)

pub returns-in_err-write-clause-rises : goal.returns-in_err-write-clause-rises
returns-in_err-write-clause-rises g c =
    within_then 2 1 5 _ (g.D.Dmi.seen c.finish.new.link) _ c.finish.ensures.rises c.write.ensures.rises
    c.finish.ensures.keeps.fixed (omega arith)

pub returns-in_err-read_call-clause-rises : goal.returns-in_err-read_call-clause-rises
returns-in_err-read_call-clause-rises g c =
    within_then 3 2 5 _ (g.D.Dmi.seen c.write.new.self) _ (within_then 2 1 3 _ (g.D.Dmi.seen c.finish.new.link) _ c.finish.ensures.rises
    c.write.ensures.rises c.finish.ensures.keeps.fixed (omega arith))
    c.read_call.ensures.rises
    (c.write.ensures.keeps.fixed ∙ c.finish.ensures.keeps.fixed) (omega arith)

pub returns-clause-rises : goal.returns-clause-rises
returns-clause-rises g c =
    within_then 3 2 5 _ (g.D.Dmi.seen c.write.new.self) _ (within_then 2 1 3 _ (g.D.Dmi.seen c.finish.new.link) _ c.finish.ensures.rises
    c.write.ensures.rises c.finish.ensures.keeps.fixed (omega arith))
    c.read_call.ensures.rises
    (c.write.ensures.keeps.fixed ∙ c.finish.ensures.keeps.fixed) (omega arith)
