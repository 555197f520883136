use Rattle.std.proofs.Common.{All, append-nil, sym, subst}
use Rattle.debug_model.specs.Dmi.{IsOperation}
use Rattle.probe_run.specs.Told.{told}
use Rattle.probe_access.specs.BusRuns.{Starting}
use Rattle.probe_access.specs.BusStoreStreams.{element_puts}
use Rattle.probe_access.specs.Faults.{Among, BrokeIn}
use Rattle.probe_access.proofs.BusStoreCalls.{element_words_some, writes_broke, writes_did, writes_rise, writes_small}
use Rattle.probe_access.proofs.RegisterCalls.{fault_failed}
use Rattle.probe_access.proofs.bus_store_words.write_element.Goals as goal

pub returns-in_err-many-clause-broke : goal.returns-in_err-many-clause-broke
returns-in_err-many-clause-broke g c =
    fault_failed c.from_residual.result c.in_err-many.field-0.0 _ c.from_residual.ensures.1
    (subst (λ xs. BrokeIn (Among (Starting xs)) (g.D.Dmi.seen c.args.link.now).fault_count (g.D.Dmi.seen c.many.new.self).fault_count
    (told (g.D.Dmi.seen c.args.link.now)) (g.D.Dmi.seen c.many.new.self).far c.in_err-many.field-0.0)
    (append-nil (element_puts c.args.upper c.args.value))
    (writes_broke (element_puts c.args.upper c.args.value) _ _ _ _ (told (g.D.Dmi.seen c.args.link.now)) _ c.in_err-many.field-0.0
    c.put_writes-filled.ensures.put c.put_writes-filled.ensures.puts (element_words_some c.args.upper c.args.value) c.in_err-many.ensures.cut
    c.in_err-many.ensures.cause))

pub returns-clause-did : goal.returns-clause-did
returns-clause-did g c =
    writes_did (element_puts c.args.upper c.args.value) _ c.many.new.results.items (told (g.D.Dmi.seen c.args.link.now))
    (told (g.D.Dmi.seen c.many.new.self)) c.put_writes-filled.ensures.put c.put_writes-filled.ensures.puts
    (element_words_some c.args.upper c.args.value) c.in_ok-many.ensures.count c.in_ok-many.ensures.operated c.in_ok-many.ensures.answers
