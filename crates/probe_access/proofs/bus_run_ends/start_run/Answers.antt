use Rattle.std.proofs.Common.{arith}
use Rattle.probe_run.specs.Told.{told}
use Rattle.probe_access.proofs.BusRunEnds.{start_broke, start_did}
use Rattle.probe_access.proofs.RegisterCalls.{fault_failed}
use Rattle.probe_access.proofs.bus_run_ends.start_run.Goals as goal

pub returns-in_err-many-clause-broke : goal.returns-in_err-many-clause-broke
returns-in_err-many-clause-broke g c =
    fault_failed c.from_residual.result c.in_err-many.field-0.0 _ c.from_residual.ensures.1
    (start_broke c.args.size c.args.address c.running_of.result c.high_word.result c.low_word.result _ _ (told (g.D.Dmi.seen c.args.link.now)) _
    c.in_err-many.field-0.0 c.running_of.ensures c.high_word.ensures c.low_word.ensures c.in_err-many.ensures.cut c.in_err-many.ensures.cause)

pub returns-clause-did : goal.returns-clause-did
returns-clause-did g c =
    start_did c.args.size c.args.address c.running_of.result c.high_word.result c.low_word.result c.many.new.results.items
    (told (g.D.Dmi.seen c.args.link.now)) (told (g.D.Dmi.seen c.many.new.self)) c.running_of.ensures c.high_word.ensures c.low_word.ensures
    (omega arith) (omega arith) (omega arith) c.in_ok-many.ensures.count c.in_ok-many.ensures.operated c.in_ok-many.ensures.answers
