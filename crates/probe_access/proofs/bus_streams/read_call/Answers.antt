use Rattle.probe_access.proofs.BlockRises.{reads_rise}
use Rattle.std.proofs.Common.{◌∙◌, ◌++◌, All, ap, sym, subst, take}
use Rattle.debug_model.specs.Dmi.{IsOperation}
use Rattle.probe_run.specs.Told.{told}
use Rattle.probe_access.specs.BusStreams.{values_in}
use Rattle.probe_access.proofs.BusStreamCalls.{more_read, reads_broke, reads_small}
use Rattle.probe_access.proofs.RegisterCalls.{fault_failed}
use Rattle.probe_access.proofs.bus_streams.read_call.Goals as goal

pub many-requires-clause-operations : goal.many-requires-clause-operations
many-requires-clause-operations g c =
    subst (λ xs. All IsOperation xs) (sym c.fill_reads-filled.ensures.filled) (reads_small c.args.size c.args.number)

pub returns-in_err-many-clause-broke : goal.returns-in_err-many-clause-broke
returns-in_err-many-clause-broke g c =
    fault_failed c.from_residual.result c.in_err-many.field-0.0 _ c.from_residual.ensures.1
    (reads_broke c.args.size c.args.number (take c.fill_reads-filled.result c.fill_reads-filled.new.operations) _ _
    (told (g.D.Dmi.seen c.args.link.now)) _ c.in_err-many.field-0.0 c.fill_reads-filled.ensures.filled c.requires.some c.in_err-many.ensures.cut
    c.in_err-many.ensures.cause)

pub returns-clause-read : goal.returns-clause-read
returns-clause-read g c =
    more_read c.args.size c.args.number (take c.fill_reads-filled.result c.fill_reads-filled.new.operations) c.many.new.results.items
    c.args.into.now.items c.take_values.new.into.items (told (g.D.Dmi.seen c.args.link.now)) (told (g.D.Dmi.seen c.many.new.self))
    c.fill_reads-filled.ensures.filled c.requires.some c.in_ok-many.ensures.count
    (c.take_values.ensures ∙ ap (λ xs. c.args.into.now.items ++ values_in c.args.size xs) c.deref.ensures.0) c.in_ok-many.ensures.operated
    c.in_ok-many.ensures.answers

pub returns-in_err-many-clause-rises : goal.returns-in_err-many-clause-rises
returns-in_err-many-clause-rises g c =
    reads_rise c.args.size c.args.number (take c.fill_reads-filled.result c.fill_reads-filled.new.operations) _ _ c.fill_reads-filled.ensures.filled
    c.many.ensures.rises

pub returns-clause-rises : goal.returns-clause-rises
returns-clause-rises g c =
    reads_rise c.args.size c.args.number (take c.fill_reads-filled.result c.fill_reads-filled.new.operations) _ _ c.fill_reads-filled.ensures.filled
    c.many.ensures.rises
