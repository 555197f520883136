use Rattle.debug_model.proofs.RiseLemmas.{within_more}
use Rattle.std.proofs.Common.{◌-◌, All, length, sym, subst, arith}
use Rattle.debug_model.specs.Dmi.{IsOperation}
use Rattle.probe_run.specs.Told.{told}
use Rattle.probe_access.specs.BusRuns.{Starting}
use Rattle.probe_access.specs.BusStoreStreams.{data_puts, words_from}
use Rattle.probe_access.specs.Faults.{Among, BrokeIn}
use Rattle.probe_access.proofs.BusStoreCalls.{puts_parts, words_parts, words_some, writes_broke, writes_did, writes_rise, writes_small}
use Rattle.probe_access.proofs.RegisterCalls.{fault_failed}
use Rattle.probe_access.proofs.bus_store_words.write_call.Goals as goal

pub many-requires-clause-operations : goal.many-requires-clause-operations
many-requires-clause-operations g c =
    subst (λ xs. All IsOperation xs) (sym c.fill_writes-filled.ensures.filled)
    (writes_small (data_puts c.args.values.now c.args.from (c.fill_writes-filled.result.next - c.args.from)) c.fill_writes-filled.ensures.puts)

pub returns-in_err-many-clause-broke : goal.returns-in_err-many-clause-broke
returns-in_err-many-clause-broke g c =
    fault_failed c.from_residual.result c.in_err-many.field-0.0 _ c.from_residual.ensures.1
    (subst (λ xs. BrokeIn (Among (Starting xs)) (g.D.Dmi.seen c.args.link.now).fault_count (g.D.Dmi.seen c.many.new.self).fault_count
    (told (g.D.Dmi.seen c.args.link.now)) (g.D.Dmi.seen c.many.new.self).far c.in_err-many.field-0.0)
    (sym (puts_parts c.args.values.now c.args.from c.fill_writes-filled.result.next (length c.args.values.now) (omega (
      arith,
      c.fill_writes-filled.ensures.some,
    )) c.fill_writes-filled.ensures.within))
    (writes_broke (data_puts c.args.values.now c.args.from (c.fill_writes-filled.result.next - c.args.from))
    (data_puts c.args.values.now c.fill_writes-filled.result.next (length c.args.values.now - c.fill_writes-filled.result.next)) _ _ _
    (told (g.D.Dmi.seen c.args.link.now)) _ c.in_err-many.field-0.0 c.fill_writes-filled.ensures.filled c.fill_writes-filled.ensures.puts
    (words_some c.args.values.now c.args.from c.fill_writes-filled.result.next c.fill_writes-filled.ensures.some) c.in_err-many.ensures.cut
    c.in_err-many.ensures.cause))

pub returns-clause-did : goal.returns-clause-did
returns-clause-did g c =
    writes_did (data_puts c.args.values.now c.args.from (c.fill_writes-filled.result.next - c.args.from)) _ c.many.new.results.items
    (told (g.D.Dmi.seen c.args.link.now)) (told (g.D.Dmi.seen c.many.new.self)) c.fill_writes-filled.ensures.filled c.fill_writes-filled.ensures.puts
    (words_some c.args.values.now c.args.from c.fill_writes-filled.result.next c.fill_writes-filled.ensures.some) c.in_ok-many.ensures.count
    c.in_ok-many.ensures.operated c.in_ok-many.ensures.answers

pub returns-clause-rose : goal.returns-clause-rose
returns-clause-rose g c =
    writes_rise (data_puts c.args.values.now c.args.from (c.fill_writes-filled.result.next - c.args.from)) _ _ _ c.fill_writes-filled.ensures.filled
    c.fill_writes-filled.ensures.puts c.many.ensures.rises

pub returns-in_err-many-clause-rises : goal.returns-in_err-many-clause-rises
returns-in_err-many-clause-rises g c =
    within_more (words_from c.args.values.now c.args.from (c.fill_writes-filled.result.next - c.args.from))
    (words_from c.args.values.now c.args.from (length c.args.values.now - c.args.from)) _ _
    (writes_rise (data_puts c.args.values.now c.args.from (c.fill_writes-filled.result.next - c.args.from)) _ _ _ c.fill_writes-filled.ensures.filled
    c.fill_writes-filled.ensures.puts c.many.ensures.rises)
    (omega (
      arith,
      words_parts c.args.values.now c.args.from c.fill_writes-filled.result.next (length c.args.values.now) (omega (
        arith,
        c.fill_writes-filled.ensures.some,
      )) c.fill_writes-filled.ensures.within,
    ))

pub returns-clause-rises : goal.returns-clause-rises
returns-clause-rises g c =
    within_more (words_from c.args.values.now c.args.from (c.fill_writes-filled.result.next - c.args.from))
    (words_from c.args.values.now c.args.from (length c.args.values.now - c.args.from)) _ _
    (writes_rise (data_puts c.args.values.now c.args.from (c.fill_writes-filled.result.next - c.args.from)) _ _ _ c.fill_writes-filled.ensures.filled
    c.fill_writes-filled.ensures.puts c.many.ensures.rises)
    (omega (
      arith,
      words_parts c.args.values.now c.args.from c.fill_writes-filled.result.next (length c.args.values.now) (omega (
        arith,
        c.fill_writes-filled.ensures.some,
      )) c.fill_writes-filled.ensures.within,
    ))
