use Rattle.std.proofs.Common.{ap, length, arith}
use Rattle.rv_model.specs.declared.size.Size.{Size}
use Rattle.rv_model.specs.declared.size.Size.TheVariants.{B1, B2, B4}
use Rattle.probe_access.specs.BusStreams.{reads_of}
use Rattle.probe_access.proofs.BusStreamCalls.{double_long, narrow_results}
use Rattle.probe_access.proofs.bus_streams.take_values.Goals as goal

pub take_words-requires : goal.take_words-requires
take_words-requires c =
    let e = ap (λ (z : Size). length (reads_of z c.args.number)) c.in-B1.is in
    record { room = omega (arith, e, narrow_results B1 c.args.number tt, c.requires.all, c.requires.room) }

pub take_words-requires-in-B2 : goal.take_words-requires-in-B2
take_words-requires-in-B2 c =
    let e = ap (λ (z : Size). length (reads_of z c.args.number)) c.in-B2.is in
    record { room = omega (arith, e, narrow_results B2 c.args.number tt, c.requires.all, c.requires.room) }

pub take_words-requires-in-B4 : goal.take_words-requires-in-B4
take_words-requires-in-B4 c =
    let e = ap (λ (z : Size). length (reads_of z c.args.number)) c.in-B4.is in
    record { room = omega (arith, e, narrow_results B4 c.args.number tt, c.requires.all, c.requires.room) }

pub take_doubles-requires : goal.take_doubles-requires
take_doubles-requires c =
    let e = ap (λ (z : Size). length (reads_of z c.args.number)) c.in-B8.is in
    record { room = omega (arith, e, double_long c.args.number, c.requires.all, c.requires.room) }
