use Rattle.std.proofs.Common.{arith, ◌∙◌, ap, sym}
use Rattle.debug_model.specs.Transport.{operation_of}
use Rattle.debug_model.specs.TransportWords.{dmi_of}
use Rattle.wire_sniff.proofs.LineLemmas.{done_lines}
use Rattle.wire_sniff.proofs.line.shown.Goals as goal

pub returns-in-0 : goal.returns-in-0
returns-in-0 c = λ given taken is.
    done_lines c.args.scan.now given c.in-Some.status taken c.requested.result c.asked.result is (omega arith) c.in-Some.is (sym c.value.ensures ∙ c.in-0.is)
    (c.requested.ensures ∙ ap operation_of c.from_bits.ensures ∙ ap (λ n. operation_of (dmi_of n)) c.value-in-0.ensures) c.asked.ensures
