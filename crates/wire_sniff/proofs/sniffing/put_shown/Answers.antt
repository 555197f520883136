use Rattle.std.proofs.Common.{ap, sym, ◌∙◌, ◌≡◌}
use Rattle.wire_sniff.proofs.PutLemmas.{grown_none, text-none, text-one}
use Rattle.wire_sniff.specs.SniffedText.{text_of_all}
use Rattle.wire_sniff.specs.State.{line_of, lines_shown}
use Rattle.wire_sniff.proofs.sniffing.put_shown.Goals as goal

pub returns-in-Some-clause-put : goal.returns-in-Some-clause-put
returns-in-Some-clause-put g c =
    let shown : text_of_all (lines_shown c.args.line) ≡ c.deref.result.now =
    ap (λ l. text_of_all (lines_shown l)) c.in-Some.is ∙ text-one (line_of c.in-Some.line) ∙ sym c.dmi_line.ensures ∙ sym c.deref.ensures.0 in
    rw shown c.put.ensures.put

pub returns-in-Some-clause-front : goal.returns-in-Some-clause-front
returns-in-Some-clause-front g c =
    let shown : text_of_all (lines_shown c.args.line) ≡ c.deref.result.now =
    ap (λ l. text_of_all (lines_shown l)) c.in-Some.is ∙ text-one (line_of c.in-Some.line) ∙ sym c.dmi_line.ensures ∙ sym c.deref.ensures.0 in
    rw shown c.put.ensures.front

pub returns-in-None-clause-put : goal.returns-in-None-clause-put
returns-in-None-clause-put g c = rw (c.in-None.is, text-none) (grown_none (g.K.Sink.contents c.args.out.now))
