use Rattle.std.proofs.Common.{ap, sym, ◌∙◌, ◌≡◌, refl, arith, []}
use Rattle.wire_sniff.proofs.PutLemmas.{grown_none, text-none, text-one}
use Rattle.wire_sniff.proofs.SnifferLemmas.{lines_other}
use Rattle.wire_sniff.specs.Sniffed.{lines_at, scanned_code}
use Rattle.wire_sniff.specs.Sniffed.SniffedLine.{Instruction}
use Rattle.wire_sniff.specs.SniffedText.{text_of, text_of_all}
use Rattle.wire_sniff.proofs.sniffing.put_fall.Goals as goal

pub returns-in-UpdateIr-clause-put : goal.returns-in-UpdateIr-clause-put
returns-in-UpdateIr-clause-put g c = λ answers s is.
    let shown : text_of_all (lines_at s.state s) ≡ c.deref.result.now =
    ap (λ t. text_of_all (lines_at t s)) (sym is.state ∙ c.in-UpdateIr.is) ∙ text-one (Instruction (scanned_code s.given))
    ∙ ap (λ code. text_of (Instruction code)) (sym is.scan.instruction_is) ∙ sym c.instruction_line.ensures ∙ sym c.deref.ensures.0 in
    rw shown c.put.ensures.put

pub returns-in-UpdateIr-clause-front : goal.returns-in-UpdateIr-clause-front
returns-in-UpdateIr-clause-front g c = λ answers s is.
    let shown : text_of_all (lines_at s.state s) ≡ c.deref.result.now =
    ap (λ t. text_of_all (lines_at t s)) (sym is.state ∙ c.in-UpdateIr.is) ∙ text-one (Instruction (scanned_code s.given))
    ∙ ap (λ code. text_of (Instruction code)) (sym is.scan.instruction_is) ∙ sym c.instruction_line.ensures ∙ sym c.deref.ensures.0 in
    rw shown c.put.ensures.front

pub returns-in_default : goal.returns-in_default
returns-in_default g c = record {
  put = λ answers s is.
      let none : lines_at s.state s ≡ [] = lines_other s.state s (λ e. c.in_default.not-UpdateIr (is.state ∙ e))
      (λ e. c.in_default.not-UpdateDr (is.state ∙ e)) in
      rw (none, text-none) (grown_none (g.K.Sink.contents c.args.out.now));
  front = λ answers s is. tt;
  cause = record { later = omega arith; cause = tt };
  count = refl;
}
