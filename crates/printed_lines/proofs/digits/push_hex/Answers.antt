use Rattle.std.proofs.Common.{◌∙◌, ◌++◌, ap, arith}
use Rattle.printed_lines.proofs.HexLemmas.{encoded, when_ok}
use Rattle.printed_lines.proofs.digits.push_hex.Goals as goal

pub returns-clause-digits : goal.returns-clause-digits
returns-clause-digits c =
    let written = when_ok c.encode_to_slice.result c.unwrap.result c.unwrap.ensures c.encode_to_slice.ensures.written in
    c.push_word.ensures.word ∙ ap (λ ds. c.args.text.now.items ++ ds) (written ∙ encoded c.args.bytes.now (λ i. let small = c.type_inv.bytes i in omega arith))
