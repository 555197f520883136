use Rattle.std.proofs.Common.{◌∙◌, ◌*◌, ◌++◌, ap, codes, append_assoc}
use Rattle.rv_model.specs.Size.{count_of}
use Rattle.debug_model.specs.Spelling.{hexadecimal, spelled_address}
use Rattle.printed_lines.proofs.HexLemmas.{of_element}
use Rattle.printed_lines.proofs.text.push_element.Goals as goal

pub returns-clause-words : goal.returns-clause-words
unfolding hexadecimal
returns-clause-words c =
    let digits = hexadecimal (2 * count_of c.args.size) c.args.value in
    c.push_hex.ensures.digits
    ∙ ap (λ ds. c.push_word.new.text.items ++ ds)
    (of_element c.args.size c.args.value c.from.result c.to_be_bytes.result (c.from.ensures ∙ c.count.ensures) c.to_be_bytes.ensures)
    ∙ rw (c.push_word.ensures.word, c.push_address.ensures.digits)
    (append_assoc (c.args.text.now.items ++ spelled_address c.args.address) (codes " 0x") digits
    ∙ append_assoc c.args.text.now.items (spelled_address c.args.address) (codes " 0x" ++ digits))
