use Rattle.std.proofs.Common.{◌∙◌, codes, append_assoc}
use Rattle.debug_model.specs.Spelling.{hexadecimal}
use Rattle.printed_lines.proofs.HexLemmas.{of_number}
use Rattle.printed_lines.proofs.digits.push_address.Goals as goal

pub returns-clause-digits : goal.returns-clause-digits
returns-clause-digits c =
    c.push_hex.ensures.digits
    ∙ rw (c.push_word.ensures.word, c.to_be_bytes.ensures, of_number 8 c.args.number)
    (append_assoc c.args.text.now.items (codes "0x") (hexadecimal 16 c.args.number))
