use Rattle.std.proofs.Common.{◌∙◌, refl}
use Rattle.printed_lines.proofs.HexLemmas.{of_number}
use Rattle.printed_lines.proofs.digits.push_hex_word.Goals as goal

pub returns-clause-digits : goal.returns-clause-digits
returns-clause-digits c = c.push_hex.ensures.digits ∙ rw (c.to_be_bytes.ensures, of_number 4 c.args.word) refl
