use Rattle.std.proofs.Common.{◌∙◌, codes, append_assoc}
use Rattle.debug_model.specs.Spelling.{hexadecimal}
use Rattle.probe_session.specs.Failures.{odd_word}
use Rattle.jtag_run.proofs.lines.push_lost_by.Goals as goal

pub returns-in-Odd-clause-cause : goal.returns-in-Odd-clause-cause
returns-in-Odd-clause-cause c = rw c.in-Odd.is
    (c.push_hex_word.ensures.digits ∙ rw (c.push_word-in-Odd.ensures.word, c.word.ensures)
    (append_assoc c.args.text.now.items (codes "register 0x") (hexadecimal 8 (odd_word c.in-Odd.odd))))
