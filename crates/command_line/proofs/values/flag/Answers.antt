use Rattle.std.proofs.Common.{sym, ap, ◌∙◌}
use Rattle.command_line.specs.WrittenJob.{flag_in, says_true, text_of}
use Rattle.command_line.proofs.values.flag.Goals as goal

pub returns-in-Some : goal.returns-in-Some
unfolding flag_in
returns-in-Some c = c.eq.ensures ∙ ap says_true (sym (ap text_of c.in-Some.is) ∙ c.value.ensures)

pub returns-in-None : goal.returns-in-None
unfolding flag_in
returns-in-None c = ap says_true (sym (ap text_of c.in-None.is) ∙ c.value.ensures)
