use Rattle.std.proofs.Common.{◌∙◌, sym}
use Rattle.printed_lines.proofs.WordLemmas.{name_of_register-short, name_of_register-none}
use Rattle.printed_lines.proofs.words.register_word.Goals as goal

pub returns-then-is_named-clause-short : goal.returns-then-is_named-clause-short
returns-then-is_named-clause-short c = rw c.name.ensures (name_of_register-short c.args.number)

pub returns-else-is_named-clause-name : goal.returns-else-is_named-clause-name
returns-else-is_named-clause-name c = sym (name_of_register-none c.args.number (sym c.is_named.ensures ∙ c.if-is_named.false))
