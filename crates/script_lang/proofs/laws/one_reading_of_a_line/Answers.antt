use Rattle.std.proofs.Common.{sym, ◌∙◌}
use Rattle.script_lang.proofs.SpellingAgain.{line_read-spelling}
use Rattle.script_lang.proofs.LawLemmas.{own_spelling}
use Rattle.script_lang.proofs.laws.one_reading_of_a_line.Goals as goal

pub returns-clause-one_reading : goal.returns-clause-one_reading
returns-clause-one_reading c = λ line one other r s. sym r ∙ s

pub returns-clause-reads_its_spelling : goal.returns-clause-reads_its_spelling
returns-clause-reads_its_spelling c = line_read-spelling

pub returns-clause-own_spelling : goal.returns-clause-own_spelling
returns-clause-own_spelling c = own_spelling
