use Rattle.line_counts.proofs.LineLemmas.{whole_lines_are, lines_in_text, errors_in_text}
use Rattle.line_counts.proofs.laws.lines_are_counted.Goals as goal

pub returns-clause-whole : goal.returns-clause-whole
returns-clause-whole c = whole_lines_are

pub returns-clause-lines : goal.returns-clause-lines
returns-clause-lines c = lines_in_text

pub returns-clause-errors : goal.returns-clause-errors
returns-clause-errors c = errors_in_text
