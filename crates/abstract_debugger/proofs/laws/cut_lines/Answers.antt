use Rattle.abstract_debugger.proofs.FrontLemmas as lemmas
use Rattle.abstract_debugger.proofs.laws.cut_lines.Goals as goal

pub returns-clause-front : goal.returns-clause-front
returns-clause-front c = lemmas.cut_lines

pub returns-clause-whole : goal.returns-clause-whole
returns-clause-whole c = lemmas.only_open_ones_grow
