use Rattle.left_laws.proofs.BothLemmas as both
use Rattle.left_laws.proofs.JoinLemmas as lemmas
use Rattle.left_laws.proofs.laws.joins.Goals as goal

pub returns-clause-less : goal.returns-clause-less
returns-clause-less c = lemmas.nothing_is_less

pub returns-clause-both : goal.returns-clause-both
returns-clause-both c = both.both_are_less

pub returns-clause-behind : goal.returns-clause-behind
returns-clause-behind c = lemmas.joins_behind_nothing

pub returns-clause-halted : goal.returns-clause-halted
returns-clause-halted c = lemmas.joins_where_halted
