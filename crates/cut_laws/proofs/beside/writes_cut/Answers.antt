use Rattle.cut_laws.proofs.BehindLemmas as behind
use Rattle.cut_laws.proofs.BesideLemmas as lemmas
use Rattle.cut_laws.proofs.beside.writes_cut.Goals as goal

pub returns-clause-giving : goal.returns-clause-giving
returns-clause-giving c = lemmas.giving_cut

pub returns-clause-writing : goal.returns-clause-writing
returns-clause-writing c = lemmas.writing_cut

pub returns-clause-forgetting_behind : goal.returns-clause-forgetting_behind
returns-clause-forgetting_behind c = behind.forgetting_behind_cut
