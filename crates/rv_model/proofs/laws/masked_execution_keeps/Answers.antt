use Rattle.rv_model.proofs.BoardLemmas as lemmas
use Rattle.rv_model.proofs.laws.masked_execution_keeps.Goals as goal

pub returns : goal.returns
returns c = lemmas.masked_execution_keeps
