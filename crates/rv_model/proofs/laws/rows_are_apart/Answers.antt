use Rattle.rv_model.proofs.RowLemmas as lemmas
use Rattle.rv_model.proofs.laws.rows_are_apart.Goals as goal

pub returns : goal.returns
returns c = lemmas.rows_are_apart
