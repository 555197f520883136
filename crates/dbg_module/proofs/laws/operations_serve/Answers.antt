use Rattle.dbg_module.proofs.ServedLemmas as lemmas
use Rattle.dbg_module.proofs.laws.operations_serve.Goals as goal

pub returns : goal.returns
returns c = lemmas.operations_serve
