use Rattle.dbg_module.proofs.ServedLemmas as lemmas
use Rattle.dbg_module.proofs.laws.turns_serve.Goals as goal

pub returns : goal.returns
returns c = lemmas.turns_serve
