use Rattle.dbg_module.proofs.ServedLemmas as lemmas
use Rattle.dbg_module.proofs.laws.reset_is_served.Goals as goal

pub returns : goal.returns
returns c = lemmas.reset_is_served
