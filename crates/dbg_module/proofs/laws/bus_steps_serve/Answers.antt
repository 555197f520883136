use Rattle.dbg_module.proofs.ServedLemmas as lemmas
use Rattle.dbg_module.proofs.laws.bus_steps_serve.Goals as goal

pub returns : goal.returns
returns c = lemmas.bus_steps_serve
