use Rattle.dbg_module.proofs.ServedLemmas as lemmas
use Rattle.dbg_module.proofs.laws.command_steps_serve.Goals as goal

pub returns : goal.returns
returns c = lemmas.command_steps_serve
