use Rattle.rv_model.proofs.ProgramBufferLemmas as lemmas
use Rattle.rv_model.proofs.debug_laws.exceptions_change_nothing.Goals as goal

pub returns : goal.returns
returns c = lemmas.exceptions_change_nothing
