use Rattle.rv_model.proofs.ProgramBufferLemmas as lemmas
use Rattle.rv_model.proofs.debug_laws.memory_needs_access.Goals as goal

pub returns : goal.returns
returns c = lemmas.memory_needs_access
