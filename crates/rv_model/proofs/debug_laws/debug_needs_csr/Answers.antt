use Rattle.rv_model.proofs.ProgramBufferLemmas as lemmas
use Rattle.rv_model.proofs.debug_laws.debug_needs_csr.Goals as goal

pub returns : goal.returns
returns c = lemmas.debug_needs_csr
