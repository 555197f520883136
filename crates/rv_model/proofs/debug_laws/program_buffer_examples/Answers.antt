use Rattle.rv_model.proofs.ProgramBufferLemmas as lemmas
use Rattle.rv_model.proofs.debug_laws.program_buffer_examples.Goals as goal

pub returns : goal.returns
returns c = lemmas.program_buffer_examples
