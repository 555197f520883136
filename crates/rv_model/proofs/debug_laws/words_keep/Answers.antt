use Rattle.rv_model.proofs.ProgramBufferLemmas as lemmas
use Rattle.rv_model.proofs.debug_laws.words_keep.Goals as goal

pub returns : goal.returns
returns c = lemmas.words_keep
