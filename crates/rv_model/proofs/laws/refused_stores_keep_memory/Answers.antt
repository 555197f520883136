use Rattle.rv_model.proofs.MemoryLemmas as lemmas
use Rattle.rv_model.proofs.laws.refused_stores_keep_memory.Goals as goal

pub returns : goal.returns
returns c = lemmas.refused_stores_keep_memory
