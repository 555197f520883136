use Rattle.cut_laws.proofs.BlockLemmas as lemmas
use Rattle.cut_laws.proofs.memory.blocks_cut.Goals as goal

pub returns-clause-loading : goal.returns-clause-loading
returns-clause-loading c = lemmas.loading_block_cut

pub returns-clause-storing : goal.returns-clause-storing
returns-clause-storing c = lemmas.storing_block_cut
