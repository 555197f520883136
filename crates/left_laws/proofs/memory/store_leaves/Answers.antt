use Rattle.left_laws.proofs.AccessLemmas as one
use Rattle.left_laws.proofs.BlockLemmas as block
use Rattle.left_laws.proofs.memory.store_leaves.Goals as goal

pub returns-clause-one : goal.returns-clause-one
returns-clause-one c = one.store_leaves

pub returns-clause-block : goal.returns-clause-block
returns-clause-block c = block.store_block_leaves
