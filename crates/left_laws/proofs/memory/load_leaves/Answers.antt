use Rattle.left_laws.proofs.AccessLemmas as one
use Rattle.left_laws.proofs.BlockLemmas as block
use Rattle.left_laws.proofs.memory.load_leaves.Goals as goal

pub returns-clause-one : goal.returns-clause-one
returns-clause-one c = one.load_leaves

pub returns-clause-block : goal.returns-clause-block
returns-clause-block c = block.load_block_leaves
