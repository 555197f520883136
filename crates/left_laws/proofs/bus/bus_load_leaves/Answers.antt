use Rattle.left_laws.proofs.BusLemmas as one
use Rattle.left_laws.proofs.bus.bus_load_leaves.Goals as goal

pub returns-clause-one : goal.returns-clause-one
returns-clause-one c = one.bus_load_leaves

pub returns-clause-block : goal.returns-clause-block
returns-clause-block c = one.bus_load_block_leaves
