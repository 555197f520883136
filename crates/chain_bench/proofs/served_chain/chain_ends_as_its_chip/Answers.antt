use Rattle.chain_bench.proofs.AsChip.{ends_as_its_chip}
use Rattle.chain_bench.proofs.served_chain.chain_ends_as_its_chip.Goals as goal

pub returns : goal.returns
returns c = ends_as_its_chip
