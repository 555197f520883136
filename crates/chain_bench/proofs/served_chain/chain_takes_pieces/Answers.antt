use Rattle.chain_bench.specs.ChainPieces.{chain_pieces}
use Rattle.chain_bench.proofs.served_chain.chain_takes_pieces.Goals as goal

pub returns : goal.returns
returns c = chain_pieces
