use Rattle.chip_core.proofs.Feeding.{pieces}
use Rattle.chip_core.proofs.laws.pieces_join.Goals as goal

pub returns : goal.returns
returns c = pieces
