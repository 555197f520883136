use Rattle.chip_core.proofs.Tells.{tells}
use Rattle.chip_core.proofs.laws.feeds_tell.Goals as goal

pub returns : goal.returns
returns c = tells
