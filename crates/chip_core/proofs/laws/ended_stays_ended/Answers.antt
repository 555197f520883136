use Rattle.chip_core.proofs.Feeding.{ended_stays}
use Rattle.chip_core.proofs.laws.ended_stays_ended.Goals as goal

pub returns : goal.returns
returns c = ended_stays
