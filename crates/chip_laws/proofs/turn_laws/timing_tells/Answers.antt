use Rattle.chip_laws.proofs.Timing.{timing_decides}
use Rattle.chip_laws.proofs.turn_laws.timing_tells.Goals as goal

pub returns : goal.returns
returns c = timing_decides
