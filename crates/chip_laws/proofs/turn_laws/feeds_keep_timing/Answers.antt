use Rattle.chip_laws.proofs.Timing.{feed_timing}
use Rattle.chip_laws.proofs.turn_laws.feeds_keep_timing.Goals as goal

pub returns : goal.returns
returns c = feed_timing
