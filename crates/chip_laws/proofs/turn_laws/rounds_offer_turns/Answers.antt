use Rattle.chip_laws.proofs.Turns.{rounds_offer}
use Rattle.chip_laws.proofs.turn_laws.rounds_offer_turns.Goals as goal

pub returns : goal.returns
returns c = rounds_offer
