use Rattle.chip_laws.proofs.Turns.{feeds_offer}
use Rattle.chip_laws.proofs.turn_laws.feeds_offer_turns.Goals as goal

pub returns : goal.returns
returns c = feeds_offer
