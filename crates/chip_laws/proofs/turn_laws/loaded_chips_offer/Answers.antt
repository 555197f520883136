use Rattle.chip_laws.proofs.Turns.{fresh_offers}
use Rattle.chip_laws.proofs.turn_laws.loaded_chips_offer.Goals as goal

pub returns : goal.returns
returns c = fresh_offers
