use Rattle.budget_laws.proofs.TurnLemmas.{seeds_offer_few_turns}
use Rattle.budget_laws.proofs.laws.seeds_offer_few_turns.Goals as goal

pub returns : goal.returns
returns c = seeds_offer_few_turns
