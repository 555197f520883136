use Rattle.budget_laws.proofs.TurnLemmas.{rounds_offer_few_turns}
use Rattle.budget_laws.proofs.laws.rounds_offer_few_turns.Goals as goal

pub returns : goal.returns
returns c = rounds_offer_few_turns
