use Rattle.soft_laws.proofs.LoweredGood as lemmas
use Rattle.soft_laws.proofs.laws.soft_first_match.Goals as goal

pub returns : goal.returns
returns c = lemmas.soft_first_match
