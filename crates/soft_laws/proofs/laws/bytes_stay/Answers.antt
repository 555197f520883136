use Rattle.soft_laws.proofs.ReadLemmas as lemmas
use Rattle.soft_laws.proofs.laws.bytes_stay.Goals as goal

pub returns : goal.returns
returns c = lemmas.bytes_stay
