use Rattle.abstract_debugger.proofs.FrozenLemmas as lemmas
use Rattle.abstract_debugger.proofs.laws.frozen_stays.Goals as goal

pub returns : goal.returns
returns c = lemmas.frozen_stays
