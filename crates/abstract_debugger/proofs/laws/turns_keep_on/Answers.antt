use Rattle.abstract_debugger.proofs.FrontLemmas as lemmas
use Rattle.abstract_debugger.proofs.laws.turns_keep_on.Goals as goal

pub returns : goal.returns
returns c = lemmas.turns_keep_on
