use Rattle.abstract_debugger.proofs.AccessLemmas as lemmas
use Rattle.abstract_debugger.proofs.examples.accesses_happen.Goals as goal

pub returns : goal.returns
returns c = lemmas.accesses_happen
