use Rattle.abstract_debugger.proofs.ExampleLemmas as lemmas
use Rattle.abstract_debugger.proofs.examples.losses_happen.Goals as goal

pub returns : goal.returns
returns c = lemmas.losses_happen
