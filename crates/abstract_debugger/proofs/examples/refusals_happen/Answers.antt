use Rattle.abstract_debugger.proofs.ExampleLemmas as lemmas
use Rattle.abstract_debugger.proofs.examples.refusals_happen.Goals as goal

pub returns : goal.returns
returns c = lemmas.refusals_happen
