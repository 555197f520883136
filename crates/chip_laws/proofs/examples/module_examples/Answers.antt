use Rattle.chip_laws.proofs.ExampleLemmas as lemmas
use Rattle.chip_laws.proofs.examples.module_examples.Goals as goal

pub returns : goal.returns
returns c = lemmas.module_examples
