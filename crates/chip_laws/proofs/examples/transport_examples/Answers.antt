use Rattle.chip_laws.proofs.ExampleLemmas as lemmas
use Rattle.chip_laws.proofs.examples.transport_examples.Goals as goal

pub returns : goal.returns
returns c = lemmas.transport_examples
