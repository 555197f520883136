use Rattle.rv_model.proofs.ExampleLemmas as lemmas
use Rattle.rv_model.proofs.examples.interrupt_examples.Goals as goal

pub returns : goal.returns
returns c = lemmas.interrupt_examples
