use Rattle.chip_laws.proofs.ExampleLemmas as lemmas
use Rattle.chip_laws.proofs.examples.word_examples.Goals as goal

pub returns : goal.returns
returns c = lemmas.word_examples
