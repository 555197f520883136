use Rattle.rv_model.proofs.ExampleLemmas as lemmas
use Rattle.rv_model.proofs.examples.counter_counts.Goals as goal

pub returns : goal.returns
returns c = lemmas.counter_counts
