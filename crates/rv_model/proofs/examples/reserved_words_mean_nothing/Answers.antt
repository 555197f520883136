use Rattle.rv_model.proofs.ExampleLemmas as lemmas
use Rattle.rv_model.proofs.examples.reserved_words_mean_nothing.Goals as goal

pub returns : goal.returns
returns c = lemmas.reserved_words_mean_nothing
