use Rattle.rv_model.proofs.ExampleLemmas as lemmas
use Rattle.rv_model.proofs.examples.divisions.Goals as goal

pub returns : goal.returns
returns c = lemmas.divisions
