use Rattle.rv_model.proofs.ExampleLemmas as lemmas
use Rattle.rv_model.proofs.examples.sc_fails_after_store.Goals as goal

pub returns : goal.returns
returns c = lemmas.sc_fails_after_store
