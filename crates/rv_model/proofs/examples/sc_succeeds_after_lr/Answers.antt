use Rattle.rv_model.proofs.ExampleLemmas as lemmas
use Rattle.rv_model.proofs.examples.sc_succeeds_after_lr.Goals as goal

pub returns : goal.returns
returns c = lemmas.sc_succeeds_after_lr
