use Rattle.rv_model.proofs.ExampleLemmas as lemmas
use Rattle.rv_model.proofs.examples.writes_keep_their_bits.Goals as goal

pub returns : goal.returns
returns c = lemmas.writes_keep_their_bits
