use Rattle.soft_laws.proofs.SoftExampleLemmas as lemmas
use Rattle.soft_laws.proofs.examples.soft_examples_happen.Goals as goal

pub returns : goal.returns
returns c = lemmas.soft_examples_happen
