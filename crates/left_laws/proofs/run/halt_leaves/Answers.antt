use Rattle.left_laws.proofs.RunLemmas as lemmas
use Rattle.left_laws.proofs.run.halt_leaves.Goals as goal

pub returns : goal.returns
returns c = lemmas.halt_leaves
