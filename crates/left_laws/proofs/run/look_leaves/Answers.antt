use Rattle.left_laws.proofs.RunLemmas as lemmas
use Rattle.left_laws.proofs.run.look_leaves.Goals as goal

pub returns : goal.returns
returns c = lemmas.look_leaves
