use Rattle.left_laws.proofs.RunLemmas as lemmas
use Rattle.left_laws.proofs.run.run_one_leaves.Goals as goal

pub returns : goal.returns
returns c = lemmas.run_one_leaves
