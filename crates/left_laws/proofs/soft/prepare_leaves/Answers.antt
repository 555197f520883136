use Rattle.left_laws.proofs.PrepareLemmas as lemmas
use Rattle.left_laws.proofs.soft.prepare_leaves.Goals as goal

pub returns : goal.returns
returns c = lemmas.prepare_leaves
