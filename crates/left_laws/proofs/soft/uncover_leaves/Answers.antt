use Rattle.left_laws.proofs.SoftLemmas as lemmas
use Rattle.left_laws.proofs.soft.uncover_leaves.Goals as goal

pub returns : goal.returns
returns c = lemmas.uncover_leaves
