use Rattle.left_laws.proofs.SoftLemmas as lemmas
use Rattle.left_laws.proofs.soft.cover_leaves.Goals as goal

pub returns : goal.returns
returns c = lemmas.cover_leaves
