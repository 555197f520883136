use Rattle.left_laws.proofs.OverLemmas as lemmas
use Rattle.left_laws.proofs.slots.let_go_leaves.Goals as goal

pub returns : goal.returns
returns c = lemmas.let_go_leaves
