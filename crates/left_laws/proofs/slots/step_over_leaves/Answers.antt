use Rattle.left_laws.proofs.OverLemmas as lemmas
use Rattle.left_laws.proofs.slots.step_over_leaves.Goals as goal

pub returns : goal.returns
returns c = lemmas.step_over_leaves
