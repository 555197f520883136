use Rattle.left_laws.proofs.SlotLemmas as lemmas
use Rattle.left_laws.proofs.slots.disarm_leaves.Goals as goal

pub returns : goal.returns
returns c = lemmas.disarm_leaves
