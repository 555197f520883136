use Rattle.left_laws.proofs.SlotLemmas as lemmas
use Rattle.left_laws.proofs.slots.forget_hits_leaves.Goals as goal

pub returns : goal.returns
returns c = lemmas.forget_hits_leaves
