use Rattle.left_laws.proofs.SoftLemmas as lemmas
use Rattle.left_laws.proofs.soft.unplant_leaves.Goals as goal

pub returns : goal.returns
returns c = lemmas.unplant_leaves
