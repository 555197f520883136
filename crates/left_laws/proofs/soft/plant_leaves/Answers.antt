use Rattle.left_laws.proofs.SoftLemmas as lemmas
use Rattle.left_laws.proofs.soft.plant_leaves.Goals as goal

pub returns : goal.returns
returns c = lemmas.plant_leaves
