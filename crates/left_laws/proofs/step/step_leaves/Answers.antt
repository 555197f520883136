use Rattle.left_laws.proofs.StepLemmas as lemmas
use Rattle.left_laws.proofs.step.step_leaves.Goals as goal

pub returns : goal.returns
returns c = lemmas.step_leaves
