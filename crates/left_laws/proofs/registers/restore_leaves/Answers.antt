use Rattle.left_laws.proofs.RegisterLemmas as lemmas
use Rattle.left_laws.proofs.registers.restore_leaves.Goals as goal

pub returns : goal.returns
returns c = lemmas.restore_leaves
