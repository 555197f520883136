use Rattle.left_laws.proofs.RegisterLemmas as lemmas
use Rattle.left_laws.proofs.registers.set_reg_leaves.Goals as goal

pub returns : goal.returns
returns c = lemmas.set_reg_leaves
