use Rattle.left_laws.proofs.RegisterLemmas as lemmas
use Rattle.left_laws.proofs.registers.reg_leaves.Goals as goal

pub returns-clause-any : goal.returns-clause-any
returns-clause-any c = lemmas.reg_leaves

pub returns-clause-held : goal.returns-clause-held
returns-clause-held c = lemmas.held_reg_leaves

pub returns-clause-dcsr : goal.returns-clause-dcsr
returns-clause-dcsr c = lemmas.read_dcsr_leaves
