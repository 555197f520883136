use Rattle.left_laws.proofs.LossLemmas as lemmas
use Rattle.left_laws.proofs.laws.losses.Goals as goal

pub returns-clause-nothing : goal.returns-clause-nothing
returns-clause-nothing c = lemmas.nothing_is_lost

pub returns-clause-core : goal.returns-clause-core
returns-clause-core c = lemmas.one_core_is_lost

pub returns-clause-scratch : goal.returns-clause-scratch
returns-clause-scratch c = lemmas.scratch_is_lost

pub returns-clause-forgets : goal.returns-clause-forgets
returns-clause-forgets c = lemmas.wiped_forgets

pub returns-clause-forgets_scratch : goal.returns-clause-forgets_scratch
returns-clause-forgets_scratch c = lemmas.scratch_forgets
