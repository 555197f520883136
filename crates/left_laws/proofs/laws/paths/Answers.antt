use Rattle.left_laws.proofs.PathLemmas as lemmas
use Rattle.left_laws.proofs.UndebuggedLemmas as undebugged
use Rattle.left_laws.proofs.laws.paths.Goals as goal

pub returns-clause-journals : goal.returns-clause-journals
returns-clause-journals c = lemmas.paths_are_journals

pub returns-clause-undebugged : goal.returns-clause-undebugged
returns-clause-undebugged c = undebugged.paths_are_undebugged

pub returns-clause-halted : goal.returns-clause-halted
returns-clause-halted c = lemmas.halted_stay
