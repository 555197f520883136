use Rattle.abstract_debugger.proofs.FrozenLemmas as lemmas
use Rattle.abstract_debugger.proofs.laws.frozen_may_wait.Goals as goal

pub returns-clause-any : goal.returns-clause-any
returns-clause-any c = lemmas.frozen_may_wait

pub returns-clause-plans : goal.returns-clause-plans
returns-clause-plans c = lemmas.changes_may_wait
