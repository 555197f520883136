use Rattle.cut_laws.proofs.StepLemmas as lemmas
use Rattle.cut_laws.proofs.step.steps_cut.Goals as goal

pub returns-clause-stepping_over : goal.returns-clause-stepping_over
returns-clause-stepping_over c = lemmas.stepping_over_cut

pub returns-clause-stepping : goal.returns-clause-stepping
returns-clause-stepping c = lemmas.stepping_cut

pub returns-clause-stepping_from : goal.returns-clause-stepping_from
returns-clause-stepping_from c = lemmas.stepping_from_cut
