use Rattle.cut_laws.proofs.RunLemmas as lemmas
use Rattle.cut_laws.proofs.run.run_cut.Goals as goal

pub returns-clause-halting : goal.returns-clause-halting
returns-clause-halting c = lemmas.halting_cut

pub returns-clause-resuming : goal.returns-clause-resuming
returns-clause-resuming c = lemmas.resuming_cut
