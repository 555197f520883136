use Rattle.cut_laws.proofs.FaultLemmas as lemmas
use Rattle.cut_laws.proofs.faults.faults_leave.Goals as goal

pub returns-clause-calls : goal.returns-clause-calls
returns-clause-calls c = lemmas.faults_leave

pub returns-clause-commands : goal.returns-clause-commands
returns-clause-commands c = lemmas.commands_leave
