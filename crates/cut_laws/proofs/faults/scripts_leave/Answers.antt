use Rattle.cut_laws.proofs.ScriptLemmas as lemmas
use Rattle.cut_laws.proofs.faults.scripts_leave.Goals as goal

pub returns : goal.returns
returns c = lemmas.scripts_leave
