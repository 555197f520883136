use Rattle.cut_laws.proofs.FaultLemmas as lemmas
use Rattle.cut_laws.proofs.ScriptLemmas as scripts
use Rattle.cut_laws.proofs.faults.undebugged_but.Goals as goal

pub returns-clause-boards : goal.returns-clause-boards
returns-clause-boards c = lemmas.undebugged_but

pub returns-clause-loaded : goal.returns-clause-loaded
returns-clause-loaded c = scripts.loaded_are_undebugged
