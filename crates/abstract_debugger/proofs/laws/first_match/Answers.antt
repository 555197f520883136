use Rattle.abstract_debugger.proofs.ScriptLemmas as lemmas
use Rattle.abstract_debugger.proofs.laws.first_match.Goals as goal

pub returns-clause-holds : goal.returns-clause-holds
returns-clause-holds c = lemmas.first_match

pub returns-clause-each : goal.returns-clause-each
returns-clause-each c = lemmas.each_note_is_right
