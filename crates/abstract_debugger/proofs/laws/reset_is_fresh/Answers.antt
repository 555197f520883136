use Rattle.abstract_debugger.proofs.ScriptLemmas as lemmas
use Rattle.abstract_debugger.proofs.laws.reset_is_fresh.Goals as goal

pub returns : goal.returns
returns c = lemmas.reset_is_fresh
