use Rattle.abstract_debugger.proofs.FrontLemmas as lemmas
use Rattle.abstract_debugger.proofs.laws.lines_grow.Goals as goal

pub returns : goal.returns
returns c = lemmas.lines_grow
