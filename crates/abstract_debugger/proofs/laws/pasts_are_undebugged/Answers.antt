use Rattle.abstract_debugger.proofs.Transparency as lemmas
use Rattle.abstract_debugger.proofs.laws.pasts_are_undebugged.Goals as goal

pub returns : goal.returns
returns c = lemmas.pasts_are_undebugged
