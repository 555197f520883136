use Rattle.rv_model.proofs.BoardLemmas as lemmas
use Rattle.rv_model.proofs.laws.interrupts_are_taken.Goals as goal

pub returns : goal.returns
returns c = lemmas.interrupts_are_taken
