use Rattle.rv_model.proofs.TurnLemmas as lemmas
use Rattle.rv_model.proofs.turn_laws.turn_forgets_debugging.Goals as goal

pub returns : goal.returns
returns c = lemmas.turn_forgets_debugging
