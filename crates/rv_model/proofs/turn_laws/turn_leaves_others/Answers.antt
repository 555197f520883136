use Rattle.rv_model.proofs.TurnLemmas as lemmas
use Rattle.rv_model.proofs.turn_laws.turn_leaves_others.Goals as goal

pub returns : goal.returns
returns c = lemmas.turn_leaves_others
