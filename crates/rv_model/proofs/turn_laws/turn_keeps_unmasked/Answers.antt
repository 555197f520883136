use Rattle.rv_model.proofs.TurnLemmas as lemmas
use Rattle.rv_model.proofs.turn_laws.turn_keeps_unmasked.Goals as goal

pub returns-clause-reset : goal.returns-clause-reset
returns-clause-reset c = lemmas.reset_boards_are_unmasked

pub returns-clause-turn : goal.returns-clause-turn
returns-clause-turn c = lemmas.turn_keeps_unmasked
