use Rattle.rv_model.proofs.WholeBoards as lemmas
use Rattle.rv_model.proofs.turn_laws.turn_keeps_board.Goals as goal

pub returns : goal.returns
returns c = lemmas.turn_keeps_board
