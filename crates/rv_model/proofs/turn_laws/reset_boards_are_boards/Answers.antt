use Rattle.rv_model.proofs.WholeBoards as lemmas
use Rattle.rv_model.proofs.turn_laws.reset_boards_are_boards.Goals as goal

pub returns : goal.returns
returns c = lemmas.reset_boards_are_boards
