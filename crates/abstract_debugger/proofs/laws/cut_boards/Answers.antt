use Rattle.abstract_debugger.proofs.CutLemmas as lemmas
use Rattle.abstract_debugger.proofs.laws.cut_boards.Goals as goal

pub returns : goal.returns
returns c = lemmas.cut_boards
