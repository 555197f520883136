use Rattle.chip_laws.proofs.StreamLemmas as lemmas
use Rattle.chip_laws.proofs.stream_laws.pieces_join.Goals as goal

pub returns : goal.returns
returns c = lemmas.pieces_join
