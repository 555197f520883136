use Rattle.chip_laws.proofs.StreamLemmas as lemmas
use Rattle.chip_laws.proofs.stream_laws.ended_chips_take_nothing.Goals as goal

pub returns : goal.returns
returns c = lemmas.takes_nothing
