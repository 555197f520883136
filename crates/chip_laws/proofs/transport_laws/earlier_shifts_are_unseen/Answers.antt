use Rattle.chip_laws.proofs.TransportLemmas as lemmas
use Rattle.chip_laws.proofs.transport_laws.earlier_shifts_are_unseen.Goals as goal

pub returns : goal.returns
returns c = lemmas.shift_unseen
