use Rattle.chip_laws.proofs.TransportLemmas as lemmas
use Rattle.chip_laws.proofs.transport_laws.failed_operations_are_unseen.Goals as goal

pub returns : goal.returns
returns c = lemmas.fails_unseen
