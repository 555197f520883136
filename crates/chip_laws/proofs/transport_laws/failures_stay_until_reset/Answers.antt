use Rattle.chip_laws.proofs.TransportLemmas as lemmas
use Rattle.chip_laws.proofs.transport_laws.failures_stay_until_reset.Goals as goal

pub returns : goal.returns
returns c = lemmas.stays_failed
