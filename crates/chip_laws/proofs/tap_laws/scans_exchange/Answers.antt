use Rattle.chip_laws.proofs.TapLemmas as lemmas
use Rattle.chip_laws.proofs.tap_laws.scans_exchange.Goals as goal

pub returns : goal.returns
returns c = lemmas.exchanges
