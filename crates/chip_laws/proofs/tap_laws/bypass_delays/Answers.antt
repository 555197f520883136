use Rattle.chip_laws.proofs.TapLemmas as lemmas
use Rattle.chip_laws.proofs.tap_laws.bypass_delays.Goals as goal

pub returns : goal.returns
returns c = lemmas.bypass_delays
