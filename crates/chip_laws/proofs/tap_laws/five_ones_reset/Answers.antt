use Rattle.chip_laws.proofs.TapLemmas as lemmas
use Rattle.chip_laws.proofs.tap_laws.five_ones_reset.Goals as goal

pub returns : goal.returns
returns c = lemmas.ones_reset
