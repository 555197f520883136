use Rattle.chip_laws.proofs.TapLemmas as lemmas
use Rattle.chip_laws.proofs.tap_laws.trst_resets.Goals as goal

pub returns : goal.returns
returns c = lemmas.trst_resets
