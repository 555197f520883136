use Rattle.chip_laws.proofs.TapLemmas as lemmas
use Rattle.chip_laws.proofs.tap_laws.columns_agree.Goals as goal

pub returns : goal.returns
returns c = lemmas.columns_agree
