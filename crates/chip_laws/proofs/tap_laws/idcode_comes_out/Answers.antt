use Rattle.chip_laws.proofs.TapLemmas as lemmas
use Rattle.chip_laws.proofs.tap_laws.idcode_comes_out.Goals as goal

pub returns : goal.returns
returns c = lemmas.idcode_out
